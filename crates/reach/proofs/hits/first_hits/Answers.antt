-- `reach::hits::first_hits` meets its contract.
-- Assumes nothing.
use Rattle.lattice.specs.Sound.{full}
use Rattle.store.proofs.HitLaws.{edge_room, first_room, first_hits}
use Rattle.reach.proofs.hits.first_hits.Goals as goal

pub raise-requires : goal.raise-requires
raise-requires c = edge_room _ c.args.l.now.limits c.args.edge c.requires

pub first_operator-requires : goal.first_operator-requires
first_operator-requires c = first_room (full c.args.l.now) c.args.l.now.limits

pub returns : goal.returns
returns c = first_hits _ c.args.l.now.limits c.args.edge c.requires c.raise.ensures _ _ c.first_operator.ensures
