-- `renew::parts::first_standing` meets its contract.
-- Assumes nothing.
use Rattle.store.specs.Hierarchy.{the_lattice}
use Rattle.store.proofs.LevelParts.{standing_first}
use Rattle.renew.proofs.parts.first_standing.Goals as goal

pub returns : goal.returns
returns c = standing_first (the_lattice c.args.h.now) c.args.choice c.args.h.now.m c.requires c.first_offsets-o.ensures c.chain_length-to.ensures
