-- `store::relations::next_relations` meets its contract.
-- Assumes nothing.
use Rattle.store.proofs.NeedLaws.{relations_next}
use Rattle.store.proofs.relations.next_relations.Goals as goal

pub returns : goal.returns
returns c = relations_next _ c.args.h.now.l.limits c.pair.ensures c.requires.relations c.relations_below.ensures
