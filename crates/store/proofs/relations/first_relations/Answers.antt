-- `store::relations::first_relations` meets its contract.
-- Assumes nothing.
use Rattle.store.proofs.NeedLaws.{relations_first}
use Rattle.store.proofs.relations.first_relations.Goals as goal

pub returns : goal.returns
returns c = relations_first _ c.args.l.now.limits c.base_relations.ensures
