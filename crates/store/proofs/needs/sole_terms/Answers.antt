-- `store::needs::sole_terms` meets its contract.
-- Assumes nothing.
use Rattle.store.proofs.NeedLaws.{sole_terms}
use Rattle.store.proofs.needs.sole_terms.Goals as goal

pub returns-clause-value : goal.returns-clause-value
returns-clause-value c = (sole_terms _ c.args.l.now.limits c.base_relations-u.ensures c.level_count.ensures).0

pub returns-clause-value_2 : goal.returns-clause-value_2
returns-clause-value_2 c = (sole_terms _ c.args.l.now.limits c.base_relations-u.ensures c.level_count.ensures).1
