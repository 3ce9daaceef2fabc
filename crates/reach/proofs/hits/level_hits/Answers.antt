-- `reach::hits::level_hits` meets its contract.
-- Assumes nothing.
use Rattle.store.proofs.HitLaws.{level_raised}
use Rattle.reach.proofs.hits.level_hits.Goals as goal

pub operator_hits-requires-clause-hits_long : goal.operator_hits-requires-clause-hits_long
operator_hits-requires-clause-hits_long c = c.transfer_hits.ensures.long

pub operator_hits-requires-clause-rows_held : goal.operator_hits-requires-clause-rows_held
operator_hits-requires-clause-rows_held c = c.requires.transfer_held.turned_held

pub returns : goal.returns
returns c = level_raised c.transfer_hits.ensures c.operator_hits.ensures
