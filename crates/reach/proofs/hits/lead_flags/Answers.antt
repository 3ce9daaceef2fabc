-- `reach::hits::lead_flags` meets its contract.
-- Assumes nothing.
use Rattle.store.proofs.HitLaws.{rows_there, leads_first, leads_room, leads_stored}
use Rattle.reach.proofs.hits.lead_flags.Goals as goal

pub first_flags-requires : goal.first_flags-requires
first_flags-requires c = leads_room _ _ c.args.out.now c.if-level-eq0.true c.requires.n_value.0 c.requires.n_value.1

pub returns-then-level-eq0 : goal.returns-then-level-eq0
returns-then-level-eq0 c = leads_first _ _ c.if-level-eq0.true c.requires.n_value.0 c.first_flags.ensures

pub stored_flags-requires-clause-rows_there : goal.stored_flags-requires-clause-rows_there
stored_flags-requires-clause-rows_there c = rows_there c.requires.n_value.0 (c.requires.operator_held.held c.if-level-eq0.false)

pub stored_flags-requires-clause-n_in_bounds : goal.stored_flags-requires-clause-n_in_bounds
stored_flags-requires-clause-n_in_bounds c = c.requires.n_value.1

pub returns : goal.returns
returns c = leads_stored _ _ c.if-level-eq0.false c.requires.n_value.0 c.requires.operator_held c.stored_flags.ensures
