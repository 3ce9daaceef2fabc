-- `store::handed::operator_row` meets its contract: a row that is found fits the columns.
-- Assumes nothing.
use mathlib.Core.Path.{sym, ◌∙◌}
use native.Mathlib.Omega.{arith}
use Rattle.store.proofs.HandedLaws.{operator_handed, operator_fits}
use Rattle.store.proofs.handed.operator_row.Goals as goal

pub returns-in_default : goal.returns-in_default
returns-in_default c = operator_handed _ _ _ _ _ (sym c.operator_terms.ensures ∙ c.in_default.is)

pub offset_bounds-columns-i : goal.offset_bounds-columns-i
offset_bounds-columns-i c = omega (arith, operator_fits _ _ _ _ _ (sym c.operator_terms.ensures ∙ c.in-Some.is))

pub slice_bounds-result-count-2 : goal.slice_bounds-result-count-2
slice_bounds-result-count-2 c = omega (arith, operator_fits _ _ _ _ _ (sym c.operator_terms.ensures ∙ c.in-Some.is))

pub slice_bounds-result-start-2 : goal.slice_bounds-result-start-2
slice_bounds-result-start-2 c = omega (arith, operator_fits _ _ _ _ _ (sym c.operator_terms.ensures ∙ c.in-Some.is))

pub slice_bounds-result-end-2 : goal.slice_bounds-result-end-2
slice_bounds-result-end-2 c = omega (arith, operator_fits _ _ _ _ _ (sym c.operator_terms.ensures ∙ c.in-Some.is))

pub returns : goal.returns
returns c = operator_handed _ _ _ _ _ (sym c.operator_terms.ensures ∙ c.in-Some.is)
