-- `store::handed::operator_terms` meets its contract.
-- Assumes nothing.
use mathlib.Core.Path.{sym, ◌∙◌}
use native.Mathlib.Omega.{arith}
use Rattle.store.proofs.HandedLaws.{operator_first, operator_past, operator_missing, operator_there}
use Rattle.store.proofs.handed.operator_terms.Goals as goal

pub returns-in_err-part : goal.returns-in_err-part
returns-in_err-part c = rw c.from_residual.ensures (operator_first _ _ _ _ _ (omega (arith, c.first_stored-first.ensures, c.in_err-part.ensures)))

pub returns-then-level-ge12 : goal.returns-then-level-ge12
returns-then-level-ge12 c = operator_past _ _ _ _ _ c.if-level-ge12.true

pub returns-then-not-levels_there : goal.returns-then-not-levels_there
returns-then-not-levels_there c = operator_missing _ _ _ _ _ (sym c.levels_there.ensures ∙ c.if-not-levels_there.true)

pub returns : goal.returns
returns c =
    c.row_at.ensures ∙ (rw c.in_ok-part.ensures.1 (operator_there _ _ _ _ _ c.first_stored-first.ensures c.in_ok-part.ensures.0 (sym c.levels_there.ensures ∙ c.if-not-levels_there.false)))
