-- `store::handed::transfer_row` meets its contract.
-- Assumes nothing.
use mathlib.Core.Path.{sym, ◌∙◌}
use Rattle.store.proofs.HandedLaws.{transfer_past, transfer_none, transfer_there}
use Rattle.store.proofs.handed.transfer_row.Goals as goal

pub returns-then-level-ge11 : goal.returns-then-level-ge11
returns-then-level-ge11 c = transfer_past _ _ _ _ _ _ c.if-level-ge11.true

pub returns-then-not-levels_there : goal.returns-then-not-levels_there
returns-then-not-levels_there c = transfer_none _ _ _ _ _ _ (sym c.levels_there.ensures ∙ c.if-not-levels_there.true)

pub returns : goal.returns
returns c = c.row_at.ensures ∙ transfer_there _ _ _ _ _ _ (sym c.levels_there.ensures ∙ c.if-not-levels_there.false)
