-- `store::handed::weight_terms` meets its contract.
-- Assumes nothing.
use mathlib.Core.Path.{◌∙◌}
use Rattle.store.proofs.HandedLaws.{terms_turned, terms_forward}
use Rattle.store.proofs.handed.weight_terms.Goals as goal

pub returns-then-turned : goal.returns-then-turned
returns-then-turned c = c.transfer_row.ensures ∙ terms_turned _ _ _ _ _ _ _ _ c.if-turned.true

pub returns : goal.returns
returns c = c.transfer_row-2.ensures ∙ terms_forward _ _ _ _ _ _ _ _ c.if-turned.false
