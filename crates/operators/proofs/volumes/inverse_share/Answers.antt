-- `operators::volumes::inverse_share` meets its contract.
-- Assumes nothing.
use mathlib.Core.Path.{ap, ◌∙◌}
use Rattle.numbers.specs.Places.{set_number}
use Rattle.operators.proofs.VolumeLaws.{inverse_is, finite_both, finite_first}
use Rattle.operators.proofs.volumes.inverse_share.Goals as goal

pub returns-then-is_finite-clause-scaling_after : goal.returns-then-is_finite-clause-scaling_after
returns-then-is_finite-clause-scaling_after c = c.put.ensures ∙ ap (set_number _ _) (inverse_is _ _ _ c.share_at-v.ensures c.inverse-w.ensures)

pub returns-then-is_finite-clause-value : goal.returns-then-is_finite-clause-value
returns-then-is_finite-clause-value c = finite_both _ _ _ c.share_at-v.ensures c.inverse-w.ensures c.is_finite.ensures c.if-is_finite.true c.is_finite-then-is_finite.ensures

pub returns-else-is_finite-clause-scaling_after : goal.returns-else-is_finite-clause-scaling_after
returns-else-is_finite-clause-scaling_after c = c.put.ensures ∙ ap (set_number _ _) (inverse_is _ _ _ c.share_at-v.ensures c.inverse-w.ensures)

pub returns-else-is_finite-clause-value : goal.returns-else-is_finite-clause-value
returns-else-is_finite-clause-value c = finite_first _ _ _ c.share_at-v.ensures c.inverse-w.ensures c.is_finite.ensures c.if-is_finite.false
