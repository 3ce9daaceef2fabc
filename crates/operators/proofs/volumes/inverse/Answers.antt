-- `operators::volumes::inverse` meets its contract.
-- Assumes nothing.
use Rattle.operators.proofs.VolumeLaws.{inverse_none, inverse_some}
use Rattle.operators.proofs.volumes.inverse.Goals as goal

pub returns-then-is_zero : goal.returns-then-is_zero
returns-then-is_zero c = inverse_none _ c.is_zero.ensures c.if-is_zero.true c.one.ensures

pub returns : goal.returns
returns c = inverse_some _ c.is_zero.ensures c.if-is_zero.false c.div.ensures
