-- `operators::rediscretized::unit` meets its contract.
-- Assumes nothing.
use Rattle.operators.proofs.RediscretizedLaws.{unit_is}
use Rattle.operators.proofs.rediscretized.unit.Goals as goal

pub returns : goal.returns
returns c = unit_is _ _ _ c.step.ensures c.coarse_step.ensures
