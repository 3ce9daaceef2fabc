-- `operators::rediscretized::coarse_step` meets its contract.
-- Assumes nothing.
use Rattle.lattice.proofs.GridLaws.{n_most}
use Rattle.lattice.proofs.RowLaws.{small_float}
use native.Mathlib.Omega.{arith}
use Rattle.operators.proofs.RediscretizedLaws.{step_is}
use Rattle.operators.proofs.rediscretized.coarse_step.Goals as goal

pub int_to_float-result : goal.int_to_float-result
int_to_float-result c = small_float _ (omega (arith, n_most c.requires.0 c.args.axis))

pub int_to_float-result-2 : goal.int_to_float-result-2
int_to_float-result-2 c = small_float _ c.requires.1

pub returns : goal.returns
returns c = step_is _ _ _ c.n-cells.ensures c.step.ensures
