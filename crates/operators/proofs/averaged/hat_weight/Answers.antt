-- `operators::averaged::hat_weight` meets its contract.
-- Assumes nothing.
use native.Mathlib.Omega.{arith}
use Rattle.lattice.proofs.LevelLaws.{in_double}
use Rattle.weights.proofs.Equations.{whole_is}
use Rattle.operators.specs.Averaged.{hat_weight}
use Rattle.operators.proofs.averaged.hat_weight.Goals as goal

pub int_to_float-result : goal.int_to_float-result
int_to_float-result c = in_double _ (omega arith)

pub int_to_float-result-2 : goal.int_to_float-result-2
int_to_float-result-2 c = in_double _ (omega arith)

pub returns : goal.returns
unfolding hat_weight
returns c = rw (whole_is, whole_is)
