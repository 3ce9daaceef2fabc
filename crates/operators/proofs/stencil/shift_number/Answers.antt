-- `operators::stencil::shift_number` meets its contract.
-- Assumes nothing.
use Rattle.operators.specs.Stencil.{shift_number}
use Rattle.operators.proofs.stencil.shift_number.Goals as goal

pub returns : goal.returns
unfolding shift_number
returns c = rw (← c.get.ensures) c.mul.ensures
