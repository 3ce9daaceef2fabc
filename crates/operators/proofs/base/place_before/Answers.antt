-- `operators::base::place_before` meets its contract.
-- Assumes nothing.
use native.Mathlib.Omega.{arith}
use Rattle.operators.proofs.BasePlaces.{before_near, before_first}
use Rattle.operators.proofs.base.place_before.Goals as goal

pub returns-then-i-gt0 : goal.returns-then-i-gt0
returns-then-i-gt0 c = before_near _ _ c.if-i-gt0.true

pub returns : goal.returns
returns c = before_first _ _ _ c.if-i-gt0.false (omega arith)
