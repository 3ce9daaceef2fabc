-- `operators::base::place_after` meets its contract.
-- Assumes nothing.
use Rattle.operators.proofs.BasePlaces.{after_near, after_last}
use Rattle.operators.proofs.base.place_after.Goals as goal

pub returns-then-i-n : goal.returns-then-i-n
returns-then-i-n c = after_near _ _ c.if-i-n.true

pub returns : goal.returns
returns c = after_last _ _ c.if-i-n.false
