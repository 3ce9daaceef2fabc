use mathlib.Core.Path.{sym}
use Rattle.numbers.proofs.Laws.{and_true, and_false}
use Rattle.numbers.specs.Complex.{is_zero}
use Rattle.numbers.proofs.C64.is_zero.Goals as goal

pub returns-then-self : goal.returns-then-self
unfolding is_zero
returns-then-self c = sym (and_true _ _ c.if-self.true)

pub returns-else-self : goal.returns-else-self
unfolding is_zero
returns-else-self c = sym (and_false _ _ c.if-self.false)
