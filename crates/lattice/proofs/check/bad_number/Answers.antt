-- `lattice::check::bad_number` meets its contract: `||` by the way taken.
-- Assumes nothing.
use mathlib.Core.Bool.{not}
use mathlib.Core.Path.{sym, ◌∙◌, ap}
use Rattle.lattice.specs.Check.{bad_number}
use Rattle.numbers.proofs.Laws.{or_true, or_false}
use Rattle.lattice.proofs.check.bad_number.Goals as goal

pub returns-then-not-is_finite : goal.returns-then-not-is_finite
unfolding bad_number
returns-then-not-is_finite c =
    let e = ap not c.is_finite.ensures in e ∙ sym (or_true _ _ (sym e ∙ (ap not c.if-not-is_finite.true)))

pub returns-else-not-is_finite : goal.returns-else-not-is_finite
unfolding bad_number
returns-else-not-is_finite c =
    c.is_zero.ensures ∙ sym (or_false _ _ (sym (ap not c.is_finite.ensures) ∙ (ap not c.if-not-is_finite.false)))
