use mathlib.Core.Path.{sym, ◌∙◌}
use Rattle.numbers.proofs.Laws.{and_true, and_false}
use Rattle.numbers.specs.Complex.{finite}
use Rattle.numbers.proofs.Laws.{float_finite}
use Rattle.numbers.proofs.C64.is_finite.Goals as goal

pub returns-then-is_finite : goal.returns-then-is_finite
unfolding finite
returns-then-is_finite c =
    c.is_finite-then-is_finite.ensures.value ∙ (float_finite c.args.self.im
    ∙ sym (and_true _ _ (sym (float_finite c.args.self.re) ∙ (sym c.is_finite.ensures.value ∙ c.if-is_finite.true))))

pub returns-else-is_finite : goal.returns-else-is_finite
unfolding finite
returns-else-is_finite c =
    c.is_finite.ensures.value ∙ (float_finite c.args.self.re
    ∙ sym (and_false _ _ (sym (float_finite c.args.self.re) ∙ (sym c.is_finite.ensures.value ∙ c.if-is_finite.false))))
