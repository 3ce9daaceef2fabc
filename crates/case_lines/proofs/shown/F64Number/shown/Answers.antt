use Rattle.std.proofs.Common.{◌≡◌, true, false, not, T, sym, ◌∙◌, subst, refl}
use lib.Ieee.{Float, is_nan}
use Rattle.numbers.specs.Complex.{finite_double}
use Rattle.numbers.proofs.Laws.{finite_is, float_finite}
use Rattle.case_lines.proofs.shown.F64Number.shown.Goals as goal

-- a finite double is a number
no_nan : (x : Float) → finite_double x ≡ true → T (not (is_nan x))
unfolding is_nan
no_nan x h = let f = finite_is x h in subst (λ (y : Float). T (not (is_nan y))) (sym f.3) tt

pub returns-then-is_finite : goal.returns-then-is_finite
returns-then-is_finite c = let h : finite_double c.args.self ≡ true = sym (c.is_finite.ensures.value ∙ float_finite _) ∙ c.if-is_finite.true in rw h refl

pub returns : goal.returns
returns c = let h : finite_double c.args.self ≡ false = sym (c.is_finite.ensures.value ∙ float_finite _) ∙ c.if-is_finite.false in rw h refl

pub float_to_bits-result : goal.float_to_bits-result
float_to_bits-result c = no_nan c.args.self (sym (c.is_finite.ensures.value ∙ float_finite _) ∙ c.if-is_finite.true)
