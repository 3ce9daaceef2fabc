-- Refusal 7 looks at shares too, and a store keeps only their inverses. That is enough: a share that is not finite has no finite inverse.
-- Assumes nothing.
use Prim.Native.Nat.{ℕ, zero, suc, ◌<◌}
use native.Mathlib.Omega.{arith}
use mathlib.Core.Path.{◌≡◌, refl, sym, ap, ◌∙◌}
use mathlib.Core.Bool.{Bool, true, false, ◌&&◌}
use mathlib.Core.List.{List}
use Rattle.numbers.specs.declared.C64.{C64}
use Rattle.numbers.specs.Complex.{finite}
use Rattle.numbers.specs.Lists.{In}
use Rattle.numbers.specs.Terms.{Term, columns_of}
use Rattle.operators.specs.Volumes.{share_of, inverse_of, inverse_share, share_finite, shares_finite}
use Rattle.operators.proofs.VolumeLaws.{inverse_local}
use Rattle.numbers.proofs.TransposedLaws.{mem_in}
use Rattle.numbers.proofs.ElementLaws.{over_not_finite, not_finite_not_zero}

-- a number that is not finite has no finite inverse
pub inverse_not_finite : (x : C64) → finite x ≡ false → finite (inverse_of x) ≡ false
unfolding inverse_of
inverse_not_finite x h = rw (not_finite_not_zero x h) (over_not_finite x h)

-- so the test of a share and its inverse is that of the inverse alone
pub share_fine : (R : ℕ → List Term) (v : ℕ → C64) (c : ℕ) → share_finite R v c ≡ finite (inverse_share R v c)
unfolding share_finite inverse_share
share_fine R v c = go (finite (share_of R v c)) refl
  where
    go : (b : Bool) → finite (share_of R v c) ≡ b → (finite (share_of R v c) && finite (inverse_of (share_of R v c))) ≡ finite (inverse_of (share_of R v c))
    go true e = rw e
    go false e = rw (e, inverse_not_finite (share_of R v c) e)

-- rows and volumes that agree have the same shares
pub shares_local : (R R' : ℕ → List Term) (v w : ℕ → C64) (n : ℕ) → ((c : ℕ) → c < n → R c ≡ R' c)
    → ((c d : ℕ) → c < n → In d (columns_of (R c)) → v d ≡ w d) → shares_finite R v n ≡ shares_finite R' w n
unfolding shares_finite
shares_local R R' v w zero h k = refl
shares_local R R' v w (suc n) h k =
    let one : share_finite R v n ≡ share_finite R' w n =
    share_fine R v n ∙ ap finite (inverse_local R R' v w n (h n (omega arith)) (λ d i. k n d (omega arith) (mem_in i))) ∙ sym (share_fine R' w n) in
    let rest = shares_local R R' v w n (λ c b. h c (omega arith)) (λ c d b. k c d (omega arith)) in
    λ i. rest i && one i
