-- Laws of the numbers' definitions: membership at a list's end, values laid over a list, and where a row begins.
-- Assumes nothing.
use Prim.Native.Nat.{ℕ, suc, ◌*◌, ◌<◌, ◌≤◌}
use mathlib.Core.Path.{◌≡◌, refl, sym, ap, ◌∙◌}
use mathlib.Core.Bool.{Bool, true, false, ◌&&◌, ◌||◌, or_assoc, or-false}
use mathlib.Core.List.{List, [], ◌∷◌, ◌++◌}
use native.Mathlib.Decide.{ℕ_discrete}
use borrow.Author.Tests.{eq-eqb, ne_eqb}
use lib.Dec.{eqb}
use lib.ListN.{length, set}
use lib.Seq.{sets}
use Rattle.numbers.specs.Lists.{laid, laid_by, contains, start_of}
use Rattle.numbers.proofs.ListLaws.{rows_most}

-- ---- membership

pub eqb_turned : (i j : ℕ) → eqb i j ≡ eqb j i
eqb_turned i j = go (ℕ_discrete i j)
  where
    go : Dec (i ≡ j) → eqb i j ≡ eqb j i
    go (yes e) = eq-eqb i j e ∙ sym (eq-eqb j i (sym e))
    go (no e) = ne_eqb i j e ∙ sym (ne_eqb j i (λ p. e (sym p)))

pub contains_last : (j v : ℕ) (xs : List ℕ) → contains j (xs ++ (v ∷ [])) ≡ (contains j xs || eqb j v)
unfolding contains
contains_last j v [] = or-false (eqb v j) ∙ eqb_turned v j
contains_last j v (x ∷ xs) = rw (contains_last j v xs) (sym (or_assoc (eqb x j) (contains j xs) (eqb j v)))

-- ---- the two ways to lay a list over another are one

pub sets_laid : (xs : List ℕ) (k : ℕ) (vs : List ℕ) → sets xs k vs ≡ laid xs k vs
unfolding laid_by
sets_laid xs k [] = refl
sets_laid xs k (v ∷ vs) = sets_laid (set xs k v) (suc k) vs

-- ---- where a row begins

module _ {A : Type 0} (row : ℕ → List A) where
  pub start_most : (b n : ℕ) → ((r : ℕ) → r < n → length (row r) ≤ b) → start_of row n ≤ b * n
  unfolding start_of
  start_most b n h = rows_most row b n h

-- ---- a flag that comes by way of `&&`: its first test fails, or holds and leaves the second

pub and_first : {v : Bool} (t s : Bool) → v ≡ false → v ≡ t → v ≡ (t && s)
and_first t s h e = h ∙ sym (ap (λ (b : Bool). b && s) (sym e ∙ h))

pub and_next : {v r : Bool} (t s : Bool) → v ≡ true → v ≡ t → r ≡ s → r ≡ (t && s)
and_next t s h e f = f ∙ sym (ap (λ (b : Bool). b && s) (sym e ∙ h))
