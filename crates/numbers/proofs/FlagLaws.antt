-- Flagged positions: of lists one behind another, of tabulated ones, by members, and the loop that looks for one.
-- Assumes nothing.
use Prim.Native.Nat.{ℕ, zero, suc, ◌+◌, ◌-◌, ◌<◌, ◌≤◌}
use mathlib.Core.Path.{◌≡◌, refl, sym, ap, ◌∙◌}
use mathlib.Core.Logic.{◌⊎◌, inl, inr, ◌↔◌}
use mathlib.Core.Bool.{Bool, true, false, false≢true, ◌||◌, or_assoc, or-false}
use mathlib.Core.List.{List, [], ◌∷◌, ◌++◌}
use native.Mathlib.Omega.{arith}
use lib.ListN.{get_or}
use Rattle.std.proofs.lemmas.Bool.{or_cases, or_left, or_right}
use Rattle.numbers.specs.Lists.{In, tabulate, each, any_flag}
use Rattle.numbers.proofs.Laws.{or_true, or_false}

pub any_flag_nil : (fs : List Bool) → any_flag fs [] ≡ false
unfolding any_flag
any_flag_nil fs = refl

pub any_flag_cons : (fs : List Bool) (c : ℕ) (cs : List ℕ) → any_flag fs (c ∷ cs) ≡ (get_or fs c false || any_flag fs cs)
unfolding any_flag
any_flag_cons fs c cs = refl

-- ---- of one, of two behind one another, of what each element gives, of tabulated positions

pub any_flag_one : (fs : List Bool) (c : ℕ) → any_flag fs (c ∷ []) ≡ get_or fs c false
unfolding any_flag
any_flag_one fs c = or-false (get_or fs c false)

pub any_flag_append : (fs : List Bool) (cs ds : List ℕ) → any_flag fs (cs ++ ds) ≡ (any_flag fs cs || any_flag fs ds)
unfolding any_flag
any_flag_append fs [] ds = refl
any_flag_append fs (c ∷ cs) ds = rw (any_flag_append fs cs ds) (sym (or_assoc (get_or fs c false) (any_flag fs cs) (any_flag fs ds)))

-- one of the elements gives a flagged position
unfoldable pub any_gives : {A : Type 0} → List Bool → (A → List ℕ) → List A → Bool
any_gives fs f [] = false
any_gives fs f (x ∷ xs) = any_flag fs (f x) || any_gives fs f xs

pub any_flag_each : {A : Type 0} (fs : List Bool) (f : A → List ℕ) (xs : List A) → any_flag fs (each f xs) ≡ any_gives fs f xs
unfolding any_flag each any_gives
any_flag_each fs f [] = refl
any_flag_each fs f (x ∷ xs) = any_flag_append fs (f x) (each f xs) ∙ ap (λ (b : Bool). any_flag fs (f x) || b) (any_flag_each fs f xs)

module _ (fs : List Bool) (f : ℕ → ℕ) where
  pub any_flag_tabulate_zero : (k : ℕ) → any_flag fs (tabulate f zero k) ≡ false
  unfolding tabulate any_flag
  any_flag_tabulate_zero k = refl

  pub any_flag_tabulate_suc : (n k : ℕ) → any_flag fs (tabulate f (suc n) k) ≡ (get_or fs (f k) false || any_flag fs (tabulate f n (suc k)))
  unfolding tabulate any_flag
  any_flag_tabulate_suc n k = refl

-- ---- some member is flagged

pub record Flagged (fs : List Bool) (cs : List ℕ) : Type 0 where
  pub place : ℕ
  pub there : In place cs
  pub flag : get_or fs place false ≡ true

pub flagged_any : (fs : List Bool) (cs : List ℕ) (c : ℕ) → In c cs → get_or fs c false ≡ true → any_flag fs cs ≡ true
unfolding any_flag
flagged_any fs [] c x'' h = elim x'' [ ]
flagged_any fs (d ∷ ds) c (inl e) h = or_left _ (any_flag fs ds) (rw e at h)
flagged_any fs (d ∷ ds) c (inr i) h = or_right (get_or fs d false) _ (flagged_any fs ds c i h)

pub any_flagged : (fs : List Bool) (cs : List ℕ) → any_flag fs cs ≡ true → Flagged fs cs
unfolding any_flag
any_flagged fs [] h = absurd (false≢true h)
any_flagged fs (d ∷ ds) h = go (any_flagged fs ds) (or_cases (get_or fs d false) (any_flag fs ds) h)
  where
    go : (any_flag fs ds ≡ true → Flagged fs ds) → (get_or fs d false ≡ true) ⊎ (any_flag fs ds ≡ true) → Flagged fs (d ∷ ds)
    go ih (inl e) = record { place = d; there = inl refl; flag = e }
    go ih (inr e) = let g = ih e in record { place = g.place; there = inr g.there; flag = g.flag }

pub any_flag_members : (fs : List Bool) (cs : List ℕ) → (any_flag fs cs ≡ true) ↔ Flagged fs cs
any_flag_members fs cs = (any_flagged fs cs, λ g. flagged_any fs cs g.place g.there g.flag)

-- it is enough to know the flags of the members
pub any_flag_agree : (fs gs : List Bool) (cs : List ℕ) → ((c : ℕ) → In c cs → get_or fs c false ≡ get_or gs c false) → any_flag fs cs ≡ any_flag gs cs
unfolding any_flag
any_flag_agree fs gs [] h = refl
any_flag_agree fs gs (c ∷ cs) h = λ i. h c (inl refl) i || any_flag_agree fs gs cs (λ d j. h d (inr j)) i

-- ---- a loop over positions, f first, f (first + 1), .., m of n seen

pub record Unflagged (fs : List Bool) (f : ℕ → ℕ) (k n m : ℕ) : Type 0 where
  pub high : m ≤ n
  pub same : any_flag fs (tabulate f (n - m) (k + m)) ≡ any_flag fs (tabulate f n k)

seen_next : (fs : List Bool) (f : ℕ → ℕ) (k n m : ℕ) → m < n
    → any_flag fs (tabulate f (n - m) (k + m)) ≡ (get_or fs (f (k + m)) false || any_flag fs (tabulate f (n - (m + 1)) (k + (m + 1))))
seen_next fs f k n m h =
    let e : n - m ≡ suc (n - (m + 1)) = omega arith in
    let d : k + (m + 1) ≡ suc (k + m) = omega arith in
    rw (e, d) (any_flag_tabulate_suc fs f (n - (m + 1)) (k + m))

module _ {fs : List Bool} {f : ℕ → ℕ} {k n : ℕ} where
  pub unflagged_start : Unflagged fs f k n 0
  unflagged_start =
      let e : k + 0 ≡ k = omega arith in
      let d : n - 0 ≡ n = omega arith in
      record { high = omega arith; same = λ i. any_flag fs (tabulate f (d i) (e i)) }

  pub unflagged_turn : {m : ℕ} → Unflagged fs f k n m → m < n → get_or fs (f (k + m)) false ≡ false → Unflagged fs f k n (m + 1)
  unflagged_turn {m} p h e = record { high = omega arith; same = sym (seen_next fs f k n m h ∙ or_false _ _ e) ∙ p.same }

  pub unflagged_stop : {m : ℕ} → Unflagged fs f k n m → m < n → get_or fs (f (k + m)) false ≡ true → true ≡ any_flag fs (tabulate f n k)
  unflagged_stop {m} p h e = sym (seen_next fs f k n m h ∙ or_true _ _ e ∙ e) ∙ p.same

  pub unflagged_end : {m : ℕ} → Unflagged fs f k n m → n ≤ m → false ≡ any_flag fs (tabulate f n k)
  unflagged_end {m} p h =
      let e : n - m ≡ 0 = omega arith in
      sym (any_flag_tabulate_zero fs f (k + m)) ∙ (rw e at p.same)
