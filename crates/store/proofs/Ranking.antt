-- How to show that rows rise: by ranks of places. Assumes nothing.
use Prim.Native.Nat.{ℕ, zero, suc, ◌≤◌, ◌<◌}
use mathlib.Core.Path.{◌≡◌, refl, sym, ap, ◌∙◌}
use mathlib.Core.Logic.{◌⊎◌, inl, inr, ⊎_elim}
use mathlib.Core.List.{List, [], ◌∷◌, ◌++◌}
use native.Mathlib.Omega.{arith}
use Rattle.numbers.specs.Lists.{tabulate, In}
use Rattle.numbers.proofs.Equations.{tabulate_zero, tabulate_suc}
use Rattle.numbers.proofs.MemberLaws.{in_append}
use Rattle.numbers.proofs.TransposedLaws.{in_tabulate}
use Rattle.store.specs.Space.{Space}
use Rattle.store.specs.Plan.{Rules, Rising, Climbing}
use Rattle.store.proofs.PlanLaws.{in_stands}

-- rows by their rank, and by their number among the rows of that rank
module _ {A : Type 0} (rank number : A → ℕ) where
  abbrev pub Before : A → A → Type 0
  Before r q = (rank r < rank q) ⊎ ((rank r ≡ rank q) × (number r < number q))

  abbrev pub Ordered : List A → Type 0
  Ordered [] = Unit {0}
  Ordered (r ∷ rs) = ((q : A) → In q rs → Before r q) × Ordered rs

  pub ordered_append : (rs qs : List A) → Ordered rs → Ordered qs → ((r q : A) → In r rs → In q qs → Before r q) → Ordered (rs ++ qs)
  ordered_append [] qs o k h = k
  ordered_append (r ∷ rs) qs o k h =
      ((λ q i. ⊎_elim (λ j. o.0 q j) (λ j. h r q (inl refl) j) (in_append q rs qs i)), ordered_append rs qs o.1 k (λ a b i j. h a b (inr i) j))

  pub ordered_tabulate : (f : ℕ → A) (n c k : ℕ) → ((j : ℕ) → rank (f j) ≡ n) → ((j : ℕ) → number (f j) ≡ j) → Ordered (tabulate f c k)
  ordered_tabulate f n zero k e g = rw (tabulate_zero f k) tt
  ordered_tabulate f n (suc c) k e g =
      rw (tabulate_suc f c k) (
        (λ q i. let h = in_tabulate f c (suc k) q i in
            let a : rank q ≡ rank (f k) = ap rank h.3 ∙ e h.0 ∙ sym (e k) in
            let b : number q ≡ h.0 = ap number h.3 ∙ g h.0 in
            let d = g k in
            inr (sym a, omega arith)),
        ordered_tabulate f n c (suc k) e g,
      )

-- each place has the rank and the number of the row that writes it, and a row reads only places of lower rank
pub record Ranked (X : Space) (R : Rules X) : Type 0 where
  pub rank : X.P → ℕ
  pub number : X.P → ℕ
  pub row_rank : R.Row → ℕ
  pub row_number_lem : R.Row → ℕ
  pub stands : (r : R.Row) → In r R.full → (p : X.P) → In p (R.writes r) → (rank p ≡ row_rank r) × (number p ≡ row_number_lem r)
  pub below : (r : R.Row) → In r R.full → (p : X.P) → In p (R.reads r) → rank p < row_rank r
  pub order : Ordered row_rank row_number_lem R.full

module _ {X : Space} {R : Rules X} (K : Ranked X R) where
  rising_part : (rs : List R.Row) → ((r : R.Row) → In r rs → In r R.full) → Ordered K.row_rank K.row_number_lem rs → Rising R rs
  rising_part [] sub o = tt
  rising_part (r ∷ rs) sub o = (
    (λ p i m. ⊎_elim
        (λ j. let a = K.stands r (sub r (inl refl)) p j in let b = K.below r (sub r (inl refl)) p i in omega arith)
        (λ n. let t = in_stands R rs p n in
        let a = K.stands t.0 (sub t.0 (inr t.1)) p t.2 in
        let b = K.below r (sub r (inl refl)) p i in
        ⊎_elim (λ l. omega arith) (λ l. omega arith) (o.0 t.0 t.1)) m),
    (λ p i m. let t = in_stands R rs p m in
        let a = K.stands t.0 (sub t.0 (inr t.1)) p t.2 in
        let b = K.stands r (sub r (inl refl)) p i in
        ⊎_elim (λ l. omega arith) (λ l. omega arith) (o.0 t.0 t.1)),
    rising_part rs (λ q i. sub q (inr i)) o.1,
  )

  pub ranked_rising : Rising R R.full
  ranked_rising = rising_part R.full (λ r i. i) K.order

  -- where the level of a row goes up with its rank, the levels do not fall
  climbing_part : ((r q : R.Row) → K.row_rank r ≤ K.row_rank q → R.level r ≤ R.level q) → (rs : List R.Row) → Ordered K.row_rank K.row_number_lem rs → Climbing R rs
  climbing_part h [] o = tt
  climbing_part h (r ∷ rs) o = ((λ q i. h r q (⊎_elim (λ l. omega arith) (λ l. omega arith) (o.0 q i))), climbing_part h rs o.1)

  pub ranked_climbing : ((r q : R.Row) → K.row_rank r ≤ K.row_rank q → R.level r ≤ R.level q) → Climbing R R.full
  ranked_climbing h = climbing_part h R.full K.order
