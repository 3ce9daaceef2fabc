-- Parts one behind another in a list: how long they are in all, where each stands, and what is laid part by part.
-- Assumes nothing.
use Prim.Native.Nat.{ℕ, zero, suc, ◌+◌, ◌-◌, ◌*◌, ◌≤◌, ◌<◌}
use mathlib.Core.Path.{◌≡◌, refl, sym, ap, ◌∙◌}
use mathlib.Core.Bool.{Bool, true, false, cond}
use mathlib.Core.List.{List, [], ◌++◌, append-nil, append_assoc}
use native.Mathlib.Omega.{arith}
use native.Mathlib.Decide.{dec_lt}
use lib.ListN.{length, get_or}
use lib.Ieee.{Float}
use Rattle.numbers.specs.declared.C64.{C64}
use Rattle.numbers.specs.Places.{number_at}
use Rattle.numbers.specs.Lists.{rows, laid_by, laid, laid_numbers, start_of, starts_of, sum_to}
use Rattle.numbers.specs.Terms.{Term, columns_of, numbers_of}
use Rattle.numbers.proofs.EachLaws.{length_columns, length_numbers}
use Rattle.numbers.proofs.Equations.{rows_zero, rows_suc, laid_by_nil, start_of_is, starts_of_is}
use Rattle.numbers.proofs.ListLaws.{laid_at, laid_numbers_at, laid_behind_laid, rows_at}
use Rattle.numbers.proofs.SumLaws.{sum_to_zero, sum_to_suc, sum_agree, sum_append, start_sum}
use Rattle.numbers.proofs.TabulateLaws.{length_tabulate, tabulate_at_0}
use Rattle.numbers.proofs.TransposedLaws.{start_same}
use Rattle.numbers.proofs.Tutorial.{number_place}

-- ---- sums

pub sum_rise : (g : ℕ → ℕ) (r n : ℕ) → r ≤ n → sum_to g r ≤ sum_to g n
sum_rise g r n h = let e : r + (n - r) ≡ n = omega arith in omega (arith, ap (sum_to g) e, sum_append g r (n - r))

-- part L lies within m parts
pub part_room : (g : ℕ → ℕ) (L m : ℕ) → L < m → sum_to g L + g L ≤ sum_to g m
part_room g L m h = omega (arith, sum_rise g (suc L) m h, sum_to_suc g L)

-- the first part, and those behind it
pub sum_first : (g : ℕ → ℕ) (n : ℕ) → sum_to g (suc n) ≡ g 0 + sum_to (λ i. g (suc i)) n
sum_first g zero = omega (arith, sum_to_suc g 0, sum_to_zero g, sum_to_zero (λ i. g (suc i)))
sum_first g (suc n) = omega (arith, sum_first g n, sum_to_suc g (suc n), sum_to_suc (λ i. g (suc i)) n)

-- the part of a place
pub part_of_lem : (g : ℕ → ℕ) (m q : ℕ) → q < sum_to g m → (L : ℕ) × (j : ℕ) × (L < m) × (j < g L) × (q ≡ sum_to g L + j)
part_of_lem g zero q h = absurd (omega (arith, sum_to_zero g))
part_of_lem g (suc m) q h =
    elim (dec_lt q (sum_to g m)) as (λ _. (L : ℕ) × (j : ℕ) × (L < suc m) × (j < g L) × (q ≡ sum_to g L + j)) [
      | yes b ↦ let t = part_of_lem g m q b in (t.0, t.1, omega (arith, t.2), t.3, t.4)
      | no b ↦ (m, q - sum_to g m, omega arith, omega (arith, sum_to_suc g m), omega arith)
    ]

-- ---- rows as a part: their starts, columns and numbers

pub cols_long : {A : Type 0} (cols : ℕ → List A) (n : ℕ) → length (rows cols n) ≡ start_of cols n
cols_long cols n = sym (start_of_is cols n)

pub starts_long : {A : Type 0} (row : ℕ → List A) (n : ℕ) → length (starts_of row n) ≡ n + 1
starts_long row n = ap length (starts_of_is row n) ∙ length_tabulate (start_of row) (n + 1) 0

pub starts_at : {A : Type 0} (row : ℕ → List A) (n r : ℕ) → r ≤ n → get_or (starts_of row n) r 0 ≡ start_of row r
starts_at row n r h = ap (λ (ss : List ℕ). get_or ss r 0) (starts_of_is row n) ∙ tabulate_at_0 (start_of row) (n + 1) r 0 (omega arith)

-- the row of a number
pub row_of : {A : Type 0} (cols : ℕ → List A) (n q : ℕ) → q < start_of cols n → (r : ℕ) × (j : ℕ) × (r < n) × (j < length (cols r)) × (q ≡ start_of cols r + j)
row_of cols n q h = let t = part_of_lem (λ r. length (cols r)) n q (omega (arith, start_sum cols n)) in (t.0, t.1, t.2, t.3, t.4 ∙ ap (λ (a : ℕ). a + t.1) (sym (start_sum cols t.0)))

-- rows whose columns are known: where they begin, how many numbers they have, and number j of row r
module _ (row : ℕ → List Term) (cols : ℕ → List ℕ) (h : (r : ℕ) → columns_of (row r) ≡ cols r) (n : ℕ) where
  pub same_start : start_of row n ≡ start_of cols n
  same_start = start_same row cols n (λ r b. h r) n (omega arith)

  pub numbers_count : length (numbers_of (rows row n)) ≡ start_of cols n
  numbers_count = length_numbers (rows row n) ∙ cols_long row n ∙ same_start

pub row_number : (row : ℕ → List Term) (cols : ℕ → List ℕ) → ((r : ℕ) → columns_of (row r) ≡ cols r) → (n r j : ℕ) (d : C64) → r < n → j < length (cols r)
    → get_or (numbers_of (rows row n)) (start_of cols r + j) d ≡ get_or (numbers_of (row r)) j d
row_number row cols h n r j d b i =
    number_place row n r j (start_of cols r + j) (omega (arith, same_start row cols h r)) b (omega (arith, length_columns (row r), ap length (h r))) d

-- ---- parts f 0, f 1, .. of lengths g 0, g 1, ..

-- one that may be left out
pub part_long : {A : Type 0} (b : Bool) (xs : List A) (n : ℕ) → length xs ≡ n → length (cond b [] xs) ≡ cond b 0 n
part_long true xs n h = refl
part_long false xs n h = h

module _ {A : Type 0} (f : ℕ → List A) (g : ℕ → ℕ) (h : (i : ℕ) → length (f i) ≡ g i) where
  -- how long n parts are
  pub rows_sum : (n : ℕ) → length (rows f n) ≡ sum_to g n
  rows_sum n = cols_long f n ∙ start_sum f n ∙ sum_agree (λ i. length (f i)) g n (λ i b. h i)

  -- element j of part L
  pub rows_part : (m L j : ℕ) (d : A) → L < m → j < g L → get_or (rows f m) (sum_to g L + j) d ≡ get_or (f L) j d
  rows_part m L j d a b = rw (sym (rows_sum L)) (rows_at f m L j d a (omega (arith, h L)))

  -- it stands within all
  pub part_low : (m L j : ℕ) → L < m → j < g L → sum_to g L + j < length (rows f m)
  part_low m L j a b = omega (arith, rows_sum m, part_room g L m a)

-- in a list of words
pub part_at_lem : (f : ℕ → List ℕ) (g : ℕ → ℕ) → ((i : ℕ) → length (f i) ≡ g i) → (xs : List ℕ) (m : ℕ) → sum_to g m ≤ length xs → (L j : ℕ) → L < m → j < g L
    → get_or (laid xs 0 (rows f m)) (sum_to g L + j) 0 ≡ get_or (f L) j 0
part_at_lem f g h xs m room L j a b =
    let z : 0 + (sum_to g L + j) ≡ sum_to g L + j = omega arith in
    (rw z at (laid_at xs 0 (rows f m) (sum_to g L + j) (part_low f g h m L j a b) (omega (arith, rows_sum f g h m)))) ∙ rows_part f g h m L j 0 a b

-- in a list of numbers, here by its place i, behind place k
pub part_number : (f : ℕ → List C64) (g : ℕ → ℕ) → ((i : ℕ) → length (f i) ≡ g i) → (xs : List Float) (k m : ℕ) → 2 * (k + sum_to g m) ≤ length xs → (L j i : ℕ) (d : C64)
    → i ≡ k + (sum_to g L + j) → L < m → j < g L → number_at (laid_numbers xs k (rows f m)) i ≡ get_or (f L) j d
part_number f g h xs k m room L j i d e a b =
    rw e (laid_numbers_at xs k (rows f m) (sum_to g L + j) d (part_low f g h m L j a b) (omega (arith, rows_sum f g h m)) ∙ rows_part f g h m L j d a b)

-- ---- parts laid one behind another

-- those of m parts that stand behind the first L
abbrev pub parts_from : {A : Type 0} → (ℕ → List A) → ℕ → ℕ → List A
parts_from f L m = rows (λ i. f (L + i)) (m - L)

-- m rows, and n more behind them
pub rows_append : {A : Type 0} (f : ℕ → List A) (m n : ℕ) → rows f (m + n) ≡ rows f m ++ rows (λ i. f (m + i)) n
rows_append {A} f m zero =
    let e : m + 0 ≡ m = omega arith in
    ap (rows f) e ∙ sym (ap (λ (xs : List A). rows f m ++ xs) (rows_zero (λ i. f (m + i))) ∙ append-nil (rows f m))
rows_append {A} f m (suc n) =
    let e : m + suc n ≡ suc (m + n) = omega arith in
    ap (rows f) e ∙ rows_suc f (m + n)
    ∙ ap (λ (xs : List A). xs ++ f (m + n)) (rows_append f m n)
    ∙ append_assoc (rows f m) (rows (λ i. f (m + i)) n) (f (m + n))
    ∙ ap (λ (xs : List A). rows f m ++ xs) (sym (rows_suc (λ i. f (m + i)) n))

module _ {K A : Type 0} (put : K → ℕ → A → K) (xs : K) (f : ℕ → List A) where
  -- no part yet
  pub laid_zero : (k : ℕ) → xs ≡ laid_by put xs k (rows f 0)
  laid_zero k = sym (ap (laid_by put xs k) (rows_zero f) ∙ laid_by_nil put xs k)

  -- one part more, at place j
  pub laid_next : (k n j : ℕ) → j ≡ k + length (rows f n) → laid_by put (laid_by put xs k (rows f n)) j (f n) ≡ laid_by put xs k (rows f (suc n))
  laid_next k n j e = sym (ap (laid_by put xs k) (rows_suc f n) ∙ laid_behind_laid put xs k (rows f n) (f n) j e)

  -- from the front of a list on, g L in part L
  module _ (g : ℕ → ℕ) (long : (i : ℕ) → length (f i) ≡ g i) where
    pub laid_part : (L : ℕ) {ys zs : K} → ys ≡ laid_by put xs 0 (rows f L) → zs ≡ laid_by put ys (sum_to g L) (f L) → zs ≡ laid_by put xs 0 (rows f (suc L))
    laid_part L p q = q ∙ ap (λ (ys : K). laid_by put ys (sum_to g L) (f L)) p ∙ laid_next 0 L (sum_to g L) (omega (arith, rows_sum f g long L))

    -- all parts, as the first L and those behind
    pub laid_split : (L m : ℕ) → L ≤ m → laid_by put xs 0 (rows f m) ≡ laid_by put (laid_by put xs 0 (rows f L)) (sum_to g L) (parts_from f L m)
    laid_split L m h =
        let e : m ≡ L + (m - L) = omega arith in
        ap (λ (n : ℕ). laid_by put xs 0 (rows f n)) e ∙ ap (laid_by put xs 0) (rows_append f L (m - L))
        ∙ laid_behind_laid put xs 0 (rows f L) (parts_from f L m) (sum_to g L) (omega (arith, rows_sum f g long L))
