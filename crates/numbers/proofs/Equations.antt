-- The definitions of this layer as equations, by cases: what a layer above cites where no law says more. A definition that changes behind its name changes here.
-- Assumes nothing.
use Prim.Native.Nat.{◌*◌, ◌+◌, ◌-◌, ◌/◌, suc, zero, ℕ}
use mathlib.Core.Bool.{◌&&◌, cond, false, true}
use mathlib.Core.List.{List, [], ◌++◌, ◌∷◌}
use mathlib.Core.Path.{◌≡◌, refl}
use lib.Dec.{eqb, ltb}
use lib.Ieee.{Float, nan}
use lib.ListN.{get_or, length}
use Rattle.numbers.specs.Collect.{at_first, collected, inserted, summed_at}
use Rattle.numbers.specs.Complex.{add_f, difference, finite, mul_f, squares, sub_f, sum}
use Rattle.numbers.specs.Lists.{all_finite, before, contains, each, laid_by, read_from, rows, start_of, starts_of, summed, tabulate}
use Rattle.numbers.specs.Places.{number_at, places}
use Rattle.numbers.specs.Terms.{Term, columns_of, numbers_of, stored_row, terms_in}
use Rattle.numbers.specs.declared.C64.{C64}

-- ---- Collect

pub inserted_nil : (first : (C64 → C64)) (t : Term) → inserted first t [] ≡ (record { column = t.column; number = first t.number } ∷ [])
unfolding inserted
inserted_nil first t = refl

pub collected_nil : (first : (C64 → C64)) (row : List Term) → collected first row [] ≡ row
unfolding collected
collected_nil first row = refl

pub collected_cons : (first : (C64 → C64)) (row : List Term) (t : Term) (ts : List Term) → collected first row (t ∷ ts) ≡ collected first (inserted first t row) ts
unfolding collected
collected_cons first row t ts = refl

pub at_first_is : (v : C64) → at_first v ≡ v
unfolding at_first
at_first_is v = refl

pub summed_at_nil : (d : ℕ) (s : C64) → summed_at d s [] ≡ s
unfolding summed_at
summed_at_nil d s = refl

pub summed_at_cons : (d : ℕ) (s : C64) (t : Term) (ts : List Term) → summed_at d s (t ∷ ts) ≡ summed_at d (cond (eqb t.column d) (sum s t.number) s) ts
unfolding summed_at
summed_at_cons d s t ts = refl

-- ---- Complex

pub difference_is : (x : C64) (y : C64) → difference x y ≡ record { re = sub_f x.re y.re; im = sub_f x.im y.im }
unfolding difference
difference_is x y = refl

pub squares_is : (y : C64) → squares y ≡ add_f (mul_f y.re y.re) (mul_f y.im y.im)
unfolding squares
squares_is y = refl

-- ---- Lists

pub tabulate_zero : {A : Type 0} (f : (ℕ → A)) (k : ℕ) → tabulate f zero k ≡ []
unfolding tabulate
tabulate_zero f k = refl

pub tabulate_suc : {A : Type 0} (f : (ℕ → A)) (n : ℕ) (k : ℕ) → tabulate f (suc n) k ≡ (f k ∷ tabulate f n (suc k))
unfolding tabulate
tabulate_suc f n k = refl

pub each_nil : {A B : Type 0} (f : (A → List B)) → each f [] ≡ []
unfolding each
each_nil f = refl

pub each_cons : {A B : Type 0} (f : (A → List B)) (x : A) (xs : List A) → each f (x ∷ xs) ≡ (f x ++ each f xs)
unfolding each
each_cons f x xs = refl

pub rows_zero : {A : Type 0} (f : (ℕ → List A)) → rows f zero ≡ []
unfolding rows
rows_zero f = refl

pub rows_suc : {A : Type 0} (f : (ℕ → List A)) (n : ℕ) → rows f (suc n) ≡ (rows f n ++ f n)
unfolding rows
rows_suc f n = refl

pub laid_by_nil : {L A : Type 0} (put : (L → ℕ → A → L)) (xs : L) (k : ℕ) → laid_by put xs k [] ≡ xs
unfolding laid_by
laid_by_nil put xs k = refl

pub laid_by_cons : {L A : Type 0} (put : (L → ℕ → A → L)) (xs : L) (k : ℕ) (v : A) (vs : List A) → laid_by put xs k (v ∷ vs) ≡ laid_by put (put xs k v) (suc k) vs
unfolding laid_by
laid_by_cons put xs k v vs = refl

pub all_finite_nil : all_finite [] ≡ true
unfolding all_finite
all_finite_nil = refl

pub all_finite_cons : (v : C64) (vs : List C64) → all_finite (v ∷ vs) ≡ (finite v && all_finite vs)
unfolding all_finite
all_finite_cons v vs = refl

pub start_of_is : {A : Type 0} (row : (ℕ → List A)) (r : ℕ) → start_of row r ≡ length (rows row r)
unfolding start_of
start_of_is row r = refl

pub starts_of_is : {A : Type 0} (row : (ℕ → List A)) (n : ℕ) → starts_of row n ≡ tabulate (start_of row) (n + 1) 0
unfolding starts_of
starts_of_is row n = refl

pub contains_nil : (c : ℕ) → contains c [] ≡ false
unfolding contains
contains_nil c = refl

pub before_nil : (e : ℕ) → before e [] ≡ 0
unfolding before
before_nil e = refl

pub before_cons : (e : ℕ) (f : ℕ) (fs : List ℕ) → before e (f ∷ fs) ≡ cond (ltb f e) (suc (before e fs)) 0
unfolding before
before_cons e f fs = refl

pub read_from_is : (xs : List Float) (from : ℕ) (r : ℕ) → read_from xs from r ≡ number_at xs (from + r)
unfolding read_from
read_from_is xs from r = refl

pub summed_nil : (f : (ℕ → C64)) (s : C64) → summed f s [] ≡ s
unfolding summed
summed_nil f s = refl

pub summed_cons : (f : (ℕ → C64)) (s : C64) (c : ℕ) (cs : List ℕ) → summed f s (c ∷ cs) ≡ summed f (sum s (f c)) cs
unfolding summed
summed_cons f s c cs = refl

-- ---- Places

pub places_is : (xs : List Float) → places xs ≡ length xs / 2
unfolding places
places_is xs = refl

pub number_at_is : (xs : List Float) (k : ℕ) → number_at xs k ≡ record { re = get_or xs (2 * k) nan; im = get_or xs (2 * k + 1) nan }
unfolding number_at
number_at_is xs k = refl

-- ---- Terms

pub columns_of_nil : columns_of [] ≡ []
unfolding columns_of
columns_of_nil = refl

pub columns_of_cons : (t : Term) (ts : List Term) → columns_of (t ∷ ts) ≡ (t.column ∷ columns_of ts)
unfolding columns_of
columns_of_cons t ts = refl

pub numbers_of_nil : numbers_of [] ≡ []
unfolding numbers_of
numbers_of_nil = refl

pub numbers_of_cons : (t : Term) (ts : List Term) → numbers_of (t ∷ ts) ≡ (t.number ∷ numbers_of ts)
unfolding numbers_of
numbers_of_cons t ts = refl

pub terms_in_zero : (cs : List ℕ) (xs : List Float) (k : ℕ) → terms_in cs xs k zero ≡ []
unfolding terms_in
terms_in_zero cs xs k = refl

pub terms_in_suc : (cs : List ℕ) (xs : List Float) (k : ℕ) (n : ℕ) → terms_in cs xs k (suc n) ≡ (record { column = get_or cs k 0; number = number_at xs k } ∷ terms_in cs xs (suc k) n)
unfolding terms_in
terms_in_suc cs xs k n = refl

pub stored_row_is : (starts : List ℕ) (s : ℕ) (cs : List ℕ) (xs : List Float) (k : ℕ) (r : ℕ) → stored_row starts s cs xs k r ≡ terms_in cs xs (k + get_or starts (s + r) 0) (get_or starts (s + r + 1) 0 - get_or starts (s + r) 0)
unfolding stored_row
stored_row_is starts s cs xs k r = refl
