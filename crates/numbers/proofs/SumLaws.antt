-- Sums of whole numbers: by cases, of equal terms, of a multiple, of one range behind another and of ranges of the same length, products of sums; how
-- long rows are in all; and the loop that adds.
-- Assumes nothing.
use Prim.Native.Nat.{ℕ, zero, suc, ◌+◌, ◌*◌, ◌<◌, ◌≤◌}
use mathlib.Core.Path.{◌≡◌, refl, sym, ap, ◌∙◌}
use mathlib.Core.List.{List}
use native.Mathlib.Omega.{arith}
use native.Mathlib.Numerals.{add-one}
use native.Mathlib.Nat.{mul-suc, mul-zero, zero-mul, suc-mul, mul-add, add-mul}
use lib.ListN.{length}
use Rattle.numbers.specs.Lists.{rows, start_of, sum_to}
use Rattle.numbers.proofs.ListLaws.{rows_length}

pub sum_to_zero : (f : ℕ → ℕ) → sum_to f zero ≡ 0
unfolding sum_to
sum_to_zero f = refl

pub sum_to_suc : (f : ℕ → ℕ) (n : ℕ) → sum_to f (suc n) ≡ sum_to f n + f n
unfolding sum_to
sum_to_suc f n = refl

pub sum_agree : (f g : ℕ → ℕ) (n : ℕ) → ((i : ℕ) → i < n → f i ≡ g i) → sum_to f n ≡ sum_to g n
unfolding sum_to
sum_agree f g zero h = refl
sum_agree f g (suc n) h = λ i. sum_agree f g n (λ m b. h m (omega arith)) i + h n (omega arith) i

-- at most b in each
pub sum_most : (f : ℕ → ℕ) (b n : ℕ) → ((i : ℕ) → i < n → f i ≤ b) → sum_to f n ≤ b * n
unfolding sum_to
sum_most f b zero h = omega arith
sum_most f b (suc n) h = omega (arith, sum_most f b n (λ m o. h m (omega arith)), h n (omega arith), mul-suc b n)

-- ---- multiples

pub sum_times : (k : ℕ) (f : ℕ → ℕ) (n : ℕ) → sum_to (λ i. k * f i) n ≡ k * sum_to f n
unfolding sum_to
sum_times k f zero = sym (mul-zero k)
sum_times k f (suc n) = omega (arith, sum_times k f n, mul-add k (sum_to f n) (f n))

pub times_sum : (k : ℕ) (f : ℕ → ℕ) (n : ℕ) → sum_to (λ i. f i * k) n ≡ sum_to f n * k
unfolding sum_to
times_sum k f zero = sym (zero-mul k)
times_sum k f (suc n) = omega (arith, times_sum k f n, add-mul (sum_to f n) (f n) k)

-- the sum over three places of a product is the product of the three sums
pub sum_product : (x y z : ℕ → ℕ) (a b c : ℕ) → sum_to (λ k. sum_to (λ j. sum_to (λ i. x i * y j * z k) a) b) c ≡ sum_to x a * sum_to y b * sum_to z c
sum_product x y z a b c =
    sum_agree (λ k. sum_to (λ j. sum_to (λ i. x i * y j * z k) a) b) (λ k. sum_to x a * sum_to y b * z k) c
    (λ k h.
    sum_agree (λ j. sum_to (λ i. x i * y j * z k) a) (λ j. sum_to x a * y j * z k) b
    (λ j l. times_sum (z k) (λ i. x i * y j) a ∙ ap (λ (w : ℕ). w * z k) (times_sum (y j) x a))
    ∙ times_sum (z k) (λ j. sum_to x a * y j) b
    ∙ ap (λ (w : ℕ). w * z k) (sum_times (sum_to x a) y b))
    ∙ sum_times (sum_to x a * sum_to y b) z c

-- ---- ranges

pub sum_append : (f : ℕ → ℕ) (m n : ℕ) → sum_to f (m + n) ≡ sum_to f m + sum_to (λ i. f (m + i)) n
unfolding sum_to
sum_append f m zero = let e : m + 0 ≡ m = omega arith in rw e (omega arith)
sum_append f m (suc n) = let e : m + suc n ≡ suc (m + n) = omega arith in rw e (omega (arith, sum_append f m n))

-- m ranges of n each
pub sum_blocks : (f : ℕ → ℕ) (m n : ℕ) → sum_to f (m * n) ≡ sum_to (λ b. sum_to (λ i. f (b * n + i)) n) m
unfolding sum_to
sum_blocks f zero n = ap (sum_to f) (zero-mul n)
sum_blocks f (suc m) n = ap (sum_to f) (suc-mul m n) ∙ sum_append f (m * n) n ∙ ap (λ (s : ℕ). s + sum_to (λ i. f (m * n + i)) n) (sum_blocks f m n)

-- ---- rows one behind another

rows_sum : {A : Type 0} (row : ℕ → List A) (n : ℕ) → length (rows row n) ≡ sum_to (λ r. length (row r)) n
unfolding rows sum_to
rows_sum row zero = refl
rows_sum row (suc n) = omega (arith, rows_length row n, rows_sum row n)

pub start_sum : {A : Type 0} (row : ℕ → List A) (n : ℕ) → start_of row n ≡ sum_to (λ r. length (row r)) n
unfolding start_of
start_sum row n = rows_sum row n

-- ---- a loop that adds, m of n done

pub record Summing (f : ℕ → ℕ) (n m s : ℕ) : Type 0 where
  pub high : m ≤ n
  pub is : s ≡ sum_to f m

module _ {f : ℕ → ℕ} {n : ℕ} where
  pub summing_start : Summing f n 0 0
  unfolding sum_to
  summing_start = record { high = omega arith; is = refl }

  pub summing_turn : {m s v t : ℕ} → Summing f n m s → m < n → v ≡ f m → t ≡ s + v → Summing f n (m + 1) t
  unfolding sum_to
  summing_turn {m} {s} {v} {t} u h e d = record { high = omega arith; is = rw (add-one m) (omega (arith, u.is)) }

  pub summing_end : {m s : ℕ} → Summing f n m s → n ≤ m → s ≡ sum_to f n
  summing_end {m} {s} u h = let e : m ≡ n = omega (arith, u.high) in rw e at u.is

  pub summing_most : {m s b : ℕ} → Summing f n m s → ((i : ℕ) → i < n → f i ≤ b) → s ≤ b * m
  summing_most {m} {s} {b} u h = omega (arith, u.is, sum_most f b m (λ i o. h i (omega (arith, u.high))))
