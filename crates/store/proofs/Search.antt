-- The search for the part, of those one behind another, and for the row that a number lies in. Assumes nothing.
use Prim.Native.Nat.{ℕ, zero, suc, ◌+◌, ◌≤◌, ◌<◌}
use mathlib.Core.Path.{◌≡◌, sym}
use mathlib.Core.Bool.{cond}
use mathlib.Core.List.{List}
use native.Mathlib.Decide.{ℕ_discrete}
use native.Mathlib.Omega.{arith}
use lib.Dec.{ltb}
use lib.ListN.{length}
use borrow.Author.Tests.{lt-ltb, le-ltb}
use Rattle.numbers.specs.Lists.{start_of, sum_to}
use Rattle.numbers.proofs.SumLaws.{sum_to_suc}
use Rattle.numbers.proofs.LoopLaws.{start_suc}

-- the last of the parts 0 to n that begins at q or before
unfoldable pub find : (ℕ → ℕ) → ℕ → ℕ → ℕ
find off zero q = 0
find off (suc n) q = cond (ltb q (off (suc n))) (find off n q) (suc n)

-- parts that do not fall
abbrev pub Steps : (ℕ → ℕ) → Type 0
Steps off = (i : ℕ) → off i ≤ off (suc i)

steps_le : (off : ℕ → ℕ) → Steps off → (i j : ℕ) → i ≤ j → off i ≤ off j
steps_le off h i zero l = let e : i ≡ 0 = omega arith in rw e (omega arith)
steps_le off h i (suc j) l =
    elim (ℕ_discrete i (suc j)) as (λ _. off i ≤ off (suc j)) [
      | yes e ↦ rw e (omega arith)
      | no d ↦ omega (arith, steps_le off h i j (omega arith), h j)
    ]

pub find_is : (off : ℕ → ℕ) → Steps off → (n i q : ℕ) → i ≤ n → off i ≤ q → q < off (suc i) → find off n q ≡ i
unfolding find
find_is off h zero i q l a b = omega arith
find_is off h (suc n) i q l a b =
    elim (ℕ_discrete i (suc n)) as (λ _. cond (ltb q (off (suc n))) (find off n q) (suc n) ≡ i) [
      | yes e ↦ let k : off (suc n) ≤ q = rw (sym e) a in rw (le-ltb q (off (suc n)) k) (sym e)
      | no d ↦ let k : q < off (suc n) = omega (arith, steps_le off h (suc i) (suc n) (omega arith)) in
          rw (lt-ltb q (off (suc n)) k) (find_is off h n i q (omega arith) a b)
    ]

-- number q of part L
pub part_found : (f : ℕ → ℕ) (M L q : ℕ) → L ≤ M → q < f L → find (sum_to f) M (sum_to f L + q) ≡ L
part_found f M L q h b = find_is (sum_to f) (λ i. omega (arith, sum_to_suc f i)) M L (sum_to f L + q) h (omega arith) (omega (arith, sum_to_suc f L))

-- number j of row r
pub row_found : {A : Type 0} (row : ℕ → List A) (n r j : ℕ) → r < n → j < length (row r) → find (start_of row) n (start_of row r + j) ≡ r
row_found row n r j h b = find_is (start_of row) (λ i. omega (arith, start_suc row i)) n r (start_of row r + j) (omega arith) (omega arith) (omega (arith, start_suc row r))
