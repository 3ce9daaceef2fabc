-- Laws of lists that this layer cites: tabulated lists, what sums and lists of terms see, rows and where they begin, columns and numbers of terms.
-- Assumes nothing.
use Prim.Native.Nat.{ℕ, zero, suc, ◌+◌, ◌-◌, ◌<◌, ◌≤◌, suc-le-suc}
use native.Mathlib.Numerals.{add-one}
use native.Mathlib.Omega.{arith}
use mathlib.Core.Path.{◌≡◌, refl, ap, ◌∙◌}
use mathlib.Core.Bool.{Bool, true, false, cond}
use mathlib.Core.List.Memᴰ
use mathlib.Core.List.Memᴰ.{head}
use mathlib.Core.List.Memᴰ.{tail}
use mathlib.Core.List.{map, List, [], ◌∷◌, ◌++◌, Memᴰ as Member}
use borrow.Author.Tests.{ltb-true, lt-ltb}
use lib.Dec.{ltb}
use lib.ListN.{length, get_or}
use Rattle.numbers.specs.declared.C64.{C64}
use Rattle.numbers.specs.Complex.{sum}
use Rattle.numbers.specs.Lists.{tabulate, each, rows, start_of, before, summed}
use Rattle.numbers.proofs.ListLaws.{through, rows_length, tabulate_more}
use Rattle.numbers.proofs.TermLaws.{each_append, each_one}
use Rattle.numbers.specs.Terms.{Term, columns_of, numbers_of}
use Rattle.numbers.proofs.Equations.{rows_zero}
use Rattle.numbers.proofs.EachLaws.{numbers_append, sieved, All, none, all_append}

-- ---- a loop from k to n: what is left of a tabulated list

module _ {A : Type 0} (f : ℕ → A) (n k : ℕ) where
  pub tabulate_left : k < n → tabulate f (n - k) k ≡ f k ∷ tabulate f (n - (k + 1)) (k + 1)
  unfolding tabulate
  tabulate_left h = let e : n - k ≡ suc (n - (k + 1)) = omega arith in rw (e, add-one k)

  pub tabulate_done : n ≤ k → tabulate f (n - k) k ≡ []
  unfolding tabulate
  tabulate_done h = let e : n - k ≡ 0 = omega arith in rw e

-- the elements of another list, one by one; d past its end
pub tabulate_map : {A B : Type 0} (f : ℕ → B) (g : A → B) (d : A) (ts : List A) (k : ℕ) → ((i : ℕ) → i < length ts → f (k + i) ≡ g (get_or ts i d))
    → tabulate f (length ts) k ≡ map g ts
unfolding tabulate
tabulate_map f g d [] k h = refl
tabulate_map f g d (x ∷ ts) k h =
    let z : k + 0 ≡ k = omega arith in
    let one : f k ≡ g x = rw z at (h 0 (omega arith)) in
    let more : tabulate f (length ts) (suc k) ≡ map g ts =
    tabulate_map f g d ts (suc k) (λ i b. let e : k + suc i ≡ suc k + i = omega arith in rw e at (h (suc i) (omega arith))) in
    λ i. one i ∷ more i

-- its members
pub tabulate_member : (f : ℕ → ℕ) (n k : ℕ) {c : ℕ} → Member c (tabulate f n k) → (m : ℕ) × (k ≤ m) × (m < k + n) × (c ≡ f m)
unfolding tabulate
tabulate_member f zero k i = absurd (Memᴰ.not-nil i)
tabulate_member f (suc n) k (head e) = (k, omega arith, omega arith, e)
tabulate_member f (suc n) k (tail i) = let w = tabulate_member f n (suc k) i in (w.0, omega (arith, w.1), omega (arith, w.2), w.3)

-- ---- what sums and lists of terms see

-- a sum sees of a reader only what stands at its columns
pub summed_local : (f g : ℕ → C64) (cs : List ℕ) (s : C64) → ((c : ℕ) → Member c cs → f c ≡ g c) → summed f s cs ≡ summed g s cs
unfolding summed
summed_local f g [] s h = refl
summed_local f g (c ∷ cs) s h = rw (h c (head refl)) (summed_local f g cs (sum s (g c)) (λ d m. h d (tail m)))

-- lists that see, term by term, only what P says of the columns r and Q of the columns s
pub each_local : (P Q : ℕ → Type 0) (u v : Term → List Term) (r s : ℕ → List ℕ)
    → ((t : Term) → ((c : ℕ) → Member c (r t.column) → P c) → ((c : ℕ) → Member c (s t.column) → Q c) → u t ≡ v t)
    → (ts : List Term) {ms : List ℕ} → columns_of ts ≡ ms → ((c : ℕ) → Member c (each r ms) → P c) → ((c : ℕ) → Member c (each s ms) → Q c) → each u ts ≡ each v ts
unfolding each columns_of
each_local P Q u v r s local ts e a b = go ts (rw e a) (rw e b)
  where
    go : (ts : List Term) → ((c : ℕ) → Member c (each r (columns_of ts)) → P c) → ((c : ℕ) → Member c (each s (columns_of ts)) → Q c) → each u ts ≡ each v ts
    go [] a b = refl
    go (t ∷ ts) a b =
        λ i. local t (λ c m. a c (Memᴰ.append_left (each r (columns_of ts)) m)) (λ c m. b c (Memᴰ.append_left (each s (columns_of ts)) m)) i
        ++ go ts (λ c m. a c (Memᴰ.append_right (r t.column) m)) (λ c m. b c (Memᴰ.append_right (s t.column) m)) i

-- ---- places

-- the ends before a later place are at least as many
pub before_more : (d e : ℕ) → d ≤ e → (es : List ℕ) → before d es ≤ before e es
unfolding before
before_more d e h [] = omega arith
before_more d e h (f ∷ es) = go (ltb f d) refl (before_more d e h es)
  where
    go : (s : Bool) → ltb f d ≡ s → before d es ≤ before e es → cond s (suc (before d es)) 0 ≤ before e (f ∷ es)
    go false q r = omega arith
    go true q r = rw (lt-ltb f e (omega (arith, ltb-true f d q))) (suc-le-suc r)

-- ---- what f gives for each of a tabulated list, as rows

pub each_tabulate : {E A : Type 0} (f : E → List A) (h : ℕ → E) (k n : ℕ) → each f (tabulate h n k) ≡ rows (through f (λ m. h (k + m))) n
unfolding each tabulate rows
each_tabulate f h k zero = refl
each_tabulate f h k (suc n) =
    ap (each f) (tabulate_more h n k (k + n) refl)
    ∙ each_append f (tabulate h n k) (h (k + n) ∷ [])
    ∙ (λ i. each_tabulate f h k n i ++ each_one f (h (k + n)) i)

-- ---- rows one behind another

-- what holds for all elements of each row
pub all_rows : {A : Type 0} {P : A → Type 0} (f : ℕ → List A) (n : ℕ) → ((r : ℕ) → r < n → All P (f r)) → All P (rows f n)
unfolding rows
all_rows f zero h = none
all_rows f (suc n) h = all_append (all_rows f n (λ r b. h r (omega arith))) (h n (omega arith))

-- where they begin
module _ {A : Type 0} (row : ℕ → List A) where
  pub start_zero : start_of row 0 ≡ 0
  unfolding start_of rows
  start_zero = refl

  pub start_suc : (r : ℕ) → start_of row (suc r) ≡ start_of row r + length (row r)
  unfolding start_of
  start_suc r = rows_length row r

  -- of rows that are as long
  pub start_long : {B : Type 0} (other : ℕ → List B) (n : ℕ) → ((r : ℕ) → r < n → length (row r) ≡ length (other r)) → start_of row n ≡ start_of other n
  unfolding start_of
  start_long other zero h = rw (rows_zero, rows_zero)
  start_long other (suc n) h =
      let before : length (rows row n) ≡ length (rows other n) = start_long other n (λ r b. h r (omega arith)) in
      omega (arith, rows_length row n, rows_length other n, h n (omega arith))

-- ---- columns and numbers of terms

pub columns_one : (t : Term) → columns_of (t ∷ []) ≡ t.column ∷ []
unfolding columns_of
columns_one t = refl

pub numbers_one : (t : Term) → numbers_of (t ∷ []) ≡ t.number ∷ []
unfolding numbers_of
numbers_one t = refl

-- numbers one behind another, where each is what a term gives
pub numbers_each : {A : Type 0} (f : A → List C64) (h : Term → List Term) (g : Term → A) → ((x : Term) → f (g x) ≡ numbers_of (h x)) → (ts : List Term)
    → each f (map g ts) ≡ numbers_of (each h ts)
unfolding each numbers_of
numbers_each f h g e [] = refl
numbers_each f h g e (x ∷ ts) =
    let more : each f (map g ts) ≡ numbers_of (each h ts) = numbers_each f h g e ts in
    rw (numbers_append (h x) (each h ts), e x, more)

-- ---- a list without the elements that q tells, as equations

pub sieved_nil : {A : Type 0} (q : A → Bool) → sieved q [] ≡ []
unfolding sieved
sieved_nil q = refl

pub sieved_cons : {A : Type 0} (q : A → Bool) (x : A) (xs : List A) → sieved q (x ∷ xs) ≡ cond (q x) (sieved q xs) (x ∷ sieved q xs)
unfolding sieved
sieved_cons q x xs = refl

-- ---- one of two numbers below n

pub either_below : (b : Bool) {x y n : ℕ} → x < n → y < n → cond b x y < n
either_below true h k = h
either_below false h k = k
