-- Lists (docs/SPECIFICATION.md, 1): tabulated, one behind another, laid over another, numbers read and added. No layer above has list helpers of its own.
-- Assumes nothing.
use Rattle.std.specs.Prelude.{ℕ, zero, suc, ◌+◌, ◌*◌, ◌<◌, ◌≡◌, ◌⊎◌, Bool, true, false, ◌&&◌, ◌||◌, cond, List, [], ◌∷◌, ◌++◌, eqb, ltb, length, get_or, set, Float}
use Rattle.numbers.specs.declared.C64.{C64}
use Rattle.numbers.specs.Complex.{sum, finite}
use Rattle.numbers.specs.Places.{number_at, set_number}

-- f k, f (k + 1), .., n of them
unfoldable pub tabulate : {A : Type 0} → (ℕ → A) → ℕ → ℕ → List A
tabulate f zero k = []
tabulate f (suc n) k = f k ∷ tabulate f n (suc k)

-- what f gives for each element of a list, one behind another
unfoldable pub each : {A B : Type 0} → (A → List B) → List A → List B
each f [] = []
each f (x ∷ xs) = f x ++ each f xs

-- f 0, f 1, .., f (n - 1), one behind another
unfoldable pub rows : {A : Type 0} → (ℕ → List A) → ℕ → List A
rows f zero = []
rows f (suc n) = rows f n ++ f n

-- a list in which values have been put, one in each place from k on; `put` leaves out what would lie past the end
unfoldable pub laid_by : {L A : Type 0} → (L → ℕ → A → L) → L → ℕ → List A → L
laid_by put xs k [] = xs
laid_by put xs k (v ∷ vs) = laid_by put (put xs k v) (suc k) vs

-- whole numbers in a list of whole numbers, numbers in a list of doubles
abbrev pub laid : List ℕ → ℕ → List ℕ → List ℕ
laid = laid_by set

abbrev pub laid_numbers : List Float → ℕ → List C64 → List Float
laid_numbers = laid_by set_number

-- the values have been laid over the list from place k on, and r is the place behind them
pub record Laid {L A : Type 0} (put : L → ℕ → A → L) (xs : L) (k : ℕ) (vs : List A) (ys : L) (r : ℕ) : Type 0 where
  pub list : ys ≡ laid_by put xs k vs
  pub next : r ≡ k + length vs

-- f 0 + .. + f (n - 1)
unfoldable pub sum_to : (ℕ → ℕ) → ℕ → ℕ
sum_to f zero = 0
sum_to f (suc n) = sum_to f n + f n

-- every number is finite
unfoldable pub all_finite : List C64 → Bool
all_finite [] = true
all_finite (v ∷ vs) = finite v && all_finite vs

-- where row r begins: behind the rows before it; the starts of n rows and the end
unfoldable pub start_of : {A : Type 0} → (ℕ → List A) → ℕ → ℕ
start_of row r = length (rows row r)

unfoldable pub starts_of : {A : Type 0} → (ℕ → List A) → ℕ → List ℕ
starts_of row n = tabulate (start_of row) (n + 1) 0

-- a stands in the list
abbrev pub In : {A : Type 0} → A → List A → Type 0
In a [] = ⊥
In a (b ∷ bs) = (a ≡ b) ⊎ In a bs

unfoldable pub contains : ℕ → List ℕ → Bool
contains c [] = false
contains c (d ∷ ds) = eqb d c || contains c ds

-- some column stands twice
unfoldable pub repeats : List ℕ → Bool
repeats [] = false
repeats (c ∷ cs) = contains c cs || repeats cs

-- one of n rows names a column twice
unfoldable pub some_repeats : (ℕ → List ℕ) → ℕ → Bool
some_repeats row zero = false
some_repeats row (suc n) = some_repeats row n || repeats (row n)

-- how many ends stand before the first that is not below e
unfoldable pub before : ℕ → List ℕ → ℕ
before e [] = 0
before e (f ∷ fs) = cond (ltb f e) (suc (before e fs)) 0

-- strictly rising
unfoldable pub Rises : List ℕ → Type 0
Rises [] = Unit {0}
Rises (a ∷ []) = Unit {0}
Rises (a ∷ (b ∷ es)) = (a < b) × Rises (b ∷ es)

-- a list of doubles that holds n numbers f 0, f 1, .. and nothing more
pub record Numbers (f : ℕ → C64) (n : ℕ) (xs : List Float) : Type 0 where
  pub long : length xs ≡ 2 * n
  pub each_is : (k : ℕ) → k < n → number_at xs k ≡ f k

abbrev pub entry_at : List ℕ → ℕ → ℕ
entry_at ps e = get_or ps e 0

abbrev pub places_in : List ℕ → ℕ → ℕ → List ℕ
places_in ps e n = tabulate (entry_at ps) n e

-- one of the positions is flagged
unfoldable pub any_flag : List Bool → List ℕ → Bool
any_flag fs [] = false
any_flag fs (c ∷ cs) = get_or fs c false || any_flag fs cs

-- the flags at some positions have been set if b says so, and no other has changed
pub record Marked (b : Bool) (cs : List ℕ) (xs ys : List Bool) : Type 0 where
  pub same_long : length ys ≡ length xs
  pub each_is : (c : ℕ) → get_or ys c false ≡ (get_or xs c false || (b && contains c cs))

-- a reader of the numbers of a list from place `from` on
unfoldable pub read_from : List Float → ℕ → ℕ → C64
read_from xs from r = number_at xs (from + r)

-- the sum of what is read at the columns, in order, from s on
unfoldable pub summed : (ℕ → C64) → C64 → List ℕ → C64
summed f s [] = s
summed f s (c ∷ cs) = summed f (sum s (f c)) cs
