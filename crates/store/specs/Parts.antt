-- The rows of a store by parts (docs/SPECIFICATION.md, 12): part 0 has the operator's rows of a level that is the only one, and behind it each transfer has
-- seven, one for each kind of row, in the order of `full`. And the rows of a part whose flag is set.
-- Assumes nothing.
use Rattle.std.specs.Prelude.{ℕ, zero, suc, ◌+◌, ◌*◌, ◌/◌, ◌%◌, ◌≤◌, ◌<◌, ◌≡◌, List, [], ◌∷◌, ◌++◌, Bool, cond, length, get_or}
use Rattle.numbers.specs.Lists.{sum_to}
use Rattle.lattice.specs.Lattice.{FullLattice}
use Rattle.operators.specs.Bits.{bit_at}
use Rattle.operators.specs.LevelLists.{edges_on}
use Rattle.store.specs.FillSteps.{only_count}
use Rattle.store.specs.Rows.{Row, coarse, averaged, forward, turned, volume, share, operator}
use Rattle.store.specs.declared.Choice.{Choice}

-- row i of kind k of the transfer from level L + 1 to L
unfoldable pub row_by : ℕ → ℕ → ℕ → Row
row_by zero L i = coarse L i
row_by (suc zero) L i = averaged L i
row_by (suc (suc zero)) L i = forward L i
row_by (suc (suc (suc zero))) L i = turned L i
row_by (suc (suc (suc (suc zero)))) L i = volume L i
row_by (suc (suc (suc (suc (suc zero))))) L i = share L i
row_by (suc (suc (suc (suc (suc (suc k)))))) L i = operator (suc L) i

-- how many there are
unfoldable pub size_by : FullLattice → Choice → ℕ → ℕ → ℕ
size_by l ch zero L = edges_on l (suc L)
size_by l ch (suc zero) L = only_count ch (edges_on l (suc L))
size_by l ch (suc (suc zero)) L = edges_on l L
size_by l ch (suc (suc (suc zero))) L = edges_on l (suc L)
size_by l ch (suc (suc (suc (suc zero)))) L = only_count ch (edges_on l L)
size_by l ch (suc (suc (suc (suc (suc zero))))) L = only_count ch (edges_on l (suc L))
size_by l ch (suc (suc (suc (suc (suc (suc k)))))) L = edges_on l (suc L)

-- level 0's operator rows are stored where it is the only level
abbrev pub sole_size : FullLattice → ℕ → ℕ
sole_size l zero = edges_on l 0
sole_size l (suc m) = 0

unfoldable pub part_size : FullLattice → Choice → ℕ → ℕ → ℕ
part_size l ch m zero = sole_size l m
part_size l ch m (suc p) = size_by l ch (p % 7) (p / 7)

unfoldable pub part_row : ℕ → ℕ → Row
part_row zero i = operator 0 i
part_row (suc p) i = row_by (p % 7) (p / 7) i

-- where the flags of a part begin
abbrev pub part_off : FullLattice → Choice → ℕ → ℕ → ℕ
part_off l ch m p = sum_to (part_size l ch m) p

-- all parts of m transfers
abbrev pub part_count : ℕ → ℕ
part_count m = suc (7 * m)

-- ---- flags: 64 to a word

abbrev pub flag_at : List ℕ → ℕ → Bool
flag_at flags q = bit_at (get_or flags (q / 64) 0) (q % 64)

-- the first n rows of those whose flags begin at `base`, where the flag is set
unfoldable pub flagged_to : (ℕ → Row) → List ℕ → ℕ → ℕ → List Row
flagged_to row flags base zero = []
flagged_to row flags base (suc n) = flagged_to row flags base n ++ cond (flag_at flags (base + n)) (row n ∷ []) []

abbrev pub flagged_part : FullLattice → Choice → ℕ → List ℕ → ℕ → List Row
flagged_part l ch m flags p = flagged_to (part_row p) flags (part_off l ch m p) (part_size l ch m p)

-- those of the first n parts
unfoldable pub flagged_parts : FullLattice → Choice → ℕ → List ℕ → ℕ → List Row
flagged_parts l ch m flags zero = []
flagged_parts l ch m flags (suc n) = flagged_parts l ch m flags n ++ flagged_part l ch m flags n

abbrev pub flagged_rows : FullLattice → Choice → ℕ → List ℕ → List Row
flagged_rows l ch m flags = flagged_parts l ch m flags (part_count m)

-- the flags of all parts tell which rows pass a test
pub record FlagsOf (l : FullLattice) (ch : Choice) (m : ℕ) (test : Row → Bool) (flags : List ℕ) : Type 0 where
  pub long : part_off l ch m (part_count m) ≤ 64 * length flags
  pub each_is : (p i : ℕ) → p < part_count m → i < part_size l ch m p → flag_at flags (part_off l ch m p + i) ≡ test (part_row p i)
