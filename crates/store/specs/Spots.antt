-- The numbers of the store: five of its lists hold numbers, two doubles each. A row of the store is a run of numbers of one list, and sees the store only as numbers.
-- Assumes nothing: these are definitions.
use Rattle.std.specs.Prelude.{ℕ, ◌+◌, ◌-◌, ◌*◌, ◌/◌, ◌%◌, List, [], ◌∷◌, Bool, true, cond, eqb, get_or, Float}
use Rattle.numbers.specs.declared.C64.{C64}
use Rattle.numbers.specs.Complex.{no_number, finite_double}
use Rattle.numbers.specs.Lists.{tabulate}
use Rattle.store.specs.Space.{Look}
use Rattle.store.specs.Places.{Place, Val, space, ends_at, permittivities_at, forward_starts_at, forward_columns_at, forward_values_at, turned_starts_at, turned_columns_at, turned_values_at, operator_starts_at, operator_columns_at, operator_values_at, scaling_at}

-- the five lists of numbers
pub data Kind : Type 0 where
  permittivity forwards turneds entries scales : Kind

-- a number of the store: its list, and its number there
pub record Spot : Type 0 where
  pub kind : Kind
  pub number : ℕ

abbrev pub spot : Kind → ℕ → Spot
spot k q = record { kind = k; number = q }

-- double j of a list
abbrev pub place : Kind → ℕ → Place
place permittivity j = permittivities_at j
place forwards j = forward_values_at j
place turneds j = turned_values_at j
place entries j = operator_values_at j
place scales j = scaling_at j

abbrev pub double_in : Look space → Kind → ℕ → Float
double_in f permittivity j = f (permittivities_at j)
double_in f forwards j = f (forward_values_at j)
double_in f turneds j = f (turned_values_at j)
double_in f entries j = f (operator_values_at j)
double_in f scales j = f (scaling_at j)

-- the two doubles of a number, and the number that a look finds there
abbrev pub cells : Spot → List Place
cells s = place s.kind (2 * s.number) ∷ (place s.kind (2 * s.number + 1) ∷ [])

unfoldable pub number_in : Look space → Kind → ℕ → C64
number_in f k q = record { re = double_in f k (2 * q); im = double_in f k (2 * q + 1) }

-- n numbers from q on
abbrev pub spots_from : Kind → ℕ → ℕ → List Spot
spots_from k q n = tabulate (spot k) n q

-- what double j has of a number, and of numbers that stand from number a on
unfoldable pub part_of : ℕ → C64 → Float
part_of j z = cond (eqb (j % 2) 0) z.re z.im

unfoldable pub double_of : List C64 → ℕ → ℕ → Float
double_of vs a j = part_of j (get_or vs (j / 2 - a) no_number)

-- the numbers vs from number a on, whatever the list (of any other place: anything)
unfoldable pub laid_from : List C64 → ℕ → Look space
laid_from vs a (ends_at j) = 0
laid_from vs a (permittivities_at j) = double_of vs a j
laid_from vs a (forward_starts_at j) = 0
laid_from vs a (forward_columns_at j) = 0
laid_from vs a (forward_values_at j) = double_of vs a j
laid_from vs a (turned_starts_at j) = 0
laid_from vs a (turned_columns_at j) = 0
laid_from vs a (turned_values_at j) = double_of vs a j
laid_from vs a (operator_starts_at j) = 0
laid_from vs a (operator_columns_at j) = 0
laid_from vs a (operator_values_at j) = double_of vs a j
laid_from vs a (scaling_at j) = double_of vs a j

abbrev pub finite_place : (p : Place) → Val p → Bool
finite_place (ends_at j) x = true
finite_place (permittivities_at j) x = finite_double x
finite_place (forward_starts_at j) x = true
finite_place (forward_columns_at j) x = true
finite_place (forward_values_at j) x = finite_double x
finite_place (turned_starts_at j) x = true
finite_place (turned_columns_at j) x = true
finite_place (turned_values_at j) x = finite_double x
finite_place (operator_starts_at j) x = true
finite_place (operator_columns_at j) x = true
finite_place (operator_values_at j) x = finite_double x
finite_place (scaling_at j) x = finite_double x
