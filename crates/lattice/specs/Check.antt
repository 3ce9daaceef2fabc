-- The checks of the setup's input (docs/SPECIFICATION.md, 5): refusals 1 to 4, the first that holds in the order of the table.
-- Assumes nothing.
use Rattle.std.specs.Prelude.{ℕ, zero, suc, ◌+◌, ◌*◌, Bool, true, false, not, ◌&&◌, ◌||◌, cond, List, [], ◌∷◌, ◌++◌, eqb, ltb, length, Float, ⊤, Option, None, Some, Result, Ok, Err}
use Rattle.std.specs.Float.Ieee as Ieee
use Rattle.numbers.specs.declared.C64.{C64}
use Rattle.numbers.specs.Complex.{zero_f, finite_double, finite, is_zero}
use Rattle.numbers.specs.Places.{number_at}
use Rattle.lattice.specs.Grid.{unknowns_of}
use Rattle.lattice.specs.declared.grid.Grid3d.{Grid3d}
use Rattle.lattice.specs.declared.lattice.Edges.{Edges}
use Rattle.lattice.specs.declared.lattice.Edges.TheVariants.{Pml, Bloch}
use Rattle.lattice.specs.declared.lattice.Lattice.{Lattice}
use Rattle.lattice.specs.declared.input.Stretches.{Stretches}
use Rattle.lattice.specs.declared.check.Refusal.{Refusal}
use Rattle.lattice.specs.declared.check.Refusal.TheVariants.{Cells, Scalar, Length, Entry}

-- ---- what an answer says: accepted, with the number that the call answers (0 for a check, the level count for the levels), or the refusal's number
-- and place

pub data Verdict : Type 0 where
  accepted : ℕ → Verdict
  refused : ℕ → ℕ → Verdict

-- the refusals of this layer by number, each at a place
abbrev pub grid_refused : ℕ → Verdict
grid_refused = refused 1

abbrev pub scalar_refused : ℕ → Verdict
scalar_refused = refused 2

abbrev pub length_refused : ℕ → Verdict
length_refused = refused 3

abbrev pub entry_refused : ℕ → Verdict
entry_refused = refused 4

-- what a refusal means, and a check's answer
abbrev pub refusal_of : Refusal → Verdict
refusal_of (Cells place) = grid_refused place
refusal_of (Scalar place) = scalar_refused place
refusal_of (Length place) = length_refused place
refusal_of (Entry place) = entry_refused place

abbrev pub verdict_of : Result ⊤ Refusal → Verdict
verdict_of (Ok sound) = accepted 0
verdict_of (Err refusal) = refusal_of refusal

abbrev pub is_sound : Verdict → Bool
is_sound (accepted n) = true
is_sound (refused number place) = false

-- one check behind another: the first refusal
abbrev pub and_then : Verdict → Verdict → Verdict
and_then (accepted n) d = d
and_then (refused number place) d = refused number place

-- ---- 1: an axis of 0 or over 64 cells, at the axis; over 4,096 in all, at 3

unfoldable pub bad_cells : ℕ → Bool
bad_cells n = eqb n 0 || ltb 64 n

unfoldable pub check_grid : Grid3d → Verdict
check_grid g =
    cond (bad_cells g.nx) (grid_refused 0)
    (cond (bad_cells g.ny) (grid_refused 1)
    (cond (bad_cells g.nz) (grid_refused 2)
    (cond (ltb 4096 (g.nx * g.ny * g.nz)) (grid_refused 3) (accepted 0))))

-- ---- 2: a step, at 0 to 2, or k0, at 3, not finite or ≤ 0; the shift, at 4, not finite; a Bloch phase, at 5 to 7, not finite or zero

unfoldable pub bad_length : Float → Bool
bad_length x = not (finite_double x && Ieee.lt zero_f x)

unfoldable pub bad_number : C64 → Bool
bad_number x = not (finite x) || is_zero x

abbrev pub bad_phase : Edges → Bool
bad_phase Pml = false
bad_phase (Bloch p) = bad_number p

unfoldable pub check_scalars : Lattice → Verdict
check_scalars v =
    cond (bad_length v.grid.dx) (scalar_refused 0)
    (cond (bad_length v.grid.dy) (scalar_refused 1)
    (cond (bad_length v.grid.dz) (scalar_refused 2)
    (cond (bad_length v.k0) (scalar_refused 3)
    (cond (not (finite_double v.shift)) (scalar_refused 4)
    (cond (bad_phase v.x) (scalar_refused 5)
    (cond (bad_phase v.y) (scalar_refused 6)
    (cond (bad_phase v.z) (scalar_refused 7) (accepted 0))))))))

-- ---- the lists, each with the count of numbers that it must have

pub record Given : Type 0 where
  pub count : ℕ
  pub list : List Float

abbrev pub given : ℕ → List Float → Given
given n xs = record { count = n; list = xs }

-- x nodes, x halves, y nodes, y halves, z nodes, z halves
abbrev pub stretches : Grid3d → List Float → List Float → List Float → List Float → List Float → List Float → List Given
stretches g xn xh yn yh zn zh =
    given g.nx xn ∷ (given g.nx xh ∷ (given g.ny yn ∷ (given g.ny yh ∷ (given g.nz zn ∷ (given g.nz zh ∷ [])))))

abbrev pub given_on : Grid3d → Stretches → List Given
given_on g on = stretches g on.xn.now on.xh.now on.yn.now on.yh.now on.zn.now on.zh.now

-- 3: a list's length is not the exact count, two doubles a number, at the list's number
unfoldable pub check_lengths : ℕ → List Given → Verdict
check_lengths i [] = accepted 0
check_lengths i (v ∷ vs) = cond (eqb (length v.list) (2 * v.count)) (check_lengths (suc i) vs) (length_refused i)

-- 4: a number that is not finite, or zero, at its position in numbers, counted on through the lists from 0

-- the first of the n numbers from k on that is bad, and k + n where there is none
unfoldable pub first_bad : List Float → ℕ → ℕ → ℕ
first_bad xs zero k = k
first_bad xs (suc n) k = cond (bad_number (number_at xs k)) k (first_bad xs n (suc k))

-- a place among n, and n where there is none
abbrev pub or_count : ℕ → Option ℕ → ℕ
or_count n None = n
or_count n (Some k) = k

unfoldable pub check_entries : ℕ → List Given → Verdict
check_entries position [] = accepted 0
check_entries position (v ∷ vs) =
    cond (ltb (first_bad v.list v.count 0) v.count)
    (entry_refused (position + first_bad v.list v.count 0))
    (check_entries (position + v.count) vs)

-- ---- in the order of the table

unfoldable pub check_all : Lattice → List Given → Verdict
check_all v vs = and_then (check_grid v.grid) (and_then (check_scalars v) (and_then (check_lengths 0 vs) (check_entries 0 vs)))

-- the setup's input, and the same without its permittivities, as a change has it
unfoldable pub check_of : Lattice → List Float → List Float → List Float → List Float → List Float → List Float → List Float → Verdict
check_of v xn xh yn yh zn zh eps = check_all v (stretches v.grid xn xh yn yh zn zh ++ (given (unknowns_of v.grid) eps ∷ []))

unfoldable pub check_stretches : Lattice → List Float → List Float → List Float → List Float → List Float → List Float → Verdict
check_stretches v xn xh yn yh zn zh = check_all v (stretches v.grid xn xh yn yh zn zh)

-- of the six lists as they go through the code
abbrev pub check_on : Lattice → Stretches → List Float → Verdict
check_on v on = check_of v on.xn.now on.xh.now on.yn.now on.yh.now on.zn.now on.zh.now

abbrev pub check_stretches_on : Lattice → Stretches → Verdict
check_stretches_on v on = check_stretches v on.xn.now on.xh.now on.yn.now on.yh.now on.zn.now on.zh.now
