-- The level loop (docs/SPECIFICATION.md, 4): each axis's line on each level, and how many levels there are.
-- Assumes nothing.
use Rattle.std.specs.Prelude.{ℕ, zero, suc, ◌+◌, ◌-◌, ◌*◌, ◌/◌, ◌%◌, ◌^◌, ◌≡◌, Bool, ◌&&◌, ◌||◌, cond, List, eqb, leb, ltb, length, replicate, pos, Float, Option, Some, None, Result, Ok, Err}
use Rattle.std.specs.Float.{binary64}
use Rattle.std.specs.Float.Ieee.{of_bits, of_int}
use Rattle.numbers.specs.Complex.{mul_f}
use Rattle.lattice.specs.Grid.{n_of}
use Rattle.numbers.specs.Lists.{tabulate}
use Rattle.lattice.specs.Lattice.{lattice_of, FullLattice}
use Rattle.lattice.specs.Stretched.{across_map}
use Rattle.lattice.specs.Line.{packed, ends_of, finest_ends, coarser_ends}
use Rattle.lattice.specs.Check.{Verdict, accepted, refused, refusal_of, and_then, check_stretches}
use Rattle.lattice.specs.declared.line.Line.{Line}
use Rattle.lattice.specs.declared.lattice.Lattice.{Lattice}
use Rattle.lattice.specs.declared.levels.Three.{Three}
use Rattle.lattice.specs.declared.levels.Maps.{Maps}
use Rattle.lattice.specs.declared.levels.Lines.{Lines}
use Rattle.lattice.specs.declared.levels.Refusal.{Refusal}
use Rattle.lattice.specs.declared.levels.Refusal.TheVariants.{Input, TooMany}
use Rattle.lattice.specs.declared.levels.LevelLines.{LevelLines}

-- 1.5: how much longer than the level's cells a joined cell may be
abbrev pub bound_f : Float
bound_f = of_bits binary64 0x3ff8_0000_0000_0000

-- level L joins its lines with T = 2^(L + 1) 1.5, which is 3 2^L
unfoldable pub target : ℕ → Float
target L = mul_f (of_int binary64 (pos (2 ^ (L + 1)))) bound_f

-- axis a on level L: the finest line, joined level by level by the axis's map across
unfoldable pub line_at : FullLattice → ℕ → ℕ → List ℕ
line_at l a zero = finest_ends (n_of l.grid a)
line_at l a (suc L) = coarser_ends (across_map l a) (target L) (line_at l a L)

unfoldable pub cells_at : FullLattice → ℕ → ℕ → ℕ
cells_at l a L = length (line_at l a L) - 1

unfoldable pub edges_at : FullLattice → ℕ → ℕ
edges_at l L = 3 * (cells_at l 0 L * cells_at l 1 L * cells_at l 2 L)

-- no axis changes from level L to the next
unfoldable pub same : FullLattice → ℕ → Bool
same l L =
    eqb (cells_at l 0 (suc L)) (cells_at l 0 L)
    && (eqb (cells_at l 1 (suc L)) (cells_at l 1 L) && eqb (cells_at l 2 (suc L)) (cells_at l 2 L))

-- level L is the last: its edges are at most `coarsest`, or no axis changes
unfoldable pub stops : FullLattice → ℕ → ℕ → Bool
stops l coarsest L = leb (edges_at l L) coarsest || same l L

-- refusal 5, at 12
abbrev pub levels_refused : Verdict
levels_refused = refused 5 12

-- the level count from level L on, where n more levels are allowed
unfoldable pub depth_from : FullLattice → ℕ → ℕ → ℕ → Verdict
depth_from l coarsest zero L = levels_refused
depth_from l coarsest (suc n) L = cond (stops l coarsest L) (accepted (suc L)) (depth_from l coarsest n (suc L))

-- at most 12 levels
unfoldable pub depth_of : FullLattice → ℕ → Verdict
depth_of l coarsest = depth_from l coarsest 12 0

-- what the level loop's answers mean, and those of the levels
abbrev pub depth_verdict : Option ℕ → Verdict
depth_verdict (Some n) = accepted n
depth_verdict None = levels_refused

abbrev pub verdict : Result ℕ Refusal → Verdict
verdict (Ok n) = accepted n
verdict (Err (Input c)) = refusal_of c
verdict (Err TooMany) = levels_refused

-- ---- the lines of all levels, in the order of levels and, in a level, of axes

unfoldable pub no_line : Line
no_line = record { cells = 0; ends = replicate 65 0 }

-- line q is that of axis q % 3 on level q / 3, where the lattice has that level
unfoldable pub line_no : FullLattice → ℕ → ℕ → Line
line_no l count q = cond (ltb (q / 3) count) (packed (line_at l (q % 3) (q / 3))) no_line

-- the lines of so many levels
unfoldable pub lines_to : FullLattice → ℕ → List Line
lines_to l count = tabulate (line_no l count) 36 0

-- how many levels a verdict answers: none if it refuses
abbrev pub count_of : Verdict → ℕ
count_of (accepted n) = n
count_of (refused number place) = 0

-- the level loop has found the depth, and the lines of so many levels
pub record Joined (l : FullLattice) (coarsest : ℕ) (r : Lines) : Type 0 where
  pub depth_is : depth_verdict r.depth ≡ depth_of l coarsest
  pub lines_are : r.lines ≡ lines_to l (count_of (depth_of l coarsest))

-- ---- a level as the code holds it

unfoldable pub maps_of : FullLattice → Maps
maps_of l = record { x = across_map l 0; y = across_map l 1; z = across_map l 2 }

unfoldable pub three_at : FullLattice → ℕ → Three
three_at l L = record { x = packed (line_at l 0 L); y = packed (line_at l 1 L); z = packed (line_at l 2 L) }

unfoldable pub coarser_three : Three → Maps → Float → Three
coarser_three s m t =
    record {
      x = packed (coarser_ends m.x t (ends_of s.x));
      y = packed (coarser_ends m.y t (ends_of s.y));
      z = packed (coarser_ends m.z t (ends_of s.z));
    }

unfoldable pub three_edges : Three → ℕ
three_edges t = 3 * (t.x.cells * t.y.cells * t.z.cells)

unfoldable pub same_cells : Three → Three → Bool
same_cells s t = eqb s.x.cells t.x.cells && (eqb s.y.cells t.y.cells && eqb s.z.cells t.z.cells)

-- ---- the call of a user: refusals 1 to 4, then the level loop with refusal 5

unfoldable pub levels_of : Lattice → List Float → List Float → List Float → List Float → List Float → List Float → ℕ → Verdict
levels_of v xn xh yn yh zn zh coarsest = and_then (check_stretches v xn xh yn yh zn zh) (depth_of (lattice_of v xn xh yn yh zn zh) coarsest)

-- the lines of as many levels as are answered
unfoldable pub level_lines_of : Lattice → List Float → List Float → List Float → List Float → List Float → List Float → ℕ → List Line
level_lines_of v xn xh yn yh zn zh coarsest = lines_to (lattice_of v xn xh yn yh zn zh) (count_of (levels_of v xn xh yn yh zn zh coarsest))

pub record Answered (v : Lattice) (xn xh yn yh zn zh : List Float) (coarsest : ℕ) (r : LevelLines) : Type 0 where
  pub answer_is : verdict r.answer ≡ levels_of v xn xh yn yh zn zh coarsest
  pub lines_are : r.lines ≡ level_lines_of v xn xh yn yh zn zh coarsest
