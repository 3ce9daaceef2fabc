-- Lines (docs/SPECIFICATION.md, 4): an axis on one level, as the places of its nodes and of its far end. A line of n cells has n + 1 ends. The
-- unit of a place is half a cell of the finest grid.
-- Assumes nothing.
use Rattle.std.specs.Prelude.{ℕ, ◌+◌, ◌-◌, ◌*◌, ◌/◌, ◌<◌, ◌≤◌, ◌≡◌, Bool, true, false, ◌&&◌, cond, List, [], ◌∷◌, ◌++◌, leb, ltb, length, get_or, take, replicate, Float}
use Rattle.std.specs.Float.Ieee as Ieee
use Rattle.numbers.specs.declared.C64.{C64}
use Rattle.numbers.specs.Complex.{mul_f, no_number, difference, squares}
use Rattle.numbers.specs.Lists.{tabulate, Rises, before}
use Rattle.lattice.specs.declared.line.Line.{Line}
use Rattle.lattice.specs.Stretched.{map_points}

-- the record that holds a line: its ends, then zeros
unfoldable pub packed : List ℕ → Line
packed es = record { cells = length es - 1; ends = es ++ replicate (65 - length es) 0 }

-- the line that a record holds
unfoldable pub ends_of : Line → List ℕ
ends_of l = take (l.cells + 1) l.ends

-- the finest line of n cells: 0, 2, .., 2 n
abbrev pub twice : ℕ → ℕ
twice m = 2 * m

unfoldable pub finest_ends : ℕ → List ℕ
finest_ends n = tabulate twice (n + 1) 0

-- ---- joining

-- two cells join when the map's difference (re, im) over both has re re + im im ≤ T T; by the map at their first end and at their last
unfoldable pub joins_by : C64 → C64 → Float → Bool
joins_by first last t = Ieee.le (squares (difference last first)) (mul_f t t)

-- the two cells from end a to end c
unfoldable pub joins : List C64 → Float → ℕ → ℕ → Bool
joins x t a c = joins_by (get_or x a no_number) (get_or x c no_number) t

-- whether the first of the ends behind a is passed over: there is a second one, and the two cells up to it join
unfoldable pub skips : List C64 → Float → ℕ → List ℕ → Bool
skips x t a [] = false
skips x t a (b ∷ []) = false
skips x t a (b ∷ (c ∷ es)) = joins x t a c

-- from the left; an end that is passed over leaves no choice of the next
unfoldable pub joined : List C64 → Float → Bool → List ℕ → List ℕ
joined x t pass [] = []
joined x t true (b ∷ es) = joined x t false es
joined x t false (b ∷ es) = b ∷ joined x t (skips x t b es) es

-- the next level's line; one of under 4 cells is unchanged
unfoldable pub coarser_ends : List C64 → Float → List ℕ → List ℕ
coarser_ends x t es = cond (ltb (length es) 5) es (joined x t false es)

-- ---- places

-- the place of value m: that of node m across the axis; along it, the middle of the cell that begins there
unfoldable pub place_of : List ℕ → ℕ → Bool → ℕ
place_of es m along = cond along ((get_or es m 0 + get_or es (m + 1) 0) / 2) (get_or es m 0)

-- for each node of a coarse line the number of the same node on the fine one
unfoldable pub nodes_of : List ℕ → List ℕ → List ℕ
nodes_of fine [] = []
nodes_of fine (e ∷ es) = before e fine ∷ nodes_of fine es

-- ---- what a line is

-- a line over n cells of the finest grid: from 0 to 2 n, rising, with at least one cell and at most 64
pub record LineOver (n : ℕ) (es : List ℕ) : Type 0 where
  pub some : 2 ≤ length es
  pub most : length es ≤ 65
  pub first : get_or es 0 0 ≡ 0
  pub last : get_or es (length es - 1) 0 ≡ 2 * n
  pub rises : Rises es

-- a record that holds a line of 1 to 64 cells, each end at one of a map's 129 half-steps, and zeros behind the ends
pub record Held (l : Line) : Type 0 where
  pub some : 0 < l.cells
  pub most : l.cells ≤ 64
  pub low : (m : ℕ) → m ≤ l.cells → get_or l.ends m 0 < map_points
  pub tidy : l ≡ packed (ends_of l)

-- the end that is kept behind end m of n cells, where the two cells behind it join or not
unfoldable pub next_by : ℕ → ℕ → Bool → ℕ
next_by n m join = cond (leb (m + 2) n && join) (m + 2) (m + 1)

unfoldable pub next_end : List C64 → Float → Line → ℕ → ℕ
next_end x t l m = next_by l.cells m (joins x t (get_or l.ends m 0) (get_or l.ends (m + 2) 0))
