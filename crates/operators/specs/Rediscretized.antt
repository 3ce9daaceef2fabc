-- The lattice of a rediscretized level (docs/SPECIFICATION.md, 10): its cells and dual cells are measured by the finest
-- maps. A level's step divides the axis evenly, and its stretches say how many such steps a cell or a dual cell measures.
-- Assumes nothing.
use Rattle.std.specs.Prelude.{ℕ, ◌+◌, ◌-◌, ◌*◌, ◌/◌, ◌%◌, ◌<◌, ◌≤◌, ◌≡◌, ◌⊎◌, true, cond, List, eqb, ltb, length, get_or, Float}
use Rattle.std.specs.Float.{binary64}
use Rattle.std.specs.Float.Ieee.{of_bits}
use Rattle.numbers.specs.declared.C64.{C64}
use Rattle.numbers.specs.Complex.{mul_f, div_f, zero_f, no_number, zero_number, difference, real_times}
use Rattle.numbers.specs.Places.{number_at}
use Rattle.lattice.specs.declared.grid.Grid3d.{Grid3d}
use Rattle.lattice.specs.declared.lattice.Edges.{Edges}
use Rattle.lattice.specs.declared.lattice.Edges.TheVariants.{Pml, Bloch}
use Rattle.lattice.specs.declared.lattice.Lattice.{Lattice}
use Rattle.lattice.specs.declared.levels.Three.{Three}
use Rattle.lattice.specs.Grid.{n_of, step_of}
use Rattle.lattice.specs.Lattice.{FullLattice, edges_of, node_places}
use Rattle.numbers.specs.Lists.{tabulate}
use Rattle.lattice.specs.declared.line.Line.{Line}
use Rattle.lattice.specs.Line.{place_of, ends_of}
use Rattle.lattice.specs.Stretched.{across_map, along_map, map_points}
use Rattle.weights.specs.Interpolate.{whole}
use Rattle.weights.specs.Tables.{lines_in}

-- 2
abbrev pub two_f : Float
two_f = of_bits binary64 0x4000_0000_0000_0000

-- the cells of a line
unfoldable pub cells_on : List ℕ → ℕ
cells_on es = length es - 1

-- an axis's step on a line of n cells, and a finest step in it
unfoldable pub coarse_step : Grid3d → ℕ → ℕ → Float
coarse_step g a n = div_f (mul_f (step_of g a) (whole (n_of g a))) (whole n)

unfoldable pub unit_of : Grid3d → ℕ → ℕ → Float
unit_of g a n = div_f (step_of g a) (coarse_step g a n)

-- a map at place p
unfoldable pub mapped : List C64 → ℕ → C64
mapped x p = get_or x p no_number

unfoldable pub centre : List ℕ → ℕ → ℕ
centre es m = place_of es m true

-- the length of cell m
unfoldable pub cell_length : List C64 → List ℕ → ℕ → C64
cell_length x es m = difference (mapped x (get_or es (m + 1) 0)) (mapped x (get_or es m 0))

-- the width of node 0's dual cell: at a wall its half inside, twice; on a Bloch axis, across the period's end, in whole half-steps
abbrev pub first_width : Edges → List C64 → List ℕ → C64
first_width Pml x es = real_times two_f (difference (mapped x (centre es 0)) (mapped x 0))
first_width (Bloch p) x es =
    record { re = div_f (whole (centre es 0 + get_or es (cells_on es) 0 - centre es (cells_on es - 1))) two_f; im = zero_f }

-- that of node m
unfoldable pub node_width : Edges → List C64 → List ℕ → ℕ → C64
node_width e x es m = cond (eqb m 0) (first_width e x es) (difference (mapped x (centre es m)) (mapped x (centre es (m - 1))))

-- the stretch half a step after node m of axis a, and at it: the cell's length and the dual cell's width, in the level's step
unfoldable pub half_on : Grid3d → List C64 → List ℕ → ℕ → ℕ → C64
half_on g x es a m = real_times (unit_of g a (cells_on es)) (cell_length x es m)

unfoldable pub node_on : Grid3d → Edges → List C64 → List ℕ → ℕ → ℕ → C64
node_on g e x es a m = real_times (unit_of g a (cells_on es)) (node_width e x es m)

-- place q of the record's lists: number q % 64 of axis q / 64, and zero beyond its cells
unfoldable pub half_stretch : FullLattice → (ℕ → List ℕ) → ℕ → C64
half_stretch l line q =
    cond (ltb (q % 64) (cells_on (line (q / 64))))
    (half_on l.grid (across_map l (q / 64)) (line (q / 64)) (q / 64) (q % 64))
    zero_number

unfoldable pub node_stretch : FullLattice → (ℕ → List ℕ) → ℕ → C64
node_stretch l line q =
    cond (ltb (q % 64) (cells_on (line (q / 64))))
    (node_on l.grid (edges_of l (q / 64)) (along_map l (q / 64)) (line (q / 64)) (q / 64) (q % 64))
    zero_number

unfoldable pub rediscretized_grid : Grid3d → (ℕ → List ℕ) → Grid3d
rediscretized_grid g line =
    record {
      nx = cells_on (line 0);
      ny = cells_on (line 1);
      nz = cells_on (line 2);
      dx = coarse_step g 0 (cells_on (line 0));
      dy = coarse_step g 1 (cells_on (line 1));
      dz = coarse_step g 2 (cells_on (line 2));
    }

unfoldable pub rediscretized_lattice : FullLattice → (ℕ → List ℕ) → FullLattice
rediscretized_lattice l line =
    record {
      grid = rediscretized_grid l.grid line;
      x = l.x;
      y = l.y;
      z = l.z;
      k0 = l.k0;
      shift = l.shift;
      nodes = tabulate (node_stretch l line) node_places 0;
      halves = tabulate (half_stretch l line) node_places 0;
    }

-- the lattice record of the level whose lines a record holds
unfoldable pub lattice_on : Lattice → Three → Lattice
lattice_on l s = record { grid = rediscretized_grid l.grid (lines_in s); x = l.x; y = l.y; z = l.z; k0 = l.k0; shift = l.shift }

-- the stretches of one axis have been laid over a list, and the others are as they were
pub record AxisLaid (node half : ℕ → C64) (a n : ℕ) (xs ys : List Float) : Type 0 where
  pub long : length ys ≡ length xs
  pub nodes_are : (m : ℕ) → m < n → number_at ys (64 * a + m) ≡ node m
  pub halves_are : (m : ℕ) → m < n → number_at ys (node_places + 64 * a + m) ≡ half m
  pub nodes_kept : (k : ℕ) → k < node_places → k < 64 * a ⊎ 64 * a + n ≤ k → number_at ys k ≡ number_at xs k
  pub halves_kept : (k : ℕ) → k < node_places → k < 64 * a ⊎ 64 * a + n ≤ k → number_at ys (node_places + k) ≡ number_at xs (node_places + k)

-- a line's last centre lies at most one period behind its first
pub record Tame (f : Line) : Type 0 where
  pub back : place_of (ends_of f) (f.cells - 1) true ≤ place_of (ends_of f) 0 true + get_or f.ends f.cells 0
  pub centres : (m : ℕ) → m < f.cells → place_of (ends_of f) m true < map_points
