-- The lattice record (docs/SPECIFICATION.md, 2): the input, and beside it the stretches: a number for each node of an axis, and one for the cell that begins
-- there (half a step after the node).
-- Assumes nothing.
use Rattle.std.specs.Prelude.{ℕ, ◌+◌, ◌*◌, ◌/◌, ◌%◌, ◌<◌, ◌≤◌, ◌≡◌, Bool, true, false, cond, List, ltb, length, get_or, Float}
use Rattle.numbers.specs.declared.C64.{C64}
use Rattle.numbers.specs.Complex.{zero_number, no_number}
use Rattle.numbers.specs.Places.{places, number_at, found_at}
use Rattle.lattice.specs.Grid.{axis3, n_of}
use Rattle.lattice.specs.declared.grid.Grid3d.{Grid3d}
use Rattle.lattice.specs.declared.lattice.Edges.{Edges}
use Rattle.lattice.specs.declared.lattice.Edges.TheVariants.{Pml, Bloch}
use Rattle.lattice.specs.declared.lattice.Lattice.{Lattice}
use Rattle.lattice.specs.declared.input.Stretches.{Stretches}
use Rattle.numbers.specs.Lists.{tabulate}

-- a lattice with its stretches
pub record FullLattice : Type 0 where
  pub grid : Grid3d
  pub x : Edges
  pub y : Edges
  pub z : Edges
  pub k0 : Float
  pub shift : Float
  pub nodes : List C64
  pub halves : List C64

-- 64 places for each axis, and the doubles of a list of stretches
abbrev pub node_places : ℕ
node_places = 192

abbrev pub stretch_doubles : ℕ
stretch_doubles = 768

abbrev pub half_no : List Float → ℕ → C64
half_no st k = found_at st (node_places + k)

-- the lattice record with a list of stretches: 192 numbers for the nodes, 192 for the cells that begin there
abbrev pub full_lattice : Lattice → List Float → FullLattice
full_lattice l st =
    record {
      grid = l.grid;
      x = l.x;
      y = l.y;
      z = l.z;
      k0 = l.k0;
      shift = l.shift;
      nodes = tabulate (found_at st) node_places 0;
      halves = tabulate (half_no st) node_places 0;
    }

unfoldable pub edges_of : FullLattice → ℕ → Edges
edges_of l a = axis3 a l.x l.y l.z

abbrev pub is_wall : Edges → Bool
is_wall Pml = true
is_wall (Bloch p) = false

-- the stretch at node m of axis a, and half a step after it, in the middle of the cell that begins there
unfoldable pub nodes_at : FullLattice → ℕ → ℕ → C64
nodes_at l a m = get_or l.nodes (64 * a + m) no_number

unfoldable pub halves_at : FullLattice → ℕ → ℕ → C64
halves_at l a m = get_or l.halves (64 * a + m) no_number

-- ---- from the six lists

-- place q of a record's list: number q % 64 of the list of axis q / 64, and zero beyond that axis's cells
unfoldable pub stretch_at : Grid3d → List Float → List Float → List Float → ℕ → C64
stretch_at g xs ys zs q = cond (ltb (q % 64) (n_of g (q / 64))) (number_at (axis3 (q / 64) xs ys zs) (q % 64)) zero_number

unfoldable pub lattice_of : Lattice → List Float → List Float → List Float → List Float → List Float → List Float → FullLattice
lattice_of v xn xh yn yh zn zh =
    record {
      grid = v.grid;
      x = v.x;
      y = v.y;
      z = v.z;
      k0 = v.k0;
      shift = v.shift;
      nodes = tabulate (stretch_at v.grid xn yn zn) node_places 0;
      halves = tabulate (stretch_at v.grid xh yh zh) node_places 0;
    }

-- of the six lists as they go through the code
abbrev pub lattice_on : Lattice → Stretches → FullLattice
lattice_on v on = lattice_of v on.xn.now on.xh.now on.yn.now on.yh.now on.zn.now on.zh.now

-- three lists with as many numbers as the axes have cells
pub record Lengths (g : Grid3d) (xs ys zs : List Float) : Type 0 where
  pub x_long : length xs ≡ 2 * g.nx
  pub y_long : length ys ≡ 2 * g.ny
  pub z_long : length zs ≡ 2 * g.nz

-- n numbers f 0, f 1, .. laid over a list from number `from` on
pub record LaidStretches (f : ℕ → C64) (from n : ℕ) (xs ys : List Float) : Type 0 where
  pub long : length ys ≡ length xs
  pub inside : (k : ℕ) → k < n → from + k < places xs → number_at ys (from + k) ≡ f k
  pub before : (k : ℕ) → k < from → number_at ys k ≡ number_at xs k
  pub behind : (k : ℕ) → from + n ≤ k → number_at ys k ≡ number_at xs k
