-- Two neighbouring levels of a lattice (docs/SPECIFICATION.md, 7): a fine one and the next coarser, by their lines.
-- Assumes nothing.
use Rattle.std.specs.Prelude.{ℕ, suc, ◌-◌, List, length, get_or}
use Rattle.lattice.specs.declared.grid.Grid3d.{Grid3d}
use Rattle.lattice.specs.declared.levels.Three.{Three}
use Rattle.lattice.specs.Grid.{axis3}
use Rattle.lattice.specs.Lattice.{FullLattice}
use Rattle.lattice.specs.Line.{nodes_of, ends_of}
use Rattle.lattice.specs.Levels.{line_at}

-- the lattice, for its axis kinds and maps, and the ends of the fine and the coarse line of each axis
pub record TwoLevels : Type 0 where
  pub base : FullLattice
  pub fine_x : List ℕ
  pub fine_y : List ℕ
  pub fine_z : List ℕ
  pub coarse_x : List ℕ
  pub coarse_y : List ℕ
  pub coarse_z : List ℕ

unfoldable pub fine_line : TwoLevels → ℕ → List ℕ
fine_line t a = axis3 a t.fine_x t.fine_y t.fine_z

unfoldable pub coarse_line : TwoLevels → ℕ → List ℕ
coarse_line t a = axis3 a t.coarse_x t.coarse_y t.coarse_z

unfoldable pub fine_cells : TwoLevels → ℕ → ℕ
fine_cells t a = length (fine_line t a) - 1

unfoldable pub coarse_cells : TwoLevels → ℕ → ℕ
coarse_cells t a = length (coarse_line t a) - 1

-- the node of the fine line that is node m of the coarse one
unfoldable pub node_on : TwoLevels → ℕ → ℕ → ℕ
node_on t a m = get_or (nodes_of (fine_line t a) (coarse_line t a)) m 0

-- the grid of a level: only its cell counts matter here
unfoldable pub grid_with : Grid3d → ℕ → ℕ → ℕ → Grid3d
grid_with g nx ny nz = record { nx = nx; ny = ny; nz = nz; dx = g.dx; dy = g.dy; dz = g.dz }

unfoldable pub fine_grid : TwoLevels → Grid3d
fine_grid t = grid_with t.base.grid (fine_cells t 0) (fine_cells t 1) (fine_cells t 2)

unfoldable pub coarse_grid : TwoLevels → Grid3d
coarse_grid t = grid_with t.base.grid (coarse_cells t 0) (coarse_cells t 1) (coarse_cells t 2)

-- the lattice with the cells of a level
unfoldable pub on_grid : FullLattice → Grid3d → FullLattice
on_grid l g =
    record {
      grid = g;
      x = l.x;
      y = l.y;
      z = l.z;
      k0 = l.k0;
      shift = l.shift;
      nodes = l.nodes;
      halves = l.halves;
    }

unfoldable pub fine_lattice : TwoLevels → FullLattice
fine_lattice t = on_grid t.base (fine_grid t)

unfoldable pub coarse_lattice : TwoLevels → FullLattice
coarse_lattice t = on_grid t.base (coarse_grid t)

-- levels L and L + 1 of a lattice
unfoldable pub two_at : FullLattice → ℕ → TwoLevels
two_at l L =
    record {
      base = l;
      fine_x = line_at l 0 L;
      fine_y = line_at l 1 L;
      fine_z = line_at l 2 L;
      coarse_x = line_at l 0 (suc L);
      coarse_y = line_at l 1 (suc L);
      coarse_z = line_at l 2 (suc L);
    }

-- the two levels whose lines two records hold
unfoldable pub two_of : FullLattice → Three → Three → TwoLevels
two_of l fine coarse =
    record {
      base = l;
      fine_x = ends_of fine.x;
      fine_y = ends_of fine.y;
      fine_z = ends_of fine.z;
      coarse_x = ends_of coarse.x;
      coarse_y = ends_of coarse.y;
      coarse_z = ends_of coarse.z;
    }
