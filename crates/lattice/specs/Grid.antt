-- The grid (docs/SPECIFICATION.md, 2): cells and steps along each axis, and the numbering of its edges.
-- An axis or a component is 0, 1 or 2 (x, y, z).
-- Assumes nothing.
use Rattle.std.specs.Prelude.{ℕ, ◌+◌, ◌*◌, ◌/◌, ◌%◌, ◌<◌, ◌≤◌, cond, eqb, Float}
use Rattle.lattice.specs.declared.grid.Grid3d.{Grid3d}
use Rattle.lattice.specs.declared.grid.Position.{Position}

-- by the axis: the first of three, the second, or the third
unfoldable pub axis3 : {A : Type 0} → ℕ → A → A → A → A
axis3 a x y z = cond (eqb a 0) x (cond (eqb a 1) y z)

unfoldable pub n_of : Grid3d → ℕ → ℕ
n_of g a = axis3 a g.nx g.ny g.nz

unfoldable pub step_of : Grid3d → ℕ → Float
step_of g a = axis3 a g.dx g.dy g.dz

unfoldable pub cells_of : Grid3d → ℕ
cells_of g = g.nx * g.ny * g.nz

-- one edge of each component for each cell
unfoldable pub unknowns_of : Grid3d → ℕ
unknowns_of g = 3 * cells_of g

-- x, y, z, x, ..: the axis after a, and the one after that
unfoldable pub next_axis : ℕ → ℕ
next_axis a = axis3 a 1 2 0

unfoldable pub last_axis : ℕ → ℕ
last_axis a = axis3 a 2 0 1

-- ---- positions

unfoldable pub place_on : Position → ℕ → ℕ
place_on p a = axis3 a p.i p.j p.k

unfoldable pub moved_to : Position → ℕ → ℕ → Position
moved_to p a m =
    axis3 a
    (record { component = p.component; i = m; j = p.j; k = p.k })
    (record { component = p.component; i = p.i; j = m; k = p.k })
    (record { component = p.component; i = p.i; j = p.j; k = m })

unfoldable pub with_component : Position → ℕ → Position
with_component p c = record { component = c; i = p.i; j = p.j; k = p.k }

-- edge (component c, i, j, k) is number c cells + (k ny + j) nx + i
unfoldable pub index_of : Grid3d → Position → ℕ
index_of g p = p.component * cells_of g + (p.k * g.ny + p.j) * g.nx + p.i

unfoldable pub at_of : Grid3d → ℕ → Position
at_of g r =
    record {
      component = r / cells_of g;
      i = r % cells_of g % g.nx;
      j = r % cells_of g / g.nx % g.ny;
      k = r % cells_of g / (g.nx * g.ny);
    }

-- ---- limits

-- what refusal 1 leaves: 1 to 64 cells along each axis, at most 4,096 in all
pub record Limits (g : Grid3d) : Type 0 where
  pub x_some : 0 < g.nx
  pub x_most : g.nx ≤ 64
  pub y_some : 0 < g.ny
  pub y_most : g.ny ≤ 64
  pub z_some : 0 < g.nz
  pub z_most : g.nz ≤ 64
  pub total : g.nx * g.ny * g.nz ≤ 4096

-- a position of the grid
pub record Inside (g : Grid3d) (p : Position) : Type 0 where
  pub c_in : p.component < 3
  pub i_in : p.i < g.nx
  pub j_in : p.j < g.ny
  pub k_in : p.k < g.nz
