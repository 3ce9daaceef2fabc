-- Laws of two levels: the grids by the records of their lines, the cells of an axis, and the list of the coarse nodes.
-- Assumes nothing.
use Prim.Native.Nat.{ℕ, ◌+◌, ◌-◌, ◌*◌, ◌/◌, ◌%◌, ◌<◌}
use native.Mathlib.Omega.{arith}
use mathlib.Core.Path.{◌≡◌, refl, ◌∙◌}
use mathlib.Core.List.{List}
use lib.ListN.{length, get_or}
use Rattle.lattice.specs.declared.grid.Grid3d.{Grid3d}
use Rattle.lattice.specs.declared.levels.Three.{Three}
use Rattle.lattice.specs.declared.line.Line.{Line}
use Rattle.lattice.specs.Grid.{n_of}
use Rattle.lattice.specs.Lattice.{FullLattice}
use Rattle.numbers.specs.Lists.{tabulate}
use Rattle.lattice.specs.Line.{ends_of, Held}
use Rattle.lattice.proofs.GridLaws.{axis_both}
use Rattle.lattice.proofs.LineLaws.{length_ends}
use Rattle.lattice.proofs.Equations.{n_of_is}
use Rattle.lattice.proofs.NestLaws.{axis3_0, axis3_1, axis3_2}
use Rattle.weights.proofs.Equations.{fine_line_0, fine_line_1, fine_line_2, coarse_line_0, coarse_line_1, coarse_line_2}
use Rattle.weights.specs.TwoLevels.{TwoLevels, fine_line, coarse_line, fine_cells, coarse_cells, node_on, grid_with, fine_grid, coarse_grid, two_of}
use Rattle.weights.specs.Tables.{node_no, HeldThree}
use Rattle.numbers.proofs.ListLaws.{read_at_lem}

-- a line that is held has one end more than cells
pub line_cells_lem : {l : Line} → Held l → l.cells ≡ length (ends_of l) - 1
line_cells_lem {l} h = omega (arith, length_ends l h)

-- so the grid by the cells of the lines is the grid by their ends
grid_cells : (g : Grid3d) {s : Three} → HeldThree s
    → grid_with g s.x.cells s.y.cells s.z.cells ≡ grid_with g (length (ends_of s.x) - 1) (length (ends_of s.y) - 1) (length (ends_of s.z) - 1)
grid_cells g h = λ i. grid_with g (line_cells_lem h.x_held i) (line_cells_lem h.y_held i) (line_cells_lem h.z_held i)

-- the grids that are worked out are those of the two levels
module _ (l : FullLattice) (fine coarse : Three) where
  pub fine_grid_lem : HeldThree fine → grid_with l.grid fine.x.cells fine.y.cells fine.z.cells ≡ fine_grid (two_of l fine coarse)
  unfolding fine_grid fine_cells two_of
  fine_grid_lem h = rw (fine_line_0, fine_line_1, fine_line_2) (grid_cells l.grid h)

  pub coarse_grid_lem : HeldThree coarse → grid_with l.grid coarse.x.cells coarse.y.cells coarse.z.cells ≡ coarse_grid (two_of l fine coarse)
  unfolding coarse_grid coarse_cells two_of
  coarse_grid_lem h = rw (coarse_line_0, coarse_line_1, coarse_line_2) (grid_cells l.grid h)

-- as many cells as the line has
pub fine_n : (t : TwoLevels) (a : ℕ) → n_of (fine_grid t) a ≡ fine_cells t a
unfolding fine_grid grid_with fine_cells fine_line
fine_n t a = rw (n_of_is, axis3_0, axis3_1, axis3_2) (axis_both (λ (n : ℕ) (es : List ℕ). n ≡ length es - 1) a refl refl refl)

pub coarse_n : (t : TwoLevels) (a : ℕ) → n_of (coarse_grid t) a ≡ coarse_cells t a
unfolding coarse_grid grid_with coarse_cells coarse_line
coarse_n t a = rw (n_of_is, axis3_0, axis3_1, axis3_2) (axis_both (λ (n : ℕ) (es : List ℕ). n ≡ length es - 1) a refl refl refl)

-- node m of axis a has the number 65 a + m, and stands there in the list of nodes
pub node_no_lem : (t : TwoLevels) (a m : ℕ) → m < 65 → node_no t (65 * a + m) ≡ node_on t a m
unfolding node_no
node_no_lem t a m b =
    let i : (65 * a + m) / 65 ≡ a = omega arith in
    let j : (65 * a + m) % 65 ≡ m = omega arith in
    rw (i, j)

pub node_at : (t : TwoLevels) {nn : List ℕ} → nn ≡ tabulate (node_no t) 195 0 → (a m : ℕ) → a < 3 → m < 65 → get_or nn (65 * a + m) 0 ≡ node_on t a m
node_at t n a m h b = read_at_lem (node_no t) 195 n (65 * a + m) 0 (omega arith) ∙ node_no_lem t a m b
