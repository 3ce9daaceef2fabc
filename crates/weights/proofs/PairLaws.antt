-- The lines of two neighbouring levels are what the weights are worked out from: every coarse node is a fine node.
-- Assumes nothing.
use Prim.Native.Nat.{ℕ, suc, ◌-◌, ◌<◌, ◌≤◌}
use native.Mathlib.Nat.{mul-le-mul}
use native.Mathlib.Omega.{arith}
use mathlib.Core.Path.{◌≡◌}
use mathlib.Core.List.{List}
use lib.ListN.{length, get_or}
use lib.Ieee.{Float}
use Rattle.numbers.specs.declared.C64.{C64}
use Rattle.lattice.specs.Grid.{Limits}
use Rattle.lattice.specs.Lattice.{FullLattice}
use Rattle.lattice.specs.Levels.{line_at, cells_at, three_at}
use Rattle.lattice.specs.Line.{ends_of, coarser_ends, nodes_of, LineOver}
use Rattle.numbers.specs.Lists.{Rises}
use Rattle.lattice.proofs.GridLaws.{axis_both}
use Rattle.lattice.proofs.LevelLaws.{line_over, three_held}
use Rattle.lattice.proofs.Equations.{n_of_0, n_of_1, n_of_2, cells_at_is}
use Rattle.lattice.proofs.NestLaws.{cells_some, nodes_end, nodes_low, nodes_below, nodes_most, coarser_among, cells_fewer, line_among, three_ends}
use Rattle.weights.proofs.Equations.{fine_line_0, fine_line_1, fine_line_2, coarse_line_0, coarse_line_1, coarse_line_2}
use Rattle.weights.specs.Tables.{HeldThree, Paired}
use Rattle.weights.specs.TwoLevels.{fine_line, coarse_line, fine_cells, coarse_cells, node_on, grid_with, fine_grid, coarse_grid, two_at, two_of}

-- ---- a line and the next coarser one

module _ (x : List C64) (t : Float) (n : ℕ) (es : List ℕ) (fine : LineOver n es) (coarse : LineOver n (coarser_ends x t es)) (m : ℕ) where
  -- the node of the fine line lies where the coarse one's does
  pub node_end : m < length (coarser_ends x t es) → get_or es (get_or (nodes_of es (coarser_ends x t es)) m 0) 0 ≡ get_or (coarser_ends x t es) m 0
  node_end = nodes_end fine coarse (coarser_among x t es) m

  pub node_low : m < length (coarser_ends x t es) → get_or (nodes_of es (coarser_ends x t es)) m 0 < length es
  node_low = nodes_low fine coarse (coarser_among x t es) m

  -- a node but the last lies before the last
  pub node_below : m < length (coarser_ends x t es) - 1 → get_or (nodes_of es (coarser_ends x t es)) m 0 < length es - 1
  node_below = nodes_below fine coarse (coarser_among x t es) m

  pub node_most : m ≤ length (coarser_ends x t es) - 1 → get_or (nodes_of es (coarser_ends x t es)) m 0 ≤ length es - 1
  node_most = nodes_most fine coarse (coarser_among x t es) m

-- ---- the levels of a lattice

-- what holds of a line and the next holds of the two lines of each axis
pub both_lines : (l : FullLattice) (L a : ℕ) (R : List ℕ → List ℕ → Type 0) → ((b : ℕ) → R (line_at l b L) (line_at l b (suc L)))
    → R (fine_line (two_at l L) a) (coarse_line (two_at l L) a)
unfolding fine_line coarse_line two_at
both_lines l L a R each = axis_both R a (each 0) (each 1) (each 2)

module _ (l : FullLattice) (limits : Limits l.grid) where
  -- the grid of each level is within the limits
  pub level_limits : (L : ℕ) → Limits (grid_with l.grid (cells_at l 0 L) (cells_at l 1 L) (cells_at l 2 L))
  unfolding grid_with
  level_limits L =
      let x : cells_at l 0 L ≤ l.grid.nx = rw n_of_0 at (cells_fewer l 0 L) in
      let y : cells_at l 1 L ≤ l.grid.ny = rw n_of_1 at (cells_fewer l 1 L) in
      let z : cells_at l 2 L ≤ l.grid.nz = rw n_of_2 at (cells_fewer l 2 L) in
      record {
        x_some = cells_some l limits 0 L;
        x_most = omega (arith, limits.x_most);
        y_some = cells_some l limits 1 L;
        y_most = omega (arith, limits.y_most);
        z_some = cells_some l limits 2 L;
        z_most = omega (arith, limits.z_most);
        total = omega (arith, mul-le-mul (mul-le-mul x y) z, limits.total);
      }

  -- the lines that the records of two levels hold are the levels' own
  pub two_at_lem : (L : ℕ) → two_of l (three_at l L) (three_at l (suc L)) ≡ two_at l L
  unfolding two_of two_at
  two_at_lem L =
      let fine = three_ends l limits L in
      let coarse = three_ends l limits (suc L) in
      λ i.
      record {
        base = l;
        fine_x = fine.0 i;
        fine_y = fine.1 i;
        fine_z = fine.2 i;
        coarse_x = coarse.0 i;
        coarse_y = coarse.1 i;
        coarse_z = coarse.2 i;
      }

  pub fine_limits : (L : ℕ) → Limits (fine_grid (two_at l L))
  unfolding fine_grid fine_cells two_at
  fine_limits L = rw (fine_line_0, fine_line_1, fine_line_2, ← cells_at_is, ← cells_at_is, ← cells_at_is) (level_limits L)

  pub coarse_limits : (L : ℕ) → Limits (coarse_grid (two_at l L))
  unfolding coarse_grid coarse_cells two_at
  coarse_limits L = rw (coarse_line_0, coarse_line_1, coarse_line_2, ← cells_at_is, ← cells_at_is, ← cells_at_is) (level_limits (suc L))

  module _ (L a : ℕ) where
    -- a coarse node but the last is a fine node but the last
    pub nested_at : (m : ℕ) → m < coarse_cells (two_at l L) a → node_on (two_at l L) a m < fine_cells (two_at l L) a
    unfolding node_on fine_cells coarse_cells
    nested_at m =
        both_lines l L a (λ es cs. m < length cs - 1 → get_or (nodes_of es cs) m 0 < length es - 1)
        (λ b. nodes_below (line_over l limits b L) (line_over l limits b (suc L)) (line_among l b L) m)

    pub ended_at : (m : ℕ) → m ≤ coarse_cells (two_at l L) a → node_on (two_at l L) a m ≤ fine_cells (two_at l L) a
    unfolding node_on fine_cells coarse_cells
    ended_at m =
        both_lines l L a (λ es cs. m ≤ length cs - 1 → get_or (nodes_of es cs) m 0 ≤ length es - 1)
        (λ b. nodes_most (line_over l limits b L) (line_over l limits b (suc L)) (line_among l b L) m)

  level_held : (L : ℕ) → HeldThree (three_at l L)
  level_held L = let h = three_held l limits L in record { x_held = h.0; y_held = h.1; z_held = h.2 }

  level_rises : (L : ℕ) → Rises (ends_of (three_at l L).x) × Rises (ends_of (three_at l L).y) × Rises (ends_of (three_at l L).z)
  level_rises L =
      let e = three_ends l limits L in
      (rw e.0 (line_over l limits 0 L).rises, rw e.1 (line_over l limits 1 L).rises, rw e.2 (line_over l limits 2 L).rises)

-- two neighbouring levels are what the code of a transfer asks for
pub paired_at : (l : FullLattice) (L : ℕ) → Limits l.grid → Paired l (three_at l L) (three_at l (suc L))
paired_at l L h =
    let e : two_of l (three_at l L) (three_at l (suc L)) ≡ two_at l L = two_at_lem l h L in
    record {
      base_limits = h;
      fine_held = level_held l h L;
      coarse_held = level_held l h (suc L);
      x_rises = (level_rises l h (suc L)).0;
      y_rises = (level_rises l h (suc L)).1;
      z_rises = (level_rises l h (suc L)).2;
      fine_limits = rw e (fine_limits l h L);
      coarse_limits = rw e (coarse_limits l h L);
      nested = rw e (nested_at l h L);
      ended = rw e (ended_at l h L);
    }
