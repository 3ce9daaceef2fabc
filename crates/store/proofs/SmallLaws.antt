-- The parts' offsets and counts are small enough for the code's sums, at most 12 levels deep. Assumes nothing.
use Prim.Native.Nat.{ℕ, suc, ◌≤◌, ◌<◌}
use native.Mathlib.Omega.{arith}
use Rattle.lattice.specs.Grid.{Limits}
use Rattle.lattice.specs.Lattice.{FullLattice}
use Rattle.operators.specs.LevelLists.{edges_on}
use Rattle.store.specs.Layout.{forward_count, turned_count, operator_count}
use Rattle.store.specs.declared.Choice.{Choice}
use Rattle.store.specs.Phases.{forward_part, turned_part, operator_part}
use Rattle.store.proofs.FoundLaws.{Small}
use Rattle.store.proofs.SizeLaws as Sizes
use Rattle.store.proofs.ColumnLaws.{turned_many}

module _ (l : FullLattice) (limits : Limits l.grid) (m : ℕ) (deep : m ≤ 11) where
  pub forward_small : (L : ℕ) → L < m → Small (forward_part l L) (edges_on l L) (edges_on l (suc L)) (forward_count l L)
  forward_small L h =
      record {
        rows_few = Sizes.edges_few l limits L;
        columns_few = Sizes.edges_few l limits (suc L);
        all_few = omega (arith, Sizes.forward_few l limits L);
        starts_low = omega (arith, Sizes.starts_low l limits L);
        low = omega (arith, Sizes.forward_low l limits L);
      }

  pub turned_small : (L : ℕ) → L < m → Small (turned_part l L) (edges_on l (suc L)) (edges_on l L) (turned_count l L)
  turned_small L h =
      record {
        rows_few = Sizes.edges_few l limits (suc L);
        columns_few = Sizes.edges_few l limits L;
        all_few = omega (arith, turned_many l limits L, Sizes.forward_few l limits L);
        starts_low = omega (arith, Sizes.tstarts_low l limits L);
        low = omega (arith, Sizes.turned_low l limits L);
      }

  pub operator_small : (ch : Choice) (L : ℕ) → L ≤ m → Small (operator_part l ch m L) (edges_on l L) (edges_on l L) (operator_count l ch L)
  operator_small ch L h =
      record {
        rows_few = Sizes.edges_few l limits L;
        columns_few = Sizes.edges_few l limits L;
        all_few = omega (arith, Sizes.operator_few l limits ch L);
        starts_low = omega (arith, Sizes.ostarts_low l limits m L);
        low = omega (arith, Sizes.operator_low l limits ch m L);
      }
