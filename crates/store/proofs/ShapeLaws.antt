-- What starts and columns that are the lattice's give to the working parts of a change: where the rows of each level stand, and that they fit.
-- Assumes nothing.
use Prim.Native.Nat.{ℕ, suc, ◌+◌, ◌≤◌, ◌<◌}
use mathlib.Core.Path.{refl}
use native.Mathlib.Omega.{arith}
use lib.ListN.{length}
use Rattle.lattice.specs.Lattice.{FullLattice}
use Rattle.operators.specs.LevelLists.{edges_on}
use Rattle.store.specs.Layout.{forward_cols, turned_cols, operator_cols, next_edges, forward_count, turned_count, operator_count, stored_count, forward_off, turned_off, operator_off, starts_off, stored_starts}
use Rattle.store.specs.Phases.{forward_part, turned_part, operator_part}
use Rattle.store.specs.Work.{RowsAt}
use Rattle.store.specs.Renewed.{Fixed, Five, Shaped}
use Rattle.store.specs.RenewSteps.{OperatorStarts}
use Rattle.store.specs.declared.Choice.{Choice}
use Rattle.store.proofs.RankLaws.{first_most}
use Rattle.store.proofs.SmallLaws.{operator_small}
use Rattle.numbers.proofs.PartLaws.{part_room, sum_rise}
use Rattle.store.proofs.SizeLaws.{stored_rows}
use Rattle.store.proofs.StepLaws.{starts_later, terms_later}

module _ (l : FullLattice) (ch : Choice) (m : ℕ) (x : Fixed) (shaped : Shaped l ch m x) (v : Five) where
  -- ---- transfers

  module _ (L : ℕ) (low : L < m) where
    pub forward_rows_lem : RowsAt (forward_cols l L) (edges_on l L) (forward_part l L) x.fs x.fc
    forward_rows_lem = (shaped.structured v).forward_are L low

    pub turned_rows : RowsAt (turned_cols l L) (edges_on l (suc L)) (turned_part l L) x.ts x.tc
    turned_rows = (shaped.structured v).turned_are L low

    pub fs_fits : starts_off (edges_on l) L + edges_on l L < length x.fs
    fs_fits = omega (arith, part_room (λ i. edges_on l i + 1) L m low, shaped.room.fs_room)

    pub fc_fits : forward_off l L + forward_count l L ≤ length x.fc
    fc_fits = omega (arith, part_room (forward_count l) L m low, shaped.room.fc_room)

    pub ts_fits : starts_off (next_edges l) L + edges_on l (suc L) < length x.ts
    ts_fits = omega (arith, part_room (λ i. next_edges l i + 1) L m low, shaped.room.ts_room)

    pub tc_fits : turned_off l L + turned_count l L ≤ length x.tc
    tc_fits = omega (arith, part_room (turned_count l) L m low, shaped.room.tc_room)

    -- ---- the operator of level L + 1

    pub operator_rows_lem : RowsAt (operator_cols l ch (suc L)) (edges_on l (suc L)) (operator_part l ch m (suc L)) x.os x.oc
    operator_rows_lem = (shaped.structured v).operator_are (suc L) (first_most m L low) low

    pub os_fits : stored_starts l m (suc L) + edges_on l (suc L) < length x.os
    os_fits = omega (arith, starts_later l ch m L, sum_rise (stored_rows l m) (suc (suc L)) (suc m) (omega arith), shaped.room.os_room)

    pub operator_within : operator_off l ch m (suc L) + operator_count l ch (suc L) ≤ operator_off l ch m (suc m)
    operator_within = omega (arith, terms_later l ch m L, sum_rise (stored_count l ch m) (suc (suc L)) (suc m) (omega arith))

    pub oc_fits : operator_off l ch m (suc L) + operator_count l ch (suc L) ≤ length x.oc
    oc_fits = omega (arith, operator_within, shaped.room.oc_room)

    pub operator_starts_are : OperatorStarts l ch m (suc L) (operator_part l ch m (suc L)) x.os
    operator_starts_are =
        let small = operator_small l shaped.limits m shaped.few ch (suc L) low in
        record {
          part_is = refl;
          starts_low = small.starts_low;
          low = small.low;
          few = small.all_few;
          starts_room = os_fits;
          starts_are = operator_rows_lem.starts_are;
        }
