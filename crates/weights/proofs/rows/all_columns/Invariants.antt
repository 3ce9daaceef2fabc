use Prim.Native.Nat.{◌≤◌}
use Rattle.lattice.specs.Grid.{at_of}
use lib.ListN.{set}
use Rattle.weights.specs.Tables.{columns_in}
use Rattle.numbers.proofs.RowLoops.{Going, Starting}
use Rattle.weights.proofs.rows.all_columns.Given as goal

abbrev pub invariant-loop-r : goal.invariant-loop-r
invariant-loop-r l =
    (l.n ≤ 12288) × Starting (columns_in l.t.coarse l.t.places.now l.t.counts.now) (at_of l.gf) l.s l.initial.starts l.starts l.r × Going set (columns_in l.t.coarse l.t.places.now l.t.counts.now) (at_of l.gf) 8 l.n l.from l.initial.columns l.columns l.k l.r
