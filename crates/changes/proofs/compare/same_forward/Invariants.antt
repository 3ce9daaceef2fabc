-- `changes::compare::same_forward` meets its contract. The first r rows stand in the lists.
-- Assumes nothing.
use Rattle.store.proofs.MatchLaws.{Going}
use Rattle.lattice.specs.Grid.{unknowns_of}
use Rattle.weights.specs.Prolongation.{weight_columns}
use Rattle.weights.specs.TwoLevels.{fine_grid}
use Rattle.weights.specs.Pair.{two}
use Rattle.changes.proofs.compare.same_forward.Given as goal

abbrev pub invariant-loop-r : goal.invariant-loop-r
invariant-loop-r l =
    Going (weight_columns (two l.fn.pair)) (unknowns_of (fine_grid (two l.fn.pair))) l.fn.o l.fn.starts l.fn.columns l.k l.r
