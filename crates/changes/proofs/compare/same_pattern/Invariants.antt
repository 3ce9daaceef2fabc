-- `changes::compare::same_pattern` meets its contract. The first r rows stand in the lists.
-- Assumes nothing.
use Rattle.store.proofs.MatchLaws.{Going}
use mathlib.Core.Path.{◌≡◌}
use lib.ListN.{length}
use Rattle.lattice.specs.Grid.{unknowns_of}
use Rattle.lattice.specs.Lattice.{full_lattice}
use Rattle.operators.specs.Levels.{pattern_row}
use Rattle.changes.proofs.compare.same_pattern.Given as goal

abbrev pub invariant-loop-r : goal.invariant-loop-r
invariant-loop-r l =
    (length l.row ≡ 12288) × Going (pattern_row (full_lattice l.l l.st) l.g l.u) (unknowns_of l.g) l.o l.starts l.columns l.k l.r
