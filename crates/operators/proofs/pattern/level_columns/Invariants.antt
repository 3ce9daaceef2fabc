-- `operators::pattern::level_columns` meets its contract. The invariant: the starts and the columns of the first r rows have been laid.
-- Assumes nothing.
use Prim.Native.Nat.{◌≤◌}
use lib.ListN.{set}
use Rattle.lattice.specs.Lattice.{full_lattice}
use Rattle.numbers.proofs.RowLoops.{Going, Starting}
use Rattle.operators.specs.Levels.{pattern_row}
use Rattle.operators.proofs.LevelTableLaws.{itself}
use Rattle.operators.proofs.pattern.level_columns.Given as goal

abbrev pub invariant-loop-r : goal.invariant-loop-r
invariant-loop-r l =
    (l.n ≤ 12288) × Starting (pattern_row (full_lattice l.l l.st) l.g l.t) itself l.s l.initial.starts l.starts l.r × Going set (pattern_row (full_lattice l.l l.st) l.g l.t) itself 786432 l.n l.k l.initial.columns l.columns l.next l.r
