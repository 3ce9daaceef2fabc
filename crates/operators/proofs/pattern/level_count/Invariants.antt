-- `operators::pattern::level_count` meets its contract. The invariant: the columns of the first r rows have been counted.
-- Assumes nothing.
use Prim.Native.Nat.{◌≤◌}
use Rattle.lattice.specs.Lattice.{full_lattice}
use Rattle.operators.specs.Levels.{pattern_row}
use Rattle.operators.proofs.LevelTableLaws.{Counted}
use Rattle.operators.proofs.pattern.level_count.Given as goal

abbrev pub invariant-loop-r : goal.invariant-loop-r
invariant-loop-r l = (l.n ≤ 12288) × Counted (pattern_row (full_lattice l.l l.st) l.g l.t) l.n l.r l.count
