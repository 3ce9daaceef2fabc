-- `yonaduvi::rows::cells_from` meets its contract. The invariant: the first q cells are those of the counts.
-- Assumes nothing.
use Prim.Native.Nat.{◌≤◌}
use Rattle.numbers.proofs.TabulateLaws.{Filled}
use Rattle.yonaduvi.specs.Exports.{count_at}
use Rattle.yonaduvi.proofs.rows.cells_from.Given as goal

abbrev pub invariant-loop-q : goal.invariant-loop-q
invariant-loop-q l = (l.q ≤ 36) × Filled (count_at l.counts) 0 0 36 l.q l.cells
