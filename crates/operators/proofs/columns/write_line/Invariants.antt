-- `operators::columns::write_line` meets its contract. The invariant (`Laid`): the places from the iterator's next on, laid from here, come to the whole.
-- Assumes nothing.
use Prim.Native.Nat.{◌+◌, ◌-◌, ◌≤◌}
use mathlib.Core.Path.{◌≡◌}
use Rattle.operators.specs.Columns.{line}
use Rattle.operators.proofs.ColumnLaws.{Laid}
use Rattle.operators.proofs.columns.write_line.Given as goal

abbrev pub invariant-loop-i : goal.invariant-loop-i
invariant-loop-i l =
    let s = l.i-iterator in
    (s.w ≡ l.w) × (s.n ≡ l.n) × (s.next ≤ 64) × (l.next ≤ l.at + s.next)
    × Laid l.initial.out l.at (line l.w l.base l.n 0) l.out l.next (line l.w l.base (l.n - s.next) s.next)
