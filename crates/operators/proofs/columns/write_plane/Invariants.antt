-- `operators::columns::write_plane` meets its contract. The invariant (`Laid`): the lines from the iterator's next on, laid from here, come to the whole.
-- Assumes nothing.
use Prim.Native.Nat.{◌+◌, ◌-◌, ◌*◌, ◌≤◌}
use mathlib.Core.Path.{◌≡◌}
use mathlib.Core.Bool.{true}
use Rattle.operators.specs.Bits.{mix_of}
use Rattle.operators.specs.Columns.{plane}
use Rattle.operators.proofs.ColumnLaws.{Laid}
use Rattle.operators.proofs.columns.write_plane.Given as goal

abbrev pub invariant-loop-j : goal.invariant-loop-j
invariant-loop-j l =
    let s = l.j-iterator in
    (s.w ≡ mix_of true l.a true l.b) × (s.n ≡ l.ny) × (s.next ≤ 64) × (l.next ≤ l.at + 64 * s.next)
    × Laid l.initial.out l.at (plane l.s l.t l.a l.b l.nx l.base l.ny 0) l.out l.next (plane l.s l.t l.a l.b l.nx (l.base + l.nx * s.next) (l.ny - s.next) s.next)
