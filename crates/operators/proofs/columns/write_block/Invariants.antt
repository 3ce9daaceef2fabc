-- `operators::columns::write_block` meets its contract. The invariant (`Laid`): the planes from the iterator's next on, laid from here, come to the whole.
-- Assumes nothing.
use Prim.Native.Nat.{◌+◌, ◌-◌, ◌*◌, ◌≤◌}
use mathlib.Core.Path.{◌≡◌}
use mathlib.Core.Bool.{true}
use Rattle.operators.specs.Bits.{mix_of}
use Rattle.operators.specs.Columns.{block}
use Rattle.operators.proofs.ColumnLaws.{Laid}
use Rattle.operators.proofs.columns.write_block.Given as goal

abbrev pub invariant-loop-k : goal.invariant-loop-k
invariant-loop-k l =
    let s = l.k-iterator in
    (s.w ≡ mix_of true l.p.sz true l.p.tz) × (s.n ≡ l.nz) × (s.next ≤ 64) × (l.next ≤ l.at + 4096 * s.next)
    × Laid l.initial.out l.at (block l.p l.nx l.ny l.base l.nz 0) l.out l.next (block l.p l.nx l.ny (l.base + l.nx * l.ny * s.next) (l.nz - s.next) s.next)
