-- `lattice::stretched::map_by` meets its contract. The invariant (`Mapping`): whatever gives what the calls return, its map is filled up to half-step p.
use Prim.Native.Nat.{ℕ, ◌*◌, ◌<◌, ◌≤◌}
use mathlib.Core.Path.{◌≡◌}
use Rattle.numbers.specs.declared.C64.{C64}
use Rattle.lattice.proofs.MapLaws.{Mapping}
use Rattle.lattice.proofs.stretched.map_by.Given as goal

abbrev pub invariant-loop-p : goal.invariant-loop-p
invariant-loop-p g l =
    (l.p ≤ 2 * l.n)
    × ((s : ℕ → C64) → ((p : ℕ) (v : C64) → p < 2 * l.n → goal.F-post g l.stretch p v → v ≡ s p) → Mapping s l.p l.x l.here)
