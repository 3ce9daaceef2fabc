-- `weights::tables::lay_map` meets its contract. The invariant (`Spread`): the numbers from p on, laid from there on, come to the whole.
-- Assumes nothing.
use Prim.Native.Nat.{◌*◌, ◌≤◌}
use mathlib.Core.Path.{◌≡◌}
use lib.ListN.{length}
use Rattle.numbers.specs.Places.{set_number}
use Rattle.numbers.proofs.RowLoops.{Spread}
use Rattle.weights.proofs.tables.lay_map.Given as goal

abbrev pub invariant-loop-p : goal.invariant-loop-p
invariant-loop-p l = (l.p ≤ 129) × (length l.out ≡ length l.initial.out) × Spread set_number l.initial.out (129 * l.b) l.fn.x l.p l.out
