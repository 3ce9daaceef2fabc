use Prim.Native.Nat.{ℕ, ◌+◌, ◌≤◌}
use mathlib.Core.List.{List}
use lib.ListN.{length}
use Rattle.weights.specs.Calls.{Lays}
use Rattle.numbers.proofs.RowLoops.{Going}
use Rattle.weights.proofs.rows.lay_each.Given as goal

abbrev pub invariant-loop-d : goal.invariant-loop-d
invariant-loop-d g l =
    (f : ℕ → List _) (most : ℕ) → Lays g.X.Listed.put (goal.F-post g l.lay) f → ((e : ℕ) → length (f e) ≤ most)
    → Going g.X.Listed.put f (λ d. l.first + d) most l.n l.from l.initial.list l.list l.k l.d
