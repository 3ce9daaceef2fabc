-- `reach::hits::raise_bits` meets its contract. The invariant: the bits of the first r flags have been set.
-- Assumes nothing.
use Prim.Native.Nat.{◌+◌}
use Prim.Native.Nat.{◌≤◌}
use Rattle.store.specs.ReachSteps.{BitsRaised}
use Rattle.reach.proofs.hits.raise_bits.Given as goal

abbrev pub invariant-loop-r : goal.invariant-loop-r
invariant-loop-r l = (l.r ≤ l.fn.n) × BitsRaised l.fn.base l.r l.fn.list l.initial.flags l.flags (l.fn.base + l.r)
