-- `reach::flags::raise_each` meets its contract. The invariant: the flags of the first r rows have been raised.
-- Assumes nothing.
use Rattle.std.proofs.Common.{◌≡◌, ℕ, ◌<◌, ◌≤◌, Bool, List}
use Rattle.numbers.specs.Lists.{any_flag}
use Rattle.store.specs.ReachSteps.{Raised}
use Rattle.reach.proofs.flags.raise_each.Given as goal

abbrev pub invariant-loop-r : goal.invariant-loop-r
invariant-loop-r g l =
    (l.r ≤ l.n) × ((flags : List Bool) (cols : ℕ → List ℕ) → ((r : ℕ) (b : Bool) → r < l.n → g.F.Fn.post l.reads (r, tt) b → b ≡ any_flag flags (cols r)) → Raised l.r flags cols l.initial.out l.out)
