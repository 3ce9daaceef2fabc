-- `operators::compose::gathered` meets its contract. The invariant: the word has what the first k places bring.
-- Assumes nothing.
use Prim.Native.Nat.{ℕ, ◌<◌}
use mathlib.Core.Path.{◌≡◌}
use mathlib.Core.Bool.{Bool}
use lib.ListN.{length}
use Rattle.numbers.specs.Lists.{entry_at}
use Rattle.operators.specs.Bits.{gathered}
use Rattle.operators.proofs.compose.gathered.Given as goal

abbrev pub invariant-loop-k : goal.invariant-loop-k
invariant-loop-k g l =
    (q : ℕ → Bool) → ((k : ℕ) (b : Bool) → k < length l.list → goal.P-post g l.p k b → b ≡ q k) → l.w ≡ gathered l.k q (entry_at l.list)
