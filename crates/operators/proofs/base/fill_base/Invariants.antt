-- `operators::base::fill_base` meets its contract. The invariant: the first q relations are level 0's.
-- Assumes nothing.
use Prim.Native.Nat.{◌≤◌}
use mathlib.Core.Path.{◌≡◌}
use lib.ListN.{length}
use Rattle.operators.specs.Base.{base_words}
use Rattle.operators.specs.Numbered.{relations_laid}
use Rattle.operators.proofs.base.fill_base.Given as goal

abbrev pub invariant-loop-q : goal.invariant-loop-q
invariant-loop-q l = (l.q ≤ 18) × (length l.t ≡ 1152) × (l.t ≡ relations_laid (base_words l.n l.bloch) l.q l.initial.t)
