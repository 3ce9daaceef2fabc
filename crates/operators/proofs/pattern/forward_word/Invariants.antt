-- `operators::pattern::forward_word` meets its contract. The invariant: the word has the first places of the slot.
-- Assumes nothing.
use mathlib.Core.Path.{◌≡◌}
use Rattle.operators.proofs.LevelTableLaws.{placed}
use Rattle.operators.proofs.pattern.forward_word.Given as goal

abbrev pub invariant-loop-p : goal.invariant-loop-p
invariant-loop-p l = l.w ≡ placed l.ps l.ns l.q l.p-index
