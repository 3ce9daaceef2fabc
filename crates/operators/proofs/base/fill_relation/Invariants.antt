-- `operators::base::fill_relation` meets its contract. The invariant: the first i words are filled.
-- Assumes nothing.
use Prim.Native.Nat.{◌≤◌}
use Rattle.operators.specs.Base.{base_word}
use Rattle.operators.proofs.TableLaws.{Filling}
use Rattle.operators.proofs.base.fill_relation.Given as goal

abbrev pub invariant-loop-i : goal.invariant-loop-i
invariant-loop-i l = (l.i ≤ l.n) × Filling (base_word l.n l.bloch l.w) l.n l.initial.t l.at l.i l.t
