-- `operators::tables::coarsen` meets its contract. The invariant: the first q relations are those one level down.
-- Assumes nothing.
use Prim.Native.Nat.{◌≤◌}
use mathlib.Core.Path.{◌≡◌}
use lib.ListN.{length}
use Rattle.operators.specs.Numbered.{relations_laid, words_below}
use Rattle.operators.proofs.tables.coarsen.Given as goal

abbrev pub invariant-loop-q : goal.invariant-loop-q
invariant-loop-q l = (l.q ≤ 18) × (length l.out ≡ 1152) × (l.out ≡ relations_laid (words_below l.t l.f l.n l.m) l.q l.initial.out)
