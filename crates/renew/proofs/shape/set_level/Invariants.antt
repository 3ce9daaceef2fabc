-- `renew::shape::set_level` meets its contract.
-- Assumes nothing.
use Prim.Native.Nat.{◌≤◌}
use Rattle.store.specs.Shape.{words_by, LevelSet}
use Rattle.renew.proofs.shape.set_level.Given as goal

abbrev pub invariant-loop-i : goal.invariant-loop-i
invariant-loop-i l =
    (l.i ≤ 7) × LevelSet (words_by l.fn.choice l.fine l.coarse l.fn.k) l.p l.base l.initial.shape l.i l.next l.shape
