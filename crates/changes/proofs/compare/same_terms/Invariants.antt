-- `changes::compare::same_terms` meets its contract. The terms of the first columns have been found.
-- Assumes nothing.
use Prim.Native.Nat.{◌≤◌}
use mathlib.Core.Bool.{true}
use Rattle.store.specs.Compare.{TurnedBy, named_in}
use Rattle.changes.proofs.compare.same_terms.Given as goal

abbrev pub invariant-loop-c : goal.invariant-loop-c
invariant-loop-c l =
    (l.c-index ≤ l.n) × TurnedBy (named_in l.columns l.k l.c-index l.r) l.m l.initial.next l.tcolumns l.tk l.count true l.next
