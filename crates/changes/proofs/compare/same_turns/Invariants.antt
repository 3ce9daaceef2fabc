-- `changes::compare::same_turns` meets its contract. The terms of the first r rows have been found.
-- Assumes nothing.
use Prim.Native.Nat.{◌≤◌}
use mathlib.Core.Bool.{true}
use Rattle.numbers.specs.Lists.{rows}
use Rattle.store.specs.Compare.{TurnedBy, named_by}
use Rattle.changes.proofs.compare.same_turns.Given as goal

abbrev pub invariant-loop-r : goal.invariant-loop-r
invariant-loop-r l =
    (l.r ≤ l.n) × TurnedBy (λ c. rows (named_by l.starts l.s l.columns l.k c) l.r) l.m l.initial.next l.tcolumns l.tk l.count true l.next
