-- `operators::averaged::axis_hats` meets its contract. The invariant (`AxisHats`): the first m nodes have their hats, and the other axes' are as they were.
-- Assumes nothing.
use Prim.Native.Nat.{◌≤◌}
use Rattle.lattice.specs.Line.{ends_of}
use Rattle.operators.specs.Averaged.{AxisHats}
use Rattle.operators.proofs.averaged.axis_hats.Given as goal

abbrev pub invariant-loop-m : goal.invariant-loop-m
invariant-loop-m l = (l.m ≤ l.c.cells) × AxisHats l.wall (ends_of l.f) (ends_of l.c) l.axis l.m l.initial.hats l.initial.counts l.hats l.counts
