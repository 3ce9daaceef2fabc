-- `operators::averaged::push_between` meets its contract.
-- Assumes nothing.
use Prim.Native.Nat.{◌+◌, ◌-◌}
use native.Mathlib.Omega.{arith}
use Rattle.operators.proofs.HatLaws.{width_most, number_below, walk_ready}
use Rattle.operators.proofs.averaged.push_between.Goals as goal

pub overflow_sub-at : goal.overflow_sub-at
overflow_sub-at c = (width_most c.requires.line_pair (c.args.end - 1) c.args.end (omega (arith, c.requires.end_bound.0)) c.requires.end_bound.1).0

pub overflow_add-nn : goal.overflow_add-nn
overflow_add-nn c =
    omega (arith, c.requires.line_pair.fine_held.most, number_below c.requires.line_pair c.requires.nodes_from (c.args.end - 1) {i = c.args.o + c.args.end - 1} (omega (arith, c.requires.end_bound.0)) (omega (arith, c.requires.end_bound.0, c.requires.end_bound.1)))

pub walk_lower-requires-clause-le_first : goal.walk_lower-requires-clause-le_first
walk_lower-requires-clause-le_first c =
    walk_ready c.requires.line_pair c.requires.nodes_from (c.args.end - 1) c.args.end (omega (arith, c.requires.end_bound.0)) (omega (arith, c.requires.end_bound.0)) c.requires.end_bound.1
