-- `operators::averaged::wrapped_place` meets its contract.
-- Assumes nothing.
use native.Mathlib.Omega.{arith}
use Rattle.operators.proofs.HatLaws.{wrapped_inside, wrapped_beyond, wrapped_index, wrapped_sum}
use Rattle.operators.proofs.averaged.wrapped_place.Goals as goal

pub returns-then-q-n : goal.returns-then-q-n
returns-then-q-n c = wrapped_inside c.requires c.args.q c.if-q-n.true

pub offset_bounds-l-q-2 : goal.offset_bounds-l-q-2
offset_bounds-l-q-2 c = omega (arith, wrapped_index c.requires c.args.q)

pub bounds-l-q-2 : goal.bounds-l-q-2
bounds-l-q-2 c = omega (arith, wrapped_index c.requires c.args.q)

pub overflow_add-result : goal.overflow_add-result
overflow_add-result c =
    omega (arith, wrapped_sum c.requires c.args.q)

pub returns : goal.returns
returns c =
    wrapped_beyond c.requires c.args.q c.if-q-n.false
