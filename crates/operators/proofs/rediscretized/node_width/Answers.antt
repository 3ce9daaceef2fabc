-- `operators::rediscretized::node_width` meets its contract.
-- Assumes nothing.
use native.Mathlib.Omega.{arith}
use Prim.Native.Nat.{◌-◌}
use mathlib.Core.Path.{◌∙◌}
use Rattle.operators.proofs.RediscretizedLaws.{width_first, width_next}
use Rattle.operators.proofs.rediscretized.node_width.Goals as goal

pub returns-then-m-eq0 : goal.returns-then-m-eq0
returns-then-m-eq0 c = c.first_width.ensures ∙ width_first _ _ _ _ c.if-m-eq0.true

pub offset_bounds-x-before : goal.offset_bounds-x-before
offset_bounds-x-before c = omega (arith, c.requires.tame.centres (c.args.m - 1) (omega arith))

pub bounds-x-before : goal.bounds-x-before
bounds-x-before c = omega (arith, c.requires.tame.centres (c.args.m - 1) (omega arith))

pub returns : goal.returns
returns c = width_next _ _ _ _ c.if-m-eq0.false c.place-before.ensures c.place-here.ensures c.sub.ensures
