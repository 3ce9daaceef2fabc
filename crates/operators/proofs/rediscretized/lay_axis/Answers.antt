use mathlib.Core.Path.{◌∙◌, ap}
use Rattle.numbers.specs.Complex.{real_times}
use native.Mathlib.Omega.{arith}
use Rattle.operators.proofs.RediscretizedLaws.{axis_start, axis_turn, axis_end}
use Rattle.operators.proofs.rediscretized.lay_axis.Goals as goal

pub loop-m-init : goal.loop-m-init
loop-m-init c = (omega arith, axis_start)

pub loop-m-preserved : goal.loop-m-preserved
loop-m-preserved c = (
  omega (arith, c.loop-m-test.true),
  axis_turn c.loop-m.invariant.1 c.requires.limits.1 (omega (arith, c.loop-m-test.true, c.requires.held.most)) c.requires.out_len
      (c.mul.ensures ∙ ap (real_times _) c.node_width.ensures) c.put.ensures
      (c.mul-in-loop-m.ensures ∙ ap (real_times _) c.cell_length.ensures) c.put-in-loop-m.ensures,
)

pub returns : goal.returns
returns c = axis_end _ _ _ _ c.requires.held c.unit-u.ensures c.loop-m.invariant.1 c.loop-m.invariant.0 c.loop-m-test.false
