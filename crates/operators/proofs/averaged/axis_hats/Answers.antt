use native.Mathlib.Omega.{arith}
use Rattle.operators.proofs.HatLaws.{nodes_from, axis_start, axis_turn, axis_end}
use Rattle.operators.proofs.averaged.axis_hats.Goals as goal

pub loop-m-init : goal.loop-m-init
loop-m-init c = (omega arith, axis_start)

pub push_around-requires-clause-nodes_from : goal.push_around-requires-clause-nodes_from
push_around-requires-clause-nodes_from c = nodes_from c.requires.line_pair c.nodes_of-nn.ensures

pub loop-m-preserved : goal.loop-m-preserved
loop-m-preserved c = (omega arith, axis_turn c.requires.line_pair c.requires.axis_bound c.requires.hats_len c.loop-m.invariant.1 c.loop-m-test.true c.push_around.ensures)

pub returns : goal.returns
returns c = axis_end c.loop-m.invariant.1 (omega arith)
