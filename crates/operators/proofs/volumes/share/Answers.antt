use Rattle.numbers.proofs.Equations.{read_from_is}
use Rattle.operators.proofs.VolumeLaws.{weighing_start, weighing_turn, weighing_end}
use Rattle.operators.proofs.volumes.share.Goals as goal

pub loop-q-init : goal.loop-q-init
loop-q-init c = weighing_start c.zero-sum.ensures

pub loop-q-preserved : goal.loop-q-preserved
loop-q-preserved c = weighing_turn c.loop-q.invariant c.loop-q-test.true (rw read_from_is c.get-v.ensures) c.get.ensures c.mul.ensures c.add-sum.ensures

pub returns : goal.returns
returns c = weighing_end c.loop-q.invariant c.loop-q-test.false
