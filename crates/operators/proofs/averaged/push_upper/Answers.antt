use Rattle.operators.proofs.HatLaws.{climbing_start, climbing_turn, climbing_end}
use Rattle.operators.proofs.averaged.push_upper.Goals as goal

pub loop-q-init : goal.loop-q-init
loop-q-init c = climbing_start

pub loop-q-preserved : goal.loop-q-preserved
loop-q-preserved c =
    climbing_turn c.requires.last_le_cells.0 c.loop-q.invariant c.loop-q-test.true c.hat_weight.ensures c.push_hat-k.ensures

pub returns : goal.returns
returns c = climbing_end c.loop-q.invariant c.loop-q-test.false
