use Rattle.operators.proofs.GatherLaws.{adding_start, adding_turn, adding_end}
use Rattle.operators.specs.Galerkin.{scaled_term}
use Rattle.operators.proofs.galerkin.add_forward.Goals as goal

pub loop-q-init : goal.loop-q-init
loop-q-init c = adding_start

pub loop-q-preserved : goal.loop-q-preserved
unfolding scaled_term
loop-q-preserved c = adding_turn c.loop-q.invariant c.loop-q-test.true c.get-u.ensures (rw c.mul.ensures at c.add_term.ensures)

pub returns : goal.returns
returns c = adding_end c.loop-q.invariant c.loop-q-test.false
