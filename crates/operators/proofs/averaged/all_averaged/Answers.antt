use native.Mathlib.Omega.{arith}
use Rattle.lattice.proofs.GridLaws.{unknowns_most}
use Rattle.weights.proofs.EpsLaws.{chaining_start, chaining_end}
use Rattle.operators.proofs.AverageLaws.{averaging_turn, ready_at}
use Rattle.operators.proofs.averaged.all_averaged.Goals as goal

pub loop-r-init : goal.loop-r-init
loop-r-init c = chaining_start

pub averaged_eps_at-v-requires-clause-average_ready :
    goal.averaged_eps_at-v-requires-clause-average_ready
averaged_eps_at-v-requires-clause-average_ready c =
    ready_at c.requires.limits.1 c.requires.averages_ready c.loop-r-test.true c.unknowns-n.ensures c.at.ensures

pub overflow_add-to : goal.overflow_add-to
overflow_add-to c =
    omega (arith, c.requires.chain_room.low, unknowns_most c.requires.limits.1, c.unknowns-n.ensures)

pub loop-r-preserved : goal.loop-r-preserved
loop-r-preserved c =
    averaging_turn c.requires.limits.1 c.requires.averages_ready c.requires.chain_room c.loop-r.invariant c.loop-r-test.true c.unknowns-n.ensures
    c.at.ensures
    c.averaged_eps_at-v.ensures c.put.ensures

pub returns : goal.returns
returns c = chaining_end c.loop-r.invariant c.loop-r-test.false c.unknowns-n.ensures
