use native.Mathlib.Omega.{arith}
use Rattle.lattice.proofs.GridLaws.{unknowns_most}
use Rattle.weights.proofs.EpsLaws.{adding_turn, adding_end, along_low}
use Rattle.weights.proofs.eps.sum_of_inverses.Goals as goal

pub overflow_add-from : goal.overflow_add-from
overflow_add-from c =
    omega (arith, along_low c.requires.limits c.requires.line_inside c.loop-m-test.true c.moved_to.ensures c.index-c.ensures, unknowns_most c.requires.limits)

pub get-requires : goal.get-requires
get-requires c =
    omega (arith, along_low c.requires.limits c.requires.line_inside c.loop-m-test.true c.moved_to.ensures c.index-c.ensures)

pub loop-m-preserved : goal.loop-m-preserved
loop-m-preserved c =
    adding_turn c.loop-m.invariant c.loop-m-test.true c.moved_to.ensures
    c.index-c.ensures c.get.ensures c.div.ensures c.add-sum.ensures

pub returns : goal.returns
returns c = adding_end c.loop-m.invariant c.loop-m-test.false
