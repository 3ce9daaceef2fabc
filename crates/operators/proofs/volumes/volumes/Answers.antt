use native.Mathlib.Omega.{arith}
use Rattle.lattice.proofs.GridLaws.{unknowns_most}
use Rattle.operators.proofs.VolumeLaws.{placing_start, placing_turn, placing_long, placing_end, placing_finite}
use Rattle.operators.proofs.volumes.volumes.Goals as goal

pub loop-r-init : goal.loop-r-init
loop-r-init c = placing_start

pub overflow_add-k : goal.overflow_add-k
overflow_add-k c = omega (arith, unknowns_most c.args.l.now.limits)

pub loop-r-preserved : goal.loop-r-preserved
loop-r-preserved c = placing_turn c.loop-r.invariant c.loop-r-test.true c.volume.ensures c.put.ensures

pub finite_numbers-requires : goal.finite_numbers-requires
finite_numbers-requires c = omega (arith, placing_long c.loop-r.invariant, unknowns_most c.args.l.now.limits)

pub returns-clause-scaling_after : goal.returns-clause-scaling_after
returns-clause-scaling_after c = rw (← c.unknowns-n.ensures) (placing_end c.loop-r.invariant c.loop-r-test.false)

pub returns-clause-value : goal.returns-clause-value
returns-clause-value c =
    rw (← c.unknowns-n.ensures) (placing_finite c.loop-r.invariant c.loop-r-test.false (omega arith) c.finite_numbers.ensures)
