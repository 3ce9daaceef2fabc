use native.Mathlib.Omega.{arith}
use Rattle.operators.proofs.MutualRows.{reads_mutual}
use Rattle.numbers.proofs.MarkedLaws.{spread_start, spread_turn}
use Rattle.store.proofs.RaisedLaws.{spread_raised}
use Rattle.reach.proofs.flags.lattice_flags.Goals as goal

pub unknowns-n-requires : goal.unknowns-n-requires
unknowns-n-requires c = c.args.l.now.limits

pub loop-c-init : goal.loop-c-init
loop-c-init c = (omega arith, spread_start)

pub lattice_row-requires-clause-c_bound : goal.lattice_row-requires-clause-c_bound
lattice_row-requires-clause-c_bound c = omega (arith, c.unknowns-n.ensures)

pub lattice_row-requires-clause-grid_in_bounds : goal.lattice_row-requires-clause-grid_in_bounds
lattice_row-requires-clause-grid_in_bounds c = omega (arith, c.loop-c.invariant.1.same_long, c.requires)

pub loop-c-preserved : goal.loop-c-preserved
loop-c-preserved c = (omega arith, spread_turn c.loop-c.invariant.1 c.lattice_row.ensures)

pub returns : goal.returns
returns c = spread_raised (reads_mutual _ c.args.l.now.limits) c.loop-c.invariant.1 (omega (arith, c.unknowns-n.ensures))
