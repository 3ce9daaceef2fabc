use native.Mathlib.Omega.{arith}
use Rattle.numbers.proofs.MarkedLaws.{spread_start, spread_turn}
use Rattle.store.proofs.RaisedLaws.{spread_raised}
use Rattle.store.proofs.PassLaws.{first_mutual}
use Rattle.reach.proofs.flags.first_rows.Goals as goal

pub unknowns-n-requires : goal.unknowns-n-requires
unknowns-n-requires c = c.args.l.now.limits

pub loop-c-init : goal.loop-c-init
loop-c-init c = (omega arith, spread_start)

pub first_row-requires-clause-c_bound : goal.first_row-requires-clause-c_bound
first_row-requires-clause-c_bound c = omega (arith, c.unknowns-n.ensures)

pub first_row-requires-clause-grid_in_bounds : goal.first_row-requires-clause-grid_in_bounds
first_row-requires-clause-grid_in_bounds c = omega (arith, c.loop-c.invariant.1.same_long, c.requires.grid_in_bounds)

pub loop-c-preserved : goal.loop-c-preserved
loop-c-preserved c = (omega arith, spread_turn c.loop-c.invariant.1 c.first_row.ensures)

pub returns : goal.returns
returns c = spread_raised (first_mutual _ c.args.l.now.limits) c.loop-c.invariant.1 (omega (arith, c.unknowns-n.ensures))
