use native.Mathlib.Omega.{arith}
use Rattle.lattice.proofs.GridLaws.{unknowns_most}
use Rattle.weights.specs.Tables.{numbers_row}
use Rattle.numbers.proofs.RowLoops.{going_start, going_turn, going_end}
use Rattle.weights.proofs.RowLaws.{at_low, numbers_most}
use Rattle.weights.proofs.rows.all_numbers.Goals as goal

pub loop-r-init : goal.loop-r-init
loop-r-init c = (omega (arith, unknowns_most c.args.t.now.span_of.fine_in), going_start)

pub numbers_at-k-requires-clause-slots : goal.numbers_at-k-requires-clause-slots
numbers_at-k-requires-clause-slots c = at_low c.args.t.now.span_of.fine_in (omega arith) c.at.ensures

pub loop-r-preserved : goal.loop-r-preserved
loop-r-preserved c =
    let l = at_low c.args.t.now.span_of.fine_in (omega arith) c.at.ensures in
    let m = numbers_most c.args.t.now.span_of.places _ _ _ _ _ _ l.i_low l.j_low l.k_low in
    let u = c.loop-r.invariant in
    (u.0, going_turn u.1 c.loop-r-test.true c.at.ensures c.numbers_at-k.ensures m)

pub returns : goal.returns
unfolding numbers_row
returns c = going_end c.loop-r.invariant.1 c.loop-r-test.false c.unknowns-n.ensures
