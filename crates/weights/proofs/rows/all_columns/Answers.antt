use native.Mathlib.Omega.{arith}
use Rattle.lattice.specs.Grid.{unknowns_of}
use Rattle.lattice.proofs.GridLaws.{unknowns_most}
use mathlib.Core.Path.{◌≡◌}
use Rattle.weights.specs.Tables.{columns_row}
use Rattle.numbers.proofs.RowLoops.{going_start, going_turn, going_end, starting_start, starting_turn, starting_end}
use Rattle.weights.proofs.RowLaws.{at_low, columns_most}
use Rattle.weights.proofs.rows.all_columns.Goals as goal

pub loop-r-init : goal.loop-r-init
loop-r-init c = (omega (arith, unknowns_most c.requires.limits), starting_start, going_start)

pub columns_at-k-requires-clause-slots : goal.columns_at-k-requires-clause-slots
columns_at-k-requires-clause-slots c = at_low c.requires.limits (omega arith) c.at.ensures

pub loop-r-preserved : goal.loop-r-preserved
loop-r-preserved c =
    let l = at_low c.requires.limits (omega arith) c.at.ensures in
    let u = c.loop-r.invariant in
    let t = c.loop-r-test.true in
    let e = c.columns_at-k.ensures in
    let g = going_turn u.2 t c.at.ensures e (columns_most c.args.t.now.places_of _ l.i_low l.j_low l.k_low) in
    (u.0, starting_turn u.1 g c.push-in-loop-r.ensures, g)

pub returns-clause-starts_after : goal.returns-clause-starts_after
unfolding columns_row
returns-clause-starts_after c = let l = c.loop-r in
    let e : l.r ≡ unknowns_of c.args.gf = omega arith in (starting_end c.push.ensures l.invariant.1 e).list

pub returns-clause-laid : goal.returns-clause-laid
unfolding columns_row
returns-clause-laid c = let l = c.loop-r in
    let e : l.r ≡ unknowns_of c.args.gf = omega arith in going_end l.invariant.2 c.loop-r-test.false c.unknowns-n.ensures
