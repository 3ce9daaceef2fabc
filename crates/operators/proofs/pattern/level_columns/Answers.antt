use mathlib.Core.Path.{◌≡◌, refl}
use native.Mathlib.Omega.{arith}
use Rattle.lattice.specs.Grid.{unknowns_of}
use Rattle.lattice.proofs.GridLaws.{unknowns_most, at_inside}
use Rattle.numbers.proofs.RowLoops.{going_start, going_turn, going_end, starting_start, starting_turn, starting_end}
use Rattle.operators.proofs.LevelTableLaws.{row_laid_lem, pattern_most}
use Rattle.operators.proofs.pattern.level_columns.Goals as goal

pub loop-r-init : goal.loop-r-init
loop-r-init c = (omega (arith, unknowns_most c.requires.limits), starting_start, going_start)

pub row_columns-next-requires-clause-inside : goal.row_columns-next-requires-clause-inside
row_columns-next-requires-clause-inside c = rw c.at-p.ensures (at_inside c.requires.limits _ (omega arith))

pub loop-r-preserved : goal.loop-r-preserved
loop-r-preserved c =
    let w = row_laid_lem _ _ _ _ c.at-p.ensures c.fixed_at-fixed.ensures c.row_columns-next.ensures in
    let g = going_turn c.loop-r.invariant.2 c.loop-r-test.true refl w (pattern_most _ _ c.requires.limits _) in
    (c.loop-r.invariant.0, starting_turn c.loop-r.invariant.1 g c.push-in-loop-r.ensures, g)

pub returns-clause-starts_after : goal.returns-clause-starts_after
returns-clause-starts_after c = let e : c.loop-r.r ≡ unknowns_of c.args.g = omega arith in (starting_end c.push.ensures c.loop-r.invariant.1 e).list

pub returns-clause-laid : goal.returns-clause-laid
returns-clause-laid c = let e : c.loop-r.r ≡ unknowns_of c.args.g = omega arith in going_end c.loop-r.invariant.2 c.loop-r-test.false c.unknowns-n.ensures
