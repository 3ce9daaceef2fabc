use native.Mathlib.Omega.{arith}
use mathlib.Core.Path.{sym, ap, ◌∙◌, refl}
use Rattle.lattice.specs.Line.{packed, ends_of}
use Rattle.lattice.proofs.LineLaws.{next_turn, length_ends, ends_at, coarser_none, joining_start, joining_next, joining_turn, joining_end}
use Rattle.lattice.proofs.line.coarser.Goals as goal

pub returns-then-n-lt4 : goal.returns-then-n-lt4
returns-then-n-lt4 c =
    let l = c.args.l in
    c.requires.tidy ∙ ap packed (sym (coarser_none c.args.x c.args.target (ends_of l) (omega (arith, length_ends l c.requires))))

pub loop-m-init : goal.loop-m-init
loop-m-init c =
    let l = c.args.l in
    (omega arith, joining_start (omega (arith, length_ends l c.requires)) (sym (ends_at l 0 (omega arith))))

pub offset_bounds-l-m-in-loop-m : goal.offset_bounds-l-m-in-loop-m
offset_bounds-l-m-in-loop-m c =
    let turned = next_turn _ _ _ _ c.second_behind-i.ensures c.next_end-m.ensures in
    omega (arith, (joining_next c.requires c.loop-m.invariant.1 c.loop-m-test.true turned).1)

pub bounds-l-m-in-loop-m : goal.bounds-l-m-in-loop-m
bounds-l-m-in-loop-m c =
    let turned = next_turn _ _ _ _ c.second_behind-i.ensures c.next_end-m.ensures in
    omega (arith, (joining_next c.requires c.loop-m.invariant.1 c.loop-m-test.true turned).1)

pub loop-m-smaller : goal.loop-m-smaller
loop-m-smaller c =
    let turned = next_turn _ _ _ _ c.second_behind-i.ensures c.next_end-m.ensures in
    omega (arith, (joining_next c.requires c.loop-m.invariant.1 c.loop-m-test.true turned).0)

pub loop-m-preserved : goal.loop-m-preserved
loop-m-preserved c =
    let turned = next_turn _ _ _ _ c.second_behind-i.ensures c.next_end-m.ensures in
    ((joining_next c.requires c.loop-m.invariant.1 c.loop-m-test.true turned).1, joining_turn c.requires c.loop-m.invariant.1 c.loop-m-test.true turned refl)

pub returns : goal.returns
returns c =
    let e = length_ends c.args.l c.requires in
    joining_end c.loop-m.invariant.1 (omega (arith, e)) (omega (arith, e)) (omega (arith, e, c.requires.most))
