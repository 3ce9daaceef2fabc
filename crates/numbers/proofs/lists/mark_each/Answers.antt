use native.Mathlib.Omega.{arith}
use Rattle.std.proofs.lemmas.List.{get_or-take, length-take-le}
use Rattle.numbers.proofs.MarkedLaws.{marking_start, marking_turn, marking_low, marking_all, marked_one}
use Rattle.numbers.proofs.lists.mark_each.Goals as goal

pub loop-c-init : goal.loop-c-init
loop-c-init c = marking_start

pub bounds-flags-c : goal.bounds-flags-c
bounds-flags-c c = rw (get_or-take c.args.n c.args.columns.now c.loop-c.c-index 0 (omega (arith, length-take-le c.args.n c.args.columns.now c.requires.n_in_bounds))) (marking_low c.loop-c.invariant c.requires.below (omega (arith, length-take-le c.args.n c.args.columns.now c.requires.n_in_bounds)))

pub loop-c-preserved : goal.loop-c-preserved
loop-c-preserved c =
    marking_turn c.loop-c.invariant (omega (arith, length-take-le c.args.n c.args.columns.now c.requires.n_in_bounds)) (omega (arith, length-take-le c.args.n c.args.columns.now c.requires.n_in_bounds))
    (rw (get_or-take c.args.n c.args.columns.now c.loop-c.c-index 0 (omega (arith, length-take-le c.args.n c.args.columns.now c.requires.n_in_bounds))) (marked_one (marking_low c.loop-c.invariant c.requires.below (omega (arith, length-take-le c.args.n c.args.columns.now c.requires.n_in_bounds)))))

pub returns : goal.returns
returns c = marking_all c.loop-c.invariant (omega (arith, length-take-le c.args.n c.args.columns.now c.requires.n_in_bounds)) (omega (arith, length-take-le c.args.n c.args.columns.now c.requires.n_in_bounds))
