use Rattle.std.proofs.Common.{◌<◌}
use Rattle.changes.proofs.SliceLaws.{part_at}
use Rattle.store.proofs.TurnLaws.{row_start, row_turn, row_stop, row_end, row_true}
use mathlib.Core.Path.{refl}
use native.Mathlib.Omega.{arith}
use Rattle.changes.proofs.compare.same_terms.Goals as goal

pub loop-c-init : goal.loop-c-init
loop-c-init c = (omega arith, row_start c.args.columns.now c.args.k c.args.r)

pub same_term-requires-clause-c_lt_m : goal.same_term-requires-clause-c_lt_m
same_term-requires-clause-c_lt_m c =
    let h : c.loop-c.c-index < c.args.n = omega arith in
    let z = part_at c.args.columns.now c.args.k c.args.n c.loop-c.c-index h in
    rw z (c.requires.by_index _ h, omega (arith, c.loop-c.invariant.1.long, c.requires.n_in_bounds.1))

pub returns-then-not-same_term : goal.returns-then-not-same_term
returns-then-not-same_term c =
    let h : c.loop-c.c-index < c.args.n = omega arith in
    let z = part_at c.args.columns.now c.args.k c.args.n c.loop-c.c-index h in
    row_stop c.args.columns.now c.args.k c.args.r c.loop-c.c-index c.loop-c.invariant.1 (rw z at c.same_term.ensures) _ h (c.if-not-same_term.true) refl

pub loop-c-preserved : goal.loop-c-preserved
loop-c-preserved c =
    let h : c.loop-c.c-index < c.args.n = omega arith in
    let z = part_at c.args.columns.now c.args.k c.args.n c.loop-c.c-index h in
    (omega (arith, h), row_true (row_turn c.args.columns.now c.args.k c.args.r c.loop-c.c-index c.loop-c.invariant.1 (rw z at c.same_term.ensures)) (c.if-not-same_term.false))

pub returns : goal.returns
returns c = row_end c.args.columns.now c.args.k c.args.r c.loop-c.c-index c.args.n c.loop-c.invariant.1 (omega (arith, c.loop-c.invariant.0, c.loop-c-test.false))
