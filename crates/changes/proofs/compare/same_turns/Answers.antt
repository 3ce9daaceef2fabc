use lib.ListN.{length}
use Rattle.store.proofs.TurnLaws.{rows_start, rows_turn, rows_bad, rows_end, row_true, walk_row}
use mathlib.Core.Path.{refl}
use native.Mathlib.Omega.{arith}
use Rattle.changes.proofs.compare.same_turns.Goals as goal

pub loop-r-init : goal.loop-r-init
loop-r-init c = (omega arith, rows_start c.args.starts.now c.args.s c.args.columns.now c.args.k)

pub overflow_add-first : goal.overflow_add-first
overflow_add-first c = omega (arith, c.loop-r-test.true, c.requires.walkable.starts_room)

pub bounds-starts-s : goal.bounds-starts-s
bounds-starts-s c = omega (arith, c.loop-r-test.true, c.requires.walkable.starts_room)

pub overflow_add-last : goal.overflow_add-last
overflow_add-last c = omega (arith, c.loop-r-test.true, c.requires.walkable.starts_room)

pub overflow_add-last-in-loop-r : goal.overflow_add-last-in-loop-r
overflow_add-last-in-loop-r c = omega (arith, c.loop-r-test.true, c.requires.walkable.starts_room)

pub bounds-starts-s-in-loop-r : goal.bounds-starts-s-in-loop-r
bounds-starts-s-in-loop-r c = omega (arith, c.loop-r-test.true, c.requires.walkable.starts_room)

pub overflow_add-k : goal.overflow_add-k
overflow_add-k c = omega (arith, c.requires.walkable.rise _ c.loop-r-test.true, c.requires.walkable.most _ c.loop-r-test.true)

pub overflow_sub-last : goal.overflow_sub-last
overflow_sub-last c = c.requires.walkable.rise _ c.loop-r-test.true

pub same_terms-requires-clause-n_in_bounds : goal.same_terms-requires-clause-n_in_bounds
same_terms-requires-clause-n_in_bounds c = (walk_row c.requires.walkable {w = length c.loop-r.next} c.loop-r-test.true (omega (arith, c.loop-r.invariant.1.long, c.requires.m_in_bounds))).0

pub same_terms-requires-clause-by_index : goal.same_terms-requires-clause-by_index
same_terms-requires-clause-by_index c = (walk_row c.requires.walkable {w = length c.loop-r.next} c.loop-r-test.true (omega (arith, c.loop-r.invariant.1.long, c.requires.m_in_bounds))).1.0

pub same_terms-requires-clause-count_in_bounds : goal.same_terms-requires-clause-count_in_bounds
same_terms-requires-clause-count_in_bounds c = (walk_row c.requires.walkable {w = length c.loop-r.next} c.loop-r-test.true (omega (arith, c.loop-r.invariant.1.long, c.requires.m_in_bounds))).1.1

pub returns-then-not-same_terms : goal.returns-then-not-same_terms
returns-then-not-same_terms c = rows_bad c.args.starts.now c.args.s c.args.columns.now c.args.k c.loop-r.r c.loop-r.invariant.1 c.same_terms.ensures _ c.loop-r-test.true (c.if-not-same_terms.true) refl

pub loop-r-preserved : goal.loop-r-preserved
loop-r-preserved c = (omega (arith, c.loop-r-test.true), row_true (rows_turn c.args.starts.now c.args.s c.args.columns.now c.args.k c.loop-r.r c.loop-r.invariant.1 c.same_terms.ensures) (c.if-not-same_terms.false))

pub returns : goal.returns
returns c = rows_end c.args.starts.now c.args.s c.args.columns.now c.args.k c.loop-r.r c.args.n c.loop-r.invariant.1 (omega (arith, c.loop-r.invariant.0, c.loop-r-test.false))
