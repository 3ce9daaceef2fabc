use Rattle.store.specs.Hierarchy.{the_lattice}
use Rattle.std.proofs.Common.{◌≡◌, ◌+◌, suc}
use Rattle.store.proofs.CompareLaws.{next_edges_lem, gives_long, operators_start, operators_room, operators_most, operators_bad, operators_behind, operators_turn, operators_end}
use native.Mathlib.Omega.{arith}
use Rattle.changes.proofs.compare.coarse_operator.Goals as goal

pub base_relations-u-requires : goal.base_relations-u-requires
base_relations-u-requires c = c.args.h.now.l.limits

pub loop-level-init : goal.loop-level-init
loop-level-init c = operators_start c.args.h.now.l.limits _ c.requires.m_nonzero c.base_relations-u.ensures

pub next_columns-u-requires-clause-level_lt_m : goal.next_columns-u-requires-clause-level_lt_m
next_columns-u-requires-clause-level_lt_m c = c.loop-level-test.true

pub next_columns-u-requires-clause-gives : goal.next_columns-u-requires-clause-gives
next_columns-u-requires-clause-gives c = c.loop-level.invariant.gives

pub overflow_add-level : goal.overflow_add-level
overflow_add-level c = omega (arith, c.loop-level-test.true, c.args.h.now.few)

pub same_operator-requires-clause-u_len : goal.same_operator-requires-clause-u_len
same_operator-requires-clause-u_len c = gives_long (the_lattice c.args.h.now) c.args.h.now.l.limits c.args.choice (suc c.loop-level.level) c.next_columns-u.result c.next_columns-u.ensures

pub same_operator-requires-clause-by_index : goal.same_operator-requires-clause-by_index
same_operator-requires-clause-by_index c = operators_most c.args.h.now.l.limits _ c.loop-level.invariant c.loop-level-test.true c.requires.m_in_bounds.0 c.requires.m_in_bounds.1 c.next_columns-u.result c.next_columns-u.ensures

pub same_operator-requires-clause-part_room : goal.same_operator-requires-clause-part_room
same_operator-requires-clause-part_room c = operators_room c.args.h.now.l.limits _ c.loop-level.invariant c.loop-level-test.true c.requires.m_in_bounds.0 c.requires.m_in_bounds.1 c.next_columns-u.result c.next_columns-u.ensures

pub overflow_add-result : goal.overflow_add-result
overflow_add-result c = omega (arith, c.loop-level-test.true, c.args.h.now.few)

pub returns-then-not-same_operator : goal.returns-then-not-same_operator
returns-then-not-same_operator c = (omega (arith, c.loop-level-test.true), operators_bad c.args.h.now.l.limits _ c.loop-level.invariant c.loop-level-test.true c.requires.m_in_bounds.0 c.requires.m_in_bounds.1 c.next_columns-u.result c.next_columns-u.ensures c.same_operator.ensures (c.if-not-same_operator.true))

pub overflow_add-level-in-loop-level : goal.overflow_add-level-in-loop-level
overflow_add-level-in-loop-level c = omega (arith, c.loop-level-test.true, c.args.h.now.few)

pub behind-o-requires : goal.behind-o-requires
behind-o-requires c = operators_behind c.args.h.now.l.limits _ c.loop-level.invariant c.loop-level-test.true c.requires.m_in_bounds.0 c.requires.m_in_bounds.1 c.next_columns-u.result c.next_columns-u.ensures c.same_operator.ensures (c.if-not-same_operator.false) (next_edges_lem _ _ c.edges.ensures) c.args.h.now.few

pub loop-level-smaller : goal.loop-level-smaller
loop-level-smaller c = omega (arith, c.loop-level-test.true)

pub loop-level-preserved : goal.loop-level-preserved
loop-level-preserved c = operators_turn c.args.h.now.l.limits _ c.loop-level.invariant c.loop-level-test.true c.requires.m_in_bounds.0 c.requires.m_in_bounds.1 c.next_columns-u.result c.next_columns-u.ensures c.same_operator.ensures (c.if-not-same_operator.false) (next_edges_lem _ _ c.edges.ensures) c.behind-o.ensures

pub returns : goal.returns
returns c = let z : c.args.h.now.m + 1 ≡ suc c.args.h.now.m = omega arith in rw z at (operators_end c.loop-level.invariant c.loop-level-test.false)
