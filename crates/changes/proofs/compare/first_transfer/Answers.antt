use Rattle.std.proofs.Common.{◌≡◌, ◌+◌, suc}
use native.Mathlib.Omega.{arith}
use Rattle.store.proofs.CompareLaws.{next_edges_lem, transfers_start, forward_room, turned_room_lem, transfers_bad, forward_behind, turned_behind, transfers_turn, transfers_end}
use Rattle.changes.proofs.compare.first_transfer.Goals as goal

pub loop-level-init : goal.loop-level-init
loop-level-init c = transfers_start

pub same_transfer-requires-clause-level_lt_m : goal.same_transfer-requires-clause-level_lt_m
same_transfer-requires-clause-level_lt_m c = c.loop-level-test.true

pub same_transfer-requires-clause-part_room : goal.same_transfer-requires-clause-part_room
same_transfer-requires-clause-part_room c = (forward_room c.loop-level.invariant c.loop-level-test.true c.requires.m_in_bounds.0 c.requires.m_in_bounds.1)

pub same_transfer-requires-clause-part_room_2 : goal.same_transfer-requires-clause-part_room_2
same_transfer-requires-clause-part_room_2 c = (turned_room_lem c.loop-level.invariant c.loop-level-test.true c.requires.m_in_bounds_2.0 c.requires.m_in_bounds_2.1)

pub returns-then-not-same_transfer : goal.returns-then-not-same_transfer
returns-then-not-same_transfer c = (omega (arith, c.loop-level-test.true), transfers_bad c.loop-level.invariant c.loop-level-test.true c.same_transfer.ensures (c.if-not-same_transfer.true))

pub behind-o-requires : goal.behind-o-requires
behind-o-requires c = forward_behind c.loop-level.invariant c.loop-level-test.true c.same_transfer.ensures (c.if-not-same_transfer.false) c.args.h.now.l.limits c.args.h.now.few c.edges.ensures (forward_room c.loop-level.invariant c.loop-level-test.true c.requires.m_in_bounds.0 c.requires.m_in_bounds.1)

pub overflow_add-level : goal.overflow_add-level
overflow_add-level c = omega (arith, c.loop-level-test.true, c.args.h.now.few)

pub behind-t-requires : goal.behind-t-requires
behind-t-requires c = turned_behind c.loop-level.invariant c.loop-level-test.true c.same_transfer.ensures (c.if-not-same_transfer.false) c.args.h.now.l.limits c.args.h.now.few (next_edges_lem _ _ c.edges-in-loop-level.ensures) (turned_room_lem c.loop-level.invariant c.loop-level-test.true c.requires.m_in_bounds_2.0 c.requires.m_in_bounds_2.1)

pub loop-level-smaller : goal.loop-level-smaller
loop-level-smaller c = omega (arith, c.loop-level-test.true)

pub loop-level-preserved : goal.loop-level-preserved
loop-level-preserved c = transfers_turn c.loop-level.invariant c.loop-level-test.true c.same_transfer.ensures (c.if-not-same_transfer.false) c.edges.ensures (next_edges_lem _ _ c.edges-in-loop-level.ensures) c.behind-o.ensures c.behind-t.ensures

pub returns : goal.returns
returns c = let z : c.args.h.now.m + 1 ≡ suc c.args.h.now.m = omega arith in rw z at (transfers_end c.loop-level.invariant c.loop-level-test.false)
