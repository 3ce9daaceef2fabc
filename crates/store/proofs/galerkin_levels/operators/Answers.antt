use Rattle.store.proofs.OperatorLaws.{growing_start, growing_ready, growing_count, growing_turn, growing_end, transfer_last}
use Rattle.store.proofs.galerkin_levels.operators.Goals as goal

pub loop-level-init : goal.loop-level-init
loop-level-init c = growing_start _ c.args.h.now.l.limits _ (c.requires.m_nonzero, c.args.h.now.few) c.requires.operators_ready c.requires.operator_room c.first_relations-u.ensures c.first_offsets-o.ensures

pub level_operator-ok-requires-clause-level_ready : goal.level_operator-ok-requires-clause-level_ready
level_operator-ok-requires-clause-level_ready c = growing_ready _ c.args.h.now.l.limits _ (c.requires.m_nonzero, c.args.h.now.few) c.requires.operators_ready c.requires.operator_room c.loop-level.invariant c.loop-level-test.true c.next_relations-u.ensures

pub next_part-q-requires-clause-level_in_bounds : goal.next_part-q-requires-clause-level_in_bounds
next_part-q-requires-clause-level_in_bounds c = growing_count _ c.args.h.now.l.limits _ (c.requires.m_nonzero, c.args.h.now.few) c.requires.operators_ready c.requires.operator_room c.loop-level.invariant c.loop-level-test.true c.next_relations-u.ensures c.level_operator-ok.ensures

pub next_offsets-o-requires-clause-level_in_bounds : goal.next_offsets-o-requires-clause-level_in_bounds
next_offsets-o-requires-clause-level_in_bounds c = transfer_last _ _ c.requires.operators_ready c.loop-level-test.true c.loop-level.invariant.o_is

pub loop-level-preserved : goal.loop-level-preserved
loop-level-preserved c = growing_turn _ c.args.h.now.l.limits _ (c.requires.m_nonzero, c.args.h.now.few) c.requires.operators_ready c.requires.operator_room c.loop-level.invariant c.loop-level-test.true c.next_relations-u.ensures c.level_operator-ok.ensures c.noted-bad.ensures c.next_part-q.ensures c.next_offsets-o.ensures

pub returns : goal.returns
returns c = growing_end _ c.args.h.now.l.limits _ (c.requires.m_nonzero, c.args.h.now.few) c.requires.operators_ready c.requires.operator_room c.loop-level.invariant c.loop-level-test.false
