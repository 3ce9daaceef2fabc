use native.Mathlib.Omega.{arith}
use Rattle.store.proofs.AveragedLaws.{averaging_start, averaging_room, averaging_end, to_fits, behind_asked, averaging_turn}
use Rattle.store.proofs.rediscretized_levels.operators.Goals as goal

pub loop-level-init : goal.loop-level-init
loop-level-init c = averaging_start _ _ c.requires.m_nonzero c.chain_length-to.ensures

pub level_operator-ok-requires-clause-averaged_room : goal.level_operator-ok-requires-clause-averaged_room
level_operator-ok-requires-clause-averaged_room c = averaging_room _ _ c.args.h.now.l.limits c.args.h.now.few c.requires.averaged_room c.requires.operator_room c.loop-level.invariant

pub behind-o-requires : goal.behind-o-requires
behind-o-requires c = behind_asked _ _ c.args.h.now.l.limits c.args.h.now.few c.requires.averaged_room c.requires.operator_room c.loop-level.invariant c.loop-level-test.true c.level_operator-ok.ensures c.edges-n.ensures

pub overflow_add-to : goal.overflow_add-to
overflow_add-to c = omega (arith, to_fits _ _ c.args.h.now.l.limits c.args.h.now.few c.requires.averaged_room c.requires.operator_room c.loop-level.invariant c.loop-level-test.true c.level_operator-ok.ensures c.edges-n.ensures)

pub loop-level-preserved : goal.loop-level-preserved
loop-level-preserved c = averaging_turn _ _ c.args.h.now.l.limits c.args.h.now.few c.requires.averaged_room c.requires.operator_room c.loop-level.invariant c.loop-level-test.true c.level_operator-ok.ensures c.edges-n.ensures c.behind-o.ensures c.noted-bad.ensures

pub returns : goal.returns
returns c = averaging_end _ _ c.args.h.now.l.limits c.args.h.now.few c.requires.averaged_room c.requires.operator_room c.loop-level.invariant c.loop-level-test.false
