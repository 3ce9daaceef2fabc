use native.Mathlib.Omega.{arith}
use Rattle.store.proofs.ScalingLaws.{scaling_start, scaling_room, scaling_end, sum_fits, turned_behind, scaling_turn}
use Rattle.store.proofs.scaling.scaling.Goals as goal

pub loop-level-init : goal.loop-level-init
loop-level-init c = scaling_start _ _

pub level_scaling-ok-requires-clause-scaling_room : goal.level_scaling-ok-requires-clause-scaling_room
level_scaling-ok-requires-clause-scaling_room c = scaling_room _ _ c.args.h.now.l.limits c.args.h.now.few c.requires.turned_stored c.requires.scaling_room c.loop-level.invariant

pub behind-t-requires : goal.behind-t-requires
behind-t-requires c = turned_behind _ _ c.args.h.now.l.limits c.args.h.now.few c.requires.turned_stored c.requires.scaling_room c.loop-level.invariant c.loop-level-test.true c.edges-n.ensures c.edges-c.ensures

pub overflow_add-k : goal.overflow_add-k
overflow_add-k c = omega (arith, sum_fits _ _ c.args.h.now.l.limits c.args.h.now.few c.requires.turned_stored c.requires.scaling_room c.loop-level.invariant c.loop-level-test.true c.edges-n.ensures c.edges-c.ensures)

pub overflow_add-k-in-loop-level : goal.overflow_add-k-in-loop-level
overflow_add-k-in-loop-level c = omega (arith, sum_fits _ _ c.args.h.now.l.limits c.args.h.now.few c.requires.turned_stored c.requires.scaling_room c.loop-level.invariant c.loop-level-test.true c.edges-n.ensures c.edges-c.ensures)

pub loop-level-preserved : goal.loop-level-preserved
loop-level-preserved c = scaling_turn _ _ c.args.h.now.l.limits c.args.h.now.few c.requires.turned_stored c.requires.scaling_room c.loop-level.invariant c.loop-level-test.true c.edges-n.ensures c.edges-c.ensures c.level_scaling-ok.ensures c.behind-t.ensures c.noted-bad.ensures

pub returns : goal.returns
returns c = scaling_end _ _ c.args.h.now.l.limits c.args.h.now.few c.requires.turned_stored c.requires.scaling_room c.loop-level.invariant c.loop-level-test.false
