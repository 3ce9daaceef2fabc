use mathlib.Core.Path.{refl}
use Rattle.operators.specs.Averaged.{mean_of}
use Rattle.operators.proofs.AverageLaws.{lines_turn, lines_end, all_turn, all_end, nothing_is}
use Rattle.operators.proofs.averaged.mean_over.Goals as goal

pub loop-h-init : goal.loop-h-init
loop-h-init c = rw (nothing_is c.zero.ensures) refl

pub weigh_line-sum-requires-clause-node_bound : goal.weigh_line-sum-requires-clause-node_bound
weigh_line-sum-requires-clause-node_bound c = (c.requires.next_below.below _ c.loop-h-test.true, c.requires.last_below.below _ c.loop-k-test.true)

pub loop-k-preserved : goal.loop-k-preserved
loop-k-preserved c = lines_turn _ _ _ _ _ _ _ _ _ c.loop-k.invariant c.loop-k-test.true c.weigh_line-sum.ensures

pub loop-h-preserved : goal.loop-h-preserved
loop-h-preserved c = all_turn _ _ _ _ _ _ _ _ _ c.loop-h.invariant c.loop-h-test.true (lines_end _ _ _ _ _ _ _ _ _ c.loop-k.invariant c.loop-k-test.false)

pub returns : goal.returns
unfolding mean_of
returns c = rw (← all_end _ _ _ _ _ _ _ _ _ c.loop-h.invariant c.loop-h-test.false) c.div.ensures
