use native.Mathlib.Omega.{arith}
use Rattle.operators.proofs.HatLaws.{walking_start, walking_turn, walking_end, wrapped_before}
use Rattle.operators.proofs.averaged.walk_lower.Goals as goal

pub loop-f-init : goal.loop-f-init
loop-f-init c = walking_start c.requires.le_first.1

pub loop-f-smaller : goal.loop-f-smaller
loop-f-smaller c =
    omega (arith, wrapped_before c.requires.held c.args.at c.loop-f.q c.requires.le_first.2 (rw (← c.wrapped_place-place.ensures) c.if-place-at.false))

pub loop-f-preserved : goal.loop-f-preserved
loop-f-preserved c =
    walking_turn c.requires.held c.requires.le_first.0 c.requires.le_first.2 c.loop-f.invariant c.wrapped_place-place.ensures c.if-place-at.false c.hat_weight.ensures c.push_hat-k.ensures

pub returns : goal.returns
returns c = walking_end c.loop-f.invariant c.wrapped_place-place.ensures c.if-place-at.true
