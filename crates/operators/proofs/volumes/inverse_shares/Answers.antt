use native.Mathlib.Omega.{arith}
use mathlib.Core.Path.{sym, ◌∙◌}
use Rattle.numbers.proofs.Laws.{and_true, and_false}
use Rattle.operators.proofs.VolumeLaws.{sharing_start, sharing_turn, sharing_end, placing_long}
use Rattle.operators.proofs.volumes.inverse_shares.Goals.{then-finite, else-finite}
use Rattle.operators.proofs.volumes.inverse_shares.Goals as goal

pub loop-c-init : goal.loop-c-init
loop-c-init c = sharing_start

pub inverse_share-one-requires-clause-c_lt_m : goal.inverse_share-one-requires-clause-c_lt_m
inverse_share-one-requires-clause-c_lt_m c = omega (arith, placing_long c.loop-c.invariant.placed)

pub loop-c-preserved : goal.loop-c-preserved
loop-c-preserved c =
    sharing_turn _ c.requires.stored c.requires.k_bound.2 c.loop-c.invariant c.loop-c-test.true c.inverse_share-one.ensures.scaling_after c.inverse_share-one.ensures.value
    (elim c.if-finite.branch [ then-finite w ↦ w.finite-is ∙ sym (and_true _ _ w.if-finite.true) | else-finite w ↦ w.finite-is ∙ sym (and_false _ _ w.if-finite.false) ])

pub returns-clause-scaling_after : goal.returns-clause-scaling_after
returns-clause-scaling_after c = (sharing_end c.loop-c.invariant c.loop-c-test.false).0

pub returns-clause-value : goal.returns-clause-value
returns-clause-value c = (sharing_end c.loop-c.invariant c.loop-c-test.false).1
