use Rattle.std.proofs.Common.{refl, arith}
use Rattle.renew.proofs.each.renew_each.Goals as goal

pub overflow_add-base : goal.overflow_add-base
overflow_add-base g c = omega (arith, c.requires.flags_there)

pub step-requires : goal.step-requires
step-requires g c = (c.requires.takes c.loop-r.list c.loop-r.r c.loop-r.invariant.0 c.loop-r-test.true).taken _ refl
