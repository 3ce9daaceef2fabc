use native.Mathlib.Omega.{arith}
use Rattle.store.proofs.NeedLaws.{totalling_start, totalling_few, totalling_turn, totalling_end}
use Rattle.store.proofs.needs.galerkin_terms.Goals as goal

pub loop-level-init : goal.loop-level-init
loop-level-init c = totalling_start _ _ c.first_relations-u.ensures

pub overflow_add-total : goal.overflow_add-total
overflow_add-total c = omega (arith, totalling_few _ c.args.h.now.l.limits _ c.loop-level.invariant c.loop-level-test.true c.next_relations-u.ensures c.level_terms-total.ensures, c.args.h.now.few, c.loop-level-test.true)

pub loop-level-preserved : goal.loop-level-preserved
loop-level-preserved c = totalling_turn _ c.args.h.now.l.limits _ c.loop-level.invariant c.loop-level-test.true c.next_relations-u.ensures c.level_terms-total.ensures

pub returns : goal.returns
returns c = totalling_end _ _ c.loop-level.invariant c.loop-level-test.false
