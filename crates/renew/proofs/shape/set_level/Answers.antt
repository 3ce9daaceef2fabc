use native.Mathlib.Omega.{arith}
use mathlib.Core.Path.{◌≡◌, ap}
use Rattle.store.specs.declared.change.Words.{Words}
use Rattle.store.proofs.MarkLaws.{level_start, level_turn, level_count, words_few}
use Rattle.renew.proofs.shape.set_level.Goals as goal

pub loop-i-init : goal.loop-i-init
loop-i-init c = (omega arith, level_start)

pub words_of-ws-requires : goal.words_of-ws-requires
words_of-ws-requires c = omega (arith, c.requires.fine_bound.0, c.requires.fine_bound.2)

pub overflow_add-p : goal.overflow_add-p
overflow_add-p c = omega (arith, c.requires.p_bound.0)

pub set_part-requires : goal.set_part-requires
set_part-requires c = omega (arith, c.requires.p_bound.2, c.loop-i.invariant.1.long)

pub overflow_add-next : goal.overflow_add-next
overflow_add-next c = omega (arith, level_count c.loop-i.i c.loop-i.next 12288 c.loop-i.shape c.loop-i.invariant.1 (λ j h. words_few c.args.choice c.args.fine c.args.coarse c.args.k j 12288 c.requires.fine_bound.0 c.requires.fine_bound.1), ap (λ (x : Words). x.rows) (c.words_of-ws.ensures c.loop-i.i (omega arith)), words_few c.args.choice c.args.fine c.args.coarse c.args.k c.loop-i.i 12288 c.requires.fine_bound.0 c.requires.fine_bound.1, c.requires.p_bound.1, c.loop-i.invariant.0)

pub loop-i-preserved : goal.loop-i-preserved
loop-i-preserved c = (omega arith, level_turn c.loop-i.shape _ c.loop-i.i c.loop-i.next _ c.loop-i.invariant.1 (c.words_of-ws.ensures c.loop-i.i (omega arith)) c.set_part.ensures)

pub returns : goal.returns
returns c = let e : c.loop-i.i ≡ 7 = omega (arith, c.loop-i.invariant.0) in rw e at c.loop-i.invariant.1
