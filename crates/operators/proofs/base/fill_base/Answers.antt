use Prim.Native.Nat.{◌/◌, ◌≤◌, ◌<◌}
use mathlib.Core.Path.{◌≡◌, ap, ◌∙◌}
use native.Mathlib.Omega.{arith}
use lib.ListN.{length, get_or}
use Rattle.numbers.proofs.ListLaws.{laid_length}
use Rattle.operators.specs.Base.{base_words}
use Rattle.operators.proofs.BaseLaws.{base_words_lem}
use Rattle.operators.proofs.TableLaws.{laid_none, laid_turn}
use Rattle.operators.proofs.base.fill_base.Goals as goal

pub loop-q-init : goal.loop-q-init
loop-q-init c = (omega arith, c.requires.many, laid_none _ _)

pub fill_relation-requires : goal.fill_relation-requires
fill_relation-requires c =
    let q = c.loop-q.q in
    let b : q < 18 = c.loop-q-test.true in
    let n : get_or c.args.n.now (q / 6) 0 ≤ 64 = c.requires.small (q / 6) (omega arith) in
    omega (arith, c.loop-q.invariant.1)

pub loop-q-preserved : goal.loop-q-preserved
loop-q-preserved c =
    let s = c.args in
    let e = c.fill_relation.ensures in
    (omega arith, ap length e ∙ laid_length _ _ _ ∙ c.loop-q.invariant.1, laid_turn (base_words s.n.now s.bloch.now) _ c.loop-q.invariant.2 (base_words_lem _ _ _) e)

pub returns : goal.returns
returns c =
    let e : c.loop-q.q ≡ 18 = omega arith in
    rw e at c.loop-q.invariant.2
