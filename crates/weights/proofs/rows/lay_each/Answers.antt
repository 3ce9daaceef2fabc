use mathlib.Core.Path.{refl}
use Rattle.numbers.proofs.RowLoops.{going_start, going_turn, going_end}
use Rattle.weights.proofs.rows.lay_each.Goals as goal

pub loop-d-init : goal.loop-d-init
loop-d-init g c = λ f most u few. going_start

pub lay-k-requires : goal.lay-k-requires
lay-k-requires g c =
    let (f, most, u, few, may) = c.requires.callable in
    may c.loop-d.d c.loop-d.k _ c.loop-d-test.true (c.loop-d.invariant f most u few).most

pub loop-d-preserved : goal.loop-d-preserved
loop-d-preserved g c = λ f most u few. going_turn (c.loop-d.invariant f most u few) c.loop-d-test.true refl (u _ _ _ _ _ c.lay-k.ensures) (few _)

pub returns : goal.returns
returns g c = λ f most u few. going_end (c.loop-d.invariant f most u few) c.loop-d-test.false refl
