use Rattle.std.proofs.Common.{rules}
use Rattle.numbers.proofs.TermLaws.{laying_start, laying_turn, laying_most}
use Rattle.lattice.proofs.rows.push_each.Goals as goal

pub loop-m-init : goal.loop-m-init
loop-m-init g c = λ f u. laying_start

pub push-k-requires : goal.push-k-requires
push-k-requires g c =
    let (f, most, u, few, may) = c.requires.callable in
    let low = laying_most (c.loop-m.invariant f u) few in
    search rules

pub loop-m-preserved : goal.loop-m-preserved
loop-m-preserved g c = λ f u. laying_turn (c.loop-m.invariant f u) c.loop-m-test.true c.get.ensures (u _ _ _ _ _ _ _ _ c.push-k.ensures)
