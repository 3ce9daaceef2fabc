use native.Mathlib.Omega.{arith}
use Rattle.numbers.proofs.ListLaws.{laying_start, laying_turn, laying_end, laying_most}
use Rattle.numbers.proofs.ElementLaws.{rows_alone}
use Rattle.operators.proofs.CutLaws.{front_long, front_at}
use Rattle.operators.proofs.stencil.lay_columns.Goals as goal

pub loop-c-init : goal.loop-c-init
loop-c-init c = laying_start

pub push-next-requires : goal.push-next-requires
push-next-requires c = omega (arith, laying_most 1 c.loop-c.invariant (λ r l. omega arith), c.loop-c.invariant.high)

pub loop-c-preserved : goal.loop-c-preserved
loop-c-preserved c =
    let a = c.args in
    laying_turn c.loop-c.invariant (omega (arith, front_long a.cs.now a.n (omega arith))) (rw (front_at a.cs.now a.n c.loop-c.c-index 0 c.loop-c-test.true) at c.push-next.ensures)

pub returns : goal.returns
returns c =
    let a = c.args in
    rw rows_alone at (laying_end c.loop-c.invariant (omega (arith, front_long a.cs.now a.n (omega arith))))
