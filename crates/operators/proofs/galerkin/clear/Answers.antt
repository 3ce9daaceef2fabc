use native.Mathlib.Omega.{arith}
use Rattle.operators.proofs.CutLaws.{cut_long, cut_at}
use Rattle.operators.proofs.GatherLaws.{cleared_start, cleared_turn, cleared_end}
use Rattle.operators.proofs.galerkin.clear.Goals as goal

pub loop-c-init : goal.loop-c-init
loop-c-init c = cleared_start

pub loop-c-preserved : goal.loop-c-preserved
loop-c-preserved c =
    let a = c.args in
    cleared_turn c.loop-c.invariant c.zero.ensures (rw (cut_at a.columns.now a.k a.n (omega arith) c.loop-c.c-index 0 c.loop-c-test.true) at c.put.ensures)

pub returns : goal.returns
returns c =
    let a = c.args in
    cleared_end c.loop-c.invariant (omega (arith, cut_long a.columns.now a.k a.n (omega arith)))
