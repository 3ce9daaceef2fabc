use native.Mathlib.Omega.{arith}
use Rattle.operators.proofs.CutLaws.{cut_long, cut_at}
use Rattle.operators.proofs.GatherLaws.{summing_start, summing_turn, summing_end}
use Rattle.operators.proofs.galerkin.lay_sums.Goals as goal

pub loop-q-init : goal.loop-q-init
loop-q-init c = summing_start

pub get-requires : goal.get-requires
get-requires c =
    let a = c.args in
    let l = cut_long a.columns.now a.k a.n (omega arith) in
    omega (
      arith,
      cut_at a.columns.now a.k a.n (omega arith) c.loop-q.q 0 c.loop-q-test.true,
      c.requires.sums_len,
      c.requires.columns_below.low c.loop-q.q (omega arith),
    )

pub loop-q-preserved : goal.loop-q-preserved
loop-q-preserved c =
    let a = c.args in
    let l = cut_long a.columns.now a.k a.n (omega arith) in
    summing_turn c.loop-q.invariant (omega arith) (rw (cut_at a.columns.now a.k a.n (omega arith) c.loop-q.q 0 c.loop-q-test.true) at c.get.ensures) c.put.ensures

pub returns : goal.returns
returns c =
    let a = c.args in
    summing_end c.loop-q.invariant (omega (arith, cut_long a.columns.now a.k a.n (omega arith)))
