use mathlib.Core.Path.{◌≡◌}
use native.Mathlib.Omega.{arith}
use Rattle.numbers.proofs.TabulateLaws.{filled_start, filled_turn, filled_whole}
use Rattle.yonaduvi.proofs.rows.cells_from.Goals as goal

pub loop-q-init : goal.loop-q-init
loop-q-init c = (omega arith, filled_start)

pub loop-q-preserved : goal.loop-q-preserved
loop-q-preserved c = (omega arith, filled_turn c.loop-q.invariant.1 c.loop-q-test.true c.word.ensures)

pub returns : goal.returns
returns c =
    let l = c.loop-q in
    let e : l.q ≡ 36 = omega arith in
    let f = filled_whole (rw e at l.invariant.1) in
    λ i. record { levels = c.word-2.ensures i; cells = f i }
