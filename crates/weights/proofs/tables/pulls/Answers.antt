use native.Mathlib.Omega.{arith}
use Prim.Native.Nat.{◌*◌, ◌+◌}
use mathlib.Core.Path.{◌≡◌}
use lib.ListN.{length-replicate}
use Rattle.numbers.proofs.RowLoops.{numbers_start, numbers_turn, numbers_whole}
use Rattle.weights.proofs.TableLaws.{slot_pull_is}
use Rattle.weights.proofs.tables.pulls.Goals as goal

pub loop-q-init : goal.loop-q-init
loop-q-init c = (omega arith, numbers_start (simp length-replicate))

pub loop-q-preserved : goal.loop-q-preserved
loop-q-preserved c =
    let k = c.loop-q in
    let s = c.slot_taken-s.ensures in
    let first = numbers_turn k.invariant.1 (omega arith) (slot_pull_is _ _ _ _ _ k.q 0 (2 * k.q) (omega arith) (omega arith) s c.get.ensures _ _ c.pull.ensures) in
    let two : 2 * k.q + 1 + 1 ≡ 2 * (k.q + 1) = omega arith in
    (omega arith, rw (c.put-in-loop-q.ensures, c.put.ensures) (rw two at (numbers_turn first (omega arith) (slot_pull_is _ _ _ _ _ k.q 1 (2 * k.q + 1) (omega arith) (omega arith) s c.get-in-loop-q.ensures _ _ c.pull-in-loop-q.ensures))))

pub returns : goal.returns
returns c =
    let e : 2 * c.loop-q.q ≡ 768 = omega arith in
    numbers_whole (rw e at c.loop-q.invariant.1)
