use native.Mathlib.Omega.{arith}
use Prim.Native.Nat.{◌*◌, ◌+◌}
use mathlib.Core.Path.{◌≡◌, ap, ◌∙◌}
use lib.ListN.{length}
use Rattle.numbers.proofs.TabulateLaws.{filled_start, filled_turn, filled_whole}
use Rattle.weights.proofs.TableLaws.{count_is, slot_place_is}
use Rattle.weights.proofs.tables.fill_slots.Goals as goal

pub loop-q-init : goal.loop-q-init
loop-q-init c = (omega arith, rw c.requires.0 filled_start, rw c.requires.1 filled_start)

pub loop-q-preserved : goal.loop-q-preserved
loop-q-preserved c =
    let k = c.loop-q in
    let u = k.invariant in
    let s = c.slot_taken-s.ensures in
    let first = filled_turn u.2 (omega arith) (slot_place_is _ _ _ _ _ k.q 0 (2 * k.q) (omega arith) (omega arith) s c.get.ensures c.place.ensures) in
    let two : 2 * k.q + 1 + 1 ≡ 2 * (k.q + 1) = omega arith in (
      omega arith,
      filled_turn u.1 (omega arith) (c.count.ensures ∙ ap length s ∙ count_is _ _ _ _ _ k.q),
      rw two at (filled_turn first (omega arith) (slot_place_is _ _ _ _ _ k.q 1 (2 * k.q + 1) (omega arith) (omega arith) s c.get-in-loop-q.ensures c.place-in-loop-q.ensures)),
    )

pub returns-clause-counts : goal.returns-clause-counts
returns-clause-counts c =
    let e : c.loop-q.q ≡ 384 = omega arith in
    filled_whole (rw e at c.loop-q.invariant.1)

pub returns-clause-places : goal.returns-clause-places
returns-clause-places c =
    let e : 2 * c.loop-q.q ≡ 768 = omega arith in
    filled_whole (rw e at c.loop-q.invariant.2)
