use Rattle.store.proofs.MatchLaws.{going_start, going_end, laid_ask, laid_turn, laid_bad}
use Rattle.store.proofs.CompareLaws.{weights_fine_lem, weights_count, weights_laid, weights_few}
use Rattle.weights.proofs.MeaningLaws.{slots_in}
use Rattle.weights.proofs.RowLaws.{at_low}
use Prim.Native.Nat.{ℕ, ◌+◌}
use mathlib.Core.Path.{refl, ap}
use native.Mathlib.Omega.{arith}
use lib.Dec.{eqb}
use lib.ListN.{get_or}
use Rattle.changes.proofs.compare.same_forward.Goals as goal

pub unknowns-n-requires : goal.unknowns-n-requires
unknowns-n-requires c = weights_fine_lem c.slots_of-t.ensures.slots

pub loop-r-init : goal.loop-r-init
loop-r-init c = going_start

pub at-requires : goal.at-requires
at-requires c = weights_fine_lem c.slots_of-t.ensures.slots

pub invariant_of-p : goal.invariant_of-p
invariant_of-p c = record { limits = c.slots_of-t.result.levels.limits; places_of = slots_in c.slots_of-t.ensures.slots }

pub columns_at-count-requires-clause-slots : goal.columns_at-count-requires-clause-slots
columns_at-count-requires-clause-slots c = at_low (weights_fine_lem c.slots_of-t.ensures.slots) (omega (arith, c.loop-r-test.true, c.unknowns-n.ensures)) c.at.ensures

pub overflow_add-s : goal.overflow_add-s
overflow_add-s c = omega (arith, c.loop-r-test.true, weights_count c.slots_of-t.ensures.slots c.unknowns-n.ensures, c.requires.part_room.starts_room)

pub overflow_add-o : goal.overflow_add-o
overflow_add-o c = omega (arith, laid_ask c.loop-r.invariant (omega (arith, c.loop-r-test.true, weights_count c.slots_of-t.ensures.slots c.unknowns-n.ensures)) (weights_laid c.slots_of-t.ensures.slots (omega (arith, c.loop-r-test.true, c.unknowns-n.ensures)) c.at.ensures c.columns_at-count.ensures) (weights_few c.slots_of-t.ensures.slots (omega (arith, c.loop-r-test.true, c.unknowns-n.ensures)) c.at.ensures c.columns_at-count.ensures refl) c.requires.part_room)

pub same_row-requires-clause-at_in_bounds : goal.same_row-requires-clause-at_in_bounds
same_row-requires-clause-at_in_bounds c = (laid_ask c.loop-r.invariant (omega (arith, c.loop-r-test.true, weights_count c.slots_of-t.ensures.slots c.unknowns-n.ensures)) (weights_laid c.slots_of-t.ensures.slots (omega (arith, c.loop-r-test.true, c.unknowns-n.ensures)) c.at.ensures c.columns_at-count.ensures) (weights_few c.slots_of-t.ensures.slots (omega (arith, c.loop-r-test.true, c.unknowns-n.ensures)) c.at.ensures c.columns_at-count.ensures refl) c.requires.part_room).0

pub same_row-requires-clause-n_in_bounds : goal.same_row-requires-clause-n_in_bounds
same_row-requires-clause-n_in_bounds c = (laid_ask c.loop-r.invariant (omega (arith, c.loop-r-test.true, weights_count c.slots_of-t.ensures.slots c.unknowns-n.ensures)) (weights_laid c.slots_of-t.ensures.slots (omega (arith, c.loop-r-test.true, c.unknowns-n.ensures)) c.at.ensures c.columns_at-count.ensures) (weights_few c.slots_of-t.ensures.slots (omega (arith, c.loop-r-test.true, c.unknowns-n.ensures)) c.at.ensures c.columns_at-count.ensures refl) c.requires.part_room).1

pub returns-then-not-same_row : goal.returns-then-not-same_row
returns-then-not-same_row c = laid_bad c.loop-r.invariant (omega (arith, c.loop-r-test.true, weights_count c.slots_of-t.ensures.slots c.unknowns-n.ensures)) (weights_laid c.slots_of-t.ensures.slots (omega (arith, c.loop-r-test.true, c.unknowns-n.ensures)) c.at.ensures c.columns_at-count.ensures) (weights_few c.slots_of-t.ensures.slots (omega (arith, c.loop-r-test.true, c.unknowns-n.ensures)) c.at.ensures c.columns_at-count.ensures refl) c.same_row.ensures (c.if-not-same_row.true) refl

pub overflow_add-k : goal.overflow_add-k
overflow_add-k c = omega (arith, laid_ask c.loop-r.invariant (omega (arith, c.loop-r-test.true, weights_count c.slots_of-t.ensures.slots c.unknowns-n.ensures)) (weights_laid c.slots_of-t.ensures.slots (omega (arith, c.loop-r-test.true, c.unknowns-n.ensures)) c.at.ensures c.columns_at-count.ensures) (weights_few c.slots_of-t.ensures.slots (omega (arith, c.loop-r-test.true, c.unknowns-n.ensures)) c.at.ensures c.columns_at-count.ensures refl) c.requires.part_room)

pub loop-r-smaller : goal.loop-r-smaller
loop-r-smaller c = omega (arith, c.loop-r-test.true)

pub loop-r-preserved : goal.loop-r-preserved
loop-r-preserved c = laid_turn c.loop-r.invariant (omega (arith, c.loop-r-test.true, weights_count c.slots_of-t.ensures.slots c.unknowns-n.ensures)) (weights_laid c.slots_of-t.ensures.slots (omega (arith, c.loop-r-test.true, c.unknowns-n.ensures)) c.at.ensures c.columns_at-count.ensures) (weights_few c.slots_of-t.ensures.slots (omega (arith, c.loop-r-test.true, c.unknowns-n.ensures)) c.at.ensures c.columns_at-count.ensures refl) c.same_row.ensures (c.if-not-same_row.false)

pub overflow_add-result : goal.overflow_add-result
overflow_add-result c = omega (arith, weights_count c.slots_of-t.ensures.slots c.unknowns-n.ensures, c.requires.part_room.starts_room)

pub offset_bounds-starts-s : goal.offset_bounds-starts-s
offset_bounds-starts-s c = omega (arith, weights_count c.slots_of-t.ensures.slots c.unknowns-n.ensures, c.requires.part_room.starts_room)

pub bounds-starts-s : goal.bounds-starts-s
bounds-starts-s c = omega (arith, weights_count c.slots_of-t.ensures.slots c.unknowns-n.ensures, c.requires.part_room.starts_room)

pub returns : goal.returns
returns c = let z = weights_count c.slots_of-t.ensures.slots c.unknowns-n.ensures in going_end c.loop-r.invariant (omega (arith, z, c.loop-r-test.false)) (ap (λ (i : ℕ). eqb (get_or c.args.starts.now (c.args.o.s + i) 0) c.loop-r.k) z)
