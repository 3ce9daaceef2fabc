use native.Mathlib.Omega.{arith}
use Rattle.weights.specs.Tables.{count_in}
use Rattle.weights.proofs.RowLaws.{slot_is, three_few}
use Rattle.weights.proofs.rows.count_at.Goals as goal

pub offset_bounds-ns-slot_on : goal.offset_bounds-ns-slot_on
offset_bounds-ns-slot_on c =
    omega (arith, slot_is _ _ _ c.slot_on.ensures (omega arith) c.requires.slots.i_low)

pub bounds-ns-slot_on : goal.bounds-ns-slot_on
bounds-ns-slot_on c =
    omega (arith, slot_is _ _ _ c.slot_on.ensures (omega arith) c.requires.slots.i_low)

pub offset_bounds-ns-slot_on-2 : goal.offset_bounds-ns-slot_on-2
offset_bounds-ns-slot_on-2 c =
    omega (arith, slot_is _ _ _ c.slot_on-2.ensures (omega arith) c.requires.slots.j_low)

pub bounds-ns-slot_on-2 : goal.bounds-ns-slot_on-2
bounds-ns-slot_on-2 c =
    omega (arith, slot_is _ _ _ c.slot_on-2.ensures (omega arith) c.requires.slots.j_low)

pub offset_bounds-ns-slot_on-3 : goal.offset_bounds-ns-slot_on-3
offset_bounds-ns-slot_on-3 c =
    omega (arith, slot_is _ _ _ c.slot_on-3.ensures (omega arith) c.requires.slots.k_low)

pub bounds-ns-slot_on-3 : goal.bounds-ns-slot_on-3
bounds-ns-slot_on-3 c =
    omega (arith, slot_is _ _ _ c.slot_on-3.ensures (omega arith) c.requires.slots.k_low)

pub overflow_mul-result-2 : goal.overflow_mul-result-2
overflow_mul-result-2 c =
    let f = c.requires.by_index in
    omega (
      arith,
      three_few
          (f _ (slot_is _ _ _ c.slot_on.ensures (omega arith) c.requires.slots.i_low).below)
          (f _ (slot_is _ _ _ c.slot_on-2.ensures (omega arith) c.requires.slots.j_low).below)
          (f _ (slot_is _ _ _ c.slot_on-3.ensures (omega arith) c.requires.slots.k_low).below),
    )

pub returns : goal.returns
unfolding count_in
returns c = rw (← c.slot_on.ensures, ← c.slot_on-2.ensures, ← c.slot_on-3.ensures)
