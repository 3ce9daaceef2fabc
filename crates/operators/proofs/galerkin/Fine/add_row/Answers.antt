use mathlib.Core.Path.{refl, sym, ◌∙◌}
use native.Mathlib.Omega.{arith}
use Rattle.operators.proofs.GatherLaws.{bounds, rows_there, row_cut, row_terms}
use Rattle.operators.proofs.ComputedLaws.{row_fits, computed_below, from_lattice, has_computed, from_lists, has_stored, fine_gathered}
use Rattle.operators.proofs.galerkin.Fine.add_row.Goals as goal

pub invariant_of-own : goal.invariant_of-own
invariant_of-own c = record { limits = (has_computed c.in-Computed.is c.requires.has).limits }

pub stencil_row-count-requires-clause-r_bound : goal.stencil_row-count-requires-clause-r_bound
stencil_row-count-requires-clause-r_bound c = omega (arith, (has_computed c.in-Computed.is c.requires.has).edges, c.requires.low)

pub stencil_row-count-requires-clause-grid_in_bounds : goal.stencil_row-count-requires-clause-grid_in_bounds
stencil_row-count-requires-clause-grid_in_bounds c =
    let h = has_computed c.in-Computed.is c.requires.has in
    omega (arith, h.edges, h.room)

pub add_fine-requires-clause-count_in_bounds : goal.add_fine-requires-clause-count_in_bounds
add_fine-requires-clause-count_in_bounds c =
    let w = row_fits _ _ _ c.stencil_row-count.ensures.wrote c.stencil_row-count.ensures.upper_bound refl refl in
    (omega (arith, w.columns_room), omega (arith, w.numbers_room), omega (arith, w.most))

pub add_fine-requires-clause-has_rows : goal.add_fine-requires-clause-has_rows
add_fine-requires-clause-has_rows c =
    let h = has_computed c.in-Computed.is c.requires.has in
    let w = row_fits _ _ _ c.stencil_row-count.ensures.wrote c.stencil_row-count.ensures.upper_bound refl refl in
    rows_there c.requires.forward (rw h.edges (computed_below _ _ _ h.limits (omega (arith, h.edges, c.requires.low)) w))

pub places-at-requires : goal.places-at-requires
places-at-requires c = record { n = _; m = _; stored = has_stored c.in-Stored.is c.requires.has; low = c.requires.low }

pub overflow_sub-at : goal.overflow_sub-at
overflow_sub-at c =
    let b = bounds (has_stored c.in-Stored.is c.requires.has) _ c.requires.low in
    omega (arith, b.rise, c.places-at.ensures.first_is, c.places-at.ensures.last_is)

pub add_fine-requires-in-Stored-clause-count_in_bounds : goal.add_fine-requires-in-Stored-clause-count_in_bounds
add_fine-requires-in-Stored-clause-count_in_bounds c =
    let u = has_stored c.in-Stored.is c.requires.has in
    let b = bounds u _ c.requires.low in
    let e = c.places-at.ensures in
    (omega (arith, b.rise, b.room, e.first_is, e.last_is), omega (arith, b.rise, b.numbers, e.first_is, e.last_is), omega (arith, b.rise, b.few, u.low, e.first_is, e.last_is))

pub add_fine-requires-in-Stored-clause-has_rows : goal.add_fine-requires-in-Stored-clause-has_rows
add_fine-requires-in-Stored-clause-has_rows c =
    let b = bounds (has_stored c.in-Stored.is c.requires.has) _ c.requires.low in
    rows_there c.requires.forward (row_cut b c.places-at.ensures.first_is c.places-at.ensures.last_is)

pub returns-in-Computed : goal.returns-in-Computed
returns-in-Computed c =
    let w = row_fits _ _ _ c.stencil_row-count.ensures.wrote c.stencil_row-count.ensures.upper_bound refl refl in
    fine_gathered _ _ _ _ (from_lattice c.in-Computed.is _ ∙ sym w.terms) c.add_fine.ensures

pub returns-in-Stored : goal.returns-in-Stored
returns-in-Stored c =
    fine_gathered _ _ _ _ (from_lists c.in-Stored.is _ ∙ row_terms _ _ _ _ _ _ c.places-at.ensures.first_is c.places-at.ensures.last_is) c.add_fine-in-Stored.ensures
