-- `operators::stencil::stencil_row` meets its contract: with the shift on the diagonal, or without.
-- Assumes nothing.
use Rattle.operators.proofs.StencilLaws.{shift_room, stencil_unshifted, stencil_fixed, stencil_shifted}
use mathlib.Core.Path.{ap}
use mathlib.Core.Bool.{not}
use Rattle.operators.proofs.stencil.stencil_row.Goals as goal

pub insert-requires : goal.insert-requires
insert-requires c =
    let p = c.requires.in_bounds in
    shift_room c.unshifted_row-n.ensures.wrote c.unshifted_row-n.ensures.upper_bound p.0 p.1

pub returns-then-not-fixed-clause-wrote : goal.returns-then-not-fixed-clause-wrote
returns-then-not-fixed-clause-wrote c = let p = c.requires.in_bounds in
    (stencil_shifted _ _ _ c.unshifted_row-n.ensures.wrote c.unshifted_row-n.ensures.upper_bound p.0 p.1 c.if-l.true c.fixed.ensures (ap not c.if-not-fixed.true) c.shift_number.ensures c.insert.ensures).0

pub returns-then-not-fixed-clause-upper_bound : goal.returns-then-not-fixed-clause-upper_bound
returns-then-not-fixed-clause-upper_bound c = let p = c.requires.in_bounds in
    (stencil_shifted _ _ _ c.unshifted_row-n.ensures.wrote c.unshifted_row-n.ensures.upper_bound p.0 p.1 c.if-l.true c.fixed.ensures (ap not c.if-not-fixed.true) c.shift_number.ensures c.insert.ensures).1

pub returns-else-not-fixed-clause-wrote : goal.returns-else-not-fixed-clause-wrote
returns-else-not-fixed-clause-wrote c = (stencil_fixed _ _ _ c.unshifted_row-n.ensures.wrote c.unshifted_row-n.ensures.upper_bound c.fixed.ensures (ap not c.if-not-fixed.false)).0

pub returns-else-not-fixed-clause-upper_bound : goal.returns-else-not-fixed-clause-upper_bound
returns-else-not-fixed-clause-upper_bound c = (stencil_fixed _ _ _ c.unshifted_row-n.ensures.wrote c.unshifted_row-n.ensures.upper_bound c.fixed.ensures (ap not c.if-not-fixed.false)).1

pub returns-else-l-clause-wrote : goal.returns-else-l-clause-wrote
returns-else-l-clause-wrote c = (stencil_unshifted _ _ _ c.unshifted_row-n.ensures.wrote c.unshifted_row-n.ensures.upper_bound c.if-l.false).0

pub returns-else-l-clause-upper_bound : goal.returns-else-l-clause-upper_bound
returns-else-l-clause-upper_bound c = (stencil_unshifted _ _ _ c.unshifted_row-n.ensures.wrote c.unshifted_row-n.ensures.upper_bound c.if-l.false).1
