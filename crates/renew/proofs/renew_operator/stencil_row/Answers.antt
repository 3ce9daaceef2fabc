-- `renew::renew_operator::stencil_row` meets its contract.
-- Assumes nothing.
use native.Mathlib.Omega.{arith}
use Rattle.store.proofs.EntryLaws.{entry_low, stencil_asked, entry_made}
use Rattle.renew.proofs.renew_operator.stencil_row.Goals as goal

pub overflow_add-at-2 : goal.overflow_add-at-2
overflow_add-at-2 c = omega (arith, entry_low c.requires.operator_starts _ c.requires.r_bound)

pub stencil_numbers-requires-clause-r_bound : goal.stencil_numbers-requires-clause-r_bound
stencil_numbers-requires-clause-r_bound c = (stencil_asked c.requires.stencil_rule c.args.l.now.limits c.requires.operator_starts _ c.requires.r_bound c.args.eps.now c.requires.from_bound).1.0

pub stencil_numbers-requires-clause-from_bound : goal.stencil_numbers-requires-clause-from_bound
stencil_numbers-requires-clause-from_bound c = (stencil_asked c.requires.stencil_rule c.args.l.now.limits c.requires.operator_starts _ c.requires.r_bound c.args.eps.now c.requires.from_bound).1.1.0

pub stencil_numbers-requires-clause-at_bound : goal.stencil_numbers-requires-clause-at_bound
stencil_numbers-requires-clause-at_bound c = (stencil_asked c.requires.stencil_rule c.args.l.now.limits c.requires.operator_starts _ c.requires.r_bound c.args.eps.now c.requires.from_bound).1.1.1

pub returns : goal.returns
returns c = entry_made c.requires.stencil_rule c.requires.operator_starts _ c.requires.r_bound c.requires.level_in_bounds (c.stencil_numbers.ensures.values_after, c.stencil_numbers.ensures.value)
