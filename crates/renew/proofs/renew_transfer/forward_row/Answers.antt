-- `renew::renew_transfer::forward_row` meets its contract. The start of the row stands in the list.
-- Assumes nothing.
use Rattle.store.specs.Hierarchy.{the_lattice}
use native.Mathlib.Omega.{arith}
use Rattle.store.proofs.RenewTransferLaws.{start_small, forward_asked, forward_done}
use Rattle.renew.proofs.renew_transfer.forward_row.Goals as goal

pub overflow_add-first : goal.overflow_add-first
overflow_add-first c = omega (arith, c.requires.starts_at.starts_low, c.requires.k_value.1)

pub offset_bounds-starts-first : goal.offset_bounds-starts-first
offset_bounds-starts-first c = omega (arith, c.requires.starts_at.starts_low, c.requires.k_value.1)

pub bounds-starts-first : goal.bounds-starts-first
bounds-starts-first c = omega (arith, c.requires.starts_at.starts_room, c.requires.k_value.1)

pub overflow_add-k : goal.overflow_add-k
overflow_add-k c = omega (arith, start_small (the_lattice c.args.h.now) c.args.level c.requires.starts_at c.requires.k_value.1 c.args.k c.requires.k_value.2)

pub weights_row-requires-clause-r_bound : goal.weights_row-requires-clause-r_bound
weights_row-requires-clause-r_bound c = (forward_asked (the_lattice c.args.h.now) c.args.level c.requires.starts_at c.requires.k_value.1 c.requires.weights_ready c.args.values.now (c.requires.k_value.0, c.requires.k_value.2, c.requires.k_value.3)).1.0

pub weights_row-requires-clause-at_bound : goal.weights_row-requires-clause-at_bound
weights_row-requires-clause-at_bound c = (forward_asked (the_lattice c.args.h.now) c.args.level c.requires.starts_at c.requires.k_value.1 c.requires.weights_ready c.args.values.now (c.requires.k_value.0, c.requires.k_value.2, c.requires.k_value.3)).1.1

pub returns : goal.returns
returns c = λ ch m. forward_done (the_lattice c.args.h.now) c.args.level c.requires.starts_at c.requires.k_value.1 c.requires.weights_ready c.args.values.now (c.requires.k_value.0, c.requires.k_value.2, c.requires.k_value.3) ch m c.weights_row.ensures
