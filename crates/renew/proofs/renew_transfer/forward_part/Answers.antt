-- `renew::renew_transfer::forward_part` meets its contract. The tables are those of the transfer.
-- Assumes nothing.
use native.Mathlib.Omega.{arith}
use Rattle.store.specs.Hierarchy.{the_lattice}
use Rattle.store.proofs.RenewTransferLaws.{coarse_places, forward_places, starts_from, pair_weights}
use Rattle.renew.proofs.renew_transfer.forward_part.Goals as goal

pub invariant_of-w : goal.invariant_of-w
invariant_of-w c =
    let q = coarse_places (the_lattice c.args.h.now) c.args.h.now.l.limits c.args.choice c.args.h.now.m (c.requires.level_lt_m, c.args.h.now.few) c.requires.o_value c.args.eps.now c.requires.m_in_bounds.0 in
    let w = pair_weights _ c.args.h.now.l.limits c.pair-pair.ensures c.weighed-e.ensures q.0 q.1 in
    record { span_of = w.span }

pub forward_rows-requires-clause-weights_ready : goal.forward_rows-requires-clause-weights_ready
forward_rows-requires-clause-weights_ready c =
    let q = coarse_places (the_lattice c.args.h.now) c.args.h.now.l.limits c.args.choice c.args.h.now.m (c.requires.level_lt_m, c.args.h.now.few) c.requires.o_value c.args.eps.now c.requires.m_in_bounds.0 in
    pair_weights _ c.args.h.now.l.limits c.pair-pair.ensures c.weighed-e.ensures q.0 q.1

pub forward_rows-requires-clause-starts_at : goal.forward_rows-requires-clause-starts_at
forward_rows-requires-clause-starts_at c = starts_from _ _ c.requires.o_value c.requires.starts_at

pub forward_rows-requires-clause-k_value : goal.forward_rows-requires-clause-k_value
forward_rows-requires-clause-k_value c =
    let k = forward_places (the_lattice c.args.h.now) c.args.h.now.l.limits c.args.h.now.m (c.requires.level_lt_m, c.args.h.now.few) c.requires.o_value c.args.values.now c.requires.m_in_bounds.1 in
    (k.0, c.edges-n.ensures, k.1, k.2)

pub forward_rows-requires-clause-level_bound : goal.forward_rows-requires-clause-level_bound
forward_rows-requires-clause-level_bound c = omega (arith, c.requires.level_lt_m, c.args.h.now.few)

pub returns : goal.returns
returns c = c.forward_rows.ensures
