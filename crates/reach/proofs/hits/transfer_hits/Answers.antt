-- `reach::hits::transfer_hits` meets its contract.
-- Assumes nothing.
use native.Mathlib.Omega.{arith}
use Rattle.store.proofs.HitLaws.{level_room, forward_there, turned_there, forward_few, turned_few, transfer_raised}
use Rattle.reach.proofs.hits.transfer_hits.Goals as goal

pub edges-n-requires : goal.edges-n-requires
edges-n-requires c = omega (arith, c.requires.level_lt_m)

pub edges-k-requires : goal.edges-k-requires
edges-k-requires c = omega (arith, c.requires.level_lt_m)

pub eps_flags-requires-clause-level_in_bounds : goal.eps_flags-requires-clause-level_in_bounds
eps_flags-requires-clause-level_in_bounds c = level_room _ c.args.h.now.l.limits _

pub stored_flags-requires-clause-rows_there : goal.stored_flags-requires-clause-rows_there
stored_flags-requires-clause-rows_there c = forward_there _ c.args.h.now.l.limits _ c.requires.transfer_held c.edges-n.ensures

pub stored_flags-requires-clause-n_in_bounds : goal.stored_flags-requires-clause-n_in_bounds
stored_flags-requires-clause-n_in_bounds c = forward_few _ c.args.h.now.l.limits _ c.requires.transfer_held c.edges-n.ensures

pub stored_flags-requires-2-clause-rows_there : goal.stored_flags-requires-2-clause-rows_there
stored_flags-requires-2-clause-rows_there c = turned_there _ c.args.h.now.l.limits _ c.requires.transfer_held c.edges-k.ensures

pub stored_flags-requires-2-clause-n_in_bounds : goal.stored_flags-requires-2-clause-n_in_bounds
stored_flags-requires-2-clause-n_in_bounds c = turned_few _ c.args.h.now.l.limits _ c.requires.transfer_held c.edges-k.ensures

pub returns : goal.returns
returns c = transfer_raised _ c.args.h.now.l.limits _ c.requires.transfer_held c.args.hits.now c.edges-n.ensures c.edges-k.ensures c.eps_flags.ensures c.stored_flags.ensures c.stored_flags-2.ensures c.requires.hits_long
