-- `reach::hits::galerkin_hits` meets its contract.
-- Assumes nothing.
use native.Mathlib.Omega.{arith}
use Rattle.store.proofs.HitLaws.{rows_next, level_few, next_few, galerkin_raised}
use Rattle.reach.proofs.hits.galerkin_hits.Goals as goal

pub edges-n-requires : goal.edges-n-requires
edges-n-requires c = omega (arith, c.requires.level_lt_m)

pub edges-k-requires : goal.edges-k-requires
edges-k-requires c = omega (arith, c.requires.level_lt_m)

pub lead_flags-requires-clause-n_value : goal.lead_flags-requires-clause-n_value
lead_flags-requires-clause-n_value c = (c.edges-n.ensures, level_few _ c.args.h.now.l.limits _ c.args.hits.now c.requires.hits_long c.edges-n.ensures)

pub stored_flags-requires-clause-rows_there : goal.stored_flags-requires-clause-rows_there
stored_flags-requires-clause-rows_there c = rows_next _ _ c.edges-k.ensures c.requires.rows_held

pub stored_flags-requires-clause-n_in_bounds : goal.stored_flags-requires-clause-n_in_bounds
stored_flags-requires-clause-n_in_bounds c = next_few _ c.args.h.now.l.limits _ c.args.hits.now c.requires.hits_long c.edges-k.ensures

pub returns : goal.returns
returns c = galerkin_raised _ c.args.h.now.l.limits _ c.args.hits.now c.requires.hits_long c.requires.rows_held c.edges-n.ensures c.edges-k.ensures c.lead_flags.ensures c.stored_flags.ensures
