-- `operators::averaged::averaged_edge` meets its contract.
-- Assumes nothing.
use native.Mathlib.Omega.{arith}
use Rattle.operators.proofs.AveragedRow.{coarse_limits, edge, edge_inside, edge_ready, next_below, last_below, cell_unknowns, edge_average}
use Rattle.operators.proofs.averaged.averaged_edge.Goals as goal

pub at-p-requires : goal.at-p-requires
at-p-requires c = coarse_limits c.args.nested.now.lines c.grid_of.ensures

pub hats_across-k-requires-clause-inside : goal.hats_across-k-requires-clause-inside
hats_across-k-requires-clause-inside c = edge_inside (edge c.args.nested.now.lines c.grid_of.ensures c.requires.nn_value c.grid_of-gf.ensures c.at-p.ensures c.requires.r_bound)

pub cell_of-c-requires : goal.cell_of-c-requires
cell_of-c-requires c = edge_ready (edge c.args.nested.now.lines c.grid_of.ensures c.requires.nn_value c.grid_of-gf.ensures c.at-p.ensures c.requires.r_bound)

pub mean_over-requires-clause-from_bound : goal.mean_over-requires-clause-from_bound
mean_over-requires-clause-from_bound c = (c.requires.from_bound.0, omega (arith, cell_unknowns (edge c.args.nested.now.lines c.grid_of.ensures c.requires.nn_value c.grid_of-gf.ensures c.at-p.ensures c.requires.r_bound) c.cell_of-c.ensures.1, c.requires.from_bound.1))

pub mean_over-requires-clause-next_below : goal.mean_over-requires-clause-next_below
mean_over-requires-clause-next_below c = next_below (edge c.args.nested.now.lines c.grid_of.ensures c.requires.nn_value c.grid_of-gf.ensures c.at-p.ensures c.requires.r_bound) c.cell_of-c.ensures.1 c.hats_across-k.ensures

pub mean_over-requires-clause-last_below : goal.mean_over-requires-clause-last_below
mean_over-requires-clause-last_below c = last_below (edge c.args.nested.now.lines c.grid_of.ensures c.requires.nn_value c.grid_of-gf.ensures c.at-p.ensures c.requires.r_bound) c.cell_of-c.ensures.1 c.hats_across-k.ensures

pub returns : goal.returns
returns c = edge_average (edge c.args.nested.now.lines c.grid_of.ensures c.requires.nn_value c.grid_of-gf.ensures c.at-p.ensures c.requires.r_bound) c.cell_of-c.ensures.1 c.hats_across-k.ensures _ c.mean_over.ensures
