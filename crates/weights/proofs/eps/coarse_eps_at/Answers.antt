-- `weights::eps::coarse_eps_at` meets its contract.
-- Assumes nothing.
use Rattle.weights.proofs.EpsReads.{cell_line, ends_rise, ends_float, cell_eps}
use Rattle.weights.proofs.eps.coarse_eps_at.Goals as goal

pub sum_of_inverses-sum-requires-clause-line_inside : goal.sum_of_inverses-sum-requires-clause-line_inside
sum_of_inverses-sum-requires-clause-line_inside c = cell_line c.requires.limits.0 c.requires.limits.1 c.requires.nested_in c.requires.r_bound c.cell_at-c.ensures

pub overflow_sub-c : goal.overflow_sub-c
overflow_sub-c c = ends_rise c.requires.limits.0 c.requires.limits.1 c.requires.nested_in c.requires.r_bound c.cell_at-c.ensures

pub int_to_float-c : goal.int_to_float-c
int_to_float-c c = ends_float c.requires.limits.0 c.requires.limits.1 c.requires.nested_in c.requires.r_bound c.cell_at-c.ensures

pub returns : goal.returns
returns c = cell_eps c.requires.limits.0 c.requires.limits.1 c.requires.nested_in c.requires.r_bound c.cell_at-c.ensures _ _ c.sum_of_inverses-sum.ensures c.div.ensures
