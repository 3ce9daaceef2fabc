-- `weights::eps::cell_at` meets its contract.
-- Assumes nothing.
use native.Mathlib.Omega.{arith}
use Rattle.lattice.proofs.RowLaws.{at_in}
use Rattle.weights.proofs.EpsReads.{ends_index, cell_of}
use Rattle.weights.proofs.RowLaws.{place_small}
use Rattle.weights.proofs.eps.cell_at.Goals as goal

pub on_fine-node-requires-clause-i_bound : goal.on_fine-node-requires-clause-i_bound
on_fine-node-requires-clause-i_bound c = place_small c.requires.limits.0 (at_in c.requires.limits.0 c.requires.r_bound c.at-p.ensures)

pub overflow_mul-first : goal.overflow_mul-first
overflow_mul-first c = omega (arith, ends_index c.requires.limits.0 (at_in c.requires.limits.0 c.requires.r_bound c.at-p.ensures) c.place_on-m.ensures, c.requires.limits.1)

pub overflow_add-first : goal.overflow_add-first
overflow_add-first c = omega (arith, ends_index c.requires.limits.0 (at_in c.requires.limits.0 c.requires.r_bound c.at-p.ensures) c.place_on-m.ensures, c.requires.limits.1)

pub offset_bounds-nn-a : goal.offset_bounds-nn-a
offset_bounds-nn-a c = omega (arith, ends_index c.requires.limits.0 (at_in c.requires.limits.0 c.requires.r_bound c.at-p.ensures) c.place_on-m.ensures, c.requires.limits.1)

pub bounds-nn-a : goal.bounds-nn-a
bounds-nn-a c = omega (arith, ends_index c.requires.limits.0 (at_in c.requires.limits.0 c.requires.r_bound c.at-p.ensures) c.place_on-m.ensures, c.requires.limits.1)

pub overflow_mul-last : goal.overflow_mul-last
overflow_mul-last c = omega (arith, ends_index c.requires.limits.0 (at_in c.requires.limits.0 c.requires.r_bound c.at-p.ensures) c.place_on-m.ensures, c.requires.limits.1)

pub overflow_add-last : goal.overflow_add-last
overflow_add-last c = omega (arith, ends_index c.requires.limits.0 (at_in c.requires.limits.0 c.requires.r_bound c.at-p.ensures) c.place_on-m.ensures, c.requires.limits.1)

pub overflow_add-last-2 : goal.overflow_add-last-2
overflow_add-last-2 c = omega (arith, ends_index c.requires.limits.0 (at_in c.requires.limits.0 c.requires.r_bound c.at-p.ensures) c.place_on-m.ensures, c.requires.limits.1)

pub offset_bounds-nn-a-2 : goal.offset_bounds-nn-a-2
offset_bounds-nn-a-2 c = omega (arith, ends_index c.requires.limits.0 (at_in c.requires.limits.0 c.requires.r_bound c.at-p.ensures) c.place_on-m.ensures, c.requires.limits.1)

pub bounds-nn-a-2 : goal.bounds-nn-a-2
bounds-nn-a-2 c = omega (arith, ends_index c.requires.limits.0 (at_in c.requires.limits.0 c.requires.r_bound c.at-p.ensures) c.place_on-m.ensures, c.requires.limits.1)

pub returns : goal.returns
returns c = cell_of c.at-p.ensures c.place_on-m.ensures c.on_fine-node.ensures
