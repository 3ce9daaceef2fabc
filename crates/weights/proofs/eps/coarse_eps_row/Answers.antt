-- `weights::eps::coarse_eps_row` meets its contract.
-- Assumes nothing.
use native.Mathlib.Omega.{arith}
use Rattle.lattice.proofs.GridLaws.{unknowns_most}
use Rattle.weights.proofs.eps.coarse_eps_row.Goals as goal

pub overflow_add-to : goal.overflow_add-to
overflow_add-to c = omega (arith, unknowns_most c.requires.limits.1, c.requires.r_bound)
