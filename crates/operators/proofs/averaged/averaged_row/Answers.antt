-- `operators::averaged::averaged_row` meets its contract.
-- Assumes nothing.
use Rattle.lattice.proofs.GridLaws.{unknowns_most}
use native.Mathlib.Omega.{arith}
use mathlib.Core.Path.{ap, ◌∙◌}
use Rattle.numbers.specs.Complex.{finite}
use Rattle.numbers.specs.Places.{set_number}
use Rattle.operators.proofs.averaged.averaged_row.Goals as goal

pub overflow_add-to : goal.overflow_add-to
overflow_add-to c = omega (arith, unknowns_most c.args.nested.now.lines.paired.coarse_limits, c.requires.r_bound, c.requires.chain_room.low)

pub returns-clause-eps_after : goal.returns-clause-eps_after
returns-clause-eps_after c = c.put.ensures ∙ ap (set_number _ _) c.averaged_edge-v.ensures

pub returns-clause-value : goal.returns-clause-value
returns-clause-value c = c.is_finite.ensures ∙ ap finite c.averaged_edge-v.ensures
