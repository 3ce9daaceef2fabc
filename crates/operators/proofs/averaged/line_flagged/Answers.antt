-- `operators::averaged::line_flagged` meets its contract.
-- Assumes nothing.
use mathlib.Core.Path.{◌∙◌}
use Rattle.weights.proofs.EpsReads.{flags_along}
use Rattle.operators.specs.Averaged.{line_edges}
use Rattle.operators.proofs.AverageLaws.{line_inside}
use Rattle.operators.proofs.averaged.line_flagged.Goals as goal

pub line_flagged-requires-clause-first_le_last : goal.line_flagged-requires-clause-first_le_last
line_flagged-requires-clause-first_le_last c =
    (c.requires.cell.rises, line_inside (record { is = c.through.ensures }) c.requires.cell.c_in c.requires.node_bound c.requires.cell.inside)

pub returns : goal.returns
unfolding line_edges
returns c = rw (← c.through.ensures) (c.line_flagged.ensures ∙ flags_along _ _ _ _ _)
