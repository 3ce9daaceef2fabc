-- `weights::eps::eps_flagged` meets its contract.
-- Assumes nothing.
use mathlib.Core.Path.{ap, ◌∙◌}
use Rattle.numbers.specs.Lists.{any_flag}
use Rattle.weights.proofs.EpsReads.{cell_line, ends_rise, cell_reads, flags_along}
use Rattle.weights.proofs.eps.eps_flagged.Goals as goal

pub line_flagged-requires-clause-first_le_last : goal.line_flagged-requires-clause-first_le_last
line_flagged-requires-clause-first_le_last c = (ends_rise c.requires.limits.0 c.requires.limits.1 c.requires.nested_in c.requires.r_bound c.cell_at-c.ensures, cell_line c.requires.limits.0 c.requires.limits.1 c.requires.nested_in c.requires.r_bound c.cell_at-c.ensures)

pub returns : goal.returns
returns c = c.line_flagged.ensures ∙ flags_along _ _ _ _ _ ∙ ap (any_flag _) (cell_reads c.requires.limits.0 c.requires.limits.1 c.requires.nested_in c.requires.r_bound c.cell_at-c.ensures)
