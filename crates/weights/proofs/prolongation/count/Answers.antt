-- `weights::prolongation::count` meets its contract.
-- Assumes nothing.
use mathlib.Core.Path.{sym, ◌∙◌}
use Rattle.weights.proofs.CountLaws.{rows_weigh}
use Rattle.weights.proofs.prolongation.count.Goals as goal

pub returns : goal.returns
returns c = c.count_rows.ensures ∙ sym (rows_weigh _ _)
