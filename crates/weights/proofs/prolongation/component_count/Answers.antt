-- `weights::prolongation::component_count` meets its contract.
-- Assumes nothing.
use Rattle.weights.specs.Tables.{component_count}
use Rattle.weights.proofs.CountLaws.{most_three}
use Rattle.weights.proofs.prolongation.component_count.Goals as goal

pub returns : goal.returns
unfolding component_count
returns c = (rw (c.axis_count-x.ensures.0, c.axis_count-y.ensures.0, c.axis_count-z.ensures.0), (most_three c.axis_count-x.ensures.1 c.axis_count-y.ensures.1 c.axis_count-z.ensures.1).1)
