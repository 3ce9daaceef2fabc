use Rattle.weights.specs.Prolongation.{is_along}
use Rattle.weights.specs.Tables.{slot_on}
use Rattle.weights.proofs.rows.slot_on.Goals as goal

pub returns : goal.returns
unfolding slot_on is_along
returns c = c.slot.ensures
