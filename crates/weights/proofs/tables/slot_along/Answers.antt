-- `weights::tables::slot_along` meets its contract.
-- Assumes nothing.
use mathlib.Core.Path.{refl}
use Rattle.weights.specs.Tables.{slot_along}
use Rattle.weights.proofs.tables.slot_along.Goals as goal

pub returns : goal.returns
unfolding slot_along
returns c = refl
