-- `weights::tables::grid_of` meets its contract.
-- Assumes nothing.
use mathlib.Core.Path.{refl}
use Rattle.weights.specs.TwoLevels.{grid_with}
use Rattle.weights.proofs.tables.grid_of.Goals as goal

pub returns : goal.returns
unfolding grid_with
returns c = refl
