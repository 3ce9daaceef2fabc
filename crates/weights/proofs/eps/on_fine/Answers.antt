-- `weights::eps::on_fine_lem` meets its contract.
-- Assumes nothing.
use mathlib.Core.Path.{refl}
use Rattle.weights.specs.Tables.{on_fine_in}
use Rattle.weights.proofs.eps.on_fine.Goals as goal

pub returns : goal.returns
unfolding on_fine_in
returns c = refl
