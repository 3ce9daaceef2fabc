-- `operators::averaged::hats_at` meets its contract.
-- Assumes nothing.
use Rattle.operators.proofs.AverageLaws.{axis_cut}
use Rattle.operators.proofs.averaged.hats_at.Goals as goal

pub returns : goal.returns
returns c = axis_cut _ _ _ _ c.place_on.ensures c.requires.hats_fit
