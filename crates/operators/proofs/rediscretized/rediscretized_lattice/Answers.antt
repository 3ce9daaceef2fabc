-- `operators::rediscretized::rediscretized_lattice` meets its contract.
-- Assumes nothing.
use Rattle.operators.proofs.RediscretizedLaws.{lattice_is}
use Rattle.operators.proofs.rediscretized.rediscretized_lattice.Goals as goal

pub returns : goal.returns
returns c = lattice_is _ _ c.requires.held_three c.coarse_step.ensures c.coarse_step-2.ensures c.coarse_step-3.ensures
