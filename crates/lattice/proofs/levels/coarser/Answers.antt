-- `lattice::levels::coarser` meets its contract, axis by axis.
-- Assumes nothing.
use Rattle.lattice.specs.Levels.{coarser_three}
use Rattle.lattice.proofs.levels.coarser.Goals as goal

pub returns : goal.returns
unfolding coarser_three
returns c =
    λ i. record { x = c.coarser.ensures i; y = c.coarser-2.ensures i; z = c.coarser-3.ensures i }
