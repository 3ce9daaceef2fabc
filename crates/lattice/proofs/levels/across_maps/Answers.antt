-- `lattice::levels::across_maps` meets its contract, axis by axis.
-- Assumes nothing.
use Rattle.lattice.specs.Levels.{maps_of}
use Rattle.lattice.proofs.levels.across_maps.Goals as goal

pub returns : goal.returns
unfolding maps_of
returns c =
    λ i. record { x = c.across_map.ensures i; y = c.across_map-2.ensures i; z = c.across_map-3.ensures i }
