-- `lattice::levels::finest` meets its contract, axis by axis.
-- Assumes nothing.
use Rattle.lattice.specs.Levels.{three_at, line_at}
use Rattle.lattice.specs.Grid.{axis3, n_of}
use Rattle.lattice.proofs.levels.finest.Goals as goal

pub returns : goal.returns
unfolding three_at line_at n_of axis3
returns c =
    λ i. record { x = c.finest.ensures i; y = c.finest-2.ensures i; z = c.finest-3.ensures i }
