-- `lattice::levels::no_line` meets its contract.
-- Assumes nothing.
use mathlib.Core.Path.{refl}
use Rattle.lattice.specs.Levels.{no_line}
use Rattle.lattice.proofs.levels.no_line.Goals as goal

pub returns : goal.returns
unfolding no_line
returns c = refl
