-- `yonaduvi::input::no_lattice` meets its contract.
-- Assumes nothing.
use mathlib.Core.Path.{refl}
use Rattle.yonaduvi.specs.Exports.{no_lattice}
use Rattle.yonaduvi.proofs.input.no_lattice.Goals as goal

pub returns : goal.returns
unfolding no_lattice
returns c = refl
