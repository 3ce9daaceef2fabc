-- A lattice within the limits with the stretches that go beside it.
-- Assumes nothing.
use Rattle.lattice.specs.Lattice.{FullLattice, full_lattice}
use Rattle.lattice.specs.declared.sound.Sound.{Sound}

abbrev pub full : Sound → FullLattice
full s = full_lattice s.lattice s.st.now
