-- A lattice and its levels, as they go through the code.
-- Assumes nothing.
use Rattle.std.specs.Prelude.{ℕ, suc, ◌≡◌}
use Rattle.lattice.specs.Lattice.{FullLattice}
use Rattle.lattice.specs.Levels.{three_at}
use Rattle.lattice.specs.Sound.{full}
use Rattle.weights.specs.declared.pair.Pair.{Pair}
use Rattle.store.specs.declared.hierarchy.Hierarchy.{Hierarchy}

-- the lattice of level 0, with its stretches
abbrev pub the_lattice : Hierarchy → FullLattice
the_lattice h = full h.l

-- a pair is levels L and L + 1 of a lattice
pub record LevelPair (l : FullLattice) (L : ℕ) (pair : Pair) : Type 0 where
  pub base_is : full pair.l ≡ l
  pub fine_is : pair.fine ≡ three_at l L
  pub coarse_is : pair.coarse ≡ three_at l (suc L)
