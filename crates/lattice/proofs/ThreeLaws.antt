-- Laws of the lattice's levels: the lines of a level have its cells.
-- Assumes nothing.
use Prim.Native.Nat.{ℕ}
use mathlib.Core.Path.{◌≡◌, refl}
use Rattle.lattice.specs.Lattice.{FullLattice}
use Rattle.lattice.specs.Levels.{cells_at, three_at}
use Rattle.lattice.specs.Line.{packed}

module _ (l : FullLattice) (L : ℕ) where
  pub three_x : (three_at l L).x.cells ≡ cells_at l 0 L
  unfolding three_at packed cells_at
  three_x = refl

  pub three_y : (three_at l L).y.cells ≡ cells_at l 1 L
  unfolding three_at packed cells_at
  three_y = refl

  pub three_z : (three_at l L).z.cells ≡ cells_at l 2 L
  unfolding three_at packed cells_at
  three_z = refl
