-- Yee's placement: K. S. Yee, IEEE Trans. Antennas Propag. 14, 302 (1966), Fig. 1. E has its components on the
-- edges of a cell, at their middles, and H on the faces, at their centres. The unit of a place is half a step of the grid.
-- Assumes nothing.
use Rattle.std.specs.Prelude.{ℕ, suc, ◌+◌, ◌*◌, ◌<◌, ◌≡◌, ◌⊎◌, false, cond, eqb}
use Rattle.lattice.specs.Grid.{n_of, place_on}
use Rattle.lattice.specs.Lattice.{edges_of, is_wall, FullLattice}
use Rattle.lattice.specs.declared.grid.Position.{Position}

-- where the component of E at a position lies along axis a: halfway to the next node on its own axis, at the node on the others
unfoldable pub e_place : Position → ℕ → ℕ
e_place p a = cond (eqb a p.component) (2 * place_on p a + 1) (2 * place_on p a)

-- where the component of H at a position lies: at the node on its own axis, halfway to the next node on the others
unfoldable pub h_place : Position → ℕ → ℕ
h_place p a = cond (eqb a p.component) (2 * place_on p a) (2 * place_on p a + 1)

-- half-steps u and v of axis a are neighbours; on a Bloch axis also across the end of the period
pub data HalfStep (l : FullLattice) (a u v : ℕ) : Type 0 where
  plus : suc u ≡ v → HalfStep l a u v
  minus : suc v ≡ u → HalfStep l a u v
  plus_period : is_wall (edges_of l a) ≡ false → suc u ≡ v + 2 * n_of l.grid a → HalfStep l a u v
  minus_period : is_wall (edges_of l a) ≡ false → suc v ≡ u + 2 * n_of l.grid a → HalfStep l a u v

-- edge q is one of those around face p, and p one of the faces around q: their components differ, they are half a step apart on the
-- axis that is neither's component, and at the same place on the other two
pub record Around (l : FullLattice) (p q : Position) : Type 0 where
  pub differ : p.component ≡ q.component → ⊥
  pub apart : (a : ℕ) → a < 3 → (a ≡ p.component → ⊥) → (a ≡ q.component → ⊥) → HalfStep l a (h_place p a) (e_place q a)
  pub level : (a : ℕ) → a < 3 → (a ≡ p.component) ⊎ (a ≡ q.component) → h_place p a ≡ e_place q a
