-- Relations on the places of an axis, and products of three of them on the places of a lattice (docs/SPECIFICATION.md, 9).
-- Assumes nothing.
use Rattle.std.specs.Prelude.{ℕ, zero, suc, ◌<◌, ◌≡◌, Bool, true, false, ◌&&◌, ◌||◌}

-- ---- one axis

-- which places j are related to place i
abbrev pub Rel : Type 0
Rel = ℕ → ℕ → Bool

-- p holds at some place below n
unfoldable pub some : ℕ → (ℕ → Bool) → Bool
some zero p = false
some (suc n) p = some n p || p n

-- the relation the other way round
abbrev pub turned : Rel → Rel
turned r i j = r j i

-- r, then s, by way of a place below n
unfoldable pub after : ℕ → Rel → Rel → Rel
unfolding some
after n r s i j = some n (λ k. r i k && s k j)

-- ---- three axes

-- a place of a lattice; also its cells along each axis
pub record Spot : Type 0 where
  pub x : ℕ
  pub y : ℕ
  pub z : ℕ

-- the place p lies in a lattice of n cells
pub record Within (n : Spot) (p : Spot) : Type 0 where
  pub x : p.x < n.x
  pub y : p.y < n.y
  pub z : p.z < n.z

-- a relation for each axis
pub record Cube : Type 0 where
  pub x : Rel
  pub y : Rel
  pub z : Rel

-- their product: p and q are related on every axis
pub record Times (r : Cube) (p q : Spot) : Type 0 where
  pub x : r.x p.x q.x ≡ true
  pub y : r.y p.y q.y ≡ true
  pub z : r.z p.z q.z ≡ true

-- each axis' relation the other way round
abbrev pub turned_cube : Cube → Cube
turned_cube r = record { x = turned r.x; y = turned r.y; z = turned r.z }

-- r, then s, on each axis, n being the cells
unfoldable pub after_cube : Spot → Cube → Cube → Cube
unfolding after
after_cube n r s = record { x = after n.x r.x s.x; y = after n.y r.y s.y; z = after n.z r.z s.z }

-- ---- relations of places, as propositions

abbrev pub Over : Type 1
Over = Spot → Spot → Type 0

-- R, then S, by way of a place of the lattice
pub record Then (n : Spot) (R S : Over) (p q : Spot) : Type 0 where
  pub by : Spot
  pub inside : Within n by
  pub first : R p by
  pub second : S by q

-- one of the relations holds
pub record Union (A : Type 0) (R : A → Over) (p q : Spot) : Type 0 where
  pub term : A
  pub held : R term p q
