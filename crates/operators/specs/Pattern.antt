-- The columns of an operator row at every level (docs/SPECIFICATION.md, 9): as they are touched, and as a union of products of one-axis relations.
-- Axes and components are 0, 1 and 2.
-- Assumes nothing.
use Rattle.std.specs.Prelude.{ℕ, zero, suc, ◌<◌, ◌≡◌, ◌⊎◌, Bool, true, false, ◌&&◌, eqb}
use Rattle.operators.specs.Relation.{Rel, after, turned, Spot, Cube, Times, Over, Then, Union}

-- how a component sits on an axis
pub data Role : Type 0 where
  along : Role
  across : Role

-- the relations of an axis, at level 0: to the same place; to the same and its neighbours; from a place along to the two across beside it; and back
pub data Name : Type 0 where
  same : Role → Name
  near : Role → Name
  up : Name
  down : Name

-- the role of the places that a relation starts from
abbrev pub row_role : Name → Role
row_role (same r) = r
row_role (near r) = r
row_role up = along
row_role down = across

-- the role of the places that it leads to
abbrev pub column_role : Name → Role
column_role (same r) = r
column_role (near r) = r
column_role up = across
column_role down = along

-- along its own axis, across any other
abbrev pub role_of : Bool → Role
role_of true = along
role_of false = across

-- the relation of an axis: is it the row's own, is it the column's own, is it the one of `near`
abbrev pub name_of : Bool → Bool → Bool → Name
name_of true true true = near along
name_of true true false = same along
name_of true false t = up
name_of false true t = down
name_of false false true = near across
name_of false false false = same across

-- how component a sits on axis d
abbrev pub role : ℕ → ℕ → Role
role a d = role_of (eqb d a)

-- the relation of axis d in term w of the columns of component b in a row of component a: three terms if a is b, and one, three times, if not
unfoldable pub name_at : ℕ → ℕ → ℕ → ℕ → Name
name_at a b w d = name_of (eqb d a) (eqb d b) (eqb a b && eqb d w)

-- the term of a union
abbrev pub Which : Type 0
Which = (w : ℕ) × (w < 3)

-- the levels: cells L d are the cells of axis d at level L, base d has level 0's relations, forward L d leads from a place of level L to the places
-- of level L + 1 that it has weights at
pub record Ladder : Type 0 where
  pub cells : ℕ → ℕ → ℕ
  pub base : ℕ → Name → Rel
  pub forward : ℕ → ℕ → Role → Rel

-- the relations of an axis one level down
unfoldable pub coarser : ℕ → (Role → Rel) → Name → Rel → Rel
unfolding after
coarser n f w r = after n (after n (turned (f (row_role w))) r) (f (column_role w))

module _ (M : Ladder) where
  -- relation w of axis d at level L
  unfoldable pub rel : ℕ → ℕ → Name → Rel
  rel zero d w = M.base d w
  rel (suc L) d w = coarser (M.cells L d) (M.forward L d) w (rel L d w)

  -- the cells of level L
  abbrev pub box : ℕ → Spot
  box L = record { x = M.cells L 0; y = M.cells L 1; z = M.cells L 2 }

  -- the relations of term w
  abbrev pub cube : ℕ → ℕ → ℕ → ℕ → Cube
  cube L a b w = record { x = rel L 0 (name_at a b w 0); y = rel L 1 (name_at a b w 1); z = rel L 2 (name_at a b w 2) }

  -- the places of the next level that component a has weights at, axis by axis
  abbrev pub forward_cube : ℕ → ℕ → Cube
  forward_cube L a = record { x = M.forward L 0 (role a 0); y = M.forward L 1 (role a 1); z = M.forward L 2 (role a 2) }

  -- the pattern: related by one of the three terms. This is what the code scans
  abbrev pub Pattern : ℕ → ℕ → ℕ → Over
  Pattern L a b = Union Which (λ w. Times (cube L a b w.0))

  -- a place of the next level that component a has a weight at
  abbrev pub Forward : ℕ → ℕ → Over
  Forward L a = Times (forward_cube L a)

-- an edge: its component and its place
pub record SpotEdge : Type 0 where
  pub comp : ℕ
  pub at : Spot

-- the edge of component a at p
abbrev pub spot_edge : ℕ → Spot → SpotEdge
spot_edge a p = record { comp = a; at = p }

-- the columns of a row as made (docs/SPECIFICATION.md, 9): the diagonal, and from level to level what forward, the finer row and the turned
-- forward touch
unfoldable pub Row : Ladder → ℕ → ℕ → ℕ → Spot → Spot → Type 0
Row M zero a b p q = (spot_edge a p ≡ spot_edge b q) ⊎ Pattern M 0 a b p q
Row M (suc L) a b p q =
    (spot_edge a p ≡ spot_edge b q)
    ⊎ Then (box M L) (λ (p k : Spot). Forward M L a k p) (Then (box M L) (λ (k l : Spot). Row M L a b k l) (Forward M L b)) p q

-- live: not held fixed. Weights go from live places to live places, each live place of the next level is reached, and at level 0 a live place is near
-- and the same as itself, and only live places are related to anything
pub record Sound (M : Ladder) : Type 0 where
  pub live : ℕ → ℕ → Role → ℕ → Bool
  pub starts : (L d : ℕ) (r : Role) (k i : ℕ) → M.forward L d r k i ≡ true → live L d r k ≡ true
  pub ends : (L d : ℕ) (r : Role) (k i : ℕ) → M.forward L d r k i ≡ true → live (suc L) d r i ≡ true
  pub reached : (L d : ℕ) (r : Role) (i : ℕ) → live (suc L) d r i ≡ true → (k : ℕ) × (k < M.cells L d) × (M.forward L d r k i ≡ true)
  pub same_self : (d : ℕ) (r : Role) (i : ℕ) → live 0 d r i ≡ true → M.base d (same r) i i ≡ true
  pub near_self : (d : ℕ) (r : Role) (i : ℕ) → live 0 d r i ≡ true → M.base d (near r) i i ≡ true
  pub only_live : (d : ℕ) (w : Name) (i j : ℕ) → M.base d w i j ≡ true → live 0 d (row_role w) i ≡ true

-- the edge of component a at p is live on every axis; one that is held fixed is not, on some axis
pub record Live (M : Ladder) (S : Sound M) (L a : ℕ) (p : Spot) : Type 0 where
  pub x : S.live L 0 (role a 0) p.x ≡ true
  pub y : S.live L 1 (role a 1) p.y ≡ true
  pub z : S.live L 2 (role a 2) p.z ≡ true
