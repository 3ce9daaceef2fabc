-- The columns that the lattice's own row touches (docs/SPECIFICATION.md, 9), as relations: E to H and back by two curls, and to the nodes and back
-- by a divergence and a gradient, the fixed ones left out.
-- Assumes nothing.
use Rattle.std.specs.Prelude.{ℕ, ◌<◌, ◌≡◌, ◌⊎◌, Bool, true, false, ◌&&◌, ◌||◌, eqb}
use Rattle.operators.specs.Relation.{Rel, Spot, Cube, Times, Then}
use Rattle.operators.specs.Pattern.{across, role, spot_edge}
use Rattle.operators.specs.Base.{live_at, follows}

-- the same place or the next
unfoldable pub ahead : ℕ → Bool → Rel
ahead n bloch i j = eqb i j || follows n bloch i j

-- the same place or the one before
unfoldable pub back : ℕ → Bool → Rel
back n bloch i j = eqb i j || follows n bloch j i

-- r if so, else s
abbrev pub pick : Bool → Rel → Rel → Rel
pick true r s = r
pick false r s = s

-- curl H, from an edge to the faces that it reads, on an axis that is the edge's own, the face's own, or the third: the shift is along the third
abbrev pub curl_h : ℕ → Bool → Bool → Bool → Rel
curl_h n bloch own face = pick (own || face) eqb (back n bloch)

-- curl E, from a face to the edges that it reads
abbrev pub curl_e : ℕ → Bool → Bool → Bool → Rel
curl_e n bloch face own = pick (face || own) eqb (ahead n bloch)

-- the gradient, from an edge to the nodes that it reads: a node that is held fixed is left out
unfoldable pub grad : ℕ → Bool → Bool → Rel
grad n bloch own i m = live_at bloch across m && pick own (ahead n bloch) eqb i m

-- the divergence, from a node to the edges that it reads
abbrev pub div : ℕ → Bool → Bool → Rel
div n bloch own = pick own (back n bloch) eqb

module _ (n : ℕ → ℕ) (bloch : ℕ → Bool) where
  -- the cells of the three axes
  abbrev pub cells : Spot
  cells = record { x = n 0; y = n 1; z = n 2 }

  -- curl H on the three axes, from edges of component a to faces of component f
  abbrev pub curl_h_cube : ℕ → ℕ → Cube
  curl_h_cube a f = record { x = curl_h (n 0) (bloch 0) (eqb 0 a) (eqb 0 f); y = curl_h (n 1) (bloch 1) (eqb 1 a) (eqb 1 f); z = curl_h (n 2) (bloch 2) (eqb 2 a) (eqb 2 f) }

  -- curl E on the three axes
  abbrev pub curl_e_cube : ℕ → ℕ → Cube
  curl_e_cube f b = record { x = curl_e (n 0) (bloch 0) (eqb 0 f) (eqb 0 b); y = curl_e (n 1) (bloch 1) (eqb 1 f) (eqb 1 b); z = curl_e (n 2) (bloch 2) (eqb 2 f) (eqb 2 b) }

  -- the gradient
  abbrev pub grad_cube : ℕ → Cube
  grad_cube a = record { x = grad (n 0) (bloch 0) (eqb 0 a); y = grad (n 1) (bloch 1) (eqb 1 a); z = grad (n 2) (bloch 2) (eqb 2 a) }

  -- the divergence
  abbrev pub div_cube : ℕ → Cube
  div_cube b = record { x = div (n 0) (bloch 0) (eqb 0 b); y = div (n 1) (bloch 1) (eqb 1 b); z = div (n 2) (bloch 2) (eqb 2 b) }

  -- the edge is not held fixed
  pub record Free (a : ℕ) (p : Spot) : Type 0 where
    pub x : live_at (bloch 0) (role a 0) p.x ≡ true
    pub y : live_at (bloch 1) (role a 1) p.y ≡ true
    pub z : live_at (bloch 2) (role a 2) p.z ≡ true

  -- by way of a face of another component
  pub record ByFace (a b : ℕ) (p q : Spot) : Type 0 where
    pub face : ℕ
    pub few : face < 3
    pub other : face ≡ a → ⊥
    pub another : face ≡ b → ⊥
    pub path : Then cells (Times (curl_h_cube a face)) (Times (curl_e_cube face b)) p q

  -- both edges are free, and lead to one another by way of a face or of a node
  pub record Touches (a b : ℕ) (p q : Spot) : Type 0 where
    pub row : Free a p
    pub column : Free b q
    pub path : ByFace a b p q ⊎ Then cells (Times (grad_cube a)) (Times (div_cube b)) p q

  -- the diagonal, and what is touched
  abbrev pub Stencil : ℕ → ℕ → Spot → Spot → Type 0
  Stencil a b p q = (spot_edge a p ≡ spot_edge b q) ⊎ Touches a b p q
