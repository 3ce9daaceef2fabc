-- The rows of a lattice's own operator name one another: a column of row r has r as a column. So do the permittivities that they read: the curls, and the
-- gradient and the divergence, are each other's relations the other way round.
-- Assumes nothing.
use Prim.Native.Nat.{ℕ, ◌<◌}
use mathlib.Core.Path.{◌≡◌, sym, ap, subst, ◌∙◌}
use mathlib.Core.Logic.{inl, inr, ⊎_elim}
use mathlib.Core.Bool.{Bool, true, false, ◌&&◌, ◌||◌}
use mathlib.Core.List.{List}
use lib.Dec.{eqb}
use Rattle.std.proofs.lemmas.Bool.{and_from, and_parts}
use Rattle.numbers.specs.declared.C64.{C64}
use Rattle.numbers.specs.Lists.{In}
use Rattle.numbers.specs.Terms.{columns_of}
use Rattle.numbers.proofs.MarkedLaws.{Mutual}
use Rattle.numbers.proofs.StartLaws.{eqb_turned}
use Rattle.lattice.specs.declared.grid.Position.{Position}
use Rattle.lattice.specs.Grid.{n_of, unknowns_of, index_of, at_of, Limits, Inside}
use Rattle.lattice.specs.Lattice.{FullLattice}
use Rattle.lattice.proofs.GridLaws.{at_inside, index_at, index_below}
use Rattle.operators.specs.Relation.{Spot, Times, Then}
use Rattle.operators.specs.Pattern.{across}
use Rattle.operators.specs.Base.{live_at, follows}
use Rattle.operators.specs.Relations0.{ahead, back, curl_h, curl_e, grad, div, cells, grad_cube, div_cube, ByFace, Stencil}
use Rattle.operators.specs.Levels.{is_bloch, spot_of}
use Rattle.operators.specs.Stencil.{stencil_row, stencil_reads}
use Rattle.operators.proofs.ListedPlaces.{Found, Listed}
use Rattle.operators.proofs.StencilPattern.{stencil_lists}
use Rattle.operators.proofs.StencilRow.{Touched, Reads, reads_listed}

-- ---- one axis

module _ (n : ℕ) (bloch : Bool) where
  ahead_turned : (i j : ℕ) → ahead n bloch i j ≡ back n bloch j i
  unfolding ahead back
  ahead_turned i j = ap (λ (b : Bool). b || follows n bloch i j) (eqb_turned i j)

  curl_turned : (own face : Bool) (i j : ℕ) → curl_e n bloch face own i j ≡ curl_h n bloch own face j i
  curl_turned true true i j = eqb_turned i j
  curl_turned true false i j = eqb_turned i j
  curl_turned false true i j = eqb_turned i j
  curl_turned false false i j = ahead_turned i j

  grad_turned : (own : Bool) (i m : ℕ) → grad n bloch own i m ≡ (live_at bloch across m && div n bloch own m i)
  unfolding grad
  grad_turned true i m = ap (λ (b : Bool). live_at bloch across m && b) (ahead_turned i m)
  grad_turned false i m = ap (λ (b : Bool). live_at bloch across m && b) (eqb_turned i m)

  -- to a node and on, the other way round: the node is not held fixed
  node_there : (own other : Bool) (i m j : ℕ) → grad n bloch own i m ≡ true → div n bloch other m j ≡ true → grad n bloch other j m ≡ true
  node_there own other i m j h g =
      grad_turned other j m ∙ and_from _ _ (and_parts (live_at bloch across m) (div n bloch own m i) (sym (grad_turned own i m) ∙ h)).0 g

  node_back : (own : Bool) (i m : ℕ) → grad n bloch own i m ≡ true → div n bloch own m i ≡ true
  node_back own i m h = (and_parts (live_at bloch across m) (div n bloch own m i) (sym (grad_turned own i m) ∙ h)).1

-- ---- three axes

module _ (n : ℕ → ℕ) (bloch : ℕ → Bool) (a b : ℕ) (p q : Spot) where
  face_turned : ByFace n bloch a b p q → ByFace n bloch b a q p
  face_turned t =
      let s = t.path.by in
      let f = t.face in
      record {
        face = f;
        few = t.few;
        other = t.another;
        another = t.other;
        path = record {
          by = s;
          inside = t.path.inside;
          first = record {
            x = sym (curl_turned (n 0) (bloch 0) (eqb 0 b) (eqb 0 f) s.x q.x) ∙ t.path.second.x;
            y = sym (curl_turned (n 1) (bloch 1) (eqb 1 b) (eqb 1 f) s.y q.y) ∙ t.path.second.y;
            z = sym (curl_turned (n 2) (bloch 2) (eqb 2 b) (eqb 2 f) s.z q.z) ∙ t.path.second.z;
          };
          second = record {
            x = curl_turned (n 0) (bloch 0) (eqb 0 a) (eqb 0 f) s.x p.x ∙ t.path.first.x;
            y = curl_turned (n 1) (bloch 1) (eqb 1 a) (eqb 1 f) s.y p.y ∙ t.path.first.y;
            z = curl_turned (n 2) (bloch 2) (eqb 2 a) (eqb 2 f) s.z p.z ∙ t.path.first.z;
          };
        };
      }

  node_turned : Then (cells n bloch) (Times (grad_cube n bloch a)) (Times (div_cube n bloch b)) p q
      → Then (cells n bloch) (Times (grad_cube n bloch b)) (Times (div_cube n bloch a)) q p
  node_turned t =
      let s = t.by in
      record {
        by = s;
        inside = t.inside;
        first = record {
          x = node_there (n 0) (bloch 0) (eqb 0 a) (eqb 0 b) p.x s.x q.x t.first.x t.second.x;
          y = node_there (n 1) (bloch 1) (eqb 1 a) (eqb 1 b) p.y s.y q.y t.first.y t.second.y;
          z = node_there (n 2) (bloch 2) (eqb 2 a) (eqb 2 b) p.z s.z q.z t.first.z t.second.z;
        };
        second = record {
          x = node_back (n 0) (bloch 0) (eqb 0 a) p.x s.x t.first.x;
          y = node_back (n 1) (bloch 1) (eqb 1 a) p.y s.y t.first.y;
          z = node_back (n 2) (bloch 2) (eqb 2 a) p.z s.z t.first.z;
        };
      }

  stencil_turned : Stencil n bloch a b p q → Stencil n bloch b a q p
  stencil_turned (inl e) = inl (sym e)
  stencil_turned (inr t) =
      inr (record { row = t.column; column = t.row; path = ⊎_elim (λ u. inl (face_turned u)) (λ u. inr (node_turned u)) t.path })

reads_turned : (l : FullLattice) (p q : Position) → Reads l p q → Reads l q p
reads_turned l p q t =
    record { row = t.column; column = t.row; path = ⊎_elim (λ e. inl (sym e)) (λ u. inr (node_turned (n_of l.grid) (is_bloch l) p.component q.component (spot_of p) (spot_of q) u)) t.path }

-- ---- rows

-- rows that list what a relation leads to, which is its own the other way round
listed_mutual : (l : FullLattice) → Limits l.grid → (P : Position → Position → Type 0) (row : ℕ → List ℕ)
    → ((p : Position) → Inside l.grid p → Listed l (P p) (row (index_of l.grid p))) → ((p q : Position) → P p q → P q p) → Mutual (unknowns_of l.grid) row
listed_mutual l limits P row lists turned =
    record {
      low = λ r c h i. let t = there r c h i in subst (λ (d : ℕ). d < unknowns_of l.grid) t.is (index_below limits t.inside);
      back = λ r c h i.
          let t = there r c h i in
          let p = at_of l.grid r in
          let w : In (index_of l.grid p) (row (index_of l.grid t.at)) = (lists t.at t.inside).back p (at_inside limits r h) (turned p t.at t.held) in
          rw (t.is, index_at limits r h) at w;
    }
  where
    there : (r c : ℕ) → r < unknowns_of l.grid → In c (row r) → Found l (P (at_of l.grid r)) c
    there r c h i = (lists (at_of l.grid r) (at_inside limits r h)).there c (rw (index_at limits r h) i)

-- the columns of the lattice's own rows
pub stencil_mutual : (l : FullLattice) → Limits l.grid → (f : ℕ → C64) → Mutual (unknowns_of l.grid) (λ r. columns_of (stencil_row l f r))
stencil_mutual l limits f =
    listed_mutual l limits (Touched l) (λ r. columns_of (stencil_row l f r)) (λ p a. stencil_lists l limits p a f)
    (λ p q t. stencil_turned (n_of l.grid) (is_bloch l) p.component q.component (spot_of p) (spot_of q) t)

-- the permittivities that they read
pub reads_mutual : (l : FullLattice) → Limits l.grid → Mutual (unknowns_of l.grid) (stencil_reads l)
reads_mutual l limits = listed_mutual l limits (Reads l) (stencil_reads l) (reads_listed l limits) (reads_turned l)
