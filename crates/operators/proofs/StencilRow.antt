-- The columns of a lattice's own row are those of the stencil's relations; and those whose permittivities it reads.
-- Assumes nothing.
use Prim.Native.Nat.{ℕ, ◌<◌}
use mathlib.Core.Path.{◌≡◌, refl, sym, ◌∙◌, ap}
use mathlib.Core.Logic.{◌⊎◌, inl, inr, ⊎_elim, ◌↔◌}
use mathlib.Core.Bool.{Bool, true, false, not, cond, false≢true}
use mathlib.Core.List.{List, [], ◌∷◌, ◌++◌}
use native.Mathlib.Omega.{arith}
use borrow.Author.Tests.{not-true}
use lib.Dec.{eqb}
use Rattle.std.proofs.lemmas.Bool.{and_from, and_parts}
use Rattle.numbers.specs.declared.C64.{C64}
use Rattle.numbers.specs.Lists.{each, contains}
use Rattle.numbers.specs.Terms.{columns_of}
use Rattle.lattice.specs.declared.grid.Position.{Position}
use Rattle.lattice.specs.Grid.{n_of, place_on, index_of, Limits, Inside}
use Rattle.lattice.specs.Lattice.{FullLattice}
use Rattle.lattice.specs.Neighbours.{on_wall, fixed_at, is_node_fixed}
use Rattle.lattice.specs.Curls.{curl_e, curl_h, divergence_of, gradient_of}
use Rattle.lattice.specs.Rows.{free_columns, row_into}
use Rattle.lattice.proofs.GridLaws.{at_index, place_inside}
use Rattle.lattice.proofs.Equations.{n_of_0, n_of_1, n_of_2, place_on_0, place_on_1, place_on_2, free_columns_is}
use Rattle.operators.specs.Relation.{Spot, Times, Within, Then}
use Rattle.operators.specs.Pattern.{SpotEdge, spot_edge, across, role_of}
use Rattle.operators.specs.Base.{live_at}
use Rattle.operators.specs.Relations0.{ahead, pick, grad, cells, grad_cube, div_cube, Free, ByFace, Stencil}
use Rattle.operators.specs.Stencil.{stencil_reads}
use Rattle.operators.specs.Levels.{is_bloch, spot_of}
use Rattle.lattice.proofs.ColumnLaws.{fixed_at_lem, curl_e_at_lem, curl_h_at_lem, gradient_at_lem, off_axis, free_off, off_free, free_walls, walls_free, face_columns, face_columns_is, row_columns_lem, row_reads_lem}
use Rattle.operators.proofs.NeighbourSpots.{live_across, live_role, low3}
use Rattle.operators.proofs.ListedPlaces.{Listed, Lists, lists_contain, lists_same, listed_append, Through, listed_each, listed_free}
use Rattle.operators.proofs.DifferencePlaces.{Moves, Crosses, Leaves, curl_e_lists, curl_h_lists, divergence_lists, gradient_lists}

-- ---- edges and nodes that are not fixed

module _ (l : FullLattice) (p : Position) where
  abbrev own_axis : ℕ → Bool
  own_axis d = eqb d p.component

  -- on each axis the edge's place is live
  live_free : fixed_at l p ≡ false → (d : ℕ) → d < 3 → live_at (is_bloch l d) (role_of (own_axis d)) (place_on p d) ≡ true
  live_free h d i = live_role l p (own_axis d) d ∙ ap not (free_off l p h d i)

  free_live : (d : ℕ) → live_at (is_bloch l d) (role_of (own_axis d)) (place_on p d) ≡ true → off_axis l p d ≡ false
  free_live d h = not-true (off_axis l p d) (sym (live_role l p (own_axis d) d) ∙ h)

  pub fixed_free : fixed_at l p ≡ false → Free (n_of l.grid) (is_bloch l) p.component (spot_of p)
  fixed_free h =
      record {
        x = rw (place_on_0 p) at (live_free h 0 (omega arith));
        y = rw (place_on_1 p) at (live_free h 1 (omega arith));
        z = rw (place_on_2 p) at (live_free h 2 (omega arith));
      }

  pub free_fixed : Free (n_of l.grid) (is_bloch l) p.component (spot_of p) → fixed_at l p ≡ false
  free_fixed h =
      off_free l p
      (low3 (λ d. off_axis l p d ≡ false) (free_live 0 (rw (place_on_0 p) h.x)) (free_live 1 (rw (place_on_1 p) h.y)) (free_live 2 (rw (place_on_2 p) h.z)))

-- from an edge to a node that it reads
abbrev Climbs : FullLattice → Position → Position → Type 0
Climbs l p s = Times (grad_cube (n_of l.grid) (is_bloch l) p.component) (spot_of p) (spot_of s)

module _ (l : FullLattice) (limits : Limits l.grid) (p s : Position) (inside : Inside l.grid s) where
  moves_climbs : Moves l true p p.component 0 s → is_node_fixed l (index_of l.grid s) ≡ false → Climbs l p s
  unfolding grad
  moves_climbs m h =
      record {
        x = and_from _ _ (rw (place_on_0 s) at (live 0 (omega arith))) m.1.x;
        y = and_from _ _ (rw (place_on_1 s) at (live 1 (omega arith))) m.1.y;
        z = and_from _ _ (rw (place_on_2 s) at (live 2 (omega arith))) m.1.z;
      }
    where
      live : (d : ℕ) → d < 3 → live_at (is_bloch l d) across (place_on s d) ≡ true
      live d i = live_across l s d ∙ ap not (free_walls l limits inside h d i)

  climbs_moves : s.component ≡ 0 → Climbs l p s → Moves l true p p.component 0 s × (is_node_fixed l (index_of l.grid s) ≡ false)
  unfolding grad
  climbs_moves e h =
      let n = n_of l.grid in
      let b = is_bloch l in
      let x = and_parts (live_at (b 0) across s.i) (pick (eqb 0 p.component) (ahead (n 0) (b 0)) eqb p.i s.i) h.x in
      let y = and_parts (live_at (b 1) across s.j) (pick (eqb 1 p.component) (ahead (n 1) (b 1)) eqb p.j s.j) h.y in
      let z = and_parts (live_at (b 2) across s.k) (pick (eqb 2 p.component) (ahead (n 2) (b 2)) eqb p.k s.k) h.z in (
        (e, record { x = x.1; y = y.1; z = z.1 }),
        walls_free l limits inside
            (low3 (λ d. on_wall l s d ≡ false) (wall 0 (rw (place_on_0 s) x.0)) (wall 1 (rw (place_on_1 s) y.0)) (wall 2 (rw (place_on_2 s) z.0))),
      )
    where
      wall : (d : ℕ) → live_at (is_bloch l d) across (place_on s d) ≡ true → on_wall l s d ≡ false
      wall d h = not-true (on_wall l s d) (sym (live_across l s d) ∙ h)

-- ---- the row

-- q is a column of the row of p
abbrev pub Touched : FullLattice → Position → Position → Type 0
Touched l p q = Stencil (n_of l.grid) (is_bloch l) p.component q.component (spot_of p) (spot_of q)

abbrev Unfixed : FullLattice → (Position → Position → Type 0) → Position → Position → Type 0
Unfixed l P s q = P s q × (fixed_at l q ≡ false)

-- by way of a face, and of a node
abbrev ViaFace : FullLattice → Position → Position → Type 0
ViaFace l p = Through l (Crosses l false p) (Unfixed l (Crosses l true))

abbrev ViaNode : FullLattice → Position → Position → Type 0
ViaNode l p = Through l (λ s. Moves l true p p.component 0 s × (is_node_fixed l (index_of l.grid s) ≡ false)) (Unfixed l (Leaves l))

pub within : (l : FullLattice) (s : Position) → Inside l.grid s → Within (cells (n_of l.grid) (is_bloch l)) (spot_of s)
within l s a =
    record {
      x = rw (place_on_0 s) at (place_inside a 0);
      y = rw (place_on_1 s) at (place_inside a 1);
      z = rw (place_on_2 s) at (place_inside a 2);
    }

-- the position of component c at a spot
abbrev pub placed : ℕ → Spot → Position
placed c s = record { component = c; i = s.x; j = s.y; k = s.z }

pub placed_inside : (l : FullLattice) (c : ℕ) (s : Spot) → c < 3 → Within (cells (n_of l.grid) (is_bloch l)) s → Inside l.grid (placed c s)
placed_inside l c s h w =
    record {
      c_in = h;
      i_in = rw (n_of_0 l.grid) at w.x;
      j_in = rw (n_of_1 l.grid) at w.y;
      k_in = rw (n_of_2 l.grid) at w.z;
    }

module _ (l : FullLattice) (limits : Limits l.grid) where
  -- the free edges of a face, and of a node
  face_listed : (s : Position) → Inside l.grid s → Listed l (Unfixed l (Crosses l true) s) (face_columns l (index_of l.grid s))
  face_listed s a =
      rw (face_columns_is l (index_of l.grid s))
      (listed_free l limits (Crosses l true s) (columns_of (curl_e l (index_of l.grid s))) (rw (curl_e_at_lem l limits a) (curl_e_lists l s a)))

  node_listed : (s : Position) → Inside l.grid s → Listed l (Unfixed l (Leaves l) s) (free_columns l (index_of l.grid s))
  node_listed s a =
      rw (free_columns_is l (index_of l.grid s))
      (listed_free l limits (Leaves l s) (columns_of (divergence_of l (index_of l.grid s))) (divergence_lists l s (index_of l.grid s) a (at_index limits a)))

  module _ (p : Position) (inside : Inside l.grid p) where
    abbrev r : ℕ
    r = index_of l.grid p

    faces_listed : Listed l (ViaFace l p) (each (face_columns l) (columns_of (curl_h l r)))
    faces_listed =
        listed_each (Crosses l false p) (Unfixed l (Crosses l true)) (face_columns l) (columns_of (curl_h l r)) (rw (curl_h_at_lem l limits inside) (curl_h_lists l p inside)) face_listed

    nodes_listed : Listed l (ViaNode l p) (each (free_columns l) (columns_of (gradient_of l r)))
    nodes_listed =
        listed_each (λ s. Moves l true p p.component 0 s × (is_node_fixed l (index_of l.grid s) ≡ false)) (Unfixed l (Leaves l)) (free_columns l) (columns_of (gradient_of l r))
        (rw (gradient_at_lem l limits inside) (gradient_lists l p inside)) node_listed

    own_listed : Listed l (λ q. q ≡ p) (r ∷ [])
    own_listed =
        record {
          there = λ c i. record { at = p; inside = inside; is = ⊎_elim (λ e. sym e) (λ e. absurd e) i; held = refl };
          back = λ q a e. inl (ap (index_of l.grid) e);
        }

  -- the two ways are those of the stencil
  module _ (p q : Position) (a : Inside l.grid p) (b : Inside l.grid q) where
    abbrev NodePath : Type 0
    NodePath = Then (cells (n_of l.grid) (is_bloch l)) (Times (grad_cube (n_of l.grid) (is_bloch l) p.component)) (Times (div_cube (n_of l.grid) (is_bloch l) q.component)) (spot_of p) (spot_of q)

    via_face : ViaFace l p q → ByFace (n_of l.grid) (is_bloch l) p.component q.component (spot_of p) (spot_of q)
    via_face t =
        record {
          face = t.by.component;
          few = t.inside.c_in;
          other = λ e. t.first.0 (sym e);
          another = t.second.0.0;
          path = record { by = spot_of t.by; inside = within l t.by t.inside; first = t.first.1; second = t.second.0.1 };
        }

    face_via : fixed_at l q ≡ false → ByFace (n_of l.grid) (is_bloch l) p.component q.component (spot_of p) (spot_of q) → ViaFace l p q
    face_via free t =
        record {
          by = placed t.face t.path.by;
          inside = placed_inside l t.face t.path.by t.few t.path.inside;
          first = ((λ e. t.other (sym e)), t.path.first);
          second = ((t.another, t.path.second), free);
        }

    via_node : ViaNode l p q → NodePath
    via_node t =
        record {
          by = spot_of t.by;
          inside = within l t.by t.inside;
          first = moves_climbs l limits p t.by t.inside t.first.0 t.first.1;
          second = t.second.0;
        }

    node_via : fixed_at l q ≡ false → NodePath → ViaNode l p q
    node_via free t =
        let s = placed 0 t.by in
        let i = placed_inside l 0 t.by (omega arith) t.inside in
        record { by = s; inside = i; first = climbs_moves l limits p s i refl t.first; second = (t.second, free) }

    same_edge : q ≡ p → spot_edge p.component (spot_of p) ≡ spot_edge q.component (spot_of q)
    same_edge e = ap (λ (s : Position). spot_edge s.component (spot_of s)) (sym e)

    edge_same : spot_edge p.component (spot_of p) ≡ spot_edge q.component (spot_of q) → q ≡ p
    edge_same e = ap (λ (s : SpotEdge). placed s.comp s.at) (sym e)

    fixed_touched : fixed_at l p ≡ true → (q ≡ p) ↔ Touched l p q
    fixed_touched h = ((λ e. inl (same_edge e)), ⊎_elim edge_same (λ t. absurd (false≢true (sym (free_fixed l p t.row) ∙ h))))

    free_touched : fixed_at l p ≡ false → ((q ≡ p) ⊎ (ViaFace l p q ⊎ ViaNode l p q)) ↔ Touched l p q
    free_touched h = (
      ⊎_elim (λ e. inl (same_edge e))
          (⊎_elim
          (λ t. inr (record { row = fixed_free l p h; column = fixed_free l q t.second.1; path = inl (via_face t) }))
          (λ t. inr (record { row = fixed_free l p h; column = fixed_free l q t.second.1; path = inr (via_node t) }))),
      ⊎_elim (λ e. inl (edge_same e))
          (λ t. inr (⊎_elim (λ u. inl (face_via (free_fixed l q t.column) u)) (λ u. inr (node_via (free_fixed l q t.column) u)) t.path)),
    )

  -- the row has just the stencil's columns
  pub row_lists : (p : Position) → Inside l.grid p → (f : ℕ → C64) → Lists l (Touched l p) (row_into l f (index_of l.grid p))
  row_lists p a f = rw (row_columns_lem l f (r p a), fixed_at_lem l limits a) (go (fixed_at l p) refl)
    where
      edges : List ℕ
      edges = each (face_columns l) (columns_of (curl_h l (r p a))) ++ each (free_columns l) (columns_of (gradient_of l (r p a)))

      go : (b : Bool) → fixed_at l p ≡ b → Listed l (Touched l p) (cond b (r p a ∷ []) (r p a ∷ edges))
      go true h = lists_same (λ q. q ≡ p) (Touched l p) (λ q b. fixed_touched p q a b h) (own_listed p a)
      go false h =
          lists_same (λ q. (q ≡ p) ⊎ (ViaFace l p q ⊎ ViaNode l p q)) (Touched l p) (λ q b. free_touched p q a b h)
          (listed_append (λ q. q ≡ p) (λ q. ViaFace l p q ⊎ ViaNode l p q) (r p a ∷ []) edges (own_listed p a)
          (listed_append (ViaFace l p) (ViaNode l p) (each (face_columns l) (columns_of (curl_h l (r p a)))) (each (free_columns l) (columns_of (gradient_of l (r p a)))) (faces_listed p a) (nodes_listed p a)))

-- q is an edge whose permittivity the row of p reads: neither is fixed, and they are one edge or lead to one another by way of a node
pub record Reads (l : FullLattice) (p q : Position) : Type 0 where
  pub row : fixed_at l p ≡ false
  pub column : fixed_at l q ≡ false
  pub path : (q ≡ p) ⊎ Then (cells (n_of l.grid) (is_bloch l)) (Times (grad_cube (n_of l.grid) (is_bloch l) p.component))
      (Times (div_cube (n_of l.grid) (is_bloch l) q.component)) (spot_of p) (spot_of q)

pub reads_listed : (l : FullLattice) → Limits l.grid → (p : Position) → Inside l.grid p → Listed l (Reads l p) (stencil_reads l (index_of l.grid p))
unfolding stencil_reads
reads_listed l limits p a = rw (row_reads_lem l own, fixed_at_lem l limits a) (go (fixed_at l p) refl)
  where
    own : ℕ
    own = index_of l.grid p

    edges : List ℕ
    edges = each (free_columns l) (columns_of (gradient_of l own))

    same : fixed_at l p ≡ false → (q : Position) → Inside l.grid q → ((q ≡ p) ⊎ ViaNode l p q) ↔ Reads l p q
    same h q b = (
      ⊎_elim (λ e. record { row = h; column = rw e h; path = inl e })
          (λ t. record { row = h; column = t.second.1; path = inr (via_node l limits p q a b t) }),
      (λ t. ⊎_elim (λ e. inl e) (λ u. inr (node_via l limits p q a b t.column u)) t.path),
    )

    go : (b : Bool) → fixed_at l p ≡ b → Listed l (Reads l p) (cond b [] (own ∷ edges))
    go true h = record { there = λ c i. absurd i; back = λ q b t. absurd (false≢true (sym t.row ∙ h)) }
    go false h =
        lists_same (λ q. (q ≡ p) ⊎ ViaNode l p q) (Reads l p) (same h)
        (listed_append (λ q. q ≡ p) (ViaNode l p) (own ∷ []) edges (own_listed l limits p a) (nodes_listed l limits p a))

-- the theorem
pub row_in : (l : FullLattice) (p q : Position) (f : ℕ → C64) → Limits l.grid → Inside l.grid p → Inside l.grid q
    → (contains (index_of l.grid q) (columns_of (row_into l f (index_of l.grid p))) ≡ true) ↔ Touched l p q
row_in l p q f h a b = lists_contain l (Touched l p) (row_into l f (index_of l.grid p)) q h b (row_lists l h p a f)
