-- The columns of Galerkin's rows are the diagonal and what the levels touch: so they are the columns that the relations pick.
-- Assumes nothing.
use Prim.Native.Nat.{ℕ, zero, suc, ◌<◌}
use mathlib.Core.Path.{◌≡◌, refl, sym, ap, ◌∙◌, subst}
use mathlib.Core.Logic.{inl, inr, ⊎_elim, ◌↔◌}
use mathlib.Core.Bool.{true}
use native.Mathlib.Omega.{arith}
use Rattle.numbers.specs.declared.C64.{C64}
use Rattle.lattice.specs.declared.grid.Grid3d.{Grid3d}
use Rattle.lattice.specs.declared.grid.Position.{Position}
use Rattle.lattice.specs.Grid.{index_of, at_of, unknowns_of, Limits, Inside}
use Rattle.lattice.specs.Lattice.{FullLattice}
use Rattle.numbers.specs.Lists.{In, Rises, contains}
use Rattle.lattice.specs.Rows.{row_into}
use Rattle.numbers.specs.Terms.{columns_of}
use Rattle.lattice.proofs.Equations.{n_of_0, n_of_1, n_of_2}
use Rattle.lattice.proofs.GridLaws.{at_inside, index_at, index_below}
use Rattle.weights.proofs.Equations.{grid_with_is}
use Rattle.numbers.specs.Collect.{at_first}
use Rattle.operators.specs.Galerkin.{galerkin_row}
use Rattle.operators.specs.Levels.{forward_at, turned_at, galerkin_at, grid_at, ladder_of, spot_of}
use Rattle.operators.specs.Pattern.{Ladder, box, Forward, SpotEdge, spot_edge, Row}
use Rattle.operators.specs.Relation.{Spot, Within}
use Rattle.operators.specs.Stencil.{shift_terms, stencil_row}
use Rattle.numbers.proofs.CollectLaws.{none, from_rises, collected_from}
use Rattle.numbers.proofs.MemberLaws.{Span, contains_in, in_contains}
use Rattle.operators.proofs.ForwardPattern.{grid_limits, within, within_inside, forward_in_lem, forward_low, turned_named}
use Rattle.lattice.proofs.ColumnLaws.{index_one, finest_cells}
use Rattle.operators.proofs.PatternTheorem.{Touched}
use Rattle.operators.proofs.StencilPattern.{stencil_lists, stencil_in}
use Rattle.operators.proofs.StencilRow.{placed}
use Rattle.numbers.proofs.GatheredLaws.{rises_span}
use Rattle.operators.proofs.RowMembers.{Via, row_via, via_row, galerkin_rises}

-- ---- level 0

-- it has the lattice's own cells
pub grid_first : (l : FullLattice) → grid_at l 0 ≡ l.grid
unfolding grid_at
grid_first l =
    rw grid_with_is
    (λ i.
    record {
      nx = (finest_cells l 0 ∙ n_of_0 l.grid) i;
      ny = (finest_cells l 1 ∙ n_of_1 l.grid) i;
      nz = (finest_cells l 2 ∙ n_of_2 l.grid) i;
      dx = l.grid.dx;
      dy = l.grid.dy;
      dz = l.grid.dz;
    })

module _ (l : FullLattice) (f : ℕ → C64) (r : ℕ) where
  -- the columns of the lattice's own row are edges of the lattice
  pub stencil_low : Limits l.grid → r < unknowns_of l.grid → (c : ℕ) → In c (columns_of (stencil_row l f r)) → c < unknowns_of l.grid
  stencil_low limits h c i =
      let e : index_of l.grid (at_of l.grid r) ≡ r = index_at limits r h in
      let t = (stencil_lists l limits (at_of l.grid r) (at_inside limits r h) f).there c (subst (λ (m : ℕ). In c (columns_of (stencil_row l f m))) (sym e) i) in
      subst (λ (m : ℕ). m < unknowns_of l.grid) t.is (index_below limits t.inside)

  -- and rise
  pub stencil_rises : Rises (columns_of (stencil_row l f r))
  unfolding stencil_row
  stencil_rises = from_rises (collected_from at_first (shift_terms l f r) (collected_from at_first (row_into l f r) none))

-- ---- the columns of a row are edges of its level, and rise

module _ (l : FullLattice) (limits : Limits l.grid) (f : ℕ → C64) where
  pub galerkin_low : (L r : ℕ) → r < unknowns_of (grid_at l L) → (c : ℕ) → In c (columns_of (galerkin_at l f L r)) → c < unknowns_of (grid_at l L)
  unfolding galerkin_at
  galerkin_low zero r h c i =
      subst (λ (g : Grid3d). c < unknowns_of g) (sym (grid_first l))
      (stencil_low l f r limits (subst (λ (g : Grid3d). r < unknowns_of g) (grid_first l) h) c i)
  galerkin_low (suc L) r h c i =
      ⊎_elim (λ e. omega arith)
      (λ t.
      let u = (turned_named l limits f L r t.r).0 t.turned in
      forward_low l limits f L t.k c (galerkin_low L t.r u.0 t.k t.fine) t.forward)
      (row_via (galerkin_at l f L) (forward_at l f L) (turned_at l f L) r c i)

  pub row_rises : (L r : ℕ) → Rises (columns_of (galerkin_at l f L r))
  unfolding galerkin_at
  row_rises zero r = stencil_rises l f r
  row_rises (suc L) r = galerkin_rises (galerkin_at l f L) (forward_at l f L) (turned_at l f L) r

  pub row_spans : (L r : ℕ) → r < unknowns_of (grid_at l L) → Span 0 (unknowns_of (grid_at l L)) (columns_of (galerkin_at l f L r))
  row_spans L r h = rises_span (columns_of (galerkin_at l f L r)) (unknowns_of (grid_at l L)) (row_rises L r) (galerkin_low L r h)

-- ---- they are those that the levels touch

-- on level L an edge is a column just where the levels touch it
abbrev pub Touches : FullLattice → (ℕ → C64) → ℕ → Type 0
Touches l f L =
    (p q : Position) → Inside (grid_at l L) p → Inside (grid_at l L) q
    → (contains (index_of (grid_at l L) q) (columns_of (galerkin_at l f L (index_of (grid_at l L) p))) ≡ true)
    ↔ Row (ladder_of l) L p.component q.component (spot_of p) (spot_of q)

abbrev pub edge_of : Position → SpotEdge
edge_of p = spot_edge p.component (spot_of p)

-- and back to its position
abbrev pub position_of : SpotEdge → Position
position_of e = placed e.comp e.at

module _ (l : FullLattice) (L : ℕ) where
  pub inside : (a : ℕ) (s : Spot) → a < 3 → Within (box (ladder_of l) L) s → Inside (grid_at l L) (placed a s)
  inside a s h w = within_inside l L (placed a s) h w

-- the step from level L to the next, where p and q are edges of the next
module _ (l : FullLattice) (limits : Limits l.grid) (f : ℕ → C64) (L : ℕ) (fine : Touches l f L) (p q : Position)
    (from : Inside (grid_at l (suc L)) p) (to : Inside (grid_at l (suc L)) q) where
  abbrev Named : Type 0
  Named = Via (galerkin_at l f L) (forward_at l f L) (turned_at l f L (index_of (grid_at l (suc L)) p)) (index_of (grid_at l (suc L)) q)

  abbrev Over : Type 0
  Over = Touched (ladder_of l) L p.component q.component (λ (k m : Spot). Row (ladder_of l) L p.component q.component k m) (spot_of p) (spot_of q)

  named_over : Named → Over
  named_over t =
      let g = grid_at l L in
      let lim = grid_limits l limits L in
      let n = (turned_named l limits f L (index_of (grid_at l (suc L)) p) t.r).0 t.turned in
      let low = galerkin_low l limits f L t.r n.0 t.k t.fine in
      go (at_of g t.r) (at_of g t.k) (at_inside lim t.r n.0) (at_inside lim t.k low)
      (subst (λ (m : ℕ). In (index_of (grid_at l (suc L)) p) (columns_of (forward_at l f L m))) (sym (index_at lim t.r n.0)) n.1)
      (subst (λ (m : ℕ). In m (columns_of (galerkin_at l f L (index_of g (at_of g t.r))))) (sym (index_at lim t.k low))
      (subst (λ (m : ℕ). In t.k (columns_of (galerkin_at l f L m))) (sym (index_at lim t.r n.0)) t.fine))
      (subst (λ (m : ℕ). In (index_of (grid_at l (suc L)) q) (columns_of (forward_at l f L m))) (sym (index_at lim t.k low)) t.forward)
    where
      M : Ladder
      M = ladder_of l

      go : (u v : Position) → Inside (grid_at l L) u → Inside (grid_at l L) v
          → In (index_of (grid_at l (suc L)) p) (columns_of (forward_at l f L (index_of (grid_at l L) u)))
          → In (index_of (grid_at l L) v) (columns_of (galerkin_at l f L (index_of (grid_at l L) u)))
          → In (index_of (grid_at l (suc L)) q) (columns_of (forward_at l f L (index_of (grid_at l L) v)))
          → Over
      go u v hu hv x y z =
          let a = (forward_in_lem l limits f L u p hu from).0 (in_contains (index_of (grid_at l (suc L)) p) (columns_of (forward_at l f L (index_of (grid_at l L) u))) x) in
          let b = (fine u v hu hv).0 (in_contains (index_of (grid_at l L) v) (columns_of (galerkin_at l f L (index_of (grid_at l L) u))) y) in
          let c = (forward_in_lem l limits f L v q hv to).0 (in_contains (index_of (grid_at l (suc L)) q) (columns_of (forward_at l f L (index_of (grid_at l L) v))) z) in
          record {
            by = spot_of u;
            inside = within l L u hu;
            first = subst (λ (m : ℕ). Forward M L m (spot_of u) (spot_of p)) a.0 a.1;
            second = record {
              by = spot_of v;
              inside = within l L v hv;
              first = subst (λ (m : ℕ). Row M L m q.component (spot_of u) (spot_of v)) a.0
                  (subst (λ (m : ℕ). Row M L u.component m (spot_of u) (spot_of v)) c.0 b);
              second = subst (λ (m : ℕ). Forward M L m (spot_of v) (spot_of q)) c.0 c.1;
            };
          }

  over_named : Over → Named
  over_named t =
      let g = grid_at l L in
      let lim = grid_limits l limits L in
      let u = placed p.component t.by in
      let v = placed q.component t.second.by in
      let hu = inside l L p.component t.by from.c_in t.inside in
      let hv = inside l L q.component t.second.by to.c_in t.second.inside in
      let x = contains_in (index_of (grid_at l (suc L)) p) (columns_of (forward_at l f L (index_of g u))) ((forward_in_lem l limits f L u p hu from).1 (refl, t.first)) in
      let y = contains_in (index_of g v) (columns_of (galerkin_at l f L (index_of g u))) ((fine u v hu hv).1 t.second.first) in
      let z = contains_in (index_of (grid_at l (suc L)) q) (columns_of (forward_at l f L (index_of g v))) ((forward_in_lem l limits f L v q hv to).1 (refl, t.second.second)) in
      record {
        r = index_of g u;
        k = index_of g v;
        turned = (turned_named l limits f L (index_of (grid_at l (suc L)) p) (index_of g u)).1 (index_below lim hu, x);
        fine = y;
        forward = z;
      }

  touches_next : (contains (index_of (grid_at l (suc L)) q) (columns_of (galerkin_at l f (suc L) (index_of (grid_at l (suc L)) p))) ≡ true)
      ↔ Row (ladder_of l) (suc L) p.component q.component (spot_of p) (spot_of q)
  unfolding galerkin_at Row
  touches_next =
      let g = grid_at l (suc L) in
      let A = galerkin_at l f L in
      let P = forward_at l f L in
      let R = turned_at l f L in (
        (λ h.
            ⊎_elim (λ e. inl (ap edge_of (index_one (grid_limits l limits (suc L)) from to (sym e)))) (λ t. inr (named_over t))
            (row_via A P R (index_of g p) (index_of g q) (contains_in (index_of g q) (columns_of (galerkin_row A P R (index_of g p))) h))),
        (λ h.
            in_contains (index_of g q) (columns_of (galerkin_row A P R (index_of g p)))
            (via_row A P R (index_of g p) (index_of g q)
            (⊎_elim (λ e. inl (sym (ap (λ (s : SpotEdge). index_of g (position_of s)) e))) (λ t. inr (over_named t)) h))),
      )

-- on level 0 it does so by the lattice's own row
touches_first : (l : FullLattice) → Limits l.grid → (f : ℕ → C64) → Touches l f 0
unfolding galerkin_at
touches_first l limits f =
    subst
    (λ (g : Grid3d). (p q : Position) → Inside g p → Inside g q
    → (contains (index_of g q) (columns_of (stencil_row l f (index_of g p))) ≡ true) ↔ Row (ladder_of l) 0 p.component q.component (spot_of p) (spot_of q))
    (sym (grid_first l)) (λ p q a b. stencil_in l p q f limits a b)

-- so it does on every level
pub galerkin_in_lem : (l : FullLattice) → Limits l.grid → (f : ℕ → C64) (L : ℕ) → Touches l f L
galerkin_in_lem l limits f zero = touches_first l limits f
galerkin_in_lem l limits f (suc L) = touches_next l limits f L (galerkin_in_lem l limits f L)
