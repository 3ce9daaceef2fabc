-- What rises and has the columns that the levels touch is the row that the relations pick: Galerkin's rows are.
-- Assumes nothing.
use Prim.Native.Nat.{ℕ, zero, suc, ◌*◌, ◌/◌, ◌%◌, ◌<◌}
use mathlib.Core.Path.{◌≡◌, refl, sym, ap, ◌∙◌, subst}
use mathlib.Core.Logic.{inl, ⊎_elim, ◌↔◌}
use mathlib.Core.Bool.{Bool, true, false, ◌||◌, cond, false≢true}
use mathlib.Core.List.{List, [], ◌∷◌}
use native.Mathlib.Omega.{arith}
use borrow.Author.Tests.{lt-ltb}
use lib.Dec.{eqb, ltb}
use Rattle.std.proofs.lemmas.Bool.{and_from, and_parts, or_parts}
use Rattle.numbers.specs.declared.C64.{C64}
use Rattle.lattice.specs.declared.grid.Position.{Position}
use Rattle.lattice.specs.Grid.{index_of, at_of, unknowns_of, Limits, Inside}
use Rattle.lattice.specs.Lattice.{FullLattice}
use Rattle.lattice.specs.Levels.{cells_at}
use Rattle.lattice.specs.Neighbours.{fixed_at}
use Rattle.numbers.specs.Terms.{columns_of}
use Rattle.lattice.proofs.Equations.{cells_of_is, index_of_is}
use Rattle.lattice.proofs.GridLaws.{at_inside, index_at, index_below}
use Rattle.weights.specs.Product.{walled}
use Rattle.weights.specs.Prolongation.{is_along}
use Rattle.weights.proofs.Equations.{is_along_is, grid_with_is}
use Rattle.weights.proofs.ProductLaws.{barred}
use Rattle.operators.specs.Base.{live_at}
use Rattle.operators.specs.Columns.{row, number}
use Rattle.operators.specs.Levels.{galerkin_at, grid_at, is_own, is_bloch, ladder_of, pattern_row, spot_of}
use Rattle.operators.specs.Numbered.{name_no, picks_of, row_columns, Right}
use Rattle.operators.specs.Pattern.{role, Ladder, rel, SpotEdge, spot_edge, Row, Live}
use Rattle.operators.specs.Relation.{Spot}
use Rattle.numbers.proofs.MemberLaws.{Span, unique, contains_in, in_contains}
use Rattle.numbers.specs.Lists.{In}
use Rattle.operators.proofs.ColumnWhole.{cells, Column, row_only}
use Rattle.weights.proofs.TakenLaws.{fixed_places}
use Rattle.operators.proofs.ForwardPattern.{axis_no, three, row_three, rel_three, live_on, live_free, free_live, own_role, sound_of, sound_live, grid_limits, grid_x, grid_y, grid_z, within}
use Rattle.operators.proofs.GalerkinPattern.{edge_of, position_of, inside, row_spans, galerkin_low, galerkin_in_lem}
use Rattle.operators.proofs.PatternTheorem.{row_fixed}
use Rattle.operators.proofs.StencilRow.{placed}
use Rattle.operators.proofs.TableLevels.{right_picked}

-- ---- an edge that is not fixed is live on every axis

module _ (l : FullLattice) (p : Position) where
  -- fixed on axis d
  abbrev fixed_on : ℕ → ℕ → Bool
  fixed_on d m = barred (walled l d (is_along p d)) m

  fixed_is : fixed_at l p ≡ fixed_on 0 p.i || (fixed_on 1 p.j || fixed_on 2 p.k)
  fixed_is = fixed_places l p

  own_fixed : (d m : ℕ) → barred (walled l d (is_own (role p.component d))) m ≡ fixed_on d m
  own_fixed d m = ap (λ (b : Bool). barred (walled l d b) m) (own_role (eqb d p.component) ∙ sym (is_along_is p d))

  axis_live : (L d m : ℕ) → m < cells_at l d L → fixed_on d m ≡ false → live_on l L d (role p.component d) m ≡ true
  axis_live L d m h e = and_from _ _ (lt-ltb m (cells_at l d L) h) (free_live l d (role p.component d) m (own_fixed d m ∙ e))

  axis_free : (L d m : ℕ) → live_on l L d (role p.component d) m ≡ true → fixed_on d m ≡ false
  axis_free L d m h =
      let r = role p.component d in
      sym (own_fixed d m) ∙ live_free l d r m (and_parts (ltb m (cells_at l d L)) (live_at (is_bloch l d) r m) h).1

  module _ (limits : Limits l.grid) (L : ℕ) (h : Inside (grid_at l L) p) where
    free_edge : fixed_at l p ≡ false → Live (three (ladder_of l)) (sound_of l limits) L p.component (spot_of p)
    free_edge e =
        let w = within l L p h in
        let a = or_parts (fixed_on 0 p.i) (fixed_on 1 p.j || fixed_on 2 p.k) (sym fixed_is ∙ e) in
        let b = or_parts (fixed_on 1 p.j) (fixed_on 2 p.k) a.1 in
        record {
          x = sound_live l limits L 0 (role p.component 0) p.i ∙ axis_live L 0 p.i w.x a.0;
          y = sound_live l limits L 1 (role p.component 1) p.j ∙ axis_live L 1 p.j w.y b.0;
          z = sound_live l limits L 2 (role p.component 2) p.k ∙ axis_live L 2 p.k w.z b.1;
        }

    fixed_edge : fixed_at l p ≡ true → Live (three (ladder_of l)) (sound_of l limits) L p.component (spot_of p) → ⊥
    fixed_edge e v =
        let x = axis_free L 0 p.i (sym (sound_live l limits L 0 (role p.component 0) p.i) ∙ v.x) in
        let y = axis_free L 1 p.j (sym (sound_live l limits L 1 (role p.component 1) p.j) ∙ v.y) in
        let z = axis_free L 2 p.k (sym (sound_live l limits L 2 (role p.component 2) p.k) ∙ v.z) in
        false≢true (sym (fixed_is ∙ rw (x, y, z)) ∙ e)

-- ---- the relations that a list has

axis_same : (d : ℕ) → d < 3 → axis_no d ≡ d
axis_same zero h = refl
axis_same (suc zero) h = refl
axis_same (suc (suc zero)) h = refl
axis_same (suc (suc (suc d))) h = absurd (omega arith)

right_three : (M : Ladder) (L : ℕ) (t : List ℕ) → Right M L t → Right (three M) L t
right_three M L t right =
    record {
      is = λ q i j h a b.
          let e : axis_no (q / 6) ≡ q / 6 = axis_same (q / 6) (omega arith) in
          right.is q i j h (subst (λ (d : ℕ). i < M.cells L d) e a) (subst (λ (d : ℕ). j < M.cells L d) e b)
          ∙ sym (ap (λ (d : ℕ). rel M L d (name_no (q % 6)) i j) e) ∙ sym (ap (λ r. r i j) (rel_three M L (q / 6) (name_no (q % 6))));
    }

-- ---- a row

-- the number of an edge, in two ways
number_index : (l : FullLattice) (L : ℕ) (q : Position)
    → index_of (grid_at l L) q ≡ number (cells_at l 0 L) (cells_at l 1 L) (q.component * cells (three (ladder_of l)) L) q.k q.j q.i
unfolding number grid_at
number_index l L q = rw (index_of_is, cells_of_is, grid_with_is) (omega arith)

-- the list has the columns that the levels touch from the edge at p, and rises
pub record Rows (l : FullLattice) (L : ℕ) (p : Position) (columns : List ℕ) : Type 0 where
  pub spans : Span 0 (unknowns_of (grid_at l L)) columns
  pub low : (c : ℕ) → In c columns → c < unknowns_of (grid_at l L)
  pub touched : (q : Position) → Inside (grid_at l L) q → In (index_of (grid_at l L) q) columns ↔ Row (ladder_of l) L p.component q.component (spot_of p) (spot_of q)

module _ (l : FullLattice) (limits : Limits l.grid) (L : ℕ) (p : Position) (h : Inside (grid_at l L) p) (columns : List ℕ) (rows : Rows l L p columns) where
  abbrev M : Ladder
  M = three (ladder_of l)

  to_column : (c : ℕ) → In c columns → Column M L p.component (spot_of p) c
  to_column c i =
      let g = grid_at l L in
      let lim = grid_limits l limits L in
      let b = rows.low c i in
      let q = at_of g c in
      let e : index_of g q ≡ c = index_at lim c b in
      let k = at_inside lim c b in
      record {
        comp = q.component;
        few = k.c_in;
        at = spot_of q;
        inside = within l L q k;
        is = sym e ∙ number_index l L q;
        held = subst (λ T. T) (sym (row_three (ladder_of l) L p.component q.component (spot_of p) (spot_of q)))
            ((rows.touched q k).0 (subst (λ (m : ℕ). In m columns) (sym e) i));
      }

  from_column : (c : ℕ) → Column M L p.component (spot_of p) c → In c columns
  from_column c t =
      let q = placed t.comp t.at in
      let k = inside l L t.comp t.at t.few t.inside in
      subst (λ (m : ℕ). In m columns) (number_index l L q ∙ sym t.is)
      ((rows.touched q k).1 (subst (λ T. T) (row_three (ladder_of l) L p.component t.comp (spot_of p) t.at) t.held))

  -- an edge that is not fixed
  free_row : (t : List ℕ) → Right (ladder_of l) L t → fixed_at l p ≡ false
      → columns ≡ row (picks_of t p.component 0 p.i p.j p.k) (picks_of t p.component 1 p.i p.j p.k)
      (picks_of t p.component 2 p.i p.j p.k) (cells_at l 0 L) (cells_at l 1 L) (cells_at l 2 L)
  free_row t right e =
      let a = p.component in
      let v = right_three (ladder_of l) L t right in
      let w = within l L p h in
      row_only M (sound_of l limits) L a (spot_of p) (free_edge l p limits L h e) _ _ _
      (right_picked M L t a 0 (spot_of p) v w) (right_picked M L t a 1 (spot_of p) v w) (right_picked M L t a 2 (spot_of p) v w)
      0 (unknowns_of (grid_at l L)) columns rows.spans (λ c. (to_column c, from_column c))

  -- a fixed one has the diagonal alone
  fixed_row : fixed_at l p ≡ true → columns ≡ index_of (grid_at l L) p ∷ []
  fixed_row e =
      let r = index_of (grid_at l L) p in
      let n = unknowns_of (grid_at l L) in
      unique 0 n 0 n columns (r ∷ []) rows.spans (omega arith, index_below (grid_limits l limits L) h)
      (λ c i. inl (diagonal c (to_column c i)))
      (λ c i. ⊎_elim (λ k. subst (λ (m : ℕ). In m columns) (sym k) ((rows.touched p h).1 ((across_three p).1 ((alone p.component (spot_of p)).1 refl)))) (λ k. absurd k) i)
    where
      -- only itself is touched
      alone : (b : ℕ) (q : Spot) → Row M L p.component b (spot_of p) q ↔ (edge_of p ≡ spot_edge b q)
      alone b q = row_fixed M (sound_of l limits) L p.component b (spot_of p) q (fixed_edge l p limits L h e)

      diagonal : (c : ℕ) → Column M L p.component (spot_of p) c → c ≡ index_of (grid_at l L) p
      diagonal c t =
          t.is ∙ sym (number_index l L (placed t.comp t.at))
          ∙ sym (ap (λ (s : SpotEdge). index_of (grid_at l L) (position_of s)) ((alone t.comp t.at).0 t.held))

      across_three : (q : Position) → Row (ladder_of l) L p.component q.component (spot_of p) (spot_of q) ↔ Row M L p.component q.component (spot_of p) (spot_of q)
      across_three q = (
        subst (λ T. T) (sym (row_three (ladder_of l) L p.component q.component (spot_of p) (spot_of q))),
        subst (λ T. T) (row_three (ladder_of l) L p.component q.component (spot_of p) (spot_of q)),
      )

-- the row that rises and is touched is the one that is picked
pub row_picked : (l : FullLattice) → Limits l.grid → (L : ℕ) (t : List ℕ) → Right (ladder_of l) L t → (r : ℕ) → r < unknowns_of (grid_at l L)
    → (columns : List ℕ) → Rows l L (at_of (grid_at l L) r) columns → columns ≡ pattern_row l (grid_at l L) t r
unfolding pattern_row row_columns
row_picked l limits L t right r h columns rows = go (fixed_at l p) refl ∙ cells
  where
    p : Position
    p = at_of (grid_at l L) r

    k : Inside (grid_at l L) p
    k = at_inside (grid_limits l limits L) r h

    -- those that are picked, among nx, ny and nz cells
    scanned : ℕ → ℕ → ℕ → List ℕ
    scanned = row (picks_of t p.component 0 p.i p.j p.k) (picks_of t p.component 1 p.i p.j p.k) (picks_of t p.component 2 p.i p.j p.k)

    cells : cond (fixed_at l p) (r ∷ []) (scanned (cells_at l 0 L) (cells_at l 1 L) (cells_at l 2 L))
        ≡ cond (fixed_at l p) (r ∷ []) (scanned (grid_at l L).nx (grid_at l L).ny (grid_at l L).nz)
    cells = λ i. cond (fixed_at l p) (r ∷ []) (scanned (sym (grid_x l L) i) (sym (grid_y l L) i) (sym (grid_z l L) i))

    go : (b : Bool) → fixed_at l p ≡ b → columns ≡ cond b (r ∷ []) (scanned (cells_at l 0 L) (cells_at l 1 L) (cells_at l 2 L))
    go true e = fixed_row l limits L p k columns rows e ∙ ap (λ (m : ℕ). m ∷ []) (index_at (grid_limits l limits L) r h)
    go false e = free_row l limits L p k columns rows t right e

-- Galerkin's rows
pub galerkin_columns_lem : (l : FullLattice) → Limits l.grid → (f : ℕ → C64) (L : ℕ) (t : List ℕ) → Right (ladder_of l) L t
    → (r : ℕ) → r < unknowns_of (grid_at l L) → columns_of (galerkin_at l f L r) ≡ pattern_row l (grid_at l L) t r
galerkin_columns_lem l limits f L t right r h =
    let g = grid_at l L in
    let p = at_of g r in
    let lim = grid_limits l limits L in
    let row = columns_of (galerkin_at l f L r) in
    let here : columns_of (galerkin_at l f L (index_of g p)) ≡ row = ap (λ (m : ℕ). columns_of (galerkin_at l f L m)) (index_at lim r h) in
    row_picked l limits L t right r h row
    (record {
      spans = row_spans l limits f L r h;
      low = galerkin_low l limits f L r h;
      touched = λ q k.
          let is = galerkin_in_lem l limits f L p q (at_inside lim r h) k in (
            (λ i. is.0 (in_contains (index_of g q) (columns_of (galerkin_at l f L (index_of g p))) (subst (In (index_of g q)) (sym here) i))),
            (λ u. subst (In (index_of g q)) here (contains_in (index_of g q) (columns_of (galerkin_at l f L (index_of g p))) (is.1 u))),
          );
    })
