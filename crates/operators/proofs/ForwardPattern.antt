-- The weights of neighbouring levels as relations of the axes: they are sound, and the columns of the forward rows and of the turned ones are theirs.
-- Assumes nothing.
use Prim.Native.Nat.{ℕ, zero, suc, ◌-◌, ◌<◌}
use mathlib.Core.Path.{◌≡◌, refl, sym, ap, ◌∙◌, subst}
use mathlib.Core.Logic.{◌⊎◌, ◌↔◌}
use mathlib.Core.Bool.{Bool, true, false, not, ◌&&◌, ◌||◌}
use mathlib.Core.List.{List}
use native.Mathlib.Omega.{arith}
use borrow.Author.Tests.{ne_eqb, eqb-false, lt-ltb, ltb-true}
use lib.Dec.{eqb, ltb, lit<}
use lib.ListN.{length}
use Rattle.std.proofs.lemmas.Bool.{and_from, and_parts, not-true}
use Rattle.numbers.specs.declared.C64.{C64}
use Rattle.lattice.specs.declared.grid.Grid3d.{Grid3d}
use Rattle.lattice.specs.declared.grid.Position.{Position}
use Rattle.lattice.specs.Grid.{n_of, index_of, at_of, unknowns_of, Limits, Inside}
use Rattle.lattice.specs.Lattice.{FullLattice, edges_of, is_wall}
use Rattle.lattice.specs.Levels.{target, line_at, cells_at}
use Rattle.lattice.specs.Line.{place_of, coarser_ends, LineOver}
use Rattle.lattice.specs.Stretched.{across_map}
use Rattle.numbers.specs.Terms.{columns_of}
use Rattle.lattice.proofs.Equations.{line_at_suc}
use Rattle.lattice.proofs.GridLaws.{at_index, at_inside}
use Rattle.lattice.proofs.LevelLaws.{line_over}
use Rattle.weights.specs.Interpolate.{value_places, taken_places}
use Rattle.weights.specs.Product.{walled, free_places, product_columns}
use Rattle.weights.specs.Prolongation.{axis_places, is_along, edge_at}
use Rattle.numbers.specs.Lists.{In, contains}
use Rattle.numbers.specs.Transpose.{turned_row}
use Rattle.weights.specs.TwoLevels.{fine_line, coarse_line, fine_cells, coarse_cells, fine_grid, coarse_grid, two_at}
use Rattle.weights.proofs.Equations.{walled_is, coarse_cells_is, fine_cells_is, grid_with_is, edge_at_is, is_along_is}
use Rattle.weights.proofs.PairLaws.{both_lines, level_limits}
use Rattle.lattice.proofs.NestLaws.{cells_some}
use Rattle.weights.proofs.ProductLaws.{barred, FreePlace, free_all, columns_product, terms_columns}
use Rattle.weights.proofs.RowTheorems.{columns_free}
use Rattle.operators.specs.Relation.{Spot, Within, Then}
use Rattle.operators.specs.Base.{live_at}
use Rattle.operators.specs.Levels.{eps_at, forward_at, turned_at, grid_at, forward_rel, is_own, is_bloch, ladder_of, spot_of}
use Rattle.operators.specs.Pattern.{Role, along, across, Name, role_of, role, Ladder, coarser, rel, box, Forward, spot_edge, Row, Sound}
use Rattle.numbers.proofs.MemberLaws.{contains_in, in_contains, all_in}
use Rattle.weights.proofs.TakenLaws.{taker_free, in_free, base_at, axis_places_at, coarse_cells_lem, fine_cells_lem, fine_grid_at, coarse_grid_at, Named, columns_named, named_columns}
use Rattle.lattice.proofs.ColumnLaws.{index_one}
use Rattle.numbers.proofs.Tutorial.{turned_columns_lem}
use Rattle.operators.proofs.ReachLaws.{Taken, value_taken}
use Rattle.operators.proofs.Sound.{base_same, base_near, base_live}

-- ---- which places are fixed

-- live is not barred
live_barred : (l : FullLattice) (a : ℕ) (r : Role) (m : ℕ) → live_at (is_bloch l a) r m ≡ not (barred (walled l a (is_own r)) m)
unfolding live_at is_bloch
live_barred l a along m = rw walled_is
live_barred l a across m = rw walled_is (go (is_wall (edges_of l a)) (eqb m 0))
  where
    go : (w z : Bool) → (not w || not z) ≡ not (w && z)
    go true z = refl
    go false z = refl

pub live_free : (l : FullLattice) (a : ℕ) (r : Role) (m : ℕ) → live_at (is_bloch l a) r m ≡ true → barred (walled l a (is_own r)) m ≡ false
live_free l a r m h = not-true (barred (walled l a (is_own r)) m) (sym (live_barred l a r m) ∙ h)

pub free_live : (l : FullLattice) (a : ℕ) (r : Role) (m : ℕ) → barred (walled l a (is_own r)) m ≡ false → live_at (is_bloch l a) r m ≡ true
free_live l a r m h = live_barred l a r m ∙ ap not h

-- ---- each place of the coarse line that is not fixed is reached

barred_not : (w : Bool) (i k : ℕ) → ((i ≡ 0 → ⊥) → k ≡ 0 → ⊥) → barred w i ≡ false → barred w k ≡ false
barred_not false i k h e = refl
barred_not true i k h e = ne_eqb k 0 (h (eqb-false i 0 e))

module _ (l : FullLattice) (limits : Limits l.grid) (L a : ℕ) (own : Bool) (i : ℕ) where
  abbrev Takes : List ℕ → List ℕ → Type 0
  Takes es cs = i < length cs - 1 → Taken (λ k. taken_places (edges_of l a) (value_places cs own) own (place_of es k own)) (length es - 1) i

  line_takes : (b : ℕ) → Takes (line_at l b L) (line_at l b (suc L))
  line_takes b =
      let coarse : LineOver (n_of l.grid b) (coarser_ends (across_map l b) (target L) (line_at l b L)) = rw line_at_suc at (line_over l limits b (suc L)) in
      rw line_at_suc (λ h. value_taken (across_map l b) (target L) (n_of l.grid b) (line_at l b L) (line_over l limits b L) coarse (edges_of l a) i h own)

  axis_takes : i < coarse_cells (two_at l L) a → Taken (axis_places (two_at l L) a own) (fine_cells (two_at l L) a) i
  axis_takes h = go (both_lines l L a Takes line_takes (rw coarse_cells_is at h))
    where
      go : Taken (λ k. taken_places (edges_of l a) (value_places (coarse_line (two_at l L) a) own) own (place_of (fine_line (two_at l L) a) k own)) (length (fine_line (two_at l L) a) - 1) i
          → Taken (axis_places (two_at l L) a own) (fine_cells (two_at l L) a) i
      go t = record { by = t.by; low = rw fine_cells_is t.low; free = t.free; takes = rw axis_places_at t.takes }

  pub free_takes : i < coarse_cells (two_at l L) a → barred (walled l a own) i ≡ false
      → (k : ℕ) × (k < fine_cells (two_at l L) a) × In i (free_places (two_at l L) a own k)
  free_takes h e =
      let t = axis_takes h in (
        t.by,
        t.low,
        in_free (two_at l L) a own t.by i (rw (base_at l L) (barred_not (walled l a own) i t.by t.free e)) (rw (base_at l L) e) t.takes,
      )

-- ---- the cells of the levels

module _ (l : FullLattice) (L : ℕ) where
  pub grid_fine : grid_at l L ≡ fine_grid (two_at l L)
  unfolding grid_at
  grid_fine = sym (fine_grid_at l L)

  pub grid_coarse : grid_at l (suc L) ≡ coarse_grid (two_at l L)
  unfolding grid_at
  grid_coarse = sym (coarse_grid_at l L)

  pub grid_x : (grid_at l L).nx ≡ cells_at l 0 L
  unfolding grid_at
  grid_x = rw grid_with_is

  pub grid_y : (grid_at l L).ny ≡ cells_at l 1 L
  unfolding grid_at
  grid_y = rw grid_with_is

  pub grid_z : (grid_at l L).nz ≡ cells_at l 2 L
  unfolding grid_at
  grid_z = rw grid_with_is

  -- a position of the level, by its places
  pub within : (p : Position) → Inside (grid_at l L) p → Within (box (ladder_of l) L) (spot_of p)
  within p h =
      record {
        x = subst (λ (n : ℕ). p.i < n) grid_x h.i_in;
        y = subst (λ (n : ℕ). p.j < n) grid_y h.j_in;
        z = subst (λ (n : ℕ). p.k < n) grid_z h.k_in;
      }

  pub within_inside : (p : Position) → p.component < 3 → Within (box (ladder_of l) L) (spot_of p) → Inside (grid_at l L) p
  within_inside p h w =
      record {
        c_in = h;
        i_in = subst (λ (n : ℕ). p.i < n) (sym grid_x) w.x;
        j_in = subst (λ (n : ℕ). p.j < n) (sym grid_y) w.y;
        k_in = subst (λ (n : ℕ). p.k < n) (sym grid_z) w.z;
      }

pub grid_limits : (l : FullLattice) → Limits l.grid → (L : ℕ) → Limits (grid_at l L)
unfolding grid_at
grid_limits l limits L = level_limits l limits L

-- ---- the relations are sound

-- an axis behind the third is the third
abbrev pub axis_no : ℕ → ℕ
axis_no zero = 0
axis_no (suc zero) = 1
axis_no (suc (suc d)) = 2

axis_low : (d : ℕ) → axis_no d < 3
axis_low zero = lit< tt
axis_low (suc zero) = lit< tt
axis_low (suc (suc d)) = lit< tt

-- the relations of the three axes alone: nothing else is asked of a ladder
abbrev pub three : Ladder → Ladder
three M = record { cells = λ L d. M.cells L (axis_no d); base = λ d. M.base (axis_no d); forward = λ L d. M.forward L (axis_no d) }

pub row_three : (M : Ladder) (L a b : ℕ) (p q : Spot) → Row (three M) L a b p q ≡ Row M L a b p q
unfolding Row rel
row_three M zero a b p q = refl
row_three M (suc L) a b p q =
    λ i.
    (spot_edge a p ≡ spot_edge b q)
    ⊎ Then (box M L) (λ (p k : Spot). Forward M L a k p) (Then (box M L) (λ (k l : Spot). row_three M L a b k l i) (Forward M L b)) p q

pub rel_three : (M : Ladder) (L d : ℕ) (w : Name) → rel (three M) L d w ≡ rel M L (axis_no d) w
unfolding rel coarser
rel_three M zero d w = refl
rel_three M (suc L) d w = rw (rel_three M L d w)

-- not fixed, on axis a of level L
abbrev pub live_on : FullLattice → ℕ → ℕ → Role → ℕ → Bool
live_on l L a r i = ltb i (cells_at l a L) && live_at (is_bloch l a) r i

-- a place with weight lies in the coarse line and is not fixed
weight_free : (l : FullLattice) → Limits l.grid → (L a : ℕ) → a < 3 → (own : Bool) (k i : ℕ) → In i (free_places (two_at l L) a own k) → FreePlace (two_at l L) a own i
weight_free l limits L a h own k i j =
    let c : coarse_cells (two_at l L) a ≡ cells_at l a (suc L) = coarse_cells_lem l L a h in
    all_in (free_all (two_at l L) a own k (omega (arith, cells_some l limits a (suc L)))) i j

-- so it is one of the next level's
pub weight_low : (l : FullLattice) → Limits l.grid → (L a : ℕ) → a < 3 → (own : Bool) (k i : ℕ) → In i (free_places (two_at l L) a own k) → i < cells_at l a (suc L)
weight_low l limits L a h own k i j = omega (arith, (weight_free l limits L a h own k i j).low, coarse_cells_lem l L a h)

module _ (l : FullLattice) (limits : Limits l.grid) (L a : ℕ) (h : a < 3) (r : Role) where
  pub forward_of : (k i : ℕ) → (ladder_of l).forward L a r k i ≡ true → (k < cells_at l a L) × In i (free_places (two_at l L) a (is_own r) k)
  unfolding forward_rel
  forward_of k i e =
      let b = and_parts (ltb k (cells_at l a L)) (contains i (free_places (two_at l L) a (is_own r) k)) e in
      (ltb-true k (cells_at l a L) b.0, contains_in i (free_places (two_at l L) a (is_own r) k) b.1)

  pub of_forward : (k i : ℕ) → k < cells_at l a L → In i (free_places (two_at l L) a (is_own r) k) → (ladder_of l).forward L a r k i ≡ true
  unfolding forward_rel
  of_forward k i b j = and_from _ _ (lt-ltb k (cells_at l a L) b) (in_contains i (free_places (two_at l L) a (is_own r) k) j)

  weight_starts : (k i : ℕ) → (ladder_of l).forward L a r k i ≡ true → live_on l L a r k ≡ true
  weight_starts k i e =
      let b = forward_of k i e in
      and_from _ _ (lt-ltb k (cells_at l a L) b.0) (free_live l a r k (rw base_at at (taker_free (two_at l L) a (is_own r) k i b.1)))

  weight_ends : (k i : ℕ) → (ladder_of l).forward L a r k i ≡ true → live_on l (suc L) a r i ≡ true
  weight_ends k i e =
      let j = (forward_of k i e).1 in
      and_from _ _ (lt-ltb i (cells_at l a (suc L)) (weight_low l limits L a h (is_own r) k i j))
      (free_live l a r i (rw base_at at (weight_free l limits L a h (is_own r) k i j).free))

  weight_reaches : (i : ℕ) → live_on l (suc L) a r i ≡ true → (k : ℕ) × (k < cells_at l a L) × ((ladder_of l).forward L a r k i ≡ true)
  weight_reaches i e =
      let b = and_parts (ltb i (cells_at l a (suc L))) (live_at (is_bloch l a) r i) e in
      let c : coarse_cells (two_at l L) a ≡ cells_at l a (suc L) = coarse_cells_lem l L a h in
      let f : fine_cells (two_at l L) a ≡ cells_at l a L = fine_cells_lem l L a h in
      let t = free_takes l limits L a (is_own r) i (omega (arith, ltb-true i (cells_at l a (suc L)) b.0)) (live_free l a r i b.1) in
      let k : t.0 < cells_at l a L = omega (arith, t.1) in
      (t.0, k, of_forward t.0 i k t.2)

and_map : (a : Bool) {b c : Bool} → (b ≡ true → c ≡ true) → (a && b) ≡ true → (a && c) ≡ true
and_map true f h = f h
and_map false f h = h

pub sound_of : (l : FullLattice) → Limits l.grid → Sound (three (ladder_of l))
sound_of l limits =
    record {
      live = λ L d r i. live_on l L (axis_no d) r i;
      starts = λ L d r k i h. weight_starts l limits L (axis_no d) (axis_low d) r k i h;
      ends = λ L d r k i h. weight_ends l limits L (axis_no d) (axis_low d) r k i h;
      reached = λ L d r i h. weight_reaches l limits L (axis_no d) (axis_low d) r i h;
      same_self = λ d r i. and_map (ltb i (cells_at l (axis_no d) 0)) (base_same (cells_at l (axis_no d) 0) (is_bloch l (axis_no d)) r i);
      near_self = λ d r i. and_map (ltb i (cells_at l (axis_no d) 0)) (base_near (cells_at l (axis_no d) 0) (is_bloch l (axis_no d)) r i);
      only_live = λ d w i j. and_map (ltb i (cells_at l (axis_no d) 0)) (base_live (cells_at l (axis_no d) 0) (is_bloch l (axis_no d)) w i j);
    }

pub sound_live : (l : FullLattice) (limits : Limits l.grid) (L d : ℕ) (r : Role) (i : ℕ) → (sound_of l limits).live L d r i ≡ live_on l L (axis_no d) r i
unfolding sound_of
sound_live l limits L d r i = refl

-- ---- the columns of a forward row

pub own_role : (b : Bool) → is_own (role_of b) ≡ b
own_role true = refl
own_role false = refl

module _ (l : FullLattice) (limits : Limits l.grid) (f : ℕ → C64) (L : ℕ) where
  -- the columns of any row
  pub forward_columns_are : (r : ℕ) → columns_of (forward_at l f L r) ≡ product_columns (two_at l L) (at_of (grid_at l L) r)
  unfolding forward_at
  forward_columns_are r =
      terms_columns (two_at l L) (eps_at l f L) (eps_at l f (suc L)) r
      ∙ columns_product (two_at l L) r
      ∙ ap (λ (g : Grid3d). product_columns (two_at l L) (at_of g r)) (sym (grid_fine l L))

  module _ (p q : Position) (from : Inside (grid_at l L) p) (to : Inside (grid_at l (suc L)) q) where
    abbrev row : List ℕ
    row = columns_of (forward_at l f L (index_of (grid_at l L) p))

    row_is : row ≡ product_columns (two_at l L) p
    row_is = forward_columns_are (index_of (grid_at l L) p) ∙ ap (product_columns (two_at l L)) (at_index (grid_limits l limits L) from)

    -- the places of a column are those of its edge
    named_edge : (n : Named (two_at l L) p (index_of (grid_at l (suc L)) q)) → edge_at p n.i n.j n.k ≡ q
    named_edge n =
        let k = grid_limits l limits (suc L) in
        let e : Inside (grid_at l (suc L)) (edge_at p n.i n.j n.k) =
        rw edge_at_is
        (within_inside l (suc L) (record { component = p.component; i = n.i; j = n.j; k = n.k }) from.c_in
        (record {
          x = weight_low l limits L 0 (lit< tt) (is_along p 0) p.i n.i n.x;
          y = weight_low l limits L 1 (lit< tt) (is_along p 1) p.j n.j n.y;
          z = weight_low l limits L 2 (lit< tt) (is_along p 2) p.k n.k n.z;
        })) in
        index_one k e to (ap (λ (g : Grid3d). index_of g (edge_at p n.i n.j n.k)) (grid_coarse l L) ∙ sym n.is)

    -- on one axis
    own_as : (a k i : ℕ) → In i (free_places (two_at l L) a (is_along p a) k) ↔ In i (free_places (two_at l L) a (is_own (role p.component a)) k)
    own_as a k i =
        let e : is_own (role p.component a) ≡ is_along p a = own_role (eqb a p.component) ∙ sym (is_along_is p a) in (
          subst (λ (b : Bool). In i (free_places (two_at l L) a b k)) (sym e),
          subst (λ (b : Bool). In i (free_places (two_at l L) a b k)) e,
        )

    forward_to : In (index_of (grid_at l (suc L)) q) row → (p.component ≡ q.component) × Forward (ladder_of l) L p.component (spot_of p) (spot_of q)
    forward_to h =
        let c = index_of (grid_at l (suc L)) q in
        let n = columns_named (two_at l L) p c (subst (In c) row_is h) in
        let e : record { component = p.component; i = n.i; j = n.j; k = n.k } ≡ q = sym (edge_at_is p n.i n.j n.k) ∙ named_edge n in
        let w = within l L p from in
        let a = p.component in (
          ap (λ (u : Position). u.component) e,
          record {
            x = subst (λ (m : ℕ). (ladder_of l).forward L 0 (role a 0) p.i m ≡ true) (ap (λ (u : Position). u.i) e)
                (of_forward l limits L 0 (lit< tt) (role a 0) p.i n.i w.x ((own_as 0 p.i n.i).0 n.x));
            y = subst (λ (m : ℕ). (ladder_of l).forward L 1 (role a 1) p.j m ≡ true) (ap (λ (u : Position). u.j) e)
                (of_forward l limits L 1 (lit< tt) (role a 1) p.j n.j w.y ((own_as 1 p.j n.j).0 n.y));
            z = subst (λ (m : ℕ). (ladder_of l).forward L 2 (role a 2) p.k m ≡ true) (ap (λ (u : Position). u.k) e)
                (of_forward l limits L 2 (lit< tt) (role a 2) p.k n.k w.z ((own_as 2 p.k n.k).0 n.z));
          },
        )

    forward_from_lem : p.component ≡ q.component → Forward (ladder_of l) L p.component (spot_of p) (spot_of q) → In (index_of (grid_at l (suc L)) q) row
    forward_from_lem e t =
        let c = index_of (grid_at l (suc L)) q in
        let a = p.component in
        let g = grid_coarse l L in
        let n : Named (two_at l L) p c =
        record {
          i = q.i;
          j = q.j;
          k = q.k;
          x = (own_as 0 p.i q.i).1 (forward_of l limits L 0 (lit< tt) (role a 0) p.i q.i t.x).1;
          y = (own_as 1 p.j q.j).1 (forward_of l limits L 1 (lit< tt) (role a 1) p.j q.j t.y).1;
          z = (own_as 2 p.k q.k).1 (forward_of l limits L 2 (lit< tt) (role a 2) p.k q.k t.z).1;
          is = rw edge_at_is (λ i. index_of (g i) (record { component = sym e i; i = q.i; j = q.j; k = q.k }));
        } in
        subst (In c) (sym row_is) (named_columns (two_at l L) p c n)

    -- an edge is a column just where the components are the same and the places are related
    pub forward_in_lem : (contains (index_of (grid_at l (suc L)) q) row ≡ true)
        ↔ ((p.component ≡ q.component) × Forward (ladder_of l) L p.component (spot_of p) (spot_of q))
    forward_in_lem = (
      (λ h. forward_to (contains_in (index_of (grid_at l (suc L)) q) row h)),
      (λ h. in_contains (index_of (grid_at l (suc L)) q) row (forward_from_lem h.0 h.1)),
    )

  -- the columns of a row are edges of the next level
  pub forward_low : (r c : ℕ) → r < unknowns_of (grid_at l L) → In c (columns_of (forward_at l f L r)) → c < unknowns_of (grid_at l (suc L))
  unfolding forward_at
  forward_low r c h i =
      subst (λ (g : Grid3d). c < unknowns_of g) (sym (grid_coarse l L))
      (all_in (columns_free (two_at l L) r (subst Limits (grid_coarse l L) (grid_limits l limits (suc L)))
      (subst (λ (g : Grid3d). (at_of g r).component < 3) (grid_fine l L) (at_inside (grid_limits l limits L) r h).c_in))
      c (subst (In c) (terms_columns (two_at l L) (eps_at l f L) (eps_at l f (suc L)) r) i)).low

  -- the columns of turned row c are the rows that name c
  pub turned_named : (c r : ℕ) → In r (columns_of (turned_at l f L c)) ↔ ((r < unknowns_of (grid_at l L)) × In c (columns_of (forward_at l f L r)))
  unfolding turned_at
  turned_named c r =
      subst (λ (g : Grid3d). In r (columns_of (turned_row (forward_at l f L) (unknowns_of (fine_grid (two_at l L))) c)) ↔ ((r < unknowns_of g) × In c (columns_of (forward_at l f L r))))
      (sym (grid_fine l L)) (turned_columns_lem (forward_at l f L) (unknowns_of (fine_grid (two_at l L))) c r)

  pub turned_in_lem : (c r : ℕ) → (contains r (columns_of (turned_at l f L c)) ≡ true) ↔ ((r < unknowns_of (grid_at l L)) × (contains c (columns_of (forward_at l f L r)) ≡ true))
  turned_in_lem c r =
      let t = turned_named c r in (
        (λ h. let w = t.0 (contains_in r (columns_of (turned_at l f L c)) h) in (w.0, in_contains c (columns_of (forward_at l f L r)) w.1)),
        (λ h. in_contains r (columns_of (turned_at l f L c)) (t.1 (h.0, contains_in c (columns_of (forward_at l f L r)) h.1))),
      )
