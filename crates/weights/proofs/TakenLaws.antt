-- Laws of the weights' definitions: which coarse values a place takes, the cells of two levels, the columns of a row by their places, and the slots of an axis.
-- Assumes nothing.
use Prim.Native.Nat.{ℕ, zero, suc, ◌+◌, ◌-◌, ◌*◌, ◌/◌, ◌%◌, ◌<◌, ◌≤◌}
use mathlib.Core.Path.{◌≡◌, refl, sym, ap, ◌∙◌}
use mathlib.Core.Logic.{inl, inr, ⊎_elim}
use mathlib.Core.Bool.{Bool, true, false, ◌&&◌, ◌||◌, cond, false≢true}
use mathlib.Core.List.{List, [], ◌∷◌}
use native.Mathlib.Decide.{ℕ_discrete, dec_lt}
use native.Mathlib.Numerals.{add-one}
use native.Mathlib.Omega.{arith}
use borrow.Author.Tests.{eq-eqb, ne_eqb, le-leb, lt-leb, lt-ltb}
use lib.ListN.{length, get_or}
use Rattle.lattice.specs.declared.grid.Position.{Position}
use Rattle.lattice.specs.declared.lattice.Edges.{Edges}
use Rattle.lattice.specs.Grid.{index_of}
use Rattle.lattice.specs.Lattice.{FullLattice, edges_of, is_wall}
use Rattle.lattice.specs.Levels.{cells_at}
use Rattle.lattice.specs.Line.{place_of}
use Rattle.lattice.specs.Neighbours.{fixed_at}
use Rattle.lattice.proofs.CurlLaws.{place_along, rises_most}
use Rattle.lattice.proofs.Equations.{cells_at_is}
use Rattle.numbers.proofs.ElementLaws.{before_is}
use Rattle.numbers.proofs.ListLaws.{rises_below}
use Rattle.numbers.proofs.MemberLaws.{in_left, in_right, each_in, in_each}
use Rattle.numbers.specs.Lists.{In, Rises}
use Rattle.numbers.proofs.TabulateLaws.{length_tabulate, tabulate_at_0}
use Rattle.weights.specs.declared.interpolate.Rule.TheVariants.{Nearest, Between, Dropped}
use Rattle.weights.specs.Interpolate.{value_at, value_places, up_to, meets, outside, rule_by, rule_of, low_side, high_side, side_places, rule_places, taken_places}
use Rattle.weights.specs.Product.{walled, kept_places, free_places, column_in, product_z, product_y, product_columns}
use Rattle.weights.specs.Prolongation.{axis_places, is_along, edge_at}
use Rattle.weights.specs.Tables.{slot_axis, slot_along, slot_place, slot_places}
use Rattle.weights.specs.TwoLevels.{TwoLevels, fine_line, coarse_line, fine_cells, coarse_cells, grid_with, fine_grid, coarse_grid, on_grid, two_at}
use Rattle.weights.proofs.Equations.{fine_line_0, fine_line_1, fine_line_2, coarse_line_0, coarse_line_1, coarse_line_2}
use Rattle.weights.proofs.ProductLaws.{barred, fixed_parts}

-- ---- the values of a line

pub value_at_lem : (es : List ℕ) (along : Bool) (m : ℕ) → m < length es - 1 → get_or (value_places es along) m 0 ≡ place_of es m along
unfolding value_places value_at
value_at_lem es along m h = tabulate_at_0 (value_at es along) (length es - 1) m 0 h

pub values_long : (es : List ℕ) (along : Bool) → length (value_places es along) ≡ length es - 1
unfolding value_places
values_long es along = length_tabulate (value_at es along) (length es - 1) 0

-- ---- which values a place takes; the values before number i lie before the place p

module _ (e : Edges) (vs : List ℕ) (p i : ℕ) (h : i < length vs) (before : (m : ℕ) → m < i → get_or vs m 0 < p) where
  -- a value at p, and the next lies behind p: it is taken
  pub at_taken : (along : Bool) → get_or vs i 0 ≡ p → (suc i < length vs → p < get_or vs (suc i) 0) → In i (taken_places e vs along p)
  unfolding taken_places rule_of rule_by meets up_to
  at_taken along v next =
      let z : suc i - 1 ≡ i = omega arith in
      rw (before_is (suc p) vs (suc i) (omega arith) (λ m b. upto m b (ℕ_discrete m i)) next, le-leb 1 (suc i) (omega arith), z, eq-eqb (get_or vs i 0) p v) (inl refl)
    where
      upto : (m : ℕ) → m < suc i → Dec (m ≡ i) → get_or vs m 0 < suc p
      upto m b (yes q) = rw q (omega arith)
      upto m b (no q) = omega (arith, before m (omega arith))

  unmet : Dec (i ≡ 0) → meets vs p i ≡ false
  unfolding meets
  unmet (yes z) = rw z
  unmet (no z) =
      let b : get_or vs (i - 1) 0 < p = before (i - 1) (omega arith) in
      rw (le-leb 1 i (omega arith)) (ne_eqb (get_or vs (i - 1) 0) p (λ q. omega arith))

  outer : Dec (i ≡ 0) → (is_wall e && outside (length vs) i) ≡ true → i ≡ 0
  unfolding outside
  outer (yes z) q = z
  outer (no z) q = absurd (never (is_wall e) (rw (ne_eqb i 0 z, lt-leb (length vs) i h) at q))
    where
      never : (w : Bool) → (w && false) ≡ true → ⊥
      never true r = false≢true r
      never false r = false≢true r

  high : In i (side_places (high_side e (length vs) i))
  unfolding high_side
  high = rw (lt-leb (length vs) i h) (inl refl)

  -- along the axis, the first value behind p: it is taken, whether p lies between it and the one before or before all values
  next_taken : p < get_or vs i 0 → In i (taken_places e vs true p)
  unfolding taken_places rule_of rule_by up_to
  next_taken v =
      rw (before_is (suc p) vs i (omega arith) (λ m b. omega (arith, before m b)) (λ b. v), unmet (ℕ_discrete i 0))
      (go (is_wall e && outside (length vs) i) (outer (ℕ_discrete i 0)))
    where
      go : (b : Bool) → (b ≡ true → i ≡ 0) → In i (rule_places e (length vs) (cond b (cond true (Nearest (i - 1)) (Dropped i)) (Between i)))
      go true z = let y : i ≡ 0 = z refl in inl (omega arith)
      go false z = in_right i (side_places (low_side e (length vs) i)) (side_places (high_side e (length vs) i)) high

-- along the axis, the last value before p: it is taken, whether p lies between it and the next or behind all values
last_taken : (e : Edges) (vs : List ℕ) (p i : ℕ) → i < length vs → ((m : ℕ) → m < suc i → get_or vs m 0 < p) → (suc i < length vs → p < get_or vs (suc i) 0)
    → In i (taken_places e vs true p)
unfolding taken_places rule_of rule_by meets up_to low_side
last_taken e vs p i h before next =
    rw (before_is (suc p) vs (suc i) (omega arith) (λ m b. omega (arith, before m b)) next, le-leb 1 (suc i) (omega arith), here, ne_eqb (get_or vs i 0) p apart)
    (go (is_wall e && outside (length vs) (suc i)))
  where
    here : suc i - 1 ≡ i
    here = omega arith

    apart : get_or vs i 0 ≡ p → ⊥
    apart q = omega (arith, before i (omega arith))

    low : In i (side_places (low_side e (length vs) (suc i)))
    low = rw (ne_eqb (suc i) 0 (λ q. omega arith), here) (inl refl)

    go : (b : Bool) → In i (rule_places e (length vs) (cond b (cond true (Nearest i) (Dropped (suc i))) (Between (suc i))))
    go true = inl refl
    go false = in_left i (side_places (low_side e (length vs) (suc i))) (side_places (high_side e (length vs) (suc i))) low

-- ---- along the axis, a cell that lies in a cell of a line takes its value

module _ (cs : List ℕ) (rises : Rises cs) (m : ℕ) (h : m < length cs - 1) (low high : ℕ) (up : low < high) (first : get_or cs m 0 ≤ low) (last : high ≤ get_or cs (m + 1) 0) where
  -- the middle of the cell, and those of the line's cells
  abbrev here : ℕ
  here = (low + high) / 2

  abbrev mid : ℕ → ℕ
  mid k = (get_or cs k 0 + get_or cs (k + 1) 0) / 2

  mid_at : (k : ℕ) → k < length cs - 1 → get_or (value_places cs true) k 0 ≡ mid k
  mid_at k b = value_at_lem cs true k b ∙ place_along cs k

  -- it lies behind those of the cells before, and before the next one's
  mid_before : (k : ℕ) → k < m → get_or (value_places cs true) k 0 < here
  mid_before k b =
      let u : get_or cs k 0 < get_or cs m 0 = rises_below cs rises k m b (omega arith) in
      let v : get_or cs (k + 1) 0 ≤ get_or cs m 0 = rises_most cs rises (k + 1) m (omega arith) (omega arith) in
      rw (mid_at k (omega arith)) (omega arith)

  mid_behind : suc m < length (value_places cs true) → here < get_or (value_places cs true) (suc m) 0
  mid_behind b =
      let n : length (value_places cs true) ≡ length cs - 1 = values_long cs true in
      let v : get_or cs (m + 1) 0 < get_or cs (m + 1 + 1) 0 = rises_below cs rises (m + 1) (m + 1 + 1) (omega arith) (omega arith) in
      rw (← add-one m, mid_at (m + 1) (omega arith)) (omega arith)

  mid_upto : (k : ℕ) → mid m < here → Dec (k ≡ m) → k < suc m → get_or (value_places cs true) k 0 < here
  mid_upto k b (yes e) l = rw (e, mid_at m h) b
  mid_upto k b (no e) l = mid_before k (omega arith)

  pub cell_taken : (e : Edges) → In m (taken_places e (value_places cs true) true here)
  cell_taken e = go (values_long cs true) (ℕ_discrete here (mid m)) (dec_lt here (mid m))
    where
      go : length (value_places cs true) ≡ length cs - 1 → Dec (here ≡ mid m) → Dec (here < mid m) → In m (taken_places e (value_places cs true) true here)
      go n (yes q) d = at_taken e (value_places cs true) here m (omega arith) mid_before true (mid_at m h ∙ sym q) mid_behind
      go n (no q) (yes d) = next_taken e (value_places cs true) here m (omega arith) mid_before (rw (mid_at m h) d)
      go n (no q) (no d) = last_taken e (value_places cs true) here m (omega arith) (λ k b. mid_upto k (omega arith) (ℕ_discrete k m) b) mid_behind

-- ---- the places of an axis that are not fixed

-- what is taken and not fixed is kept
pub kept_in : (w : Bool) (ms : List ℕ) (j : ℕ) → barred w j ≡ false → In j ms → In j (kept_places w ms)
unfolding kept_places
kept_in w [] j h x'' = elim x'' [ ]
kept_in w (m ∷ ms) j h (inl e) = rw (ap (barred w) (sym e) ∙ h) (inl e)
kept_in w (m ∷ ms) j h (inr i) = go (barred w m) (kept_in w ms j h i)
  where
    go : (b : Bool) → In j (kept_places w ms) → In j (cond b (kept_places w ms) (m ∷ kept_places w ms))
    go true k = k
    go false k = inr k

module _ (t : TwoLevels) (a : ℕ) (own : Bool) (k j : ℕ) where
  -- a place that takes anything is not fixed
  pub taker_free : In j (free_places t a own k) → barred (walled t.base a own) k ≡ false
  unfolding free_places
  taker_free = go (barred (walled t.base a own) k)
    where
      go : (b : Bool) → In j (cond b [] (kept_places (walled t.base a own) (axis_places t a own k))) → b ≡ false
      go true i = absurd i
      go false i = refl

  -- a place that is not fixed takes of its values those that are not fixed
  pub in_free : barred (walled t.base a own) k ≡ false → barred (walled t.base a own) j ≡ false → In j (axis_places t a own k) → In j (free_places t a own k)
  unfolding free_places
  in_free h g i = rw h (kept_in (walled t.base a own) (axis_places t a own k) j g i)

-- an edge is fixed if it is so on one of the axes
pub fixed_places : (l : FullLattice) (p : Position)
    → fixed_at l p
    ≡ barred (walled l 0 (is_along p 0)) p.i || (barred (walled l 1 (is_along p 1)) p.j || barred (walled l 2 (is_along p 2)) p.k)
unfolding on_grid two_at
fixed_places l p = fixed_parts (two_at l 0) l.grid p

-- ---- levels L and L + 1 of a lattice: what their places take, and their cells

module _ (l : FullLattice) (L : ℕ) where
  pub base_at : (two_at l L).base ≡ l
  unfolding two_at
  base_at = refl

  pub axis_places_at : (a : ℕ) (along : Bool) (i : ℕ)
      → axis_places (two_at l L) a along i
      ≡ taken_places (edges_of l a) (value_places (coarse_line (two_at l L) a) along) along (place_of (fine_line (two_at l L) a) i along)
  unfolding axis_places two_at
  axis_places_at a along i = refl

  pub fine_cells_lem : (a : ℕ) → a < 3 → fine_cells (two_at l L) a ≡ cells_at l a L
  unfolding fine_cells two_at
  fine_cells_lem zero h = ap (λ (es : List ℕ). length es - 1) (fine_line_0 (two_at l L)) ∙ sym (cells_at_is l 0 L)
  fine_cells_lem (suc zero) h = ap (λ (es : List ℕ). length es - 1) (fine_line_1 (two_at l L)) ∙ sym (cells_at_is l 1 L)
  fine_cells_lem (suc (suc zero)) h = ap (λ (es : List ℕ). length es - 1) (fine_line_2 (two_at l L)) ∙ sym (cells_at_is l 2 L)
  fine_cells_lem (suc (suc (suc a))) h = absurd (omega arith)

  pub coarse_cells_lem : (a : ℕ) → a < 3 → coarse_cells (two_at l L) a ≡ cells_at l a (suc L)
  unfolding coarse_cells two_at
  coarse_cells_lem zero h = ap (λ (es : List ℕ). length es - 1) (coarse_line_0 (two_at l L)) ∙ sym (cells_at_is l 0 (suc L))
  coarse_cells_lem (suc zero) h = ap (λ (es : List ℕ). length es - 1) (coarse_line_1 (two_at l L)) ∙ sym (cells_at_is l 1 (suc L))
  coarse_cells_lem (suc (suc zero)) h = ap (λ (es : List ℕ). length es - 1) (coarse_line_2 (two_at l L)) ∙ sym (cells_at_is l 2 (suc L))
  coarse_cells_lem (suc (suc (suc a))) h = absurd (omega arith)

  pub fine_grid_at : fine_grid (two_at l L) ≡ grid_with l.grid (cells_at l 0 L) (cells_at l 1 L) (cells_at l 2 L)
  unfolding fine_grid two_at
  fine_grid_at = λ i. grid_with l.grid (fine_cells_lem 0 (omega arith) i) (fine_cells_lem 1 (omega arith) i) (fine_cells_lem 2 (omega arith) i)

  pub coarse_grid_at : coarse_grid (two_at l L) ≡ grid_with l.grid (cells_at l 0 (suc L)) (cells_at l 1 (suc L)) (cells_at l 2 (suc L))
  unfolding coarse_grid two_at
  coarse_grid_at = λ i. grid_with l.grid (coarse_cells_lem 0 (omega arith) i) (coarse_cells_lem 1 (omega arith) i) (coarse_cells_lem 2 (omega arith) i)

-- ---- the columns of a row of the prolongation

-- column c of a row: its places
pub record Named (t : TwoLevels) (p : Position) (c : ℕ) : Type 0 where
  pub i : ℕ
  pub j : ℕ
  pub k : ℕ
  pub x : In i (free_places t 0 (is_along p 0) p.i)
  pub y : In j (free_places t 1 (is_along p 1) p.j)
  pub z : In k (free_places t 2 (is_along p 2) p.k)
  pub is : c ≡ index_of (coarse_grid t) (edge_at p i j k)

module _ (t : TwoLevels) (p : Position) (c : ℕ) where
  pub columns_named : In c (product_columns t p) → Named t p c
  unfolding product_columns product_y product_z column_in
  columns_named h =
      let x = each_in (product_y t p) (free_places t 0 (is_along p 0) p.i) c h in
      let y = each_in (product_z t p x.by) (free_places t 1 (is_along p 1) p.j) c x.gives in
      let z = each_in (column_in (coarse_grid t) p x.by y.by) (free_places t 2 (is_along p 2) p.k) c y.gives in
      record { i = x.by; j = y.by; k = z.by; x = x.there; y = y.there; z = z.there; is = ⊎_elim (λ e. e) (λ n. absurd n) z.gives }

  pub named_columns : Named t p c → In c (product_columns t p)
  unfolding product_columns product_y product_z column_in
  named_columns n =
      in_each (product_y t p) (free_places t 0 (is_along p 0) p.i) c n.i n.x
      (in_each (product_z t p n.i) (free_places t 1 (is_along p 1) p.j) c n.j n.y
      (in_each (column_in (coarse_grid t) p n.i n.j) (free_places t 2 (is_along p 2) p.k) c n.k n.z (inl n.is)))

-- ---- the slots of an axis: 64 across it, then 64 along it

module _ (t : TwoLevels) (a i : ℕ) (low : i < 64) (inside : i < fine_cells t a) where
  pub slot_across : slot_places t (128 * a + i) ≡ free_places t a false i
  unfolding slot_places slot_axis slot_along slot_place
  slot_across =
      let x : (128 * a + i) / 128 ≡ a = omega arith in
      let y : (128 * a + i) / 64 % 2 ≡ 0 = omega arith in
      let z : (128 * a + i) % 64 ≡ i = omega arith in
      rw (x, y, z, lt-ltb i (fine_cells t a) inside)

  pub slot_along_lem : slot_places t (128 * a + 64 + i) ≡ free_places t a true i
  unfolding slot_places slot_axis slot_along slot_place
  slot_along_lem =
      let x : (128 * a + 64 + i) / 128 ≡ a = omega arith in
      let y : (128 * a + 64 + i) / 64 % 2 ≡ 1 = omega arith in
      let z : (128 * a + 64 + i) % 64 ≡ i = omega arith in
      rw (x, y, z, lt-ltb i (fine_cells t a) inside)
