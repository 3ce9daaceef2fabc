-- Between two neighbouring levels of a lattice no row of the prolongation names a coarse edge twice: refusal 8 does not occur there.
-- Assumes nothing.
use Prim.Native.Nat.{ℕ, suc, ◌-◌, ◌<◌, ◌≤◌}
use native.Mathlib.Omega.{arith}
use mathlib.Core.Logic.{◌≢◌}
use mathlib.Core.Path.{◌≡◌, refl, sym, ap, ◌∙◌}
use mathlib.Core.Bool.{Bool, true, false, cond, ◌&&◌}
use mathlib.Core.List.{List, [], ◌∷◌, ◌++◌}
use borrow.Author.Tests.{lt-ltb, eq-eqb, eqb-true, eqb-false, leb-true}
use lib.Dec.{eqb, leb}
use lib.ListN.{length}
use Rattle.numbers.specs.Complex.{one_number}
use Rattle.lattice.specs.declared.grid.Position.{Position}
use Rattle.lattice.specs.declared.lattice.Edges.{Edges}
use Rattle.lattice.specs.declared.lattice.Edges.TheVariants.{Pml, Bloch}
use Rattle.lattice.specs.Neighbours.{to_place}
use Rattle.lattice.specs.Grid.{unknowns_of, index_of, at_of, Limits, Inside}
use Rattle.lattice.specs.Lattice.{FullLattice, edges_of, is_wall}
use Rattle.numbers.specs.Lists.{some_repeats}
use Rattle.lattice.specs.Line.{place_of}
use Rattle.lattice.specs.Neighbours.{past_high}
use Rattle.lattice.proofs.GridLaws.{at_inside, at_index}
use Rattle.lattice.proofs.LevelLaws.{line_over}
use Rattle.weights.specs.declared.interpolate.Rule.TheVariants.{Nearest, Between, Dropped}
use Rattle.weights.specs.Interpolate.{value_at, value_places, up_to, meets, outside, rule_by, rule_of, past_first, low_side, high_side, side_places, rule_places, taken_places}
use Rattle.weights.specs.Product.{walled, kept_places, free_places, column_in, product_z, product_y, product_columns}
use Rattle.weights.specs.Prolongation.{axis_places, is_along, edge_at, weight_columns}
use Rattle.weights.specs.TwoLevels.{TwoLevels, fine_cells, coarse_cells, grid_with, fine_grid, coarse_grid, two_at}
use Rattle.numbers.proofs.EachLaws.{All, none, more, all_each}
use Rattle.numbers.proofs.Equations.{tabulate_zero, tabulate_suc, before_nil, before_cons}
use Rattle.numbers.proofs.RepeatLaws.{Distinct, empty, fresh, distinct_one, distinct_two, all_map, each_distinct, no_repeats, no_row_repeats}
use Rattle.lattice.proofs.NestLaws.{line_one}
use Rattle.weights.proofs.PairLaws.{fine_limits, coarse_limits, both_lines}
use Rattle.weights.proofs.ProductLaws.{length_values, columns_product, FreePlace, free_all}

-- ---- what a place takes of one axis

-- of at least two values the two neighbours differ
sides_distinct : (e : Edges) (n h : ℕ) → 2 ≤ n → Distinct (side_places (low_side e n h) ++ side_places (high_side e n h))
unfolding low_side high_side
sides_distinct e n h s = go (eqb h 0) refl (leb n h) refl e
  where
    go : (x : Bool) → eqb h 0 ≡ x → (y : Bool) → leb n h ≡ y → (e : Edges)
        → Distinct (side_places (cond x (past_first e n) (to_place (h - 1) one_number)) ++ side_places (cond y (past_high e) (to_place h one_number)))
    go true p true q e = absurd (omega (arith, eqb-true h 0 p, leb-true n h q))
    go true p false q Pml = distinct_one
    go true p false q (Bloch phase) = distinct_two (omega (arith, eqb-true h 0 p))
    go false p true q Pml = distinct_one
    go false p true q (Bloch phase) = distinct_two (omega (arith, leb-true n h q))
    go false p false q e = let z : h ≢ 0 = eqb-false h 0 p in distinct_two (omega arith)

rule_distinct : (e : Edges) (along : Bool) (n h : ℕ) (met : Bool) → 0 < n → (n ≡ 1 → met ≡ true) → Distinct (rule_places e n (rule_by (is_wall e) along n h met))
unfolding rule_by
rule_distinct e along n h true s d = distinct_one
rule_distinct e along n h false s d = go (is_wall e && outside n h) along
  where
    not_one : n ≢ 1
    not_one o = let w : false ≡ true = d o in let z : ◌≡◌ {A = ℕ} 0 1 = cc in omega arith

    two : 2 ≤ n
    two = let z : n ≢ 1 = not_one in omega arith

    go : (w along : Bool) → Distinct (rule_places e n (cond w (cond along (Nearest (h - 1)) (Dropped h)) (Between h)))
    go true true = distinct_one
    go true false = sides_distinct e n h two
    go false along = sides_distinct e n h two

taken_distinct : (e : Edges) (cs : List ℕ) (along : Bool) (p : ℕ) → 0 < length cs → (length cs ≡ 1 → meets cs p (up_to cs p) ≡ true)
    → Distinct (taken_places e cs along p)
unfolding taken_places rule_of
taken_distinct e cs along p = rule_distinct e along (length cs) (up_to cs p) (meets cs p (up_to cs p))

one_meets : (v : ℕ) → meets (v ∷ []) v (up_to (v ∷ []) v) ≡ true
unfolding meets up_to
one_meets v = rw (before_cons, lt-ltb v (suc v) (omega arith), before_nil) (eq-eqb v v refl)

values_one : (es : List ℕ) (along : Bool) → length es ≡ 2 → value_places es along ≡ place_of es 0 along ∷ []
unfolding value_places value_at
values_one es along h = let e : length es - 1 ≡ 1 = omega arith in rw (e, tabulate_suc, tabulate_zero)

-- where the coarse line has one cell it is the fine one, and every place coincides with the one coarse value
line_distinct : {es cs : List ℕ} (e : Edges) (along : Bool) (i : ℕ) → (length cs ≡ 2 → cs ≡ es) → 2 ≤ length cs → i < length es - 1
    → Distinct (taken_places e (value_places cs along) along (place_of es i along))
line_distinct {es} {cs} e along i one s h = taken_distinct e (value_places cs along) along (place_of es i along) (omega (arith, q)) met
  where
    q : length (value_places cs along) ≡ length cs - 1
    q = length_values cs along

    met : length (value_places cs along) ≡ 1 → meets (value_places cs along) (place_of es i along) (up_to (value_places cs along) (place_of es i along)) ≡ true
    met o =
        let two : length cs ≡ 2 = omega (arith, q) in
        let same : cs ≡ es = one two in
        let z : i ≡ 0 = omega (arith, ap length same) in
        rw (same, values_one es along (sym (ap length same) ∙ two), z) (one_meets (place_of es 0 along))

-- ---- without the fixed places

all_kept : {P : ℕ → Type 0} (wall : Bool) {ms : List ℕ} → All P ms → All P (kept_places wall ms)
unfolding kept_places
all_kept wall none = none
all_kept {P} wall (more {x = m} {xs = ms} p ps) = go (wall && eqb m 0) (all_kept wall ps)
  where
    go : (b : Bool) → All P (kept_places wall ms) → All P (cond b (kept_places wall ms) (m ∷ kept_places wall ms))
    go true a = a
    go false a = more p a

distinct_kept : (wall : Bool) {ms : List ℕ} → Distinct ms → Distinct (kept_places wall ms)
unfolding kept_places
distinct_kept wall empty = empty
distinct_kept wall (fresh {x = m} {xs = ms} n d) = go (wall && eqb m 0) (distinct_kept wall d)
  where
    go : (b : Bool) → Distinct (kept_places wall ms) → Distinct (cond b (kept_places wall ms) (m ∷ kept_places wall ms))
    go true a = a
    go false a = fresh (all_kept wall n) a

free_distinct : (t : TwoLevels) (a : ℕ) (along : Bool) (i : ℕ) → Distinct (axis_places t a along i) → Distinct (free_places t a along i)
unfolding free_places
free_distinct t a along i d = go (walled t.base a along && eqb i 0)
  where
    go : (b : Bool) → Distinct (cond b [] (kept_places (walled t.base a along) (axis_places t a along i)))
    go true = empty
    go false = distinct_kept (walled t.base a along) d

-- ---- the product over the axes

module _ (t : TwoLevels) (p : Position) (limits : Limits (coarse_grid t)) (part : p.component < 3)
    (xs : Distinct (free_places t 0 (is_along p 0) p.i))
    (ys : Distinct (free_places t 1 (is_along p 1) p.j))
    (zs : Distinct (free_places t 2 (is_along p 2) p.k)) where
  x_free : All (FreePlace t 0 (is_along p 0)) (free_places t 0 (is_along p 0) p.i)
  unfolding coarse_grid grid_with
  x_free = free_all t 0 (is_along p 0) p.i limits.x_some

  y_free : All (FreePlace t 1 (is_along p 1)) (free_places t 1 (is_along p 1) p.j)
  unfolding coarse_grid grid_with
  y_free = free_all t 1 (is_along p 1) p.j limits.y_some

  z_free : All (FreePlace t 2 (is_along p 2)) (free_places t 2 (is_along p 2) p.k)
  unfolding coarse_grid grid_with
  z_free = free_all t 2 (is_along p 2) p.k limits.z_some

  -- a coarse edge's number tells its places
  at_edge : (i j k : ℕ) → i < coarse_cells t 0 → j < coarse_cells t 1 → k < coarse_cells t 2
      → at_of (coarse_grid t) (index_of (coarse_grid t) (edge_at p i j k)) ≡ record { component = p.component; i = i; j = j; k = k }
  unfolding edge_at coarse_grid grid_with
  at_edge i j k a b c = at_index limits (record { c_in = part; i_in = a; j_in = b; k_in = c })

  module _ (i j : ℕ) (a : i < coarse_cells t 0) (b : j < coarse_cells t 1) where
    z_distinct : Distinct (product_z t p i j)
    unfolding product_z column_in
    z_distinct =
        each_distinct (λ c. (at_of (coarse_grid t) c).k) (column_in (coarse_grid t) p i j) zs
        (all_map (λ k h. (distinct_one, more (ap (λ (q : Position). q.k) (at_edge i j k a b h.low)) none)) z_free)

    z_all : All (λ c. ((at_of (coarse_grid t) c).i ≡ i) × ((at_of (coarse_grid t) c).j ≡ j)) (product_z t p i j)
    unfolding product_z column_in
    z_all =
        all_each (column_in (coarse_grid t) p i j)
        (λ k h. let e = at_edge i j k a b h.low in more (ap (λ (q : Position). q.i) e, ap (λ (q : Position). q.j) e) none)
        z_free

  module _ (i : ℕ) (a : i < coarse_cells t 0) where
    y_distinct : Distinct (product_y t p i)
    unfolding product_y
    y_distinct =
        each_distinct (λ c. (at_of (coarse_grid t) c).j) (product_z t p i) ys
        (all_map (λ j h. (z_distinct i j a h.low, all_map (λ c q. q.1) (z_all i j a h.low))) y_free)

    y_all : All (λ c. (at_of (coarse_grid t) c).i ≡ i) (product_y t p i)
    unfolding product_y
    y_all = all_each (product_z t p i) (λ j h. all_map (λ c q. q.0) (z_all i j a h.low)) y_free

  product_distinct : Distinct (product_columns t p)
  unfolding product_columns
  product_distinct =
      each_distinct (λ c. (at_of (coarse_grid t) c).i) (product_y t p) xs (all_map (λ i h. (y_distinct i h.low, y_all i h.low)) x_free)

-- ---- the levels of a lattice

module _ (l : FullLattice) (L : ℕ) (limits : Limits l.grid) where
  axis_distinct : (a : ℕ) (along : Bool) (i : ℕ) → i < fine_cells (two_at l L) a → Distinct (free_places (two_at l L) a along i)
  unfolding fine_cells axis_places two_at
  axis_distinct a along i h =
      free_distinct (two_at l L) a along i
      (both_lines l L a (λ es cs. i < length es - 1 → Distinct (taken_places (edges_of l a) (value_places cs along) along (place_of es i along)))
      (λ b. line_distinct (edges_of l a) along i (line_one l b L) (line_over l limits b (suc L)).some)
      h)

  row_distinct : (p : Position) → Inside (fine_grid (two_at l L)) p → Distinct (product_columns (two_at l L) p)
  unfolding fine_grid grid_with
  row_distinct p h =
      product_distinct (two_at l L) p (coarse_limits l limits L) h.c_in
      (axis_distinct 0 (is_along p 0) p.i h.i_in)
      (axis_distinct 1 (is_along p 1) p.j h.j_in)
      (axis_distinct 2 (is_along p 2) p.k h.k_in)

  -- no row names a coarse edge twice
  pub names_no_edge_twice : (n : ℕ) → n ≤ unknowns_of (fine_grid (two_at l L)) → some_repeats (weight_columns (two_at l L)) n ≡ false
  names_no_edge_twice n b =
      no_row_repeats (weight_columns (two_at l L)) n
      (λ r c.
      rw (columns_product (two_at l L) r)
      (no_repeats (row_distinct (at_of (fine_grid (two_at l L)) r) (at_inside (fine_limits l limits L) r (omega arith)))))
