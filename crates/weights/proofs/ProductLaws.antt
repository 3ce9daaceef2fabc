-- The rows of the prolongation as products over the axes: `Product`'s rows are those of `Prolongation`, their columns, how many there are, and where
-- they lie.
-- Assumes nothing.
use Prim.Native.Nat.{ℕ, suc, ◌-◌, ◌*◌, ◌<◌, ◌≤◌}
use native.Mathlib.Omega.{arith}
use native.Mathlib.Nat.{mul_assoc, mul-le-mul}
use mathlib.Core.Path.{◌≡◌, refl, sym, ap, subst, ◌∙◌}
use mathlib.Core.Bool.{Bool, true, false, not, ◌&&◌, ◌||◌, cond}
use mathlib.Core.List.{List, [], ◌∷◌, ◌++◌}
use borrow.Author.Tests.{leb-false}
use lib.Dec.{eqb, leb}
use lib.ListN.{length, get_or, length-append}
use Rattle.numbers.specs.declared.C64.{C64}
use Rattle.numbers.specs.Complex.{product, one_minus, one_number}
use Rattle.lattice.specs.declared.grid.Grid3d.{Grid3d}
use Rattle.lattice.specs.declared.grid.Position.{Position}
use Rattle.lattice.specs.declared.lattice.Edges.{Edges}
use Rattle.lattice.specs.declared.lattice.Edges.TheVariants.{Pml, Bloch}
use Rattle.lattice.specs.declared.neighbours.Arrival.{Arrival}
use Rattle.std.specs.Prelude.{None, Some, Option}
use Rattle.lattice.specs.Neighbours.{to_place}
use Rattle.lattice.specs.Grid.{at_of}
use Rattle.lattice.specs.Lattice.{FullLattice, edges_of, is_wall}
use Rattle.lattice.specs.Line.{place_of}
use Rattle.lattice.specs.Neighbours.{fixed_at, past_high}
use Rattle.lattice.specs.Stretched.{across_map, along_map}
use Rattle.numbers.specs.Terms.{Term, columns_of}
use Rattle.numbers.proofs.ElementLaws.{before_most}
use Rattle.numbers.proofs.TabulateLaws.{length_tabulate}
use Rattle.weights.specs.declared.interpolate.Rule.{Rule}
use Rattle.weights.specs.declared.interpolate.Rule.TheVariants.{Coincides, Nearest, Between, Dropped}
use Rattle.weights.specs.TwoLevels.{TwoLevels, coarse_line, fine_line, coarse_cells, fine_grid, coarse_grid, fine_lattice, coarse_lattice, on_grid}
use Rattle.weights.specs.Interpolate.{value_at, value_places, up_to, meets, outside, rule_by, rule_of, past_first, low_side, high_side, side_places, rule_places, taken_places, side_terms, two_sides, rule_terms, ratio_at, interpolated}
use Rattle.weights.specs.Prolongation.{axis_places, axis_terms, is_along, edge_at, column_at, nest_z, nest_y, nest, weight_columns, term_at, terms_z, terms_y, terms_x, prolongation_row, weight_numbers}
use Rattle.numbers.specs.Lists.{start_of}
use Rattle.numbers.proofs.EachLaws.{sieved, Sifted, product_sieved, columns_append, columns_each, length_columns, length_numbers, each_count, All, none, more, all_append, all_at}
use Rattle.numbers.proofs.ListLaws.{rows_most}
use Rattle.numbers.proofs.Equations.{columns_of_nil, columns_of_cons, start_of_is}
use Rattle.lattice.proofs.Equations.{edges_of_is}
use Rattle.numbers.proofs.LoopLaws.{columns_one, sieved_nil, sieved_cons}
use Rattle.lattice.proofs.NestLaws.{fixed_on, fixed_axes}
use Rattle.weights.specs.Product.{walled, kept_places, kept_terms, free_places, free_terms, column_in, product_z, product_y, product_columns, term_of, product_terms_z, product_terms_y, product_terms, weight_count}

-- ---- which places are fixed

-- place m of an axis is fixed: it is the first, where there is a wall
abbrev pub barred : Bool → ℕ → Bool
barred wall m = wall && eqb m 0

barred_by : (along wall : Bool) (m : ℕ) → (not along && (eqb m 0 && wall)) ≡ barred (not along && wall) m
barred_by true wall m = refl
barred_by false true m = go (eqb m 0)
  where
    go : (z : Bool) → (z && true) ≡ z
    go true = refl
    go false = refl
barred_by false false m = go (eqb m 0)
  where
    go : (z : Bool) → (z && false) ≡ false
    go true = refl
    go false = refl

-- whether a position of either level is fixed on axis a
abbrev pub barred_on : TwoLevels → Position → ℕ → ℕ → Bool
barred_on t p a m = barred (walled t.base a (is_along p a)) m

-- a level's axes are the lattice's
edges_on_lem : (l : FullLattice) (g : Grid3d) (a : ℕ) → edges_of (on_grid l g) a ≡ edges_of l a
unfolding on_grid
edges_on_lem l g a = edges_of_is (on_grid l g) a ∙ sym (edges_of_is l a)

pub fixed_parts : (t : TwoLevels) (g : Grid3d) (p : Position)
    → fixed_at (on_grid t.base g) p ≡ barred_on t p 0 p.i || (barred_on t p 1 p.j || barred_on t p 2 p.k)
unfolding walled is_along
fixed_parts t g p =
    fixed_axes (on_grid t.base g) p ∙ (λ i. part 0 p.i i || (part 1 p.j i || part 2 p.k i))
  where
    part : (a m : ℕ) → fixed_on (on_grid t.base g) p.component a m ≡ barred_on t p a m
    part a m = rw (edges_on_lem t.base g a) (barred_by (eqb a p.component) (is_wall (edges_of t.base a)) m)

-- ---- the products

sieved_places : (w : Bool) (ms : List ℕ) → kept_places w ms ≡ sieved (barred w) ms
unfolding kept_places
sieved_places w [] = sym (sieved_nil (barred w))
sieved_places w (m ∷ ms) = rw (sieved_cons, sieved_places w ms)

abbrev barred_term : Bool → Term → Bool
barred_term w t = barred w t.column

sieved_terms : (w : Bool) (ts : List Term) → kept_terms w ts ≡ sieved (barred_term w) ts
unfolding kept_terms
sieved_terms w [] = sym (sieved_nil (barred_term w))
sieved_terms w (t ∷ ts) = rw (sieved_cons, sieved_terms w ts)

module _ (t : TwoLevels) (a : ℕ) (along : Bool) (i : ℕ) where
  pub free_places_lem : Sifted (barred (walled t.base a along)) (barred (walled t.base a along) i) (axis_places t a along i) (free_places t a along i)
  unfolding free_places
  free_places_lem = record { is = rw (sieved_places (walled t.base a along) (axis_places t a along i)) }

  free_terms_lem : Sifted (barred_term (walled t.base a along)) (barred (walled t.base a along) i) (axis_terms t a along i) (free_terms t a along i)
  unfolding free_terms
  free_terms_lem = record { is = rw (sieved_terms (walled t.base a along) (axis_terms t a along i)) }

pub fixed_fine : (t : TwoLevels) (p : Position) → fixed_at (fine_lattice t) p ≡ barred_on t p 0 p.i || (barred_on t p 1 p.j || barred_on t p 2 p.k)
unfolding fine_lattice
fixed_fine t p = fixed_parts t (fine_grid t) p

pub fixed_coarse : (t : TwoLevels) (p : Position) (i j k : ℕ)
    → fixed_at (coarse_lattice t) (edge_at p i j k) ≡ barred_on t p 0 i || (barred_on t p 1 j || barred_on t p 2 k)
unfolding coarse_lattice edge_at is_along
fixed_coarse t p i j k = fixed_parts t (coarse_grid t) (edge_at p i j k)

tested_column : (t : TwoLevels) (p : Position) (i j k : ℕ)
    → column_at t p i j k ≡ cond (barred_on t p 0 i || (barred_on t p 1 j || barred_on t p 2 k)) [] (column_in (coarse_grid t) p i j k)
unfolding column_at column_in
tested_column t p i j k = rw (fixed_coarse t p i j k)

-- the columns of a row are the products of the free places
pub columns_product : (t : TwoLevels) (r : ℕ) → weight_columns t r ≡ product_columns t (at_of (fine_grid t) r)
unfolding weight_columns nest nest_y nest_z column_in product_columns product_y product_z
columns_product t r =
    let p = at_of (fine_grid t) r in
    product_sieved (barred_on t p 0) (barred_on t p 1) (barred_on t p 2) (column_at t p) (column_in (coarse_grid t) p) (tested_column t p)
    (fixed_fine t p) (free_places_lem t 0 (is_along p 0) p.i) (free_places_lem t 1 (is_along p 1) p.j) (free_places_lem t 2 (is_along p 2) p.k)

-- the same of its terms
abbrev barred_term_on : TwoLevels → Position → ℕ → Term → Bool
barred_term_on t p a x = barred_on t p a x.column

abbrev tested_term : TwoLevels → (ℕ → C64) → (ℕ → C64) → Position → Term → Term → Term → List Term
tested_term t f g p x y = term_at t f g p x.column y.column (product x.number y.number)

abbrev free_term : TwoLevels → (ℕ → C64) → (ℕ → C64) → Position → Term → Term → Term → List Term
free_term t f g p x y = term_of t f g p x.column y.column (product x.number y.number)

tested_term_lem : (t : TwoLevels) (f g : ℕ → C64) (p : Position) (x y z : Term)
    → tested_term t f g p x y z ≡ cond (barred_term_on t p 0 x || (barred_term_on t p 1 y || barred_term_on t p 2 z)) [] (free_term t f g p x y z)
unfolding term_at term_of
tested_term_lem t f g p x y z = rw (fixed_coarse t p x.column y.column z.column)

pub terms_product : (t : TwoLevels) (f g : ℕ → C64) (r : ℕ) → prolongation_row t f g r ≡ product_terms t f g (at_of (fine_grid t) r)
unfolding prolongation_row terms_x terms_y terms_z product_terms product_terms_y product_terms_z
terms_product t f g r =
    let p = at_of (fine_grid t) r in
    product_sieved (barred_term_on t p 0) (barred_term_on t p 1) (barred_term_on t p 2) (tested_term t f g p) (free_term t f g p) (tested_term_lem t f g p)
    (fixed_fine t p) (free_terms_lem t 0 (is_along p 0) p.i) (free_terms_lem t 1 (is_along p 1) p.j) (free_terms_lem t 2 (is_along p 2) p.k)

-- ---- the columns of the terms

columns_side : (to : Option Arrival) (w : C64) → columns_of (side_terms to w) ≡ side_places to
columns_side None w = columns_of_nil
columns_side (Some s) w = columns_one _

columns_sides : (low high : Option Arrival) (s : C64) → columns_of (two_sides low high s) ≡ side_places low ++ side_places high
unfolding two_sides
columns_sides low high s =
    columns_append (side_terms low (one_minus s)) (side_terms high s) ∙ (λ i. columns_side low (one_minus s) i ++ columns_side high s i)

columns_rule : (e : Edges) (n : ℕ) (s : C64) (rule : Rule) → columns_of (rule_terms e n s rule) ≡ rule_places e n rule
columns_rule e n s (Coincides m) = columns_one _
columns_rule e n s (Nearest m) = columns_one _
columns_rule e n s (Between h) = columns_sides (low_side e n h) (high_side e n h) s
columns_rule e n s (Dropped h) = columns_sides (low_side e n h) (high_side e n h) s

columns_kept : (w : Bool) (ts : List Term) → columns_of (kept_terms w ts) ≡ kept_places w (columns_of ts)
unfolding kept_terms kept_places
columns_kept w [] = rw columns_of_nil
columns_kept w (t ∷ ts) = rw columns_of_cons (go (barred_term w t) (columns_kept w ts))
  where
    go : (b : Bool) → columns_of (kept_terms w ts) ≡ kept_places w (columns_of ts)
        → columns_of (cond b (kept_terms w ts) (t ∷ kept_terms w ts)) ≡ cond b (kept_places w (columns_of ts)) (t.column ∷ kept_places w (columns_of ts))
    go true e = e
    go false e = rw (columns_of_cons, e)

-- the places that interpolation takes are its terms' columns
pub interpolated_columns : (e : Edges) (x : List C64) (cs : List ℕ) (period : ℕ) (along : Bool) (p : ℕ)
    → columns_of (interpolated e x cs period along p) ≡ taken_places e cs along p
unfolding interpolated taken_places
interpolated_columns e x cs period along p = columns_rule e (length cs) (ratio_at e x cs period p (up_to cs p)) (rule_of e cs along p)

module _ (t : TwoLevels) (a : ℕ) (along : Bool) (i : ℕ) where
  pub axis_columns : columns_of (axis_terms t a along i) ≡ axis_places t a along i
  unfolding axis_terms axis_places
  axis_columns =
      interpolated_columns (edges_of t.base a) (cond along (along_map t.base a) (across_map t.base a)) (value_places (coarse_line t a) along)
      (get_or (coarse_line t a) (length (coarse_line t a) - 1) 0) along (place_of (fine_line t a) i along)

  pub free_columns_lem : columns_of (free_terms t a along i) ≡ free_places t a along i
  unfolding free_terms free_places
  free_columns_lem = go (barred (walled t.base a along) i)
    where
      go : (b : Bool) → columns_of (cond b [] (kept_terms (walled t.base a along) (axis_terms t a along i)))
          ≡ cond b [] (kept_places (walled t.base a along) (axis_places t a along i))
      go true = columns_of_nil
      go false = columns_kept (walled t.base a along) (axis_terms t a along i) ∙ ap (kept_places (walled t.base a along)) axis_columns

module _ (t : TwoLevels) (f g : ℕ → C64) where
  column_of : (p : Position) (x y z : Term) → columns_of (free_term t f g p x y z) ≡ column_in (coarse_grid t) p x.column y.column z.column
  unfolding term_of column_in
  column_of p x y z = columns_one _

  -- each column of the products has one term
  product_columns_lem : (p : Position) → columns_of (product_terms t f g p) ≡ product_columns t p
  unfolding product_terms product_terms_y product_terms_z product_columns product_y product_z
  product_columns_lem p =
      columns_each (product_terms_y t f g p) (product_y t p)
      (λ x. columns_each (product_terms_z t f g p x) (product_z t p x.column)
      (λ y. columns_each (free_term t f g p x y) (column_in (coarse_grid t) p x.column y.column) (column_of p x y) (free_terms t 2 (is_along p 2) p.k)
      (free_columns_lem t 2 (is_along p 2) p.k))
      (free_terms t 1 (is_along p 1) p.j) (free_columns_lem t 1 (is_along p 1) p.j))
      (free_terms t 0 (is_along p 0) p.i) (free_columns_lem t 0 (is_along p 0) p.i)

  pub terms_columns : (r : ℕ) → columns_of (prolongation_row t f g r) ≡ weight_columns t r
  terms_columns r = ap columns_of (terms_product t f g r) ∙ product_columns_lem (at_of (fine_grid t) r) ∙ sym (columns_product t r)

  pub numbers_count : (r : ℕ) → length (weight_numbers t f g r) ≡ length (weight_columns t r)
  unfolding weight_numbers
  numbers_count r = length_numbers (prolongation_row t f g r) ∙ sym (length_columns (prolongation_row t f g r)) ∙ ap length (terms_columns r)

-- ---- how many columns

side_most : (to : Option Arrival) → length (side_places to) ≤ 1
side_most None = omega arith
side_most (Some s) = omega arith

sides_most : (low high : Option Arrival) → length (side_places low ++ side_places high) ≤ 2
sides_most low high = omega (arith, length-append (side_places low) (side_places high), side_most low, side_most high)

rule_most : (e : Edges) (n : ℕ) (rule : Rule) → length (rule_places e n rule) ≤ 2
rule_most e n (Coincides m) = omega arith
rule_most e n (Nearest m) = omega arith
rule_most e n (Between h) = sides_most (low_side e n h) (high_side e n h)
rule_most e n (Dropped h) = sides_most (low_side e n h) (high_side e n h)

-- a place takes at most two values
pub taken_most : (e : Edges) (cs : List ℕ) (along : Bool) (p : ℕ) → length (taken_places e cs along p) ≤ 2
unfolding taken_places
taken_most e cs along p = rule_most e (length cs) (rule_of e cs along p)

pub kept_most : (w : Bool) (ms : List ℕ) → length (kept_places w ms) ≤ length ms
unfolding kept_places
kept_most w [] = omega arith
kept_most w (m ∷ ms) = go (barred w m) (kept_most w ms)
  where
    go : (b : Bool) → length (kept_places w ms) ≤ length ms → length (cond b (kept_places w ms) (m ∷ kept_places w ms)) ≤ suc (length ms)
    go true h = omega arith
    go false h = omega arith

pub free_most : (t : TwoLevels) (a : ℕ) (along : Bool) (i : ℕ) → length (free_places t a along i) ≤ 2
unfolding free_places axis_places
free_most t a along i = go (barred (walled t.base a along) i)
  where
    go : (b : Bool) → length (cond b [] (kept_places (walled t.base a along) (axis_places t a along i))) ≤ 2
    go true = omega arith
    go false =
        omega (
          arith,
          kept_most (walled t.base a along) (axis_places t a along i),
          taken_most (edges_of t.base a) (value_places (coarse_line t a) along) along (place_of (fine_line t a) i along),
        )

-- a row has as many columns as the product says
pub count_product : (t : TwoLevels) (r : ℕ) → length (weight_columns t r) ≡ weight_count t (at_of (fine_grid t) r)
unfolding weight_count product_columns product_y product_z column_in
count_product t r =
    let p = at_of (fine_grid t) r in
    let x = length (free_places t 0 (is_along p 0) p.i) in
    let y = length (free_places t 1 (is_along p 1) p.j) in
    let z = length (free_places t 2 (is_along p 2) p.k) in
    let e : length (weight_columns t r) ≡ x * (y * (z * 1)) =
    ap length (columns_product t r)
    ∙ each_count (product_y t p) (y * (z * 1))
    (λ i. each_count (product_z t p i) (z * 1) (λ j. each_count (column_in (coarse_grid t) p i j) 1 (λ k. refl) (free_places t 2 (is_along p 2) p.k))
    (free_places t 1 (is_along p 1) p.j))
    (free_places t 0 (is_along p 0) p.i) in
    let one : z * 1 ≡ z = omega arith in
    e ∙ rw one (sym (mul_assoc x y z))

pub weights_most : (t : TwoLevels) (r : ℕ) → length (weight_columns t r) ≤ 8
unfolding weight_count
weights_most t r =
    let p = at_of (fine_grid t) r in
    let u : weight_count t p ≤ 2 * 2 * 2 =
    mul-le-mul (mul-le-mul (free_most t 0 (is_along p 0) p.i) (free_most t 1 (is_along p 1) p.j)) (free_most t 2 (is_along p 2) p.k) in
    omega (arith, count_product t r, u)

pub starts_few : (t : TwoLevels) (n : ℕ) → start_of (weight_columns t) n ≤ 8 * n
starts_few t n = rw start_of_is (rows_most (weight_columns t) 8 n (λ r h. weights_most t r))

-- ---- where the places lie

low_inside : (e : Edges) (n h : ℕ) → 1 ≤ n → h ≤ n → All (λ m. m < n) (side_places (low_side e n h))
unfolding low_side
low_inside e n h s b = go (eqb h 0) e
  where
    go : (z : Bool) (e : Edges) → All (λ m. m < n) (side_places (cond z (past_first e n) (to_place (h - 1) one_number)))
    go true Pml = none
    go true (Bloch p) = more {x = n - 1} (omega arith) none
    go false e = more {x = h - 1} (omega arith) none

high_inside : (e : Edges) (n h : ℕ) → 1 ≤ n → All (λ m. m < n) (side_places (high_side e n h))
unfolding high_side
high_inside e n h s = go (leb n h) refl e
  where
    go : (z : Bool) → leb n h ≡ z → (e : Edges) → All (λ m. m < n) (side_places (cond z (past_high e) (to_place h one_number)))
    go true q Pml = none
    go true q (Bloch p) = more {x = 0} (omega arith) none
    go false q e = more (leb-false n h q) none

rule_inside : (e : Edges) (wall along : Bool) (n h : ℕ) (met : Bool) → 1 ≤ n → h ≤ n → All (λ m. m < n) (rule_places e n (rule_by wall along n h met))
unfolding rule_by
rule_inside e wall along n h met s b = go met (wall && outside n h) along
  where
    go : (met out along : Bool) → All (λ m. m < n) (rule_places e n (cond met (Coincides (h - 1)) (cond out (cond along (Nearest (h - 1)) (Dropped h)) (Between h))))
    go true out along = more {x = h - 1} (omega arith) none
    go false true true = more {x = h - 1} (omega arith) none
    go false true false = all_append (low_inside e n h s b) (high_inside e n h s)
    go false false along = all_append (low_inside e n h s b) (high_inside e n h s)

-- a place takes values of the coarse line
pub taken_inside : (e : Edges) (cs : List ℕ) (along : Bool) (p : ℕ) → 1 ≤ length cs → All (λ m. m < length cs) (taken_places e cs along p)
unfolding taken_places rule_of up_to
taken_inside e cs along p s = rule_inside e (is_wall e) along (length cs) (up_to cs p) (meets cs p (up_to cs p)) s (before_most (suc p) cs)

-- a line has one value less than ends
pub length_values : (es : List ℕ) (along : Bool) → length (value_places es along) ≡ length es - 1
unfolding value_places
length_values es along = length_tabulate (value_at es along) (length es - 1) 0

-- a place of the coarse line of axis a that is not fixed
pub record FreePlace (t : TwoLevels) (a : ℕ) (along : Bool) (m : ℕ) : Type 0 where
  pub low : m < coarse_cells t a
  pub free : barred (walled t.base a along) m ≡ false

module _ (t : TwoLevels) (a : ℕ) (along : Bool) where
  kept_inside : {ms : List ℕ} → All (λ m. m < coarse_cells t a) ms → All (FreePlace t a along) (kept_places (walled t.base a along) ms)
  unfolding kept_places
  kept_inside none = none
  kept_inside (more {x = m} {xs = ms} p u) = go (barred (walled t.base a along) m) refl (kept_inside u)
    where
      go : (b : Bool) → barred (walled t.base a along) m ≡ b → All (FreePlace t a along) (kept_places (walled t.base a along) ms)
          → All (FreePlace t a along) (cond b (kept_places (walled t.base a along) ms) (m ∷ kept_places (walled t.base a along) ms))
      go true e v = v
      go false e v = more (record { low = p; free = e }) v

  pub axis_inside : (i : ℕ) → 1 ≤ coarse_cells t a → All (λ m. m < coarse_cells t a) (axis_places t a along i)
  unfolding axis_places coarse_cells
  axis_inside i s =
      let n : length (value_places (coarse_line t a) along) ≡ coarse_cells t a = length_values (coarse_line t a) along in
      subst (λ k. All (λ m. m < k) (axis_places t a along i)) n
      (taken_inside (edges_of t.base a) (value_places (coarse_line t a) along) along (place_of (fine_line t a) i along) (omega (arith, n)))

  -- what a place takes of an axis are places there that are not fixed
  pub free_all : (i : ℕ) → 1 ≤ coarse_cells t a → All (FreePlace t a along) (free_places t a along i)
  unfolding free_places
  free_all i s = go (barred (walled t.base a along) i)
    where
      go : (b : Bool) → All (FreePlace t a along) (cond b [] (kept_places (walled t.base a along) (axis_places t a along i)))
      go true = none
      go false = kept_inside (axis_inside i s)

  pub free_inside : (i : ℕ) → 1 ≤ coarse_cells t a → (d : ℕ) → d < length (free_places t a along i) → get_or (free_places t a along i) d 0 < coarse_cells t a
  free_inside i s d h = (all_at (free_all i s) d 0 h).low
