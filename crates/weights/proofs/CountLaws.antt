-- How many weights a transfer has: the sum over its rows of a product over the axes is, for each component, the product of the axes' sums.
-- Assumes nothing.
use Prim.Native.Nat.{ℕ, zero, suc, ◌+◌, ◌-◌, ◌*◌, ◌<◌, ◌≤◌}
use mathlib.Core.Path.{◌≡◌, refl, sym, ap, ◌∙◌}
use mathlib.Core.Bool.{Bool, true, false}
use mathlib.Core.List.{List}
use native.Mathlib.Omega.{arith}
use native.Mathlib.Nat.{mul-le-mul}
use lib.Dec.{eqb}
use lib.ListN.{length, get_or, take, drop, length-drop}
use Rattle.std.specs.Prelude.{sum}
use Rattle.std.proofs.Common.{add-one}
use Rattle.std.proofs.lemmas.List.{get_or-drop}
use Rattle.std.proofs.lemmas.List.Sums.{sum_by_more}
use Rattle.numbers.specs.Lists.{start_of, sum_to}
use Rattle.numbers.proofs.SumLaws.{sum_to_zero, sum_to_suc, sum_agree, sum_most, start_sum}
use Rattle.lattice.specs.declared.grid.Grid3d.{Grid3d}
use Rattle.lattice.specs.Grid.{at_of, unknowns_of, Limits}
use Rattle.weights.specs.TwoLevels.{TwoLevels, grid_with, fine_grid}
use Rattle.weights.specs.Prolongation.{is_along, weight_columns}
use Rattle.weights.specs.Product.{weight_count, row_weights, axis_taken, axis_weights, component_weights, transfer_weights}
use Rattle.weights.specs.Tables.{slot_of, slot_on, count_in, CountsOf, counted_to, slot_count, axis_count, component_count}
use Rattle.lattice.proofs.EdgeSums.{edge_of, over_cells, component_product, grid_sum}
use Rattle.weights.proofs.ProductLaws.{count_product}

-- of three
three : (f : ℕ → ℕ) → sum_to f 3 ≡ f 0 + f 1 + f 2
three f = omega (arith, sum_to_suc f 2, sum_to_suc f 1, sum_to_suc f 0, sum_to_zero f)

-- ---- from the counts of the slots

counted_sum : (g : Grid3d) (ns : List ℕ) (n : ℕ) → counted_to g ns n ≡ sum_to (λ r. count_in ns (at_of g r)) n
unfolding counted_to
counted_sum g ns zero = sym (sum_to_zero (λ r. count_in ns (at_of g r)))
counted_sum g ns (suc n) = omega (arith, counted_sum g ns n, sum_to_suc (λ r. count_in ns (at_of g r)) n)

count_edge : (ns : List ℕ) (c i j k : ℕ) → count_in ns (edge_of c i j k) ≡ slot_count ns c 0 i * slot_count ns c 1 j * slot_count ns c 2 k
unfolding count_in slot_on is_along slot_count
count_edge ns c i j k = refl

component_count_lem : (g : Grid3d) (ns : List ℕ) (c : ℕ) → over_cells g (count_in ns) c ≡ component_count g ns c
unfolding component_count axis_count
component_count_lem g ns c = component_product g (count_in ns) (slot_count ns c 0) (slot_count ns c 1) (slot_count ns c 2) c (count_edge ns c)

pub count_total : {g : Grid3d} → Limits g → (ns : List ℕ) → counted_to g ns (unknowns_of g) ≡ component_count g ns 0 + component_count g ns 1 + component_count g ns 2
count_total {g} l ns =
    counted_sum g ns (unknowns_of g)
    ∙ grid_sum l (count_in ns)
    ∙ sum_agree (over_cells g (count_in ns)) (component_count g ns) 3 (λ c h. component_count_lem g ns c)
    ∙ three (component_count g ns)

-- ---- from the levels

weight_edge : (t : TwoLevels) (c i j k : ℕ) → weight_count t (edge_of c i j k) ≡ axis_taken t c 0 i * axis_taken t c 1 j * axis_taken t c 2 k
unfolding weight_count is_along axis_taken
weight_edge t c i j k = refl

component_weights_lem : (t : TwoLevels) (c : ℕ) → over_cells (fine_grid t) (weight_count t) c ≡ component_weights t c
unfolding component_weights axis_weights fine_grid grid_with
component_weights_lem t c = component_product (fine_grid t) (weight_count t) (axis_taken t c 0) (axis_taken t c 1) (axis_taken t c 2) c (weight_edge t c)

-- the weights of the first n rows, and of all
pub rows_weigh : (t : TwoLevels) (n : ℕ) → start_of (weight_columns t) n ≡ sum_to (row_weights t) n
unfolding row_weights
rows_weigh t n = start_sum (weight_columns t) n ∙ sum_agree (λ r. length (weight_columns t r)) (λ r. weight_count t (at_of (fine_grid t) r)) n (λ r h. count_product t r)

pub weights_total : (t : TwoLevels) → Limits (fine_grid t) → start_of (weight_columns t) (unknowns_of (fine_grid t)) ≡ transfer_weights t
unfolding row_weights transfer_weights
weights_total t l =
    rows_weigh t (unknowns_of (fine_grid t))
    ∙ grid_sum l (weight_count t)
    ∙ sum_agree (over_cells (fine_grid t) (weight_count t)) (component_weights t) 3 (λ c h. component_weights_lem t c)

-- ---- the counts are small

pub slot_below : (a i : ℕ) (along : Bool) → a < 3 → i < 64 → slot_of a along i < 384
unfolding slot_of
slot_below a i true h l = omega arith
slot_below a i false h l = omega arith

module _ {ns : List ℕ} (n : CountsOf ns) where
  pub slot_few : (c a i : ℕ) → a < 3 → i < 64 → slot_count ns c a i ≤ 2
  unfolding slot_count
  slot_few c a i h l = n.few (slot_of a (eqb a c) i) (slot_below a i (eqb a c) h l)

-- the slots of an axis and a component stand one behind another
slot_next : (a i : ℕ) (along : Bool) → slot_of a along 0 + i ≡ slot_of a along i
unfolding slot_of
slot_next a i along = omega arith

sum_taken : (xs : List ℕ) (f : ℕ → ℕ) (n : ℕ) → n ≤ length xs → ((i : ℕ) → i < n → get_or xs i 0 ≡ f i) → sum (take n xs) ≡ sum_to f n
sum_taken xs f zero h e = sym (sum_to_zero f)
sum_taken xs f (suc n) h e =
    let s : sum (take (n + 1) xs) ≡ sum (take n xs) + get_or xs n 0 = sum_by_more (λ x. x) xs n 0 (omega arith) in
    rw (add-one n) at s ∙ omega (arith, sum_taken xs f n (omega arith) (λ i b. e i (omega arith)), e n (omega arith), sum_to_suc f n)

module _ {ns : List ℕ} (m : CountsOf ns) (c a n : ℕ) {q : ℕ} (e : q ≡ slot_of a (eqb a c) 0) (h : a < 3) (l : n ≤ 64) where
  pub slots_room : q + n ≤ length ns
  unfolding slot_of
  slots_room = go (eqb a c) e
    where
      go : (along : Bool) → q ≡ slot_of a along 0 → q + n ≤ length ns
      go true e = omega (arith, m.long)
      go false e = omega (arith, m.long)

  pub axis_sum : sum (take (q + n - q) (drop q ns)) ≡ axis_count ns c a n
  unfolding axis_count slot_count
  axis_sum =
      let k : q + n - q ≡ n = omega arith in
      rw k
      (sum_taken (drop q ns) (slot_count ns c a) n (omega (arith, length-drop q ns, slots_room))
      (λ i b. get_or-drop q ns i 0 ∙ ap (λ (j : ℕ). get_or ns j 0) (ap (λ (j : ℕ). j + i) e ∙ slot_next a i (eqb a c))))

  pub axis_most : axis_count ns c a n ≤ 128
  unfolding axis_count
  axis_most = omega (arith, sum_most (slot_count ns c a) 2 n (λ i b. slot_few m c a i h (omega arith)))

-- the product of three of at most 128
pub most_three : {x y z : ℕ} → x ≤ 128 → y ≤ 128 → z ≤ 128 → (x * y ≤ 16384) × (x * y * z ≤ 2097152)
most_three {x} {y} {z} h l m =
    let p : x * y ≤ 128 * 128 = mul-le-mul h l in
    let q : x * y * z ≤ 128 * 128 * 128 = mul-le-mul p m in
    (omega arith, omega arith)
