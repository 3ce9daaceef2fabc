-- Laws of the rows that are worked out from the lists of slots: they are the rows of the prolongation.
-- Assumes nothing.
use Prim.Native.Nat.{ℕ, zero, suc, ◌+◌, ◌-◌, ◌*◌, ◌/◌, ◌%◌, ◌<◌, ◌≤◌, ◌^◌}
use native.Mathlib.Nat.{not-suc-le-zero}
use native.Mathlib.Omega.{arith}
use mathlib.Core.Path.{◌≡◌, refl, sym, ap, ◌∙◌}
use mathlib.Core.Bool.{Bool, true, false, cond}
use mathlib.Core.List.{List, [], map}
use borrow.Author.Tests.{ltb-true, lt-ltb}
use lib.Dec.{ltb}
use lib.ListN.{length, get_or, set}
use lib.Seq.{ext_get_or}
use lib.Ieee.{Float}
use Rattle.numbers.specs.declared.C64.{C64}
use Rattle.numbers.specs.Complex.{zero_number, product}
use Rattle.numbers.specs.Places.{number_at, set_number}
use Rattle.lattice.specs.declared.grid.Grid3d.{Grid3d}
use Rattle.lattice.specs.declared.grid.Position.{Position}
use Rattle.lattice.specs.declared.levels.Three.{Three}
use Rattle.lattice.specs.Grid.{n_of, place_on, at_of, unknowns_of, Limits, Inside}
use Rattle.lattice.specs.Lattice.{FullLattice}
use Rattle.numbers.specs.Lists.{tabulate, each, rows, Laid, laid_numbers, all_finite, start_of, starts_of, Numbers, entry_at, places_in}
use Rattle.numbers.specs.Terms.{Term, numbers_of}
use Rattle.lattice.proofs.GridLaws.{n_most, place_inside, at_inside, unknowns_most}
use Rattle.numbers.proofs.TabulateLaws.{length_tabulate, tabulate_at}
use Rattle.lattice.specs.Levels.{three_at}
use Rattle.weights.proofs.Equations.{weight_numbers_is}
use Rattle.weights.proofs.PairLaws.{two_at_lem, paired_at}
use Rattle.weights.specs.TwoLevels.{TwoLevels, fine_cells, node_on, fine_grid, coarse_grid, two_at, two_of}
use Rattle.weights.specs.Prolongation.{is_along, read_place, read_edge, weight_at, weight_columns, weight_numbers, prolongation_row}
use Rattle.weights.specs.Product.{free_places, free_terms, column_in, product_z, product_y, product_columns, term_of, product_terms_z, product_terms_y, product_terms, weight_count}
pub use Rattle.weights.specs.Tables.{Slotted, Pulled}
use Rattle.weights.specs.Tables.{slot_axis, slot_along, slot_place, slot_of, slot_places, slot_terms, count_entry, place_entry, node_entry, pull_entry, Paired, pull_in, pulls_in, slot_on, columns_in_z, columns_in_y, columns_in, weight_in, number_in, numbers_in_z, numbers_in_y, numbers_in, PlacesOf, NodesOf, RoomFor, SpanOf, columns_row, numbers_row, count_in, CountsOf, counted_to, count_from, place_from, node_no, node_from, map_no, end_no, lines_in, pull_from}
use Rattle.weights.specs.declared.rows.Pull.{Pull}
use Rattle.numbers.proofs.ListLaws.{rows_agree, long_as, read_at_lem, read_back, laid_numbers_same, start_agree, starts_agree}
use Rattle.numbers.proofs.EachLaws.{length_columns, columns_at_lem as column_at_lem, numbers_at as number_at_lem}
use Rattle.numbers.proofs.Equations.{start_of_is}
use Rattle.lattice.proofs.Equations.{place_on_0, place_on_1, place_on_2}
use Rattle.numbers.proofs.LoopLaws.{either_below, tabulate_map, numbers_one, numbers_each, start_zero, start_suc, start_long}
use Rattle.weights.proofs.RowLaws.{slot_part}
use Rattle.weights.proofs.TwoLevelLaws.{fine_n, coarse_n}
use Rattle.weights.proofs.ProductLaws.{columns_product, terms_product, free_columns_lem, free_most, numbers_count, count_product, starts_few}
use Rattle.weights.proofs.SlotLaws.{slot_most, slot_inside, coarse_some, Worked, at_fine, at_coarse, counts_are, places_are, nodes_are, places_low, pulls_are}

-- a read past the end gives this
abbrev no_term : Term
no_term = record { column = 0; number = zero_number }

-- ---- the slot of an axis, a role and a place

module _ (a i : ℕ) (h : i < 64) where
  slot_axis_lem : (along : Bool) → slot_axis (slot_of a along i) ≡ a
  unfolding slot_axis slot_of
  slot_axis_lem true = omega arith
  slot_axis_lem false = omega arith

  slot_along_lem : (along : Bool) → slot_along (slot_of a along i) ≡ along
  unfolding slot_along slot_of
  slot_along_lem true = let e : (128 * a + 64 + i) / 64 % 2 ≡ 1 = omega arith in rw e
  slot_along_lem false = let e : (128 * a + 0 + i) / 64 % 2 ≡ 0 = omega arith in rw e

  slot_place_lem : (along : Bool) → slot_place (slot_of a along i) ≡ i
  unfolding slot_place slot_of
  slot_place_lem true = omega arith
  slot_place_lem false = omega arith

  -- it holds what the place takes
  slot_free : (t : TwoLevels) (along : Bool) → i < fine_cells t a → slot_places t (slot_of a along i) ≡ free_places t a along i
  unfolding slot_places
  slot_free t along b = rw (slot_axis_lem along, slot_along_lem along, slot_place_lem along, lt-ltb i (fine_cells t a) b)

  slot_free_terms : (t : TwoLevels) (along : Bool) → i < fine_cells t a → slot_terms t (slot_of a along i) ≡ free_terms t a along i
  unfolding slot_terms
  slot_free_terms t along b = rw (slot_axis_lem along, slot_along_lem along, slot_place_lem along, lt-ltb i (fine_cells t a) b)

-- ---- entries

-- slot and number of an entry
entry_slot : (q d : ℕ) → d < 2 → (2 * q + d) / 2 ≡ q
entry_slot q d h = omega arith

entry_no : (q d : ℕ) → d < 2 → (2 * q + d) % 2 ≡ d
entry_no q d h = omega arith

module _ (t : TwoLevels) (q d : ℕ) (h : d < 2) where
  entry_place : place_entry t (2 * q + d) ≡ get_or (slot_places t q) d 0
  unfolding place_entry
  entry_place = rw (entry_slot q d h, entry_no q d h)

  entry_node : node_entry t (2 * q + d) ≡ cond (slot_along q) (slot_place q) (node_on t (slot_axis q) (get_or (slot_places t q) d 0))
  unfolding node_entry
  entry_node = rw (entry_place, entry_slot q d h)

  entry_pull : pull_entry t (2 * q + d) ≡ get_or (numbers_of (slot_terms t q)) d zero_number
  unfolding pull_entry
  entry_pull = rw (entry_slot q d h, entry_no q d h)

-- ---- the lists

-- counts
module _ (t : TwoLevels) {ns : List ℕ} (n : ns ≡ tabulate (count_entry t) 384 0) where
  pub count_is : (q : ℕ) → q < 384 → get_or ns q 0 ≡ length (slot_places t q)
  unfolding count_entry
  count_is q h = read_at_lem (count_entry t) 384 n q 0 h

  count_few : (q : ℕ) → q < 384 → get_or ns q 0 ≤ 2
  count_few q h = rw (count_is q h) (slot_most t q)

  pub counts_of : CountsOf ns
  counts_of = record { long = long_as (count_entry t) 384 n; few = count_few }

  -- places
  module _ {ps : List ℕ} (s : ps ≡ tabulate (place_entry t) 768 0) where
    place_is : (q d : ℕ) → q < 384 → d < 2 → get_or ps (2 * q + d) 0 ≡ get_or (slot_places t q) d 0
    place_is q d h b = read_at_lem (place_entry t) 768 s (2 * q + d) 0 (omega arith) ∙ entry_place t q d b

    -- a slot's entries are what it takes
    slot_list : (q : ℕ) → q < 384 → places_in ps (2 * q) (get_or ns q 0) ≡ slot_places t q
    slot_list q h =
        let l : length (places_in ps (2 * q) (get_or ns q 0)) ≡ get_or ns q 0 = length_tabulate (entry_at ps) (get_or ns q 0) (2 * q) in
        ext_get_or 0 (places_in ps (2 * q) (get_or ns q 0)) (slot_places t q)
        (l ∙ count_is q h)
        (λ d b. tabulate_at (entry_at ps) (get_or ns q 0) (2 * q) d 0 (omega arith) ∙ place_is q d h (omega (arith, count_few q h)))

-- ---- the axes of a position

module _ (t : TwoLevels) (p : Position) (m : Limits (fine_grid t)) (f : Inside (fine_grid t) p) where
  -- its place on an axis
  on_fine_lem : (a : ℕ) → place_on p a < fine_cells t a
  on_fine_lem a = rw fine_n at (place_inside f a)

  on_low : (a : ℕ) → place_on p a < 64
  on_low a = omega (arith, place_inside f a, n_most m a)

  on_slot : (a : ℕ) → a < 3 → slot_on p a (place_on p a) < 384
  on_slot a h = (slot_part p a (place_on p a) h (on_low a)).below

  on_free : (a : ℕ) → slot_places t (slot_on p a (place_on p a)) ≡ free_places t a (is_along p a) (place_on p a)
  unfolding slot_on
  on_free a = slot_free a (place_on p a) (on_low a) t (is_along p a) (on_fine_lem a)

  module _ {ns : List ℕ} (n : ns ≡ tabulate (count_entry t) 384 0) where
    on_count : (a : ℕ) → a < 3 → get_or ns (slot_on p a (place_on p a)) 0 ≡ length (free_places t a (is_along p a) (place_on p a))
    on_count a h = count_is t n (slot_on p a (place_on p a)) (on_slot a h) ∙ ap (λ (ms : List ℕ). length ms) (on_free a)

    -- how many weights its row has
    pub count_at_lem : count_in ns p ≡ weight_count t p
    unfolding count_in weight_count
    count_at_lem =
        let x : get_or ns (slot_on p 0 p.i) 0 ≡ length (free_places t 0 (is_along p 0) p.i) = rw place_on_0 at (on_count 0 (omega arith)) in
        let y : get_or ns (slot_on p 1 p.j) 0 ≡ length (free_places t 1 (is_along p 1) p.j) = rw place_on_1 at (on_count 1 (omega arith)) in
        let z : get_or ns (slot_on p 2 p.k) 0 ≡ length (free_places t 2 (is_along p 2) p.k) = rw place_on_2 at (on_count 2 (omega arith)) in
        rw (x, y, z)

    module _ {ps : List ℕ} (s : ps ≡ tabulate (place_entry t) 768 0) where
      on_list : (a : ℕ) → a < 3 → places_in ps (2 * slot_on p a (place_on p a)) (get_or ns (slot_on p a (place_on p a)) 0) ≡ free_places t a (is_along p a) (place_on p a)
      on_list a h = slot_list t n s (slot_on p a (place_on p a)) (on_slot a h) ∙ on_free a

-- ---- columns

-- what agrees for each element
each_both : {A B : Type 0} (f g : A → List B) (xs ys : List A) → ((x : A) → f x ≡ g x) → xs ≡ ys → each f xs ≡ each g ys
each_both f g xs ys p q = λ k. each (λ x. p x k) (q k)

module _ (t : TwoLevels) (p : Position) (m : Limits (fine_grid t)) (f : Inside (fine_grid t) p) {ps ns : List ℕ}
    (n : ns ≡ tabulate (count_entry t) 384 0) (s : ps ≡ tabulate (place_entry t) 768 0) where
  columns_z : (i j : ℕ) → columns_in_z (coarse_grid t) ps ns p i j ≡ product_z t p i j
  unfolding columns_in_z product_z column_in
  columns_z i j = each_both (column_in (coarse_grid t) p i j) (column_in (coarse_grid t) p i j) _ _ (λ k. refl) (rw place_on_2 at (on_list t p m f n s 2 (omega arith)))

  columns_y : (i : ℕ) → columns_in_y (coarse_grid t) ps ns p i ≡ product_y t p i
  unfolding columns_in_y product_y
  columns_y i = each_both (columns_in_z (coarse_grid t) ps ns p i) (product_z t p i) _ _ (columns_z i) (rw place_on_1 at (on_list t p m f n s 1 (omega arith)))

  -- the columns of a position's row
  pub columns_at_lem : columns_in (coarse_grid t) ps ns p ≡ product_columns t p
  unfolding columns_in product_columns
  columns_at_lem = each_both (columns_in_y (coarse_grid t) ps ns p) (product_y t p) _ _ columns_y (rw place_on_0 at (on_list t p m f n s 0 (omega arith)))

-- ---- numbers

-- a term as an entry of a slot of a position
unfoldable pull_as : TwoLevels → Position → ℕ → Term → Pull
pull_as t p a x = record { place = x.column; node = read_place t p a x.column; weight = x.number }

node_is : (t : TwoLevels) {ds : List ℕ} → ds ≡ tabulate (node_entry t) 768 0 → (q d : ℕ) → q < 384 → d < 2
    → get_or ds (2 * q + d) 0 ≡ cond (slot_along q) (slot_place q) (node_on t (slot_axis q) (get_or (slot_places t q) d 0))
node_is t o q d h b = read_at_lem (node_entry t) 768 o (2 * q + d) 0 (omega arith) ∙ entry_node t q d b

module _ (t : TwoLevels) {ps ds ns : List ℕ} {xs : List Float} (n : ns ≡ tabulate (count_entry t) 384 0) (s : ps ≡ tabulate (place_entry t) 768 0)
    (o : ds ≡ tabulate (node_entry t) 768 0) (w : Numbers (pull_entry t) 768 xs) where
  weight_is : (q d : ℕ) → q < 384 → d < 2 → number_at xs (2 * q + d) ≡ get_or (numbers_of (slot_terms t q)) d zero_number
  weight_is q d h b = w.each_is (2 * q + d) (omega arith) ∙ entry_pull t q d b

  module _ (p : Position) (m : Limits (fine_grid t)) (f : Inside (fine_grid t) p) where
    -- an entry of a position's slot on an axis
    on_pull : (a : ℕ) → a < 3 → (d : ℕ) → d < 2
        → ◌≡◌ {A = Pull}
        (record {
          place = get_or ps (2 * slot_on p a (place_on p a) + d) 0;
          node = get_or ds (2 * slot_on p a (place_on p a) + d) 0;
          weight = number_at xs (2 * slot_on p a (place_on p a) + d);
        })
        (pull_as t p a (get_or (free_terms t a (is_along p a) (place_on p a)) d no_term))
    unfolding pull_as read_place slot_on
    on_pull a h d b =
        let q : ℕ = slot_of a (is_along p a) (place_on p a) in
        let i : place_on p a < 64 = on_low t p m f a in
        let k : q < 384 = on_slot t p m f a h in
        let ts : List Term = free_terms t a (is_along p a) (place_on p a) in
        let free : slot_places t q ≡ free_places t a (is_along p a) (place_on p a) = slot_free a (place_on p a) i t (is_along p a) (on_fine_lem t p m f a) in
        let terms : slot_terms t q ≡ ts = slot_free_terms a (place_on p a) i t (is_along p a) (on_fine_lem t p m f a) in
        let column : get_or (slot_places t q) d 0 ≡ (get_or ts d no_term).column = rw (free, ← free_columns_lem t a (is_along p a) (place_on p a)) (column_at_lem ts d no_term) in
        let place : get_or ps (2 * q + d) 0 ≡ (get_or ts d no_term).column = place_is t n s q d k b ∙ column in
        let node : get_or ds (2 * q + d) 0 ≡ cond (is_along p a) (place_on p a) (node_on t a (get_or ts d no_term).column) =
        rw (node_is t o q d k b, column, slot_axis_lem a (place_on p a) i (is_along p a), slot_along_lem a (place_on p a) i (is_along p a), slot_place_lem a (place_on p a) i (is_along p a)) in
        let weight : number_at xs (2 * q + d) ≡ (get_or ts d no_term).number = rw (weight_is q d k b, terms) (number_at_lem ts d no_term) in
        λ j. record { place = place j; node = node j; weight = weight j }

    -- all of them
    on_pulls : (a : ℕ) → a < 3
        → pulls_in ps ds xs (2 * slot_on p a (place_on p a)) (get_or ns (slot_on p a (place_on p a)) 0) ≡ map (pull_as t p a) (free_terms t a (is_along p a) (place_on p a))
    on_pulls a h =
        let ts : List Term = free_terms t a (is_along p a) (place_on p a) in
        let c : length ts ≡ length (free_places t a (is_along p a) (place_on p a)) =
        sym (length_columns ts) ∙ ap (λ (ms : List ℕ). length ms) (free_columns_lem t a (is_along p a) (place_on p a)) in
        let l : get_or ns (slot_on p a (place_on p a)) 0 ≡ length ts = on_count t p m f n a h ∙ sym c in
        rw l
        (tabulate_map (pull_in ps ds xs) (pull_as t p a) no_term ts (2 * slot_on p a (place_on p a))
        (λ d b. on_pull a h d (omega (arith, c, free_most t a (is_along p a) (place_on p a)))))

    module _ (eps_f eps_c : ℕ → C64) where
      number_one : (x y z : Term)
          → number_in (fine_grid t) (coarse_grid t) eps_f eps_c p (pull_as t p 0 x) (pull_as t p 1 y) (pull_as t p 2 z)
          ≡ numbers_of (term_of t eps_f eps_c p x.column y.column (product x.number y.number) z)
      unfolding number_in weight_in term_of weight_at read_edge pull_as
      number_one x y z = sym (numbers_one _)

      numbers_z : (x y : Term)
          → numbers_in_z (fine_grid t) (coarse_grid t) eps_f eps_c ps ds ns xs p (pull_as t p 0 x) (pull_as t p 1 y)
          ≡ numbers_of (product_terms_z t eps_f eps_c p x y)
      unfolding numbers_in_z product_terms_z
      numbers_z x y =
          let e : pulls_in ps ds xs (2 * slot_on p 2 p.k) (get_or ns (slot_on p 2 p.k) 0) ≡ map (pull_as t p 2) (free_terms t 2 (is_along p 2) p.k) = rw place_on_2 at (on_pulls 2 (omega arith)) in
          rw e
          (numbers_each (number_in (fine_grid t) (coarse_grid t) eps_f eps_c p (pull_as t p 0 x) (pull_as t p 1 y))
          (term_of t eps_f eps_c p x.column y.column (product x.number y.number))
          (pull_as t p 2)
          (number_one x y)
          (free_terms t 2 (is_along p 2) p.k))

      numbers_y : (x : Term)
          → numbers_in_y (fine_grid t) (coarse_grid t) eps_f eps_c ps ds ns xs p (pull_as t p 0 x) ≡ numbers_of (product_terms_y t eps_f eps_c p x)
      unfolding numbers_in_y product_terms_y
      numbers_y x =
          let e : pulls_in ps ds xs (2 * slot_on p 1 p.j) (get_or ns (slot_on p 1 p.j) 0) ≡ map (pull_as t p 1) (free_terms t 1 (is_along p 1) p.j) = rw place_on_1 at (on_pulls 1 (omega arith)) in
          rw e
          (numbers_each (numbers_in_z (fine_grid t) (coarse_grid t) eps_f eps_c ps ds ns xs p (pull_as t p 0 x))
          (product_terms_z t eps_f eps_c p x)
          (pull_as t p 1)
          (numbers_z x)
          (free_terms t 1 (is_along p 1) p.j))

      pub numbers_at : numbers_in (fine_grid t) (coarse_grid t) eps_f eps_c ps ds ns xs p ≡ numbers_of (product_terms t eps_f eps_c p)
      unfolding numbers_in product_terms
      numbers_at =
          let e : pulls_in ps ds xs (2 * slot_on p 0 p.i) (get_or ns (slot_on p 0 p.i) 0) ≡ map (pull_as t p 0) (free_terms t 0 (is_along p 0) p.i) = rw place_on_0 at (on_pulls 0 (omega arith)) in
          rw e
          (numbers_each (numbers_in_y (fine_grid t) (coarse_grid t) eps_f eps_c ps ds ns xs p)
          (product_terms_y t eps_f eps_c p)
          (pull_as t p 0)
          numbers_y
          (free_terms t 0 (is_along p 0) p.i))

-- ---- what the rows ask of the lists

-- a slot with an entry is one of a place of the fine line
slot_own : (t : TwoLevels) (q d : ℕ) → d < length (slot_places t q) → slot_place q < fine_cells t (slot_axis q)
unfolding slot_places
slot_own t q d = go (ltb (slot_place q) (fine_cells t (slot_axis q))) refl
  where
    go : (b : Bool) → ltb (slot_place q) (fine_cells t (slot_axis q)) ≡ b → d < length (cond b (free_places t (slot_axis q) (slot_along q) (slot_place q)) [])
        → slot_place q < fine_cells t (slot_axis q)
    go true e h = ltb-true _ _ e
    go false e h = absurd (not-suc-le-zero h)

module _ {l : FullLattice} {fine coarse : Three} (p : Paired l fine coarse) {ps ns : List ℕ} (n : ns ≡ tabulate (count_entry (two_of l fine coarse)) 384 0)
    (s : ps ≡ tabulate (place_entry (two_of l fine coarse)) 768 0) where
  place_in : (q d : ℕ) → q < 384 → d < get_or ns q 0 → get_or ps (2 * q + d) 0 < n_of (coarse_grid (two_of l fine coarse)) (q / 128)
  unfolding slot_axis
  place_in q d h b =
      let c : d < length (slot_places (two_of l fine coarse) q) = rw (count_is (two_of l fine coarse) n q h) at b in
      rw (place_is (two_of l fine coarse) n s q d h (omega (arith, slot_most (two_of l fine coarse) q)), coarse_n (two_of l fine coarse) (q / 128))
      (slot_inside (two_of l fine coarse) q (coarse_some p (q / 128)) d c)

  places_of : PlacesOf (coarse_grid (two_of l fine coarse)) ps ns
  places_of =
      record {
        places_long = long_as (place_entry (two_of l fine coarse)) 768 s;
        counts_long = long_as (count_entry (two_of l fine coarse)) 384 n;
        few = count_few (two_of l fine coarse) n;
        place_in = place_in;
      }

  module _ {ds : List ℕ} (o : ds ≡ tabulate (node_entry (two_of l fine coarse)) 768 0) where
    node_in_is : (q d : ℕ) → q < 384 → d < get_or ns q 0 → get_or ds (2 * q + d) 0 < n_of (fine_grid (two_of l fine coarse)) (q / 128)
    unfolding slot_axis
    node_in_is q d h b =
        let t : TwoLevels = two_of l fine coarse in
        let c : d < length (slot_places t q) = rw (count_is t n q h) at b in
        rw (node_is t o q d h (omega (arith, slot_most t q)), fine_n t (q / 128))
        (either_below (slot_along q) (slot_own t q d c) (p.nested (q / 128) (get_or (slot_places t q) d 0) (slot_inside t q (coarse_some p (q / 128)) d c)))

    nodes_of_lem : NodesOf (fine_grid (two_of l fine coarse)) ds ns
    nodes_of_lem = record { nodes_long = long_as (node_entry (two_of l fine coarse)) 768 o; node_in_is = node_in_is }

-- ---- the rows, from grids and lists that are those of two levels

-- both as they are worked out
pub slotted : {l : FullLattice} {fine coarse : Three} {gf gc : Grid3d} {fs cs ps ns : List ℕ} → Worked l fine coarse gf gc fs cs
    → ns ≡ tabulate (count_from l gf gc fs cs) 384 0 → ps ≡ tabulate (place_from l gf gc fs cs) 768 0 → Slotted l fine coarse gf gc ps ns
slotted w n s =
    record {
      paired = w.paired;
      fine_is = at_fine w;
      coarse_is = at_coarse w;
      counts = counts_are w n;
      places = places_are w s;
    }

pub pulled : {l : FullLattice} {fine coarse : Three} {gf gc : Grid3d} {fs cs ps ns nn ds es : List ℕ} {ms xs : List Float} → Worked l fine coarse gf gc fs cs
    → Slotted l fine coarse gf gc ps ns → nn ≡ tabulate (node_no (two_of l fine coarse)) 195 0 → ds ≡ tabulate (node_from nn ps) 768 0
    → Numbers (map_no l) 774 ms → es ≡ tabulate (end_no (lines_in coarse)) 3 0 → Numbers (pull_from l gf gc fs cs ms es) 768 xs
    → Pulled l fine coarse gf gc ps ns ds xs
pulled w s n d m e x = record { slots = s; nodes = nodes_are s.paired n s.places d; pulls = pulls_are w m e x }

module _ {l : FullLattice} {fine coarse : Three} {gf gc : Grid3d} {ps ns : List ℕ} (s : Slotted l fine coarse gf gc ps ns) where
  pub slots_in : PlacesOf gc ps ns
  slots_in = rw s.coarse_is (places_of s.paired s.counts s.places)

  -- the fine places are places of the fine grid
  pub nodes_in : {ds : List ℕ} → ds ≡ tabulate (node_entry (two_of l fine coarse)) 768 0 → NodesOf gf ds ns
  nodes_in o = rw s.fine_is (nodes_of_lem s.paired s.counts s.places o)

  -- the places can be looked up among the nodes
  pub slots_low : {nn : List ℕ} → nn ≡ tabulate (node_no (two_of l fine coarse)) 195 0
      → ((length nn ≡ 195) × (length ps ≡ 768)) × ((e : ℕ) → e < 768 → get_or ps e 0 < 65)
  slots_low n = ((long_as (node_no (two_of l fine coarse)) 195 n, slots_in.places_long), places_low s.paired s.places)

  -- the columns of one row, from its position
  pub row_columns_lem : (r : ℕ) {p : Position} → r < unknowns_of gf → p ≡ at_of gf r → columns_in gc ps ns p ≡ weight_columns (two_of l fine coarse) r
  row_columns_lem r h e =
      let t : TwoLevels = two_of l fine coarse in
      let b : r < unknowns_of (fine_grid t) = rw s.fine_is at h in
      rw (e, s.fine_is, s.coarse_is, columns_product t r)
      (columns_at_lem t (at_of (fine_grid t) r) s.paired.fine_limits (at_inside s.paired.fine_limits r b) s.counts s.places)

  pub columns_row_lem : (r : ℕ) → r < unknowns_of gf → columns_row gf gc ps ns r ≡ weight_columns (two_of l fine coarse) r
  unfolding columns_row
  columns_row_lem r h = row_columns_lem r h refl

  pub rows_same : rows (columns_row gf gc ps ns) (unknowns_of gf) ≡ rows (weight_columns (two_of l fine coarse)) (unknowns_of (fine_grid (two_of l fine coarse)))
  rows_same =
      rows_agree (columns_row gf gc ps ns) (weight_columns (two_of l fine coarse)) (unknowns_of gf) columns_row_lem
      ∙ ap (λ (g : Grid3d). rows (weight_columns (two_of l fine coarse)) (unknowns_of g)) s.fine_is

  pub starts_same : starts_of (columns_row gf gc ps ns) (unknowns_of gf) ≡ starts_of (weight_columns (two_of l fine coarse)) (unknowns_of (fine_grid (two_of l fine coarse)))
  starts_same =
      starts_agree (columns_row gf gc ps ns) (weight_columns (two_of l fine coarse)) (unknowns_of gf)
      (start_agree (columns_row gf gc ps ns) (weight_columns (two_of l fine coarse)) (unknowns_of gf) columns_row_lem)
      ∙ ap (λ (g : Grid3d). starts_of (weight_columns (two_of l fine coarse)) (unknowns_of g)) s.fine_is

  pub laid_rows : {xs ys : List ℕ} {k last : ℕ} → Laid set xs k (rows (columns_row gf gc ps ns) (unknowns_of gf)) ys last
      → Laid set xs k (rows (weight_columns (two_of l fine coarse)) (unknowns_of (fine_grid (two_of l fine coarse)))) ys (k + (last - k))
  laid_rows {xs} {ys} {k} {last} h =
      let e : last ≡ k + (last - k) = omega (arith, h.next) in
      rw (rows_same, e) at h

-- ---- how many weights there are

module _ {l : FullLattice} {fine coarse : Three} (p : Paired l fine coarse) {ns : List ℕ} (c : ns ≡ tabulate (count_entry (two_of l fine coarse)) 384 0) where
  counted_to_lem : (n : ℕ) → n ≤ unknowns_of (fine_grid (two_of l fine coarse))
      → counted_to (fine_grid (two_of l fine coarse)) ns n ≡ start_of (weight_columns (two_of l fine coarse)) n
  unfolding counted_to
  counted_to_lem zero h = sym (start_zero (weight_columns (two_of l fine coarse)))
  counted_to_lem (suc n) h =
      let t : TwoLevels = two_of l fine coarse in
      let before : counted_to (fine_grid t) ns n ≡ start_of (weight_columns t) n = counted_to_lem n (omega arith) in
      let here : count_in ns (at_of (fine_grid t) n) ≡ length (weight_columns t n) =
      count_at_lem t (at_of (fine_grid t) n) p.fine_limits (at_inside p.fine_limits n h) c ∙ sym (count_product t n) in
      rw (before, here, start_suc)

-- the count is where the rows end
pub counted : {l : FullLattice} {fine coarse : Three} {gf gc : Grid3d} {fs cs ns : List ℕ} → Worked l fine coarse gf gc fs cs
    → ns ≡ tabulate (count_from l gf gc fs cs) 384 0
    → counted_to gf ns (unknowns_of gf) ≡ start_of (weight_columns (two_of l fine coarse)) (unknowns_of (fine_grid (two_of l fine coarse)))
counted {l} {fine} {coarse} w n =
    rw (at_fine w) (counted_to_lem w.paired (counts_are w n) (unknowns_of (fine_grid (two_of l fine coarse))) (omega arith))

pub counts_few : {l : FullLattice} {fine coarse : Three} {gf gc : Grid3d} {fs cs ns : List ℕ} → Worked l fine coarse gf gc fs cs
    → ns ≡ tabulate (count_from l gf gc fs cs) 384 0 → CountsOf ns
counts_few {l} {fine} {coarse} w n = counts_of (two_of l fine coarse) (counts_are w n)

module _ (t : TwoLevels) (f g : ℕ → C64) where
  -- as many weights as columns
  pub weights_long : (n : ℕ) → length (rows (weight_numbers t f g) n) ≡ start_of (weight_columns t) n
  weights_long n =
      sym (start_of_is (weight_numbers t f g) n) ∙ start_long (weight_numbers t f g) (weight_columns t) n (λ r h. numbers_count t f g r)

-- ---- the weights

-- numbers that have been laid can be read back
pub read_room : {ys zs : List Float} {vs : List C64} {k last n : ℕ} → Laid set_number ys k vs zs last → length vs ≡ n → n ≤ 98304 → k ≤ 2 ^ 32 → 2 * (k + n) ≤ length ys
    → (k + (last - k) < 2 ^ 40) × (2 * (k + (last - k)) ≤ length zs)
read_room h e b c d = (omega (arith, h.next), omega (arith, h.next, laid_numbers_same h))

pub read_same : {ys zs : List Float} {vs : List C64} {k last n : ℕ} → Laid set_number ys k vs zs last → length vs ≡ n → 2 * (k + n) ≤ length ys
    → all_finite (tabulate (number_at zs) (last - k) k) ≡ all_finite vs
read_same {ys} {zs} {vs} {k} {last} {n} h e d =
    let m : last - k ≡ length vs = omega (arith, h.next) in
    rw (h.list, m, read_back ys k vs (omega arith))

module _ {l : FullLattice} {fine coarse : Three} {gf gc : Grid3d} {ps ns ds : List ℕ} {xs : List Float} (s : Pulled l fine coarse gf gc ps ns ds xs) where
  -- what the numbers of a row ask
  pub span_of : {feps ceps : ℕ} {eps : List Float} → RoomFor (two_of l fine coarse) feps ceps eps
      → SpanOf (record { fine = gf; coarse = gc; feps = feps; ceps = ceps }) ps ds ns xs eps
  span_of {feps} {ceps} {eps} r =
      let z : Slotted l fine coarse gf gc ps ns = s.slots in
      record {
        fine_in = rw z.fine_is z.paired.fine_limits;
        coarse_in = rw z.coarse_is z.paired.coarse_limits;
        places = slots_in z;
        nodes = nodes_in z s.nodes;
        pulls_long = s.pulls.long;
        room = record {
          fine_room = rw z.fine_is r.fine_room;
          coarse_room = rw z.coarse_is r.coarse_room;
          fine_low = r.fine_low;
          coarse_low = r.coarse_low;
        };
      }

  module _ (f g : ℕ → C64) where
    -- the numbers of one row, from its position
    pub row_numbers : (r : ℕ) {p : Position} → r < unknowns_of gf → p ≡ at_of gf r → numbers_in gf gc f g ps ds ns xs p ≡ weight_numbers (two_of l fine coarse) f g r
    unfolding weight_numbers
    row_numbers r h e =
        let t : TwoLevels = two_of l fine coarse in
        let z : Slotted l fine coarse gf gc ps ns = s.slots in
        let b : r < unknowns_of (fine_grid t) = rw z.fine_is at h in
        rw (e, z.fine_is, z.coarse_is, terms_product t f g r)
        (numbers_at t z.counts z.places s.nodes s.pulls (at_of (fine_grid t) r) z.paired.fine_limits (at_inside z.paired.fine_limits r b) f g)

    pub numbers_row_lem : (r : ℕ) → r < unknowns_of gf → numbers_row gf gc f g ps ds ns xs r ≡ weight_numbers (two_of l fine coarse) f g r
    unfolding numbers_row
    numbers_row_lem r h = row_numbers r h refl

    numbers_same : rows (numbers_row gf gc f g ps ds ns xs) (unknowns_of gf) ≡ rows (weight_numbers (two_of l fine coarse) f g) (unknowns_of (fine_grid (two_of l fine coarse)))
    numbers_same =
        rows_agree (numbers_row gf gc f g ps ds ns xs) (weight_numbers (two_of l fine coarse) f g) (unknowns_of gf) numbers_row_lem
        ∙ ap (λ (h : Grid3d). rows (weight_numbers (two_of l fine coarse) f g) (unknowns_of h)) s.slots.fine_is

    laid_weights : {ys zs : List Float} {k last : ℕ} → Laid set_number ys k (rows (numbers_row gf gc f g ps ds ns xs) (unknowns_of gf)) zs last
        → Laid set_number ys k (rows (weight_numbers (two_of l fine coarse) f g) (unknowns_of (fine_grid (two_of l fine coarse)))) zs last
    laid_weights h = rw numbers_same at h

    -- so what has been laid are the weights, they can be read, and the test is of them
    pub weights_laid : {ys zs : List Float} {k last : ℕ} → Laid set_number ys k (rows (numbers_row gf gc f g ps ds ns xs) (unknowns_of gf)) zs last
        → zs ≡ laid_numbers ys k (rows (weight_numbers (two_of l fine coarse) f g) (unknowns_of (fine_grid (two_of l fine coarse))))
    weights_laid h = (laid_weights h).list

    pub weights_room : {ys zs : List Float} {k last : ℕ} → Laid set_number ys k (rows (numbers_row gf gc f g ps ds ns xs) (unknowns_of gf)) zs last → k ≤ 2 ^ 32
        → 2 * (k + start_of (weight_columns (two_of l fine coarse)) (unknowns_of (fine_grid (two_of l fine coarse)))) ≤ length ys
        → (k + (last - k) < 2 ^ 40) × (2 * (k + (last - k)) ≤ length zs)
    weights_room h b c =
        let t : TwoLevels = two_of l fine coarse in
        let n : ℕ = unknowns_of (fine_grid t) in
        let few : start_of (weight_columns t) n ≤ 98304 = omega (arith, starts_few t n, unknowns_most s.slots.paired.fine_limits) in
        read_room (laid_weights h) (weights_long t f g n) few b c

    pub weights_finite : {ys zs : List Float} {k last : ℕ} → Laid set_number ys k (rows (numbers_row gf gc f g ps ds ns xs) (unknowns_of gf)) zs last
        → 2 * (k + start_of (weight_columns (two_of l fine coarse)) (unknowns_of (fine_grid (two_of l fine coarse)))) ≤ length ys
        → all_finite (tabulate (number_at zs) (last - k) k) ≡ all_finite (rows (weight_numbers (two_of l fine coarse) f g) (unknowns_of (fine_grid (two_of l fine coarse))))
    weights_finite h c = read_same (laid_weights h) (weights_long (two_of l fine coarse) f g (unknowns_of (fine_grid (two_of l fine coarse)))) c

-- ---- one row between levels L and L + 1 of a lattice

module _ (l : FullLattice) (L : ℕ) (limits : Limits l.grid) {ps ns ds : List ℕ} {xs : List Float} (n : ns ≡ tabulate (count_entry (two_at l L)) 384 0)
    (s : ps ≡ tabulate (place_entry (two_at l L)) 768 0) (o : ds ≡ tabulate (node_entry (two_at l L)) 768 0) (w : Numbers (pull_entry (two_at l L)) 768 xs) where
  level_pulled : Pulled l (three_at l L) (three_at l (suc L)) (fine_grid (two_at l L)) (coarse_grid (two_at l L)) ps ns ds xs
  level_pulled =
      let e : two_of l (three_at l L) (three_at l (suc L)) ≡ two_at l L = two_at_lem l limits L in
      record {
        slots = record { paired = paired_at l L limits; fine_is = rw e; coarse_is = rw e; counts = rw e n; places = rw e s };
        nodes = rw e o;
        pulls = rw e w;
      }

  -- it is the row of the prolongation, whatever reads the permittivities
  pub level_row : (f g : ℕ → C64) (r : ℕ) → r < unknowns_of (fine_grid (two_at l L))
      → numbers_in (fine_grid (two_at l L)) (coarse_grid (two_at l L)) f g ps ds ns xs (at_of (fine_grid (two_at l L)) r) ≡ numbers_of (prolongation_row (two_at l L) f g r)
  level_row f g r h = rw (two_at_lem l limits L, weight_numbers_is) at (row_numbers level_pulled f g r h refl)
