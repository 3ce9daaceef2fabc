-- Laws of the slots: what is worked out from the values' places, the nodes, the maps and the last ends of two levels is what the slots of the
-- two levels hold.
-- Assumes nothing.
use Prim.Native.Nat.{ℕ, ◌+◌, ◌-◌, ◌*◌, ◌/◌, ◌%◌, ◌<◌, ◌≤◌}
use native.Mathlib.Nat.{not-suc-le-zero}
use native.Mathlib.Decide.{dec_lt}
use native.Mathlib.Omega.{arith}
use mathlib.Core.Path.{◌≡◌, refl, sym, ap, ◌∙◌}
use mathlib.Core.Bool.{Bool, true, false, cond, ◌&&◌}
use mathlib.Core.List.{List, []}
use borrow.Author.Tests.{ltb-true, lt-ltb}
use lib.Dec.{eqb, ltb}
use lib.ListN.{length, get_or, get_or-eq_default}
use lib.Ieee.{Float}
use Rattle.numbers.specs.Complex.{zero_number, no_number}
use Rattle.lattice.specs.declared.grid.Grid3d.{Grid3d}
use Rattle.lattice.specs.declared.levels.Three.{Three}
use Rattle.lattice.specs.declared.line.Line.{Line}
use Rattle.lattice.specs.Grid.{n_of, Limits}
use Rattle.lattice.specs.Line.{ends_of, place_of, Held}
use Rattle.lattice.specs.Lattice.{FullLattice, edges_of}
use Rattle.numbers.specs.Lists.{tabulate, Numbers, entry_at, places_in}
use Rattle.numbers.specs.Terms.{Term, numbers_of}
use Rattle.lattice.specs.Stretched.{across_map, along_map}
use Rattle.lattice.proofs.GridLaws.{axis_each, n_some, n_most}
use Rattle.lattice.proofs.LineLaws.{length_ends, ends_at}
use Rattle.numbers.proofs.TabulateLaws.{length_tabulate, tabulate_at, is_tabulate, tabulate_agree}
use Rattle.weights.specs.TwoLevels.{TwoLevels, fine_line, coarse_line, fine_cells, coarse_cells, fine_grid, coarse_grid, two_of}
use Rattle.weights.specs.Interpolate.{value_at, value_places, taken_places, interpolated}
use Rattle.weights.specs.Prolongation.{axis_places, axis_terms}
use Rattle.weights.specs.Product.{walled, kept_places, kept_terms, free_places, free_terms}
pub use Rattle.weights.specs.Tables.{Worked}
use Rattle.weights.specs.Tables.{slot_axis, slot_along, slot_place, slot_places, slot_terms, count_entry, place_entry, node_entry, pull_entry, value_entry, lines_in, node_no, map_no, map_point, map_in, HeldThree, Paired, slot_wall, slot_block, slot_taken, slot_pulled, count_from, place_from, node_from, pull_from, end_no, ValuesOf, EndsOf}
use Rattle.numbers.proofs.ListLaws.{long_as, read_at_lem}
use Rattle.weights.proofs.ProductLaws.{free_most, free_inside}
use Rattle.lattice.proofs.NestLaws.{map_long, place_below}
use Rattle.weights.proofs.TableLaws.{map_no_lem}
use Rattle.weights.proofs.TwoLevelLaws.{fine_grid_lem, coarse_grid_lem, fine_n, coarse_n, node_at}

-- ---- the lines' ends

-- the ends of a line that is held are low, and there are two at least
line_low : {l : Line} → Held l → (m : ℕ) → m < length (ends_of l) → get_or (ends_of l) m 0 < 129
line_low {l} h m b =
    let k : m ≤ l.cells = omega (arith, length_ends l h) in
    rw (ends_at l m k) (h.low m k)

line_some : {l : Line} → Held l → 2 ≤ length (ends_of l)
line_some {l} h = omega (arith, length_ends l h, h.some)

pub ends_low : {s : Three} → HeldThree s → (a m : ℕ) → m < length (lines_in s a) → get_or (lines_in s a) m 0 < 129
unfolding lines_in
ends_low h a = axis_each (λ (es : List ℕ). (m : ℕ) → m < length es → get_or es m 0 < 129) a (line_low h.x_held) (line_low h.y_held) (line_low h.z_held)

pub ends_some : {s : Three} → HeldThree s → (a : ℕ) → 2 ≤ length (lines_in s a)
unfolding lines_in
ends_some h a = axis_each (λ (es : List ℕ). 2 ≤ length es) a (line_some h.x_held) (line_some h.y_held) (line_some h.z_held)

-- what a test lets through need agree only where it holds
cond_agree : {A : Type 0} (b : Bool) (x y z : A) → (b ≡ true → x ≡ y) → cond b x z ≡ cond b y z
cond_agree true x y z h = h refl
cond_agree false x y z h = refl

-- ---- the values of a block

-- the slots of an axis and a role stand one behind another
module _ (q i : ℕ) (h : i < 64) where
  block_axis : slot_axis (q - slot_place q + i) ≡ slot_axis q
  unfolding slot_axis slot_place
  block_axis = omega arith

  block_along : slot_along (q - slot_place q + i) ≡ slot_along q
  unfolding slot_along slot_place
  block_along = let e : (q - q % 64 + i) / 64 ≡ q / 64 = omega arith in rw e

  block_place : slot_place (q - slot_place q + i) ≡ i
  unfolding slot_place
  block_place = omega arith

  pub block_below : q < 384 → q - slot_place q + i < 384
  unfolding slot_place
  block_below b = omega arith

-- where a line has the value
value_is : (line : ℕ → List ℕ) (q : ℕ) → slot_place q < length (line (slot_axis q)) - 1 → value_entry line q ≡ place_of (line (slot_axis q)) (slot_place q) (slot_along q)
unfolding value_entry
value_is line q h = rw (lt-ltb (slot_place q) (length (line (slot_axis q)) - 1) h)

block_value : (line : ℕ → List ℕ) (q i : ℕ) → i < 64 → i < length (line (slot_axis q)) - 1
    → value_entry line (q - slot_place q + i) ≡ place_of (line (slot_axis q)) i (slot_along q)
unfolding value_entry
block_value line q i h b =
    rw (block_axis q i h, block_along q i h, block_place q i h, lt-ltb i (length (line (slot_axis q)) - 1) b)

-- a value lies below 129
value_low : {s : Three} → HeldThree s → (q : ℕ) → value_entry (lines_in s) q < 129
unfolding value_entry
value_low {s} h q = go (ltb (slot_place q) (length (lines_in s (slot_axis q)) - 1)) refl
  where
    go : (b : Bool) → ltb (slot_place q) (length (lines_in s (slot_axis q)) - 1) ≡ b → cond b (place_of (lines_in s (slot_axis q)) (slot_place q) (slot_along q)) 0 < 129
    go false e = omega arith
    go true e =
        let k : slot_place q < length (lines_in s (slot_axis q)) - 1 = ltb-true _ _ e in
        place_below (lines_in s (slot_axis q)) (slot_place q) 129 (slot_along q)
        (ends_low h (slot_axis q) (slot_place q) (omega arith))
        (ends_low h (slot_axis q) (slot_place q + 1) (omega arith))

end_low : {s : Three} → HeldThree s → (a : ℕ) → end_no (lines_in s) a < 129
unfolding end_no
end_low {s} h a = ends_low h a (length (lines_in s a) - 1) (omega (arith, ends_some h a))

-- so the lists are as the slots ask
pub values_of : {fine coarse : Three} {fs cs : List ℕ} → HeldThree fine → HeldThree coarse → fs ≡ tabulate (value_entry (lines_in fine)) 384 0
    → cs ≡ tabulate (value_entry (lines_in coarse)) 384 0 → ValuesOf fs cs
values_of {fine} {coarse} g h f c =
    record {
      fine_long = long_as (value_entry (lines_in fine)) 384 f;
      coarse_long = long_as (value_entry (lines_in coarse)) 384 c;
      fine_low = λ q b. rw (read_at_lem (value_entry (lines_in fine)) 384 f q 0 b) (value_low g q);
      low = λ q b. rw (read_at_lem (value_entry (lines_in coarse)) 384 c q 0 b) (value_low h q);
    }

pub ends_of_lem : {coarse : Three} {es : List ℕ} → HeldThree coarse → es ≡ tabulate (end_no (lines_in coarse)) 3 0 → EndsOf es
ends_of_lem {coarse} h e =
    record {
      ends_long = long_as (end_no (lines_in coarse)) 3 e;
      end_low = λ a b. rw (read_at_lem (end_no (lines_in coarse)) 3 e a 0 b) (end_low h a);
    }

-- ---- what the lists of a transfer are worked out from

module _ {l : FullLattice} {fine coarse : Three} {gf gc : Grid3d} {fs cs : List ℕ} (w : Worked l fine coarse gf gc fs cs) where
  pub at_fine : gf ≡ fine_grid (two_of l fine coarse)
  at_fine = w.fine_is ∙ fine_grid_lem l fine coarse w.paired.fine_held

  pub at_coarse : gc ≡ coarse_grid (two_of l fine coarse)
  at_coarse = w.coarse_is ∙ coarse_grid_lem l fine coarse w.paired.coarse_held

  pub fine_in : Limits gf
  fine_in = rw at_fine w.paired.fine_limits

  pub coarse_in : Limits gc
  coarse_in = rw at_coarse w.paired.coarse_limits

  pub values_are : ValuesOf fs cs
  values_are = values_of w.paired.fine_held w.paired.coarse_held w.values_fine w.values_coarse

-- the cells of two levels
module _ {l : FullLattice} {fine coarse : Three} (p : Paired l fine coarse) (a : ℕ) where
  pub coarse_most : coarse_cells (two_of l fine coarse) a ≤ 64
  coarse_most = rw coarse_n at (n_most p.coarse_limits a)

  pub coarse_some : 1 ≤ coarse_cells (two_of l fine coarse) a
  coarse_some = rw coarse_n at (n_some p.coarse_limits a)

-- ---- the entries of two levels

-- a slot takes two places at most
pub slot_most : (t : TwoLevels) (q : ℕ) → length (slot_places t q) ≤ 2
unfolding slot_places
slot_most t q = go (ltb (slot_place q) (fine_cells t (slot_axis q)))
  where
    go : (b : Bool) → length (cond b (free_places t (slot_axis q) (slot_along q) (slot_place q)) []) ≤ 2
    go true = free_most t (slot_axis q) (slot_along q) (slot_place q)
    go false = omega arith

-- what a slot takes are places of the coarse line
pub slot_inside : (t : TwoLevels) (q : ℕ) → 1 ≤ coarse_cells t (slot_axis q) → (d : ℕ) → d < length (slot_places t q)
    → get_or (slot_places t q) d 0 < coarse_cells t (slot_axis q)
unfolding slot_places
slot_inside t q h = go (ltb (slot_place q) (fine_cells t (slot_axis q)))
  where
    go : (b : Bool) (d : ℕ) → d < length (cond b (free_places t (slot_axis q) (slot_along q) (slot_place q)) [])
        → get_or (cond b (free_places t (slot_axis q) (slot_along q) (slot_place q)) []) d 0 < coarse_cells t (slot_axis q)
    go true d b = free_inside t (slot_axis q) (slot_along q) (slot_place q) h d b
    go false d b = absurd (not-suc-le-zero b)

pub axis_below : (q : ℕ) → q < 384 → slot_axis q < 3
unfolding slot_axis
axis_below q h = omega arith

module _ {l : FullLattice} {fine coarse : Three} (p : Paired l fine coarse) where
  -- an entry's place is low
  pub entry_low : (e : ℕ) → place_entry (two_of l fine coarse) e < 65
  unfolding place_entry
  entry_low e = go (dec_lt (e % 2) (length (slot_places t (e / 2))))
    where
      t : TwoLevels
      t = two_of l fine coarse

      go : Dec (e % 2 < length (slot_places t (e / 2))) → get_or (slot_places t (e / 2)) (e % 2) 0 < 65
      go (yes h) =
          let b : get_or (slot_places t (e / 2)) (e % 2) 0 < coarse_cells t (slot_axis (e / 2)) = slot_inside t (e / 2) (coarse_some p _) (e % 2) h in
          omega (arith, coarse_most p (slot_axis (e / 2)))
      go (no h) = rw (get_or-eq_default (slot_places t (e / 2)) 0 {n = e % 2} (omega arith)) (omega arith)

  node_is : {nn ps : List ℕ} → nn ≡ tabulate (node_no (two_of l fine coarse)) 195 0 → ps ≡ tabulate (place_entry (two_of l fine coarse)) 768 0
      → (e : ℕ) → e < 768 → node_from nn ps e ≡ node_entry (two_of l fine coarse) e
  unfolding node_from node_entry
  node_is n s e h =
      rw (
        read_at_lem (place_entry (two_of l fine coarse)) 768 s e 0 h,
        node_at (two_of l fine coarse) n (slot_axis (e / 2)) (place_entry (two_of l fine coarse) e) (axis_below (e / 2) (omega arith)) (entry_low e),
      )

  -- the fine places of the entries
  pub nodes_are : {nn ps ds : List ℕ} → nn ≡ tabulate (node_no (two_of l fine coarse)) 195 0 → ps ≡ tabulate (place_entry (two_of l fine coarse)) 768 0
      → ds ≡ tabulate (node_from nn ps) 768 0 → ds ≡ tabulate (node_entry (two_of l fine coarse)) 768 0
  nodes_are {nn} {ps} n s d = d ∙ tabulate_agree (node_from nn ps) (node_entry (two_of l fine coarse)) 768 0 (node_is n s)

  -- each place can be looked up among the nodes
  pub places_low : {ps : List ℕ} → ps ≡ tabulate (place_entry (two_of l fine coarse)) 768 0 → (e : ℕ) → e < 768 → get_or ps e 0 < 65
  places_low s e h = rw (read_at_lem (place_entry (two_of l fine coarse)) 768 s e 0 h) (entry_low e)

-- ---- the maps

-- the map of a slot's axis and role
map_at_lem : (l : FullLattice) (q p : ℕ) → p < 129
    → map_no l (129 * (q / 64) + p) ≡ get_or (cond (slot_along q) (along_map l (slot_axis q)) (across_map l (slot_axis q))) p no_number
unfolding slot_along slot_axis
map_at_lem l q p h = let k : q / 64 / 2 ≡ q / 128 = omega arith in rw k at (map_no_lem l (q / 64) p h)

pub map_is : (l : FullLattice) {xs : List Float} → Numbers (map_no l) 774 xs → (q : ℕ) → q < 384
    → map_in xs (q / 64) ≡ cond (slot_along q) (along_map l (slot_axis q)) (across_map l (slot_axis q))
unfolding map_in map_point
map_is l {xs} m q h =
    sym
    (is_tabulate (map_point xs (q / 64)) 129 no_number
    (cond (slot_along q) (along_map l (slot_axis q)) (across_map l (slot_axis q)))
    (map_long l (slot_axis q) (slot_along q))
    (λ p b. sym (m.each_is (129 * (q / 64) + p) (omega arith) ∙ map_at_lem l q p b)))

-- ---- what is worked out is what the slots hold

module _ {l : FullLattice} {fine coarse : Three} {gf gc : Grid3d} {fs cs : List ℕ} (w : Worked l fine coarse gf gc fs cs) where
  pub cells_fine : (a : ℕ) → n_of gf a ≡ fine_cells (two_of l fine coarse) a
  cells_fine a = rw (at_fine w) (fine_n (two_of l fine coarse) a)

  pub cells_coarse : (a : ℕ) → n_of gc a ≡ coarse_cells (two_of l fine coarse) a
  cells_coarse a = rw (at_coarse w) (coarse_n (two_of l fine coarse) a)

  -- the values of a slot's axis and role are those of the coarse line
  pub block_is : (q : ℕ) → q < 384 → slot_block gc cs q ≡ value_places (coarse_line (two_of l fine coarse) (slot_axis q)) (slot_along q)
  unfolding slot_block value_places value_at coarse_line coarse_cells two_of lines_in
  block_is q h =
      let n : n_of gc (slot_axis q) ≡ length (lines_in coarse (slot_axis q)) - 1 = cells_coarse (slot_axis q) in
      let m : length (lines_in coarse (slot_axis q)) - 1 ≤ 64 = coarse_most w.paired (slot_axis q) in
      is_tabulate (value_at (lines_in coarse (slot_axis q)) (slot_along q))
      (length (lines_in coarse (slot_axis q)) - 1)
      0
      (places_in cs (q - slot_place q) (n_of gc (slot_axis q)))
      (length_tabulate (entry_at cs) (n_of gc (slot_axis q)) (q - slot_place q) ∙ n)
      (λ i b.
      let c : i < 64 = omega arith in
      tabulate_at (entry_at cs) (n_of gc (slot_axis q)) (q - slot_place q) i 0 (omega arith)
      ∙ read_at_lem (value_entry (lines_in coarse)) 384 w.values_coarse (q - slot_place q + i) 0 (block_below q i c h)
      ∙ block_value (lines_in coarse) q i c b)

  -- the place of a slot's own value
  fine_value : (q : ℕ) → q < 384 → slot_place q < fine_cells (two_of l fine coarse) (slot_axis q)
      → get_or fs q 0 ≡ place_of (fine_line (two_of l fine coarse) (slot_axis q)) (slot_place q) (slot_along q)
  unfolding fine_cells fine_line two_of lines_in
  fine_value q h b = read_at_lem (value_entry (lines_in fine)) 384 w.values_fine q 0 h ∙ value_is (lines_in fine) q b

  taken_free : (q : ℕ) → q < 384 → slot_place q < fine_cells (two_of l fine coarse) (slot_axis q)
      → cond (slot_wall l q && eqb (slot_place q) 0)
      []
      (kept_places (slot_wall l q) (taken_places (edges_of l (slot_axis q)) (slot_block gc cs q) (slot_along q) (get_or fs q 0)))
      ≡ free_places (two_of l fine coarse) (slot_axis q) (slot_along q) (slot_place q)
  unfolding free_places walled axis_places slot_wall two_of
  taken_free q h b = rw (block_is q h, fine_value q h b)

  -- what a slot takes, without weights
  pub slot_taken_lem : (q : ℕ) → q < 384 → slot_taken l gf gc fs cs q ≡ slot_places (two_of l fine coarse) q
  unfolding slot_taken slot_places
  slot_taken_lem q h = rw (cells_fine (slot_axis q)) (cond_agree _ _ _ [] (λ e. taken_free q h (ltb-true _ _ e)))

  pub counts_are : {ns : List ℕ} → ns ≡ tabulate (count_from l gf gc fs cs) 384 0 → ns ≡ tabulate (count_entry (two_of l fine coarse)) 384 0
  unfolding count_from count_entry
  counts_are n =
      n ∙ tabulate_agree (count_from l gf gc fs cs) (count_entry (two_of l fine coarse)) 384 0 (λ q h. ap (λ (ms : List ℕ). length ms) (slot_taken_lem q h))

  pub places_are : {ps : List ℕ} → ps ≡ tabulate (place_from l gf gc fs cs) 768 0 → ps ≡ tabulate (place_entry (two_of l fine coarse)) 768 0
  unfolding place_from place_entry
  places_are n =
      n
      ∙ tabulate_agree (place_from l gf gc fs cs) (place_entry (two_of l fine coarse)) 768 0
      (λ e h. ap (λ (ms : List ℕ). get_or ms (e % 2) 0) (slot_taken_lem (e / 2) (omega arith)))

  module _ {xs : List Float} {es : List ℕ} (m : Numbers (map_no l) 774 xs) (s : es ≡ tabulate (end_no (lines_in coarse)) 3 0) where
    -- the last end of a slot's coarse line
    end_is : (q : ℕ) → q < 384
        → get_or es (slot_axis q) 0 ≡ get_or (coarse_line (two_of l fine coarse) (slot_axis q)) (length (coarse_line (two_of l fine coarse) (slot_axis q)) - 1) 0
    unfolding end_no coarse_line two_of lines_in
    end_is q h = read_at_lem (end_no (lines_in coarse)) 3 s (slot_axis q) 0 (axis_below q h)

    pulled_free : (q : ℕ) → q < 384 → slot_place q < fine_cells (two_of l fine coarse) (slot_axis q)
        → cond (slot_wall l q && eqb (slot_place q) 0)
        []
        (kept_terms (slot_wall l q)
        (interpolated (edges_of l (slot_axis q)) (map_in xs (q / 64)) (slot_block gc cs q) (get_or es (slot_axis q) 0) (slot_along q) (get_or fs q 0)))
        ≡ free_terms (two_of l fine coarse) (slot_axis q) (slot_along q) (slot_place q)
    unfolding free_terms walled axis_terms slot_wall two_of
    pulled_free q h b = rw (block_is q h, fine_value q h b, map_is l m q h, end_is q h)

    -- and with them
    pub slot_pulled_lem : (q : ℕ) → q < 384 → slot_pulled l gf gc fs cs xs es q ≡ slot_terms (two_of l fine coarse) q
    unfolding slot_pulled slot_terms
    slot_pulled_lem q h = rw (cells_fine (slot_axis q)) (cond_agree _ _ _ [] (λ e. pulled_free q h (ltb-true _ _ e)))

    pub pulls_are : {ys : List Float} → Numbers (pull_from l gf gc fs cs xs es) 768 ys → Numbers (pull_entry (two_of l fine coarse)) 768 ys
    unfolding pull_from pull_entry
    pulls_are n =
        record {
          long = n.long;
          each_is = λ e h. n.each_is e h ∙ ap (λ (ts : List Term). get_or (numbers_of ts) (e % 2) zero_number) (slot_pulled_lem (e / 2) (omega arith));
        }
