-- Rows handed back: levels that exist, the walk over the parts before one, and a row's tests. And the theorem: of a store with a lattice's own starts,
-- with that lattice's counts, each row is handed back as its own run of numbers or columns.
-- Assumes nothing.
use Prim.Native.Nat.{ℕ, zero, suc, ◌+◌, ◌-◌, ◌*◌, ◌/◌, ◌<◌, ◌≤◌}
use mathlib.Core.Path.{◌≡◌, refl, sym, ap, ◌∙◌}
use mathlib.Core.Bool.{Bool, true, false, ◌&&◌, cond}
use mathlib.Core.List.{List, [], ◌∷◌, ◌++◌, map}
use native.Mathlib.Omega.{arith}
use native.Mathlib.Numerals.{add-one}
use native.Mathlib.Nat.{mul-le-mul}
use borrow.Author.Tests.{ltb-true, leb-true, leb-false, lt-ltb, le-ltb, le-leb, lt-leb}
use lib.Dec.{leb, ltb}
use lib.Ieee.{Float, nan}
use lib.ListN.{length, get_or, drop, length-drop}
use lib.Seq.{length-take-le, get_or-take, get_or-drop, ext_get_or}
use Rattle.numbers.specs.declared.C64.{C64}
use Rattle.numbers.specs.Complex.{no_number}
use Rattle.numbers.specs.Lists.{rows, laid, laid_numbers, sum_to, start_of, starts_of, Numbers}
use Rattle.numbers.specs.Places.{number_at}
use Rattle.numbers.specs.Terms.{Term, columns_of, numbers_of}
use Rattle.numbers.proofs.Equations.{rows_zero, rows_suc, start_of_is, starts_of_is, number_at_is}
use Rattle.numbers.proofs.ListLaws.{laid_length, laid_at, laid_numbers_length, laid_numbers_at, rows_agree, rows_at, long_as, read_at_lem}
use Rattle.numbers.proofs.LoopLaws.{start_suc, start_long}
use Rattle.numbers.proofs.StoredLaws.{start_room, start_at}
use Rattle.numbers.proofs.EachLaws.{length_columns, length_numbers}
use Rattle.numbers.proofs.Tutorial.{numbers_rows}
use Rattle.numbers.proofs.SumLaws.{sum_to_zero, sum_to_suc, sum_append, sum_agree, sum_most, start_sum}
use Rattle.lattice.specs.Grid.{Limits}
use Rattle.lattice.specs.Lattice.{FullLattice}
use Rattle.lattice.proofs.Equations.{cells_of_is, unknowns_of_is}
use Rattle.operators.specs.LevelLists.{edges_on}
use Rattle.operators.specs.Levels.{grid_at, forward_at, turned_at}
use Rattle.operators.proofs.ColumnsOnly.{forward_columns_are, turned_at_same}
use Rattle.operators.proofs.ForwardPattern.{grid_x, grid_y, grid_z, grid_limits}
use Rattle.store.specs.Layout.{blank, Enough, forward_cols, turned_cols, operator_cols, next_edges, first_stored, forward_off, turned_off, operator_off, starts_off, stored_starts}
use Rattle.store.specs.Setup.{if_stored, forward_starts_of, turned_starts_of, operator_starts_of, operator_cols_of, forward_numbers, turned_numbers, filled}
use Rattle.store.specs.Store.{Store, sizes}
use Rattle.store.specs.declared.Choice.{Choice}
use Rattle.store.specs.declared.handed.Cells.{Cells}
use Rattle.std.specs.Prelude.{Some, None}
use Rattle.std.specs.List.{list_all, range_with_len}
use Rattle.std.proofs.lemmas.List.Folds.{list_all-append, list_all-map}
use Rattle.std.proofs.lemmas.List.FromFn.{map-range_with_len_more}
use Rattle.std.proofs.lemmas.Bool.{and_parts, and_right}
use Rattle.store.specs.Handed.{Span, cells_in, some_cells, level_there, edges_in, levels_there, start_in, terms_off, part_at, row_at, rows_from, transfer_row, weight_terms, first_of, operator_row, numbers_handed, columns_handed, part_of, weight_row_of, operator_row_of, CellsOf}
use Rattle.numbers.proofs.PartLaws.{sum_rise}

-- ---- tests

-- what a test that found a place showed
at_taken : (b : Bool) {s : Span} {i j : ℕ} → cond b s None ≡ Some (i, j) → (b ≡ true) × (s ≡ Some (i, j))
at_taken true e = (refl, e)
at_taken false e = absurd (let z : ◌≡◌ {A = ℕ} 0 1 = cc in omega arith)

-- a place found shows both of its numbers
pair_is : {a b i j : ℕ} → ◌≡◌ {A = Span} (Some (a, b)) (Some (i, j)) → (a ≡ i) × (b ≡ j)
pair_is {a} {b} {i} {j} e =
    let p : ◌≡◌ {A = ℕ × ℕ} (a, b) (i, j) = cc in
    (ap (λ (q : ℕ × ℕ). q.0) p, ap (λ (q : ℕ × ℕ). q.1) p)

-- ---- levels

pub record HeldLevel (c : Cells) (L : ℕ) : Type 0 where
  pub low : L < 12
  pub each_most : (cells_in c L 0 ≤ 64) × (cells_in c L 1 ≤ 64) × (cells_in c L 2 ≤ 64)

module _ (c : Cells) (L : ℕ) where
  pub level_held : level_there c L ≡ true → HeldLevel c L
  unfolding level_there
  level_held e =
      let t = (and_parts (ltb L 12) _ e).1 in
      let u = (and_parts (ltb L c.levels) _ t).1 in
      let v = (and_parts (some_cells (cells_in c L 0)) _ u).1 in
      record {
        low = ltb-true L 12 ((and_parts (ltb L 12) _ e).0);
        each_most = (
          leb-true _ _ ((and_parts (ltb 0 (cells_in c L 0)) _ ((and_parts (some_cells (cells_in c L 0)) _ u).0)).1),
          leb-true _ _ ((and_parts (ltb 0 (cells_in c L 1)) _ ((and_parts (some_cells (cells_in c L 1)) _ v).0)).1),
          leb-true _ _ ((and_parts (ltb 0 (cells_in c L 2)) _ ((and_parts (some_cells (cells_in c L 1)) _ v).1)).1),
        );
      }

  pub level_none : 12 ≤ L → false ≡ level_there c L
  unfolding level_there
  level_none h = rw (le-ltb L 12 h) refl

  pub level_tests : {v : Bool} → L < 12 → L < c.levels
      → v ≡ (some_cells (cells_in c L 0) && (some_cells (cells_in c L 1) && some_cells (cells_in c L 2))) → v ≡ level_there c L
  unfolding level_there
  level_tests h k e = rw (lt-ltb L 12 h, lt-ltb L c.levels k) e

  -- the products fit
  pub cells_fit : {x y z : ℕ} → level_there c L ≡ true → x ≡ cells_in c L 0 → y ≡ cells_in c L 1 → z ≡ cells_in c L 2
      → (x * y ≤ 64 * 64) × (x * y * z ≤ 64 * 64 * 64)
  cells_fit {x} {y} {z} e a b d =
      let u = (level_held e).each_most in
      let h : x ≤ 64 = omega (arith, u.0) in
      let k : y ≤ 64 = omega (arith, u.1) in
      let o : z ≤ 64 = omega (arith, u.2) in
      (mul-le-mul h k, mul-le-mul (mul-le-mul h k) o)

  pub edges_there : {x y z : ℕ} → level_there c L ≡ true → x ≡ cells_in c L 0 → y ≡ cells_in c L 1 → z ≡ cells_in c L 2 → 3 * (x * y * z) ≡ edges_in c L
  unfolding edges_in
  edges_there e a b d = rw e (λ i. 3 * (a i * b i * d i))

  pub edges_none : level_there c L ≡ false → 0 ≡ edges_in c L
  unfolding edges_in
  edges_none e = rw e refl

pub levels_none : (c : Cells) → levels_there c 0 ≡ true
unfolding levels_there
levels_none c = refl

pub levels_more : (c : Cells) (q : ℕ) → levels_there c q ≡ true → level_there c q ≡ true → levels_there c (q + 1) ≡ true
unfolding levels_there
levels_more c q e d = rw (add-one q, e, d) refl

pub levels_stop : (c : Cells) (q n : ℕ) → q < n → level_there c q ≡ false → false ≡ levels_there c n
unfolding levels_there
levels_stop c q zero h e = absurd (omega arith)
levels_stop c q (suc n) h e = go (leb n q) refl (λ b. levels_stop c q n b e)
  where
    go : (b : Bool) → leb n q ≡ b → (q < n → false ≡ levels_there c n) → false ≡ (levels_there c n && level_there c n)
    go true d s = let f : q ≡ n = omega (arith, leb-true n q d) in sym (and_right (levels_there c n) _ (ap (level_there c) (sym f) ∙ e))
    go false d s = rw (sym (s (omega (arith, leb-false n q d)))) refl

-- each of them asked
all_exist : (c : Cells) (n : ℕ) → list_all (λ b. b) (map (level_there c) (range_with_len 0 n)) ≡ levels_there c n
unfolding levels_there
all_exist c zero = refl
all_exist c (suc n) =
    let e : n + 1 ≡ suc n = omega arith in
    let more : map (level_there c) (range_with_len 0 (suc n)) ≡ map (level_there c) (range_with_len 0 n) ++ level_there c n ∷ [] = rw e at (map-range_with_len_more (level_there c) 0 n n (omega arith)) in
    ap (list_all (λ b. b)) more
    ∙ list_all-append (λ b. b) (map (level_there c) (range_with_len 0 n)) (level_there c n ∷ [])
    ∙ (λ i. all_exist c n i && alone (level_there c n) i)
  where
    alone : (b : Bool) → (b && true) ≡ b
    alone true = refl
    alone false = refl

pub levels_along : (c : Cells) (n : ℕ) → list_all (level_there c) (range_with_len 0 n) ≡ levels_there c n
levels_along c n = sym (list_all-map (λ b. b) (level_there c) (range_with_len 0 n)) ∙ all_exist c n

-- at most 12 levels exist
pub levels_few : (c : Cells) (n : ℕ) → 12 < n → false ≡ levels_there c n
levels_few c n h = levels_stop c 12 n h (sym (level_none c 12 (omega arith)))

-- ---- the parts before a part

module _ (n : ℕ → ℕ) (ss : List ℕ) (room p : ℕ) where
  pub part_found : starts_off n p ≤ length ss → terms_off n ss p ≤ room → Some (starts_off n p, terms_off n ss p) ≡ part_at n ss room p
  unfolding part_at
  part_found h k = rw (le-leb _ _ h, le-leb _ _ k) refl

  pub part_starts : length ss < starts_off n p → None ≡ part_at n ss room p
  unfolding part_at
  part_starts h = rw (lt-leb _ _ h) refl

  pub part_terms : room < terms_off n ss p → None ≡ part_at n ss room p
  unfolding part_at
  part_terms h = rw (and_right (leb (starts_off n p) (length ss)) _ (lt-leb _ _ h)) refl

-- q parts of p are passed: where their starts and their terms end
pub record Passed (n : ℕ → ℕ) (ss : List ℕ) (room p q at terms : ℕ) : Type 0 where
  pub high : q ≤ p
  pub at_is : at ≡ starts_off n q
  pub terms_is : terms ≡ terms_off n ss q
  pub at_fits : at ≤ length ss
  pub terms_fit : terms ≤ room

module _ {n : ℕ → ℕ} {ss : List ℕ} {room p : ℕ} where
  pub passed_start : Passed n ss room p 0 0 0
  unfolding terms_off
  passed_start =
      record { high = omega arith; at_is = sym (sum_to_zero _); terms_is = sym (sum_to_zero _); at_fits = omega arith; terms_fit = omega arith }

  module _ {q at terms k : ℕ} (u : Passed n ss room p q at terms) (h : q < p) (e : k ≡ n q) where
    next_starts : at + (k + 1) ≡ starts_off n (suc q)
    next_starts = omega (arith, u.at_is, sum_to_suc (λ i. n i + 1) q)

    pub passed_starts : length ss - at ≤ k → None ≡ part_at n ss room p
    passed_starts b = part_starts n ss room p (omega (arith, next_starts, u.at_fits, sum_rise (λ i. n i + 1) (suc q) p h))

    module _ {v : ℕ} (d : v ≡ get_or ss (at + k) 0) where
      next_terms : terms + v ≡ terms_off n ss (suc q)
      unfolding terms_off
      next_terms =
          let f : v ≡ start_in n ss q (n q) = d ∙ (λ i. get_or ss (u.at_is i + e i) 0) in
          omega (arith, u.terms_is, sum_to_suc (λ i. start_in n ss i (n i)) q)

      pub passed_terms : room - terms < v → None ≡ part_at n ss room p
      unfolding terms_off
      passed_terms b = part_terms n ss room p (omega (arith, next_terms, u.terms_fit, sum_rise (λ i. start_in n ss i (n i)) (suc q) p h))

      pub passed_turn : k < length ss - at → v ≤ room - terms → Passed n ss room p (q + 1) (at + (k + 1)) (terms + v)
      passed_turn b o =
          record {
            high = omega arith;
            at_is = rw (add-one q) next_starts;
            terms_is = rw (add-one q) next_terms;
            at_fits = omega (arith, u.at_fits);
            terms_fit = omega (arith, u.terms_fit);
          }

  pub passed_end : {q at terms : ℕ} → Passed n ss room p q at terms → p ≤ q → Some (at, terms) ≡ part_at n ss room p
  passed_end {q} {at} {terms} u h =
      let e : q ≡ p = omega (arith, u.high) in
      let a : at ≡ starts_off n p = rw e at u.at_is in
      let t : terms ≡ terms_off n ss p = rw e at u.terms_is in
      (λ i. Some (a i, t i)) ∙ part_found n ss room p (omega (arith, u.at_fits)) (omega (arith, u.terms_fit))

  pub passed_whole : {at terms : ℕ} → part_at n ss room p ≡ Some (at, terms) → Passed n ss room p p at terms
  unfolding part_at
  passed_whole {at} {terms} e =
      let f = leb (starts_off n p) (length ss) in
      let g = leb (terms_off n ss p) room in
      let w : ((f && g) ≡ true) × ◌≡◌ {A = Span} (Some (starts_off n p, terms_off n ss p)) (Some (at, terms)) = at_taken (f && g) e in
      let a : starts_off n p ≡ at = (pair_is w.1).0 in
      let t : terms_off n ss p ≡ terms = (pair_is w.1).1 in
      record {
        high = omega arith;
        at_is = sym a;
        terms_is = sym t;
        at_fits = omega (arith, leb-true (starts_off n p) (length ss) ((and_parts f g w.0).0));
        terms_fit = omega (arith, leb-true (terms_off n ss p) room ((and_parts f g w.0).1));
      }

-- ---- a row, of a part whose starts and terms begin at known places

module _ (n : ℕ → ℕ) (ss : List ℕ) (room p r : ℕ) where
  pub row_missing : n p ≤ r → None ≡ row_at n ss room p r
  unfolding row_at
  row_missing h = rw (le-ltb _ _ h) refl

  row_short : length ss ≤ starts_off n p + (r + 1) → None ≡ row_at n ss room p r
  unfolding row_at
  row_short h = rw (le-ltb _ _ h, and_right (ltb r (n p)) _ refl) refl

  row_past : room < terms_off n ss p + start_in n ss p (r + 1) → None ≡ row_at n ss room p r
  unfolding row_at
  row_past h =
      rw (
        lt-leb _ _ h,
        and_right (leb (start_in n ss p r) (start_in n ss p (r + 1))) _ refl,
        and_right (ltb (starts_off n p + (r + 1)) (length ss)) _ refl,
        and_right (ltb r (n p)) _ refl,
      )
      refl

  row_falls : start_in n ss p (r + 1) < start_in n ss p r → None ≡ row_at n ss room p r
  unfolding row_at
  row_falls h = rw (lt-leb _ _ h, and_right (ltb (starts_off n p + (r + 1)) (length ss)) _ refl, and_right (ltb r (n p)) _ refl) refl

  pub row_is : r < n p → starts_off n p + (r + 1) < length ss → start_in n ss p r ≤ start_in n ss p (r + 1) → terms_off n ss p + start_in n ss p (r + 1) ≤ room
      → Some (terms_off n ss p + start_in n ss p r, terms_off n ss p + start_in n ss p (r + 1)) ≡ row_at n ss room p r
  unfolding row_at
  row_is h a o b = rw (lt-ltb _ _ h, lt-ltb _ _ a, le-leb _ _ o, le-leb _ _ b) refl

  pub row_shut : part_at n ss room p ≡ None → None ≡ row_at n ss room p r
  unfolding part_at
  row_shut e = go (leb (starts_off n p) (length ss)) (leb (terms_off n ss p) room) refl refl e
    where
      go : (a b : Bool) → leb (starts_off n p) (length ss) ≡ a → leb (terms_off n ss p) room ≡ b
          → cond {A = Span} (a && b) (Some (starts_off n p, terms_off n ss p)) None ≡ None → None ≡ row_at n ss room p r
      go true true d f e = absurd (let z : ◌≡◌ {A = ℕ} 0 1 = cc in omega arith)
      go true false d f e = row_past (omega (arith, leb-false (terms_off n ss p) room f))
      go false b d f e = row_short (omega (arith, leb-false (starts_off n p) (length ss) d))

  -- what a row that was found shows
  pub row_fits : {i j : ℕ} → row_at n ss room p r ≡ Some (i, j) → (i ≤ j) × (j ≤ room)
  unfolding row_at
  row_fits {i} {j} e =
      let x = start_in n ss p r in
      let y = start_in n ss p (r + 1) in
      let t = terms_off n ss p in
      let f = ltb r (n p) in
      let g = ltb (starts_off n p + (r + 1)) (length ss) in
      let o = leb x y && leb (t + y) room in
      let w : ((f && (g && o)) ≡ true) × ◌≡◌ {A = Span} (Some (t + x, t + y)) (Some (i, j)) = at_taken (f && (g && o)) e in
      let v : o ≡ true = (and_parts g o ((and_parts f (g && o) w.0).1)).1 in
      let a : t + x ≡ i = (pair_is w.1).0 in
      let b : t + y ≡ j = (pair_is w.1).1 in
      (omega (arith, leb-true x y ((and_parts (leb x y) (leb (t + y) room) v).0)), omega (arith, leb-true (t + y) room ((and_parts (leb x y) (leb (t + y) room) v).1)))

  module _ {at terms : ℕ} (u : Passed n ss room p p at terms) where
    pub row_starts : length ss - at ≤ r + 1 → None ≡ row_at n ss room p r
    row_starts h = row_short (omega (arith, u.at_is, u.at_fits))

    pub row_unsorted : get_or ss (at + (r + 1)) 0 < get_or ss (at + r) 0 → None ≡ row_at n ss room p r
    row_unsorted h = row_falls (rw u.at_is at h)

    pub row_room : room - terms < get_or ss (at + (r + 1)) 0 → None ≡ row_at n ss room p r
    row_room h = row_past (omega (arith, u.terms_is, u.terms_fit, rw u.at_is at h))

    pub row_found : r < n p → r + 1 < length ss - at → get_or ss (at + r) 0 ≤ get_or ss (at + (r + 1)) 0 → get_or ss (at + (r + 1)) 0 ≤ room - terms
        → Some (terms + get_or ss (at + r) 0, terms + get_or ss (at + (r + 1)) 0) ≡ row_at n ss room p r
    row_found h k o b =
        (λ i. Some (u.terms_is i + get_or ss (u.at_is i + r) 0, u.terms_is i + get_or ss (u.at_is i + (r + 1)) 0))
        ∙ row_is h (omega (arith, u.at_is, u.at_fits)) (rw u.at_is at o) (omega (arith, u.terms_is, u.terms_fit, rw u.at_is at b))

-- ---- a transfer's row, an operator's row

module _ (c : Cells) (first : ℕ) (ss : List ℕ) (room L r : ℕ) where
  pub transfer_none : levels_there c (L + 2) ≡ false → None ≡ transfer_row c first ss room L r
  unfolding transfer_row
  transfer_none e = rw e refl

  pub transfer_past : 11 ≤ L → None ≡ transfer_row c first ss room L r
  transfer_past h = transfer_none (sym (levels_few c (L + 2) (omega arith)))

  pub transfer_there : levels_there c (L + 2) ≡ true → row_at (rows_from c first) ss room L r ≡ transfer_row c first ss room L r
  unfolding transfer_row
  transfer_there e = rw e refl

  pub transfer_fits : {i j : ℕ} → transfer_row c first ss room L r ≡ Some (i, j) → (i ≤ j) × (j ≤ room)
  unfolding transfer_row
  transfer_fits e = row_fits (rows_from c first) ss room L r (at_taken (levels_there c (L + 2)) e).1

module _ (c : Cells) (ss : List ℕ) (room L r : ℕ) where
  operator_none : (leb (first_of c) L && levels_there c (L + 1)) ≡ false → None ≡ operator_row c ss room L r
  unfolding operator_row
  operator_none e = rw e refl

  pub operator_first : L < first_of c → None ≡ operator_row c ss room L r
  operator_first h = operator_none (rw (lt-leb _ _ h) refl)

  pub operator_missing : levels_there c (L + 1) ≡ false → None ≡ operator_row c ss room L r
  operator_missing e = operator_none (and_right (leb (first_of c) L) _ e)

  pub operator_past : 12 ≤ L → None ≡ operator_row c ss room L r
  operator_past h = operator_missing (sym (levels_few c (L + 1) (omega arith)))

  pub operator_there : {k : ℕ} → k ≡ first_of c → k ≤ L → levels_there c (L + 1) ≡ true → row_at (rows_from c k) ss room (L - k) r ≡ operator_row c ss room L r
  unfolding operator_row
  operator_there {k} e h t = (λ i. row_at (rows_from c (e i)) ss room (L - e i) r) ∙ rw (le-leb (first_of c) L (omega (arith, e)), t) refl

  pub operator_fits : {i j : ℕ} → operator_row c ss room L r ≡ Some (i, j) → (i ≤ j) × (j ≤ room)
  unfolding operator_row
  operator_fits e = row_fits (rows_from c (first_of c)) ss room (L - first_of c) r (at_taken (leb (first_of c) L && levels_there c (L + 1)) e).1

-- ---- what is handed back

module _ (c : Cells) (b : Bool) (ss : List ℕ) (room : ℕ) (ts : List ℕ) (troom L r : ℕ) where
  pub terms_turned : b ≡ true → transfer_row c 1 ts troom L r ≡ weight_terms c b ss room ts troom L r
  unfolding weight_terms
  terms_turned e = rw e refl

  pub terms_forward : b ≡ false → transfer_row c 0 ss room L r ≡ weight_terms c b ss room ts troom L r
  unfolding weight_terms
  terms_forward e = rw e refl

  -- a row that is found fits the list that it is of
  pub turned_fits : {i j : ℕ} → b ≡ true → weight_terms c b ss room ts troom L r ≡ Some (i, j) → (i ≤ j) × (j ≤ troom)
  turned_fits e d = transfer_fits c 1 ts troom L r (terms_turned e ∙ d)

  pub forward_fits : {i j : ℕ} → b ≡ false → weight_terms c b ss room ts troom L r ≡ Some (i, j) → (i ≤ j) × (j ≤ room)
  forward_fits e d = transfer_fits c 0 ss room L r (terms_forward e ∙ d)

module _ (c : Cells) (b : Bool) (ss : List ℕ) (xs : List Float) (ts : List ℕ) (ys : List Float) (L r : ℕ) {s : Span} where
  pub weight_handed : weight_terms c b ss (length xs / 2) ts (length ys / 2) L r ≡ s → numbers_handed xs (cond b ys xs) s ≡ weight_row_of c b ss xs ts ys L r
  unfolding weight_row_of
  weight_handed d = rw d refl

  pub turned_handed : b ≡ true → weight_terms c b ss (length xs / 2) ts (length ys / 2) L r ≡ s → numbers_handed xs ys s ≡ weight_row_of c b ss xs ts ys L r
  turned_handed e d = ap (λ (a : Bool). numbers_handed xs (cond a ys xs) s) (sym e) ∙ weight_handed d

  pub forward_handed : b ≡ false → weight_terms c b ss (length xs / 2) ts (length ys / 2) L r ≡ s → numbers_handed xs xs s ≡ weight_row_of c b ss xs ts ys L r
  forward_handed e d = ap (λ (a : Bool). numbers_handed xs (cond a ys xs) s) (sym e) ∙ weight_handed d

pub operator_handed : (c : Cells) (ss cs : List ℕ) (L r : ℕ) {s : Span} → operator_row c ss (length cs) L r ≡ s → columns_handed cs s ≡ operator_row_of c ss cs L r
unfolding operator_row_of
operator_handed c ss cs L r d = rw d refl

-- ---- a store's own starts

-- only the counts up to the part matter
module _ (n k : ℕ → ℕ) (ss : List ℕ) (room p r : ℕ) (same : (q : ℕ) → q ≤ p → n q ≡ k q) where
  starts_same : (q : ℕ) → q ≤ p → starts_off n q ≡ starts_off k q
  starts_same q h = sum_agree (λ i. n i + 1) (λ i. k i + 1) q (λ i b. ap (λ (x : ℕ). x + 1) (same i (omega arith)))

  terms_same : terms_off n ss p ≡ terms_off k ss p
  unfolding terms_off
  terms_same =
      sum_agree (λ q. start_in n ss q (n q)) (λ q. start_in k ss q (k q)) p
      (λ q b. (λ i. get_or ss (starts_same q (omega arith) i + same q (omega arith) i) 0))

  row_same : row_at n ss room p r ≡ row_at k ss room p r
  unfolding row_at
  row_same = rw (same p (omega arith), starts_same p (omega arith), terms_same) refl

-- part q has the rows `col q`, n q of them: the starts of m parts laid over a list, and the terms of those before part p
abbrev starts_laid : (ℕ → ℕ → List ℕ) → (ℕ → ℕ) → ℕ → List ℕ → List ℕ
starts_laid col n m ss = laid ss 0 (rows (λ q. starts_of (col q) (n q)) m)

abbrev terms_before : (ℕ → ℕ → List ℕ) → (ℕ → ℕ) → ℕ → ℕ
terms_before col n p = sum_to (λ q. start_of (col q) (n q)) p

module _ (col : ℕ → ℕ → List ℕ) (n : ℕ → ℕ) where
  starts_long : (q : ℕ) → length (starts_of (col q) (n q)) ≡ n q + 1
  starts_long q = long_as (start_of (col q)) (n q + 1) (starts_of_is (col q) (n q))

  parts_long : (p : ℕ) → length (rows (λ q. starts_of (col q) (n q)) p) ≡ starts_off n p
  parts_long p =
      sym (start_of_is (λ q. starts_of (col q) (n q)) p)
      ∙ start_sum (λ q. starts_of (col q) (n q)) p
      ∙ sum_agree (λ q. length (starts_of (col q) (n q))) (λ q. n q + 1) p (λ q b. starts_long q)

  module _ (m : ℕ) (ss : List ℕ) (fits : starts_off n m ≤ length ss) where
    start_laid : (q r : ℕ) → q < m → r ≤ n q → start_in n (starts_laid col n m ss) q r ≡ start_of (col q) r
    start_laid q r h b =
        let part : ℕ → List ℕ = λ q. starts_of (col q) (n q) in
        let j = starts_off n q + r in
        let z : j ≡ 0 + j = omega arith in
        let o : starts_off n q + (n q + 1) ≤ starts_off n m = omega (arith, sum_rise (λ i. n i + 1) (suc q) m h, sum_to_suc (λ i. n i + 1) q) in
        ap (λ (i : ℕ). get_or (starts_laid col n m ss) i 0) z
        ∙ laid_at ss 0 (rows part m) j (omega (arith, parts_long m)) (omega (arith, parts_long m))
        ∙ ap (λ (i : ℕ). get_or (rows part m) (i + r) 0) (sym (parts_long q))
        ∙ rows_at part m q r 0 h (omega (arith, starts_long q))
        ∙ read_at_lem (start_of (col q)) (n q + 1) (starts_of_is (col q) (n q)) r 0 (omega arith)

    terms_laid : (p : ℕ) → p ≤ m → terms_off n (starts_laid col n m ss) p ≡ terms_before col n p
    unfolding terms_off
    terms_laid p h =
        sum_agree (λ q. start_in n (starts_laid col n m ss) q (n q)) (λ q. start_of (col q) (n q)) p (λ q b. start_laid q (n q) (omega arith) (omega arith))

    -- a row of a part is found where it was laid
    row_laid_lem : (room p r : ℕ) → terms_before col n m ≤ room → p < m → r < n p
        → row_at n (starts_laid col n m ss) room p r ≡ Some (terms_before col n p + start_of (col p) r, terms_before col n p + start_of (col p) (suc r))
    row_laid_lem room p r h o b =
        let ls = starts_laid col n m ss in
        let u : start_in n ls p r ≡ start_of (col p) r = start_laid p r o (omega arith) in
        let v : start_in n ls p (r + 1) ≡ start_of (col p) (suc r) = start_laid p (r + 1) o (omega arith) ∙ ap (start_of (col p)) (add-one r) in
        let t : terms_off n ls p ≡ terms_before col n p = terms_laid p (omega arith) in
        let k = start_suc (col p) r in
        let long : length ls ≡ length ss = laid_length ss 0 (rows (λ q. starts_of (col q) (n q)) m) in
        let i : starts_off n p + (n p + 1) ≤ starts_off n m = omega (arith, sum_rise (λ i. n i + 1) (suc p) m o, sum_to_suc (λ i. n i + 1) p) in
        let j : terms_before col n p + start_of (col p) (n p) ≤ room =
        omega (arith, sum_rise (λ q. start_of (col q) (n q)) (suc p) m o, sum_to_suc (λ q. start_of (col q) (n q)) p)
        in
        sym (row_is n ls room p r b (omega arith) (omega arith) (omega (arith, start_room (col p) (n p) r b)))
        ∙ (λ i. Some (t i + u i, t i + v i))

-- ---- parts from k on: those before are empty

module _ {A : Type 0} (g : ℕ → List A) (k : ℕ) where
  rows_empty : (j : ℕ) → j ≤ k → rows (λ L. cond (ltb L k) [] (g L)) j ≡ []
  rows_empty zero h = rows_zero (λ L. cond (ltb L k) [] (g L))
  rows_empty (suc j) h = rw (rows_suc (λ L. cond (ltb L k) [] (g L)) j, rows_empty j (omega arith), lt-ltb j k h) refl

  rows_shifted : (j : ℕ) → rows (λ L. cond (ltb L k) [] (g L)) (k + j) ≡ rows (λ q. g (q + k)) j
  rows_shifted zero = let e : k + 0 ≡ k = omega arith in rw (e, rows_empty k (omega arith)) (sym (rows_zero (λ q. g (q + k))))
  rows_shifted (suc j) =
      let e : k + suc j ≡ suc (k + j) = omega arith in
      let d : k + j ≡ j + k = omega arith in
      rw (e, rows_suc (λ L. cond (ltb L k) [] (g L)) (k + j), rows_shifted j, le-ltb (k + j) k (omega arith), d, rows_suc (λ q. g (q + k)) j) refl

sum_shifted : (g : ℕ → ℕ) (k : ℕ) (j : ℕ) → sum_to (λ L. cond (ltb L k) 0 (g L)) (k + j) ≡ sum_to (λ q. g (q + k)) j
sum_shifted g k j =
    sum_append (λ L. cond (ltb L k) 0 (g L)) k j
    ∙ (λ i. empty i + sum_agree (λ q. cond (ltb (k + q) k) 0 (g (k + q))) (λ q. g (q + k)) j kept i)
    ∙ omega arith
  where
    empty : sum_to (λ L. cond (ltb L k) 0 (g L)) k ≡ 0
    empty = omega (arith, sum_most (λ L. cond (ltb L k) 0 (g L)) 0 k (λ L h. rw (lt-ltb L k h) (omega arith)))

    kept : (q : ℕ) → q < j → cond (ltb (k + q) k) 0 (g (k + q)) ≡ g (q + k)
    kept q h = let d : k + q ≡ q + k = omega arith in rw (le-ltb (k + q) k (omega arith), d) refl

-- ---- a part of a list, and the values of a store's rows

module _ {A : Type 0} (xs : List A) (i j : ℕ) where
  part_long : i ≤ j → j ≤ length xs → length (part_of xs i j) ≡ j - i
  part_long h k = length-take-le (j - i) (drop i xs) (rw (length-drop i xs) (omega arith))

  part_at_lem : (k : ℕ) (d : A) → k < j - i → get_or (part_of xs i j) k d ≡ get_or xs (i + k) d
  part_at_lem k d h = get_or-take (j - i) (drop i xs) k d h ∙ get_or-drop i xs k d

-- a part of whole numbers, read as numbers
number_part : (xs : List Float) (i j k : ℕ) → i + k < j → number_at (part_of xs (2 * i) (2 * j)) k ≡ number_at xs (i + k)
number_part xs i j k h =
    let part = part_of xs (2 * i) (2 * j) in
    let first : get_or part (2 * k) nan ≡ get_or xs (2 * (i + k)) nan =
    part_at_lem xs (2 * i) (2 * j) (2 * k) nan (omega arith) ∙ ap (λ (p : ℕ). get_or xs p nan) (omega arith)
    in
    let second : get_or part (2 * k + 1) nan ≡ get_or xs (2 * (i + k) + 1) nan =
    part_at_lem xs (2 * i) (2 * j) (2 * k + 1) nan (omega arith) ∙ ap (λ (p : ℕ). get_or xs p nan) (omega arith)
    in
    number_at_is part k ∙ (λ t. record { re = first t; im = second t }) ∙ sym (number_at_is xs (i + k))

-- row r of part p has the values `vals p r`, one for each column
abbrev values_of : {A : Type 0} → (ℕ → ℕ → List A) → (ℕ → ℕ) → ℕ → List A
values_of vals n m = rows (λ q. rows (vals q) (n q)) m

module _ {A : Type 0} (col : ℕ → ℕ → List ℕ) (vals : ℕ → ℕ → List A) (n : ℕ → ℕ) (long : (q r : ℕ) → length (vals q r) ≡ length (col q r)) where
  start_as : (q r : ℕ) → start_of (vals q) r ≡ start_of (col q) r
  start_as q r = start_long (vals q) (col q) r (λ i b. long q i)

  part_values : (q : ℕ) → length (rows (vals q) (n q)) ≡ start_of (col q) (n q)
  part_values q = sym (start_of_is (vals q) (n q)) ∙ start_as q (n q)

  values_long : (p : ℕ) → length (values_of vals n p) ≡ terms_before col n p
  values_long p =
      sym (start_of_is (λ q. rows (vals q) (n q)) p)
      ∙ start_sum (λ q. rows (vals q) (n q)) p
      ∙ sum_agree (λ q. length (rows (vals q) (n q))) (λ q. start_of (col q) (n q)) p (λ q b. part_values q)

  module _ (m p r : ℕ) (h : p < m) (b : r < n p) where
    value_at_lem : (k : ℕ) (d : A) → k < length (vals p r) → get_or (values_of vals n m) (terms_before col n p + start_of (col p) r + k) d ≡ get_or (vals p r) k d
    value_at_lem k d o =
        let e : terms_before col n p + start_of (col p) r + k ≡ length (values_of vals n p) + (start_of (vals p) r + k) = omega (arith, values_long p, start_as p r) in
        ap (λ (i : ℕ). get_or (values_of vals n m) i d) e
        ∙ rows_at (λ q. rows (vals q) (n q)) m p (start_of (vals p) r + k) d h (omega (arith, start_room (vals p) (n p) r b, start_of_is (vals p) (n p)))
        ∙ start_at (vals p) (n p) r k d b o

    row_ends : terms_before col n p + start_of (col p) (suc r) ≤ terms_before col n m
    row_ends =
        omega
        (arith, sum_rise (λ q. start_of (col q) (n q)) (suc p) m h, sum_to_suc (λ q. start_of (col q) (n q)) p, start_suc (col p) r, start_room (col p) (n p) r b)

    row_long : terms_before col n p + start_of (col p) (suc r) ≡ terms_before col n p + start_of (col p) r + length (vals p r)
    row_long = omega (arith, start_suc (col p) r, long p r)

-- a row's run: how long it is, the columns that were laid, and the numbers
module _ (col : ℕ → ℕ → List ℕ) (n : ℕ → ℕ) (m p r : ℕ) (h : p < m) (b : r < n p) where
  columns_part : (cs : List ℕ) → terms_before col n m ≤ length cs
      → part_of (laid cs 0 (values_of col n m)) (terms_before col n p + start_of (col p) r) (terms_before col n p + start_of (col p) (suc r)) ≡ col p r
  columns_part cs fits =
      let i = terms_before col n p + start_of (col p) r in
      let j = terms_before col n p + start_of (col p) (suc r) in
      let ds = laid cs 0 (values_of col n m) in
      let ends : j ≤ terms_before col n m = row_ends col col n (λ q r. refl) m p r h b in
      let run : j ≡ i + length (col p r) = row_long col col n (λ q r. refl) m p r h b in
      let all : length (values_of col n m) ≡ terms_before col n m = values_long col col n (λ q r. refl) m in
      let long : length (part_of ds i j) ≡ length (col p r) = part_long ds i j (omega arith) (omega (arith, laid_length cs 0 (values_of col n m))) ∙ omega arith in
      ext_get_or 0 (part_of ds i j) (col p r) long
      (λ k o.
      part_at_lem ds i j k 0 (omega arith)
      ∙ ap (λ (q : ℕ). get_or ds q 0) (omega arith)
      ∙ laid_at cs 0 (values_of col n m) (i + k) (omega arith) (omega arith)
      ∙ value_at_lem col col n (λ q r. refl) m p r h b k 0 (omega arith))

  numbers_part : (row : ℕ → ℕ → List Term) → ((q r : ℕ) → columns_of (row q r) ≡ col q r) → (xs : List Float) → 2 * terms_before col n m ≤ length xs
      → Numbers (λ k. get_or (numbers_of (row p r)) k no_number) (length (numbers_of (row p r)))
      (part_of (laid_numbers xs 0 (rows (λ q. numbers_of (rows (row q) (n q))) m)) (2 * (terms_before col n p + start_of (col p) r))
      (2 * (terms_before col n p + start_of (col p) (suc r))))
  numbers_part row own xs fits =
      let i = terms_before col n p + start_of (col p) r in
      let j = terms_before col n p + start_of (col p) (suc r) in
      let vals : ℕ → ℕ → List C64 = λ q r. numbers_of (row q r) in
      let same : (q r : ℕ) → length (vals q r) ≡ length (col q r) =
      λ q r. length_numbers (row q r) ∙ sym (length_columns (row q r)) ∙ ap (λ (cs : List ℕ). length cs) (own q r)
      in
      let ys = laid_numbers xs 0 (values_of vals n m) in
      let are : rows (λ q. numbers_of (rows (row q) (n q))) m ≡ values_of vals n m =
      rows_agree (λ q. numbers_of (rows (row q) (n q))) (λ q. rows (vals q) (n q)) m (λ q o. numbers_rows (row q) (n q))
      in
      let ends : j ≤ terms_before col n m = row_ends col vals n same m p r h b in
      let run : j ≡ i + length (vals p r) = row_long col vals n same m p r h b in
      let all : length (values_of vals n m) ≡ terms_before col n m = values_long col vals n same m in
      rw are
      (record {
        long = part_long ys (2 * i) (2 * j) (omega arith) (omega (arith, laid_numbers_length xs 0 (values_of vals n m))) ∙ omega arith;
        each_is =
            λ k o.
            number_part ys i j k (omega arith)
            ∙ ap (number_at ys) (omega arith)
            ∙ laid_numbers_at xs 0 (values_of vals n m) (i + k) no_number (omega arith) (omega arith)
            ∙ value_at_lem col vals n same m p r h b k no_number o;
      })

-- ---- the stored operators: part q is that of level q + first

abbrev stored_cols : FullLattice → Choice → ℕ → ℕ → ℕ → List ℕ
stored_cols l ch first q = operator_cols l ch (q + first)

abbrev stored_edges : FullLattice → ℕ → ℕ → ℕ
stored_edges l first q = edges_on l (q + first)

module _ (m L : ℕ) (h : first_stored m ≤ L) where
  behind_first : first_stored m + (L - first_stored m) ≡ L
  behind_first = omega arith

  level_stored : L - first_stored m + first_stored m ≡ L
  level_stored = omega arith

  stored_rows_lem : {A : Type 0} (g : ℕ → List A) → rows (λ i. if_stored m i (g i)) L ≡ rows (λ q. g (q + first_stored m)) (L - first_stored m)
  stored_rows_lem g = ap (rows (λ i. if_stored m i (g i))) (sym behind_first) ∙ rows_shifted g (first_stored m) (L - first_stored m)

  stored_starts_lem : (l : FullLattice) → stored_starts l m L ≡ starts_off (stored_edges l (first_stored m)) (L - first_stored m)
  stored_starts_lem l = ap (stored_starts l m) (sym behind_first) ∙ sum_shifted (λ i. edges_on l i + 1) (first_stored m) (L - first_stored m)

  stored_terms : (l : FullLattice) (ch : Choice)
      → operator_off l ch m L ≡ terms_before (stored_cols l ch (first_stored m)) (stored_edges l (first_stored m)) (L - first_stored m)
  stored_terms l ch =
      ap (operator_off l ch m) (sym behind_first)
      ∙ sum_shifted (λ i. start_of (operator_cols l ch i) (edges_on l i)) (first_stored m) (L - first_stored m)

-- ---- the rows of a lattice's store

some_are : {x : ℕ} → 0 < x → x ≤ 64 → some_cells x ≡ true
some_are {x} h k = rw (lt-ltb 0 x h, le-leb x 64 k) refl

module _ (l : FullLattice) (limits : Limits l.grid) (m : ℕ) (c : Cells) (own : CellsOf l m c) where
  module _ (L : ℕ) (h : L ≤ m) where
    x_own : (grid_at l L).nx ≡ cells_in c L 0
    x_own = grid_x l L ∙ sym (own.cells_are L 0 h (omega arith))

    y_own : (grid_at l L).ny ≡ cells_in c L 1
    y_own = grid_y l L ∙ sym (own.cells_are L 1 h (omega arith))

    z_own : (grid_at l L).nz ≡ cells_in c L 2
    z_own = grid_z l L ∙ sym (own.cells_are L 2 h (omega arith))

    level_own : level_there c L ≡ true
    level_own =
        let g = grid_limits l limits L in
        sym
        (level_tests c L (omega (arith, own.few)) (omega (arith, own.levels_are))
        (sym
        (rw (
          some_are (rw x_own at g.x_some) (rw x_own at g.x_most),
          some_are (rw y_own at g.y_some) (rw y_own at g.y_most),
          some_are (rw z_own at g.z_some) (rw z_own at g.z_most),
        )
        refl)))

    edges_own : edges_in c L ≡ edges_on l L
    edges_own =
        sym (edges_there c L level_own x_own y_own z_own)
        ∙ ap (λ (x : ℕ). 3 * x) (sym (cells_of_is (grid_at l L)))
        ∙ sym (unknowns_of_is (grid_at l L))

  levels_own : (k : ℕ) → k ≤ m + 1 → levels_there c k ≡ true
  levels_own zero h = levels_none c
  levels_own (suc k) h = rw (sym (add-one k)) (levels_more c k (levels_own k (omega arith)) (level_own k (omega arith)))

  -- a transfer's row, in the starts of either list
  module _ (first : ℕ) (col : ℕ → ℕ → List ℕ) (n : ℕ → ℕ) (same : (q : ℕ) → q < m → rows_from c first q ≡ n q) where
    transfer_laid : (ss : List ℕ) (room L r : ℕ) → starts_off n m ≤ length ss → terms_before col n m ≤ room → L < m → r < n L
        → transfer_row c first (starts_laid col n m ss) room L r ≡ Some (terms_before col n L + start_of (col L) r, terms_before col n L + start_of (col L) (suc r))
    transfer_laid ss room L r a b h k =
        sym (transfer_there c first (starts_laid col n m ss) room L r (levels_own (L + 2) (omega arith)))
        ∙ row_same (rows_from c first) n (starts_laid col n m ss) room L r (λ q o. same q (omega arith))
        ∙ row_laid_lem col n m ss a room L r b h k

  -- the forward row: its own run of numbers
  pub forward_row : (ss : List ℕ) (xs : List Float) (ts : List ℕ) (ys : List Float) (L r : ℕ) → starts_off (edges_on l) m ≤ length ss → 2 * forward_off l m ≤ length xs
      → L < m → r < edges_on l L
      → weight_row_of c false (laid ss 0 (rows (forward_starts_of l) m)) xs ts ys L r
      ≡ part_of xs (2 * (forward_off l L + start_of (forward_cols l L) r)) (2 * (forward_off l L + start_of (forward_cols l L) (suc r)))
  forward_row ss xs ts ys L r a b h k =
      sym
      (forward_handed c false (laid ss 0 (rows (forward_starts_of l) m)) xs ts ys L r refl
      (sym (terms_forward c false (laid ss 0 (rows (forward_starts_of l) m)) (length xs / 2) ts (length ys / 2) L r refl)
      ∙ transfer_laid 0 (forward_cols l) (edges_on l) (λ q o. ap (edges_in c) (omega arith) ∙ edges_own q (omega arith)) ss (length xs / 2) L r a (omega arith) h k))

  -- the turned row
  pub turned_row_lem : (ss : List ℕ) (xs : List Float) (ts : List ℕ) (ys : List Float) (L r : ℕ) → starts_off (next_edges l) m ≤ length ts → 2 * turned_off l m ≤ length ys
      → L < m → r < edges_on l (suc L)
      → weight_row_of c true ss xs (laid ts 0 (rows (turned_starts_of l) m)) ys L r
      ≡ part_of ys (2 * (turned_off l L + start_of (turned_cols l L) r)) (2 * (turned_off l L + start_of (turned_cols l L) (suc r)))
  turned_row_lem ss xs ts ys L r a b h k =
      sym
      (turned_handed c true ss xs (laid ts 0 (rows (turned_starts_of l) m)) ys L r refl
      (sym (terms_turned c true ss (length xs / 2) (laid ts 0 (rows (turned_starts_of l) m)) (length ys / 2) L r refl)
      ∙ transfer_laid 1 (turned_cols l) (next_edges l) (λ q o. ap (edges_in c) (add-one q) ∙ edges_own (suc q) (omega arith)) ts (length ys / 2) L r a (omega arith) h k))

  first_own : first_stored m ≡ first_of c
  first_own = go m own.levels_are
    where
      go : (m : ℕ) → c.levels ≡ m + 1 → first_stored m ≡ first_of c
      go zero e = rw (le-leb c.levels 1 (omega arith)) refl
      go (suc m) e = rw (lt-leb c.levels 1 (omega arith)) refl

  -- the operator's row: its own run of columns
  module _ (ch : Choice) (L r : ℕ) (f : first_stored m ≤ L) (h : L ≤ m) (b : r < edges_on l L) where
    pub operator_row_lem : (ss cs : List ℕ) → stored_starts l m (suc m) ≤ length ss → operator_off l ch m (suc m) ≤ length cs
        → operator_row_of c (laid ss 0 (rows (operator_starts_of l ch m) (suc m))) cs L r
        ≡ part_of cs (operator_off l ch m L + start_of (operator_cols l ch L) r) (operator_off l ch m L + start_of (operator_cols l ch L) (suc r))
    operator_row_lem ss cs i j =
        let k = first_stored m in
        let col = stored_cols l ch k in
        let n = stored_edges l k in
        let ls = starts_laid col n (suc m - k) ss in
        let starts : laid ss 0 (rows (operator_starts_of l ch m) (suc m)) ≡ ls =
        ap (laid ss 0) (stored_rows_lem m (suc m) (omega arith) (λ L. starts_of (operator_cols l ch L) (edges_on l L)))
        in
        let here : L - k + k ≡ L = level_stored m L f in
        let e : n (L - k) ≡ edges_on l L = ap (edges_on l) here in
        let t : terms_before col n (L - k) ≡ operator_off l ch m L = sym (stored_terms m L f l ch) in
        sym
        (operator_handed c (laid ss 0 (rows (operator_starts_of l ch m) (suc m))) cs L r
        (ap (λ (xs : List ℕ). operator_row c xs (length cs) L r) starts
        ∙ sym (operator_there c ls (length cs) L r first_own f (levels_own (L + 1) (omega arith)))
        ∙ row_same (rows_from c k) n ls (length cs) (L - k) r (λ q o. edges_own (q + k) (omega arith))
        ∙ row_laid_lem col n (suc m - k) ss (omega (arith, stored_starts_lem m (suc m) (omega arith) l)) (length cs) (L - k) r
        (omega (arith, stored_terms m (suc m) (omega arith) l ch)) (omega arith) (omega arith)
        ∙ (λ i. Some (t i + start_of (operator_cols l ch (here i)) r, t i + start_of (operator_cols l ch (here i)) (suc r)))))

  -- ---- in a store that a setup filled: the row's own numbers and nothing more, and the operator's own columns

  module _ (ch : Choice) (f : ℕ → C64) (s : Store) (room : Enough l ch m (sizes s)) (L r : ℕ) where
    pub forward_own : (ts : List ℕ) (ys : List Float) → L < m → r < edges_on l L
        → Numbers (λ k. get_or (numbers_of (forward_at l f L r)) k no_number) (length (numbers_of (forward_at l f L r)))
        (weight_row_of c false (filled l ch m f s).forward_starts (filled l ch m f s).forward_values ts ys L r)
    unfolding filled forward_cols
    forward_own ts ys h b =
        let xs = laid_numbers s.forward_values 0 (rows (forward_numbers l f) m) in
        let long : length xs ≡ length s.forward_values = laid_numbers_length s.forward_values 0 (rows (forward_numbers l f) m) in
        rw (forward_row s.forward_starts xs ts ys L r room.forward_starts_are (omega (arith, room.forward_values_are)) h b)
        (numbers_part (forward_cols l) (edges_on l) m L r h b (forward_at l f) (forward_columns_are l f) s.forward_values room.forward_values_are)

    pub turned_own : (ss : List ℕ) (xs : List Float) → L < m → r < edges_on l (suc L)
        → Numbers (λ k. get_or (numbers_of (turned_at l f L r)) k no_number) (length (numbers_of (turned_at l f L r)))
        (weight_row_of c true ss xs (filled l ch m f s).turned_starts (filled l ch m f s).turned_values L r)
    unfolding filled turned_cols
    turned_own ss xs h b =
        let ys = laid_numbers s.turned_values 0 (rows (turned_numbers l f) m) in
        let long : length ys ≡ length s.turned_values = laid_numbers_length s.turned_values 0 (rows (turned_numbers l f) m) in
        rw (turned_row_lem ss xs s.turned_starts ys L r room.turned_starts_are (omega (arith, room.turned_values_are)) h b)
        (numbers_part (turned_cols l) (next_edges l) m L r h b (turned_at l f) (turned_at_same l f blank) s.turned_values room.turned_values_are)

    pub operator_own : first_stored m ≤ L → L ≤ m → r < edges_on l L
        → operator_row_of c (filled l ch m f s).operator_starts (filled l ch m f s).operator_columns L r ≡ operator_cols l ch L r
    unfolding filled
    operator_own a h b =
        let k = first_stored m in
        let col = stored_cols l ch k in
        let n = stored_edges l k in
        let here : L - k + k ≡ L = level_stored m L a in
        let e : n (L - k) ≡ edges_on l L = ap (edges_on l) here in
        let t : operator_off l ch m L ≡ terms_before col n (L - k) = stored_terms m L a l ch in
        let cs = laid s.operator_columns 0 (rows (operator_cols_of l ch m) (suc m)) in
        let long : length cs ≡ length s.operator_columns = laid_length s.operator_columns 0 (rows (operator_cols_of l ch m) (suc m)) in
        let are : cs ≡ laid s.operator_columns 0 (values_of col n (suc m - k)) =
        ap (laid s.operator_columns 0) (stored_rows_lem m (suc m) (omega arith) (λ L. rows (operator_cols l ch L) (edges_on l L)))
        in
        operator_row_lem ch L r a h b s.operator_starts cs room.operator_starts_are (omega (arith, room.operator_columns_are))
        ∙ (λ i. part_of (are i) (t i + start_of (operator_cols l ch (sym here i)) r) (t i + start_of (operator_cols l ch (sym here i)) (suc r)))
        ∙ columns_part col n (suc m - k) (L - k) r (omega arith) (omega arith) s.operator_columns
        (omega (arith, room.operator_columns_are, stored_terms m (suc m) (omega arith) l ch))
        ∙ ap (λ (q : ℕ). operator_cols l ch q r) here
