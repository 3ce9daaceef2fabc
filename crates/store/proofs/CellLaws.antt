-- The walk over the doubles of the flagged rows: the kind of a list, the first double from a row on, the next one, doubles saved and put back.
-- Assumes nothing.
use Prim.Native.Nat.{ℕ, zero, suc, ◌+◌, ◌-◌, ◌*◌, ◌≤◌, ◌<◌, ◌^◌}
use mathlib.Core.Path.{◌≡◌, refl, sym, ap, subst, ◌∙◌}
use mathlib.Core.List.{List, [], ◌∷◌, ◌++◌, append_assoc}
use mathlib.Core.Bool.{Bool, true, false, cond}
use native.Mathlib.Omega.{arith}
use native.Mathlib.Decide.{ℕ_discrete}
use native.Mathlib.Numerals.{add-one}
use lib.ListN.{length, get_or, set, take, drop, length-set, length-drop}
use lib.Seq.{get_or-set_same, get_or-set_other, get_or-drop, drop-drop}
use lib.Ieee.{Float, nan}
use Rattle.numbers.specs.Lists.{tabulate}
use Rattle.numbers.proofs.Equations.{tabulate_zero, tabulate_suc}
use Rattle.store.specs.Parts.{flag_at}
use Rattle.store.specs.Renewed.{Five}
use Rattle.store.specs.Spots.{Kind, permittivity, forwards, turneds, entries, scales}
use Rattle.store.specs.Cells.{Cell, cell, no_cell, kind_in, chosen, double_at, set_double, Chart, rows_of, base_of, list_in, from_by, count_by, span_of, flagged_span, cells_on, rows_from, rest_from, rest_of, SpanFits, ChartFits, CellsFit, CursorIn, Found, Stepped, Kept, SavedFrom, put_cells}
use Rattle.store.specs.declared.change.Cursor.{Cursor}
use Rattle.store.specs.declared.change.NumberList.{NumberList}
use Rattle.store.specs.declared.change.NumberList.TheVariants.{Permittivities}

-- ---- the list of a kind

pub below_kind : (v : Five) (n : NumberList) (j : ℕ) (k : Kind) → kind_in n ≡ k → j < length (chosen v (kind_in n)) → j < length (chosen v k)
below_kind v n j k e h = rw e at h

pub read_kind : (v : Five) (n : NumberList) (j : ℕ) (k : Kind) → kind_in n ≡ k → get_or (chosen v k) j nan ≡ get_or (chosen v (kind_in n)) j nan
read_kind v n j k e = rw e refl

pub set_kind : (v : Five) (n : NumberList) (j : ℕ) (x : Float) (k : Kind) → kind_in n ≡ k → set_double v k j x ≡ set_double v (kind_in n) j x
set_kind v n j x k e = rw e refl

pub fits_kind : (w : Chart) (n : NumberList) (p i : ℕ) (k : Kind) → kind_in n ≡ k → SpanFits w (kind_in n) p i → SpanFits w k p i
fits_kind w n p i k e h = rw e at h

-- ---- the doubles of a row

pub span_kind : (w : Chart) (p i : ℕ) (k : Kind) → kind_in (list_in w p) ≡ k
    → ◌≡◌ {A = Cursor} (record { part = p; row = i; list = list_in w p; at = 2 * from_by w k p i; left = 2 * count_by w k p i }) (span_of w p i)
span_kind w p i k e = rw e refl

span_low : (w : Chart) (k : Kind) (p i : ℕ) → SpanFits w k p i → 2 * from_by w k p i + 2 * count_by w k p i ≤ 2 ^ 42
span_low w permittivity p i h = omega arith
span_low w forwards p i h = omega arith
span_low w turneds p i h = omega arith
span_low w entries p i h = omega arith
span_low w scales p i h = omega arith

pub flagged_yes : (w : Chart) (p i : ℕ) → flag_at w.flags (base_of w p + i) ≡ true → span_of w p i ≡ flagged_span w p i
flagged_yes w p i e = rw e refl

pub flagged_no : (w : Chart) (p i : ℕ) → flag_at w.flags (base_of w p + i) ≡ false → ◌≡◌ {A = Cursor} (record { part = p; row = i; list = Permittivities; at = 0; left = 0 }) (flagged_span w p i)
flagged_no w p i e = rw e refl

-- a flagged row with a double
flagged_some_lem : (b : Bool) (c d r : Cursor) → r ≡ cond b c d → d.left ≡ 0 → 0 < r.left → r ≡ c
flagged_some_lem true c d r e z h = e
flagged_some_lem false c d r e z h = absurd (omega (arith, ap (λ (x : Cursor). x.left) e))

cells_none : (c : Cursor) → c.left ≡ 0 → cells_on c ≡ []
cells_none c e = ap (λ (n : ℕ). tabulate (cell (kind_in c.list)) n c.at) e ∙ tabulate_zero (cell (kind_in c.list)) c.at

cells_one : (c : Cursor) → c.left ≡ 1 → cells_on c ≡ cell (kind_in c.list) c.at ∷ []
cells_one c e =
    ap (λ (n : ℕ). tabulate (cell (kind_in c.list)) n c.at) e ∙ tabulate_suc (cell (kind_in c.list)) 0 c.at
    ∙ ap (λ (ds : List Cell). cell (kind_in c.list) c.at ∷ ds) (tabulate_zero (cell (kind_in c.list)) (suc c.at))

cells_more : (k : Kind) (a n : ℕ) → (n ≡ 0 → ⊥) → tabulate (cell k) n a ≡ cell k a ∷ tabulate (cell k) (n - 1) (a + 1)
cells_more k a zero h = absurd (h refl)
cells_more k a (suc n) h =
    let e : suc n - 1 ≡ n = omega arith in
    let d : a + 1 ≡ suc a = omega arith in
    rw (e, d) (tabulate_suc (cell k) n a)

-- ---- what is left from a row on

module _ (w : Chart) where
  rest_row : (n p i : ℕ) → i < rows_of w p → rest_from w (suc n) p i ≡ cells_on (flagged_span w p i) ++ rest_from w (suc n) p (suc i)
  unfolding rest_from rows_from
  rest_row n p i h =
      let z : rows_of w p - i ≡ suc (rows_of w p - suc i) = omega arith in
      rw z (append_assoc (cells_on (flagged_span w p i)) (rows_from w p (suc i) (rows_of w p - suc i)) (rest_from w n (suc p) 0))

  rest_part : (n p i : ℕ) → rows_of w p ≤ i → rest_from w (suc n) p i ≡ rest_from w n (suc p) 0
  unfolding rest_from rows_from
  rest_part n p i h = let z : rows_of w p - i ≡ 0 = omega arith in rw z refl

  rest_none : (p i : ℕ) → rest_from w 0 p i ≡ []
  unfolding rest_from
  rest_none p i = refl

-- ---- the first double from a row on: the rows before row i of part p have none

pub record Finding (w : Chart) (parts part row p i : ℕ) : Type 0 where
  pub part_in : p ≤ parts
  pub row_in : p < parts → i ≤ rows_of w p
  pub rest_is : rest_from w (parts - p) p i ≡ rest_from w (parts - part) part row

module _ {w : Chart} {parts : ℕ} {part row : ℕ} where
  pub finding_row : (p i : ℕ) (r : Cursor) → Finding w parts part row p i → p < parts → i < rows_of w p → r ≡ flagged_span w p i → r.left ≡ 0 → Finding w parts part row p (i + 1)
  finding_row p i r f h g e z =
      let n : parts - p ≡ suc (parts - suc p) = omega arith in
      let none : cells_on (flagged_span w p i) ≡ [] = ap cells_on (sym e) ∙ cells_none r z in
      let turn : rest_from w (parts - p) p i ≡ rest_from w (parts - p) p (suc i) = rw n (rest_row w (parts - suc p) p i g ∙ ap (λ (ds : List Cell). ds ++ rest_from w (suc (parts - suc p)) p (suc i)) none) in
      record { part_in = f.part_in; row_in = λ _. omega arith; rest_is = rw (add-one i) (sym turn ∙ f.rest_is) }

  pub finding_part : (p i : ℕ) → Finding w parts part row p i → p < parts → rows_of w p ≤ i → Finding w parts part row (p + 1) 0
  finding_part p i f h g =
      let n : parts - p ≡ suc (parts - suc p) = omega arith in
      let turn : rest_from w (parts - p) p i ≡ rest_from w (parts - suc p) (suc p) 0 = rw n (rest_part w (parts - suc p) p i g) in
      record { part_in = omega arith; row_in = λ _. omega arith; rest_is = rw (add-one p) (sym turn ∙ f.rest_is) }

  pub found_end : (p i : ℕ) → Finding w parts part row p i → parts ≤ p → Found w parts part row (record { part = parts; row = 0; list = Permittivities; at = 0; left = 0 })
  unfolding rest_of
  found_end p i f h =
      let e : p ≡ parts = omega (arith, f.part_in) in
      let a : parts - parts ≡ 0 = omega arith in
      let b : parts - p ≡ 0 = omega arith in
      let none : tabulate (cell (kind_in Permittivities)) 0 0 ++ rest_from w (parts - parts) parts 1 ≡ [] = rw (tabulate_zero (cell (kind_in Permittivities)) 0) (rw a (rest_none w parts 1)) in
      let all : [] ≡ rest_from w (parts - part) part row = sym (rest_none w p i) ∙ sym (ap (λ (n : ℕ). rest_from w n p i) b) ∙ f.rest_is in
      record {
        within =
            record {
              ended = λ _. none;
              part_in = λ k. absurd (k refl);
              row_in = λ k. absurd (k refl);
              low = omega arith;
              there = λ k. absurd (k refl);
            };
        rest_is = none ∙ all;
      }

  pub found_here : ChartFits w parts → (p i : ℕ) (r : Cursor) → Finding w parts part row p i → p < parts → i < rows_of w p → r ≡ flagged_span w p i → 0 < r.left → Found w parts part row r
  unfolding rest_of
  found_here fits p i r f h g e s =
      let n : parts - p ≡ suc (parts - suc p) = omega arith in
      let is : r ≡ span_of w p i = flagged_some_lem (flag_at w.flags (base_of w p + i)) (span_of w p i) (record { part = p; row = i; list = Permittivities; at = 0; left = 0 }) r e refl s in
      let some : 0 < (span_of w p i).left = subst (λ (c : Cursor). 0 < c.left) is s in
      let turn : rest_from w (parts - p) p i ≡ cells_on (span_of w p i) ++ rest_from w (parts - p) p (suc i) =
      rw n (rest_row w (parts - suc p) p i g ∙ ap (λ (c : Cursor). cells_on c ++ rest_from w (suc (parts - suc p)) p (suc i)) (sym e ∙ is)) in
      subst (λ (c : Cursor). Found w parts part row c) (sym is)
      (record {
        within =
            record {
              ended = λ z. absurd (omega (arith, z));
              part_in = λ _. h;
              row_in = λ _. g;
              low = span_low w (kind_in (list_in w p)) p i (fits.spans p i h g);
              there = λ _ v y. omega (arith, y.there p i h g);
            };
        rest_is = sym turn ∙ f.rest_is;
      })

-- ---- the next double

module _ {w : Chart} {parts : ℕ} (c : Cursor) (inside : CursorIn w parts c) where
  pub stepped_on : (c.left ≡ 1 → ⊥) → 0 < c.left → Stepped w parts c (record { part = c.part; row = c.row; list = c.list; at = c.at + 1; left = c.left - 1 })
  unfolding rest_of
  stepped_on h s =
      let k : c.left ≡ 0 → ⊥ = λ z. omega arith in
      record {
        within =
            record {
              ended = λ z. absurd (omega (arith, h, z));
              part_in = λ _. inside.part_in k;
              row_in = λ _. inside.row_in k;
              low = omega (arith, inside.low);
              there = λ _ v y. omega (arith, inside.there k v y);
            };
        rest_is = ap (λ (ds : List Cell). ds ++ rest_from w (parts - c.part) c.part (suc c.row)) (cells_more (kind_in c.list) c.at c.left k);
      }

  pub stepped_next : (r : Cursor) → c.left ≡ 1 → Found w parts c.part (c.row + 1) r → Stepped w parts c r
  unfolding rest_of
  stepped_next r e f =
      let tail : rest_of w parts r ≡ rest_from w (parts - c.part) c.part (suc c.row) = f.rest_is ∙ ap (rest_from w (parts - c.part) c.part) (add-one c.row) in
      record {
        within = f.within;
        rest_is =
            ap (λ (ds : List Cell). ds ++ rest_from w (parts - c.part) c.part (suc c.row)) (cells_one c e)
            ∙ ap (λ (ds : List Cell). cell (kind_in c.list) c.at ∷ ds) (sym tail);
      }

-- ---- saved: n doubles so far, c is the next

pub record Saving (w : Chart) (parts : ℕ) (v : Five) (from : Cursor) (old : List Float) (c : Cursor) (n : ℕ) : Type 0 where
  pub long : length old ≡ 512
  pub most : n ≤ 512
  pub high : n ≤ length (rest_of w parts from)
  pub within : CursorIn w parts c
  pub rest_is : rest_of w parts c ≡ drop n (rest_of w parts from)
  pub kept : Kept v (rest_of w parts from) n old
  pub first : n ≡ 0 → 0 < c.left

module _ {A : Type 0} where
  -- the element behind which a list goes on
  pub head_of : (l t : List A) (n : ℕ) (a d : A) → drop n l ≡ a ∷ t → get_or l n d ≡ a
  head_of l t n a d e = let z : n + 0 ≡ n = omega arith in ap (λ (k : ℕ). get_or l k d) (sym z) ∙ sym (get_or-drop n l 0 d) ∙ ap (λ (x : List A). get_or x 0 d) e

  pub tail_of : (l t : List A) (n : ℕ) (a : A) → drop n l ≡ a ∷ t → t ≡ drop (n + 1) l
  tail_of l t n a e = sym (ap (λ (x : List A). drop 1 x) e) ∙ drop-drop 1 n l

  pub more_of : (l t : List A) (n : ℕ) (a : A) → drop n l ≡ a ∷ t → n + 1 ≤ length l
  more_of l t n a e = omega (arith, length-drop n l, ap length e)

module _ {w : Chart} {parts : ℕ} {v : Five} {from : Cursor} where
  pub saving_start : (old : List Float) → length old ≡ 512 → CursorIn w parts from → 0 < from.left → Saving w parts v from old from 0
  saving_start old e i h =
      record {
        long = e;
        most = omega arith;
        high = omega arith;
        within = i;
        rest_is = refl;
        kept = record { same = λ j b. absurd (omega arith) };
        first = λ _. h;
      }

  pub saving_turn : (old : List Float) (c r : Cursor) (n : ℕ) (x : Float) → Saving w parts v from old c n → n < 512 → x ≡ get_or (chosen v (kind_in c.list)) c.at nan → Stepped w parts c r
      → Saving w parts v from (set old n x) r (n + 1)
  saving_turn old c r n x s h e t =
      let d : drop n (rest_of w parts from) ≡ cell (kind_in c.list) c.at ∷ rest_of w parts r = sym s.rest_is ∙ t.rest_is in
      let here : get_or (rest_of w parts from) n no_cell ≡ cell (kind_in c.list) c.at = head_of (rest_of w parts from) (rest_of w parts r) n (cell (kind_in c.list) c.at) no_cell d in
      record {
        long = length-set old n x ∙ s.long;
        most = omega arith;
        high = more_of (rest_of w parts from) (rest_of w parts r) n (cell (kind_in c.list) c.at) d;
        within = t.within;
        rest_is = tail_of (rest_of w parts from) (rest_of w parts r) n (cell (kind_in c.list) c.at) d;
        kept =
            record {
              same = λ j b.
                  elim (ℕ_discrete j n) as (λ _. get_or (set old n x) j nan ≡ double_at v (get_or (rest_of w parts from) j no_cell)) [
                    | yes z ↦ rw z (get_or-set_same old n x nan (omega (arith, s.long)) ∙ e ∙ sym (ap (double_at v) here))
                    | no k ↦ get_or-set_other old n j x nan k ∙ s.kept.same j (omega arith)
                  ];
            };
        first = λ z. absurd (omega arith);
      }

  pub saving_end : (old : List Float) (c : Cursor) (n : ℕ) → Saving w parts v from old c n → (n ≡ 0 → c.left ≡ 0) → SavedFrom w parts v from old (record { next = c; n = n })
  saving_end old c n s z =
      record {
        some = some n (λ e. omega (arith, s.first e, z e));
        most = s.most;
        high = s.high;
        within = s.within;
        rest_is = s.rest_is;
        kept = s.kept;
      }
    where
      some : (n : ℕ) → (n ≡ 0 → ⊥) → 0 < n
      some zero k = absurd (k refl)
      some (suc n) k = omega arith

-- ---- put back: k of n so far, c is the next

-- lists of the same lengths
pub cells_same : (w : Chart) (parts : ℕ) (v u : Five) → length u.e ≡ length v.e → length u.f ≡ length v.f → length u.t ≡ length v.t → length u.o ≡ length v.o → length u.c ≡ length v.c
    → CellsFit w parts v → CellsFit w parts u
cells_same w parts v u a b c d e f = record { there = λ p i h g. rw (same (kind_in (list_in w p))) (f.there p i h g) }
  where
    same : (k : Kind) → length (chosen u k) ≡ length (chosen v k)
    same permittivity = a
    same forwards = b
    same turneds = c
    same entries = d
    same scales = e

pub record Putting (w : Chart) (parts : ℕ) (v : Five) (from : Cursor) (n : ℕ) (old : List Float) (u : Five) (c : Cursor) (k : ℕ) : Type 0 where
  pub high : k ≤ n
  pub within : CursorIn w parts c
  pub fits : CellsFit w parts u
  pub rest_is : rest_of w parts c ≡ drop k (rest_of w parts from)
  pub put_is : put_cells u (take (n - k) (rest_of w parts c)) old k ≡ put_cells v (take n (rest_of w parts from)) old 0

module _ {w : Chart} {parts : ℕ} {v : Five} {from : Cursor} {n : ℕ} {old : List Float} where
  pub putting_start : CursorIn w parts from → CellsFit w parts v → Putting w parts v from n old v from 0
  putting_start i f =
      let z : n - 0 ≡ n = omega arith in
      record { high = omega arith; within = i; fits = f; rest_is = refl; put_is = ap (λ (j : ℕ). put_cells v (take j (rest_of w parts from)) old 0) z }

  -- a double is left
  pub putting_some : (u : Five) (c : Cursor) (k : ℕ) → Putting w parts v from n old u c k → k < n → n ≤ length (rest_of w parts from) → 0 < c.left
  putting_some u c k p h g = some c.left (λ e. omega (arith, length-drop k (rest_of w parts from), ap length (sym p.rest_is ∙ p.within.ended e)))
    where
      some : (n : ℕ) → (n ≡ 0 → ⊥) → 0 < n
      some zero q = absurd (q refl)
      some (suc n) q = omega arith

  pub putting_turn : (u t : Five) (c r : Cursor) (k : ℕ) → Putting w parts v from n old u c k → k < n → t ≡ set_double u (kind_in c.list) c.at (get_or old k nan) → CellsFit w parts t → Stepped w parts c r
      → Putting w parts v from n old t r (k + 1)
  unfolding put_cells
  putting_turn u t c r k p h e f s =
      let d : drop k (rest_of w parts from) ≡ cell (kind_in c.list) c.at ∷ rest_of w parts r = sym p.rest_is ∙ s.rest_is in
      let z : n - k ≡ suc (n - (k + 1)) = omega arith in
      let y : take (n - k) (rest_of w parts c) ≡ cell (kind_in c.list) c.at ∷ take (n - (k + 1)) (rest_of w parts r) = rw (z, s.rest_is) refl in
      record {
        high = omega arith;
        within = s.within;
        fits = f;
        rest_is = tail_of (rest_of w parts from) (rest_of w parts r) k (cell (kind_in c.list) c.at) d;
        put_is =
            ap (λ (x : Five). put_cells x (take (n - (k + 1)) (rest_of w parts r)) old (k + 1)) e
            ∙ ap (put_cells (set_double u (kind_in c.list) c.at (get_or old k nan)) (take (n - (k + 1)) (rest_of w parts r)) old) (add-one k)
            ∙ sym (ap (λ (ds : List Cell). put_cells u ds old k) y)
            ∙ p.put_is;
      }

  pub putting_end : (u : Five) (c : Cursor) (k : ℕ) → Putting w parts v from n old u c k → n ≤ k → u ≡ put_cells v (take n (rest_of w parts from)) old 0
  unfolding put_cells
  putting_end u c k p h =
      let z : n - k ≡ 0 = omega arith in
      sym (ap (λ (j : ℕ). put_cells u (take j (rest_of w parts c)) old k) z) ∙ p.put_is
