-- The words of the parts: set one after another, and where by them the rows of a store stand.
-- Assumes nothing.
use Prim.Native.Nat.{ℕ, zero, suc, ◌+◌, ◌-◌, ◌*◌, ◌/◌, ◌%◌, ◌≤◌, ◌<◌, ◌^◌}
use mathlib.Core.Path.{◌≡◌, refl, sym, ap, subst, ◌∙◌}
use mathlib.Core.Logic.{inl, inr, ⊎_elim}
use mathlib.Core.List.{List, [], ◌∷◌, ◌++◌, map}
use mathlib.Core.Bool.{Bool, true, false, cond}
use native.Mathlib.Omega.{arith}
use native.Mathlib.Decide.{ℕ_discrete}
use native.Mathlib.Numerals.{add-one}
use lib.ListN.{length, get_or, set, length-set}
use lib.Seq.{get_or-set_same, get_or-set_other}
use Rattle.numbers.specs.declared.terms.Part.{Part}
use Rattle.numbers.specs.Lists.{In, start_of, sum_to}
use Rattle.numbers.proofs.LoopLaws.{start_suc}
use Rattle.numbers.proofs.MemberLaws.{in_append, in_left, in_right}
use Rattle.numbers.proofs.StoredLaws.{start_room}
use Rattle.numbers.proofs.SumLaws.{sum_to_zero, sum_to_suc, sum_most, sum_append, sum_agree}
use Rattle.lattice.specs.Grid.{Limits}
use Rattle.lattice.specs.Lattice.{FullLattice}
use Rattle.operators.specs.LevelLists.{edges_on}
use Rattle.store.specs.Cells.{no_words, Cell, cell, place_of, kind_in, chosen, Chart, chart, rows_of, base_of, list_in, start_no, number_no, from_in, count_in, from_by, count_by, span_of, flagged_span, cells_on, rows_from, rest_from, rest_of, StartsFit, SpanFits, ChartFits, CellsFit, Found}
use Rattle.numbers.specs.Lists.{tabulate}
use Rattle.numbers.proofs.TransposedLaws.{in_tabulate, tabulate_in}
use Rattle.numbers.proofs.PartLaws.{sum_rise, part_room}
use Rattle.store.specs.FillSteps.{only_count}
use Rattle.store.specs.Layout.{forward_cols, turned_cols, operator_cols, next_edges, forward_count, turned_count, operator_count, first_stored, scale_count, eps_off, averaged_off, forward_off, turned_off, operator_off, scale_off, starts_off, stored_starts}
use Rattle.store.specs.Parts.{row_by, size_by, sole_size, part_size, part_row, part_off, part_count, flag_at, flagged_to, flagged_part, flagged_parts, flagged_rows}
use Rattle.store.specs.Phases.{forward_part, turned_part, operator_part}
use Rattle.store.specs.PhaseSteps.{behind_of}
use Rattle.store.specs.Places.{Place}
use Rattle.store.specs.Plan.{Stands}
use Rattle.store.specs.Renewed.{Fixed, Five, five, FiveRoom, Shaped}
use Rattle.store.specs.Rows.{Row, operator, kind_of, from, count, writes, rules}
use Rattle.store.specs.Shape.{words, marks_at, next_marks, MarksFit, words_by, part_words, PartAt, PartSet, LevelSet, ShapeOf}
use Rattle.store.specs.Spots.{Kind, permittivity, forwards, turneds, entries, scales, place}
use Rattle.store.specs.Work.{RowsAt}
use Rattle.store.specs.declared.Choice.{Choice}
use Rattle.store.specs.declared.Choice.TheVariants.{Galerkin, Rediscretized}
use Rattle.store.specs.declared.change.Cursor.{Cursor}
use Rattle.store.specs.declared.change.Marks.{Marks}
use Rattle.store.specs.declared.change.Words.{Words}
use Rattle.store.specs.declared.change.NumberList.TheVariants.{Permittivities, Forward, Turned, Operator, Scaling}
use Rattle.store.proofs.FlaggedLaws.{part_size_lem}
use Rattle.store.proofs.PlanLaws.{in_stands}
use Rattle.store.proofs.RankLaws.{Re, Valid, first_most}
use Rattle.store.proofs.SizeLaws.{edges_few, forward_few, operator_few, eps_low, forward_low, turned_low, operator_low}
use Rattle.store.proofs.ColumnLaws.{turned_many}
use Rattle.store.proofs.SpotLaws.{map_in_lem}
use Rattle.store.proofs.StepLaws.{starts_later, terms_later, operator_first, operator_second}
use Rattle.store.proofs.StoreLaws.{need_of, row_most}
use Rattle.store.proofs.TransferLaws.{first_sum}

-- ---- the words of a part set

abbrev based : ℕ → Words → Words
based base w = record { rows = w.rows; base = base; list = w.list; start = w.start; number = w.number }

pub part_set : (xs : List Words) (p base : ℕ) (w : Words) → p < length xs → PartSet xs p base w (set xs p (based base w))
part_set xs p base w room =
    let e = get_or-set_same xs p (based base w) no_words room in
    record {
      long = length-set xs p (based base w);
      before = λ j h. get_or-set_other xs p j (based base w) no_words (λ z. omega (arith, z));
      here =
          record {
            rows_at = ap (λ (x : Words). x.rows) e;
            base_at = ap (λ (x : Words). x.base) e;
            list_at = ap (λ (x : Words). x.list) e;
            start_at = ap (λ (x : Words). x.start) e;
            number_at_lem = ap (λ (x : Words). x.number) e;
          };
    }

-- a part before those that were set
part_kept : (xs ys : List Words) (q p base : ℕ) (w : Words) → q < p → ((j : ℕ) → j < p → get_or ys j no_words ≡ get_or xs j no_words) → PartAt xs q base w → PartAt ys q base w
part_kept xs ys q p base w h same a =
    let e = same q h in
    record {
      rows_at = ap (λ (x : Words). x.rows) e ∙ a.rows_at;
      base_at = ap (λ (x : Words). x.base) e ∙ a.base_at;
      list_at = ap (λ (x : Words). x.list) e ∙ a.list_at;
      start_at = ap (λ (x : Words). x.start) e ∙ a.start_at;
      number_at_lem = ap (λ (x : Words). x.number) e ∙ a.number_at_lem;
    }

-- ---- the seven parts of a transfer

module _ {ws : ℕ → Words} {p base : ℕ} {xs : List Words} where
  pub level_start : LevelSet ws p base xs 0 base xs
  level_start = record { long = refl; before = λ j h. refl; each = λ i h. absurd (omega arith); next = omega (arith, sum_to_zero (λ j. (ws j).rows)) }

  pub level_turn : (ys zs : List Words) (n r : ℕ) (w : Words) → LevelSet ws p base xs n r ys → w ≡ ws n → PartSet ys (p + n) r w zs → LevelSet ws p base xs (n + 1) (r + w.rows) zs
  level_turn ys zs n r w s e t =
      record {
        long = t.long ∙ s.long;
        before = λ j h. t.before j (omega arith) ∙ s.before j h;
        each = λ i h.
            elim (ℕ_discrete i n) as (λ _. PartAt zs (p + i) (base + sum_to (λ j. (ws j).rows) i) (ws i)) [
              | yes z ↦ rw (z, ← s.next, ← e) t.here
              | no k ↦ part_kept ys zs (p + i) (p + n) (base + sum_to (λ j. (ws j).rows) i) (ws i) (omega arith) t.before (s.each i (omega arith))
            ];
        next = rw (add-one n) (omega (arith, s.next, ap (λ (x : Words). x.rows) e, sum_to_suc (λ j. (ws j).rows) n));
      }

  pub level_count : (n r b : ℕ) (ys : List Words) → LevelSet ws p base xs n r ys → ((j : ℕ) → j < n → (ws j).rows ≤ b) → r ≤ base + b * n
  level_count n r b ys s h = omega (arith, s.next, sum_most (λ j. (ws j).rows) b n h)

only_most : (ch : Choice) (n : ℕ) → only_count ch n ≤ n
only_most Galerkin n = omega arith
only_most Rediscretized n = omega arith

pub words_few : (ch : Choice) (fine rough : ℕ) (k : Marks) (i b : ℕ) → fine ≤ b → rough ≤ b → (words_by ch fine rough k i).rows ≤ b
unfolding words_by
words_few ch fine rough k zero b h g = g
words_few ch fine rough k (suc zero) b h g = omega (arith, only_most ch rough)
words_few ch fine rough k (suc (suc zero)) b h g = h
words_few ch fine rough k (suc (suc (suc zero))) b h g = g
words_few ch fine rough k (suc (suc (suc (suc zero)))) b h g = omega (arith, only_most ch fine)
words_few ch fine rough k (suc (suc (suc (suc (suc zero))))) b h g = omega (arith, only_most ch rough)
words_few ch fine rough k (suc (suc (suc (suc (suc (suc i)))))) b h g = g

-- ---- the words of the seven kinds

pub words_seven : (ch : Choice) (fine rough : ℕ) (k : Marks) {n q : ℕ} → n ≡ only_count ch rough → q ≡ only_count ch fine → {a b c d e f g : Words}
    → a ≡ words rough Permittivities 0 k.eps
    → b ≡ words n Permittivities 0 k.averaged
    → c ≡ words fine Forward k.forward.s k.forward.k
    → d ≡ words rough Turned k.turned.s k.turned.k
    → e ≡ words q Scaling 0 k.scale
    → f ≡ words n Scaling 0 (k.scale + fine)
    → g ≡ words rough Operator k.operator.s k.operator.k
    → (i : ℕ) → i < 7 → get_or (a ∷ b ∷ c ∷ d ∷ e ∷ f ∷ g ∷ []) i no_words ≡ words_by ch fine rough k i
unfolding words_by
words_seven ch fine rough k {n} {q} u v {a} {b} {c} {d} {e} {f} {g} e0 e1 e2 e3 e4 e5 e6 = go
  where
    go : (i : ℕ) → i < 7 → get_or (a ∷ b ∷ c ∷ d ∷ e ∷ f ∷ g ∷ []) i no_words ≡ words_by ch fine rough k i
    go zero h = e0
    go (suc zero) h = e1 ∙ ap (λ (j : ℕ). words j Permittivities 0 k.averaged) u
    go (suc (suc zero)) h = e2
    go (suc (suc (suc zero))) h = e3
    go (suc (suc (suc (suc zero)))) h = e4 ∙ ap (λ (j : ℕ). words j Scaling 0 k.scale) v
    go (suc (suc (suc (suc (suc zero))))) h = e5 ∙ ap (λ (j : ℕ). words j Scaling 0 (k.scale + fine)) u
    go (suc (suc (suc (suc (suc (suc zero)))))) h = e6
    go (suc (suc (suc (suc (suc (suc (suc i))))))) h = absurd (omega arith)

pub sole_zero : (l : FullLattice) (m r : ℕ) → m ≡ 0 → r ≡ edges_on l 0 → r ≡ sole_size l m
sole_zero l m r e h = h ∙ sym (ap (sole_size l) e)

pub sole_more : (l : FullLattice) (m : ℕ) → (m ≡ 0 → ⊥) → 0 ≡ sole_size l m
sole_more l zero h = absurd (h refl)
sole_more l (suc m) h = refl

-- ---- marks

pub marks_made : (k : Marks) (fine rough : ℕ) (fs ts os : List ℕ) (f t o : Part) → f ≡ behind_of k.forward fine fs → t ≡ behind_of k.turned rough ts → o ≡ behind_of k.operator rough os
    → ◌≡◌ {A = Marks} (record { eps = k.eps + rough; averaged = k.averaged + rough; scale = k.scale + (fine + rough); forward = f; turned = t; operator = o }) (next_marks k fine rough fs ts os)
marks_made k fine rough fs ts os f t o a b c =
    λ i. record { eps = k.eps + rough; averaged = k.averaged + rough; scale = k.scale + (fine + rough); forward = a i; turned = b i; operator = c i }

module _ (l : FullLattice) (limits : Limits l.grid) (ch : Choice) (m : ℕ) (deep : m ≤ 11) where
  next_edges_low : (L : ℕ) → sum_to (next_edges l) L ≤ 12288 * L
  next_edges_low L = sum_most (next_edges l) 12288 L (λ i h. edges_few l limits (suc i))

  scale_low : (L : ℕ) → scale_off l L ≤ 24576 * L
  scale_low L = sum_most (scale_count l) 24576 L (λ i h. omega (arith, edges_few l limits i, edges_few l limits (suc i)))

  module _ (x : Fixed) (shaped : Shaped l ch m x) (L : ℕ) (h : L < m) where
    -- the starts of the parts of level L
    forward_rows_lem : RowsAt (forward_cols l L) (edges_on l L) (forward_part l L) x.fs x.fc
    forward_rows_lem = (shaped.structured (five [] [] [] [] [])).forward_are L h

    turned_rows : RowsAt (turned_cols l L) (edges_on l (suc L)) (turned_part l L) x.ts x.tc
    turned_rows = (shaped.structured (five [] [] [] [] [])).turned_are L h

    operator_rows_lem : RowsAt (operator_cols l ch (suc L)) (edges_on l (suc L)) (operator_part l ch m (suc L)) x.os x.oc
    operator_rows_lem = (shaped.structured (five [] [] [] [] [])).operator_are (suc L) (first_most m L h) h

    forward_there : starts_off (edges_on l) L + edges_on l L < length x.fs
    forward_there = omega (arith, shaped.room.fs_room, part_room (λ i. edges_on l i + 1) L m h)

    turned_there : starts_off (next_edges l) L + edges_on l (suc L) < length x.ts
    turned_there = omega (arith, shaped.room.ts_room, part_room (λ i. next_edges l i + 1) L m h)

    operator_there : stored_starts l m (suc L) + edges_on l (suc L) < length x.os
    operator_there = omega (arith, shaped.room.os_room, starts_later l ch m L, sum_rise (starts_by m) (suc (suc L)) (suc m) (omega arith))
      where
        starts_by : ℕ → ℕ → ℕ
        starts_by m i = cond (lib.Dec.ltb i (first_stored m)) 0 (edges_on l i + 1)

    forward_all : forward_off l L + forward_count l L ≤ 2 ^ 40
    forward_all = omega (arith, forward_low l limits L, forward_few l limits L)

    turned_all : turned_off l L + turned_count l L ≤ 2 ^ 40
    turned_all = omega (arith, turned_low l limits L, forward_few l limits L, turned_many l limits L)

    operator_all : operator_off l ch m (suc L) + operator_count l ch (suc L) ≤ 2 ^ 40
    operator_all = omega (arith, operator_low l limits ch m (suc L), operator_few l limits ch (suc L))

    pub marks_fit : MarksFit (marks_at l ch m L) (edges_on l L) (edges_on l (suc L)) x.fs x.ts x.os
    marks_fit =
        record {
          eps_low = omega (arith, eps_low l limits (suc L), edges_few l limits (suc L));
          averaged_low = omega (arith, eps_low l limits (suc m), next_edges_low L, edges_few l limits (suc L));
          scale_low = omega (arith, scale_low L, edges_few l limits L, edges_few l limits (suc L));
          forward_fits = (forward_there, omega (arith, forward_rows_lem.starts_are (edges_on l L) (omega arith), forward_all));
          turned_fits = (turned_there, omega (arith, turned_rows.starts_are (edges_on l (suc L)) (omega arith), turned_all));
          operator_fits = (operator_there, omega (arith, operator_rows_lem.starts_are (edges_on l (suc L)) (omega arith), operator_all));
        }

    pub marks_next : next_marks (marks_at l ch m L) (edges_on l L) (edges_on l (suc L)) x.fs x.ts x.os ≡ marks_at l ch m (suc L)
    marks_next =
        let a : eps_off l (suc L) + edges_on l (suc L) ≡ eps_off l (suc (suc L)) = sym (sum_to_suc (edges_on l) (suc L)) in
        let b : averaged_off l m L + edges_on l (suc L) ≡ averaged_off l m (suc L) = omega (arith, sum_to_suc (next_edges l) L) in
        let c : scale_off l L + (edges_on l L + edges_on l (suc L)) ≡ scale_off l (suc L) = sym (sum_to_suc (scale_count l) L) in
        let d : starts_off (edges_on l) L + edges_on l L + 1 ≡ starts_off (edges_on l) (suc L) = omega (arith, sum_to_suc (λ i. edges_on l i + 1) L) in
        let e : forward_off l L + get_or x.fs (starts_off (edges_on l) L + edges_on l L) 0 ≡ forward_off l (suc L) = omega (arith, forward_rows_lem.starts_are (edges_on l L) (omega arith), sum_to_suc (forward_count l) L) in
        let f : starts_off (next_edges l) L + edges_on l (suc L) + 1 ≡ starts_off (next_edges l) (suc L) = omega (arith, sum_to_suc (λ i. next_edges l i + 1) L) in
        let g : turned_off l L + get_or x.ts (starts_off (next_edges l) L + edges_on l (suc L)) 0 ≡ turned_off l (suc L) = omega (arith, turned_rows.starts_are (edges_on l (suc L)) (omega arith), sum_to_suc (turned_count l) L) in
        let p : stored_starts l m (suc L) + edges_on l (suc L) + 1 ≡ stored_starts l m (suc (suc L)) = omega (arith, starts_later l ch m L) in
        let q : operator_off l ch m (suc L) + get_or x.os (stored_starts l m (suc L) + edges_on l (suc L)) 0 ≡ operator_off l ch m (suc (suc L)) = omega (arith, operator_rows_lem.starts_are (edges_on l (suc L)) (omega arith), terms_later l ch m L) in
        λ i.
        record {
          eps = a i;
          averaged = b i;
          scale = c i;
          forward = record { s = d i; k = e i };
          turned = record { s = f i; k = g i };
          operator = record { s = p i; k = q i };
        }

pub marks_first : (l : FullLattice) (ch : Choice) (m : ℕ) → 0 < m → (n all : ℕ) → n ≡ edges_on l 0 → all ≡ eps_off l (suc m)
    → ◌≡◌ {A = Marks} (record { eps = n; averaged = all; scale = 0; forward = record { s = 0; k = 0 }; turned = record { s = 0; k = 0 }; operator = record { s = 0; k = 0 } }) (marks_at l ch m 0)
marks_first l ch m h n all e f =
    let o = operator_second l ch m h in
    let a : n ≡ eps_off l 1 = e ∙ sym (first_sum l) in
    let b : all ≡ averaged_off l m 0 = omega (arith, f, sum_to_zero (next_edges l)) in
    λ i.
    record {
      eps = a i;
      averaged = b i;
      scale = sym (sum_to_zero (scale_count l)) i;
      forward = record { s = sym (sum_to_zero (λ j. edges_on l j + 1)) i; k = sym (sum_to_zero (forward_count l)) i };
      turned = record { s = sym (sum_to_zero (λ j. next_edges l j + 1)) i; k = sym (sum_to_zero (turned_count l)) i };
      operator = record { s = sym o.0 i; k = sym o.1 i };
    }

-- ---- all parts: those of the first L levels are set

pub record Shaping (l : FullLattice) (ch : Choice) (m L : ℕ) (k : Marks) (base : ℕ) (shape : List Words) : Type 0 where
  pub high : L ≤ m
  pub long : length shape ≡ 78
  pub marks_are : 0 < m → k ≡ marks_at l ch m L
  pub base_is : base ≡ part_off l ch m (suc (7 * L))
  pub each : (p : ℕ) → p < suc (7 * L) → PartAt shape p (part_off l ch m p) (part_words l ch m p)

words_rows : (l : FullLattice) (ch : Choice) (k L : ℕ) (q : Marks) → (words_by ch (edges_on l L) (edges_on l (suc L)) q k).rows ≡ size_by l ch k L
unfolding words_by size_by
words_rows l ch zero L q = refl
words_rows l ch (suc zero) L q = refl
words_rows l ch (suc (suc zero)) L q = refl
words_rows l ch (suc (suc (suc zero))) L q = refl
words_rows l ch (suc (suc (suc (suc zero)))) L q = refl
words_rows l ch (suc (suc (suc (suc (suc zero))))) L q = refl
words_rows l ch (suc (suc (suc (suc (suc (suc k)))))) L q = refl

part_rows_lem : (l : FullLattice) (ch : Choice) (m p : ℕ) → (part_words l ch m p).rows ≡ part_size l ch m p
unfolding part_words part_size
part_rows_lem l ch m zero = refl
part_rows_lem l ch m (suc p) = words_rows l ch (p % 7) (p / 7) (marks_at l ch m (p / 7))

module _ (l : FullLattice) (ch : Choice) (m : ℕ) where
  -- the words and the flags of kind i of transfer L
  kind_words : (L i : ℕ) → i < 7 → part_words l ch m (suc (7 * L + i)) ≡ words_by ch (edges_on l L) (edges_on l (suc L)) (marks_at l ch m L) i
  unfolding part_words
  kind_words L i h =
      let a : (7 * L + i) % 7 ≡ i = omega arith in
      let b : (7 * L + i) / 7 ≡ L = omega arith in
      rw (a, b) refl

  kind_base : (L i : ℕ) → i ≤ 7 → part_off l ch m (suc (7 * L)) + sum_to (λ j. (words_by ch (edges_on l L) (edges_on l (suc L)) (marks_at l ch m L) j).rows) i ≡ part_off l ch m (suc (7 * L) + i)
  kind_base L i h =
      let e = sum_agree (λ j. (words_by ch (edges_on l L) (edges_on l (suc L)) (marks_at l ch m L) j).rows) (λ j. part_size l ch m (suc (7 * L) + j)) i
      (λ j b. let z : suc (7 * L) + j ≡ suc (7 * L + j) = omega arith in
      words_rows l ch j L (marks_at l ch m L) ∙ sym (ap (part_size l ch m) z ∙ part_size_lem l ch m L j (omega arith))) in
      ap (λ (n : ℕ). part_off l ch m (suc (7 * L)) + n) e ∙ sym (sum_append (part_size l ch m) (suc (7 * L)) i)

  pub shaping_start : (k : Marks) (n : ℕ) (xs ys : List Words) → n ≡ sole_size l m → length xs ≡ 78 → PartSet xs 0 0 (words n Operator 0 0) ys → ((choice : Choice) → 0 < m → k ≡ marks_at l choice m 0) → Shaping l ch m 0 k n ys
  unfolding part_words part_size
  shaping_start k n xs ys e g s f =
      record {
        high = omega arith;
        long = s.long ∙ g;
        marks_are = f ch;
        base_is = e ∙ omega (arith, sum_to_suc (part_size l ch m) 0, sum_to_zero (part_size l ch m));
        each = λ p h. first p (omega arith);
      }
    where
      first : (p : ℕ) → p ≡ 0 → PartAt ys p (part_off l ch m p) (part_words l ch m p)
      first p z = rw (z, sum_to_zero (part_size l ch m), ← e) s.here

  pub shaping_turn : (L r : ℕ) (k q : Marks) (base : ℕ) (xs ys : List Words) → Shaping l ch m L k base xs → L < m
      → LevelSet (words_by ch (edges_on l L) (edges_on l (suc L)) k) (7 * L + 1) base xs 7 r ys → q ≡ marks_at l ch m (suc L) → Shaping l ch m (L + 1) q r ys
  shaping_turn L r k q base xs ys s h t e =
      let a : k ≡ marks_at l ch m L = s.marks_are (omega arith) in
      let z : 7 * L + 1 ≡ suc (7 * L) = omega arith in
      let y : suc (7 * L) + 7 ≡ suc (7 * suc L) = omega arith in
      let u : LevelSet (words_by ch (edges_on l L) (edges_on l (suc L)) (marks_at l ch m L)) (suc (7 * L)) (part_off l ch m (suc (7 * L))) xs 7 r ys = rw (a, s.base_is, z) at t in
      rw (add-one L)
      (record {
        high = h;
        long = u.long ∙ s.long;
        marks_are = λ _. e;
        base_is = u.next ∙ kind_base L 7 (omega arith) ∙ ap (part_off l ch m) y;
        each = λ p b.
            elim (native.Mathlib.Decide.dec_lt p (suc (7 * L))) as (λ _. PartAt ys p (part_off l ch m p) (part_words l ch m p)) [
              | yes g ↦ part_kept xs ys p (suc (7 * L)) (part_off l ch m p) (part_words l ch m p) g u.before (s.each p g)
              | no g ↦
                  let i = p - suc (7 * L) in
                  let c : i < 7 = omega arith in
                  let v : suc (7 * L) + i ≡ p = omega arith in
                  let w : suc (7 * L + i) ≡ p = omega arith in
                  subst (λ (n : ℕ). PartAt ys n (part_off l ch m n) (part_words l ch m n)) v
                  (rw (← kind_base L i (omega arith), ap (part_words l ch m) (v ∙ sym w), kind_words L i c) (u.each i c))
            ];
      })

  module _ (limits : Limits l.grid) (deep : m ≤ 11) where
    -- what the next turn asks
    pub shaping_scale : (L : ℕ) (k : Marks) (base : ℕ) (shape : List Words) → Shaping l ch m L k base shape → L < m → k.scale ≤ 2 ^ 40
    shaping_scale L k base shape s h = omega (arith, ap (λ (q : Marks). q.scale) (s.marks_are (omega arith)), scale_low l limits ch m deep L)

    part_few : (p : ℕ) → part_size l ch m p ≤ 12288
    unfolding part_size part_words
    part_few zero = sole_few m
      where
        sole_few : (n : ℕ) → sole_size l n ≤ 12288
        sole_few zero = edges_few l limits 0
        sole_few (suc n) = omega arith
    part_few (suc p) =
        omega (
          arith,
          words_rows l ch (p % 7) (p / 7) (marks_at l ch m (p / 7)),
          words_few ch (edges_on l (p / 7)) (edges_on l (suc (p / 7))) (marks_at l ch m (p / 7)) (p % 7) 12288 (edges_few l limits (p / 7)) (edges_few l limits (suc (p / 7))),
        )

    pub shaping_base : (L : ℕ) (k : Marks) (base : ℕ) (shape : List Words) → Shaping l ch m L k base shape → L < m → base ≤ 2 ^ 40
    shaping_base L k base shape s h = omega (arith, s.base_is, sum_most (part_size l ch m) 12288 (suc (7 * L)) (λ p b. part_few p))

    module _ (x : Fixed) (shaped : Shaped l ch m x) where
      pub shaping_fits : (L : ℕ) (k : Marks) (base fine rough : ℕ) (shape : List Words) → Shaping l ch m L k base shape → L < m → fine ≡ edges_on l L → rough ≡ edges_on l (L + 1) → MarksFit k fine rough x.fs x.ts x.os
      shaping_fits L k base fine rough shape s h e f =
          let a : k ≡ marks_at l ch m L = s.marks_are (omega arith) in
          let g : rough ≡ edges_on l (suc L) = f ∙ ap (edges_on l) (add-one L) in
          rw (a, e, g) (marks_fit l limits ch m deep x shaped L h)

      pub shaping_next : (L r : ℕ) (k q : Marks) (base fine rough : ℕ) (xs ys : List Words) → Shaping l ch m L k base xs → L < m → fine ≡ edges_on l L → rough ≡ edges_on l (L + 1)
          → LevelSet (words_by ch fine rough k) (7 * L + 1) base xs 7 r ys → q ≡ next_marks k fine rough x.fs x.ts x.os → Shaping l ch m (L + 1) q r ys
      shaping_next L r k q base fine rough xs ys s h e f t d =
          let a : k ≡ marks_at l ch m L = s.marks_are (omega arith) in
          let g : rough ≡ edges_on l (suc L) = f ∙ ap (edges_on l) (add-one L) in
          shaping_turn L r k q base xs ys s h (rw (e, g) at t) (d ∙ (λ i. next_marks (a i) (e i) (g i) x.fs x.ts x.os) ∙ marks_next l limits ch m deep x shaped L h)

  pub shaping_end : (L : ℕ) (k : Marks) (base : ℕ) (shape : List Words) → Shaping l ch m L k base shape → m ≤ L → ShapeOf l ch m shape
  shaping_end L k base shape s h = record { long = s.long; each = λ p b. s.each p (omega (arith, s.high)) }

-- ---- where the rows stand

-- a row of those with starts
row_span : (cols : ℕ → List ℕ) (n : ℕ) (o : Part) (ss cs : List ℕ) → RowsAt cols n o ss cs → (i : ℕ) → i < n → (s k : ℕ) → s ≡ o.s → k ≡ o.k → o.s + n < length ss → o.k + start_of cols n ≤ 2 ^ 40
    → (from_in ss s k i ≡ o.k + start_of cols i) × (count_in ss s i ≡ length (cols i)) × StartsFit ss s k i
row_span cols n o ss cs w i h s k es ek room low =
    let z : s + i ≡ o.s + i = omega arith in
    let y : s + i + 1 ≡ o.s + suc i = omega arith in
    let a : get_or ss (s + i) 0 ≡ start_of cols i = ap (λ (j : ℕ). get_or ss j 0) z ∙ w.starts_are i (omega arith) in
    let b : get_or ss (s + i + 1) 0 ≡ start_of cols (suc i) = ap (λ (j : ℕ). get_or ss j 0) y ∙ w.starts_are (suc i) (omega arith) in
    let c = start_suc cols i in
    let d = start_room cols n i h in
    (omega arith, omega arith, record { there = omega arith; rising = omega arith; low = omega arith })

-- row r is row i of part p
pub record RowSpan (l : FullLattice) (ch : Choice) (m : ℕ) (w : Chart) (p i : ℕ) (r : Row) : Type 0 where
  pub kind_is : kind_in (list_in w p) ≡ kind_of l ch m r
  pub from_is : from_by w (kind_of l ch m r) p i ≡ from l ch m r
  pub count_is : count_by w (kind_of l ch m r) p i ≡ count l ch m r
  pub fits : SpanFits w (kind_of l ch m r) p i
  pub valid : Valid l ch m r

only_low : (ch : Choice) (n i : ℕ) → i < only_count ch n → (i < n) × Re ch
only_low Galerkin n i h = absurd (omega arith)
only_low Rediscretized n i h = (h, tt)

module _ (l : FullLattice) (limits : Limits l.grid) (ch : Choice) (m : ℕ) (deep : m ≤ 11) (x : Fixed) (shaped : Shaped l ch m x) (flags : List ℕ) (shape : List Words) where
  abbrev on : Chart
  on = chart flags shape x.fs x.ts x.os

  kind_span : (k L i p base : ℕ) → k < 7 → L < m → i < size_by l ch k L → PartAt shape p base (words_by ch (edges_on l L) (edges_on l (suc L)) (marks_at l ch m L) k) → RowSpan l ch m on p i (row_by k L i)
  unfolding row_by size_by words_by
  kind_span zero L i p base b h g a =
      record {
        kind_is = rw a.list_at refl;
        from_is = ap (λ (n : ℕ). n + i) a.number_at_lem;
        count_is = refl;
        fits = omega (arith, a.number_at_lem, eps_low l limits (suc L), edges_few l limits (suc L));
        valid = (h, g);
      }
  kind_span (suc zero) L i p base b h g a =
      let o = only_low ch (edges_on l (suc L)) i g in
      record {
        kind_is = rw a.list_at refl;
        from_is = ap (λ (n : ℕ). n + i) a.number_at_lem;
        count_is = refl;
        fits = omega (arith, a.number_at_lem, eps_low l limits (suc m), next_edges_low l limits ch m deep L, edges_few l limits (suc L), o.0);
        valid = (h, o.0, o.1);
      }
  kind_span (suc (suc zero)) L i p base b h g a =
      let t = row_span (forward_cols l L) (edges_on l L) (forward_part l L) x.fs x.fc (forward_rows_lem l limits ch m deep x shaped L h) i g (start_no on p) (number_no on p) a.start_at a.number_at_lem
      (forward_there l limits ch m deep x shaped L h) (forward_all l limits ch m deep x shaped L h) in
      record { kind_is = rw a.list_at refl; from_is = t.0; count_is = t.1; fits = t.2; valid = (h, g) }
  kind_span (suc (suc (suc zero))) L i p base b h g a =
      let t = row_span (turned_cols l L) (edges_on l (suc L)) (turned_part l L) x.ts x.tc (turned_rows l limits ch m deep x shaped L h) i g (start_no on p) (number_no on p) a.start_at a.number_at_lem
      (turned_there l limits ch m deep x shaped L h) (turned_all l limits ch m deep x shaped L h) in
      record { kind_is = rw a.list_at refl; from_is = t.0; count_is = t.1; fits = t.2; valid = (h, g) }
  kind_span (suc (suc (suc (suc zero)))) L i p base b h g a =
      let o = only_low ch (edges_on l L) i g in
      record {
        kind_is = rw a.list_at refl;
        from_is = ap (λ (n : ℕ). n + i) a.number_at_lem;
        count_is = refl;
        fits = omega (arith, a.number_at_lem, scale_low l limits ch m deep L, edges_few l limits L, o.0);
        valid = (h, o.0, o.1);
      }
  kind_span (suc (suc (suc (suc (suc zero))))) L i p base b h g a =
      let o = only_low ch (edges_on l (suc L)) i g in
      record {
        kind_is = rw a.list_at refl;
        from_is = ap (λ (n : ℕ). n + i) a.number_at_lem;
        count_is = refl;
        fits = omega (arith, a.number_at_lem, scale_low l limits ch m deep L, edges_few l limits L, edges_few l limits (suc L), o.0);
        valid = (h, o.0, o.1);
      }
  kind_span (suc (suc (suc (suc (suc (suc zero)))))) L i p base b h g a =
      let t = row_span (operator_cols l ch (suc L)) (edges_on l (suc L)) (operator_part l ch m (suc L)) x.os x.oc (operator_rows_lem l limits ch m deep x shaped L h) i g (start_no on p) (number_no on p) a.start_at a.number_at_lem
      (operator_there l limits ch m deep x shaped L h) (operator_all l limits ch m deep x shaped L h) in
      record { kind_is = rw a.list_at refl; from_is = t.0; count_is = t.1; fits = t.2; valid = (first_most m L h, h, g) }
  kind_span (suc (suc (suc (suc (suc (suc (suc k))))))) L i p base b h g a = absurd (omega arith)

  sole_span : (n i base : ℕ) → m ≡ n → i < sole_size l n → PartAt shape 0 base (words (sole_size l n) Operator 0 0) → RowSpan l ch m on 0 i (operator 0 i)
  sole_span zero i base e g a =
      let none : first_stored m ≤ 0 = rw e (omega arith) in
      let o = operator_first l ch m in
      let r = (shaped.structured (five [] [] [] [] [])).operator_are 0 none (omega arith) in
      let one : stored_starts l m 1 ≡ edges_on l 0 + 1 = rw e (omega (arith, sum_to_suc (λ i. cond (lib.Dec.ltb i 0) 0 (edges_on l i + 1)) 0, sum_to_zero (λ i. cond (lib.Dec.ltb i 0) 0 (edges_on l i + 1)))) in
      let there : stored_starts l m 0 + edges_on l 0 < length x.os = omega (arith, shaped.room.os_room, one, o.0, ap (stored_starts l m) (ap suc e)) in
      let all : operator_off l ch m 0 + operator_count l ch 0 ≤ 2 ^ 40 = omega (arith, o.1, operator_few l limits ch 0) in
      let t = row_span (operator_cols l ch 0) (edges_on l 0) (operator_part l ch m 0) x.os x.oc r i g (start_no on 0) (number_no on 0) (a.start_at ∙ sym o.0) (a.number_at_lem ∙ sym o.1) there all in
      record { kind_is = rw a.list_at refl; from_is = t.0; count_is = t.1; fits = t.2; valid = (none, omega arith, g) }
  sole_span (suc n) i base e g a = absurd (omega arith)

  module _ (parted : ShapeOf l ch m shape) where
    rows_are : (p : ℕ) → p < part_count m → rows_of on p ≡ part_size l ch m p
    rows_are p h = (parted.each p h).rows_at ∙ part_rows_lem l ch m p

    pub part_span : (p i : ℕ) → p < part_count m → i < rows_of on p → RowSpan l ch m on p i (part_row p i)
    unfolding part_row part_size part_words
    part_span zero i h g = sole_span m i (part_off l ch m 0) refl (rw (rows_are 0 h) at g) (parted.each 0 h)
    part_span (suc p) i h g =
        kind_span (p % 7) (p / 7) i (suc p) (part_off l ch m (suc p)) (omega arith) (omega arith) (rw (rows_are (suc p) h) at g) (parted.each (suc p) h)

    size_few : (p : ℕ) → p < part_count m → rows_of on p ≤ 12288
    size_few p h = omega (arith, rows_are p h, part_few l ch m limits deep p)

    pub chart_fits : part_off l ch m (part_count m) ≤ 64 * length flags → ChartFits on (part_count m)
    chart_fits long =
        record {
          few = omega arith;
          long = omega (arith, parted.long);
          rows_few = λ p h. omega (arith, size_few p h);
          bases_few = λ p h.
              omega (arith, (parted.each p h).base_at, sum_most (part_size l ch m) 12288 p (λ q b. let c : q < part_count m = omega arith in omega (arith, size_few q c, rows_are q c)));
          flags_there = λ p h. omega (arith, long, (parted.each p h).base_at, rows_are p h, part_room (part_size l ch m) p (part_count m) h);
          spans = λ p i h g. let t = part_span p i h g in rw t.kind_is t.fits;
        }

    pub cells_fit : (v : Five) → FiveRoom l ch m v → CellsFit on (part_count m) v
    cells_fit v room =
        record {
          there = λ p i h g.
              let t = part_span p i h g in
              rw (t.kind_is, t.from_is, t.count_is) (omega (arith, row_most l ch m (part_row p i) t.valid, most (kind_of l ch m (part_row p i))));
        }
      where
        most : (k : Kind) → 2 * need_of l ch m k ≤ length (chosen v k)
        most permittivity = room.e_room
        most forwards = room.f_room
        most turneds = room.t_room
        most entries = room.o_room
        most scales = room.c_room

-- ---- every place of a flagged row is come to

in_flagged : (row : ℕ → Row) (flags : List ℕ) (base n : ℕ) (r : Row) → In r (flagged_to row flags base n) → (i : ℕ) × (i < n) × (flag_at flags (base + i) ≡ true) × (r ≡ row i)
unfolding flagged_to
in_flagged row flags base zero r j = absurd j
in_flagged row flags base (suc n) r j =
    ⊎_elim (λ a. let t = in_flagged row flags base n r a in (t.0, omega (arith, t.1), t.2, t.3))
    (λ a. last (flag_at flags (base + n)) refl a)
    (in_append r (flagged_to row flags base n) (cond (flag_at flags (base + n)) (row n ∷ []) []) j)
  where
    last : (b : Bool) → flag_at flags (base + n) ≡ b → In r (cond b (row n ∷ []) []) → (i : ℕ) × (i < suc n) × (flag_at flags (base + i) ≡ true) × (r ≡ row i)
    last true e (inl q) = (n, omega arith, e, q)
    last true e (inr q) = absurd q
    last false e q = absurd q

in_parts : (l : FullLattice) (ch : Choice) (m : ℕ) (flags : List ℕ) (n : ℕ) (r : Row) → In r (flagged_parts l ch m flags n) → (p : ℕ) × (p < n) × In r (flagged_part l ch m flags p)
unfolding flagged_parts
in_parts l ch m flags zero r j = absurd j
in_parts l ch m flags (suc n) r j =
    ⊎_elim (λ a. let t = in_parts l ch m flags n r a in (t.0, omega (arith, t.1), t.2)) (λ a. (n, omega arith, a)) (in_append r (flagged_parts l ch m flags n) (flagged_part l ch m flags n) j)

module _ (w : Chart) where
  rows_in_lem : (p n i j : ℕ) (d : Cell) → i ≤ j → j < i + n → flag_at w.flags (base_of w p + j) ≡ true → In d (cells_on (span_of w p j)) → In d (rows_from w p i n)
  unfolding rows_from
  rows_in_lem p zero i j d h g e q = absurd (omega arith)
  rows_in_lem p (suc n) i j d h g e q =
      elim (ℕ_discrete j i) as (λ _. In d (cells_on (flagged_span w p i) ++ rows_from w p (suc i) n)) [
        | yes z ↦ in_left d (cells_on (flagged_span w p i)) (rows_from w p (suc i) n)
            (let f : flag_at w.flags (base_of w p + i) ≡ true = ap (λ (k : ℕ). flag_at w.flags (base_of w p + k)) (sym z) ∙ e in
            rw f (subst (λ (k : ℕ). In d (cells_on (span_of w p k))) z q))
        | no k ↦ in_right d (cells_on (flagged_span w p i)) (rows_from w p (suc i) n) (rows_in_lem p n (suc i) j d (omega arith) (omega arith) e q)
      ]

  parts_in : (n p q j : ℕ) (d : Cell) → p ≤ q → q < p + n → j < rows_of w q → flag_at w.flags (base_of w q + j) ≡ true → In d (cells_on (span_of w q j)) → In d (rest_from w n p 0)
  unfolding rest_from
  parts_in zero p q j d h g b e i = absurd (omega arith)
  parts_in (suc n) p q j d h g b e i =
      elim (ℕ_discrete q p) as (λ _. In d (rows_from w p 0 (rows_of w p - 0) ++ rest_from w n (suc p) 0)) [
        | yes z ↦ in_left d (rows_from w p 0 (rows_of w p - 0)) (rest_from w n (suc p) 0)
            (subst (λ (k : ℕ). In d (rows_from w k 0 (rows_of w k - 0))) z (rows_in_lem q (rows_of w q - 0) 0 j d (omega arith) (omega arith) e i))
        | no k ↦ in_right d (rows_from w p 0 (rows_of w p - 0)) (rest_from w n (suc p) 0) (parts_in n (suc p) q j d (omega arith) (omega arith) b e i)
      ]

module _ (l : FullLattice) (limits : Limits l.grid) (ch : Choice) (m : ℕ) (deep : m ≤ 11) (x : Fixed) (shaped : Shaped l ch m x) (flags : List ℕ) (shape : List Words) (parted : ShapeOf l ch m shape) where
  pub all_in : (p : Place) → Stands (rules l ch m) p (flagged_rows l ch m flags) → In p (map place_of (rest_from (chart flags shape x.fs x.ts x.os) (part_count m) 0 0))
  all_in p s =
      let w = chart flags shape x.fs x.ts x.os in
      let a = in_stands (rules l ch m) (flagged_rows l ch m flags) p s in
      let b = in_parts l ch m flags (part_count m) a.0 a.1 in
      let q = b.0 in
      let c = in_flagged (part_row q) flags (part_off l ch m q) (part_size l ch m q) a.0 b.2 in
      let i = c.0 in
      let h : i < rows_of w q = omega (arith, c.1, rows_are l limits ch m deep x shaped flags shape parted q b.1) in
      let t = part_span l limits ch m deep x shaped flags shape parted q i b.1 h in
      let f : flag_at flags (base_of w q + i) ≡ true = ap (λ (n : ℕ). flag_at flags (n + i)) (parted.each q b.1).base_at ∙ c.2 in
      let at : In p (writes l ch m (part_row q i)) = subst (λ (r : Row). In p (writes l ch m r)) c.3 a.2 in
      let k = kind_of l ch m (part_row q i) in
      let d = in_tabulate (place k) (2 * count l ch m (part_row q i)) (2 * from l ch m (part_row q i)) p at in
      let j = d.0 in
      let in_row : In (cell k j) (tabulate (cell k) (2 * count l ch m (part_row q i)) (2 * from l ch m (part_row q i))) = tabulate_in (cell k) (2 * count l ch m (part_row q i)) (2 * from l ch m (part_row q i)) j d.1 d.2 in
      let on_span : In (cell k j) (cells_on (span_of w q i)) = rw (t.kind_is, t.from_is, t.count_is) in_row in
      rw d.3 (map_in_lem place_of (rest_from w (part_count m) 0 0) (cell k j) (parts_in w (part_count m) 0 q i (cell k j) (omega arith) (omega (arith, b.1)) h f on_span))

  -- of all parts, counted by the code
  module _ (parts : ℕ) (e : parts ≡ 7 * m + 1) where
    pub whole_fits : part_off l ch m (part_count m) ≤ 64 * length flags → ChartFits (chart flags shape x.fs x.ts x.os) parts
    whole_fits long = let z : parts ≡ part_count m = omega arith in rw z (chart_fits l limits ch m deep x shaped flags shape parted long)

    pub whole_cells : (v : Five) → FiveRoom l ch m v → CellsFit (chart flags shape x.fs x.ts x.os) parts v
    whole_cells v room = let z : parts ≡ part_count m = omega arith in rw z (cells_fit l limits ch m deep x shaped flags shape parted v room)

    pub whole_in : (c : Cursor) → Found (chart flags shape x.fs x.ts x.os) parts 0 0 c → (p : Place) → Stands (rules l ch m) p (flagged_rows l ch m flags)
        → In p (map place_of (rest_of (chart flags shape x.fs x.ts x.os) parts c))
    whole_in c f p s =
        let z : parts - 0 ≡ part_count m = omega arith in
        subst (λ (ds : List Cell). In p (map place_of ds)) (sym (f.rest_is ∙ ap (λ (n : ℕ). rest_from (chart flags shape x.fs x.ts x.os) n 0 0) z)) (all_in p s)
