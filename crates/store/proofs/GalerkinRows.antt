-- Galerkin's rows worked out anew where they are flagged, over rows that stand in lists, whatever numbers the lists hold.
-- Assumes nothing.
use Prim.Native.Nat.{ℕ, zero, suc, ◌+◌, ◌-◌, ◌*◌, ◌≤◌, ◌<◌, ◌^◌}
use mathlib.Core.Path.{◌≡◌, refl, sym, ap, ◌∙◌}
use mathlib.Core.List.{List, []}
use mathlib.Core.Bool.{Bool, true, false, not, false≢true}
use native.Mathlib.Omega.{arith}
use native.Mathlib.Numerals.{add-one}
use borrow.Author.Tests.{not-true, not-false}
use lib.ListN.{length, get_or}
use lib.Ieee.{Float}
use Rattle.numbers.specs.declared.C64.{C64}
use Rattle.numbers.specs.declared.terms.Part.{Part}
use Rattle.numbers.specs.Places.{number_at}
use Rattle.numbers.specs.Lists.{tabulate, laid_numbers, all_finite, start_of}
use Rattle.numbers.specs.Terms.{Term, Stored}
use Rattle.numbers.proofs.ListLaws.{read_back, start_agree, laid_numbers_length}
use Rattle.numbers.proofs.LoopLaws.{start_suc}
use Rattle.numbers.proofs.StoredLaws.{start_room}
use Rattle.lattice.specs.Grid.{Limits, unknowns_of}
use Rattle.lattice.specs.Lattice.{FullLattice}
use Rattle.operators.specs.Galerkin.{galerkin_columns, galerkin_numbers, rows_in, fine_row, FineReady, TransferStored, TurnedGiven, RowReady, Columned, Met, row_laid, no_sums}
use Rattle.operators.specs.LevelLists.{edges_on}
use Rattle.operators.specs.declared.galerkin.FineRows.{FineRows}
use Rattle.operators.proofs.ComputedLaws.{row_computed, row_stored}
use Rattle.operators.proofs.Equations.{lattice_at_zero, row_laid_is}
use Rattle.operators.proofs.RangeLaws.{level_edges, edges_few}
use Rattle.store.specs.Plan.{step, row_fine}
use Rattle.store.specs.Store.{Store}
use Rattle.store.specs.Places.{get}
use Rattle.store.specs.Layout.{forward_cols, turned_cols, operator_cols, forward_count, turned_count, operator_count}
use Rattle.store.specs.Phases.{forward_part, turned_part, operator_part}
use Rattle.store.specs.Rows.{operator, operator_in, from, count, rules}
use Rattle.store.specs.Work.{Structured}
use Rattle.store.specs.Parts.{flag_at, flagged_to}
use Rattle.store.specs.Renewed.{Fixed, Five, five, store_of, Shaped, FiveRoom}
use Rattle.store.specs.RenewSteps.{fine_of, GalerkinPlaces, GalerkinTaken, GalerkinRenewed}
use Rattle.store.specs.declared.Choice.TheVariants.{Galerkin}
use Rattle.store.proofs.FoundLaws.{rows_stored, rows_columned, galerkin_columns_found, galerkin_numbers_found, galerkin_step, met_found, first_found}
use Rattle.store.proofs.RankLaws.{first_most}
use Rattle.store.proofs.RangeLaws.{ranges}
use Rattle.store.proofs.SmallLaws.{forward_small, turned_small, operator_small}
use Rattle.numbers.proofs.PartLaws.{part_room}
use Rattle.store.proofs.WorkLaws.{operator_found, numbers_long, row_fine_lem}
use Rattle.store.proofs.ShapeLaws.{forward_rows_lem, turned_rows, operator_rows_lem, fs_fits, fc_fits, ts_fits, tc_fits, os_fits, oc_fits, operator_within}
use Rattle.store.proofs.FlaggedLaws.{renewed_none, renewed_go, renewed_stop}

module _ (l : FullLattice) (m : ℕ) (x : Fixed) (shaped : Shaped l Galerkin m x) (e f t o : List Float) (room : FiveRoom l Galerkin m (five e f t o []))
    (L : ℕ) (low : L < m) (fine : FineRows) (is : fine ≡ fine_of l Galerkin m L) where
  abbrev A : ℕ → List Term
  A = fine_row fine l (number_at e) x.os x.oc o

  abbrev P : ℕ → List Term
  P = rows_in (forward_part l L) x.fs x.fc f

  abbrev R : ℕ → List Term
  R = rows_in (turned_part l L) x.ts x.tc t

  abbrev above : Part
  above = operator_part l Galerkin m (suc L)

  abbrev lims : Limits l.grid
  lims = shaped.limits

  abbrev v : Five
  v = five e f t o []

  -- ---- the rows that are read stand in the lists

  below_stored : (K : ℕ) → K < m → Stored x.os (operator_part l Galerkin m (suc K)).s x.oc o (operator_part l Galerkin m (suc K)).k (edges_on l (suc K)) (edges_on l (suc K))
  below_stored K k =
      rows_stored (operator_cols l Galerkin (suc K)) (edges_on l (suc K)) (operator_part l Galerkin m (suc K)) x.os x.oc (operator_rows_lem l Galerkin m x shaped v K k) o (edges_on l (suc K))
      (λ q c b i. (ranges l lims).operator_low (suc K) q c b i)
      (os_fits l Galerkin m x shaped v K k) (oc_fits l Galerkin m x shaped v K k) (omega (arith, operator_within l Galerkin m x shaped v K k, room.o_room))
      (operator_small l lims m shaped.few Galerkin (suc K) k)

  fine_ready : FineReady fine l e x.os x.oc o (edges_on l L)
  fine_ready = go L low is
    where
      go : (K : ℕ) → K < m → fine ≡ fine_of l Galerkin m K → FineReady fine l e x.os x.oc o (edges_on l K)
      go zero h d =
          record {
            computed = λ z.
                record {
                  limits = lims;
                  edges = sym (level_edges l 0) ∙ ap (λ (k : FullLattice). unknowns_of k.grid) (lattice_at_zero l);
                  room = omega (arith, part_room (edges_on l) 0 (suc m) (omega arith), room.e_room);
                };
            stored = λ p z. let y : ◌≡◌ {A = ℕ} 0 1 = cc in absurd (omega arith);
          }
      go (suc K) h d =
          record {
            computed = λ z. let y : ◌≡◌ {A = ℕ} 0 1 = cc in absurd (omega arith);
            stored = λ p z. let y : p ≡ operator_part l Galerkin m (suc K) = cc in rw y (below_stored K (omega arith));
          }

  transfer_stored : TransferStored (forward_part l L) x.fs x.fc f (turned_part l L) x.ts x.tc t (edges_on l L) (edges_on l (suc L))
  transfer_stored =
      record {
        forward = rows_stored (forward_cols l L) (edges_on l L) (forward_part l L) x.fs x.fc (forward_rows_lem l Galerkin m x shaped v L low) f (edges_on l (suc L))
            (λ q c b i. (ranges l lims).forward_low L q c b i)
            (fs_fits l Galerkin m x shaped v L low) (fc_fits l Galerkin m x shaped v L low) (omega (arith, part_room (forward_count l) L m low, room.f_room))
            (forward_small l lims m shaped.few L low);
        turned = rows_stored (turned_cols l L) (edges_on l (suc L)) (turned_part l L) x.ts x.tc (turned_rows l Galerkin m x shaped v L low) t (edges_on l L)
            (λ q c b i. (ranges l lims).turned_low L q c i)
            (ts_fits l Galerkin m x shaped v L low) (tc_fits l Galerkin m x shaped v L low) (omega (arith, part_room (turned_count l) L m low, room.t_room))
            (turned_small l lims m shaped.few L low);
      }

  -- ---- over any store that has these lists

  module _ (ends : List ℕ) (c : List Float) (w : Structured l Galerkin m (store_of ends x (five e f t o c))) where
    abbrev s : Store
    s = store_of ends x (five e f t o c)

    found : (r : ℕ) → r < edges_on l L → A r ≡ operator_in l Galerkin m (get s) L r
    found = go L low is
      where
        go : (K : ℕ) → K < m → fine ≡ fine_of l Galerkin m K → (r : ℕ) → r < edges_on l K → A r ≡ operator_in l Galerkin m (get s) K r
        go zero h d r b = row_computed l (number_at e) x.os x.oc o d r ∙ first_found l Galerkin m s r
        go (suc K) h d r b =
            row_stored l (number_at e) x.os x.oc o (operator_part l Galerkin m (suc K)) d r
            ∙ operator_found l Galerkin m s w K r (first_most m K (omega arith)) (omega arith) b

    columned_at : Columned (galerkin_columns A P R) (edges_on l (suc L)) above x.os x.oc
    columned_at =
        rows_columned (operator_cols l Galerkin (suc L)) (edges_on l (suc L)) above x.os x.oc (operator_rows_lem l Galerkin m x shaped v L low)
        (galerkin_columns A P R) (λ q b. galerkin_columns_found l lims m s w L low A found q b)
        (λ q d b i. omega (arith, (ranges l lims).operator_low (suc L) q d b i, edges_few l lims (suc L)))
        (os_fits l Galerkin m x shaped v L low) (oc_fits l Galerkin m x shaped v L low) (operator_small l lims m shaped.few Galerkin (suc L) low)

    met_at : (q : ℕ) → q < edges_on l (suc L) → Met A P R q
    met_at q b = (met_found l lims m s w L low A found).each_met q b

    row_room : (q : ℕ) → q < edges_on l (suc L) → 2 * (from l Galerkin m (operator (suc L) q) + count l Galerkin m (operator (suc L) q)) ≤ length o
    row_room q b = omega (arith, start_room (operator_cols l Galerkin (suc L)) (edges_on l (suc L)) q b, operator_within l Galerkin m x shaped v L low, room.o_room)

    stepped_at : (q : ℕ) → q < edges_on l (suc L)
        → store_of ends x (five e f t (laid_numbers o (above.k + start_of (galerkin_columns A P R) q) (galerkin_numbers A P R q)) c) ≡ step (rules l Galerkin m) s (operator (suc L) q)
    stepped_at q b = galerkin_step l lims m s w L low A found q b above refl (row_room q b)

    tested_at : (q : ℕ) → q < edges_on l (suc L) → all_finite (galerkin_numbers A P R q) ≡ row_fine (rules l Galerkin m) s (operator (suc L) q)
    tested_at q b = ap all_finite (galerkin_numbers_found l lims m s w L low A found q b) ∙ sym (row_fine_lem l Galerkin m s (operator (suc L) q))

    long_at : (q : ℕ) → q < edges_on l (suc L) → length (galerkin_numbers A P R q) ≡ count l Galerkin m (operator (suc L) q)
    long_at q b = ap length (galerkin_numbers_found l lims m s w L low A found q b) ∙ numbers_long l Galerkin m (get s) (operator (suc L) q)

    start_is : (q : ℕ) → q < edges_on l (suc L) → start_of (operator_cols l Galerkin (suc L)) q ≡ start_of (galerkin_columns A P R) q
    start_is q b =
        start_agree (operator_cols l Galerkin (suc L)) (galerkin_columns A P R) (edges_on l (suc L)) (λ p h. galerkin_columns_found l lims m s w L low A found p h) q (omega arith)

  abbrev ws : Structured l Galerkin m (store_of shaped.ends x (five e f t o []))
  ws = shaped.structured (five e f t o [])

  -- ---- what the row's code asks for and leaves

  module _ {p r a : Part} (places : GalerkinPlaces l m L fine p r a) (q : ℕ) (b : q < edges_on l (suc L)) where
    pub galerkin_asked : (sums : List Float) → sums ≡ no_sums
        → (TurnedGiven fine l e x.os x.oc o p x.fs x.fc f r x.ts x.tc t q)
        × ((RowReady A (rows_in p x.fs x.fc f) (rows_in r x.ts x.tc t) q a x.os x.oc) × (sums ≡ no_sums))
    galerkin_asked sums z =
        rw (places.forward_is, places.turned_is, places.operator_is) (
          record { n = edges_on l L; m = edges_on l (suc L); ready = fine_ready; transfer = transfer_stored; low = b },
          (record { m = edges_on l (suc L); columned = columned_at shaped.ends [] ws; met = met_at shaped.ends [] ws q b; low = b }, z),
        )

    -- where its numbers stand
    starts_at : (i : ℕ) → i ≤ edges_on l (suc L) → get_or x.os (a.s + i) 0 ≡ start_of (operator_cols l Galerkin (suc L)) i
    starts_at i h = rw places.operator_is ((operator_rows_lem l Galerkin m x shaped v L low).starts_are i h)

    pub reads_in : a.s + q + 1 < length x.os
    reads_in = omega (arith, ap (λ (z : Part). z.s) places.operator_is, os_fits l Galerkin m x shaped v L low, b)

    pub starts_small : a.s + q + 1 ≤ 2 ^ 33
    starts_small =
        let small = operator_small l lims m shaped.few Galerkin (suc L) low in
        omega (arith, ap (λ (z : Part). z.s) places.operator_is, small.starts_low, small.rows_few, b)

    count_is : get_or x.os (a.s + q + 1) 0 ≡ get_or x.os (a.s + q) 0 + count l Galerkin m (operator (suc L) q)
    count_is =
        let z : a.s + q + 1 ≡ a.s + suc q = omega arith in
        rw z (omega (arith, starts_at (suc q) b, starts_at q (omega arith), start_suc (operator_cols l Galerkin (suc L)) q))

    pub count_rises : get_or x.os (a.s + q) 0 ≤ get_or x.os (a.s + q + 1) 0
    count_rises = omega (arith, count_is)

    place_is : a.k + get_or x.os (a.s + q) 0 ≡ from l Galerkin m (operator (suc L) q)
    place_is = omega (arith, ap (λ (z : Part). z.k) places.operator_is, starts_at q (omega arith))

    pub place_small : a.k + get_or x.os (a.s + q) 0 ≤ 2 ^ 34
    place_small =
        let small = operator_small l lims m shaped.few Galerkin (suc L) low in
        omega (arith, place_is, small.low, small.all_few, start_room (operator_cols l Galerkin (suc L)) (edges_on l (suc L)) q b)

    -- what is laid, by the parts of the level
    laid_is : {o' : List Float} → o' ≡ row_laid A (rows_in p x.fs x.fc f) (rows_in r x.ts x.tc t) q a o
        → o' ≡ laid_numbers o (above.k + start_of (galerkin_columns A P R) q) (galerkin_numbers A P R q)
    laid_is eo =
        eo
        ∙ (λ j. row_laid A (rows_in (places.forward_is j) x.fs x.fc f) (rows_in (places.turned_is j) x.ts x.tc t) q (places.operator_is j) o)
        ∙ row_laid_is A P R q above o

    pub numbers_asked : {o' : List Float} → o' ≡ row_laid A (rows_in p x.fs x.fc f) (rows_in r x.ts x.tc t) q a o
        → (a.k + get_or x.os (a.s + q) 0 + (get_or x.os (a.s + q + 1) 0 - get_or x.os (a.s + q) 0) < 2 ^ 40)
        × (2 * (a.k + get_or x.os (a.s + q) 0 + (get_or x.os (a.s + q + 1) 0 - get_or x.os (a.s + q) 0)) ≤ length o')
    numbers_asked {o'} eo =
        let z : length o' ≡ length o = ap length (laid_is eo) ∙ laid_numbers_length o (above.k + start_of (galerkin_columns A P R) q) (galerkin_numbers A P R q) in
        let small = operator_small l lims m shaped.few Galerkin (suc L) low in
        let k : from l Galerkin m (operator (suc L) q) + count l Galerkin m (operator (suc L) q) ≤ above.k + operator_count l Galerkin (suc L) =
        omega (arith, start_room (operator_cols l Galerkin (suc L)) (edges_on l (suc L)) q b) in (
          omega (arith, place_is, count_is, k, small.low, small.all_few),
          omega (arith, place_is, count_is, z, row_room shaped.ends [] ws q b),
        )

    module _ (flags : List ℕ) (i : ℕ) where
      pub galerkin_left_lem : {g : Bool} → g ≡ flag_at flags i → not g ≡ true → GalerkinTaken l m x flags i (operator (suc L) q) e f t o true o
      galerkin_left_lem {g} d h = record { each = λ c. record { left = λ z. (refl, refl); taken = λ z. absurd (false≢true (sym (sym d ∙ not-true g h) ∙ z)) } }

      pub galerkin_taken : {g ok : Bool} {o' : List Float} → g ≡ flag_at flags i → not g ≡ false
          → o' ≡ row_laid A (rows_in p x.fs x.fc f) (rows_in r x.ts x.tc t) q a o
          → ok ≡ all_finite (tabulate (number_at o') (get_or x.os (a.s + q + 1) 0 - get_or x.os (a.s + q) 0) (a.k + get_or x.os (a.s + q) 0))
          → GalerkinTaken l m x flags i (operator (suc L) q) e f t o ok o'
      galerkin_taken {g} {ok} {o'} d h eo eb =
          let at : ℕ = above.k + start_of (galerkin_columns A P R) q in
          let vs : List C64 = galerkin_numbers A P R q in
          let start = start_is shaped.ends [] ws q b in
          let long = long_at shaped.ends [] ws q b in
          let y : o' ≡ laid_numbers o at vs = laid_is eo in
          let ka : a.k + get_or x.os (a.s + q) 0 ≡ at = omega (arith, place_is, start) in
          let kn : get_or x.os (a.s + q + 1) 0 - get_or x.os (a.s + q) 0 ≡ length vs = omega (arith, count_is, long) in
          let fin : ok ≡ all_finite vs =
          eb ∙ (λ j. all_finite (tabulate (number_at (y j)) (kn j) (ka j))) ∙ ap all_finite (read_back o at vs (omega (arith, start, long, row_room shaped.ends [] ws q b))) in
          record {
            each = λ c.
                record {
                  left = λ z. absurd (false≢true (sym z ∙ (sym d ∙ not-false g h)));
                  taken = λ z.
                      record {
                        stepped = λ ends w. ap (λ (ys : List Float). store_of ends x (five e f t ys c)) y ∙ stepped_at ends c w q b;
                        tested = λ ends w. fin ∙ tested_at ends c w q b;
                      };
                };
          }

-- ---- the loop

module _ {l : FullLattice} {m : ℕ} {x : Fixed} (L : ℕ) (flags : List ℕ) (base : ℕ) {e f t o : List Float} where
  pub galerkin_none : GalerkinRenewed l m x (flagged_to (operator (suc L)) flags base 0) e f t o 0 o
  galerkin_none = record { each = λ c. renewed_none l Galerkin m x (operator (suc L)) flags base (five e f t o c) }

  pub galerkin_next : (i : ℕ) {b : Bool} {o₁ o₂ : List Float} → b ≡ true → GalerkinRenewed l m x (flagged_to (operator (suc L)) flags base i) e f t o 0 o₁
      → GalerkinTaken l m x flags (base + i) (operator (suc L) i) e f t o₁ b o₂ → GalerkinRenewed l m x (flagged_to (operator (suc L)) flags base (i + 1)) e f t o 0 o₂
  galerkin_next i {b} {o₁} {o₂} h p q =
      rw (add-one i) (record {
        each = λ c. renewed_go l Galerkin m x (operator (suc L)) flags base i (five e f t o c) (five e f t o₁ c) (five e f t o₂ c) (p.each c) (rw h at (q.each c));
      })

  pub galerkin_stop : (i n : ℕ) {b : Bool} {o₁ o₂ : List Float} → i < n → b ≡ false → GalerkinRenewed l m x (flagged_to (operator (suc L)) flags base i) e f t o 0 o₁
      → GalerkinTaken l m x flags (base + i) (operator (suc L) i) e f t o₁ b o₂ → GalerkinRenewed l m x (flagged_to (operator (suc L)) flags base n) e f t o (L + 2) o₂
  galerkin_stop i n {b} {o₁} {o₂} k h p q =
      record {
        each = λ c.
            renewed_stop l Galerkin m x (operator (suc L)) flags base i n (L + 2) (five e f t o c) (five e f t o₁ c) (five e f t o₂ c) k (omega arith) (p.each c) (rw h at (q.each c));
      }

  pub galerkin_end : (i n : ℕ) {o₁ : List Float} → i ≤ n → n ≤ i → GalerkinRenewed l m x (flagged_to (operator (suc L)) flags base i) e f t o 0 o₁
      → GalerkinRenewed l m x (flagged_to (operator (suc L)) flags base n) e f t o 0 o₁
  galerkin_end i n h k p = let z : i ≡ n = omega arith in rw z at p
