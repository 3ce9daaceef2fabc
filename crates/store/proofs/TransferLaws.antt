-- What one level's transfer asks for and leaves, and the parts of the levels one behind another.
-- Assumes nothing.
use Prim.Native.Nat.{ℕ, zero, suc, ◌+◌, ◌*◌, ◌≤◌, ◌<◌, ◌^◌}
use mathlib.Core.Path.{◌≡◌, refl, sym, ap, ◌∙◌}
use mathlib.Core.Bool.{Bool}
use mathlib.Core.List.{List, [], ◌∷◌, ◌++◌}
use native.Mathlib.Omega.{arith}
use native.Mathlib.Numerals.{add-one}
use lib.ListN.{length, get_or, set, take, drop, length-append, length-drop}
use lib.Seq.{length-take-le, take-suc, drop-cons}
use lib.Ieee.{Float, nan}
use Rattle.numbers.specs.declared.C64.{C64}
use Rattle.numbers.specs.declared.terms.Part.{Part}
use Rattle.numbers.specs.Complex.{no_number}
use Rattle.numbers.specs.Places.{number_at, set_number}
use Rattle.numbers.specs.Lists.{rows, laid, laid_numbers, read_from, start_of, tabulate}
use Rattle.numbers.proofs.Laws.{set_inside}
use Rattle.numbers.proofs.Equations.{rows_zero, rows_suc, read_from_is, laid_by_nil}
use Rattle.numbers.proofs.ListLaws.{laid_length, laid_numbers_length, laid_numbers_at, starts_laid_lem}
use Rattle.numbers.proofs.SumLaws.{sum_to_zero, sum_to_suc}
use Rattle.numbers.proofs.TabulateLaws.{length_tabulate, tabulate_at_0}
use Rattle.numbers.proofs.TransposedLaws.{starts_same, columns_same}
use Rattle.numbers.proofs.PartLaws.{laid_part, part_room}
use Rattle.lattice.specs.Levels.{three_at}
use Rattle.lattice.specs.Grid.{Limits}
use Rattle.lattice.specs.Lattice.{FullLattice}
use Rattle.weights.specs.declared.pair.Pair.{Pair}
use Rattle.weights.specs.Pair.{two}
use Rattle.weights.specs.TwoLevels.{two_at, two_of}
use Rattle.weights.specs.Whole.{weights_in, WholeRoom, WholeLeft, whole_finite}
use Rattle.weights.specs.Prolongation.{weight_columns}
use Rattle.operators.specs.LevelLists.{edges_on}
use Rattle.operators.specs.Levels.{eps_at, forward_at, turned_at}
use Rattle.operators.proofs.RangeLaws.{fine_edges_lem, coarse_edges_lem}
use Rattle.operators.proofs.VolumeLaws.{Placing, placing_start, placing_turn, placing_end}
use Rattle.operators.proofs.SeamLaws.{TransferLaid, transfer_laid, transfer_finite}
use Rattle.store.specs.Layout.{forward_cols, turned_cols, next_edges, forward_count, turned_count, eps_off, forward_off, turned_off, starts_off}
use Rattle.store.specs.Setup.{eps_part, forward_starts_of, forward_cols_of, forward_numbers, turned_starts_of, turned_cols_of, turned_numbers}
use Rattle.store.specs.Hierarchy.{LevelPair}
use Rattle.store.specs.Phases.{forward_part, turned_part, TransferRoom, TransfersLeft, weights_fine, noted, first_of}
use Rattle.store.specs.FillSteps.{offsets_at, behind_of, EpsIn, TransferLeft, TransferDone}
use Rattle.store.specs.declared.transfers.Offsets.{Offsets}
use Rattle.operators.proofs.Equations.{eps_at_zero}
use Rattle.store.proofs.LineLaws.{level_pair, level_two}
use Rattle.store.proofs.SizeLaws.{fstarts_long, fcols_long, tstarts_long, tcols_long, eps_long, fnumbers_long, tnumbers_long, edges_few, forward_few, eps_low, starts_low, tstarts_low, forward_low, turned_low}
use Rattle.store.proofs.ColumnLaws.{forward_cols_at, turned_cols_at, turned_many}

-- ---- one level

module _ (l : FullLattice) (f : ℕ → C64) (L : ℕ) {eps : List Float} {ss cs : List ℕ} {xs : List Float} {ts us : List ℕ} {ys eps' : List Float} {ss' cs' : List ℕ} {xs' : List Float} {ts' us' : List ℕ} {ys' : List Float} where
  -- by structure: starts and columns do not depend on the permittivities
  pub transfer_left : TransferLaid l f L (eps_off l L) (eps_off l (suc L)) (forward_part l L) (turned_part l L) eps ss cs xs ts us ys eps' ss' cs' xs' ts' us' ys'
      → TransferLeft l f L eps ss cs xs ts us ys eps' ss' cs' xs' ts' us' ys'
  transfer_left w =
      let n = edges_on l L in
      let k = edges_on l (suc L) in
      record {
        eps_are = w.eps_are;
        starts_are = w.forward_are.starts_are ∙ ap (laid ss (starts_off (edges_on l) L)) (starts_same (forward_at l f L) (forward_cols l L) n (λ r h. forward_cols_at l f L r));
        columns_are = w.forward_are.columns_are ∙ ap (laid cs (forward_off l L)) (columns_same (forward_at l f L) (forward_cols l L) n (λ r h. forward_cols_at l f L r));
        values_are = w.forward_are.numbers_are;
        tstarts_are = w.turned_are.starts_are ∙ ap (laid ts (starts_off (next_edges l) L)) (starts_same (turned_at l f L) (turned_cols l L) k (λ r h. turned_cols_at l f L r));
        tcolumns_are = w.turned_are.columns_are ∙ ap (laid us (turned_off l L)) (columns_same (turned_at l f L) (turned_cols l L) k (λ r h. turned_cols_at l f L r));
        tvalues_are = w.turned_are.numbers_are;
      }

-- its parts, as the code has them
abbrev pub forward_from : Offsets → Part
forward_from o = record { s = o.s; k = o.k }

abbrev pub turned_from : Offsets → Part
turned_from o = record { s = o.ts; k = o.tk }

module _ (l : FullLattice) (limits : Limits l.grid) (m : ℕ) {L : ℕ} (h : (L < m) × (m ≤ 11)) {o : Offsets} (e : o ≡ offsets_at l L) {pair : Pair} (p : LevelPair l L pair)
    {eps : List Float} {ss cs : List ℕ} {xs : List Float} {ts us : List ℕ} {ys : List Float} where
  -- the room that it asks for
  pub whole_room : TransferRoom l m eps ss cs xs ts us ys → WholeRoom (two pair) o.feps o.ceps (forward_from o) (turned_from o) eps ss cs xs ts us ys
  unfolding forward_cols
  whole_room r =
      let low = h.0 in
      let deep = h.1 in
      let n = fine_edges_lem l L in
      let k = coarse_edges_lem l L in
      let w : weights_in (two_at l L) ≡ forward_count l L = ap (start_of (weight_columns (two_at l L))) n in
      let c = turned_many l limits L in
      let room : WholeRoom (two_at l L) (eps_off l L) (eps_off l (suc L)) (forward_part l L) (turned_part l L) eps ss cs xs ts us ys =
      record {
        apart = omega (arith, n, sum_to_suc (edges_on l) L);
        eps_room = omega (arith, k, r.eps_room, part_room (edges_on l) (suc L) (suc m) (omega arith));
        starts_room = omega (arith, n, r.forward_starts_are, part_room (λ i. edges_on l i + 1) L m low);
        columns_room = omega (arith, w, r.forward_columns_are, part_room (forward_count l) L m low);
        values_room = omega (arith, w, r.forward_values_are, part_room (forward_count l) L m low);
        tstarts_room = omega (arith, k, r.turned_starts_are, part_room (λ i. next_edges l i + 1) L m low);
        tcolumns_room = omega (arith, w, c, r.turned_columns_lem, part_room (turned_count l) L m low);
        tvalues_room = omega (arith, w, c, r.turned_values_are, part_room (turned_count l) L m low);
        ceps_low = omega (arith, eps_low l limits (suc L));
        s_low = omega (arith, starts_low l limits L);
        k_low = omega (arith, forward_low l limits L);
        ts_low = omega (arith, tstarts_low l limits L);
        tk_low = omega (arith, turned_low l limits L);
      } in
      rw (level_two p limits, e) room

  module _ {eps' : List Float} {ss' cs' : List ℕ} {xs' : List Float} {ts' us' : List ℕ} {ys' : List Float} {b : Bool} where
    -- what it leaves
    pub transfer_done : (WholeLeft (two pair) o.feps o.ceps (forward_from o) (turned_from o) eps ss cs xs ts us ys eps' ss' cs' xs' ts' us' ys')
        × (b ≡ whole_finite (two pair) (read_from eps o.feps)) → TransferDone l L b eps ss cs xs ts us ys eps' ss' cs' xs' ts' us' ys'
    unfolding weights_fine
    transfer_done w =
        let left : WholeLeft (two_of l (three_at l L) (three_at l (suc L))) (eps_off l L) (eps_off l (suc L)) (forward_part l L) (turned_part l L) eps ss cs xs ts us ys eps' ss' cs' xs' ts' us' ys' = rw (level_pair p, e) at w.0 in
        record {
          lists = λ f i. transfer_left l f L (transfer_laid l limits L (refl, refl) f left i.each_is);
          ok_is = λ f i. transfer_finite l limits L (refl, refl) f eps (eps_off l L) i.each_is (rw (level_pair p, e) at w.1);
        }

-- ---- where the next parts begin

module _ (l : FullLattice) (limits : Limits l.grid) (m : ℕ) {L : ℕ} (h : (L < m) × (m ≤ 11)) {o : Offsets} (e : o ≡ offsets_at l L) {n : ℕ} (en : n ≡ edges_on l L) where
  pub start_small : o.s + n ≤ 2 ^ 40
  start_small = rw (e, en) (omega (arith, h.0, h.1, starts_low l limits L, edges_few l limits L))

  pub behind_small : {k w : ℕ} → k ≡ edges_on l (suc L) → w ≡ forward_count l L → (o.ceps + k ≤ 2 ^ 40) × (o.s + n ≤ 2 ^ 40) × (o.k + w ≤ 2 ^ 40) × (o.ts + k ≤ 2 ^ 40) × (o.tk + w ≤ 2 ^ 40)
  behind_small ek ew =
      let a = forward_few l limits L in
      let b = edges_few l limits (suc L) in
      let low = h.0 in
      let deep = h.1 in
      rw (e, en, ek, ew) (
        omega (arith, eps_low l limits (suc L)),
        omega (arith, starts_low l limits L, edges_few l limits L),
        omega (arith, forward_low l limits L),
        omega (arith, tstarts_low l limits L),
        omega (arith, turned_low l limits L),
      )

  pub behind_is : {k w : ℕ} → k ≡ edges_on l (suc L) → w ≡ forward_count l L → behind_of o n k w ≡ offsets_at l (suc L)
  behind_is ek ew =
      let a : eps_off l (suc L) + edges_on l (suc L) ≡ eps_off l (suc (suc L)) = sym (sum_to_suc (edges_on l) (suc L)) in
      let b : starts_off (edges_on l) L + edges_on l L + 1 ≡ starts_off (edges_on l) (suc L) = omega (arith, sum_to_suc (λ i. edges_on l i + 1) L) in
      let c : forward_off l L + forward_count l L ≡ forward_off l (suc L) = sym (sum_to_suc (forward_count l) L) in
      let d : starts_off (next_edges l) L + edges_on l (suc L) + 1 ≡ starts_off (next_edges l) (suc L) = omega (arith, sum_to_suc (λ i. next_edges l i + 1) L) in
      let g : turned_off l L + forward_count l L ≡ turned_off l (suc L) = omega (arith, sum_to_suc (turned_count l) L, turned_many l limits L) in
      (λ i. behind_of (e i) (en i) (ek i) (ew i)) ∙ (λ i. record { feps = eps_off l (suc L); ceps = a i; s = b i; k = c i; ts = d i; tk = g i })

-- the first
pub first_sum : (l : FullLattice) → eps_off l 1 ≡ edges_on l 0
first_sum l = omega (arith, sum_to_suc (edges_on l) 0, sum_to_zero (edges_on l))

pub offsets_first : (l : FullLattice) {n : ℕ} → n ≡ edges_on l 0 → record { feps = 0; ceps = n; s = 0; k = 0; ts = 0; tk = 0 } ≡ offsets_at l 0
offsets_first l e =
    λ i.
    record {
      feps = sym (sum_to_zero (edges_on l)) i;
      ceps = (e ∙ sym (first_sum l)) i;
      s = sym (sum_to_zero (λ j. edges_on l j + 1)) i;
      k = sym (sum_to_zero (forward_count l)) i;
      ts = sym (sum_to_zero (λ j. next_edges l j + 1)) i;
      tk = sym (sum_to_zero (turned_count l)) i;
    }

-- ---- level by level

-- the given permittivities alone
abbrev pub GivenLaid : FullLattice → (ℕ → C64) → List Float → List Float → Type 0
GivenLaid l f eps eps' = eps' ≡ laid_numbers eps 0 (rows (eps_part l f) 1)

pub given_laid : (l : FullLattice) (f : ℕ → C64) {n : ℕ} (eps : List Float) {eps' : List Float} → n ≡ edges_on l 0 → eps' ≡ laid_numbers eps 0 (tabulate f n 0) → GivenLaid l f eps eps'
given_laid l f {n} eps e p =
    let q : rows (eps_part l f) 1 ≡ tabulate f n 0 =
    rows_suc (eps_part l f) 0 ∙ ap (λ (vs : List C64). vs ++ eps_part l f 0) (rows_zero (eps_part l f)) ∙ (λ i. tabulate (eps_at_zero l f i) (sym e i) 0) in
    p ∙ ap (laid_numbers eps 0) (sym q)

module _ (l : FullLattice) (f : ℕ → C64) where
  pub transfers_start : (eps : List Float) {ss cs : List ℕ} {xs : List Float} {ts us : List ℕ} {ys eps' : List Float} → GivenLaid l f eps eps'
      → TransfersLeft l f 0 eps ss cs xs ts us ys eps' ss cs xs ts us ys
  transfers_start eps {ss = ss} {cs = cs} {xs = xs} {ts = ts} {us = us} {ys = ys} e =
      record {
        eps_are = e;
        starts_are = sym (ap (laid ss 0) (rows_zero (forward_starts_of l)) ∙ laid_by_nil set ss 0);
        columns_are = sym (ap (laid cs 0) (rows_zero (forward_cols_of l)) ∙ laid_by_nil set cs 0);
        values_are = sym (ap (laid_numbers xs 0) (rows_zero (forward_numbers l f)) ∙ laid_by_nil set_number xs 0);
        tstarts_are = sym (ap (laid ts 0) (rows_zero (turned_starts_of l)) ∙ laid_by_nil set ts 0);
        tcolumns_are = sym (ap (laid us 0) (rows_zero (turned_cols_of l)) ∙ laid_by_nil set us 0);
        tvalues_are = sym (ap (laid_numbers ys 0) (rows_zero (turned_numbers l f)) ∙ laid_by_nil set_number ys 0);
      }

  module _ {L : ℕ} {eps₀ : List Float} {ss₀ cs₀ : List ℕ} {xs₀ : List Float} {ts₀ us₀ : List ℕ} {ys₀ eps : List Float} {ss cs : List ℕ} {xs : List Float} {ts us : List ℕ} {ys : List Float}
      (u : TransfersLeft l f L eps₀ ss₀ cs₀ xs₀ ts₀ us₀ ys₀ eps ss cs xs ts us ys) where
    pub transfers_turn : {eps' : List Float} {ss' cs' : List ℕ} {xs' : List Float} {ts' us' : List ℕ} {ys' : List Float}
        → TransferLeft l f L eps ss cs xs ts us ys eps' ss' cs' xs' ts' us' ys' → TransfersLeft l f (suc L) eps₀ ss₀ cs₀ xs₀ ts₀ us₀ ys₀ eps' ss' cs' xs' ts' us' ys'
    transfers_turn w =
        record {
          eps_are = laid_part set_number eps₀ (eps_part l f) (edges_on l) (eps_long l f) (suc L) u.eps_are w.eps_are;
          starts_are = laid_part set ss₀ (forward_starts_of l) (λ i. edges_on l i + 1) (fstarts_long l) L u.starts_are w.starts_are;
          columns_are = laid_part set cs₀ (forward_cols_of l) (forward_count l) (fcols_long l) L u.columns_are w.columns_are;
          values_are = laid_part set_number xs₀ (forward_numbers l f) (forward_count l) (fnumbers_long l f) L u.values_are w.values_are;
          tstarts_are = laid_part set ts₀ (turned_starts_of l) (λ i. next_edges l i + 1) (tstarts_long l) L u.tstarts_are w.tstarts_are;
          tcolumns_are = laid_part set us₀ (turned_cols_of l) (turned_count l) (tcols_long l) L u.tcolumns_are w.tcolumns_are;
          tvalues_are = laid_part set_number ys₀ (turned_numbers l f) (turned_count l) (tnumbers_long l f) L u.tvalues_are w.tvalues_are;
        }

-- ---- the loop over the levels

-- lists as long have as much room
module _ (l : FullLattice) (f : ℕ → C64) (m L : ℕ) {eps : List Float} {ss cs : List ℕ} {xs : List Float} {ts us : List ℕ} {ys eps' : List Float} {ss' cs' : List ℕ} {xs' : List Float} {ts' us' : List ℕ} {ys' : List Float}
    (w : TransferLeft l f L eps ss cs xs ts us ys eps' ss' cs' xs' ts' us' ys') where
  room_left : TransferRoom l m eps ss cs xs ts us ys → TransferRoom l m eps' ss' cs' xs' ts' us' ys'
  room_left r =
      record {
        eps_room = omega (arith, r.eps_room, ap length w.eps_are, laid_numbers_length eps (eps_off l (suc L)) (eps_part l f (suc L)));
        forward_starts_are = omega (arith, r.forward_starts_are, ap length w.starts_are, laid_length ss (starts_off (edges_on l) L) (forward_starts_of l L));
        forward_columns_are = omega (arith, r.forward_columns_are, ap length w.columns_are, laid_length cs (forward_off l L) (forward_cols_of l L));
        forward_values_are = omega (arith, r.forward_values_are, ap length w.values_are, laid_numbers_length xs (forward_off l L) (forward_numbers l f L));
        turned_starts_are = omega (arith, r.turned_starts_are, ap length w.tstarts_are, laid_length ts (starts_off (next_edges l) L) (turned_starts_of l L));
        turned_columns_lem = omega (arith, r.turned_columns_lem, ap length w.tcolumns_are, laid_length us (turned_off l L) (turned_cols_of l L));
        turned_values_are = omega (arith, r.turned_values_are, ap length w.tvalues_are, laid_numbers_length ys (turned_off l L) (turned_numbers l f L));
      }

  -- the permittivities of the next level stand in the list
  eps_next : 2 * eps_off l (suc (suc L)) ≤ length eps → EpsIn l f (suc L) eps'
  eps_next r =
      record {
        each_is = λ i b.
            let n = eps_long l f (suc L) in
            read_from_is eps' (eps_off l (suc L)) i
            ∙ ap (λ (vs : List Float). number_at vs (eps_off l (suc L) + i)) w.eps_are
            ∙ laid_numbers_at eps (eps_off l (suc L)) (eps_part l f (suc L)) i no_number (omega arith) (omega (arith, sum_to_suc (edges_on l) (suc L)))
            ∙ tabulate_at_0 (eps_at l f (suc L)) (edges_on l (suc L)) i no_number b;
      }

  -- the starts of the level's forward rows stand in the list, the last of them is the count
  count_there : L < m → starts_off (edges_on l) m ≤ length ss
      → (starts_off (edges_on l) L + edges_on l L < length ss') × (get_or ss' (starts_off (edges_on l) L + edges_on l L) 0 ≡ forward_count l L)
  count_there h r =
      let p = part_room (λ i. edges_on l i + 1) L m h in
      let n : length ss' ≡ length ss = ap length w.starts_are ∙ laid_length ss (starts_off (edges_on l) L) (forward_starts_of l L) in
      (omega arith, starts_laid_lem (forward_cols l L) (edges_on l L) ss (starts_off (edges_on l) L) w.starts_are (omega arith) (edges_on l L) (omega arith))

-- L of m transfers have been laid, behind the given permittivities, which stand in the list at the start
pub record Moving (l : FullLattice) (f : ℕ → C64) (m : ℕ) (eps₀ : List Float) (ss₀ cs₀ : List ℕ) (xs₀ : List Float) (ts₀ us₀ : List ℕ) (ys₀ : List Float)
    (eps : List Float) (ss cs : List ℕ) (xs : List Float) (ts us : List ℕ) (ys : List Float) (o : Offsets) (bad L : ℕ) : Type 0 where
  pub high : L ≤ m
  pub room : TransferRoom l m eps ss cs xs ts us ys
  pub eps_there : EpsIn l f L eps
  pub o_is : o ≡ offsets_at l L
  pub bad_is : bad ≡ first_of (weights_fine l f) L
  pub left : (e : List Float) → GivenLaid l f e eps₀ → TransfersLeft l f L e ss₀ cs₀ xs₀ ts₀ us₀ ys₀ eps ss cs xs ts us ys

module _ (l : FullLattice) (f : ℕ → C64) (m : ℕ) {eps₀ : List Float} {ss₀ cs₀ : List ℕ} {xs₀ : List Float} {ts₀ us₀ : List ℕ} {ys₀ : List Float} where
  pub moving_start : {e : List Float} {n : ℕ} {o : Offsets} → TransferRoom l m e ss₀ cs₀ xs₀ ts₀ us₀ ys₀ → n ≡ edges_on l 0 → eps₀ ≡ laid_numbers e 0 (tabulate f n 0) → o ≡ offsets_at l 0
      → Moving l f m eps₀ ss₀ cs₀ xs₀ ts₀ us₀ ys₀ eps₀ ss₀ cs₀ xs₀ ts₀ us₀ ys₀ o 0 0
  unfolding first_of
  moving_start {e} {n} r en q oe =
      let long = length_tabulate f n 0 in
      let none = sum_to_zero (edges_on l) in
      let first = part_room (edges_on l) 0 (suc m) (omega arith) in
      record {
        high = omega arith;
        room = record {
          eps_room = omega (arith, r.eps_room, ap length q, laid_numbers_length e 0 (tabulate f n 0));
          forward_starts_are = r.forward_starts_are;
          forward_columns_are = r.forward_columns_are;
          forward_values_are = r.forward_values_are;
          turned_starts_are = r.turned_starts_are;
          turned_columns_lem = r.turned_columns_lem;
          turned_values_are = r.turned_values_are;
        };
        eps_there = record {
          each_is = λ i h.
              let z : eps_off l 0 + i ≡ 0 + i = omega arith in
              read_from_is eps₀ (eps_off l 0) i
              ∙ rw (z, eps_at_zero l f) (ap (λ (vs : List Float). number_at vs (0 + i)) q
              ∙ laid_numbers_at e 0 (tabulate f n 0) i no_number (omega arith) (omega (arith, r.eps_room))
              ∙ tabulate_at_0 f n i no_number (omega arith));
        };
        o_is = oe;
        bad_is = refl;
        left = λ e g. transfers_start l f e g;
      }

  module _ {L : ℕ} {eps : List Float} {ss cs : List ℕ} {xs : List Float} {ts us : List ℕ} {ys : List Float} {o : Offsets} {bad : ℕ}
      (u : Moving l f m eps₀ ss₀ cs₀ xs₀ ts₀ us₀ ys₀ eps ss cs xs ts us ys o bad L) where
    module _ (h : L < m) {b : Bool} {eps' : List Float} {ss' cs' : List ℕ} {xs' : List Float} {ts' us' : List ℕ} {ys' : List Float}
        (d : TransferDone l L b eps ss cs xs ts us ys eps' ss' cs' xs' ts' us' ys') where
      pub moving_count : (o.s + edges_on l L < length ss') × (get_or ss' (o.s + edges_on l L) 0 ≡ forward_count l L)
      moving_count = rw u.o_is (count_there l f m L (d.lists f u.eps_there) h u.room.forward_starts_are)

      pub moving_turn : {o' : Offsets} {bad' : ℕ} → o' ≡ offsets_at l (suc L) → bad' ≡ noted bad L b
          → Moving l f m eps₀ ss₀ cs₀ xs₀ ts₀ us₀ ys₀ eps' ss' cs' xs' ts' us' ys' o' bad' (L + 1)
      unfolding first_of
      moving_turn oe be =
          let z : L + 1 ≡ suc L = omega arith in
          let w = d.lists f u.eps_there in
          let p = part_room (edges_on l) (suc L) (suc m) (omega arith) in
          rw z
          (record {
            high = h;
            room = room_left l f m L w u.room;
            eps_there = eps_next l f m L w (omega (arith, u.room.eps_room, sum_to_suc (edges_on l) (suc L)));
            o_is = oe;
            bad_is = be ∙ (λ i. noted (u.bad_is i) L (d.ok_is f u.eps_there i));
            left = λ e g. transfers_turn l f (u.left e g) w;
          })

    pub moving_end : {e : List Float} {n : ℕ} → m ≤ L → n ≡ edges_on l 0 → eps₀ ≡ laid_numbers e 0 (tabulate f n 0)
        → (TransfersLeft l f m e ss₀ cs₀ xs₀ ts₀ us₀ ys₀ eps ss cs xs ts us ys) × (bad ≡ first_of (weights_fine l f) m)
    moving_end {e} h en q =
        let z : L ≡ m = omega (arith, u.high) in
        let r : (TransfersLeft l f L e ss₀ cs₀ xs₀ ts₀ us₀ ys₀ eps ss cs xs ts us ys) × (bad ≡ first_of (weights_fine l f) L) = (u.left e (given_laid l f e en q), u.bad_is) in
        rw z at r

-- numbers copied at the front: two doubles written over the two behind a list, and the fronts of two lists number by number
set_two : (zs : List Float) (y y' x x' : Float) (rs : List Float) → set (set (zs ++ y ∷ (y' ∷ rs)) (length zs) x) (suc (length zs)) x' ≡ ((zs ++ x ∷ []) ++ x' ∷ []) ++ rs
set_two [] y y' x x' rs = refl
set_two (z ∷ zs) y y' x x' rs = ap (λ (us : List Float). z ∷ us) (set_two zs y y' x x' rs)

copied_one : (xs ys : List Float) (k : ℕ) → 2 * suc k ≤ length xs → 2 * suc k ≤ length ys
    → take (2 * suc k) xs ++ drop (2 * suc k) ys ≡ set_number (take (2 * k) xs ++ drop (2 * k) ys) k (number_at xs k)
unfolding number_at
copied_one xs ys k h g =
    let e : 2 * suc k ≡ suc (suc (2 * k)) = omega arith in
    let o : 2 * k + 1 ≡ suc (2 * k) = omega arith in
    let l : length (take (2 * k) xs) ≡ 2 * k = length-take-le (2 * k) xs (omega arith) in
    let t = take-suc xs (2 * k) nan (omega arith) in
    let t' = take-suc xs (suc (2 * k)) nan (omega arith) in
    let d = drop-cons ys (2 * k) nan (omega arith) in
    let d' = drop-cons ys (suc (2 * k)) nan (omega arith) in
    let s = set_two (take (2 * k) xs) (get_or ys (2 * k) nan) (get_or ys (suc (2 * k)) nan) (get_or xs (2 * k) nan) (get_or xs (suc (2 * k)) nan) (drop (suc (suc (2 * k))) ys) in
    let p = set_inside (take (2 * k) xs ++ drop (2 * k) ys) k (number_at xs k) (omega (arith, l, length-append (take (2 * k) xs) (drop (2 * k) ys), length-drop (2 * k) ys)) in
    cc

copied_front : (xs ys : List Float) (n k : ℕ) → k ≤ n → 2 * n ≤ length xs → 2 * n ≤ length ys → Placing (number_at xs) n 0 ys (take (2 * k) xs ++ drop (2 * k) ys) k
copied_front xs ys n zero o h g = placing_start
copied_front xs ys n (suc k) o h g =
    let z : 0 + k ≡ k = omega arith in
    rw (← add-one k) (placing_turn (copied_front xs ys n k (omega arith) h g) (omega arith) refl (rw (z, add-one) (copied_one xs ys k (omega arith) (omega arith))))

pub copied_is : (xs ys : List Float) (n : ℕ) → 2 * n ≤ length xs → 2 * n ≤ length ys → take (2 * n) xs ++ drop (2 * n) ys ≡ laid_numbers ys 0 (tabulate (number_at xs) n 0)
copied_is xs ys n h g = placing_end (copied_front xs ys n n (omega arith) h g) (omega arith)

-- a number laid at the front
pub placing_front : {f : ℕ → C64} {n : ℕ} {xs : List Float} {k : ℕ} {ys zs : List Float} {v : C64} → Placing f n 0 xs ys k → k < n → v ≡ f k → zs ≡ set_number ys k v → Placing f n 0 xs zs (k + 1)
placing_front {k = k} p h e q = let z : 0 + k ≡ k = omega arith in placing_turn p h e (rw z q)

-- what the given permittivities ask for
pub given_ready : (l : FullLattice) → Limits l.grid → (m : ℕ) (given : List Float) {n : ℕ} {eps : List Float} {ss cs : List ℕ} {xs : List Float} {ts us : List ℕ} {ys : List Float} → n ≡ edges_on l 0
    → 2 * edges_on l 0 ≤ length given → TransferRoom l m eps ss cs xs ts us ys → (n ≤ 12288) × (2 * n ≤ length given) × (2 * n ≤ length eps)
given_ready l limits m given e h r =
    (omega (arith, e, edges_few l limits 0), omega (arith, e, h), omega (arith, e, r.eps_room, part_room (edges_on l) 0 (suc m) (omega arith), sum_to_zero (edges_on l)))
