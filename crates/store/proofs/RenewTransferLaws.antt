-- The rows of a transfer worked out anew: what each kind's code asks for and leaves is its rule over the numbers that stand in the lists, whatever these are.
-- Assumes nothing.
use Prim.Native.Nat.{ℕ, zero, suc, ◌+◌, ◌*◌, ◌/◌, ◌%◌, ◌≤◌, ◌<◌, ◌^◌}
use mathlib.Core.Path.{◌≡◌, refl, sym, ap, ◌∙◌}
use mathlib.Core.List.{List, [], ◌∷◌, map}
use mathlib.Core.Bool.{Bool}
use native.Mathlib.Omega.{arith}
use lib.ListN.{length, get_or}
use lib.Ieee.{Float}
use Rattle.numbers.specs.declared.C64.{C64}
use Rattle.numbers.specs.Complex.{finite}
use Rattle.numbers.specs.Places.{set_number}
use Rattle.numbers.specs.Lists.{tabulate, laid_numbers, all_finite, read_from, start_of}
use Rattle.numbers.specs.Terms.{numbers_of}
use Rattle.numbers.specs.Transpose.{turned_columns, turned_reads}
use Rattle.numbers.specs.Turning.{Turnable, TurnedPut}
use Rattle.numbers.proofs.LoopLaws.{start_suc}
use Rattle.numbers.proofs.StoredLaws.{start_room}
use Rattle.numbers.proofs.Tutorial.{none_repeats}
use Rattle.numbers.proofs.TurnedLaws.{stand_fewer, stand_agree}
use Rattle.numbers.proofs.SumLaws.{sum_to_zero, sum_to_suc, sum_most}
use Rattle.lattice.specs.declared.grid.Grid3d.{Grid3d}
use Rattle.lattice.specs.declared.line.Line.{Line}
use Rattle.lattice.specs.declared.levels.Three.{Three}
use Rattle.lattice.specs.Grid.{Limits, unknowns_of, at_of}
use Rattle.lattice.proofs.GridLaws.{at_inside}
use Rattle.lattice.specs.Lattice.{FullLattice}
use Rattle.lattice.specs.Levels.{three_at}
use Rattle.weights.specs.TwoLevels.{TwoLevels, grid_with, fine_grid, coarse_grid, two_at, two_of}
use Rattle.weights.specs.CoarseEps.{coarse_eps}
use Rattle.weights.specs.Tables.{Paired, NestedIn, ChainRoom, node_no, coarse_eps_in, SpanOf, RowLaid, count_in}
use Rattle.weights.specs.Prolongation.{weight_columns, weight_numbers, prolongation_row}
use Rattle.weights.specs.declared.rows.Span.{Span}
use Rattle.weights.proofs.Equations.{weight_numbers_is}
use Rattle.weights.proofs.MeaningLaws.{Pulled, span_of, numbers_row_lem, count_at_lem}
use Rattle.weights.proofs.NoRepeats.{names_no_edge_twice}
use Rattle.weights.proofs.ProductLaws.{count_product}
use Rattle.weights.proofs.PairLaws.{two_at_lem, paired_at}
use Rattle.weights.proofs.EpsLaws.{Chain, chain, fine_in, coarse_in, nested_in, chain_room, eps_same}
use Rattle.lattice.specs.Sound.{full}
use Rattle.weights.specs.Pair.{two}
use Rattle.weights.specs.declared.pair.Pair.{Pair}
use Rattle.operators.specs.Averaged.{averaged_eps, PairedLines}
use Rattle.operators.specs.LevelLists.{edges_on}
use Rattle.operators.proofs.HatLaws.{pairs_at}
use Rattle.operators.proofs.RangeLaws.{fine_edges_lem, coarse_edges_lem}
use Rattle.store.specs.Places.{get}
use Rattle.store.specs.Spots.{permittivity, forwards}
use Rattle.store.specs.Layout.{forward_cols, turned_cols, next_edges, forward_count, turned_count, eps_off, averaged_off, forward_off, turned_off, starts_off, eps_need}
use Rattle.store.specs.Phases.{HasLines, three_in}
use Rattle.store.specs.PhaseSteps.{averaged_from}
use Rattle.store.specs.FillSteps.{offsets_at, only_count}
use Rattle.store.specs.Rows.{coarse, averaged, forward, turned, eps_in, averaged_in, numbers, level}
use Rattle.store.specs.Renewed.{Fixed, Five, five, store_of, FiveRoom, Shaped}
use Rattle.store.specs.Parts.{row_by, size_by, part_size, part_off, part_count, flagged_to, flagged_part}
use Rattle.store.specs.Flagged.{PartFlags, PairAt, Made, with_eps, with_forward, with_turned, StartsAt, WeightsReady, TurnedReady}
use Rattle.store.specs.Hierarchy.{LevelPair}
use Rattle.store.specs.declared.Choice.{Choice}
use Rattle.store.specs.declared.Choice.TheVariants.{Galerkin, Rediscretized}
use Rattle.store.specs.declared.transfers.Offsets.{Offsets}
use Rattle.store.proofs.LineLaws.{both_lines, lines_two, level_two}
use Rattle.numbers.proofs.PartLaws.{part_room}
use Rattle.store.proofs.ColumnLaws.{turned_cols_are}
use Rattle.store.proofs.ColumnLaws.{turned_many}
use Rattle.store.proofs.SizeLaws.{edges_few, forward_few, eps_low, starts_low, forward_low, turned_low}
use Rattle.store.proofs.AveragedLaws.{averaged_low, averaged_apart}
use Rattle.store.proofs.WorkLaws.{look_from}
use Rattle.store.proofs.FlaggedLaws.{part_is, number_laid, number_finite, row_renewed}

-- ---- the flags of a part are there

module _ {l : FullLattice} {ch : Choice} {m base : ℕ} {flags : List ℕ} (L k n : ℕ) (h : k < 7) (f : PartFlags l ch m (suc (7 * L + k)) base flags) (e : n ≡ size_by l ch k L) where
  pub part_end : flagged_to (row_by k L) flags base n ≡ flagged_part l ch m flags (suc (7 * L + k))
  part_end = ap (flagged_to (row_by k L) flags base) e ∙ part_is l ch m flags base L k h f.base_is

-- every row of a transfer counts as its coarse level
pub row_level : (l : FullLattice) (ch : Choice) (m k L i : ℕ) → level l ch m (row_by k L i) ≡ suc L
unfolding row_by
row_level l ch m zero L i = refl
row_level l ch m (suc zero) L i = refl
row_level l ch m (suc (suc zero)) L i = refl
row_level l ch m (suc (suc (suc zero))) L i = refl
row_level l ch m (suc (suc (suc (suc zero)))) L i = refl
row_level l ch m (suc (suc (suc (suc (suc zero))))) L i = refl
row_level l ch m (suc (suc (suc (suc (suc (suc k)))))) L i = refl

-- no part has more rows than a level has edges
only_few : (c : Choice) (n : ℕ) → n ≤ 12288 → only_count c n ≤ 12288
only_few Galerkin n h = omega arith
only_few Rediscretized n h = h

-- how many rows there are of the kinds of a transfer
module _ (l : FullLattice) (ch : Choice) (L : ℕ) {n : ℕ} where
  pub coarse_sized : n ≡ edges_on l (suc L) → n ≡ size_by l ch 0 L
  unfolding size_by
  coarse_sized e = e

  pub forward_sized : n ≡ edges_on l L → n ≡ size_by l ch 2 L
  unfolding size_by
  forward_sized e = e

  pub turned_sized : n ≡ edges_on l (suc L) → n ≡ size_by l ch 3 L
  unfolding size_by
  turned_sized e = e

pub averaged_sized : (l : FullLattice) (L : ℕ) {n : ℕ} → n ≡ edges_on l (suc L) → n ≡ size_by l Rediscretized 1 L
unfolding size_by
averaged_sized l L e = e

kind_few : (l : FullLattice) → Limits l.grid → (ch : Choice) (k L : ℕ) → size_by l ch k L ≤ 12288
unfolding size_by
kind_few l limits ch zero L = edges_few l limits (suc L)
kind_few l limits ch (suc zero) L = only_few ch (edges_on l (suc L)) (edges_few l limits (suc L))
kind_few l limits ch (suc (suc zero)) L = edges_few l limits L
kind_few l limits ch (suc (suc (suc zero))) L = edges_few l limits (suc L)
kind_few l limits ch (suc (suc (suc (suc zero)))) L = only_few ch (edges_on l L) (edges_few l limits L)
kind_few l limits ch (suc (suc (suc (suc (suc zero))))) L = only_few ch (edges_on l (suc L)) (edges_few l limits (suc L))
kind_few l limits ch (suc (suc (suc (suc (suc (suc k)))))) L = edges_few l limits (suc L)

pub size_few : (l : FullLattice) → Limits l.grid → (ch : Choice) (m p : ℕ) → part_size l ch m p ≤ 12288
unfolding part_size
size_few l limits ch zero zero = edges_few l limits 0
size_few l limits ch (suc m) zero = omega arith
size_few l limits ch m (suc p) = kind_few l limits ch (p % 7) (p / 7)

-- from room for the flags of all parts
pub part_flags : (l : FullLattice) → Limits l.grid → (ch : Choice) (m : ℕ) → m ≤ 11 → (p base : ℕ) (flags : List ℕ) → p < part_count m → part_off l ch m (part_count m) ≤ 64 * length flags
    → base ≡ part_off l ch m p → PartFlags l ch m p base flags
part_flags l limits ch m deep p base flags h room e =
    record {
      base_is = e;
      there = omega (arith, part_room (part_size l ch m) p (part_count m) h);
      low = omega (arith, sum_most (part_size l ch m) 12288 p (λ i b. size_few l limits ch m i));
    }

-- a part that has no rows
pub part_none : (l : FullLattice) (ch : Choice) (m : ℕ) (flags : List ℕ) (L k : ℕ) → k < 7 → size_by l ch k L ≡ 0 → flagged_part l ch m flags (suc (7 * L + k)) ≡ []
unfolding flagged_to
part_none l ch m flags L k h e =
    let base = part_off l ch m (suc (7 * L + k)) in
    sym (part_is l ch m flags base L k h refl) ∙ ap (flagged_to (row_by k L) flags base) e

-- ---- levels L and L + 1

module _ {l : FullLattice} {L : ℕ} {fine next : Three} {nn : List ℕ} (p : PairAt l L fine next nn) where
  pub pair_two : two_of l fine next ≡ two_at l L
  pair_two = (λ i. two_of l (p.fine_is i) (p.coarse_is i)) ∙ two_at_lem l p.limits L

  pub pair_paired : Paired l fine next
  pair_paired = rw (p.fine_is, p.coarse_is) (paired_at l L p.limits)

  pub pair_lines : PairedLines l fine next
  pair_lines = rw (p.fine_is, p.coarse_is) (pairs_at l p.limits L)

  pub pair_nodes : nn ≡ tabulate (node_no (two_of l fine next)) 195 0
  pair_nodes = p.nodes_are ∙ ap (λ (t : TwoLevels). tabulate (node_no t) 195 0) (sym pair_two)

  pub pair_coarse : unknowns_of (coarse_grid (two_of l fine next)) ≡ edges_on l (suc L)
  pair_coarse = ap (λ (t : TwoLevels). unknowns_of (coarse_grid t)) pair_two ∙ coarse_edges_lem l L

  pub pair_fine : unknowns_of (fine_grid (two_of l fine next)) ≡ edges_on l L
  pair_fine = ap (λ (t : TwoLevels). unknowns_of (fine_grid t)) pair_two ∙ fine_edges_lem l L

  pub pair_room : {from to : ℕ} {eps : List Float} → ChainRoom (edges_on l L) (edges_on l (suc L)) from to eps
      → ChainRoom (unknowns_of (fine_grid (two_of l fine next))) (unknowns_of (coarse_grid (two_of l fine next))) from to eps
  pair_room w = record { apart = omega (arith, w.apart, pair_fine); room = omega (arith, w.room, pair_coarse); low = w.low }

-- from the lines of all levels
pub pair_at_lem : (l : FullLattice) → Limits l.grid → (m : ℕ) {lines : List Line} → HasLines l m lines → {L : ℕ} → L < m → {fine next : Three} {nn : List ℕ} → fine ≡ three_in lines L → next ≡ three_in lines (L + 1)
    → nn ≡ tabulate (node_no (two_of l fine next)) 195 0 → PairAt l L fine next nn
pair_at_lem l limits m has {L} low p q n =
    let e = both_lines l limits m has low p q in
    record { limits = limits; fine_is = e.0; coarse_is = e.1; nodes_are = n ∙ ap (λ (t : TwoLevels). tabulate (node_no t) 195 0) (lines_two l limits m has low p q) }

-- from a pair of the hierarchy
pub pair_nodes_at : {l : FullLattice} → Limits l.grid → {L : ℕ} {pair : Pair} {nn : List ℕ} → LevelPair l L pair → nn ≡ tabulate (node_no (two pair)) 195 0
    → PairAt l L pair.fine pair.coarse nn
pair_nodes_at limits p e =
    record { limits = limits; fine_is = p.fine_is; coarse_is = p.coarse_is; nodes_are = e ∙ ap (λ (t : TwoLevels). tabulate (node_no t) 195 0) (level_two p limits) }

-- the lines of such a pair are nested
pub pair_nested : {l : FullLattice} → Limits l.grid → {L : ℕ} {pair : Pair} → LevelPair l L pair → PairedLines (full pair.l) pair.fine pair.coarse
pair_nested {l} limits {L} p = rw (p.base_is, p.fine_is, p.coarse_is) (pairs_at l limits L)

-- ---- what a look finds

pub eps_reader : (l : FullLattice) (ch : Choice) (m : ℕ) (ends : List ℕ) (x : Fixed) (v : Five) (L : ℕ) → eps_in l ch m (get (store_of ends x v)) L ≡ read_from v.e (eps_off l L)
eps_reader l ch m ends x v L = λ i q. look_from (store_of ends x v) permittivity (eps_off l L) q i

pub averaged_reader : (l : FullLattice) (ch : Choice) (m : ℕ) (ends : List ℕ) (x : Fixed) (v : Five) (L : ℕ)
    → averaged_in l ch m (get (store_of ends x v)) L ≡ read_from v.e (averaged_from l m L)
averaged_reader l ch m ends x v zero = (λ i q. look_from (store_of ends x v) permittivity (eps_off l 0) q i) ∙ ap (read_from v.e) (sum_to_zero (edges_on l))
averaged_reader l ch m ends x v (suc L) = λ i q. look_from (store_of ends x v) permittivity (averaged_off l m L) q i

-- ---- one number of the permittivities

-- a coarse permittivity
module _ {l : FullLattice} {L : ℕ} {fine next : Three} {nn : List ℕ} (p : PairAt l L fine next nn) {from to : ℕ} {eps : List Float}
    (room : ChainRoom (edges_on l L) (edges_on l (suc L)) from to eps) (places : (from ≡ eps_off l L) × (to ≡ eps_off l (suc L)))
    {gf gc : Grid3d} (fe : gf ≡ grid_with l.grid fine.x.cells fine.y.cells fine.z.cells)
    (ce : gc ≡ grid_with l.grid next.x.cells next.y.cells next.z.cells) {r : ℕ} (low : r < edges_on l (suc L)) where
  coarse_chain : Chain l fine next gf gc nn from to eps
  coarse_chain = chain (pair_paired p) (pair_room p room) fe ce (pair_nodes p)

  coarse_low : r < unknowns_of (coarse_grid (two_of l fine next))
  coarse_low = omega (arith, pair_coarse p)

  pub coarse_asked : ((Limits gf) × (Limits gc)) × ((NestedIn gf gc nn) × (((from ≤ 2 ^ 32) × (2 * (from + unknowns_of gf) ≤ length eps)) × ((r < unknowns_of gc) × (to ≤ 2 ^ 32))))
  coarse_asked =
      let q = coarse_chain in
      let w = chain_room q in
      let n : unknowns_of gc ≡ edges_on l (suc L) = ap unknowns_of q.coarse_grid_lem ∙ pair_coarse p in
      ((fine_in q, coarse_in q), (nested_in q, ((omega (arith, w.apart, w.low), omega (arith, w.apart, w.room)), (omega arith, w.low))))

  coarse_value : (f : ℕ → C64) → coarse_eps_in gf gc nn f r ≡ coarse_eps (two_at l L) f r
  coarse_value f =
      let q = coarse_chain in
      rw (q.fine_grid_lem, q.coarse_grid_lem, q.node_list) (eps_same (two_of l fine next) q.paired.coarse_limits f r coarse_low)
      ∙ ap (λ (t : TwoLevels). coarse_eps t f r) (pair_two p)

  pub coarse_done : (ch : Choice) (m : ℕ) {b : Bool} {eps' : List Float}
      → eps' ≡ set_number eps (to + r) (coarse_eps_in gf gc nn (read_from eps from) r) → b ≡ finite (coarse_eps_in gf gc nn (read_from eps from) r)
      → Made l ch m (row_by 0 L r) with_eps eps b eps'
  unfolding row_by numbers
  coarse_done ch m {b} {eps'} e d =
      let v = coarse_eps_in gf gc nn (read_from eps from) r in
      let laid_is : eps' ≡ laid_numbers eps (eps_off l (suc L) + r) (v ∷ []) = e ∙ number_laid eps (to + r) v ∙ ap (λ (k : ℕ). laid_numbers eps (k + r) (v ∷ [])) places.1 in
      record {
        each = λ x y.
            row_renewed l ch m x (coarse L r) (with_eps y eps) (with_eps y eps') b (v ∷ [])
            (λ ends w. ap (λ (g : ℕ → C64). coarse_eps (two_at l L) g r ∷ []) (eps_reader l ch m ends x (with_eps y eps) L ∙ ap (read_from eps) (sym places.0))
            ∙ ap (λ (z : C64). z ∷ []) (sym (coarse_value (read_from eps from))))
            (λ ends j. store_of ends x (with_eps y (laid_is j)))
            (λ ends. omega (arith, room.room, places.1))
            (d ∙ number_finite v);
      }

-- an averaged one
module _ {l : FullLattice} {L : ℕ} {fine next : Three} {nn : List ℕ} (p : PairAt l L fine next nn) (m : ℕ) {from to : ℕ} {eps : List Float}
    (room : ChainRoom (edges_on l L) (edges_on l (suc L)) from to eps) (places : (from ≡ averaged_from l m L) × (to ≡ averaged_off l m L)) {r : ℕ} (low : r < edges_on l (suc L)) where
  pub averaged_asked : (PairedLines l fine next) × ((nn ≡ tabulate (node_no (two_of l fine next)) 195 0) × ((r < unknowns_of (coarse_grid (two_of l fine next)))
      × (ChainRoom (unknowns_of (fine_grid (two_of l fine next))) (unknowns_of (coarse_grid (two_of l fine next))) from to eps)))
  averaged_asked = (pair_lines p, (pair_nodes p, (omega (arith, pair_coarse p), pair_room p room)))

  pub averaged_done : (ch : Choice) {b : Bool} {eps' : List Float}
      → eps' ≡ set_number eps (to + r) (averaged_eps (two_of l fine next) (read_from eps from) r) → b ≡ finite (averaged_eps (two_of l fine next) (read_from eps from) r)
      → Made l ch m (row_by 1 L r) with_eps eps b eps'
  unfolding row_by numbers
  averaged_done ch {b} {eps'} e d =
      let v = averaged_eps (two_of l fine next) (read_from eps from) r in
      let laid_is : eps' ≡ laid_numbers eps (averaged_off l m L + r) (v ∷ []) = e ∙ number_laid eps (to + r) v ∙ ap (λ (k : ℕ). laid_numbers eps (k + r) (v ∷ [])) places.1 in
      record {
        each = λ x y.
            row_renewed l ch m x (averaged L r) (with_eps y eps) (with_eps y eps') b (v ∷ [])
            (λ ends w. ap (λ (g : ℕ → C64). averaged_eps (two_at l L) g r ∷ []) (averaged_reader l ch m ends x (with_eps y eps) L ∙ ap (read_from eps) (sym places.0))
            ∙ ap (λ (t : TwoLevels). averaged_eps t (read_from eps from) r ∷ []) (sym (pair_two p)))
            (λ ends j. store_of ends x (with_eps y (laid_is j)))
            (λ ends. omega (arith, room.room, places.1))
            (d ∙ number_finite v);
      }

-- ---- the places of a level's permittivities

-- in the first chain, whichever the choice
pub coarse_places : (l : FullLattice) → Limits l.grid → (ch : Choice) (m : ℕ) {L : ℕ} → (L < m) × (m ≤ 11) → {o : Offsets} → o ≡ offsets_at l L → (eps : List Float) → 2 * eps_need l ch m ≤ length eps
    → (ChainRoom (edges_on l L) (edges_on l (suc L)) o.feps o.ceps eps) × ((o.feps ≡ eps_off l L) × (o.ceps ≡ eps_off l (suc L)))
coarse_places l limits ch m {L} h {o} e eps room =
    let fe : o.feps ≡ eps_off l L = ap (λ (z : Offsets). z.feps) e in
    let ce : o.ceps ≡ eps_off l (suc L) = ap (λ (z : Offsets). z.ceps) e in
    let low = h.0 in
    let deep = h.1 in (
      record {
        apart = omega (arith, fe, ce, sum_to_suc (edges_on l) L);
        room = omega (arith, ce, part_room (edges_on l) (suc L) (suc m) (omega arith), chain_need ch);
        low = omega (arith, ce, eps_low l limits (suc L));
      },
      (fe, ce),
    )
  where
    chain_need : (c : Choice) → eps_off l (suc m) ≤ eps_need l c m
    chain_need Galerkin = omega arith
    chain_need Rediscretized = omega arith

-- in the averaged chain
pub averaged_places : (l : FullLattice) → Limits l.grid → (m : ℕ) {L : ℕ} → (L < m) × (m ≤ 11) → {from to : ℕ} → (from ≡ averaged_from l m L) × (to ≡ averaged_off l m L) → (eps : List Float)
    → 2 * averaged_off l m m ≤ length eps → ChainRoom (edges_on l L) (edges_on l (suc L)) from to eps
averaged_places l limits m {L} h e eps room =
    let low = h.0 in
    let deep = h.1 in
    record {
      apart = omega (arith, e.0, e.1, averaged_apart l m L);
      room = omega (arith, e.1, part_room (next_edges l) L m low);
      low = omega (arith, e.1, averaged_low l limits m L deep (omega arith));
    }

-- ---- a forward row

-- the starts of a transfer's forward rows, and a place among their numbers
module _ (l : FullLattice) (L : ℕ) {first : ℕ} {starts : List ℕ} (w : StartsAt (forward_cols l L) (edges_on l L) first starts) {r : ℕ} (low : r < edges_on l L) where
  forward_start : get_or starts (first + r) 0 ≡ start_of (forward_cols l L) r
  forward_start = w.starts_are r (omega arith)

  forward_place : get_or starts (first + r) 0 + length (forward_cols l L r) ≤ forward_count l L
  forward_place = omega (arith, forward_start, start_room (forward_cols l L) (edges_on l L) r low)

  pub start_small : (k : ℕ) → k + forward_count l L ≤ 2 ^ 32 → k + get_or starts (first + r) 0 ≤ 2 ^ 32
  start_small k h = omega (arith, forward_place)

  module _ {s : Span} {ps ds ns : List ℕ} {xs eps : List Float} (t : WeightsReady l L s ps ds ns xs eps) {k : ℕ} (values : List Float)
      (h : (k ≡ forward_off l L) × (k + forward_count l L ≤ 2 ^ 32) × (2 * (k + forward_count l L) ≤ length values)) where
    pub forward_asked : (SpanOf s ps ds ns xs eps) × ((r < unknowns_of s.fine) × ((k + get_or starts (first + r) 0 ≤ 2 ^ 32)
        × (2 * (k + get_or starts (first + r) 0 + count_in ns (at_of s.fine r)) ≤ length values)))
    forward_asked = (t.span, (omega (arith, t.fine_is), (start_small k h.1, omega (arith, t.counts_are r low, forward_place, h.2))))

    pub forward_done : (ch : Choice) (m : ℕ) {b : Bool} {values' : List Float}
        → RowLaid s ps ds ns xs eps values (k + get_or starts (first + r) 0) r b values' → Made l ch m (row_by 2 L r) (with_forward eps) values b values'
    unfolding row_by numbers
    forward_done ch m {b} {values'} d =
        let vs = weight_numbers (two_at l L) (read_from eps (eps_off l L)) (read_from eps (eps_off l (suc L))) r in
        let at_is : k + get_or starts (first + r) 0 ≡ forward_off l L + start_of (forward_cols l L) r = omega (arith, h.0, forward_start) in
        let laid_is : values' ≡ laid_numbers values (forward_off l L + start_of (forward_cols l L) r) vs = d.numbers_are ∙ (λ j. laid_numbers values (at_is j) (t.rows_are r low j)) in
        record {
          each = λ x y.
              row_renewed l ch m x (forward L r) (with_forward eps y values) (with_forward eps y values') b vs
              (λ ends w. (λ j. numbers_of (prolongation_row (two_at l L) (eps_reader l ch m ends x (with_forward eps y values) L j) (eps_reader l ch m ends x (with_forward eps y values) (suc L) j) r))
              ∙ sym (weight_numbers_is (two_at l L) (read_from eps (eps_off l L)) (read_from eps (eps_off l (suc L))) r))
              (λ ends j. store_of ends x (with_forward eps y (laid_is j)))
              (λ ends. omega (arith, h.0, h.2, forward_start, forward_place))
              (d.finite ∙ ap all_finite (t.rows_are r low));
        }

-- ---- the tables of a transfer

pub weights_ready : {l : FullLattice} (L : ℕ) → Limits l.grid → {fine next : Three} → fine ≡ three_at l L → next ≡ three_at l (suc L) → {gf gc : Grid3d} {ps ns ds : List ℕ} {xs : List Float}
    → Pulled l fine next gf gc ps ns ds xs → {from to : ℕ} {eps : List Float} → ChainRoom (edges_on l L) (edges_on l (suc L)) from to eps → (from ≡ eps_off l L) × (to ≡ eps_off l (suc L))
    → WeightsReady l L (record { fine = gf; coarse = gc; feps = from; ceps = to }) ps ds ns xs eps
unfolding forward_cols
weights_ready {l} L limits {fine} {next} fe ne {gf} {gc} {ps} {ns} {ds} {xs} s {from} {to} {eps} room places =
    let t = two_of l fine next in
    let two : t ≡ two_at l L = (λ i. two_of l (fe i) (ne i)) ∙ two_at_lem l limits L in
    let n : unknowns_of (fine_grid t) ≡ edges_on l L = ap (λ (z : TwoLevels). unknowns_of (fine_grid z)) two ∙ fine_edges_lem l L in
    let k : unknowns_of (coarse_grid t) ≡ edges_on l (suc L) = ap (λ (z : TwoLevels). unknowns_of (coarse_grid z)) two ∙ coarse_edges_lem l L in
    let fine_is : unknowns_of gf ≡ edges_on l L = ap unknowns_of s.slots.fine_is ∙ n in
    record {
      span = span_of s (record { fine_room = omega (arith, room.apart, room.room); coarse_room = omega (arith, room.room); fine_low = omega (arith, room.apart, room.low); coarse_low = room.low });
      fine_is = fine_is;
      counts_are = λ r h.
          ap (λ (g : Grid3d). count_in ns (at_of g r)) s.slots.fine_is
          ∙ count_at_lem t (at_of (fine_grid t) r) s.slots.paired.fine_limits (at_inside s.slots.paired.fine_limits r (omega arith)) s.slots.counts
          ∙ sym (count_product t r) ∙ ap (λ (z : TwoLevels). length (weight_columns z r)) two;
      rows_are = λ r h.
          numbers_row_lem s (read_from eps from) (read_from eps to) r (omega arith)
          ∙ (λ i. weight_numbers (two i) (read_from eps (places.0 i)) (read_from eps (places.1 i)) r);
    }

-- the same of a pair of the hierarchy
pub pair_weights : {l : FullLattice} (L : ℕ) → Limits l.grid → {pair : Pair} → LevelPair l L pair → {gf gc : Grid3d} {ps ns ds : List ℕ} {xs : List Float}
    → Pulled (full pair.l) pair.fine pair.coarse gf gc ps ns ds xs → {from to : ℕ} {eps : List Float} → ChainRoom (edges_on l L) (edges_on l (suc L)) from to eps
    → (from ≡ eps_off l L) × (to ≡ eps_off l (suc L)) → WeightsReady l L (record { fine = gf; coarse = gc; feps = from; ceps = to }) ps ds ns xs eps
pair_weights L limits p s room places = weights_ready L limits p.fine_is p.coarse_is (rw (p.base_is) at s) room places

-- where a transfer's forward rows stand
pub starts_from : (l : FullLattice) (L : ℕ) {o : Offsets} {cols : ℕ → List ℕ} {n : ℕ} {ss : List ℕ} → o ≡ offsets_at l L → StartsAt cols n (starts_off (edges_on l) L) ss → StartsAt cols n o.s ss
starts_from l L e w = rw e w

pub forward_places : (l : FullLattice) → Limits l.grid → (m : ℕ) {L : ℕ} → (L < m) × (m ≤ 11) → {o : Offsets} → o ≡ offsets_at l L → (values : List Float) → 2 * forward_off l m ≤ length values
    → (o.k ≡ forward_off l L) × (o.k + forward_count l L ≤ 2 ^ 32) × (2 * (o.k + forward_count l L) ≤ length values)
forward_places l limits m {L} h {o} e values room =
    let k : o.k ≡ forward_off l L = ap (λ (z : Offsets). z.k) e in
    let low = h.0 in
    let deep = h.1 in
    (k, omega (arith, forward_low l limits L, forward_few l limits L), omega (arith, part_room (forward_count l) L m low))

-- ---- a turned row

-- whatever counts the forward rows
pub turned_counted : {l : FullLattice} {L n : ℕ} {o : Offsets} {ss cs : List ℕ} {xs : List Float} {ts us : List ℕ} → TurnedReady l L o (edges_on l L) ss cs xs ts us → n ≡ edges_on l L
    → TurnedReady l L o n ss cs xs ts us
turned_counted w e = record { limits = w.limits; offsets = w.offsets; count = e; forward = w.forward; turned = w.turned; numbers_room = w.numbers_room }

module _ {l : FullLattice} {L n : ℕ} {o : Offsets} {ss cs : List ℕ} {xs : List Float} {ts us : List ℕ} (w : TurnedReady l L o n ss cs xs ts us) (c : ℕ) (low : c < edges_on l (suc L)) where
  turnable : Turnable (forward_cols l L) ss o.s cs xs o.k n ts o.ts us o.tk c
  unfolding forward_cols
  turnable =
      rw (w.offsets, w.count)
      (record {
        once = none_repeats (weight_columns (two_at l L)) (edges_on l L) (names_no_edge_twice l L w.limits (edges_on l L) (omega (arith, fine_edges_lem l L)));
        forward = w.forward;
        turned = stand_agree (turned_columns (forward_cols l L) (edges_on l L)) (λ r b. turned_cols_are l L r) (stand_fewer w.turned (suc c) low);
        numbers_room = w.numbers_room;
      })

  -- where the row ends
  row_end : o.tk + get_or ts (o.ts + c + 1) 0 ≡ turned_off l L + start_of (turned_cols l L) (suc c)
  row_end =
      let z : starts_off (next_edges l) L + c + 1 ≡ starts_off (next_edges l) L + suc c = omega arith in
      rw (w.offsets, z) (ap (λ (k : ℕ). turned_off l L + k) (w.turned.starts_are (suc c) low))

  row_begin : o.tk + get_or ts (o.ts + c) 0 ≡ turned_off l L + start_of (turned_cols l L) c
  row_begin = rw w.offsets (ap (λ (k : ℕ). turned_off l L + k) (w.turned.starts_are c (omega arith)))

  module _ (ys : List Float) (deep : L ≤ 11) (room : 2 * (turned_off l L + turned_count l L) ≤ length ys) where
    pub turned_asked : ((cols : ℕ → List ℕ) × Turnable cols ss o.s cs xs o.k n ts o.ts us o.tk c)
        × ((o.tk + get_or ts (o.ts + c + 1) 0 < 2 ^ 40) × (2 * (o.tk + get_or ts (o.ts + c + 1) 0) ≤ length ys))
    turned_asked =
        let a = start_room (turned_cols l L) (edges_on l (suc L)) c low in
        let b = start_suc (turned_cols l L) c in (
          (forward_cols l L, turnable),
          (
            omega (arith, row_end, turned_low l w.limits L, turned_many l w.limits L, forward_few l w.limits L),
            omega (arith, row_end),
          ),
        )

    pub turned_done : (ch : Choice) (m : ℕ) {b : Bool} {ys' : List Float}
        → TurnedPut ss o.s cs xs o.k n ts o.ts us ys o.tk c b ys' → Made l ch m (row_by 3 L c) (with_turned xs) ys b ys'
    unfolding row_by numbers
    turned_done ch m {b} {ys'} d =
        let vs = map (read_from xs o.k) (turned_reads (forward_cols l L) n c) in
        let reads_are : vs ≡ map (read_from xs (forward_off l L)) (turned_reads (forward_cols l L) (edges_on l L) c) =
        (λ j. map (read_from xs (w.offsets j).k) (turned_reads (forward_cols l L) (w.count j) c)) in
        let laid_is : ys' ≡ laid_numbers ys (turned_off l L + start_of (turned_cols l L) c) vs = d.numbers_are (forward_cols l L) turnable ∙ ap (λ (k : ℕ). laid_numbers ys k vs) row_begin in
        record {
          each = λ x y.
              row_renewed l ch m x (turned L c) (with_turned xs y ys) (with_turned xs y ys') b vs
              (λ ends z. (λ j. map (λ (k : ℕ). look_from (store_of ends x (with_turned xs y ys)) forwards (forward_off l L) k j) (turned_reads (forward_cols l L) (edges_on l L) c)) ∙ sym reads_are)
              (λ ends j. store_of ends x (with_turned xs y (laid_is j)))
              (λ ends. omega (arith, room, start_room (turned_cols l L) (edges_on l (suc L)) c low))
              (d.finite (forward_cols l L) turnable);
        }

-- ---- all of it from what refusal 11 has tested

module _ {l : FullLattice} {ch : Choice} {m : ℕ} {x : Fixed} (w : Shaped l ch m x) {L : ℕ} (h : L < m) where
  pub shaped_starts : StartsAt (forward_cols l L) (edges_on l L) (starts_off (edges_on l) L) x.fs
  shaped_starts =
      record {
        starts_are = ((w.structured (five [] [] [] [] [])).forward_are L h).starts_are;
        starts_room = omega (arith, part_room (λ i. edges_on l i + 1) L m h, w.room.fs_room);
        starts_low = omega (arith, starts_low l w.limits L, edges_few l w.limits L, w.few);
      }

  pub shaped_turned : {o : Offsets} {v : Five} → o ≡ offsets_at l L → FiveRoom l ch m v → TurnedReady l L o (edges_on l L) x.fs x.fc v.f x.ts x.tc
  shaped_turned e room =
      let s = w.structured (five [] [] [] [] []) in
      record {
        limits = w.limits;
        offsets = e;
        count = refl;
        forward = record {
          starts_are = (s.forward_are L h).starts_are;
          columns_are = (s.forward_are L h).columns_are;
          starts_room = omega (arith, part_room (λ i. edges_on l i + 1) L m h, w.room.fs_room);
          columns_room = omega (arith, part_room (forward_count l) L m h, w.room.fc_room);
        };
        turned = record {
          starts_are = (s.turned_are L h).starts_are;
          columns_are = (s.turned_are L h).columns_are;
          starts_room = omega (arith, part_room (λ i. next_edges l i + 1) L m h, w.room.ts_room);
          columns_room = omega (arith, part_room (turned_count l) L m h, w.room.tc_room);
        };
        numbers_room = omega (arith, part_room (forward_count l) L m h, room.f_room);
      }
