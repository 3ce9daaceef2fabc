-- The first level that refusal 11 finds: line ends, transfers, operators, and all of them.
-- Assumes nothing.
use Prim.Native.Nat.{ℕ, zero, suc, ◌+◌, ◌*◌, ◌/◌, ◌%◌, ◌≤◌, ◌<◌, ◌^◌, min}
use mathlib.Core.Path.{◌≡◌, refl, sym, ap, ◌∙◌, subst}
use mathlib.Core.Logic.{◌⊎◌, inl, inr}
use mathlib.Core.Bool.{Bool, true, false, ◌&&◌, ◌||◌, false≢true, and_assoc}
use mathlib.Core.List.{List}
use native.Mathlib.Omega.{arith}
use native.Mathlib.Decide.{dec_lt}
use lib.Dec.{eqb, leb, ltb}
use lib.ListN.{length, get_or, set}
use borrow.Author.Tests.{eqb-true, eqb-false, lt-leb, le-leb}
use Rattle.std.proofs.lemmas.Bool.{and_from, cases_Bool, false_from_ne_true, and_parts}
use Rattle.numbers.specs.declared.terms.Part.{Part}
use Rattle.numbers.specs.Lists.{rows, Laid, start_of, starts_of, sum_to}
use Rattle.numbers.specs.Terms.{Term}
use Rattle.numbers.proofs.EachLaws.{length_columns}
use Rattle.numbers.proofs.ListLaws.{laid_same}
use Rattle.numbers.proofs.PartLaws.{part_room}
use Rattle.numbers.proofs.SumLaws.{sum_to_zero, sum_to_suc}
use Rattle.lattice.specs.declared.line.Line.{Line}
use Rattle.lattice.specs.Check.{accepted}
use Rattle.lattice.specs.declared.levels.Three.{Three}
use Rattle.lattice.specs.declared.grid.Grid3d.{Grid3d}
use Rattle.lattice.specs.declared.grid.Position.{Position}
use Rattle.lattice.specs.Grid.{Limits, unknowns_of, at_of}
use Rattle.lattice.proofs.RowLaws.{at_in}
use Rattle.lattice.specs.Lattice.{FullLattice}
use Rattle.lattice.specs.Levels.{line_at}
use Rattle.weights.specs.Prolongation.{weight_columns}
use Rattle.weights.specs.TwoLevels.{TwoLevels, two_at, two_of, fine_grid, grid_with}
use Rattle.weights.specs.Tables.{columns_in}
use Rattle.weights.proofs.TwoLevelLaws.{fine_grid_lem, coarse_grid_lem}
use Rattle.weights.proofs.MeaningLaws.{Slotted as Both, slots_in, row_columns_lem}
use Rattle.weights.proofs.RepeatLaws.{row_room}
use Rattle.operators.specs.LevelLists.{edges_on}
use Rattle.operators.specs.Levels.{grid_at, lattice_at, averaged_on, rediscretized_at, pattern_row, base_relations}
use Rattle.operators.specs.Numbered.{word_count}
use Rattle.operators.proofs.Equations.{rediscretized_at_is}
use Rattle.operators.proofs.GalerkinPattern.{grid_first}
use Rattle.operators.proofs.LevelListLaws.{columns_most}
use Rattle.operators.proofs.RangeLaws.{fine_edges_lem}
use Rattle.operators.proofs.StencilLaws.{stencil_most}
use Rattle.store.specs.Store.{Store}
use Rattle.store.specs.Layout.{blank, forward_cols, turned_cols, operator_cols, next_edges, first_stored, forward_count, turned_count, operator_count, stored_count, forward_off, turned_off, operator_off, starts_off, stored_starts, ends_off}
use Rattle.store.specs.Setup.{ends_part, all_to}
use Rattle.store.specs.Phases.{blank_line, HasLines, three_in, forward_part, turned_part, operator_part}
use Rattle.store.specs.PhaseSteps.{held_by, behind_of}
use Rattle.store.specs.FillSteps.{FirstBad}
use Rattle.store.specs.Calls.{matches, level_matches}
use Rattle.store.specs.Compare.{Lowest, rows_match, PartRoom, lines_match, transfer_match, transfer_ok, operator_ok, Gives, Slotted, TurnedBy, named_by, Walkable, Begins}
use Rattle.store.specs.declared.Choice.{Choice}
use Rattle.store.specs.declared.Choice.TheVariants.{Galerkin, Rediscretized}
use Rattle.store.proofs.VerdictLaws.{all_pass}
use Rattle.store.proofs.MatchLaws.{start_told, rows_match_agree, room_agree}
use Rattle.store.proofs.TurnLaws.{turned_agree, walk_bad, walk_end, given_is, walkable}
use Rattle.store.proofs.ColumnLaws.{turned_cols_are, turned_many}
use Rattle.store.proofs.RangeLaws.{ranges}
use Rattle.store.proofs.NeedLaws.{ends_there, ends_few, none_end, bad_here, relations_first, relations_long}
use Rattle.store.proofs.PatternLaws.{pattern_cols, own_pattern_cols}
use Rattle.store.proofs.LineLaws.{level_two}
use Rattle.store.specs.Hierarchy.{LevelPair}
use Rattle.weights.specs.Pair.{two}
use Rattle.weights.specs.declared.pair.Pair.{Pair}
use Rattle.store.proofs.EndLaws.{held_ends}
use Rattle.store.proofs.StepLaws.{part_at, starts_later, terms_later}
use Rattle.store.proofs.SizeLaws.{stored_rows, stored_later, rows_stored, count_stored, edges_few, forward_low, turned_low, operator_low}

-- ---- the first level

-- of two tests, the lower
lowest_both : {a b : ℕ → Bool} {n x y r : ℕ} → Lowest a n x → Lowest b n y → r ≡ min x y → Lowest (λ L. a L && b L) n r
lowest_both {a} {b} {n} {x} {y} {r} u v e =
    record {
      low = omega (arith, u.low, v.low, e);
      before = λ L h. and_from (a L) (b L) (u.before L (omega arith)) (v.before L (omega arith));
      here = λ h. go h (dec_lt x y);
    }
  where
    go : r < n → Dec (x < y) → (a r && b r) ≡ false
    go h (yes c) = let z : x ≡ r = omega arith in rw (rw z at (u.here (omega arith))) refl
    go h (no c) =
        let z : y ≡ r = omega arith in
        false_from_ne_true (a r && b r) (λ t. false≢true (sym (rw z at (v.here (omega arith))) ∙ (and_parts (a r) (b r) t).1))

-- of tests that agree
lowest_agree : {a b : ℕ → Bool} {n r : ℕ} → ((L : ℕ) → a L ≡ b L) → Lowest a n r → Lowest b n r
lowest_agree {r = r} e u = record { low = u.low; before = λ L h. sym (e L) ∙ u.before L h; here = λ h. sym (e r) ∙ u.here h }

-- as a verdict
lowest_first : (number : ℕ) (ok : ℕ → Bool) {n r : ℕ} → Lowest ok n r → FirstBad number ok n r
lowest_first number ok {n} {r} u = go (dec_lt r n)
  where
    fine : all_to number ok r ≡ accepted 0
    fine = all_pass number ok r u.before

    go : Dec (r < n) → FirstBad number ok n r
    go (yes h) = bad_here number ok n (record { high = u.low; fine = fine }) h (u.here h)
    go (no h) =
        let z : r ≡ n = omega (arith, u.low) in
        subst (FirstBad number ok n) (sym z) (none_end number ok n {L = r} (record { high = u.low; fine = fine }) (omega arith))

-- ---- line ends

-- the first q lines have passed, and next is the place of the next one
pub record EndsGoing (l : FullLattice) (m : ℕ) (es : List ℕ) (next q : ℕ) : Type 0 where
  pub high : q ≤ 3 * suc m
  pub place : next ≡ ends_off l q
  pub passed : (i : ℕ) → i < q → matches es (ends_off l i) (ends_part l i) ≡ true

-- each of the three lines
line_told : (l : FullLattice) (es : List ℕ) (L : ℕ) → lines_match l es L ≡ true → (a q : ℕ) → a < 3 → q ≡ 3 * L + a → matches es (ends_off l q) (ends_part l q) ≡ true
line_told l es L t a q h e =
    let x = matches es (ends_off l (3 * L)) (ends_part l (3 * L)) in
    let y = matches es (ends_off l (3 * L + 1)) (ends_part l (3 * L + 1)) in
    let z = matches es (ends_off l (3 * L + 2)) (ends_part l (3 * L + 2)) in
    let u = and_parts x (y && z) t in
    let v = and_parts y z u.1 in
    go a h e u.0 v.0 v.1
  where
    go : (a : ℕ) → a < 3 → q ≡ 3 * L + a → matches es (ends_off l (3 * L)) (ends_part l (3 * L)) ≡ true → matches es (ends_off l (3 * L + 1)) (ends_part l (3 * L + 1)) ≡ true
        → matches es (ends_off l (3 * L + 2)) (ends_part l (3 * L + 2)) ≡ true → matches es (ends_off l q) (ends_part l q) ≡ true
    go zero h e x y z = let k : 3 * L ≡ q = omega arith in rw k at x
    go (suc zero) h e x y z = let k : 3 * L + 1 ≡ q = omega arith in rw k at y
    go (suc (suc zero)) h e x y z = let k : 3 * L + 2 ≡ q = omega arith in rw k at z
    go (suc (suc (suc a))) h e x y z = absurd (omega arith)

-- the loop over the lines
pub ends_start : {l : FullLattice} {m : ℕ} {es : List ℕ} → EndsGoing l m es 0 0
ends_start {l} = record { high = omega arith; place = sym (sum_to_zero (λ i. length (line_at l (i % 3) (i / 3)))); passed = λ i h. absurd (omega arith) }

lines_passed : {l : FullLattice} {m : ℕ} {es : List ℕ} {next q : ℕ} → EndsGoing l m es next q → (L : ℕ) → 3 * L + 2 < q → lines_match l es L ≡ true
lines_passed u L h =
    and_from _ _ (u.passed (3 * L) (omega arith)) (and_from _ _ (u.passed (3 * L + 1) (omega arith)) (u.passed (3 * L + 2) (omega arith)))

module _ {l : FullLattice} (limits : Limits l.grid) {m : ℕ} {lines : List Line} (has : HasLines l m lines) {es : List ℕ} {next q : ℕ} (u : EndsGoing l m es next q) (h : q < 3 * (m + 1)) where
  low : q < 3 * suc m
  low = omega arith

  pub ends_ask : ends_off l (3 * suc m) ≤ length es → ((get_or lines q blank_line).cells ≤ 64) × (next + (get_or lines q blank_line).cells + 1 ≤ length es)
  ends_ask room = (
    omega (arith, ends_few l limits m has q low),
    omega (arith, u.place, ends_there l limits m has q low, part_room (λ i. length (line_at l (i % 3) (i / 3))) q (3 * suc m) low),
  )

  line_is : {b : Bool} → b ≡ matches es next (held_by (get_or lines q blank_line)) → b ≡ matches es (ends_off l q) (ends_part l q)
  line_is e = e ∙ (λ i. matches es (u.place i) (held_ends has limits q low i))

  pub ends_turn : {b : Bool} → b ≡ matches es next (held_by (get_or lines q blank_line)) → b ≡ true → EndsGoing l m es (next + ((get_or lines q blank_line).cells + 1)) (q + 1)
  ends_turn e t =
      let z : q + 1 ≡ suc q = omega arith in
      rw z (record {
        high = low;
        place = omega (arith, u.place, ends_there l limits m has q low, sum_to_suc (λ i. length (line_at l (i % 3) (i / 3))) q);
        passed = λ i b. go i (cases_Bool (eqb i q)) b;
      })
    where
      go : (i : ℕ) → (eqb i q ≡ true) ⊎ (eqb i q ≡ false) → i < suc q → matches es (ends_off l i) (ends_part l i) ≡ true
      go i (inl z) b = let w : i ≡ q = eqb-true i q z in rw w (sym (line_is e) ∙ t)
      go i (inr z) b = u.passed i (omega (arith, eqb-false i q z))

  pub ends_bad : {b : Bool} → b ≡ matches es next (held_by (get_or lines q blank_line)) → b ≡ false → Lowest (lines_match l es) (suc m) (q / 3)
  ends_bad e f =
      record {
        low = omega arith;
        before = λ L b. lines_passed u L (omega arith);
        here = λ b. false_from_ne_true (lines_match l es (q / 3)) (λ t. false≢true (sym f ∙ line_is e ∙ line_told l es (q / 3) t (q % 3) q (omega arith) (omega arith)));
      }

-- all lines have passed
pub ends_end : {l : FullLattice} {m : ℕ} {es : List ℕ} {next q : ℕ} → EndsGoing l m es next q → 3 * (m + 1) ≤ q → Lowest (lines_match l es) (suc m) (m + 1)
ends_end u h = record { low = omega arith; before = λ L b. lines_passed u L (omega arith); here = λ b. absurd (omega arith) }

-- ---- parts one behind another

-- the next level, as the code names it
next_is : (L : ℕ) → L + 1 ≡ suc L
next_is L = omega arith

pub next_edges_lem : (l : FullLattice) (L : ℕ) {n : ℕ} → n ≡ edges_on l (L + 1) → n ≡ edges_on l (suc L)
next_edges_lem l L e = e ∙ ap (edges_on l) (next_is L)

module _ (rows_on count : ℕ → ℕ) {o : Part} {L : ℕ} (e : o ≡ part_at (starts_off rows_on L) (sum_to count L)) {n w : ℕ} (en : n ≡ rows_on L) (ew : w ≡ count L) where
  part_behind : part_at (o.s + n + 1) (o.k + w) ≡ part_at (starts_off rows_on (suc L)) (sum_to count (suc L))
  part_behind =
      let a : starts_off rows_on L + rows_on L + 1 ≡ starts_off rows_on (suc L) = omega (arith, sum_to_suc (λ i. rows_on i + 1) L) in
      let p : part_at (o.s + n + 1) (o.k + w) ≡ part_at (starts_off rows_on L + rows_on L + 1) (sum_to count L + count L) = λ i. part_at ((e i).s + en i + 1) ((e i).k + ew i) in
      p ∙ (λ i. part_at (a i) (sym (sum_to_suc count L) i))

-- the part of level 0
part_first : (rows_on count : ℕ → ℕ) → part_at 0 0 ≡ part_at (starts_off rows_on 0) (sum_to count 0)
part_first rows_on count = λ i. part_at (sym (sum_to_zero (λ j. rows_on j + 1)) i) (sym (sum_to_zero count) i)

-- the part of level L of m lies within the lists
level_room : (cols : ℕ → ℕ → List ℕ) (rows_on : ℕ → ℕ) {o : Part} {L m : ℕ} → o ≡ part_at (starts_off rows_on L) (sum_to (λ i. start_of (cols i) (rows_on i)) L) → L < m → {ss cs : List ℕ}
    → starts_off rows_on m ≤ length ss → sum_to (λ i. start_of (cols i) (rows_on i)) m ≤ length cs → PartRoom (cols L) (rows_on L) o ss cs
level_room cols rows_on {o} {L} {m} e h a b =
    rw e (record {
      starts_room = omega (arith, part_room (λ i. rows_on i + 1) L m h);
      columns_room = omega (arith, part_room (λ i. start_of (cols i) (rows_on i)) L m h);
    })

-- the last start of rows that stand there
last_told : (cols : ℕ → List ℕ) (n : ℕ) (o : Part) (ss cs : List ℕ) → rows_match cols n o ss cs ≡ true → get_or ss (o.s + n) 0 ≡ start_of cols n
last_told cols n o ss cs t = start_told cols n o.s ss (and_parts (matches ss o.s (starts_of cols n)) (matches cs o.k (rows cols n)) t).0 n (omega arith)

-- ---- transfers

-- the transfers before level L have passed, whose parts are o and t
pub record Transfers (l : FullLattice) (m : ℕ) (ss cs ts us : List ℕ) (o t : Part) (L : ℕ) : Type 0 where
  pub high : L ≤ m
  pub o_is : o ≡ forward_part l L
  pub t_is : t ≡ turned_part l L
  pub passed : (i : ℕ) → i < L → transfer_match l ss cs ts us i ≡ true

-- one of two tests holds
either : (a : Bool) {b : Bool} → b ≡ true → (a || b) ≡ true
either true e = refl
either false e = e

-- the loop over the levels
pub transfers_start : {l : FullLattice} {m : ℕ} {ss cs ts us : List ℕ} → Transfers l m ss cs ts us (part_at 0 0) (part_at 0 0) 0
transfers_start {l} =
    record { high = omega arith; o_is = part_first (edges_on l) (forward_count l); t_is = part_first (next_edges l) (turned_count l); passed = λ i h. absurd (omega arith) }

-- whether the parts hold the rows of transfer L
abbrev parts_match : FullLattice → List ℕ → List ℕ → List ℕ → List ℕ → Part → Part → ℕ → Bool
parts_match l ss cs ts us o t L = rows_match (forward_cols l L) (edges_on l L) o ss cs && rows_match (turned_cols l L) (edges_on l (suc L)) t ts us

module _ {l : FullLattice} {m : ℕ} {ss cs ts us : List ℕ} {o t : Part} {L : ℕ} (u : Transfers l m ss cs ts us o t L) (h : L < m) where
  pub forward_room : starts_off (edges_on l) m ≤ length ss → forward_off l m ≤ length cs → PartRoom (forward_cols l L) (edges_on l L) o ss cs
  forward_room a b = level_room (forward_cols l) (edges_on l) u.o_is h a b

  pub turned_room_lem : starts_off (next_edges l) m ≤ length ts → turned_off l m ≤ length us → PartRoom (turned_cols l L) (edges_on l (suc L)) t ts us
  turned_room_lem a b = level_room (turned_cols l) (next_edges l) u.t_is h a b

  transfer_is : {b : Bool} → b ≡ parts_match l ss cs ts us o t L → b ≡ transfer_match l ss cs ts us L
  transfer_is e = e ∙ (λ i. parts_match l ss cs ts us (u.o_is i) (u.t_is i) L)

  pub transfers_bad : {b : Bool} → b ≡ parts_match l ss cs ts us o t L → b ≡ false → Lowest (transfer_ok l m ss cs ts us) (suc m) L
  transfers_bad e f =
      record {
        low = omega arith;
        before = λ i b. either (leb m i) (u.passed i b);
        here = λ b. rw (lt-leb m L h) (sym (transfer_is e) ∙ f);
      }

  module _ {b : Bool} (e : b ≡ parts_match l ss cs ts us o t L) (f : b ≡ true) where
    both : (rows_match (forward_cols l L) (edges_on l L) o ss cs ≡ true) × (rows_match (turned_cols l L) (edges_on l (suc L)) t ts us ≡ true)
    both = and_parts (rows_match (forward_cols l L) (edges_on l L) o ss cs) (rows_match (turned_cols l L) (edges_on l (suc L)) t ts us) (sym e ∙ f)

    forward_last : {n : ℕ} → n ≡ edges_on l L → get_or ss (o.s + n) 0 ≡ forward_count l L
    forward_last en = ap (λ (i : ℕ). get_or ss (o.s + i) 0) en ∙ last_told (forward_cols l L) (edges_on l L) o ss cs both.0

    turned_last : {n : ℕ} → n ≡ edges_on l (suc L) → get_or ts (t.s + n) 0 ≡ turned_count l L
    turned_last en = ap (λ (i : ℕ). get_or ts (t.s + i) 0) en ∙ last_told (turned_cols l L) (edges_on l (suc L)) t ts us both.1

    module _ (limits : Limits l.grid) (deep : m ≤ 11) where
      pub forward_behind : {n : ℕ} → n ≡ edges_on l L → PartRoom (forward_cols l L) (edges_on l L) o ss cs → (o.s + n < length ss) × (o.k + get_or ss (o.s + n) 0 ≤ 2 ^ 40)
      forward_behind {n} en room = (
        omega (arith, en, room.starts_room),
        omega (arith, forward_last en, ap (λ (p : Part). p.k) u.o_is, sum_to_suc (forward_count l) L, forward_low l limits (suc L)),
      )

      pub turned_behind : {n : ℕ} → n ≡ edges_on l (suc L) → PartRoom (turned_cols l L) (edges_on l (suc L)) t ts us → (t.s + n < length ts) × (t.k + get_or ts (t.s + n) 0 ≤ 2 ^ 40)
      turned_behind {n} en room = (
        omega (arith, en, room.starts_room),
        omega (arith, turned_last en, ap (λ (p : Part). p.k) u.t_is, sum_to_suc (turned_count l) L, turned_low l limits (suc L)),
      )

    pub transfers_turn : {n k : ℕ} {o' t' : Part} → n ≡ edges_on l L → k ≡ edges_on l (suc L) → o' ≡ behind_of o n ss → t' ≡ behind_of t k ts → Transfers l m ss cs ts us o' t' (L + 1)
    transfers_turn {n} {k} en ek eo et =
        let z : L + 1 ≡ suc L = omega arith in
        rw z (record {
          high = h;
          o_is = eo ∙ part_behind (edges_on l) (forward_count l) u.o_is en (forward_last en);
          t_is = et ∙ part_behind (next_edges l) (turned_count l) u.t_is ek (turned_last ek);
          passed = λ i b. go i (cases_Bool (eqb i L)) b;
        })
      where
        go : (i : ℕ) → (eqb i L ≡ true) ⊎ (eqb i L ≡ false) → i < suc L → transfer_match l ss cs ts us i ≡ true
        go i (inl z) b = let w : i ≡ L = eqb-true i L z in rw w (sym (transfer_is e) ∙ f)
        go i (inr z) b = u.passed i (omega (arith, eqb-false i L z))

-- all transfers have passed
pub transfers_end : {l : FullLattice} {m : ℕ} {ss cs ts us : List ℕ} {o t : Part} {L : ℕ} → Transfers l m ss cs ts us o t L → m ≤ L → Lowest (transfer_ok l m ss cs ts us) (suc m) (m + 1)
transfers_end {l} {m} {ss} {cs} {ts} {us} {L = L} u h = record { low = omega arith; before = λ i b. go i (dec_lt i m) b; here = λ b. absurd (omega arith) }
  where
    go : (i : ℕ) → Dec (i < m) → i < m + 1 → transfer_ok l m ss cs ts us i ≡ true
    go i (yes c) b = either (leb m i) (u.passed i (omega (arith, u.high)))
    go i (no c) b = rw (le-leb m i (omega arith)) refl

-- the forward rows of two neighbouring levels, as the code has their lines
module _ {l : FullLattice} (limits : Limits l.grid) {L : ℕ} {pair : Pair} (p : LevelPair l L pair) {o : Part} {ss cs : List ℕ} (u : PartRoom (forward_cols l L) (edges_on l L) o ss cs) where
  pub forward_asked : PartRoom (weight_columns (two pair)) (unknowns_of (fine_grid (two pair))) o ss cs
  unfolding forward_cols
  forward_asked =
      subst (λ (t : TwoLevels). PartRoom (weight_columns t) (unknowns_of (fine_grid t)) o ss cs) (sym (level_two p limits))
      (subst (λ (n : ℕ). PartRoom (weight_columns (two_at l L)) n o ss cs) (sym (fine_edges_lem l L)) u)

  pub forward_told : {b : Bool} → b ≡ rows_match (weight_columns (two pair)) (unknowns_of (fine_grid (two pair))) o ss cs
      → b ≡ rows_match (forward_cols l L) (edges_on l L) o ss cs
  unfolding forward_cols
  forward_told e =
      e ∙ ap (λ (t : TwoLevels). rows_match (weight_columns t) (unknowns_of (fine_grid t)) o ss cs) (level_two p limits)
      ∙ ap (λ (n : ℕ). rows_match (weight_columns (two_at l L)) n o ss cs) (fine_edges_lem l L)

-- from the tables of the slots
pub both_grids : {l : FullLattice} {fine coarse : Three} {ps ns : List ℕ} → Slotted l fine coarse ps ns → {gf gc : Grid3d} → gf ≡ grid_with l.grid fine.x.cells fine.y.cells fine.z.cells
    → gc ≡ grid_with l.grid coarse.x.cells coarse.y.cells coarse.z.cells → Both l fine coarse gf gc ps ns
both_grids {l} {fine} {coarse} t ef ec =
    record {
      paired = t.paired;
      fine_is = ef ∙ fine_grid_lem l fine coarse t.paired.fine_held;
      coarse_is = ec ∙ coarse_grid_lem l fine coarse t.paired.coarse_held;
      counts = t.counts;
      places = t.places;
    }

module _ {l : FullLattice} {fine coarse : Three} {gf gc : Grid3d} {ps ns : List ℕ} (t : Both l fine coarse gf gc ps ns) where
  pub weights_fine_lem : Limits gf
  weights_fine_lem = rw t.fine_is t.paired.fine_limits

  pub weights_count : {n : ℕ} → n ≡ unknowns_of gf → n ≡ unknowns_of (fine_grid (two_of l fine coarse))
  weights_count e = e ∙ ap unknowns_of t.fine_is

  module _ {p : Position} {r : ℕ} {xs ys : List ℕ} {v : ℕ} (h : r < unknowns_of gf) (e : p ≡ at_of gf r) (w : Laid set xs 0 (columns_in gc ps ns p) ys v) where
    pub weights_laid : Laid set xs 0 (weight_columns (two_of l fine coarse) r) ys v
    weights_laid = subst (λ (vs : List ℕ). Laid set xs 0 vs ys v) (row_columns_lem t r h e) w

    pub weights_few : length xs ≡ 8 → length (weight_columns (two_of l fine coarse) r) ≤ length xs
    weights_few eight = omega (arith, row_room weights_fine_lem (at_in weights_fine_lem h e) (slots_in t) w eight, laid_same w, weights_laid.next)

-- the turned rows of a transfer whose forward rows stand in lists
module _ (l : FullLattice) (limits : Limits l.grid) (L : ℕ) {o t : Part} {ss cs ts us : List ℕ} (room : PartRoom (forward_cols l L) (edges_on l L) o ss cs)
    (troom : PartRoom (turned_cols l L) (edges_on l (suc L)) t ts us) (e : rows_match (forward_cols l L) (edges_on l L) o ss cs ≡ true) {n w : ℕ} (en : n ≡ edges_on l L) (ew : w ≡ edges_on l (L + 1)) where
  coarse_is : w ≡ edges_on l (suc L)
  coarse_is = next_edges_lem l L ew

  count_told : turned_count l L ≡ get_or ss (o.s + n) 0
  count_told = turned_many l limits L ∙ sym (ap (λ (i : ℕ). get_or ss (o.s + i) 0) en ∙ last_told (forward_cols l L) (edges_on l L) o ss cs e)

  pub turned_places : (w ≤ 12288) × (t.s + w < length ts)
  turned_places = (omega (arith, coarse_is, edges_few l limits (suc L)), omega (arith, coarse_is, troom.starts_room))

  pub turned_walk : Walkable ss o.s cs o.k n w us t.k (get_or ss (o.s + n) 0)
  turned_walk =
      let fit : t.k + get_or ss (o.s + n) 0 ≤ length us = omega (arith, count_told, troom.columns_room) in
      subst (λ (i : ℕ). Walkable ss o.s cs o.k i w us t.k (get_or ss (o.s + n) 0)) (sym en)
      (subst (λ (i : ℕ). Walkable ss o.s cs o.k (edges_on l L) i us t.k (get_or ss (o.s + n) 0)) (sym coarse_is) (walkable room e ((ranges l limits).forward_low L) fit))

  module _ {next next' : List ℕ} {a : Bool} (at : (c : ℕ) → c < w → get_or next c 0 ≡ get_or ts (t.s + c) 0)
      (u : TurnedBy (λ c. rows (named_by ss o.s cs o.k c) n) w next us t.k (get_or ss (o.s + n) 0) a next') where
    walked : TurnedBy (turned_cols l L) (edges_on l (suc L)) next us t.k (get_or ss (o.s + n) 0) a next'
    walked =
        subst (λ (j : ℕ). TurnedBy (turned_cols l L) j next us t.k (get_or ss (o.s + n) 0) a next') coarse_is
        (turned_agree (λ c h. ap (rows (named_by ss o.s cs o.k c)) en ∙ given_is room e c ∙ sym (turned_cols_are l L c)) u)

    places_told : (c : ℕ) → c < edges_on l (suc L) → get_or next c 0 ≡ get_or ts (t.s + c) 0
    places_told c h = at c (omega (arith, coarse_is))

    pub turned_bad : {d : Bool} → a ≡ false → d ≡ false → d ≡ rows_match (turned_cols l L) (edges_on l (suc L)) t ts us
    turned_bad f z = walk_bad t ts places_told count_told walked f z

    pub turned_end : {d : Bool} → a ≡ true → Begins next' ts t.s w d → d ≡ rows_match (turned_cols l L) (edges_on l (suc L)) t ts us
    turned_end {d} f v = walk_end t ts places_told count_told walked f (subst (λ (j : ℕ). Begins next' ts t.s j d) coarse_is v)

-- ---- operators

module _ (l : FullLattice) (limits : Limits l.grid) where
  row_most : (ch : Choice) (L r : ℕ) → r < edges_on l L → length (operator_cols l ch L r) ≤ 12288
  unfolding operator_cols
  row_most Galerkin L r h = columns_most l limits blank L r h
  row_most Rediscretized L r h =
      omega (arith, length_columns (rediscretized_at l blank L r), ap (λ (row : ℕ → List Term). length (row r)) (rediscretized_at_is l blank L), stencil_most (lattice_at l L) (averaged_on l blank L) r)

  gives_first : (ch : Choice) {u : List ℕ} → u ≡ base_relations l l.grid → Gives l ch 0 u
  gives_first Galerkin e = relations_first l limits e
  gives_first Rediscretized e = e ∙ ap (base_relations l) (sym (grid_first l))

  pub gives_long : (ch : Choice) (L : ℕ) (u : List ℕ) → Gives l ch L u → length u ≡ word_count
  gives_long Galerkin L u g = g.long
  gives_long Rediscretized L u g = relations_long _ g

  gives_row : (ch : Choice) (L : ℕ) (u : List ℕ) → Gives l ch L u → (r : ℕ) → r < edges_on l L → pattern_row l (grid_at l L) u r ≡ operator_cols l ch L r
  gives_row Galerkin L u g r h = sym (pattern_cols l limits L u g.right r h)
  gives_row Rediscretized L u g r h = sym (own_pattern_cols l limits L u g r h)

  -- what is asked of level k, and what is told of it
  module _ (ch : Choice) (L : ℕ) {k : ℕ} (at : k ≡ L) (u : List ℕ) (g : Gives l ch L u) where
    gives_most : (r : ℕ) → r < edges_on l k → length (pattern_row l (grid_at l k) u r) ≤ 12288
    gives_most = rw at (λ r h. omega (arith, ap length (gives_row ch L u g r h), row_most ch L r h))

    module _ {o : Part} {ss cs : List ℕ} (room : PartRoom (operator_cols l ch L) (edges_on l L) o ss cs) where
      gives_room : PartRoom (pattern_row l (grid_at l k) u) (edges_on l k) o ss cs
      gives_room = rw at (room_agree (operator_cols l ch L) (pattern_row l (grid_at l L) u) (edges_on l L) (λ r h. sym (gives_row ch L u g r h)) room)

      gives_told : {b : Bool} → b ≡ rows_match (pattern_row l (grid_at l k) u) (edges_on l k) o ss cs → b ≡ rows_match (operator_cols l ch L) (edges_on l L) o ss cs
      gives_told e =
          e ∙ ap (λ (j : ℕ). rows_match (pattern_row l (grid_at l j) u) (edges_on l j) o ss cs) at
          ∙ rows_match_agree (pattern_row l (grid_at l L) u) (operator_cols l ch L) (edges_on l L) (gives_row ch L u g) o ss cs

-- a level whose operator is stored
stored_ok : (l : FullLattice) (ch : Choice) (m L : ℕ) → ltb L (first_stored m) ≡ false → {o : Part} → o ≡ operator_part l ch m L → (ss cs : List ℕ) {b : Bool}
    → b ≡ rows_match (operator_cols l ch L) (edges_on l L) o ss cs → b ≡ operator_ok l ch m ss cs L
stored_ok l ch m L z e ss cs p = rw z (p ∙ ap (λ (o : Part). rows_match (operator_cols l ch L) (edges_on l L) o ss cs) e)

-- its room
stored_room : (l : FullLattice) (ch : Choice) (m L : ℕ) → ltb L (first_stored m) ≡ false → L ≤ m → {o : Part} → o ≡ operator_part l ch m L → {ss cs : List ℕ}
    → stored_starts l m (suc m) ≤ length ss → operator_off l ch m (suc m) ≤ length cs → PartRoom (operator_cols l ch L) (edges_on l L) o ss cs
stored_room l ch m L z h e a b =
    rw e (record {
      starts_room = omega (arith, part_room (stored_rows l m) L (suc m) (omega arith), rows_stored l m L z);
      columns_room = omega (arith, part_room (stored_count l ch m) L (suc m) (omega arith), count_stored l m L z ch);
    })

-- a sole level 0
sole_part : (l : FullLattice) (ch : Choice) (m : ℕ) → part_at 0 0 ≡ operator_part l ch m 0
sole_part l ch m = λ i. part_at (sym (sum_to_zero (stored_rows l m)) i) (sym (sum_to_zero (stored_count l ch m)) i)

sole_stored : (m : ℕ) → m ≡ 0 → ltb 0 (first_stored m) ≡ false
sole_stored m z = rw z refl

module _ (l : FullLattice) (limits : Limits l.grid) (ch : Choice) {m : ℕ} (z : m ≡ 0) (ss cs : List ℕ) (room_s : stored_starts l m (suc m) ≤ length ss)
    (room_c : operator_off l ch m (suc m) ≤ length cs) where
  sole_within : PartRoom (operator_cols l ch 0) (edges_on l 0) (part_at 0 0) ss cs
  sole_within = stored_room l ch m 0 (sole_stored m z) (omega arith) (sole_part l ch m) room_s room_c

  module _ {u : List ℕ} (e : u ≡ base_relations l l.grid) where
    pub sole_most : (r : ℕ) → r < edges_on l 0 → length (pattern_row l (grid_at l 0) u r) ≤ 12288
    sole_most = gives_most l limits ch 0 refl u (gives_first l limits ch e)

    pub sole_room : PartRoom (pattern_row l (grid_at l 0) u) (edges_on l 0) (part_at 0 0) ss cs
    sole_room = gives_room l limits ch 0 refl u (gives_first l limits ch e) sole_within

    module _ {b : Bool} (t : b ≡ rows_match (pattern_row l (grid_at l 0) u) (edges_on l 0) (part_at 0 0) ss cs) where
      sole_told : b ≡ operator_ok l ch m ss cs 0
      sole_told = stored_ok l ch m 0 (sole_stored m z) (sole_part l ch m) ss cs (gives_told l limits ch 0 refl u (gives_first l limits ch e) sole_within t)

      pub sole_good : b ≡ true → Lowest (operator_ok l ch m ss cs) (suc m) 1
      sole_good f = record { low = omega arith; before = λ L h. let y : L ≡ 0 = omega arith in rw y (sym sole_told ∙ f); here = λ h. absurd (omega arith) }

      pub sole_bad : b ≡ false → Lowest (operator_ok l ch m ss cs) (suc m) 0
      sole_bad f = record { low = omega arith; before = λ L h. absurd (omega arith); here = λ h. sym sole_told ∙ f }

-- the operators of levels 1 to L have passed; u gives the columns of level L, and o is the part of level L + 1
pub record Operators (l : FullLattice) (ch : Choice) (m : ℕ) (ss cs u : List ℕ) (o : Part) (L : ℕ) : Type 0 where
  pub high : L ≤ m
  pub gives : Gives l ch L u
  pub o_is : o ≡ operator_part l ch m (suc L)
  pub passed : (i : ℕ) → i < suc L → operator_ok l ch m ss cs i ≡ true

-- level 0 is not stored where there are more
not_stored : (m : ℕ) → 0 < m → ltb 0 (first_stored m) ≡ true
not_stored zero h = absurd (omega arith)
not_stored (suc m) h = refl

-- the loop over the levels
pub operators_start : {l : FullLattice} (limits : Limits l.grid) (ch : Choice) {m : ℕ} → 0 < m → {ss cs u : List ℕ} → u ≡ base_relations l l.grid → Operators l ch m ss cs u (part_at 0 0) 0
unfolding matches
operators_start {l} limits ch {m} h {ss} {cs} e =
    let z = not_stored m h in
    let a : stored_starts l m 1 ≡ 0 = sum_to_suc (stored_rows l m) 0 ∙ (rw z (omega (arith, sum_to_zero (stored_rows l m)))) in
    let b : operator_off l ch m 1 ≡ 0 = sum_to_suc (stored_count l ch m) 0 ∙ (rw z (omega (arith, sum_to_zero (stored_count l ch m)))) in
    record {
      high = omega arith;
      gives = gives_first l limits ch e;
      o_is = λ i. part_at (sym a i) (sym b i);
      passed = λ i g. let y : i ≡ 0 = omega arith in rw (y, z) refl;
    }

module _ {l : FullLattice} (limits : Limits l.grid) (ch : Choice) {m : ℕ} {ss cs u : List ℕ} {o : Part} {L : ℕ} (w : Operators l ch m ss cs u o L) (h : L < m)
    (room_s : stored_starts l m (suc m) ≤ length ss) (room_c : operator_off l ch m (suc m) ≤ length cs) (v : List ℕ) (g : Gives l ch (suc L) v) where
  operator_room : PartRoom (operator_cols l ch (suc L)) (edges_on l (suc L)) o ss cs
  operator_room = stored_room l ch m (suc L) (stored_later m L) h w.o_is room_s room_c

  pub operators_room : PartRoom (pattern_row l (grid_at l (L + 1)) v) (edges_on l (L + 1)) o ss cs
  operators_room = gives_room l limits ch (suc L) (next_is L) v g operator_room

  pub operators_most : (r : ℕ) → r < edges_on l (L + 1) → length (pattern_row l (grid_at l (L + 1)) v r) ≤ 12288
  operators_most = gives_most l limits ch (suc L) (next_is L) v g

  module _ {b : Bool} (e : b ≡ rows_match (pattern_row l (grid_at l (L + 1)) v) (edges_on l (L + 1)) o ss cs) where
    rows_told : b ≡ rows_match (operator_cols l ch (suc L)) (edges_on l (suc L)) o ss cs
    rows_told = gives_told l limits ch (suc L) (next_is L) v g operator_room e

    operator_told : b ≡ operator_ok l ch m ss cs (suc L)
    operator_told = stored_ok l ch m (suc L) (stored_later m L) w.o_is ss cs rows_told

    pub operators_bad : b ≡ false → Lowest (operator_ok l ch m ss cs) (suc m) (L + 1)
    operators_bad f = rw (next_is L) (record { low = omega arith; before = λ i c. w.passed i c; here = λ c. sym operator_told ∙ f })

    module _ (f : b ≡ true) {n : ℕ} (en : n ≡ edges_on l (suc L)) where
      operator_last : get_or ss (o.s + n) 0 ≡ operator_count l ch (suc L)
      operator_last = ap (λ (i : ℕ). get_or ss (o.s + i) 0) en ∙ last_told (operator_cols l ch (suc L)) (edges_on l (suc L)) o ss cs (sym rows_told ∙ f)

      pub operators_behind : m ≤ 11 → (o.s + n < length ss) × (o.k + get_or ss (o.s + n) 0 ≤ 2 ^ 40)
      operators_behind deep = (
        omega (arith, en, operator_room.starts_room),
        omega (arith, operator_last, ap (λ (p : Part). p.k) w.o_is, terms_later l ch m L, operator_low l limits ch m (suc (suc L))),
      )

      pub operators_turn : {o' : Part} → o' ≡ behind_of o n ss → Operators l ch m ss cs v o' (L + 1)
      operators_turn eo =
          let a : stored_starts l m (suc L) + edges_on l (suc L) + 1 ≡ stored_starts l m (suc (suc L)) = omega (arith, starts_later l ch m L) in
          let p : behind_of o n ss ≡ part_at (stored_starts l m (suc L) + edges_on l (suc L) + 1) (operator_off l ch m (suc L) + operator_count l ch (suc L)) =
          λ i. part_at ((w.o_is i).s + en i + 1) ((w.o_is i).k + operator_last i) in
          rw (next_is L) (record {
            high = h;
            gives = g;
            o_is = eo ∙ p ∙ (λ i. part_at (a i) (sym (terms_later l ch m L) i));
            passed = λ i c. go i (cases_Bool (eqb i (suc L))) c;
          })
        where
          go : (i : ℕ) → (eqb i (suc L) ≡ true) ⊎ (eqb i (suc L) ≡ false) → i < suc (suc L) → operator_ok l ch m ss cs i ≡ true
          go i (inl z) c = let y : i ≡ suc L = eqb-true i (suc L) z in rw y (sym operator_told ∙ f)
          go i (inr z) c = w.passed i (omega (arith, eqb-false i (suc L) z))

-- all operators have passed
pub operators_end : {l : FullLattice} {ch : Choice} {m : ℕ} {ss cs u : List ℕ} {o : Part} {L : ℕ} → Operators l ch m ss cs u o L → m ≤ L → Lowest (operator_ok l ch m ss cs) (suc m) (m + 1)
operators_end w h = record { low = omega arith; before = λ i b. w.passed i (omega (arith, w.high)); here = λ b. absurd (omega arith) }

-- ---- all

-- the least of the three is the first level that differs
pub first_is : (l : FullLattice) (ch : Choice) (m : ℕ) (s : Store) {x y z r k : ℕ} → Lowest (lines_match l s.ends) (suc m) x
    → Lowest (transfer_ok l m s.forward_starts s.forward_columns s.turned_starts s.turned_columns) (suc m) y → Lowest (operator_ok l ch m s.operator_starts s.operator_columns) (suc m) z
    → k ≡ min y z → r ≡ min x k → FirstBad 11 (level_matches l ch m s) (suc m) r
unfolding level_matches
first_is l ch m s u v w p q = lowest_first 11 (level_matches l ch m s) (lowest_agree same (lowest_both u (lowest_both v w p) q))
  where
    same : (L : ℕ) → (lines_match l s.ends L && (transfer_ok l m s.forward_starts s.forward_columns s.turned_starts s.turned_columns L && operator_ok l ch m s.operator_starts s.operator_columns L)) ≡ level_matches l ch m s L
    same L =
        let a = matches s.forward_starts (starts_off (edges_on l) L) (starts_of (forward_cols l L) (edges_on l L)) in
        let b = matches s.forward_columns (forward_off l L) (rows (forward_cols l L) (edges_on l L)) in
        let c = matches s.turned_starts (starts_off (next_edges l) L) (starts_of (turned_cols l L) (edges_on l (suc L))) in
        let d = matches s.turned_columns (turned_off l L) (rows (turned_cols l L) (edges_on l (suc L))) in
        let e : ((a && b) && (c && d)) ≡ (a && (b && (c && d))) = and_assoc a b (c && d) in
        ap (λ (t : Bool). lines_match l s.ends L && ((leb m L || t) && operator_ok l ch m s.operator_starts s.operator_columns L)) e
