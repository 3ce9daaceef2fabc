-- The needs of the lists, as the code counts them; refusal 8, which never occurs; and the first level that fails a test.
-- Assumes nothing.
use Prim.Native.Nat.{ℕ, zero, suc, ◌+◌, ◌-◌, ◌*◌, ◌/◌, ◌%◌, ◌≤◌, ◌<◌}
use mathlib.Core.Path.{◌≡◌, refl, sym, ap, ◌∙◌}
use mathlib.Core.Bool.{Bool, true, false, not, cond}
use mathlib.Core.List.{List, ◌∷◌, [], ◌++◌, map}
use native.Mathlib.Omega.{arith}
use native.Mathlib.Decide.{ℕ_discrete}
use lib.Dec.{eqb, ltb}
use lib.ListN.{length, get_or, length-replicate}
use borrow.Author.Tests.{eq-eqb, ne_eqb, lt-ltb, le-ltb}
use Rattle.std.specs.List.{sum as sum_of, range_with_len}
use Rattle.std.proofs.lemmas.List.FromFn.{sum_by-map-range_with_len_more}
use Rattle.numbers.specs.Lists.{start_of, sum_to}
use Rattle.numbers.proofs.SumLaws.{sum_to_zero, sum_to_suc, sum_agree, sum_most, Summing, summing_start, summing_turn, summing_end, summing_most}
use Rattle.numbers.proofs.PartLaws.{sum_first}
use Rattle.lattice.specs.declared.grid.Grid3d.{Grid3d}
use Rattle.lattice.specs.declared.line.Line.{Line}
use Rattle.lattice.specs.Check.{accepted, refused, and_then}
use Rattle.lattice.specs.Grid.{Limits, unknowns_of}
use Rattle.lattice.specs.Lattice.{FullLattice}
use Rattle.lattice.specs.Levels.{line_at}
use Rattle.lattice.proofs.Equations.{packed_is}
use Rattle.lattice.proofs.LevelLaws.{line_over}
use Rattle.weights.specs.Prolongation.{weight_columns}
use Rattle.weights.specs.declared.pair.Pair.{Pair}
use Rattle.weights.specs.Pair.{two}
use Rattle.weights.specs.TwoLevels.{TwoLevels, two_at, fine_grid}
use Rattle.weights.proofs.NoRepeats.{names_no_edge_twice}
use Rattle.operators.specs.LevelLists.{edges_on}
use Rattle.operators.specs.Levels.{grid_at, pattern_row, base_relations, relations_below}
use Rattle.operators.specs.Numbered.{relations_laid, no_relations, word_count}
use Rattle.operators.proofs.CountLaws.{galerkin_count, rediscretized_count}
use Rattle.operators.proofs.GalerkinPattern.{grid_first}
use Rattle.operators.proofs.LevelListLaws.{right_below}
use Rattle.operators.proofs.LevelTables.{right_base}
use Rattle.operators.proofs.RangeLaws.{fine_edges_lem}
use Rattle.operators.proofs.TableLaws.{relations_length}
use Rattle.store.specs.Layout.{blank, forward_cols, forward_count, operator_count, first_stored, forward_off, operator_off, stored_starts, starts_off, next_edges, eps_need, scale_need, ends_off}
use Rattle.store.specs.Setup.{all_to, names_once}
use Rattle.store.specs.Hierarchy.{LevelPair}
use Rattle.store.specs.Phases.{blank_line, HasLines}
use Rattle.store.specs.FillSteps.{Relations, coarse_terms, only_count, needs_of, FirstBad}
use Rattle.store.specs.declared.Choice.{Choice}
use Rattle.store.specs.declared.Choice.TheVariants.{Galerkin, Rediscretized}
use Rattle.store.proofs.LineLaws.{level_pair, level_two}
use Rattle.store.proofs.SizeLaws.{operator_count_lem, operator_few, edges_few}

-- the sum of what f gives for a range
pub sum_along : (f g : ℕ → ℕ) (a n : ℕ) → ((i : ℕ) → i < n → f (a + i) ≡ g i) → sum_of (map f (range_with_len a n)) ≡ sum_to g n
sum_along f g a zero h = sym (sum_to_zero g)
sum_along f g a (suc n) h =
    let e : n + 1 ≡ suc n = omega arith in
    let more : sum_of (map f (range_with_len a (suc n))) ≡ sum_of (map f (range_with_len a n)) + f (a + n) = rw e at (sum_by-map-range_with_len_more (λ x. x) f a n (a + n) (omega arith)) in
    more ∙ (λ i. sum_along f g a n (λ j b. h j (omega arith)) i + h n (omega arith) i) ∙ sym (sum_to_suc g n)

-- it is small
pub sum_along_few : (f g : ℕ → ℕ) (a n b : ℕ) → ((i : ℕ) → i < n → f (a + i) ≡ g i) → ((i : ℕ) → i < n → g i ≤ b) → sum_of (map f (range_with_len a n)) ≤ b * n
sum_along_few f g a n b h few = rw (sum_along f g a n h) (sum_most g b n few)

-- a sum with the next term is small
pub summing_few : {f : ℕ → ℕ} {n m s v : ℕ} (b : ℕ) → Summing f n m s → m < n → ((i : ℕ) → i < n → f i ≤ b) → v ≡ f m → s + v ≤ b * m + b
summing_few {m = m} b u h few e = omega (arith, summing_most u few, few m h, e)

-- ---- the ends of lines

abbrev pub ends_in_lem : List Line → ℕ → ℕ
ends_in_lem lines q = (get_or lines q blank_line).cells + 1

module _ (l : FullLattice) (limits : Limits l.grid) (m : ℕ) {lines : List Line} (has : HasLines l m lines) where
  pub ends_there : (q : ℕ) → q < 3 * suc m → ends_in_lem lines q ≡ length (line_at l (q % 3) (q / 3))
  ends_there q h =
      let e : (get_or lines q blank_line).cells ≡ length (line_at l (q % 3) (q / 3)) - 1 = ap (λ (s : Line). s.cells) (has.line_is q h ∙ packed_is (line_at l (q % 3) (q / 3))) in
      omega (arith, e, (line_over l limits (q % 3) (q / 3)).some)

  pub ends_few : (q : ℕ) → q < 3 * suc m → ends_in_lem lines q ≤ 65
  ends_few q h = omega (arith, ends_there q h, (line_over l limits (q % 3) (q / 3)).most)

  pub ends_are : {n s : ℕ} → n ≡ 3 * suc m → s ≡ sum_to (ends_in_lem lines) n → s ≡ ends_off l (3 * suc m)
  ends_are e p = p ∙ ap (sum_to (ends_in_lem lines)) e ∙ sum_agree (ends_in_lem lines) (λ i. length (line_at l (i % 3) (i / 3))) (3 * suc m) ends_there

-- ---- the weights of a transfer

module _ (l : FullLattice) (limits : Limits l.grid) {L : ℕ} {pair : Pair} (p : LevelPair l L pair) where
  pub count_is : {r : ℕ} → r ≡ start_of (weight_columns (two pair)) (unknowns_of (fine_grid (two pair))) → r ≡ forward_count l L
  unfolding forward_cols
  count_is e =
      e ∙ ap (λ (t : TwoLevels). start_of (weight_columns t) (unknowns_of (fine_grid t))) (level_two p limits)
      ∙ ap (start_of (weight_columns (two_at l L))) (fine_edges_lem l L)

-- ---- relations, and the terms they count

pub relations_long : (w : ℕ → List ℕ) {u : List ℕ} → u ≡ relations_laid w 18 no_relations → length u ≡ word_count
relations_long w e = ap length e ∙ relations_length w 18 no_relations ∙ length-replicate {A = ℕ} word_count 0

module _ (l : FullLattice) (limits : Limits l.grid) where
  pub relations_first : {u : List ℕ} → u ≡ base_relations l l.grid → Relations l 0 u
  relations_first {u} e = record { long = relations_long _ e; right = right_base l limits u e }

  pub relations_next : {L : ℕ} {pair : Pair} {u v : List ℕ} → LevelPair l L pair → Relations l L u → v ≡ relations_below (two pair) u → Relations l (suc L) v
  relations_next {L} {u = u} p r e =
      record { long = relations_long _ e; right = right_below l L limits refl refl r.right (e ∙ ap (λ (t : TwoLevels). relations_below t u) (level_pair p)) }

  pub galerkin_terms_lem : {L n : ℕ} {u : List ℕ} → Relations l L u → n ≡ start_of (pattern_row l (grid_at l L) u) (edges_on l L) → n ≡ operator_count l Galerkin L
  galerkin_terms_lem {L} {u = u} r e = e ∙ galerkin_count l limits blank L u r.right ∙ operator_count_lem l Galerkin blank L

  module _ (L : ℕ) {n : ℕ} {g : Grid3d} {u : List ℕ} (at : g ≡ grid_at l L) (base : u ≡ base_relations l g) (e : n ≡ start_of (pattern_row l g u) (unknowns_of g)) where
    pattern_there : n ≡ start_of (pattern_row l (grid_at l L) u) (edges_on l L)
    pattern_there = e ∙ ap (λ (g : Grid3d). start_of (pattern_row l g u) (unknowns_of g)) at

    pub rediscretized_terms : n ≡ operator_count l Rediscretized L
    rediscretized_terms = pattern_there ∙ rediscretized_count l limits blank L u (base ∙ ap (base_relations l) at) ∙ operator_count_lem l Rediscretized blank L

  pub sole_terms : {n : ℕ} {u : List ℕ} → u ≡ base_relations l l.grid → n ≡ start_of (pattern_row l l.grid u) (unknowns_of l.grid)
      → (n ≡ operator_count l Galerkin 0) × (n ≡ operator_count l Rediscretized 0)
  sole_terms base e =
      let at = sym (grid_first l) in
      (galerkin_terms_lem (relations_first base) (pattern_there 0 at base e), rediscretized_terms 0 at base e)

-- the terms of the next level, as the code numbers it
pub term_next : (l : FullLattice) (ch : Choice) (L : ℕ) {n : ℕ} → n ≡ operator_count l ch (L + 1) → n ≡ operator_count l ch (suc L)
term_next l ch L e = let z : L + 1 ≡ suc L = omega arith in e ∙ ap (operator_count l ch) z

-- ---- the loop over Galerkin's levels: the terms so far, and the relations of the level

pub record Totalling (l : FullLattice) (m : ℕ) (u : List ℕ) (total L : ℕ) : Type 0 where
  pub relations : Relations l L u
  pub sum : Summing (λ i. operator_count l Galerkin (suc i)) m L total

pub totalling_start : (l : FullLattice) (m : ℕ) {u : List ℕ} → Relations l 0 u → Totalling l m u 0 0
totalling_start l m r = record { relations = r; sum = summing_start }

pub totalling_end : (l : FullLattice) (m : ℕ) {u : List ℕ} {total L : ℕ} → Totalling l m u total L → m ≤ L → total ≡ coarse_terms l Galerkin m
totalling_end l m t h = summing_end t.sum h

module _ (l : FullLattice) (limits : Limits l.grid) (m : ℕ) {u : List ℕ} {total L : ℕ} (t : Totalling l m u total L) (h : L < m) {v : List ℕ} (r : Relations l (suc L) v)
    {n : ℕ} (e : n ≡ start_of (pattern_row l (grid_at l (L + 1)) v) (edges_on l (L + 1))) where
  terms_here : n ≡ operator_count l Galerkin (suc L)
  terms_here = let z : L + 1 ≡ suc L = omega arith in galerkin_terms_lem l limits r (e ∙ ap (λ (k : ℕ). start_of (pattern_row l (grid_at l k) v) (edges_on l k)) z)

  pub totalling_few : total + n ≤ 150994944 * L + 150994944
  totalling_few = summing_few 150994944 t.sum h (λ i b. operator_few l limits Galerkin (suc i)) terms_here

  pub totalling_turn : Totalling l m v (total + n) (L + 1)
  totalling_turn = let z : L + 1 ≡ suc L = omega arith in record { relations = rw z r; sum = summing_turn t.sum h terms_here refl }

-- ---- the stored operators: those of levels 1 to m, or that of the only level

stored_sole : (g : ℕ → ℕ) → sum_to (λ i. cond (ltb i (first_stored 0)) 0 (g i)) 1 ≡ g 0
stored_sole g =
    let h : ℕ → ℕ = λ i. cond (ltb i (first_stored 0)) 0 (g i) in
    let e : h 0 ≡ g 0 = refl in
    omega (arith, e, sum_to_suc h 0, sum_to_zero h)

stored_later : (g : ℕ → ℕ) (m : ℕ) → (m ≡ 0 → ⊥) → sum_to (λ i. cond (ltb i (first_stored m)) 0 (g i)) (suc m) ≡ sum_to (λ i. g (suc i)) m
stored_later g zero some = absurd (some refl)
stored_later g (suc m) some =
    let h : ℕ → ℕ = λ i. cond (ltb i 1) 0 (g i) in
    let e : h 0 ≡ 0 = refl in
    omega (arith, sum_first h (suc m), e)
    ∙ sum_agree (λ i. h (suc i)) (λ i. g (suc i)) (suc m) (λ i b. let y : ltb (suc i) 1 ≡ false = le-ltb (suc i) 1 (omega arith) in rw y refl)

module _ (l : FullLattice) (m : ℕ) where
  pub terms_sole : (ch : Choice) {n : ℕ} → m ≡ 0 → (n ≡ operator_count l Galerkin 0) × (n ≡ operator_count l Rediscretized 0) → n ≡ operator_off l ch m (suc m)
  terms_sole Galerkin z e = rw z (e.0 ∙ sym (stored_sole (operator_count l Galerkin)))
  terms_sole Rediscretized z e = rw z (e.1 ∙ sym (stored_sole (operator_count l Rediscretized)))

  pub terms_coarse : (ch : Choice) {n : ℕ} → (m ≡ 0 → ⊥) → n ≡ coarse_terms l ch m → n ≡ operator_off l ch m (suc m)
  terms_coarse ch some e = e ∙ sym (stored_later (operator_count l ch) m some)

-- ---- all needs, from the sums of edges that the code has

sum_ones : (g : ℕ → ℕ) (n : ℕ) → sum_to (λ i. g i + 1) n ≡ sum_to g n + n
sum_ones g zero = omega (arith, sum_to_zero g, sum_to_zero (λ i. g i + 1))
sum_ones g (suc n) = omega (arith, sum_ones g n, sum_to_suc g n, sum_to_suc (λ i. g i + 1) n)

sum_both : (g h : ℕ → ℕ) (n : ℕ) → sum_to (λ i. g i + h i) n ≡ sum_to g n + sum_to h n
sum_both g h zero = omega (arith, sum_to_zero g, sum_to_zero h, sum_to_zero (λ i. g i + h i))
sum_both g h (suc n) = omega (arith, sum_both g h n, sum_to_suc g n, sum_to_suc h n, sum_to_suc (λ i. g i + h i) n)

module _ (l : FullLattice) (m : ℕ) {first fine coarse : ℕ} (a : first ≡ sum_to (λ i. edges_on l (0 + i)) 1) (b : fine ≡ sum_to (λ i. edges_on l (0 + i)) m)
    (c : coarse ≡ sum_to (λ i. edges_on l (1 + i)) m) where
  first_is : first ≡ edges_on l 0
  first_is =
      let z : 0 + 0 ≡ 0 = omega arith in
      let e : edges_on l (0 + 0) ≡ edges_on l 0 = ap (edges_on l) z in
      omega (arith, a, e, sum_to_suc (λ i. edges_on l (0 + i)) 0, sum_to_zero (λ i. edges_on l (0 + i)))

  fine_is : fine ≡ sum_to (edges_on l) m
  fine_is = b ∙ sum_agree (λ i. edges_on l (0 + i)) (edges_on l) m (λ i h. let z : 0 + i ≡ i = omega arith in ap (edges_on l) z)

  coarse_is : coarse ≡ sum_to (next_edges l) m
  coarse_is = c ∙ sum_agree (λ i. edges_on l (1 + i)) (next_edges l) m (λ i h. let z : 1 + i ≡ suc i = omega arith in ap (edges_on l) z)

  pub sums_few : Limits l.grid → m ≤ 11 → (first ≤ 135168) × (fine ≤ 135168) × (coarse ≤ 135168)
  sums_few limits deep = (
    omega (arith, first_is, edges_few l limits 0),
    omega (arith, fine_is, sum_most (edges_on l) 12288 m (λ i h. edges_few l limits i)),
    omega (arith, coarse_is, sum_most (next_edges l) 12288 m (λ i h. edges_few l limits (suc i))),
  )

  eps_is : (ch : Choice) {k : ℕ} → k ≡ only_count ch coarse → first + coarse + k ≡ eps_need l ch m
  eps_is Galerkin e = omega (arith, e, first_is, coarse_is, sum_first (edges_on l) m)
  eps_is Rediscretized e = omega (arith, e, first_is, coarse_is, sum_first (edges_on l) m)

  scaling_is : (ch : Choice) {k : ℕ} → k ≡ only_count ch (fine + coarse) → k ≡ scale_need l ch m
  scaling_is Galerkin e = e
  scaling_is Rediscretized e = omega (arith, e, fine_is, coarse_is, sum_both (edges_on l) (next_edges l) m)

  ostarts_is : {k : ℕ} → k ≡ cond (eqb m 0) (first + 1) (coarse + m) → k ≡ stored_starts l m (suc m)
  ostarts_is {k} e = go (ℕ_discrete m 0)
    where
      go : Dec (m ≡ 0) → k ≡ stored_starts l m (suc m)
      go (yes z) =
          let p : k ≡ first + 1 = e ∙ rw (eq-eqb m 0 z) refl in
          rw z (omega (arith, p, first_is) ∙ sym (stored_sole (λ i. edges_on l i + 1)))
      go (no z) =
          let p : k ≡ coarse + m = e ∙ rw (ne_eqb m 0 z) refl in
          omega (arith, p, coarse_is, stored_later (λ i. edges_on l i + 1) m z, sum_ones (next_edges l) m)

  pub needs_are : (ch : Choice) {ends averaged terms ostarts oterms scaling : ℕ} → ends ≡ ends_off l (3 * suc m) → averaged ≡ only_count ch coarse → terms ≡ forward_off l m
      → ostarts ≡ cond (eqb m 0) (first + 1) (coarse + m) → oterms ≡ operator_off l ch m (suc m) → scaling ≡ only_count ch (fine + coarse)
      → record { ends = ends; eps = first + coarse + averaged; starts = fine + m; terms = terms; tstarts = coarse + m; ostarts = ostarts; oterms = oterms; scaling = scaling } ≡ needs_of l ch m
  needs_are ch ends averaged terms ostarts oterms scaling =
      let s : fine + m ≡ starts_off (edges_on l) m = omega (arith, fine_is, sum_ones (edges_on l) m) in
      let t : coarse + m ≡ starts_off (next_edges l) m = omega (arith, coarse_is, sum_ones (next_edges l) m) in
      λ i.
      record {
        ends = ends i;
        eps = eps_is ch averaged i;
        starts = s i;
        terms = terms i;
        tstarts = t i;
        ostarts = ostarts_is ostarts i;
        oterms = oterms i;
        scaling = scaling_is ch scaling i;
      }

pub only_few : (ch : Choice) {k : ℕ} (n : ℕ) → k ≡ only_count ch n → k ≤ n
only_few Galerkin n e = omega arith
only_few Rediscretized n e = omega arith

-- ---- refusal 8: no row of a transfer names an edge twice, so it never occurs

module _ (l : FullLattice) (limits : Limits l.grid) where
  names_once_lem : (L : ℕ) → names_once l L ≡ true
  unfolding forward_cols
  names_once_lem L = ap not (names_no_edge_twice l L limits (edges_on l L) (omega (arith, fine_edges_lem l L)))

  pub never_twice : (m : ℕ) → all_to 8 (names_once l) m ≡ accepted 0
  unfolding all_to
  never_twice zero = refl
  never_twice (suc m) = λ i. and_then (never_twice m i) (cond (names_once_lem m i) (accepted 0) (refused 8 m))

-- ---- the first level that fails a test

-- none of the first L levels does
pub record NoneBad (number : ℕ) (ok : ℕ → Bool) (m L : ℕ) : Type 0 where
  pub high : L ≤ m
  pub fine : all_to number ok L ≡ accepted 0

module _ (number : ℕ) (ok : ℕ → Bool) (m : ℕ) where
  pub none_end : {L : ℕ} → NoneBad number ok m L → m ≤ L → FirstBad number ok m m
  none_end {L} u h =
      let z : L ≡ m = omega (arith, u.high) in
      record { low = omega arith; verdict = rw (le-ltb m m (omega arith)) (rw z at u.fine) }

  -- a refusal stays
  refusal_stays : {L : ℕ} (n : ℕ) → L < n → all_to number ok (suc L) ≡ refused number L → all_to number ok n ≡ refused number L
  unfolding all_to
  refusal_stays {L} zero h e = absurd (omega arith)
  refusal_stays {L} (suc n) h e = go (ℕ_discrete L n) (refusal_stays n)
    where
      go : Dec (L ≡ n) → (L < n → all_to number ok (suc L) ≡ refused number L → all_to number ok n ≡ refused number L)
          → and_then (all_to number ok n) (cond (ok n) (accepted 0) (refused number n)) ≡ refused number L
      go (yes z) more = rw (← z) e
      go (no z) more = rw (more (omega arith) e) refl

  pub bad_here : {L : ℕ} → NoneBad number ok m L → L < m → ok L ≡ false → FirstBad number ok m L
  unfolding all_to
  bad_here {L} u h e = record { low = omega arith; verdict = rw (lt-ltb L m h) (refusal_stays m h (rw (u.fine, e) refl)) }
