-- The passes over a level that raise flags: what the code's tables give is what the rows of the level read. Assumes nothing.
use Prim.Native.Nat.{ℕ, suc, ◌+◌, ◌≤◌, ◌<◌, ◌^◌}
use mathlib.Core.Path.{◌≡◌, refl, sym, ap, subst, ◌∙◌}
use mathlib.Core.Bool.{Bool, true}
use mathlib.Core.List.{List}
use native.Mathlib.Omega.{arith}
use lib.ListN.{length, get_or, set}
use lib.Seq.{ext_get_or}
use Rattle.numbers.specs.declared.terms.Part.{Part}
use Rattle.numbers.specs.Lists.{tabulate, start_of, Marked, entry_at, places_in, Laid}
use Rattle.numbers.specs.Terms.{Term, columns_of, Below}
use Rattle.numbers.proofs.CollectSums.{in_at}
use Rattle.numbers.proofs.MarkedLaws.{Mutual, marked_as}
use Rattle.numbers.proofs.EachLaws.{length_columns}
use Rattle.numbers.proofs.ListLaws.{laid_same, places_laid}
use Rattle.numbers.proofs.TabulateLaws.{length_tabulate, tabulate_at, tabulate_at_0}
use Rattle.numbers.proofs.LoopLaws.{start_suc}
use Rattle.lattice.specs.declared.grid.Grid3d.{Grid3d}
use Rattle.lattice.specs.declared.levels.Three.{Three}
use Rattle.lattice.specs.declared.line.Line.{Line}
use Rattle.lattice.specs.declared.grid.Position.{Position}
use Rattle.lattice.specs.Grid.{Limits, Inside, at_of, unknowns_of}
use Rattle.lattice.specs.Levels.{three_at}
use Rattle.lattice.specs.Neighbours.{fixed_at}
use Rattle.lattice.proofs.GridLaws.{at_inside}
use Rattle.lattice.specs.Lattice.{FullLattice}
use Rattle.weights.specs.CoarseEps.{eps_reads}
use Rattle.weights.specs.Tables.{NestedIn, eps_reads_in, node_no, lines_in, HeldThree}
use Rattle.weights.specs.TwoLevels.{TwoLevels, two_at, two_of, grid_with, fine_grid, coarse_grid}
use Rattle.weights.proofs.EpsLaws.{nodes_nested}
use Rattle.weights.proofs.EpsReads.{reads_same}
use Rattle.weights.proofs.PairLaws.{paired_at}
use Rattle.operators.specs.LevelLists.{edges_on}
use Rattle.operators.specs.Averaged.{PairedLines, averaged_reads}
use Rattle.operators.specs.Columns.{Listed}
use Rattle.operators.specs.Levels.{grid_at, lattice_at, pattern_row}
use Rattle.operators.specs.Numbered.{word_count, row_columns}
use Rattle.operators.specs.Rediscretized.{rediscretized_lattice, Tame}
use Rattle.operators.specs.Stencil.{stencil_row, stencil_reads}
use Rattle.operators.proofs.Equations.{galerkin_at_zero}
use Rattle.operators.proofs.ForwardPattern.{grid_fine, grid_coarse, grid_limits}
use Rattle.operators.proofs.GalerkinPattern.{grid_first}
use Rattle.operators.proofs.LevelListLaws.{lattice_limits}
use Rattle.operators.proofs.LevelTableLaws.{row_laid_lem}
use Rattle.operators.proofs.MutualRows.{stencil_mutual}
use Rattle.operators.proofs.RangeLaws.{level_edges}
use Rattle.operators.proofs.RediscretizedLaws.{tame_at}
use Rattle.operators.proofs.RediscretizedLists.{lines_nested}
use Rattle.operators.proofs.StencilLaws.{stencil_most}
use Rattle.store.specs.FillSteps.{Relations}
use Rattle.store.specs.Layout.{blank, operator_at, operator_cols}
use Rattle.store.specs.Phases.{HasLines, three_in}
use Rattle.store.specs.Work.{RowsAt}
use Rattle.store.specs.ReachSteps.{Raised}
use Rattle.store.specs.declared.Choice.TheVariants.{Galerkin}
use Rattle.store.proofs.ColumnLaws.{operator_cols_at}
use Rattle.store.proofs.EndLaws.{edges_next}
use Rattle.store.proofs.FoundLaws.{column_is}
use Rattle.store.proofs.LineLaws.{level_lines, grid_is, level_two}
use Rattle.store.specs.Hierarchy.{LevelPair}
use Rattle.lattice.specs.Sound.{full}
use Rattle.weights.specs.Pair.{two}
use Rattle.weights.specs.declared.pair.Pair.{Pair}
use Rattle.operators.proofs.LevelListLaws.{level_grid}
use Rattle.store.proofs.PatternLaws.{pattern_cols}
use Rattle.store.proofs.RaisedLaws.{raised_as}
use Rattle.store.proofs.ScalingLaws.{lattice_at_lem}

-- ---- rows in lists

module _ {cols : ℕ → List ℕ} {n : ℕ} {o : Part} {ss cs : List ℕ} (w : RowsAt cols n o ss cs) where
  -- row r begins and ends where its starts say
  pub row_starts : (r : ℕ) → r < n → (get_or ss (o.s + r) 0 ≡ start_of cols r) × (get_or ss (o.s + r + 1) 0 ≡ start_of cols r + length (cols r))
  row_starts r h =
      let e : o.s + r + 1 ≡ o.s + suc r = omega arith in
      (w.starts_are r (omega arith), rw e (w.starts_are (suc r) h ∙ start_suc cols r))

  pub row_places : (r : ℕ) → r < n → {k j : ℕ} → k ≡ o.k + start_of cols r → j ≡ length (cols r) → places_in cs k j ≡ cols r
  row_places r h {k} {j} e d =
      let long : length (places_in cs k j) ≡ j = length_tabulate (entry_at cs) j k in
      ext_get_or 0 (places_in cs k j) (cols r) (long ∙ d)
      (λ i b.
      let at : k + i ≡ o.k + (start_of cols r + i) = omega arith in
      tabulate_at (entry_at cs) j k i 0 (omega arith) ∙ rw at (column_is cols n o ss cs w r i h (omega arith)))

-- ---- a row of level 0's operator, from the relations

-- these rows name one another
pub first_mutual : (l : FullLattice) → Limits l.grid → Mutual (unknowns_of l.grid) (operator_cols l Galerkin 0)
first_mutual l limits =
    let all : ◌≡◌ {A = ℕ → List ℕ} (λ r. columns_of (stencil_row l blank r)) (operator_cols l Galerkin 0) = λ i r. is r i in
    subst (Mutual (unknowns_of l.grid)) all (stencil_mutual l limits blank)
  where
    is : (r : ℕ) → columns_of (stencil_row l blank r) ≡ operator_cols l Galerkin 0 r
    is r = ap (λ (row : ℕ → List Term). columns_of (row r)) (sym (galerkin_at_zero l blank)) ∙ operator_cols_at l Galerkin blank 0 r

pub first_asked : (l : FullLattice) → Limits l.grid → {u : List ℕ} → Relations l 0 u → {r : ℕ} → r < unknowns_of l.grid → {p : Position} → p ≡ at_of l.grid r
    → (length u ≡ word_count) × (Limits l.grid × (Inside l.grid p × (0 ≤ 2 ^ 40)))
first_asked l limits w {r} h e = (w.long, (limits, (rw e (at_inside limits r h), omega arith)))

module _ (l : FullLattice) (limits : Limits l.grid) {u : List ℕ} (w : Relations l 0 u) {r : ℕ} (h : r < unknowns_of l.grid) {p : Position} (e : p ≡ at_of l.grid r)
    {fixed : Bool} (f : fixed ≡ fixed_at l p) {xs ys : List ℕ} {n : ℕ} (v : Listed xs 0 (row_columns u l.grid fixed r p) ys n) (long : length xs ≡ 30) where
  first_cols : operator_cols l Galerkin 0 r ≡ pattern_row l l.grid u r
  first_cols =
      pattern_cols l limits 0 u w.right r (subst (λ (g : Grid3d). r < unknowns_of g) (sym (grid_first l)) h)
      ∙ ap (λ (g : Grid3d). pattern_row l g u r) (grid_first l)

  first_few : length (operator_cols l Galerkin 0 r) ≤ 30
  first_few =
      rw (← operator_cols_at l Galerkin blank 0 r, length_columns (operator_at l Galerkin blank 0 r), galerkin_at_zero l blank) (stencil_most l blank r)

  first_laid : Laid set xs 0 (operator_cols l Galerkin 0 r) ys n
  first_laid = subst (λ (cs : List ℕ). Laid set xs 0 cs ys n) (sym first_cols) (row_laid_lem l l.grid u r e f v)

  first_placed : places_in ys 0 n ≡ operator_cols l Galerkin 0 r
  first_placed =
      let cs = operator_cols l Galerkin 0 r in
      let m : n ≡ length cs = omega (arith, first_laid.next) in
      (λ i. places_in (first_laid.list i) 0 (m i)) ∙ places_laid xs 0 cs (omega (arith, first_few))

  -- the columns are there, each below the edges
  pub first_room : (k : ℕ) → unknowns_of l.grid ≤ k → (n ≤ length ys) × Below k ys n
  first_room k room = (omega (arith, first_few, first_laid.next, laid_same first_laid), record { low = λ m b. omega (arith, low m b) })
    where
      low : (m : ℕ) → m < n → get_or ys m 0 < unknowns_of l.grid
      low m b =
          let cs = operator_cols l Galerkin 0 r in
          let same : get_or ys m 0 ≡ get_or cs m 0 = sym (tabulate_at_0 (entry_at ys) n m 0 b) ∙ ap (λ (ds : List ℕ). get_or ds m 0) first_placed in
          rw same ((first_mutual l limits).low r (get_or cs m 0) h (in_at cs m (omega (arith, first_laid.next))))

  pub first_marked : {b : Bool} {us vs : List Bool} → b ≡ true → Marked true (places_in ys 0 n) us vs → Marked b (operator_cols l Galerkin 0 r) us vs
  first_marked d p = marked_as p first_placed d

-- ---- the lines, grids and tables of two neighbouring levels, as the code has them

module _ {l : FullLattice} (limits : Limits l.grid) {L : ℕ} {pair : Pair} (p : LevelPair l L pair) {gf gc : Grid3d}
    (a : gf ≡ grid_with l.grid pair.fine.x.cells pair.fine.y.cells pair.fine.z.cells)
    (b : gc ≡ grid_with l.grid pair.coarse.x.cells pair.coarse.y.cells pair.coarse.z.cells) where
  fine_is : gf ≡ grid_at l L
  fine_is = level_grid l L p.fine_is a

  coarse_is : gc ≡ grid_at l (suc L)
  coarse_is = level_grid l (suc L) p.coarse_is b

  pub pass_limits : (Limits gf) × (Limits gc)
  pass_limits = (rw fine_is (grid_limits l limits L), rw coarse_is (grid_limits l limits (suc L)))

  pub coarse_edges_lem : unknowns_of gc ≡ edges_on l (suc L)
  coarse_edges_lem = ap unknowns_of coarse_is

  two_is : two pair ≡ two_at l L
  two_is = level_two p limits

  fine_at_lem : gf ≡ fine_grid (two_at l L)
  fine_at_lem = fine_is ∙ grid_fine l L

  coarse_at : gc ≡ coarse_grid (two_at l L)
  coarse_at = coarse_is ∙ grid_coarse l L

  module _ {nn : List ℕ} (n : nn ≡ tabulate (node_no (two pair)) 195 0) where
    nodes_at_lem : nn ≡ tabulate (node_no (two_at l L)) 195 0
    nodes_at_lem = n ∙ ap (λ (t : TwoLevels). tabulate (node_no t) 195 0) two_is

    pub pass_nested : NestedIn gf gc nn
    pass_nested =
        let w : NestedIn (fine_grid (two pair)) (coarse_grid (two pair)) (tabulate (node_no (two pair)) 195 0) =
        nodes_nested pair.paired in
        let v : NestedIn (fine_grid (two_at l L)) (coarse_grid (two_at l L)) (tabulate (node_no (two_at l L)) 195 0) =
        subst (λ (t : TwoLevels). NestedIn (fine_grid t) (coarse_grid t) (tabulate (node_no t) 195 0)) two_is w in
        rw (fine_at_lem, coarse_at, nodes_at_lem) v

    pub eps_raised : {flags xs ys : List Bool} → Raised (unknowns_of gc) flags (eps_reads_in gf gc nn) xs ys → Raised (edges_on l (suc L)) flags (eps_reads (two_at l L)) xs ys
    eps_raised w =
        raised_as w coarse_edges_lem
        (λ r h. (λ i. eps_reads_in (fine_at_lem i) (coarse_at i) (nodes_at_lem i) r)
        ∙ reads_same (two_at l L) (subst Limits (grid_coarse l L) (grid_limits l limits (suc L))) r (subst (λ (g : Grid3d). r < unknowns_of g) coarse_at h))

-- ---- averaged permittivities, and a rediscretized level's own lattice

module _ {l : FullLattice} (limits : Limits l.grid) {L : ℕ} {pair : Pair} (p : LevelPair l L pair) where
  same_two : two pair ≡ two_at l L
  same_two = level_two p limits

  pub averaged_asked : {nn : List ℕ} {n : ℕ} (flags xs : List Bool) → nn ≡ tabulate (node_no (two pair)) 195 0 → n ≡ edges_on l (L + 1)
      → (edges_on l L ≤ length flags) × (edges_on l (suc L) ≤ length xs)
      → PairedLines (full pair.l) pair.fine pair.coarse × ((nn ≡ tabulate (node_no (two pair)) 195 0) × ((unknowns_of (fine_grid (two pair)) ≤ length flags)
      × ((n ≡ unknowns_of (coarse_grid (two pair))) × (n ≤ length xs))))
  averaged_asked flags xs d e room =
      let f : unknowns_of (fine_grid (two pair)) ≡ edges_on l L = ap (λ (t : TwoLevels). unknowns_of (fine_grid t)) same_two ∙ ap unknowns_of (sym (grid_fine l L)) in
      let c : unknowns_of (coarse_grid (two pair)) ≡ edges_on l (suc L) = ap (λ (t : TwoLevels). unknowns_of (coarse_grid t)) same_two ∙ ap unknowns_of (sym (grid_coarse l L)) in
      (rw (p.base_is) (lines_nested l L limits (p.fine_is, p.coarse_is)), (d, (omega (arith, room.0), (edges_next l L e ∙ sym c, omega (arith, room.1, edges_next l L e)))))

  pub averaged_raised : {n : ℕ} {flags xs ys : List Bool} → n ≡ edges_on l (L + 1) → Raised n flags (averaged_reads (two pair)) xs ys
      → Raised (edges_on l (suc L)) flags (averaged_reads (two_at l L)) xs ys
  averaged_raised e w = raised_as w (edges_next l L e) (λ r h. ap (λ (t : TwoLevels). averaged_reads t r) same_two)

module _ (l : FullLattice) (limits : Limits l.grid) (m : ℕ) {lines : List Line} (has : HasLines l m lines) {L : ℕ} (low : L < m) {s : Three} (q : s ≡ three_in lines (L + 1)) where
  own_three : s ≡ three_at l (suc L)
  own_three = level_lines l m has {L = suc L} {k = L + 1} low (omega arith) q

  pub own_held : HeldThree s
  own_held = rw own_three (paired_at l L limits).coarse_held

  pub own_tame : (Tame s.x) × (Tame s.y) × (Tame s.z)
  own_tame = rw own_three (tame_at l limits (suc L))

  module _ {k : FullLattice} (e : k ≡ rediscretized_lattice l (lines_in s)) where
    own_is : k ≡ lattice_at l (suc L)
    own_is = lattice_at_lem l limits (suc L) (λ z. omega arith) own_three e

    own_edges : unknowns_of k.grid ≡ edges_on l (suc L)
    own_edges = ap (λ (k : FullLattice). unknowns_of k.grid) own_is ∙ level_edges l (suc L)

    pub own_asked : (xs : List Bool) → edges_on l (suc L) ≤ length xs → Limits k.grid × (unknowns_of k.grid ≤ length xs)
    own_asked xs room = (subst (λ (k : FullLattice). Limits k.grid) (sym own_is) (lattice_limits l limits (suc L)), omega (arith, own_edges))

    pub own_raised : {flags xs ys : List Bool} → Raised (unknowns_of k.grid) flags (stencil_reads k) xs ys
        → Raised (edges_on l (suc L)) flags (stencil_reads (lattice_at l (suc L))) xs ys
    own_raised w = raised_as w own_edges (λ r h. ap (λ (k : FullLattice). stencil_reads k r) own_is)
