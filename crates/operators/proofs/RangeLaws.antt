-- What a level's rows read and name lies in its level or the next, on every lattice within the limits.
-- Assumes nothing.
use Prim.Native.Nat.{ℕ, zero, suc, ◌+◌, ◌-◌, ◌<◌, ◌≤◌}
use native.Mathlib.Omega.{arith}
use mathlib.Core.Path.{◌≡◌, sym, ap, subst}
use mathlib.Core.Bool.{Bool}
use mathlib.Core.List.{List, [], ◌∷◌}
use lib.ListN.{length}
use Rattle.numbers.specs.declared.C64.{C64}
use Rattle.numbers.specs.Lists.{In, start_of}
use Rattle.numbers.specs.Terms.{columns_of}
use Rattle.numbers.specs.Transpose.{turned_reads}
use Rattle.numbers.proofs.EachLaws.{All, none, more, length_columns}
use Rattle.numbers.proofs.Equations.{start_of_is}
use Rattle.numbers.proofs.ListLaws.{rows_most}
use Rattle.numbers.proofs.MemberLaws.{all_in}
use Rattle.lattice.specs.declared.grid.Position.{Position}
use Rattle.lattice.specs.declared.line.Line.{Line}
use Rattle.lattice.specs.Grid.{n_of, next_axis, last_axis, place_on, at_of, unknowns_of, Limits, Inside}
use Rattle.lattice.specs.Lattice.{FullLattice, edges_of, is_wall}
use Rattle.lattice.specs.Levels.{three_at}
use Rattle.lattice.specs.Line.{ends_of}
use Rattle.lattice.proofs.GridLaws.{axis_both, place_inside, at_inside, unknowns_most}
use Rattle.weights.specs.CoarseEps.{eps_reads}
use Rattle.weights.specs.Prolongation.{weight_columns, weight_reads}
use Rattle.weights.specs.TwoLevels.{TwoLevels, fine_cells, coarse_cells, node_on, fine_grid, coarse_grid, two_at, two_of}
use Rattle.weights.specs.Whole.{fine_edges, coarse_edges}
use Rattle.weights.proofs.Equations.{fine_line_is, coarse_line_is, fine_cells_is, coarse_cells_is, two_of_is}
use Rattle.weights.proofs.PairLaws.{two_at_lem}
use Rattle.weights.proofs.ProductLaws.{starts_few}
use Rattle.weights.proofs.TwoLevelLaws.{line_cells_lem, fine_n, coarse_n}
use Rattle.operators.specs.declared.averaged.Hat.{Hat}
use Rattle.operators.specs.Averaged.{around, hats_around, hats_on, cell_start, cell_count, averaged_eps, hat_lines, averaged_reads, LinePair}
use Rattle.operators.specs.LevelLists.{edges_on}
use Rattle.operators.specs.Levels.{averaged_on, forward_at, turned_at, galerkin_at, lattice_at, rediscretized_at}
use Rattle.operators.specs.Stencil.{stencil_reads}
use Rattle.operators.proofs.AverageLaws.{averaged_local, all_low}
use Rattle.operators.proofs.ColumnsOnly.{forward_start}
use Rattle.numbers.proofs.TransposedLaws.{reads_low, mem_in}
use Rattle.weights.proofs.SeamLaws as Weights
use Rattle.operators.proofs.ForwardPattern.{grid_fine, grid_coarse, grid_limits, turned_named}
use Rattle.operators.proofs.HatLaws.{Below, around_below, pairs_at}
use Rattle.operators.proofs.LevelListLaws.{columns_most, lattice_limits, first_edges}
use Rattle.lattice.proofs.PlaceLaws.{reads_low as row_reads_low}
use Rattle.operators.proofs.RediscretizedLists as Rediscretized
use Rattle.operators.proofs.StencilLaws.{stencil_most}

-- ---- a transfer

-- the edges of two neighbouring levels
module _ (l : FullLattice) (L : ℕ) where
  pub fine_edges_lem : fine_edges (two_at l L) ≡ edges_on l L
  fine_edges_lem = ap unknowns_of (sym (grid_fine l L))

  pub coarse_edges_lem : coarse_edges (two_at l L) ≡ edges_on l (suc L)
  coarse_edges_lem = ap unknowns_of (sym (grid_coarse l L))

module _ (l : FullLattice) (limits : Limits l.grid) (L : ℕ) where
  abbrev two : TwoLevels
  two = two_at l L

  levels : Weights.Nested two
  levels = Weights.nested_levels l limits L

  -- the permittivity of an edge of the next level reads those of this one
  pub eps_reads_low : (r c : ℕ) → r < edges_on l (suc L) → In c (eps_reads two r) → c < edges_on l L
  eps_reads_low r c b i = rw (← fine_edges_lem l L) (Weights.eps_low levels r c (rw (coarse_edges_lem l L) b) i)

  -- a forward row reads permittivities of this level, and names edges of the next
  pub weight_reads_low : (r c : ℕ) → r < edges_on l L → In c (weight_reads two r) → c < edges_on l L
  weight_reads_low r c b i = rw (← fine_edges_lem l L) (Weights.weight_low levels r c (rw (fine_edges_lem l L) b) i)

  pub weight_columns_low : (r c : ℕ) → r < edges_on l L → In c (weight_columns two r) → c < edges_on l (suc L)
  weight_columns_low r c b i = rw (← coarse_edges_lem l L) (Weights.column_low levels r c (rw (fine_edges_lem l L) b) i)

  -- a turned row names edges of this level, and reads numbers of the forward rows
  pub turned_names_low : (f : ℕ → C64) (c r : ℕ) → In r (columns_of (turned_at l f L c)) → r < edges_on l L
  turned_names_low f c r i = ((turned_named l limits f L c r).0 i).0

  pub turned_reads_low : (c q : ℕ) → In q (turned_reads (weight_columns two) (edges_on l L) c) → q < start_of (weight_columns two) (edges_on l L)
  turned_reads_low c q i = reads_low (weight_columns two) c (edges_on l L) q i

  -- ---- averaged permittivities: the nodes around a coarse node are nodes of the fine line

  below_all : (b : ℕ) (hs : List Hat) → Below b hs → All (λ (h : Hat). h.node < b) hs
  unfolding Below
  below_all b [] p = none
  below_all b (h ∷ hs) p = more p.0 (below_all b hs p.1)

  around_line : {f c : Line} (wall : Bool) (m : ℕ) → LinePair f c → m < length (ends_of c) - 1 → Below (length (ends_of f) - 1) (around wall (ends_of f) (ends_of c) m)
  around_line wall m pair b = around_below pair wall m (omega (arith, line_cells_lem pair.coarse_held))

  abbrev held : TwoLevels
  held = two_of l (three_at l L) (three_at l (suc L))

  hats_held : (a m : ℕ) → m < coarse_cells held a → Below (fine_cells held a) (hats_around held a m)
  unfolding hats_around
  hats_held a m =
      let u = pairs_at l limits L in
      rw (coarse_cells_is, fine_cells_is, coarse_line_is, fine_line_is, two_of_is)
      (axis_both (λ (fs cs : List ℕ). m < length cs - 1 → Below (length fs - 1) (around (is_wall (edges_of l a)) fs cs m)) a
      (around_line (is_wall (edges_of l a)) m u.x_pair) (around_line (is_wall (edges_of l a)) m u.y_pair) (around_line (is_wall (edges_of l a)) m u.z_pair))

  hats_low : (p : Position) → Inside (coarse_grid two) p → (a : ℕ) → All (λ (h : Hat). h.node < n_of (fine_grid two) a) (hats_on two p a)
  unfolding hats_on
  hats_low p k a =
      let m = place_on p a in
      let b : m < coarse_cells two a = omega (arith, place_inside k a, coarse_n two a) in
      rw (fine_n two a) (below_all (fine_cells two a) (hats_around two a m)
      (subst (λ (t : TwoLevels). m < coarse_cells t a → Below (fine_cells t a) (hats_around t a m)) (two_at_lem l limits L) (hats_held a m) b))

  -- the averaged permittivity of an edge of the next level reads those of this one
  pub averaged_reads_low : (r c : ℕ) → r < edges_on l (suc L) → In c (averaged_reads two r) → c < edges_on l L
  unfolding averaged_reads hat_lines cell_start cell_count
  averaged_reads_low r c b i =
      let p = at_of (coarse_grid two) r in
      let k : Inside (coarse_grid two) p = at_inside levels.coarse_limits r (rw (coarse_edges_lem l L) b) in
      let a = p.component in
      let q = place_on p a in
      let h : q < coarse_cells two a = omega (arith, place_inside k a, coarse_n two a) in
      let first = node_on two a q in
      let last = node_on two a (q + 1) in
      let low = all_low levels.fine_limits p first (last - first) k.c_in (omega (arith, fine_n two a, levels.nested a q h, levels.ended a (q + 1) (omega arith)))
      (hats_on two p (last_axis a)) (hats_on two p (next_axis a)) (hats_low p k (last_axis a)) (hats_low p k (next_axis a)) in
      rw (← fine_edges_lem l L) (all_in low c i)

  -- readers that agree there give the same
  pub averaged_agree : (f g : ℕ → C64) → ((c : ℕ) → c < edges_on l L → f c ≡ g c) → (r : ℕ) → r < edges_on l (suc L) → averaged_eps two f r ≡ averaged_eps two g r
  averaged_agree f g h r b = averaged_local two f g r (λ c i. h c (averaged_reads_low r c b (mem_in i)))

-- ---- rows from a lattice

module _ (l : FullLattice) (limits : Limits l.grid) where
  -- of the lattice's own edges
  pub lattice_reads_low : (r c : ℕ) → r < unknowns_of l.grid → In c (stencil_reads l r) → c < unknowns_of l.grid
  unfolding stencil_reads
  lattice_reads_low r c b i = all_in (row_reads_low l limits r b) c i

  -- level 0's rows read the given permittivities
  pub first_reads_low : (r c : ℕ) → r < edges_on l 0 → In c (stencil_reads l r) → c < edges_on l 0
  first_reads_low r c b i = rw (← first_edges l) (lattice_reads_low r c (rw (first_edges l) b) i)

-- the lattice of a level has the level's edges
pub level_edges : (l : FullLattice) (L : ℕ) → unknowns_of (lattice_at l L).grid ≡ edges_on l L
unfolding lattice_at
level_edges l zero = first_edges l
level_edges l (suc L) = Rediscretized.lattice_edges l L

-- a rediscretized row reads permittivities of its level
pub stencil_reads_low : (l : FullLattice) → Limits l.grid → (L r c : ℕ) → r < edges_on l L → In c (stencil_reads (lattice_at l L) r) → c < edges_on l L
stencil_reads_low l limits L r c b i =
    rw (← level_edges l L) (lattice_reads_low (lattice_at l L) (lattice_limits l limits L) r c (rw (level_edges l L) b) i)

-- ---- how many terms a level's rows have, so that the code's sums fit

module _ (l : FullLattice) (limits : Limits l.grid) (L : ℕ) where
  pub edges_few : edges_on l L ≤ 12288
  edges_few = unknowns_most (grid_limits l limits L)

  pub forward_few : (f : ℕ → C64) → start_of (forward_at l f L) (edges_on l L) ≤ 98304
  forward_few f = omega (arith, forward_start l f L (edges_on l L), starts_few (two_at l L) (edges_on l L), edges_few)

  pub galerkin_few : (f : ℕ → C64) → start_of (galerkin_at l f L) (edges_on l L) ≤ 150994944
  galerkin_few f =
      omega (
        arith,
        start_of_is (galerkin_at l f L) (edges_on l L),
        rows_most (galerkin_at l f L) 12288 (edges_on l L) (λ r h. omega (arith, columns_most l limits f L r h, length_columns (galerkin_at l f L r))),
        edges_few,
      )

  pub rediscretized_few : (f : ℕ → C64) → start_of (rediscretized_at l f L) (edges_on l L) ≤ 368640
  unfolding rediscretized_at
  rediscretized_few f =
      omega (
        arith,
        start_of_is (rediscretized_at l f L) (edges_on l L),
        rows_most (rediscretized_at l f L) 30 (edges_on l L) (λ r h. stencil_most (lattice_at l L) (averaged_on l f L) r),
        edges_few,
      )
