-- The rediscretized operator of the next level in lists: its permittivities are laid first, then its rows are worked out from the lattice of its lines
-- and from the permittivities in the list.
-- Assumes nothing.
use Prim.Native.Nat.{ℕ, suc, ◌+◌, ◌*◌, ◌/◌, ◌<◌, ◌≤◌, ◌^◌}
use native.Mathlib.Omega.{arith}
use mathlib.Core.Path.{◌≡◌, sym, ap, ◌∙◌, subst}
use mathlib.Core.Bool.{Bool, true, false, ◌&&◌}
use mathlib.Core.List.{List}
use lib.ListN.{length}
use lib.Ieee.{Float}
use Rattle.numbers.specs.declared.C64.{C64}
use Rattle.numbers.specs.Complex.{no_number}
use Rattle.numbers.proofs.Laws.{and_true, and_false}
use Rattle.lattice.specs.declared.grid.Grid3d.{Grid3d}
use Rattle.lattice.specs.declared.lattice.Lattice.{Lattice}
use Rattle.lattice.specs.declared.levels.Three.{Three}
use Rattle.lattice.specs.Grid.{unknowns_of, Limits}
use Rattle.lattice.specs.Lattice.{FullLattice, full_lattice}
use Rattle.numbers.specs.Lists.{tabulate, rows, laid, laid_numbers, all_finite, read_from}
use Rattle.lattice.specs.Levels.{cells_at, three_at}
use Rattle.numbers.specs.Terms.{Term, columns_of, numbers_of, LaidRows}
use Rattle.numbers.proofs.TabulateLaws.{length_tabulate, tabulate_agree, tabulate_at_0}
use Rattle.weights.specs.Tables.{lines_in, ChainRoom}
use Rattle.weights.specs.TwoLevels.{TwoLevels, fine_grid, coarse_grid, two_at, two_of}
use Rattle.numbers.proofs.ListLaws.{laid_numbers_length, laid_numbers_at, rows_agree, starts_agree, start_agree}
use Rattle.weights.proofs.PairLaws.{two_at_lem}
use Rattle.weights.proofs.WholeLaws.{all_in}
use Rattle.operators.specs.Averaged.{averaged_eps, PairedLines}
use Rattle.operators.specs.LevelLists.{edges_on}
use Rattle.operators.specs.Levels.{grid_at, line_on, lattice_at}
use Rattle.operators.specs.Rediscretized.{cells_on, half_stretch, node_stretch, rediscretized_grid, rediscretized_lattice, lattice_on, Tame}
use Rattle.operators.specs.Stencil.{stencil_row, stencil_reads}
use Rattle.numbers.proofs.Equations.{read_from_is}
use Rattle.lattice.proofs.Equations.{cells_at_is}
use Rattle.weights.proofs.Equations.{grid_with_is}
use Rattle.lattice.proofs.PlaceLaws.{reads_low, unknowns_same}
use Rattle.weights.proofs.LevelLines.{three_lines}
use Rattle.operators.proofs.ForwardPattern.{grid_fine, grid_coarse}
use Rattle.operators.proofs.HatLaws.{pairs_at}
use Rattle.operators.proofs.LevelListLaws.{lattice_limits}
use Rattle.operators.proofs.RediscretizedLaws.{tame_at}
use Rattle.operators.proofs.StencilLaws.{stencil_local}

-- ---- the permittivities that a row reads are those of the lattice's edges

module _ (l : FullLattice) (limits : Limits l.grid) (r : ℕ) (low : r < unknowns_of l.grid) where
  pub stencil_agree : (f g : ℕ → C64) → ((c : ℕ) → c < unknowns_of l.grid → f c ≡ g c) → stencil_row l f r ≡ stencil_row l g r
  unfolding stencil_reads
  stencil_agree f g h = stencil_local l f g r (λ c m. h c (all_in (reads_low l limits r low) c m))

-- ---- the lattice of a level, from its lines

-- only the lines of three axes are looked at
lattice_agree : (l : FullLattice) (s t : ℕ → List ℕ) → ((a : ℕ) → a < 3 → s a ≡ t a) → rediscretized_lattice l s ≡ rediscretized_lattice l t
unfolding rediscretized_lattice
lattice_agree l s t h =
    λ i.
    record {
      grid = grids i;
      x = l.x;
      y = l.y;
      z = l.z;
      k0 = l.k0;
      shift = l.shift;
      nodes = tabulate_agree (node_stretch l s) (node_stretch l t) 192 no_number nodes i;
      halves = tabulate_agree (half_stretch l s) (half_stretch l t) 192 no_number halves i;
    }
  where
    grids : rediscretized_grid l.grid s ≡ rediscretized_grid l.grid t
    grids = unfold rediscretized_grid in rw (h 0 (omega arith), h 1 (omega arith), h 2 (omega arith))

    nodes : (k : ℕ) → k < 192 → node_stretch l s k ≡ node_stretch l t k
    nodes k b = unfold node_stretch in rw (h (k / 64) (omega arith))

    halves : (k : ℕ) → k < 192 → half_stretch l s k ≡ half_stretch l t k
    halves k b = unfold half_stretch in rw (h (k / 64) (omega arith))

-- the lattice of level L + 1, from its lines
pub lattice_own : (l : FullLattice) → Limits l.grid → (L : ℕ) {s : Three} {m : FullLattice} → s ≡ three_at l (suc L)
    → m ≡ rediscretized_lattice l (lines_in s) → m ≡ lattice_at l (suc L)
unfolding lattice_at line_on
lattice_own l limits L p e =
    e
    ∙ ap (λ (s : Three). rediscretized_lattice l (lines_in s)) p
    ∙ lattice_agree l (lines_in (three_at l (suc L))) (line_on l (suc L)) (λ a b. three_lines l limits (suc L) a b)

pub lattice_edges : (l : FullLattice) (L : ℕ) → unknowns_of (lattice_at l (suc L)).grid ≡ edges_on l (suc L)
unfolding lattice_at rediscretized_lattice rediscretized_grid line_on cells_on grid_at
lattice_edges l L =
    let e = grid_with_is l.grid (cells_at l 0 (suc L)) (cells_at l 1 (suc L)) (cells_at l 2 (suc L)) in
    unknowns_same (lattice_at l (suc L)).grid (grid_at l (suc L))
    (sym (ap (λ (g : Grid3d). g.nx) e ∙ cells_at_is l 0 (suc L)))
    (sym (ap (λ (g : Grid3d). g.ny) e ∙ cells_at_is l 1 (suc L)))
    (sym (ap (λ (g : Grid3d). g.nz) e ∙ cells_at_is l 2 (suc L)))

-- the lattice that is worked out, with its stretches
pub own_lattice : (l : Lattice) (m : FullLattice) (s : Three) (xs : List Float) {k : Lattice} → k ≡ lattice_on l s
    → full_lattice (lattice_on l s) xs ≡ rediscretized_lattice m (lines_in s) → full_lattice k xs ≡ rediscretized_lattice m (lines_in s)
own_lattice l m s xs e d = ap (λ (k : Lattice). full_lattice k xs) e ∙ d

-- ---- rows that agree have been laid as well

module _ {row other : ℕ → List Term} {n : ℕ} (h : (r : ℕ) → r < n → row r ≡ other r) where
  pub turned_agree : {ss ss' cs cs' : List ℕ} {xs xs' : List Float} {s k : ℕ} → LaidRows row n ss s cs xs k ss' cs' xs' → LaidRows other n ss s cs xs k ss' cs' xs'
  turned_agree {ss} {ss'} {cs} {cs'} {xs} {xs'} {s} {k} u =
      let p : rows row n ≡ rows other n = rows_agree row other n h in
      record {
        starts_are = u.starts_are ∙ ap (laid ss s) (starts_agree row other n (start_agree row other n h));
        columns_are = u.columns_are ∙ ap (λ (ts : List Term). laid cs k (columns_of ts)) p;
        numbers_are = u.numbers_are ∙ ap (λ (ts : List Term). laid_numbers xs k (numbers_of ts)) p;
      }

-- ---- the next level, from the lines of both

module _ (l : FullLattice) (L : ℕ) (limits : Limits l.grid) {fine coarse : Three} (lines : (fine ≡ three_at l L) × (coarse ≡ three_at l (suc L))) where
  pub lines_nested : PairedLines l fine coarse
  lines_nested = rw (lines.0, lines.1) (pairs_at l limits L)

  pub coarse_tame : (Tame coarse.x) × (Tame coarse.y) × (Tame coarse.z)
  coarse_tame = rw lines.1 (tame_at l limits (suc L))

  two_is : two_of l fine coarse ≡ two_at l L
  two_is = (λ i. two_of l (lines.0 i) (lines.1 i)) ∙ two_at_lem l limits L

  fine_edges_lem : unknowns_of (fine_grid (two_of l fine coarse)) ≡ edges_on l L
  fine_edges_lem = ap (λ (t : TwoLevels). unknowns_of (fine_grid t)) two_is ∙ ap unknowns_of (sym (grid_fine l L))

  coarse_edges_lem : unknowns_of (coarse_grid (two_of l fine coarse)) ≡ edges_on l (suc L)
  coarse_edges_lem = ap (λ (t : TwoLevels). unknowns_of (coarse_grid t)) two_is ∙ ap unknowns_of (sym (grid_coarse l L))

  lattice_is : {m : FullLattice} → m ≡ rediscretized_lattice l (lines_in coarse) → m ≡ lattice_at l (suc L)
  lattice_is e = lattice_own l limits L lines.1 e

  module _ {from to : ℕ} {xs : List Float} (room : ChainRoom (edges_on l L) (edges_on l (suc L)) from to xs) where
    pub room_nested : ChainRoom (unknowns_of (fine_grid (two_of l fine coarse))) (unknowns_of (coarse_grid (two_of l fine coarse))) from to xs
    room_nested = rw (fine_edges_lem, coarse_edges_lem) room

    abbrev eps : ℕ → C64
    eps = averaged_eps (two_at l L) (read_from xs from)

    abbrev n : ℕ
    n = edges_on l (suc L)

    list_is : tabulate (averaged_eps (two_of l fine coarse) (read_from xs from)) (unknowns_of (coarse_grid (two_of l fine coarse))) 0 ≡ tabulate eps n 0
    list_is =
        ap (λ (t : TwoLevels). tabulate (averaged_eps t (read_from xs from)) (unknowns_of (coarse_grid t)) 0) two_is
        ∙ ap (λ (g : Grid3d). tabulate eps (unknowns_of g) 0) (sym (grid_coarse l L))

    pub averaged_finite : {b : Bool}
        → b ≡ all_finite (tabulate (averaged_eps (two_of l fine coarse) (read_from xs from)) (unknowns_of (coarse_grid (two_of l fine coarse))) 0)
        → b ≡ all_finite (tabulate eps n 0)
    averaged_finite e = e ∙ ap all_finite list_is

    module _ {ys : List Float}
        (e : ys ≡ laid_numbers xs to (tabulate (averaged_eps (two_of l fine coarse) (read_from xs from)) (unknowns_of (coarse_grid (two_of l fine coarse))) 0)) where
      pub averaged_laid : ys ≡ laid_numbers xs to (tabulate eps n 0)
      averaged_laid = e ∙ ap (laid_numbers xs to) list_is

      read_is : (c : ℕ) → c < n → read_from ys to c ≡ eps c
      read_is c h =
          let k : length (tabulate eps n 0) ≡ n = length_tabulate eps n 0 in
          rw (read_from_is ys to c, averaged_laid)
          (laid_numbers_at xs to (tabulate eps n 0) c no_number (omega (arith, k)) (omega (arith, k, room.room)) ∙ tabulate_at_0 eps n c no_number h)

      -- the lattice m is worked out from the lines
      module _ {m : FullLattice} (own : m ≡ rediscretized_lattice l (lines_in coarse)) where
        edges_are : unknowns_of m.grid ≡ n
        edges_are = ap (λ (m : FullLattice). unknowns_of m.grid) (lattice_is own) ∙ lattice_edges l L

        pub lattice_asked : Limits m.grid × ((to ≤ 2 ^ 32) × (2 * (to + unknowns_of m.grid) ≤ length ys))
        lattice_asked = (
          subst (λ (m : FullLattice). Limits m.grid) (sym (lattice_is own)) (lattice_limits l limits (suc L)),
          (room.low, omega (arith, edges_are, room.room, ap length averaged_laid, laid_numbers_length xs to (tabulate eps n 0))),
        )

        row_is : (r : ℕ) → r < n → stencil_row m (read_from ys to) r ≡ stencil_row (lattice_at l (suc L)) eps r
        row_is r h =
            let d : unknowns_of (lattice_at l (suc L)).grid ≡ n = lattice_edges l L in
            ap (λ (m : FullLattice). stencil_row m (read_from ys to) r) (lattice_is own)
            ∙ stencil_agree (lattice_at l (suc L)) (lattice_limits l limits (suc L)) r (omega arith) (read_from ys to) eps (λ c b. read_is c (omega arith))

        pub rediscretized_turned : {ss ss' cs cs' : List ℕ} {vs vs' : List Float} {s k : ℕ}
            → LaidRows (stencil_row m (read_from ys to)) (unknowns_of m.grid) ss s cs vs k ss' cs' vs'
            → LaidRows (stencil_row (lattice_at l (suc L)) eps) n ss s cs vs k ss' cs' vs'
        rediscretized_turned u = turned_agree row_is (rw edges_are at u)

        pub rediscretized_finite : {b : Bool} → b ≡ all_finite (numbers_of (rows (stencil_row m (read_from ys to)) (unknowns_of m.grid)))
            → b ≡ all_finite (numbers_of (rows (stencil_row (lattice_at l (suc L)) eps) n))
        rediscretized_finite h =
            h
            ∙ ap (λ (k : ℕ). all_finite (numbers_of (rows (stencil_row m (read_from ys to)) k))) edges_are
            ∙ ap (λ (ts : List Term). all_finite (numbers_of ts)) (rows_agree (stencil_row m (read_from ys to)) (stencil_row (lattice_at l (suc L)) eps) n row_is)

-- ---- whether both are finite

module _ {a b x y : Bool} (v : a ≡ x) (w : b ≡ y) where
  pub both_finite : a ≡ true → b ≡ (x && y)
  both_finite e = w ∙ sym (and_true x y (sym v ∙ e))

  pub one_not : a ≡ false → a ≡ (x && y)
  one_not e = v ∙ sym (and_false x y (sym v ∙ e))
