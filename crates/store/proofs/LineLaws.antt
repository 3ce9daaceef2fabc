-- The lines of the levels, as the code has them: those of a level, and what two neighbouring levels' lines give.
-- Assumes nothing.
use Prim.Native.Nat.{ℕ, suc, ◌+◌, ◌*◌, ◌/◌, ◌%◌, ◌≤◌, ◌<◌}
use mathlib.Core.Path.{◌≡◌, refl, sym, ap, ◌∙◌}
use mathlib.Core.List.{List}
use native.Mathlib.Omega.{arith}
use lib.ListN.{length, get_or}
use Rattle.numbers.proofs.TabulateLaws.{length_tabulate}
use Rattle.lattice.specs.declared.grid.Grid3d.{Grid3d}
use Rattle.lattice.specs.declared.line.Line.{Line}
use Rattle.lattice.specs.declared.levels.Three.{Three}
use Rattle.lattice.specs.declared.levels.Lines.{Lines}
use Rattle.lattice.specs.Check.{accepted}
use Rattle.lattice.specs.Grid.{Limits, unknowns_of}
use Rattle.lattice.specs.Lattice.{FullLattice}
use Rattle.lattice.specs.Sound.{full}
use Rattle.lattice.specs.Levels.{line_at, line_no, lines_to, three_at, depth_of, count_of, Joined}
use Rattle.lattice.specs.Line.{packed}
use Rattle.lattice.proofs.Equations.{lines_to_is, three_at_is}
use Rattle.lattice.proofs.LevelLaws.{lines_at}
use Rattle.weights.specs.Tables.{Paired}
use Rattle.weights.specs.declared.pair.Pair.{Pair}
use Rattle.weights.specs.Pair.{two}
use Rattle.weights.specs.TwoLevels.{grid_with, two_at, two_of}
use Rattle.weights.proofs.PairLaws.{two_at_lem, paired_at}
use Rattle.operators.specs.Averaged.{PairedLines}
use Rattle.operators.specs.LevelLists.{edges_on}
use Rattle.operators.specs.Levels.{grid_at}
use Rattle.operators.proofs.HatLaws.{pairs_at}
use Rattle.operators.proofs.LevelListLaws.{level_grid, level_limits, level_edges}
use Rattle.store.specs.Hierarchy.{LevelPair}
use Rattle.store.specs.Phases.{blank_line, HasLines, three_in}
use Rattle.lattice.proofs.LevelLaws.{depth_most}

-- the lines of so many levels
pub lines_of : (l : FullLattice) (m : ℕ) {lines : List Line} → lines ≡ lines_to l (suc m) → m ≤ 11 → HasLines l m lines
lines_of l m is deep =
    record {
      long = ap (λ (vs : List Line). length vs) (is ∙ lines_to_is l (suc m)) ∙ length_tabulate (line_no l (suc m)) 36 0;
      line_is = λ q h.
          ap (λ (vs : List Line). get_or vs q blank_line) is
          ∙ lines_at l (suc m) (q / 3) (q % 3) q blank_line (omega arith) (omega arith) (omega arith) (omega arith);
    }

-- the lines that the level loop found are those of its levels
pub lines_to_lem : (l : FullLattice) (coarsest m : ℕ) {r : Lines} → Joined l coarsest r → depth_of l coarsest ≡ accepted (suc m) → r.lines ≡ lines_to l (suc m)
lines_to_lem l coarsest m joined e = joined.lines_are ∙ ap (lines_to l) (ap count_of e)

pub has_lines : (l : FullLattice) (coarsest m : ℕ) {r : Lines} → Joined l coarsest r → depth_of l coarsest ≡ accepted (suc m) → (HasLines l m r.lines) × (m ≤ 11)
has_lines l coarsest m joined e =
    let deep : m ≤ 11 = omega (arith, depth_most l coarsest (suc m) e) in
    (lines_of l m (lines_to_lem l coarsest m joined e) deep, deep)

-- the edges of the next level
pub edges_next : (l : FullLattice) (L : ℕ) {n : ℕ} → n ≡ edges_on l (L + 1) → n ≡ edges_on l (suc L)
edges_next l L e = let next : L + 1 ≡ suc L = omega arith in e ∙ ap (edges_on l) next

-- ---- the lines of one level

module _ (l : FullLattice) (m : ℕ) {lines : List Line} (has : HasLines l m lines) where
  pub line_at_lem : (L a q : ℕ) → L ≤ m → a < 3 → q ≡ 3 * L + a → get_or lines q blank_line ≡ packed (line_at l a L)
  line_at_lem L a q h b e =
      let u : q / 3 ≡ L = omega arith in
      let v : q % 3 ≡ a = omega arith in
      rw (u, v) at (has.line_is q (omega arith))

  pub three_is : (L : ℕ) → L ≤ m → three_in lines L ≡ three_at l L
  three_is L h =
      let x = line_at_lem L 0 (3 * L) h (omega arith) (omega arith) in
      let y = line_at_lem L 1 (3 * L + 1) h (omega arith) refl in
      let z = line_at_lem L 2 (3 * L + 2) h (omega arith) refl in
      (λ i. record { x = x i; y = y i; z = z i }) ∙ sym (three_at_is l L)

  -- as the code has them: the level by its number, its cells, its edges
  module _ {L k : ℕ} (low : L ≤ m) (at : k ≡ L) {s : Three} (e : s ≡ three_in lines k) where
    pub level_lines : s ≡ three_at l L
    level_lines = e ∙ ap (three_in lines) at ∙ three_is L low

    pub grid_is : {g : Grid3d} → g ≡ grid_with l.grid s.x.cells s.y.cells s.z.cells → g ≡ grid_at l L
    grid_is p = level_grid l L level_lines p

    pub lines_limits : Limits l.grid → Limits (grid_with l.grid s.x.cells s.y.cells s.z.cells)
    lines_limits limits = level_limits l L level_lines refl limits

    pub edges_are : {n : ℕ} → n ≡ unknowns_of (grid_with l.grid s.x.cells s.y.cells s.z.cells) → n ≡ edges_on l L
    edges_are p = level_edges l L level_lines refl p

-- ---- the lines of two neighbouring levels

module _ (l : FullLattice) (limits : Limits l.grid) (m : ℕ) {lines : List Line} (has : HasLines l m lines) {L : ℕ} (low : L < m) {fine coarse : Three}
    (p : fine ≡ three_in lines L) (q : coarse ≡ three_in lines (L + 1)) where
  pub both_lines : (fine ≡ three_at l L) × (coarse ≡ three_at l (suc L))
  both_lines = (level_lines l m has (omega arith) refl p, level_lines l m has low (omega arith) q)

  pub lines_paired : Paired l fine coarse
  lines_paired = let e = both_lines in rw (e.0, e.1) (paired_at l L limits)

  pub lines_two : two_of l fine coarse ≡ two_at l L
  lines_two = let e = both_lines in (λ i. two_of l (e.0 i) (e.1 i)) ∙ two_at_lem l limits L

-- the same of a pair
module _ {l : FullLattice} {L : ℕ} {pair : Pair} (p : LevelPair l L pair) where
  pub level_pair : two pair ≡ two_of l (three_at l L) (three_at l (suc L))
  level_pair = λ i. two_of (p.base_is i) (p.fine_is i) (p.coarse_is i)

  pub level_two : Limits l.grid → two pair ≡ two_at l L
  level_two limits = level_pair ∙ two_at_lem l limits L

  -- what a pair whose lines are nested needs
  pub level_nested : Limits l.grid → PairedLines (full pair.l) pair.fine pair.coarse
  level_nested limits = rw (p.base_is, p.fine_is, p.coarse_is) (pairs_at l limits L)
