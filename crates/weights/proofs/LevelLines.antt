-- Laws of two levels: the lattice and the lines of the levels that lines in records give.
-- Assumes nothing.
use Prim.Native.Nat.{ℕ, zero, suc, ◌<◌}
use mathlib.Core.List.{List}
use lib.ListN.{get_or}
use native.Mathlib.Omega.{arith}
use mathlib.Core.Path.{◌≡◌, refl, ap, ◌∙◌}
use Rattle.lattice.specs.declared.levels.Three.{Three}
use Rattle.lattice.specs.declared.line.Line.{Line}
use Rattle.lattice.specs.Grid.{axis3, Limits}
use Rattle.lattice.specs.Lattice.{FullLattice}
use Rattle.lattice.specs.Levels.{line_at, three_at}
use Rattle.lattice.specs.Line.{ends_of, nodes_of}
use Rattle.lattice.proofs.Equations.{three_at_is}
use Rattle.lattice.proofs.GridLaws.{axis_both}
use Rattle.weights.specs.Tables.{lines_in}
use Rattle.weights.specs.TwoLevels.{TwoLevels, fine_line, coarse_line, node_on, two_of}
use Rattle.weights.proofs.Equations.{lines_in_is, lines_in_0, lines_in_1, lines_in_2}
use Rattle.lattice.proofs.NestLaws.{line_ends}

-- ---- two levels from lines in records

module _ (l : FullLattice) (fine coarse : Three) where
  pub two_base : (two_of l fine coarse).base ≡ l
  unfolding two_of
  two_base = refl

  pub two_fine : (a : ℕ) → fine_line (two_of l fine coarse) a ≡ lines_in fine a
  unfolding two_of fine_line lines_in
  two_fine a = refl

  pub two_coarse : (a : ℕ) → coarse_line (two_of l fine coarse) a ≡ lines_in coarse a
  unfolding two_of coarse_line lines_in
  two_coarse a = refl

-- ---- the lines of a level, in records

pub three_lines : (l : FullLattice) → Limits l.grid → (L a : ℕ) → a < 3 → lines_in (three_at l L) a ≡ line_at l a L
three_lines l h L zero b = lines_in_0 (three_at l L) ∙ ap (λ (s : Three). ends_of s.x) (three_at_is l L) ∙ line_ends l h 0 L
three_lines l h L (suc zero) b = lines_in_1 (three_at l L) ∙ ap (λ (s : Three). ends_of s.y) (three_at_is l L) ∙ line_ends l h 1 L
three_lines l h L (suc (suc zero)) b = lines_in_2 (three_at l L) ∙ ap (λ (s : Three). ends_of s.z) (three_at_is l L) ∙ line_ends l h 2 L
three_lines l h L (suc (suc (suc a))) b = absurd (omega arith)

pub lines_on : (s : Three) (a : ℕ) → ends_of (axis3 a s.x s.y s.z) ≡ lines_in s a
lines_on s a = rw (lines_in_is s a) (axis_both (λ (f : Line) (es : List ℕ). ends_of f ≡ es) a refl refl refl)

-- ---- the node of a fine line that is node m of a coarse one

pub node_is : (t : TwoLevels) (a m : ℕ) → node_on t a m ≡ get_or (nodes_of (fine_line t a) (coarse_line t a)) m 0
unfolding node_on
node_is t a m = refl
