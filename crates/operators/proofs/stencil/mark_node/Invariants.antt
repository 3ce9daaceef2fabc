-- `operators::stencil::mark_node` meets its contract. The invariant: the flags of the first edges are set, but for fixed ones.
-- Assumes nothing.
use Prim.Native.Nat.{ℕ}
use mathlib.Core.List.{[], ◌∷◌}
use lib.ListN.{length}
use Rattle.lattice.specs.Sound.{full}
use Rattle.lattice.specs.Rows.{free_of}
use Rattle.numbers.proofs.MarkedLaws.{Marking}
use Rattle.operators.proofs.stencil.mark_node.Given as goal

abbrev pub invariant-loop-c : goal.invariant-loop-c
invariant-loop-c l = Marking (λ (c : ℕ). free_of (full l.l) (c ∷ [])) l.c-items (length l.c-items) l.initial.out l.out l.c-index
