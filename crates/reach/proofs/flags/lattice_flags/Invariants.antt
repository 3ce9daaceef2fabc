-- `reach::flags::lattice_flags` meets its contract. The invariant: the first c edges that are flagged have set the flags of what their rows read.
-- Assumes nothing.
use Prim.Native.Nat.{◌≤◌}
use Rattle.lattice.specs.Sound.{full}
use Rattle.operators.specs.Stencil.{stencil_reads}
use Rattle.numbers.proofs.MarkedLaws.{Spread}
use Rattle.reach.proofs.flags.lattice_flags.Given as goal

abbrev pub invariant-loop-c : goal.invariant-loop-c
invariant-loop-c l = (l.c ≤ l.n) × Spread l.flags (stencil_reads (full l.l)) l.initial.out l.out l.c
