-- `operators::stencil::mark_reads` meets its contract. The invariant: the flags of the edges of the first nodes are set, but for fixed ones.
-- Assumes nothing.
use lib.ListN.{length}
use Rattle.lattice.specs.Sound.{full}
use Rattle.lattice.specs.Rows.{free_columns}
use Rattle.numbers.proofs.MarkedLaws.{Marking}
use Rattle.operators.proofs.stencil.mark_reads.Given as goal

abbrev pub invariant-loop-q : goal.invariant-loop-q
invariant-loop-q l = Marking (free_columns (full l.l)) l.q-items (length l.q-items) l.initial.out l.out l.q-index
