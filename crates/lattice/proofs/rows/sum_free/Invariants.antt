use Rattle.lattice.specs.Sound.{full}
use Rattle.numbers.specs.Places.{number_at}
use Rattle.lattice.proofs.RowLaws.{Summing}
use Rattle.lattice.proofs.rows.sum_free.Given as goal

abbrev pub invariant-loop-c : goal.invariant-loop-c
invariant-loop-c l = Summing (full l.l) (number_at l.eps) l.cs l.total l.count l.c-index
