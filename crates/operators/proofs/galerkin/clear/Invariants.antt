use Rattle.operators.specs.Galerkin.{Cleared}
use Rattle.operators.proofs.galerkin.clear.Given as goal

abbrev pub invariant-loop-c : goal.invariant-loop-c
invariant-loop-c l = Cleared l.columns l.k l.c-index l.initial.sums l.sums
