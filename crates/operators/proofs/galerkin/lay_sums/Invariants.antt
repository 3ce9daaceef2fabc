use Rattle.operators.proofs.GatherLaws.{Summing}
use Rattle.operators.proofs.galerkin.lay_sums.Given as goal

abbrev pub invariant-loop-q : goal.invariant-loop-q
invariant-loop-q l = Summing l.columns l.sums l.k l.n l.initial.values l.values l.q
