use Rattle.operators.proofs.GatherLaws.{Adding}
use Rattle.operators.specs.Galerkin.{rows_of, fine_of, fine_terms}
use Rattle.operators.proofs.galerkin.gather.Given as goal

abbrev pub invariant-loop-q : goal.invariant-loop-q
invariant-loop-q l =
    Adding (fine_terms (fine_of l.fine) (rows_of l.p)) l.t.columns.now l.t.values.now l.initial.q l.q-end l.initial.sums l.sums l.q
