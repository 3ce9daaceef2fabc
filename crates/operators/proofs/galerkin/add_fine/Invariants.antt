use Rattle.operators.proofs.GatherLaws.{Adding}
use Rattle.operators.specs.Galerkin.{rows_of, forward_terms}
use Rattle.operators.proofs.galerkin.add_fine.Given as goal

abbrev pub invariant-loop-q : goal.invariant-loop-q
invariant-loop-q l =
    Adding (forward_terms (rows_of l.p) l.w) l.cs l.xs l.at l.last l.initial.sums l.sums l.q
