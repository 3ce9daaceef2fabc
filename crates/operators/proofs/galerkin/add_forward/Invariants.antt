use Rattle.operators.proofs.GatherLaws.{Adding}
use Rattle.operators.specs.Galerkin.{scaled_term}
use Rattle.operators.proofs.galerkin.add_forward.Given as goal

abbrev pub invariant-loop-q : goal.invariant-loop-q
invariant-loop-q l = Adding (scaled_term l.wv) l.columns l.values l.first l.last l.initial.sums l.sums l.q
