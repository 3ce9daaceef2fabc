use Rattle.operators.proofs.GatherLaws.{gathered_one}
use Rattle.operators.proofs.galerkin.add_term.Goals as goal

pub returns : goal.returns
returns c = gathered_one c.find-s.ensures c.add.ensures c.put.ensures
