use Rattle.numbers.proofs.TermLaws.{wrote_none}
use Rattle.lattice.proofs.curls.push_to.Goals as goal

pub returns-in_default : goal.returns-in_default
returns-in_default c = rw c.in_default.is wrote_none
