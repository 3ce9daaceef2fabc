-- `operators::words::unit` meets its contract.
-- Assumes nothing.
use Rattle.operators.proofs.WordLaws.{single_shifted}
use Rattle.operators.proofs.words.unit.Goals as goal

pub returns : goal.returns
returns c = single_shifted c.args.k c.requires
