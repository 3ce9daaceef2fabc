-- `operators::stencil::row_from` meets its contract.
-- Assumes nothing.
use Rattle.numbers.proofs.GatheredLaws.{read_part}
use Rattle.operators.proofs.stencil.row_from.Goals as goal

pub returns-clause-wrote : goal.returns-clause-wrote
returns-clause-wrote c = rw (read_part c.args.eps.now c.args.from) at c.stencil_row.ensures.wrote
