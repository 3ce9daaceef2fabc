-- `operators::averaged::cell_of` meets its contract.
-- Assumes nothing.
use Rattle.operators.proofs.AverageLaws.{cell_is, cell_fits}
use Rattle.operators.proofs.averaged.cell_of.Goals as goal

pub returns : goal.returns
returns c = (cell_fits c.requires c.place_on.ensures, cell_is c.requires c.place_on.ensures)
