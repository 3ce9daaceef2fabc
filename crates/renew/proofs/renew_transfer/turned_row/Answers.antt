-- `renew::renew_transfer::turned_row` meets its contract. The rows stand in the lists.
-- Assumes nothing.
use Rattle.store.proofs.RenewTransferLaws.{turned_asked, turned_done}
use Rattle.renew.proofs.renew_transfer.turned_row.Goals as goal

pub turned_row-requires-clause-by_index : goal.turned_row-requires-clause-by_index
turned_row-requires-clause-by_index c = (turned_asked c.requires.turned_ready _ c.requires.level_bound.1 c.args.tvalues.now c.requires.level_bound.0 c.requires.level_bound.2).0

pub turned_row-requires-clause-c_bound : goal.turned_row-requires-clause-c_bound
turned_row-requires-clause-c_bound c = (turned_asked c.requires.turned_ready _ c.requires.level_bound.1 c.args.tvalues.now c.requires.level_bound.0 c.requires.level_bound.2).1

pub returns : goal.returns
returns c = λ ch m. turned_done c.requires.turned_ready _ c.requires.level_bound.1 c.args.tvalues.now c.requires.level_bound.0 c.requires.level_bound.2 ch m c.turned_row.ensures
