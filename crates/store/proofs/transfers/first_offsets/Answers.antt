-- `store::transfers::first_offsets` meets its contract.
-- Assumes nothing.
use Rattle.store.proofs.TransferLaws.{offsets_first}
use Rattle.store.proofs.transfers.first_offsets.Goals as goal

pub returns : goal.returns
returns c = offsets_first _ c.edges-n.ensures
