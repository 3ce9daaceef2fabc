-- `renew::renew_transfer::averaged_row` meets its contract. The lines are those of the two levels.
-- Assumes nothing.
use Rattle.store.proofs.RenewTransferLaws.{averaged_asked, averaged_done}
use Rattle.renew.proofs.renew_transfer.averaged_row.Goals as goal

pub averaged_row-requires-clause-nn_value : goal.averaged_row-requires-clause-nn_value
averaged_row-requires-clause-nn_value c = rw (c.requires.base_value) (averaged_asked c.requires.pair_at _ c.requires.chain_room (c.requires.from_value.0, c.requires.from_value.1) c.requires.from_value.2).1.0

pub averaged_row-requires-clause-r_bound : goal.averaged_row-requires-clause-r_bound
averaged_row-requires-clause-r_bound c = rw (c.requires.base_value) (averaged_asked c.requires.pair_at _ c.requires.chain_room (c.requires.from_value.0, c.requires.from_value.1) c.requires.from_value.2).1.1.0

pub averaged_row-requires-clause-chain_room : goal.averaged_row-requires-clause-chain_room
averaged_row-requires-clause-chain_room c = rw (c.requires.base_value) (averaged_asked c.requires.pair_at _ c.requires.chain_room (c.requires.from_value.0, c.requires.from_value.1) c.requires.from_value.2).1.1.1

pub returns : goal.returns
returns c = averaged_done c.requires.pair_at _ c.requires.chain_room (c.requires.from_value.0, c.requires.from_value.1) c.requires.from_value.2 _ (rw (c.requires.base_value) at c.averaged_row.ensures.eps_after) (rw (c.requires.base_value) at c.averaged_row.ensures.value)
