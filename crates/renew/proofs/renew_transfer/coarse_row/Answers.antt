-- `renew::renew_transfer::coarse_row` meets its contract. The grids are those of the two levels.
-- Assumes nothing.
use Rattle.store.proofs.RenewTransferLaws.{coarse_asked, coarse_done}
use Rattle.renew.proofs.renew_transfer.coarse_row.Goals as goal

pub coarse_eps_row-requires-clause-limits : goal.coarse_eps_row-requires-clause-limits
coarse_eps_row-requires-clause-limits c = (coarse_asked c.requires.pair_at c.requires.chain_room (c.requires.from_value.0, c.requires.from_value.1) c.grid_of-gf.ensures c.grid_of-gc.ensures c.requires.from_value.2).0

pub coarse_eps_row-requires-clause-nested_in : goal.coarse_eps_row-requires-clause-nested_in
coarse_eps_row-requires-clause-nested_in c = (coarse_asked c.requires.pair_at c.requires.chain_room (c.requires.from_value.0, c.requires.from_value.1) c.grid_of-gf.ensures c.grid_of-gc.ensures c.requires.from_value.2).1.0

pub coarse_eps_row-requires-clause-from_bound : goal.coarse_eps_row-requires-clause-from_bound
coarse_eps_row-requires-clause-from_bound c = (coarse_asked c.requires.pair_at c.requires.chain_room (c.requires.from_value.0, c.requires.from_value.1) c.grid_of-gf.ensures c.grid_of-gc.ensures c.requires.from_value.2).1.1.0

pub coarse_eps_row-requires-clause-r_bound : goal.coarse_eps_row-requires-clause-r_bound
coarse_eps_row-requires-clause-r_bound c = (coarse_asked c.requires.pair_at c.requires.chain_room (c.requires.from_value.0, c.requires.from_value.1) c.grid_of-gf.ensures c.grid_of-gc.ensures c.requires.from_value.2).1.1.1

pub returns : goal.returns
returns c = record { made = λ ch m. coarse_done c.requires.pair_at c.requires.chain_room (c.requires.from_value.0, c.requires.from_value.1) c.grid_of-gf.ensures c.grid_of-gc.ensures c.requires.from_value.2 ch m c.coarse_eps_row.ensures.eps_after c.coarse_eps_row.ensures.value }
