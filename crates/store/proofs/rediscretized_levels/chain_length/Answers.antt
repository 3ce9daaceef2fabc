-- `store::rediscretized_levels::chain_length` meets its contract.
-- Assumes nothing.
use Rattle.store.proofs.AveragedLaws.{chain_is}
use Rattle.store.proofs.rediscretized_levels.chain_length.Goals as goal

pub returns : goal.returns
returns c = chain_is _ _ c.edges_from.ensures
