-- `reach::hits::rediscretized_hits` meets its contract.
-- Assumes nothing.
use Rattle.store.proofs.HitLaws.{level_room, averaged_few, rediscretized_raised}
use Rattle.reach.proofs.hits.rediscretized_hits.Goals as goal

pub averaged_flags-requires-clause-level_in_bounds : goal.averaged_flags-requires-clause-level_in_bounds
averaged_flags-requires-clause-level_in_bounds c = averaged_few _ c.args.h.now.l.limits _ c.args.hits.now c.requires.hits_long

pub rediscretized_flags-requires-clause-level_in_bounds : goal.rediscretized_flags-requires-clause-level_in_bounds
rediscretized_flags-requires-clause-level_in_bounds c = level_room _ c.args.h.now.l.limits _

pub returns : goal.returns
returns c = rediscretized_raised _ c.args.h.now.l.limits _ c.args.hits.now c.requires.hits_long c.averaged_flags.ensures c.rediscretized_flags.ensures
