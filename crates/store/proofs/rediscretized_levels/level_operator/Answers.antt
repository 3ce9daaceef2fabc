-- `store::rediscretized_levels::level_operator` meets its contract. The level is worked out from any permittivities that stand in the list.
-- Assumes nothing.
use Rattle.store.proofs.AveragedLaws.{level_asked, level_done}
use Rattle.store.proofs.rediscretized_levels.level_operator.Goals as goal

pub rediscretized_level-requires : goal.rediscretized_level-requires
rediscretized_level-requires c = level_asked _ c.args.h.now.l.limits _ _ (c.requires.level_lt_m, c.args.h.now.few) c.requires.averaged_places c.requires.averaged_room c.pair-pair.ensures

pub returns : goal.returns
returns c = level_done _ c.args.h.now.l.limits _ _ (c.requires.level_lt_m, c.args.h.now.few) c.requires.averaged_places c.requires.averaged_room c.pair-pair.ensures c.rediscretized_level.ensures
