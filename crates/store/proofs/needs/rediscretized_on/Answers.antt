-- `store::needs::rediscretized_on` meets its contract.
-- Assumes nothing.
use mathlib.Core.Path.{refl}
use Rattle.store.proofs.NeedLaws.{relations_long, rediscretized_terms}
use Rattle.store.proofs.LineLaws.{lines_limits, grid_is}
use Rattle.store.proofs.needs.rediscretized_on.Goals as goal

pub base_relations-u-requires : goal.base_relations-u-requires
base_relations-u-requires c = rw c.grid_of-g.ensures (lines_limits _ _ c.args.h.now.has_lines c.requires.level_le_m refl c.three.ensures c.args.h.now.l.limits)

pub level_count-requires-clause-limits : goal.level_count-requires-clause-limits
level_count-requires-clause-limits c = rw c.grid_of-g.ensures (lines_limits _ _ c.args.h.now.has_lines c.requires.level_le_m refl c.three.ensures c.args.h.now.l.limits)

pub level_count-requires-clause-t_len : goal.level_count-requires-clause-t_len
level_count-requires-clause-t_len c = relations_long _ c.base_relations-u.ensures

pub returns : goal.returns
returns c = rediscretized_terms _ c.args.h.now.l.limits _ (grid_is _ _ c.args.h.now.has_lines c.requires.level_le_m refl c.three.ensures c.grid_of-g.ensures) c.base_relations-u.ensures c.level_count.ensures
