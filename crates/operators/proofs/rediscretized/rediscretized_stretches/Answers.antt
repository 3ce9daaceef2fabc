-- `operators::rediscretized::rediscretized_stretches` meets its contract.
-- Assumes nothing.
use mathlib.Core.Path.{◌∙◌}
use lib.ListN.{length-replicate}
use Rattle.numbers.specs.Complex.{zero_f}
use Rattle.operators.proofs.RediscretizedLaws.{stretches_are}
use Rattle.operators.proofs.rediscretized.rediscretized_stretches.Goals as goal

pub lay_axis-requires-3-clause-out_len : goal.lay_axis-requires-3-clause-out_len
lay_axis-requires-3-clause-out_len c = c.lay_axis-2.ensures.long ∙ c.lay_axis.ensures.long ∙ length-replicate 768 zero_f

pub returns-clause-result_len : goal.returns-clause-result_len
returns-clause-result_len c = (stretches_are _ _ _ c.requires.held_three _ _ _ _ _ _ c.across_map.ensures c.along_map.ensures c.lay_axis.ensures
    c.across_map-2.ensures c.along_map-2.ensures c.lay_axis-2.ensures c.across_map-3.ensures c.along_map-3.ensures c.lay_axis-3.ensures).0

pub returns-clause-result_value : goal.returns-clause-result_value
returns-clause-result_value c = (stretches_are _ _ _ c.requires.held_three _ _ _ _ _ _ c.across_map.ensures c.along_map.ensures c.lay_axis.ensures
    c.across_map-2.ensures c.along_map-2.ensures c.lay_axis-2.ensures c.across_map-3.ensures c.along_map-3.ensures c.lay_axis-3.ensures).1
