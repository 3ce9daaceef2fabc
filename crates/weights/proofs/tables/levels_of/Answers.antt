use mathlib.Core.Path.{◌∙◌}
use Rattle.weights.proofs.SlotLaws.{values_of}
use Rattle.weights.proofs.TwoLevelLaws.{coarse_grid_lem}
use Rattle.weights.proofs.tables.levels_of.Goals as goal

pub invariant_of-result : goal.invariant_of-result
invariant_of-result c =
    let p = c.args.pair.now.paired in
    record {
      limits = rw (c.grid_of-2.ensures ∙ coarse_grid_lem _ c.args.pair.now.fine c.args.pair.now.coarse p.coarse_held) p.coarse_limits;
      values_of = values_of p.fine_held p.coarse_held c.value_places.ensures c.value_places-2.ensures;
    }
