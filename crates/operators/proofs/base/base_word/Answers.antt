-- `operators::base::base_word` meets its contract.
-- Assumes nothing.
use Rattle.operators.proofs.BasePlaces.{three_places}
use Rattle.operators.proofs.base.base_word.Goals as goal

pub returns : goal.returns
returns c =
    three_places _ _ _ _ c.with_place-here.ensures c.place_after.ensures c.with_place-up.ensures c.place_before.ensures c.with_place.ensures
