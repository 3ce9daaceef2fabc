-- `operators::base::with_place` meets its contract.
-- Assumes nothing.
use Rattle.operators.proofs.BasePlaces.{place_out, place_in}
use Rattle.operators.proofs.base.with_place.Goals as goal

pub returns-then-j-n : goal.returns-then-j-n
returns-then-j-n c = place_out _ _ _ _ _ c.if-j-n.true

pub returns : goal.returns
returns c = place_in _ _ _ _ _ _ c.if-j-n.false c.related.ensures c.unit.ensures c.mix.ensures
