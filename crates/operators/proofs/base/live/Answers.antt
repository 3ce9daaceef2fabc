-- `operators::base::live` meets its contract.
-- Assumes nothing.
use mathlib.Core.Path.{refl, ◌∙◌}
use Rattle.lattice.proofs.NeighbourLaws.{or_first, or_next}
use Rattle.operators.proofs.BaseLaws.{live_along, live_across}
use Rattle.operators.proofs.base.live.Goals as goal

pub returns-then-along : goal.returns-then-along
returns-then-along c = live_along _ _ _ c.if-along.true

pub returns-then-bloch : goal.returns-then-bloch
returns-then-bloch c = or_first _ _ c.if-bloch.true refl ∙ live_across _ _ _ c.if-along.false

pub returns-else-bloch : goal.returns-else-bloch
returns-else-bloch c = or_next _ _ c.if-bloch.false refl refl ∙ live_across _ _ _ c.if-along.false
