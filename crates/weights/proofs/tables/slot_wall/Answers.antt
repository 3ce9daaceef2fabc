-- `weights::tables::slot_wall` meets its contract.
-- Assumes nothing.
use Rattle.weights.proofs.TableLaws.{wall_across, wall_along}
use mathlib.Core.Path.{ap}
use mathlib.Core.Bool.{not}
use Rattle.weights.proofs.tables.slot_wall.Goals as goal

pub returns-then-not-slot_along : goal.returns-then-not-slot_along
returns-then-not-slot_along c = wall_across _ _ c.slot_along.ensures (ap not c.if-not-slot_along.true) c.edges_on.ensures c.is_wall.ensures

pub returns-else-not-slot_along : goal.returns-else-not-slot_along
returns-else-not-slot_along c = wall_along _ _ c.slot_along.ensures (ap not c.if-not-slot_along.false)
