-- `weights::tables::read_place` meets its contract.
-- Assumes nothing.
use Rattle.weights.specs.Tables.{node_from, slot_axis, slot_place}
use Rattle.weights.proofs.tables.read_place.Goals as goal

pub returns-then-slot_along : goal.returns-then-slot_along
unfolding node_from slot_place
returns-then-slot_along c = rw (← c.slot_along.ensures, c.if-slot_along.true)

pub returns : goal.returns
unfolding node_from slot_axis
returns c = rw (← c.slot_along.ensures, c.if-slot_along.false)
