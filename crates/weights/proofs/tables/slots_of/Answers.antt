use Rattle.weights.proofs.MeaningLaws.{slotted}
use Rattle.weights.proofs.tables.slots_of.Goals as goal

pub returns-clause-slots : goal.returns-clause-slots
returns-clause-slots c = slotted c.levels_of.ensures c.fill_slots.ensures.counts c.fill_slots.ensures.places
