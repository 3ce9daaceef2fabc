use Rattle.weights.proofs.SlotLaws.{ends_of_lem}
use Rattle.weights.proofs.MeaningLaws.{slots_low, pulled}
use Rattle.weights.proofs.tables.weighed.Goals as goal

pub reads-requires-clause-by_index : goal.reads-requires-clause-by_index
reads-requires-clause-by_index c = (slots_low c.requires.slots c.nodes-nn.ensures).1

pub pulls-requires : goal.pulls-requires
pulls-requires c = (c.maps-xs.ensures.long, ends_of_lem c.requires.levels.paired.coarse_held c.last_ends-es.ensures)

pub returns : goal.returns
returns c = pulled c.requires.levels c.requires.slots c.nodes-nn.ensures c.reads.ensures c.maps-xs.ensures c.last_ends-es.ensures c.pulls.ensures
