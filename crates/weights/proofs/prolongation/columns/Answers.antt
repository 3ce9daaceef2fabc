use Rattle.weights.proofs.MeaningLaws.{slots_in, starts_same, laid_rows}
use Rattle.weights.proofs.prolongation.columns.Goals as goal

pub invariant_of-list : goal.invariant_of-list
invariant_of-list c = record { limits = c.slots_of-t.result.levels.limits; places_of = slots_in c.slots_of-t.ensures.slots }

pub returns-clause-starts_after : goal.returns-clause-starts_after
returns-clause-starts_after c = rw (starts_same c.slots_of-t.ensures.slots) at c.all_columns.ensures.starts_after

pub returns-clause-laid : goal.returns-clause-laid
returns-clause-laid c = laid_rows c.slots_of-t.ensures.slots c.all_columns.ensures.laid
