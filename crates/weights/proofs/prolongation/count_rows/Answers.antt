use mathlib.Core.Path.{◌∙◌}
use Rattle.weights.proofs.SlotLaws.{fine_in}
use Rattle.weights.proofs.MeaningLaws.{counts_few, counted}
use Rattle.weights.proofs.CountLaws.{rows_weigh}
use Rattle.weights.proofs.prolongation.count_rows.Goals as goal

pub count_all-requires-clause-limits : goal.count_all-requires-clause-limits
count_all-requires-clause-limits c = fine_in c.levels_of-t.ensures

pub count_all-requires-clause-counts_of : goal.count_all-requires-clause-counts_of
count_all-requires-clause-counts_of c = counts_few c.levels_of-t.ensures c.counts-ns.ensures

pub returns : goal.returns
returns c = c.count_all.ensures ∙ counted c.levels_of-t.ensures c.counts-ns.ensures ∙ rows_weigh _ _
