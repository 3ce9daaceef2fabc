-- `operators::averaged::all_averaged` meets its contract. The invariant (`Chaining`): laying the rest gives the whole, and what is read is as it was.
-- Assumes nothing.
use Rattle.numbers.specs.Lists.{read_from}
use Rattle.weights.proofs.EpsLaws.{Chaining}
use Rattle.operators.specs.Averaged.{averaged_no}
use Rattle.operators.proofs.averaged.all_averaged.Given as goal

abbrev pub invariant-loop-r : goal.invariant-loop-r
invariant-loop-r l = Chaining (averaged_no l.gf l.gc l.nn l.hats l.counts (read_from l.initial.eps l.from)) l.n l.to l.initial.eps l.eps l.r
