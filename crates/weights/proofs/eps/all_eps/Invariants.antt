-- `weights::eps::all_eps` meets its contract. The invariant (`Chaining`): laying the rest gives the whole, and what is read is as it was.
-- Assumes nothing.
use Rattle.weights.specs.Tables.{coarse_eps_in}
use Rattle.numbers.specs.Lists.{read_from}
use Rattle.weights.proofs.EpsLaws.{Chaining}
use Rattle.weights.proofs.eps.all_eps.Given as goal

abbrev pub invariant-loop-r : goal.invariant-loop-r
invariant-loop-r l = Chaining (coarse_eps_in l.gf l.gc l.nn (read_from l.initial.eps l.from)) l.n l.to l.initial.eps l.eps l.r
