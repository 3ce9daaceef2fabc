-- `weights::eps::sum_of_inverses` meets its contract. The invariant (`Adding`): the sum of the rest comes to the whole.
-- Assumes nothing.
use Rattle.weights.proofs.EpsLaws.{Adding}
use Rattle.weights.proofs.eps.sum_of_inverses.Given as goal

abbrev pub invariant-loop-m : goal.invariant-loop-m
invariant-loop-m l = Adding l.gf l.eps l.from l.p l.first l.last l.m l.sum
