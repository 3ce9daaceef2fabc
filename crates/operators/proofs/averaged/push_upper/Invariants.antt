-- `operators::averaged::push_upper` meets its contract. The invariant (`Climbing`): the nodes from q on, laid from here, come to the whole.
-- Assumes nothing.
use Rattle.operators.proofs.HatLaws.{Climbing}
use Rattle.operators.proofs.averaged.push_upper.Given as goal

abbrev pub invariant-loop-q : goal.invariant-loop-q
invariant-loop-q l = Climbing l.f l.at l.width l.first l.last l.initial.hats l.from l.hats l.k l.q
