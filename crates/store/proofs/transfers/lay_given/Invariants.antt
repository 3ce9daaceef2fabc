-- `store::transfers::lay_given` meets its contract.
-- Assumes nothing.
use Rattle.numbers.specs.Places.{number_at}
use Rattle.operators.proofs.VolumeLaws.{Placing}
use Rattle.store.proofs.transfers.lay_given.Given as goal

abbrev pub invariant-loop-k : goal.invariant-loop-k
invariant-loop-k l =
    Placing (number_at l.given) l.n 0 l.initial.eps l.eps l.k
