-- `operators::volumes::share` meets its contract. The invariant (`Weighing`): the sum of the rest comes to the whole.
-- Assumes nothing.
use Rattle.numbers.specs.Lists.{read_from}
use Rattle.operators.proofs.VolumeLaws.{Weighing}
use Rattle.operators.proofs.volumes.share.Given as goal

abbrev pub invariant-loop-q : goal.invariant-loop-q
invariant-loop-q l = Weighing (read_from l.scaling l.k) l.columns l.values l.first l.last l.q l.sum
