-- `operators::volumes::inverse_shares` meets its contract. The invariant (`Sharing`): the first c inverse shares have been laid behind the volumes, which still stand.
-- Assumes nothing.
use Rattle.numbers.specs.Lists.{read_from}
use Rattle.operators.specs.Galerkin.{rows_of}
use Rattle.operators.proofs.VolumeLaws.{Sharing}
use Rattle.operators.proofs.volumes.inverse_shares.Given as goal

abbrev pub invariant-loop-c : goal.invariant-loop-c
invariant-loop-c l = Sharing (rows_of l.t) (read_from l.initial.scaling l.k) l.m l.to l.initial.scaling l.scaling l.c l.finite
