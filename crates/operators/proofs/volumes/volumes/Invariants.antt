-- `operators::volumes::volumes` meets its contract. The invariant (`Placing`): the first r volumes have been laid.
-- Assumes nothing.
use Rattle.lattice.specs.Sound.{full}
use Rattle.operators.specs.Volumes.{volume_of}
use Rattle.operators.proofs.VolumeLaws.{Placing}
use Rattle.operators.proofs.volumes.volumes.Given as goal

abbrev pub invariant-loop-r : goal.invariant-loop-r
invariant-loop-r l = Placing (volume_of (full l.l)) l.n l.k l.initial.scaling l.scaling l.r
