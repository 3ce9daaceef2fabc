-- `operators::averaged::walk_lower` meets its contract. The invariant (`Walking`): what the walk from node q on still lays comes to the whole walk.
-- Assumes nothing.
use Prim.Native.Nat.{◌-◌}
use Rattle.operators.proofs.HatLaws.{Walking}
use Rattle.operators.proofs.averaged.walk_lower.Given as goal

abbrev pub invariant-loop-f : goal.invariant-loop-f
invariant-loop-f l = Walking l.f l.at l.width l.first l.initial.hats l.from l.hats l.k l.q

abbrev pub decreases-loop-f : goal.decreases-loop-f
decreases-loop-f l = l.f.cells - l.q
