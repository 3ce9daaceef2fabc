-- `operators::rediscretized::lay_axis` meets its contract. The invariant: the stretches of the first m cells have been laid.
-- Assumes nothing.
use Prim.Native.Nat.{◌≤◌}
use Rattle.lattice.specs.Line.{ends_of}
use Rattle.operators.specs.Rediscretized.{AxisLaid}
use Rattle.operators.proofs.RediscretizedLaws.{node_by, half_by}
use Rattle.operators.proofs.rediscretized.lay_axis.Given as goal

abbrev pub invariant-loop-m : goal.invariant-loop-m
invariant-loop-m l = (l.m ≤ l.n) × AxisLaid (node_by l.u l.e l.along (ends_of l.f)) (half_by l.u l.across (ends_of l.f)) l.axis l.m l.initial.out l.out
