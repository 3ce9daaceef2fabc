-- `lattice::line::coarser` meets its contract. The invariant (`Joining`): what is kept, with what is to come, is the joined line.
use Prim.Native.Nat.{◌≤◌, ◌-◌}
use Rattle.lattice.specs.Line.{ends_of}
use Rattle.lattice.proofs.LineLaws.{Joining}
use Rattle.lattice.proofs.line.coarser.Given as goal

abbrev pub invariant-loop-m : goal.invariant-loop-m
invariant-loop-m l = (l.m ≤ l.n) × Joining l.x l.target (ends_of l.l) l.m l.k l.ends

abbrev pub decreases-loop-m : goal.decreases-loop-m
decreases-loop-m l = l.n - l.m
