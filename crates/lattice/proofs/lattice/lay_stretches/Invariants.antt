use Prim.Native.Nat.{◌≤◌}
use Rattle.lattice.specs.Lattice.{stretch_at, LaidStretches}
use Rattle.lattice.proofs.lattice.lay_stretches.Given as goal

abbrev pub invariant-loop-q : goal.invariant-loop-q
invariant-loop-q l = (l.q ≤ 192) × LaidStretches (stretch_at l.g l.xs l.ys l.zs) l.from l.q l.initial.out l.out
