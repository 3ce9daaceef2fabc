use native.Mathlib.Omega.{arith}
use Rattle.lattice.proofs.LatticeLaws.{laid_turn}
use Rattle.lattice.proofs.lattice.lay_stretches.Goals as goal

pub loop-q-preserved : goal.loop-q-preserved
loop-q-preserved c = (omega arith, rw c.put.ensures (laid_turn c.loop-q.invariant.1 c.stretch.ensures))
