use native.Mathlib.Omega.{arith}
use Rattle.lattice.proofs.LineLaws.{finest_start, finest_end}
use Rattle.lattice.proofs.line.finest.Goals as goal

pub loop-m-init : goal.loop-m-init
loop-m-init c = finest_start c.requires

pub returns : goal.returns
returns c = finest_end c.loop-m.invariant (omega arith)
