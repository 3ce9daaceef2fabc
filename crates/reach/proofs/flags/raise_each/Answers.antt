use native.Mathlib.Omega.{arith}
use Rattle.store.proofs.RaisedLaws.{raised_start, raised_turn, raised_end}
use Rattle.reach.proofs.flags.raise_each.Goals as goal

pub loop-r-init : goal.loop-r-init
loop-r-init g c = (omega arith, λ flags cols same. raised_start)

pub loop-r-preserved : goal.loop-r-preserved
loop-r-preserved g c = (omega arith, λ flags cols same. raised_turn (c.loop-r.invariant.1 flags cols same) (omega (arith, c.loop-r-test.true, c.requires.n_in_bounds)) c.raise.ensures (same _ _ c.loop-r-test.true c.reads.ensures))

pub returns : goal.returns
returns g c = λ flags cols same. raised_end (c.loop-r.invariant.1 flags cols same) (omega arith)
