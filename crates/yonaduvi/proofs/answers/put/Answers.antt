use Prim.Native.Nat.{◌+◌}
use mathlib.Core.Path.{◌≡◌, refl}
use native.Mathlib.Omega.{arith}
use Rattle.numbers.proofs.CopyLaws.{copying_start, copying_turn, copying_whole}
use Rattle.yonaduvi.proofs.answers.put.Goals as goal

pub loop-c-init : goal.loop-c-init
loop-c-init c = (refl, copying_start)

pub loop-c-preserved : goal.loop-c-preserved
loop-c-preserved c =
    let e : c.push.result ≡ c.loop-c.c + 1 = omega (arith, c.push.ensures.next) in
    (c.loop-c.invariant.0, rw e at (copying_turn 0 c.loop-c.invariant.1 (omega arith) (omega (arith, c.loop-c.invariant.0)) c.push.ensures))

pub returns : goal.returns
returns c = (copying_whole c.loop-c.invariant.1 (omega (arith, c.loop-c.invariant.0))).list
