use Prim.Native.Nat.{◌+◌, ◌<◌}
use native.Mathlib.Omega.{arith}
use lib.Seq.{get_or-take}
use Rattle.numbers.proofs.ListLaws.{laying_start, laying_turn, laying_end, laying_most}
use Rattle.numbers.proofs.ElementLaws.{rows_alone}
use Rattle.store.proofs.ends.lay_line.Goals as goal

pub loop-end-init : goal.loop-end-init
loop-end-init c = laying_start

pub push-next-requires : goal.push-next-requires
push-next-requires c = omega (arith, laying_most 1 c.loop-end.invariant (λ r l. omega arith), c.loop-end.invariant.high)

pub loop-end-preserved : goal.loop-end-preserved
loop-end-preserved c =
    let h : c.loop-end.end-index < c.args.f.cells + 1 = omega arith in
    laying_turn c.loop-end.invariant h (simp (get_or-take (c.args.f.cells + 1) c.args.f.ends c.loop-end.end-index 0 h) at c.push-next.ensures)

pub returns : goal.returns
returns c = rw rows_alone at (laying_end c.loop-end.invariant (omega arith))
