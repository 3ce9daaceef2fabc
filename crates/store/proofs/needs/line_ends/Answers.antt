use Prim.Native.Nat.{◌+◌, ◌*◌, ◌<◌}
use mathlib.Core.Path.{refl}
use native.Mathlib.Omega.{arith}
use lib.Seq.{get_or-take}
use Rattle.std.proofs.Common.{length-take}
use Rattle.numbers.proofs.SumLaws.{summing_start, summing_turn, summing_end}
use Rattle.store.specs.Phases.{blank_line}
use Rattle.store.proofs.NeedLaws.{ends_few, ends_are, summing_few}
use Rattle.store.proofs.needs.line_ends.Goals as goal

pub loop-f-init : goal.loop-f-init
loop-f-init c = summing_start

pub overflow_add-total : goal.overflow_add-total
overflow_add-total c =
    let h : c.loop-f.f-index < 3 * (c.args.h.now.m + 1) = omega (arith, length-take (3 * (c.args.h.now.m + 1)) c.args.h.now.lines.now) in
    rw (get_or-take (3 * (c.args.h.now.m + 1)) c.args.h.now.lines.now c.loop-f.f-index blank_line h) (omega (arith, ends_few _ c.args.h.now.l.limits _ c.args.h.now.has_lines c.loop-f.f-index (omega arith)))

pub overflow_add-total-in-loop-f : goal.overflow_add-total-in-loop-f
overflow_add-total-in-loop-f c =
    let h : c.loop-f.f-index < 3 * (c.args.h.now.m + 1) = omega (arith, length-take (3 * (c.args.h.now.m + 1)) c.args.h.now.lines.now) in
    rw (get_or-take (3 * (c.args.h.now.m + 1)) c.args.h.now.lines.now c.loop-f.f-index blank_line h)
    (omega (arith, summing_few 65 c.loop-f.invariant h (λ i b. ends_few _ c.args.h.now.l.limits _ c.args.h.now.has_lines i (omega arith)) refl))

pub loop-f-preserved : goal.loop-f-preserved
loop-f-preserved c =
    let h : c.loop-f.f-index < 3 * (c.args.h.now.m + 1) = omega (arith, length-take (3 * (c.args.h.now.m + 1)) c.args.h.now.lines.now) in
    rw (get_or-take (3 * (c.args.h.now.m + 1)) c.args.h.now.lines.now c.loop-f.f-index blank_line h) (summing_turn c.loop-f.invariant h refl refl)

pub returns : goal.returns
returns c = ends_are _ c.args.h.now.l.limits _ c.args.h.now.has_lines (omega arith) (summing_end c.loop-f.invariant (omega (arith, c.args.h.now.has_lines.long, length-take (3 * (c.args.h.now.m + 1)) c.args.h.now.lines.now)))
