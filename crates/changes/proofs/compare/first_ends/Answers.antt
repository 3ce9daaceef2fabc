use Rattle.std.proofs.Common.{◌≡◌, ◌+◌, ◌*◌, ◌<◌, ◌≤◌, suc, length}
use Rattle.std.proofs.lemmas.List.{length-take-le, get_or-take}
use Rattle.store.specs.Phases.{blank_line}
use native.Mathlib.Omega.{arith}
use Rattle.store.proofs.CompareLaws.{ends_start, ends_ask, ends_turn, ends_bad, ends_end}
use Rattle.changes.proofs.compare.first_ends.Goals as goal

pub loop-q-init : goal.loop-q-init
loop-q-init c = ends_start

pub same_line-requires : goal.same_line-requires
same_line-requires c =
    let n = 3 * (c.args.h.now.m + 1) in
    let k : n ≤ length c.args.h.now.lines.now = omega (arith, c.args.h.now.has_lines.long, c.args.h.now.few) in
    let t = length-take-le n c.args.h.now.lines.now k in
    let h : c.loop-q.q < n = omega (arith, t) in
    let z = get_or-take n c.args.h.now.lines.now c.loop-q.q blank_line h in
    rw z (ends_ask c.args.h.now.l.limits c.args.h.now.has_lines c.loop-q.invariant h c.requires)

pub returns-then-not-same_line : goal.returns-then-not-same_line
returns-then-not-same_line c =
    let n = 3 * (c.args.h.now.m + 1) in
    let k : n ≤ length c.args.h.now.lines.now = omega (arith, c.args.h.now.has_lines.long, c.args.h.now.few) in
    let t = length-take-le n c.args.h.now.lines.now k in
    let h : c.loop-q.q < n = omega (arith, t) in
    let z = get_or-take n c.args.h.now.lines.now c.loop-q.q blank_line h in
    (omega (arith, h), ends_bad c.args.h.now.l.limits c.args.h.now.has_lines c.loop-q.invariant h (rw z at c.same_line.ensures) (c.if-not-same_line.true))

pub overflow_add-next : goal.overflow_add-next
overflow_add-next c =
    let n = 3 * (c.args.h.now.m + 1) in
    let k : n ≤ length c.args.h.now.lines.now = omega (arith, c.args.h.now.has_lines.long, c.args.h.now.few) in
    let t = length-take-le n c.args.h.now.lines.now k in
    let h : c.loop-q.q < n = omega (arith, t) in
    let z = get_or-take n c.args.h.now.lines.now c.loop-q.q blank_line h in
    rw z (omega (arith, ends_ask c.args.h.now.l.limits c.args.h.now.has_lines c.loop-q.invariant h c.requires))

pub overflow_add-next-in-loop-q : goal.overflow_add-next-in-loop-q
overflow_add-next-in-loop-q c =
    let n = 3 * (c.args.h.now.m + 1) in
    let k : n ≤ length c.args.h.now.lines.now = omega (arith, c.args.h.now.has_lines.long, c.args.h.now.few) in
    let t = length-take-le n c.args.h.now.lines.now k in
    let h : c.loop-q.q < n = omega (arith, t) in
    let z = get_or-take n c.args.h.now.lines.now c.loop-q.q blank_line h in
    rw z (omega (arith, ends_ask c.args.h.now.l.limits c.args.h.now.has_lines c.loop-q.invariant h c.requires))

pub loop-q-preserved : goal.loop-q-preserved
loop-q-preserved c =
    let n = 3 * (c.args.h.now.m + 1) in
    let k : n ≤ length c.args.h.now.lines.now = omega (arith, c.args.h.now.has_lines.long, c.args.h.now.few) in
    let t = length-take-le n c.args.h.now.lines.now k in
    let h : c.loop-q.q < n = omega (arith, t) in
    let z = get_or-take n c.args.h.now.lines.now c.loop-q.q blank_line h in
    rw z (ends_turn c.args.h.now.l.limits c.args.h.now.has_lines c.loop-q.invariant h (rw z at c.same_line.ensures) (c.if-not-same_line.false))

pub returns : goal.returns
returns c =
    let n = 3 * (c.args.h.now.m + 1) in
    let k : n ≤ length c.args.h.now.lines.now = omega (arith, c.args.h.now.has_lines.long, c.args.h.now.few) in
    let t = length-take-le n c.args.h.now.lines.now k in
    let z : c.args.h.now.m + 1 ≡ suc c.args.h.now.m = omega arith in rw z at (ends_end c.loop-q.invariant (omega (arith, t)))
