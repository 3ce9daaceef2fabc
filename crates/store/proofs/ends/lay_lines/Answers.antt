use Prim.Native.Nat.{◌+◌, ◌*◌, ◌<◌}
use mathlib.Core.Path.{◌≡◌}
use native.Mathlib.Omega.{arith}
use lib.ListN.{length}
use lib.Seq.{get_or-take}
use Rattle.std.proofs.Common.{rules, length-take}
use Rattle.numbers.proofs.ListLaws.{laying_start, laying_turn}
use Rattle.store.specs.Phases.{blank_line}
use Rattle.store.proofs.EndLaws.{ends_low, ends_left_lem}
use Rattle.store.proofs.ends.lay_lines.Goals as goal

pub loop-f-init : goal.loop-f-init
loop-f-init c = laying_start

pub lay_line-next-requires : goal.lay_line-next-requires
lay_line-next-requires c =
    let h : c.loop-f.f-index < 3 * (c.args.m + 1) = omega (arith, length-take (3 * (c.args.m + 1)) c.args.lines.now) in
    rw (get_or-take (3 * (c.args.m + 1)) c.args.lines.now c.loop-f.f-index blank_line h) (ends_low c.requires.few_cells c.loop-f.invariant c.requires.m_bound h)

pub loop-f-preserved : goal.loop-f-preserved
loop-f-preserved c =
    let h : c.loop-f.f-index < 3 * (c.args.m + 1) = omega (arith, length-take (3 * (c.args.m + 1)) c.args.lines.now) in
    laying_turn c.loop-f.invariant h (simp (get_or-take (3 * (c.args.m + 1)) c.args.lines.now c.loop-f.f-index blank_line h) at c.lay_line-next.ensures)

pub returns : goal.returns
returns c =
    let e : length c.args.lines.now ≡ 36 = search rules in
    ends_left_lem c.requires.few_cells c.loop-f.invariant (omega (arith, length-take (3 * (c.args.m + 1)) c.args.lines.now))
