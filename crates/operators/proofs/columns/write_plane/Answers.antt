use Prim.Native.Nat.{◌+◌, ◌*◌, ◌≤◌}
use mathlib.Core.Path.{refl}
use native.Mathlib.Omega.{arith}
use Rattle.operators.proofs.ColumnLaws.{plane_start, plane_turn, plane_end, line_length, area}
use Rattle.operators.proofs.columns.write_plane.Goals as goal

pub loop-j-init : goal.loop-j-init
loop-j-init c =
    rw (c.into_iter-j-iterator.ensures.into_iter_gives, c.places_below-j-items.ensures)
    (c.mix-both.ensures, refl, omega arith, omega arith, plane_start _ _ _ _ _ _ _)

pub overflow_mul-nx : goal.overflow_mul-nx
overflow_mul-nx c =
    let h : c.in-Some.j ≤ 64 = omega (arith, c.in-Some.ensures.steps.below, c.loop-j.invariant.1) in
    omega (arith, area c.args.nx c.in-Some.j c.requires.0 h)

pub overflow_add-base : goal.overflow_add-base
overflow_add-base c =
    let h : c.in-Some.j ≤ 64 = omega (arith, c.in-Some.ensures.steps.below, c.loop-j.invariant.1) in
    omega (arith, area c.args.nx c.in-Some.j c.requires.0 h)

pub write_line-next-requires : goal.write_line-next-requires
write_line-next-requires c =
    let h : c.in-Some.j ≤ 64 = omega (arith, c.in-Some.ensures.steps.below, c.loop-j.invariant.1) in
    omega (arith, area c.args.nx c.in-Some.j c.requires.0 h)

pub loop-j-preserved : goal.loop-j-preserved
loop-j-preserved c =
    let v = c.loop-j.invariant in
    let s = c.in-Some.ensures.steps in
    rw s.after (
      v.0,
      v.1,
      omega (arith, s.below, c.loop-j.iterator),
      omega (arith, s.found.from, c.write_line-next.ensures.next, line_length c.mix-w.result (c.args.base + c.args.nx * c.in-Some.j) c.args.nx 0),
      plane_turn _ _ _ _ _ _ _ _ v.4 v.0 s.found (rw v.1 at s.below) c.bit.ensures c.bit-in-loop-j.ensures c.mix-w.ensures c.write_line-next.ensures,
    )

pub returns : goal.returns
returns c =
    let v = c.loop-j.invariant in
    let s = c.in-None.ensures.steps in
    plane_end _ _ _ _ _ _ _ _ v.4 v.0 s.1 (rw v.1 at s.2)
