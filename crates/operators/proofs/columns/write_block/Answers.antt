use Prim.Native.Nat.{◌+◌, ◌*◌, ◌≤◌}
use mathlib.Core.Path.{refl}
use native.Mathlib.Omega.{arith}
use Rattle.operators.proofs.ColumnLaws.{block_start, block_turn, block_end, plane_length, area, volume}
use Rattle.operators.proofs.columns.write_block.Goals as goal

pub overflow_mul-area : goal.overflow_mul-area
overflow_mul-area c = omega (arith, area c.args.nx c.args.ny c.requires.0 c.requires.1)

pub loop-k-init : goal.loop-k-init
loop-k-init c =
    rw (c.into_iter-k-iterator.ensures.into_iter_gives, c.places_below-k-items.ensures)
    (c.mix-both.ensures, refl, omega arith, omega arith, block_start _ _ _ _ _)

pub overflow_mul-area-in-loop-k : goal.overflow_mul-area-in-loop-k
overflow_mul-area-in-loop-k c =
    let h : c.in-Some.k ≤ 64 = omega (arith, c.in-Some.ensures.steps.below, c.loop-k.invariant.1) in
    omega (arith, volume c.args.nx c.args.ny c.in-Some.k c.requires.0 c.requires.1 h)

pub overflow_add-base : goal.overflow_add-base
overflow_add-base c =
    let h : c.in-Some.k ≤ 64 = omega (arith, c.in-Some.ensures.steps.below, c.loop-k.invariant.1) in
    omega (arith, volume c.args.nx c.args.ny c.in-Some.k c.requires.0 c.requires.1 h)

pub write_plane-next-requires : goal.write_plane-next-requires
write_plane-next-requires c =
    let h : c.in-Some.k ≤ 64 = omega (arith, c.in-Some.ensures.steps.below, c.loop-k.invariant.1) in
    omega (arith, volume c.args.nx c.args.ny c.in-Some.k c.requires.0 c.requires.1 h)

pub loop-k-preserved : goal.loop-k-preserved
loop-k-preserved c =
    let v = c.loop-k.invariant in
    let s = c.in-Some.ensures.steps in
    rw s.after (
      v.0,
      v.1,
      omega (arith, s.below, c.loop-k.iterator),
      omega (
        arith,
        s.found.from,
        c.write_plane-next.ensures.next,
        plane_length c.args.p.sx c.args.p.tx c.mix-a.result c.mix-b.result c.args.nx (c.args.base + c.args.nx * c.args.ny * c.in-Some.k) c.args.ny 0
            c.requires.0,
      ),
      block_turn _ _ _ _ _ _ v.4 v.0 s.found (rw v.1 at s.below) c.bit-same.ensures c.mix-a.ensures c.bit.ensures c.mix-b.ensures c.write_plane-next.ensures,
    )

pub returns : goal.returns
returns c =
    let v = c.loop-k.invariant in
    let s = c.in-None.ensures.steps in
    block_end _ _ _ _ _ _ v.4 v.0 s.1 (rw v.1 at s.2)
