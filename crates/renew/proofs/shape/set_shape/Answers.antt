use Prim.Native.Nat.{◌+◌}
use native.Mathlib.Omega.{arith}
use Rattle.store.specs.Hierarchy.{the_lattice}
use Rattle.store.specs.Lists.{fixed_of}
use Rattle.store.proofs.SizeLaws.{edges_few}
use Rattle.store.proofs.MarkLaws.{shaping_start, shaping_scale, shaping_base, shaping_fits, shaping_next, shaping_end}
use Rattle.renew.proofs.shape.set_shape.Goals as goal

pub set_part-requires : goal.set_part-requires
set_part-requires c = omega (arith, c.requires.shape_len)

pub loop-level-init : goal.loop-level-init
loop-level-init c =
    let a = c.args in
    let f = the_lattice a.h.now in
    shaping_start f a.choice a.h.now.m c.first_marks-k.result c.sole_rows-n.result a.shape.now _ c.sole_rows-n.ensures c.requires.shape_len (rw c.words.ensures at c.set_part.ensures) c.first_marks-k.ensures

pub overflow_add-level : goal.overflow_add-level
overflow_add-level c = omega (arith, c.loop-level-test.true, c.args.h.now.few)

pub overflow_mul-level : goal.overflow_mul-level
overflow_mul-level c = omega (arith, c.loop-level-test.true, c.args.h.now.few)

pub overflow_add-level-in-loop-level : goal.overflow_add-level-in-loop-level
overflow_add-level-in-loop-level c = omega (arith, c.loop-level-test.true, c.args.h.now.few)

pub set_level-base-requires-clause-fine_bound : goal.set_level-base-requires-clause-fine_bound
set_level-base-requires-clause-fine_bound c = let a = c.args in
    let f = the_lattice a.h.now in
    let h = c.loop-level-test.true in
    (omega (arith, c.edges-fine.ensures, edges_few f c.args.h.now.l.limits c.loop-level.level), omega (arith, c.edges-coarse.ensures, edges_few f c.args.h.now.l.limits (c.loop-level.level + 1)), shaping_scale f a.choice a.h.now.m c.args.h.now.l.limits c.args.h.now.few c.loop-level.level c.loop-level.k c.loop-level.base c.loop-level.shape c.loop-level.invariant h)

pub set_level-base-requires-clause-p_bound : goal.set_level-base-requires-clause-p_bound
set_level-base-requires-clause-p_bound c = let a = c.args in
    let f = the_lattice a.h.now in
    let h = c.loop-level-test.true in
    (omega (arith, h, c.args.h.now.few), shaping_base f a.choice a.h.now.m c.args.h.now.l.limits c.args.h.now.few c.loop-level.level c.loop-level.k c.loop-level.base c.loop-level.shape c.loop-level.invariant h, omega (arith, h, c.args.h.now.few, c.loop-level.invariant.long))

pub next_marks-k-requires : goal.next_marks-k-requires
next_marks-k-requires c =
    let a = c.args in
    let f = the_lattice a.h.now in
    let x = fixed_of a.s.now in
    shaping_fits f a.choice a.h.now.m c.args.h.now.l.limits c.args.h.now.few x c.requires.shaped c.loop-level.level c.loop-level.k c.loop-level.base c.edges-fine.result c.edges-coarse.result c.loop-level.shape c.loop-level.invariant c.loop-level-test.true c.edges-fine.ensures c.edges-coarse.ensures

pub loop-level-smaller : goal.loop-level-smaller
loop-level-smaller c = omega (arith, c.loop-level-test.true)

pub loop-level-preserved : goal.loop-level-preserved
loop-level-preserved c =
    let a = c.args in
    let f = the_lattice a.h.now in
    let x = fixed_of a.s.now in
    shaping_next f a.choice a.h.now.m c.args.h.now.l.limits c.args.h.now.few x c.requires.shaped c.loop-level.level c.set_level-base.result c.loop-level.k c.next_marks-k.result c.loop-level.base c.edges-fine.result c.edges-coarse.result c.loop-level.shape _ c.loop-level.invariant c.loop-level-test.true c.edges-fine.ensures c.edges-coarse.ensures c.set_level-base.ensures c.next_marks-k.ensures

pub returns : goal.returns
returns c =
    let a = c.args in
    let f = the_lattice a.h.now in
    shaping_end f a.choice a.h.now.m c.loop-level.level c.loop-level.k c.loop-level.base c.loop-level.shape c.loop-level.invariant (omega arith)
