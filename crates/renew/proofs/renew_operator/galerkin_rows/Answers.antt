use Rattle.store.specs.Hierarchy.{the_lattice}
use Rattle.std.proofs.Common.{◌≡◌, ◌+◌, suc}
use Prim.Native.Nat.{suc}
use mathlib.Core.Path.{refl}
use native.Mathlib.Omega.{arith}
use mathlib.Core.List.{[]}
use Rattle.operators.proofs.RangeLaws.{edges_few}
use Rattle.operators.proofs.GalerkinLaws.{rows_start}
use Rattle.store.proofs.GalerkinRows.{galerkin_none, galerkin_next, galerkin_stop, galerkin_end}
use Rattle.store.proofs.PartRowLaws.{galerkin_long}
use borrow.Author.Rules.{rules}
use Rattle.renew.proofs.renew_operator.galerkin_rows.Goals as goal

pub loop-c-init : goal.loop-c-init
loop-c-init c = (omega arith, (refl, ((rows_start {f = λ _. []} {m = 0} {k = 0} {xs = []}).none, galerkin_none c.args.level c.args.flags.now c.args.base)))

pub overflow_add-base : goal.overflow_add-base
overflow_add-base c = omega (arith, c.requires.n_value, c.loop-c-test.true, edges_few (the_lattice c.args.h.now) c.requires.shaped.limits (suc c.args.level))

pub galerkin_row-requires-clause-five_room : goal.galerkin_row-requires-clause-five_room
galerkin_row-requires-clause-five_room c = galerkin_long c.loop-c.ovalues c.loop-c.invariant.1.0 c.requires.five_room

pub galerkin_row-requires-clause-sums_value : goal.galerkin_row-requires-clause-sums_value
galerkin_row-requires-clause-sums_value c = c.loop-c.invariant.1.1.0

pub galerkin_row-requires-clause-c_bound : goal.galerkin_row-requires-clause-c_bound
galerkin_row-requires-clause-c_bound c = (omega (arith, c.requires.n_value, c.loop-c-test.true), omega (arith, c.requires.n_value, c.loop-c-test.true))

pub returns-then-not-galerkin_row : goal.returns-then-not-galerkin_row
returns-then-not-galerkin_row c =
    let z : suc (c.args.level + 1) ≡ c.args.level + 2 = omega arith in
    rw z (galerkin_stop c.args.level c.args.flags.now c.args.base c.loop-c.c c.args.n c.loop-c-test.true (c.if-not-galerkin_row.true) c.loop-c.invariant.1.1.1 c.galerkin_row.ensures.galerkin_taken)

pub loop-c-preserved : goal.loop-c-preserved
loop-c-preserved c = (omega arith, (search rules, (c.galerkin_row.ensures.sums_after, galerkin_next c.args.level c.args.flags.now c.args.base c.loop-c.c (c.if-not-galerkin_row.false) c.loop-c.invariant.1.1.1 c.galerkin_row.ensures.galerkin_taken)))

pub returns : goal.returns
returns c = galerkin_end c.args.level c.args.flags.now c.args.base c.loop-c.c c.args.n c.loop-c.invariant.0 c.loop-c-test.false c.loop-c.invariant.1.1.1
