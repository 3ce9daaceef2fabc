use Rattle.operators.proofs.GalerkinLaws.{rows_start, fine_ready, row_ready, row_turn, finite_room, rows_finite}
use Rattle.operators.proofs.galerkin.galerkin.Goals as goal

pub loop-c-init : goal.loop-c-init
loop-c-init c = rows_start

pub galerkin_row-requires-clause-turned_given : goal.galerkin_row-requires-clause-turned_given
galerkin_row-requires-clause-turned_given c = let h = c.loop-c-test.true in record { n = c.requires.rows_given.n; m = c.args.m; ready = fine_ready c.args.fine _ _ c.args.t.now.part c.args.o _ c.requires.rows_given.ready c.requires.rows_given.before c.requires.rows_given.transfer.turned c.loop-c.invariant; transfer = c.requires.rows_given.transfer; low = h }

pub galerkin_row-requires-clause-row_ready : goal.galerkin_row-requires-clause-row_ready
galerkin_row-requires-clause-row_ready c = let h = c.loop-c-test.true in row_ready c.args.fine _ _ c.args.t.now.part c.args.o _ c.requires.rows_given.ready c.requires.rows_given.before c.requires.rows_given.transfer.turned c.loop-c.invariant c.requires.rows_ready h

pub loop-c-preserved : goal.loop-c-preserved
loop-c-preserved c =
    row_turn c.args.fine _ _ c.args.t.now.part c.args.o _ c.requires.rows_given.ready c.requires.rows_given.before c.requires.rows_given.transfer.turned c.loop-c.invariant c.loop-c-test.true c.galerkin_row.ensures.ovalues_after c.galerkin_row.ensures.sums_after

pub finite_numbers-requires : goal.finite_numbers-requires
finite_numbers-requires c = finite_room _ _ _ c.requires.rows_ready c.loop-c.invariant

pub returns : goal.returns
returns c = rows_finite _ _ _ c.requires.rows_ready c.loop-c.invariant c.loop-c-test.false c.finite_numbers.ensures
