-- `operators::galerkin::galerkin_row` meets its contract: what the terms leave in the sums is the row's numbers, and clearing its columns clears them all.
-- Assumes nothing.
use mathlib.Core.Path.{refl}
use native.Mathlib.Omega.{arith}
use Rattle.operators.proofs.GalerkinLaws.{columned_bounds, diagonal_room, columned_row, standing_below, row_worked, worked_laid}
use Rattle.operators.proofs.ComputedLaws.{turned_there, gathered_made}
use Rattle.operators.proofs.galerkin.galerkin_row.Goals as goal

pub overflow_add-at-2 : goal.overflow_add-at-2
overflow_add-at-2 c = omega (arith, columned_bounds c.requires.row_ready.columned c.requires.row_ready.low (omega (arith, c.requires.turned_given.low, c.requires.turned_given.transfer.turned.rows_few)))

pub overflow_sub-count : goal.overflow_sub-count
overflow_sub-count c = omega (arith, columned_bounds c.requires.row_ready.columned c.requires.row_ready.low (omega (arith, c.requires.turned_given.low, c.requires.turned_given.transfer.turned.rows_few)))

pub gather-requires : goal.gather-requires
gather-requires c = turned_there c.new-from.ensures c.requires.turned_given

pub diagonal-requires : goal.diagonal-requires
diagonal-requires c = diagonal_room c.requires.turned_given.transfer.turned c.requires.turned_given.low

pub lay_sums-requires-clause-n_in_bounds : goal.lay_sums-requires-clause-n_in_bounds
lay_sums-requires-clause-n_in_bounds c = let w = columned_row c.requires.row_ready.columned c.requires.row_ready.low refl refl in
    (w.room, w.few)

pub lay_sums-requires-clause-sums_len : goal.lay_sums-requires-clause-sums_len
lay_sums-requires-clause-sums_len c = let w = columned_row c.requires.row_ready.columned c.requires.row_ready.low refl refl in
    (row_worked c.args.t.now.part c.requires.turned_given.transfer.turned c.requires.turned_given.low c.requires.row_ready refl refl c.requires.sums_value (gathered_made c.new-from.ensures _ _ c.gather.ensures) c.diagonal.ensures).long

pub lay_sums-requires-clause-columns_below : goal.lay_sums-requires-clause-columns_below
lay_sums-requires-clause-columns_below c = let w = columned_row c.requires.row_ready.columned c.requires.row_ready.low refl refl in
    standing_below w

pub clear-requires : goal.clear-requires
clear-requires c = let w = columned_row c.requires.row_ready.columned c.requires.row_ready.low refl refl in (w.room, w.few)

pub returns-clause-sums_after : goal.returns-clause-sums_after
returns-clause-sums_after c = let w = row_worked c.args.t.now.part c.requires.turned_given.transfer.turned c.requires.turned_given.low c.requires.row_ready refl refl c.requires.sums_value (gathered_made c.new-from.ensures _ _ c.gather.ensures) c.diagonal.ensures in
    w.cleared _ c.clear.ensures

pub returns-clause-ovalues_after : goal.returns-clause-ovalues_after
returns-clause-ovalues_after c = let w = row_worked c.args.t.now.part c.requires.turned_given.transfer.turned c.requires.turned_given.low c.requires.row_ready refl refl c.requires.sums_value (gathered_made c.new-from.ensures _ _ c.gather.ensures) c.diagonal.ensures in
    worked_laid _ w c.lay_sums.ensures
