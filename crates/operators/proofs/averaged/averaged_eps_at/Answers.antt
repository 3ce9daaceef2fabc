-- `operators::averaged::averaged_eps_at` meets its contract.
-- Assumes nothing.
use Rattle.lattice.proofs.GridLaws.{next_low, last_low}
use Rattle.operators.proofs.AverageLaws.{cell_room, cell_next, cell_last_axis, axis_ready, axis_room, axis_hats_are, axis_below, average_is}
use Rattle.operators.proofs.averaged.averaged_eps_at.Goals as goal

pub hats_at-next-requires-clause-axis_bound : goal.hats_at-next-requires-clause-axis_bound
hats_at-next-requires-clause-axis_bound c = axis_ready c.requires.average_ready c.next_axis.ensures (next_low _)

pub hats_at-next-requires-clause-hats_fit : goal.hats_at-next-requires-clause-hats_fit
hats_at-next-requires-clause-hats_fit c = axis_room c.requires.average_ready c.next_axis.ensures (next_low _)

pub hats_at-last-requires-clause-axis_bound : goal.hats_at-last-requires-clause-axis_bound
hats_at-last-requires-clause-axis_bound c = axis_ready c.requires.average_ready c.last_axis.ensures (last_low _)

pub hats_at-last-requires-clause-hats_fit : goal.hats_at-last-requires-clause-hats_fit
hats_at-last-requires-clause-hats_fit c = axis_room c.requires.average_ready c.last_axis.ensures (last_low _)

pub mean_over-requires-clause-from_bound : goal.mean_over-requires-clause-from_bound
mean_over-requires-clause-from_bound c = cell_room _ _ _ c.cell_of.ensures.1 c.requires.from_bound

pub mean_over-requires-clause-next_below : goal.mean_over-requires-clause-next_below
mean_over-requires-clause-next_below c = cell_next _ _ _ c.cell_of.ensures.1 (axis_below c.requires.average_ready c.next_axis.ensures (next_low _) c.hats_at-next.ensures)

pub mean_over-requires-clause-last_below : goal.mean_over-requires-clause-last_below
mean_over-requires-clause-last_below c = cell_last_axis _ _ _ c.cell_of.ensures.1 (axis_below c.requires.average_ready c.last_axis.ensures (last_low _) c.hats_at-last.ensures)

pub returns : goal.returns
returns c =
    average_is _ _ _ _ _ _ c.cell_of.ensures.1
    (axis_hats_are c.requires.average_ready c.next_axis.ensures (next_low _) c.hats_at-next.ensures)
    (axis_hats_are c.requires.average_ready c.last_axis.ensures (last_low _) c.hats_at-last.ensures)
    c.mean_over.ensures
