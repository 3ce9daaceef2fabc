-- `operators::averaged::hats_across` meets its contract.
-- Assumes nothing.
use Rattle.lattice.proofs.GridLaws.{next_low, last_low}
use Rattle.operators.proofs.AveragedRow.{place_there, across_are}
use Rattle.operators.proofs.averaged.hats_across.Goals as goal

pub around_on-requires-clause-axis_bound : goal.around_on-requires-clause-axis_bound
around_on-requires-clause-axis_bound c = (rw c.next_axis-b.ensures (next_low c.args.p.component), place_there c.args.nested.now.lines c.requires.inside _ c.place_on-i.ensures)

pub around_on-requires-2-clause-axis_bound : goal.around_on-requires-2-clause-axis_bound
around_on-requires-2-clause-axis_bound c = (rw c.last_axis-c.ensures (last_low c.args.p.component), place_there c.args.nested.now.lines c.requires.inside _ c.place_on-j.ensures)

pub returns : goal.returns
returns c =
    across_are c.args.nested.now.lines c.requires.inside c.next_axis-b.ensures c.last_axis-c.ensures c.place_on-i.ensures c.place_on-j.ensures c.requires.hats_len c.around_on.ensures c.around_on-2.ensures
