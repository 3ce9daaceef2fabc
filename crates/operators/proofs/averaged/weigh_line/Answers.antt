-- `operators::averaged::weigh_line` meets its contract.
-- Assumes nothing.
use Rattle.operators.proofs.AverageLaws.{line_inside, count_float, line_is}
use Rattle.operators.proofs.averaged.weigh_line.Goals as goal

pub sum_of_inverses-inverse-requires-clause-line_inside :
    goal.sum_of_inverses-inverse-requires-clause-line_inside
sum_of_inverses-inverse-requires-clause-line_inside c =
    line_inside (record { is = c.through.ensures }) c.requires.cell.c_in c.requires.node_bound c.requires.cell.inside

pub int_to_float-count : goal.int_to_float-count
int_to_float-count c = count_float c.args.c.p.component c.args.c.first c.args.c.last c.requires.cell.limits c.requires.cell.inside

pub returns : goal.returns
returns c = line_is _ _ _ _ _ _ _ (record { is = c.through.ensures }) c.sum_of_inverses-inverse.ensures c.div-mean.ensures c.add.ensures
