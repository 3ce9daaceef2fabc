-- `operators::averaged::around_on` meets its contract.
-- Assumes nothing.
use native.Mathlib.Omega.{arith}
use Rattle.operators.proofs.AveragedRow.{pair_on, cells_on_lem, nodes_on, around_on}
use Rattle.operators.proofs.averaged.around_on.Goals as goal

pub push_around-requires-clause-line_pair : goal.push_around-requires-clause-line_pair
push_around-requires-clause-line_pair c = pair_on c.args.nested.now.lines c.args.axis c.line_on-f.ensures c.line_on-c.ensures

pub push_around-requires-clause-nodes_from : goal.push_around-requires-clause-nodes_from
push_around-requires-clause-nodes_from c = nodes_on c.args.nested.now.lines c.args.axis c.line_on-f.ensures c.line_on-c.ensures c.requires.nn_value c.requires.axis_bound.0

pub push_around-requires-clause-m_lt_cells : goal.push_around-requires-clause-m_lt_cells
push_around-requires-clause-m_lt_cells c = (rw (cells_on_lem c.args.nested.now.lines c.args.axis c.line_on-f.ensures c.line_on-c.ensures) at c.requires.axis_bound.1, omega arith)

pub returns : goal.returns
returns c = around_on c.args.nested.now.lines c.args.axis c.line_on-f.ensures c.line_on-c.ensures c.args.m c.edges_on-edges.ensures c.is_wall-wall.ensures c.push_around.ensures
