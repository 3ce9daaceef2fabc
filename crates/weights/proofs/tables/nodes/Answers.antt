-- `weights::tables::nodes` meets its contract. Axis by axis, the list has the nodes so far (`NodesTo`).
-- Assumes nothing.
use native.Mathlib.Omega.{arith}
use Rattle.weights.specs.TwoLevels.{two_of}
use Rattle.weights.proofs.Equations.{fine_line_0, fine_line_1, fine_line_2, coarse_line_0, coarse_line_1, coarse_line_2}
use Rattle.weights.proofs.TableLaws.{nodes_start, nodes_turn, nodes_whole}
use Rattle.weights.proofs.tables.nodes.Goals as goal

pub returns : goal.returns
unfolding two_of
returns c =
    let p = c.args.pair.now.paired in
    let fine = c.args.pair.now.fine in
    nodes_whole
    (nodes_turn 2 fine.z (omega arith) (fine_line_2 _) (coarse_line_2 _) p.coarse_held.z_held
    c.nodes_of-3.ensures
    (nodes_turn 1 fine.y (omega arith) (fine_line_1 _) (coarse_line_1 _) p.coarse_held.y_held
    c.nodes_of-2.ensures
    (nodes_turn 0 fine.x (omega arith) (fine_line_0 _) (coarse_line_0 _) p.coarse_held.x_held
    c.nodes_of.ensures
    nodes_start
    c.lay_nodes.ensures)
    c.lay_nodes-2.ensures)
    c.lay_nodes-3.ensures)
