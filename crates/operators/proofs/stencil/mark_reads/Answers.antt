-- `operators::stencil::mark_reads` meets its contract.
-- Assumes nothing.
use mathlib.Core.Path.{sym}
use native.Mathlib.Omega.{arith}
use mathlib.Core.Bool.{true}
use lib.ListN.{length-set}
use Rattle.lattice.proofs.RowLaws.{gradient_most, low_gradient}
use Rattle.numbers.proofs.TermLaws.{read_back, low_below}
use Rattle.numbers.proofs.MarkedLaws.{marking_start, marking_turn, marking_end}
use Rattle.operators.proofs.CutLaws.{front_long, front_at, front_whole}
use Rattle.operators.proofs.StencilLaws.{reads_none, reads_nodes}
use Rattle.operators.proofs.stencil.mark_reads.Goals as goal

pub returns-then-fixed : goal.returns-then-fixed
returns-then-fixed c = reads_none _ _ c.fixed.ensures c.if-fixed.true

pub slice_bounds-cs-end : goal.slice_bounds-cs-end
slice_bounds-cs-end c = (read_back 2 c.gradient-n.ensures (gradient_most _ _) (omega arith) (omega arith)).columns_room

pub slice_bounds-q-items-end : goal.slice_bounds-q-items-end
slice_bounds-q-items-end c = sym (front_long c.gradient-n.new.columns c.gradient-n.result (read_back 2 c.gradient-n.ensures (gradient_most _ _) (omega arith) (omega arith)).columns_room)

pub loop-q-init : goal.loop-q-init
loop-q-init c = marking_start

pub mark_node-requires-clause-q_bound : goal.mark_node-requires-clause-q_bound
mark_node-requires-clause-q_bound c =
    let e = read_back 2 c.gradient-n.ensures (gradient_most _ _) (omega arith) (omega arith) in
    let l = front_long c.gradient-n.new.columns c.gradient-n.result e.columns_room in
    rw (front_at c.gradient-n.new.columns c.gradient-n.result c.loop-q.q-index 0 c.loop-q-test.true)
    ((low_below e (low_gradient _ c.args.l.now.limits _ c.requires.r_bound)).low _ (omega arith))

pub mark_node-requires-clause-grid_in_bounds : goal.mark_node-requires-clause-grid_in_bounds
mark_node-requires-clause-grid_in_bounds c = omega (arith, c.requires.grid_in_bounds, length-set c.args.out.now c.args.r true, c.loop-q.invariant.marked.same_long)

pub loop-q-preserved : goal.loop-q-preserved
loop-q-preserved c = marking_turn c.loop-q.invariant c.loop-q-test.true (omega arith) c.mark_node.ensures

pub returns : goal.returns
returns c =
    let e = read_back 2 c.gradient-n.ensures (gradient_most _ _) (omega arith) (omega arith) in
    reads_nodes _ _ c.fixed.ensures c.if-fixed.false (omega arith) e (rw front_whole at (marking_end c.loop-q.invariant c.loop-q-test.false))
