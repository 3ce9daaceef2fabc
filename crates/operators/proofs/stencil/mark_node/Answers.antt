-- `operators::stencil::mark_node` meets its contract.
-- Assumes nothing.
use mathlib.Core.Path.{sym}
use native.Mathlib.Omega.{arith}
use Rattle.lattice.proofs.RowLaws.{divergence_most, low_divergence}
use Rattle.numbers.proofs.TermLaws.{read_back, low_below}
use Rattle.numbers.proofs.MarkedLaws.{marking_start, marking_turn, marking_end}
use Rattle.lattice.proofs.ColumnLaws.{free_each}
use Rattle.operators.proofs.CutLaws.{front_long, front_at, front_whole}
use Rattle.operators.proofs.StencilLaws.{below_more, node_marked}
use Rattle.operators.proofs.stencil.mark_node.Goals as goal

pub slice_bounds-cs-end : goal.slice_bounds-cs-end
slice_bounds-cs-end c = (read_back 6 c.divergence-n.ensures (divergence_most _ _) (omega arith) (omega arith)).columns_room

pub slice_bounds-c-items-end : goal.slice_bounds-c-items-end
slice_bounds-c-items-end c = sym (front_long c.divergence-n.new.columns c.divergence-n.result (read_back 6 c.divergence-n.ensures (divergence_most _ _) (omega arith) (omega arith)).columns_room)

pub loop-c-init : goal.loop-c-init
loop-c-init c = marking_start

pub mark_edge-requires : goal.mark_edge-requires
mark_edge-requires c =
    let e = read_back 6 c.divergence-n.ensures (divergence_most _ _) (omega arith) (omega arith) in
    let l = front_long c.divergence-n.new.columns c.divergence-n.result e.columns_room in
    rw (front_at c.divergence-n.new.columns c.divergence-n.result c.loop-c.c-index 0 c.loop-c-test.true)
    (omega (
      arith,
      (below_more (low_below e (low_divergence _ c.args.l.now.limits _ c.requires.q_bound)) c.requires.grid_in_bounds).low c.loop-c.c-index (omega arith),
      c.loop-c.invariant.marked.same_long,
    ))

pub loop-c-preserved : goal.loop-c-preserved
loop-c-preserved c = marking_turn c.loop-c.invariant c.loop-c-test.true (omega arith) c.mark_edge.ensures

pub returns : goal.returns
returns c =
    let e = read_back 6 c.divergence-n.ensures (divergence_most _ _) (omega arith) (omega arith) in
    node_marked _ _ e (rw free_each (rw front_whole at (marking_end c.loop-c.invariant c.loop-c-test.false)))
