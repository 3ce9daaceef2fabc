use mathlib.Core.Path.{sym, ◌∙◌}
use native.Mathlib.Omega.{arith}
use Rattle.lattice.proofs.RowLaws.{summing_start, summing_fixed, summing_free, summing_end}
use Rattle.lattice.proofs.rows.sum_free.Goals as goal
use Rattle.lattice.proofs.rows.sum_free.Goals.{then-not-fixed, else-not-fixed}

pub loop-c-init : goal.loop-c-init
loop-c-init c = summing_start c.zero-total.ensures

pub loop-c-preserved : goal.loop-c-preserved
loop-c-preserved c =
    elim c.if-not-fixed.branch [
      | then-not-fixed w ↦
          rw (w.total-is, w.count-is)
          (summing_free c.loop-c.invariant c.loop-c-test.true (sym c.fixed.ensures ∙ w.if-not-fixed.true) w.get.ensures w.add-total.ensures)
      | else-not-fixed w ↦ rw (w.total-is, w.count-is) (summing_fixed c.loop-c.invariant c.loop-c-test.true (sym c.fixed.ensures ∙ w.if-not-fixed.false))
    ]

pub returns : goal.returns
returns c = summing_end c.loop-c.invariant (omega arith)
