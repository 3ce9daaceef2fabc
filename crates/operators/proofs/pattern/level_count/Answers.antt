use native.Mathlib.Omega.{arith}
use Rattle.lattice.proofs.GridLaws.{unknowns_most, at_inside}
use Rattle.operators.proofs.LevelTableLaws.{counted_none, counted_turn, counted_end, counted_most, columns_most, pattern_most, pattern_length}
use Rattle.operators.proofs.pattern.level_count.Goals as goal

pub loop-r-init : goal.loop-r-init
loop-r-init c = (omega (arith, unknowns_most c.requires.limits), counted_none)

pub row_count-count-requires-clause-inside : goal.row_count-count-requires-clause-inside
row_count-count-requires-clause-inside c = rw c.at-p.ensures (at_inside c.requires.limits _ (omega arith))

pub overflow_add-count : goal.overflow_add-count
overflow_add-count c =
    omega (
      arith,
      counted_most 786432 c.loop-r.invariant.1 (pattern_most _ _ c.requires.limits),
      c.row_count-count.ensures,
      columns_most c.args.t.now c.requires.limits c.fixed_at-fixed.result 0 c.at-p.result,
    )

pub loop-r-preserved : goal.loop-r-preserved
loop-r-preserved c =
    (c.loop-r.invariant.0, counted_turn c.loop-r.invariant.1 c.loop-r-test.true (pattern_length _ _ _ _ c.at-p.ensures c.fixed_at-fixed.ensures c.row_count-count.ensures))

pub returns : goal.returns
returns c = rw c.unknowns-n.ensures at (counted_end c.loop-r.invariant.1 c.loop-r-test.false)
