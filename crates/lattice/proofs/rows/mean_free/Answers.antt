use mathlib.Core.Path.{sym, ◌∙◌}
use native.Mathlib.Omega.{arith}
use Rattle.lattice.proofs.RowLaws.{mean_none, mean_some, count_most, small_float}
use Rattle.lattice.proofs.rows.mean_free.Goals as goal

pub returns-then-s-eq0 : goal.returns-then-s-eq0
returns-then-s-eq0 c = c.one.ensures ∙ sym (mean_none _ _ _ c.sum_free-s.ensures c.if-s-eq0.true)

pub int_to_float-count : goal.int_to_float-count
int_to_float-count c = small_float _ (count_most _ _ _ c.sum_free-s.ensures 64 (omega arith))

pub returns : goal.returns
returns c = c.div.ensures ∙ sym (mean_some _ _ _ c.sum_free-s.ensures c.if-s-eq0.false)
