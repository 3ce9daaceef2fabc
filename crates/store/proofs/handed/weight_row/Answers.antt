-- `store::handed::weight_row` meets its contract: a row that is found fits the values.
-- Assumes nothing.
use mathlib.Core.Path.{sym, ◌∙◌}
use native.Mathlib.Omega.{arith}
use Rattle.store.proofs.HandedLaws.{weight_handed, turned_handed, forward_handed, turned_fits, forward_fits}
use Rattle.store.proofs.handed.weight_row.Goals as goal

pub returns-in_default : goal.returns-in_default
returns-in_default c = weight_handed _ _ _ _ _ _ _ _ (sym c.weight_terms.ensures ∙ c.in_default.is)

pub overflow_mul-result : goal.overflow_mul-result
overflow_mul-result c = omega (arith, turned_fits _ _ _ _ _ _ _ _ c.if-turned.true (sym c.weight_terms.ensures ∙ c.in-Some.is))

pub overflow_mul-result-then-turned : goal.overflow_mul-result-then-turned
overflow_mul-result-then-turned c = omega (arith, turned_fits _ _ _ _ _ _ _ _ c.if-turned.true (sym c.weight_terms.ensures ∙ c.in-Some.is))

pub offset_bounds-tvalues-i : goal.offset_bounds-tvalues-i
offset_bounds-tvalues-i c = omega (arith, turned_fits _ _ _ _ _ _ _ _ c.if-turned.true (sym c.weight_terms.ensures ∙ c.in-Some.is))

pub slice_bounds-result-count-then-turned : goal.slice_bounds-result-count-then-turned
slice_bounds-result-count-then-turned c = omega (arith, turned_fits _ _ _ _ _ _ _ _ c.if-turned.true (sym c.weight_terms.ensures ∙ c.in-Some.is))

pub slice_bounds-result-start-then-turned : goal.slice_bounds-result-start-then-turned
slice_bounds-result-start-then-turned c = omega (arith, turned_fits _ _ _ _ _ _ _ _ c.if-turned.true (sym c.weight_terms.ensures ∙ c.in-Some.is))

pub slice_bounds-result-end-then-turned : goal.slice_bounds-result-end-then-turned
slice_bounds-result-end-then-turned c = omega (arith, turned_fits _ _ _ _ _ _ _ _ c.if-turned.true (sym c.weight_terms.ensures ∙ c.in-Some.is))

pub slice_bounds-result-start-2 : goal.slice_bounds-result-start-2
slice_bounds-result-start-2 c = omega (arith, forward_fits _ _ _ _ _ _ _ _ c.if-turned.false (sym c.weight_terms.ensures ∙ c.in-Some.is))

pub slice_bounds-result-end-2 : goal.slice_bounds-result-end-2
slice_bounds-result-end-2 c = omega (arith, forward_fits _ _ _ _ _ _ _ _ c.if-turned.false (sym c.weight_terms.ensures ∙ c.in-Some.is))

pub returns-then-turned : goal.returns-then-turned
returns-then-turned c = turned_handed _ _ _ _ _ _ _ _ c.if-turned.true (sym c.weight_terms.ensures ∙ c.in-Some.is)

pub overflow_mul-result-2 : goal.overflow_mul-result-2
overflow_mul-result-2 c = omega (arith, forward_fits _ _ _ _ _ _ _ _ c.if-turned.false (sym c.weight_terms.ensures ∙ c.in-Some.is))

pub overflow_mul-result-3 : goal.overflow_mul-result-3
overflow_mul-result-3 c = omega (arith, forward_fits _ _ _ _ _ _ _ _ c.if-turned.false (sym c.weight_terms.ensures ∙ c.in-Some.is))

pub offset_bounds-values-i : goal.offset_bounds-values-i
offset_bounds-values-i c = omega (arith, forward_fits _ _ _ _ _ _ _ _ c.if-turned.false (sym c.weight_terms.ensures ∙ c.in-Some.is))

pub slice_bounds-result-count-2 : goal.slice_bounds-result-count-2
slice_bounds-result-count-2 c = omega (arith, forward_fits _ _ _ _ _ _ _ _ c.if-turned.false (sym c.weight_terms.ensures ∙ c.in-Some.is))

pub returns : goal.returns
returns c = forward_handed _ _ _ _ _ _ _ _ c.if-turned.false (sym c.weight_terms.ensures ∙ c.in-Some.is)
