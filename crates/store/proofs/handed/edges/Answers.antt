-- `store::handed::edges` meets its contract: a level that exists has few enough cells for the product.
-- Assumes nothing.
use mathlib.Core.Path.{sym, ◌∙◌}
use native.Mathlib.Omega.{arith}
use Rattle.store.proofs.HandedLaws.{edges_none, edges_there, level_held, cells_fit}
use Rattle.store.proofs.handed.edges.Goals as goal

pub returns-then-not-level_there : goal.returns-then-not-level_there
returns-then-not-level_there c = edges_none _ _ (sym c.level_there.ensures ∙ c.if-not-level_there.true)

pub cells_along-x-requires : goal.cells_along-x-requires
cells_along-x-requires c = ((level_held _ _ (sym c.level_there.ensures ∙ c.if-not-level_there.false)).low, omega arith)

pub cells_along-y-requires : goal.cells_along-y-requires
cells_along-y-requires c = ((level_held _ _ (sym c.level_there.ensures ∙ c.if-not-level_there.false)).low, omega arith)

pub cells_along-z-requires : goal.cells_along-z-requires
cells_along-z-requires c = ((level_held _ _ (sym c.level_there.ensures ∙ c.if-not-level_there.false)).low, omega arith)

pub overflow_mul-result : goal.overflow_mul-result
overflow_mul-result c = omega (arith, (cells_fit _ _ (sym c.level_there.ensures ∙ c.if-not-level_there.false) c.cells_along-x.ensures c.cells_along-y.ensures c.cells_along-z.ensures).0)

pub overflow_mul-result-2 : goal.overflow_mul-result-2
overflow_mul-result-2 c = omega (arith, (cells_fit _ _ (sym c.level_there.ensures ∙ c.if-not-level_there.false) c.cells_along-x.ensures c.cells_along-y.ensures c.cells_along-z.ensures).1)

pub overflow_mul-result-3 : goal.overflow_mul-result-3
overflow_mul-result-3 c = omega (arith, (cells_fit _ _ (sym c.level_there.ensures ∙ c.if-not-level_there.false) c.cells_along-x.ensures c.cells_along-y.ensures c.cells_along-z.ensures).1)

pub returns : goal.returns
returns c = edges_there _ _ (sym c.level_there.ensures ∙ c.if-not-level_there.false) c.cells_along-x.ensures c.cells_along-y.ensures c.cells_along-z.ensures
