-- `store::needs::count` meets its contract.
-- Assumes nothing.
use native.Mathlib.Omega.{arith}
use Rattle.store.proofs.NeedLaws.{sums_few, only_few, needs_are}
use Rattle.store.proofs.needs.count.Goals as goal

pub overflow_add-result : goal.overflow_add-result
overflow_add-result c = omega (arith, sums_few _ _ c.edges_from-first.ensures c.edges_from-fine.ensures c.edges_from-coarse.ensures c.args.h.now.l.limits c.args.h.now.few)

pub overflow_add-result-2 : goal.overflow_add-result-2
overflow_add-result-2 c = omega (arith, sums_few _ _ c.edges_from-first.ensures c.edges_from-fine.ensures c.edges_from-coarse.ensures c.args.h.now.l.limits c.args.h.now.few, only_few c.args.choice c.edges_from-coarse.result c.only-averaged.ensures)

pub overflow_add-result-3 : goal.overflow_add-result-3
overflow_add-result-3 c = omega (arith, sums_few _ _ c.edges_from-first.ensures c.edges_from-fine.ensures c.edges_from-coarse.ensures c.args.h.now.l.limits c.args.h.now.few, c.args.h.now.few)

pub overflow_add-result-4 : goal.overflow_add-result-4
overflow_add-result-4 c = omega (arith, sums_few _ _ c.edges_from-first.ensures c.edges_from-fine.ensures c.edges_from-coarse.ensures c.args.h.now.l.limits c.args.h.now.few, c.args.h.now.few)

pub stored_starts-requires : goal.stored_starts-requires
stored_starts-requires c = let s = sums_few _ _ c.edges_from-first.ensures c.edges_from-fine.ensures c.edges_from-coarse.ensures c.args.h.now.l.limits c.args.h.now.few in (c.args.h.now.few, omega (arith, s), omega (arith, s))

pub overflow_add-fine : goal.overflow_add-fine
overflow_add-fine c = omega (arith, sums_few _ _ c.edges_from-first.ensures c.edges_from-fine.ensures c.edges_from-coarse.ensures c.args.h.now.l.limits c.args.h.now.few)

pub returns : goal.returns
returns c = needs_are _ _ c.edges_from-first.ensures c.edges_from-fine.ensures c.edges_from-coarse.ensures c.args.choice c.line_ends.ensures c.only-averaged.ensures c.forward_terms.ensures c.stored_starts.ensures c.operator_terms.ensures c.only.ensures
