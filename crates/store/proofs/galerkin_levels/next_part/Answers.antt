-- `store::galerkin_levels::next_part` meets its contract.
-- Assumes nothing.
use Prim.Native.Nat.{ℕ, ◌+◌}
use mathlib.Core.Path.{ap, ◌∙◌}
use native.Mathlib.Omega.{arith}
use lib.ListN.{get_or}
use Rattle.store.proofs.OperatorLaws.{part_small, terms_small, part_next}
use Rattle.store.proofs.LineLaws.{edges_next}
use Rattle.store.proofs.galerkin_levels.next_part.Goals as goal

pub overflow_add-w : goal.overflow_add-w
overflow_add-w c = omega (arith, part_small _ c.args.h.now.l.limits _ (c.requires.level_lt_m, c.args.h.now.few) c.requires.q_value (edges_next _ _ c.edges-n.ensures))

pub offset_bounds-ostarts-s : goal.offset_bounds-ostarts-s
offset_bounds-ostarts-s c = omega (arith, part_small _ c.args.h.now.l.limits _ (c.requires.level_lt_m, c.args.h.now.few) c.requires.q_value (edges_next _ _ c.edges-n.ensures))

pub bounds-ostarts-s : goal.bounds-ostarts-s
bounds-ostarts-s c = omega (arith, (edges_next _ _ c.edges-n.ensures), c.requires.level_in_bounds.0)

pub overflow_add-result : goal.overflow_add-result
overflow_add-result c = omega (arith, part_small _ c.args.h.now.l.limits _ (c.requires.level_lt_m, c.args.h.now.few) c.requires.q_value (edges_next _ _ c.edges-n.ensures))

pub overflow_add-result-2 : goal.overflow_add-result-2
overflow_add-result-2 c = omega (arith, part_small _ c.args.h.now.l.limits _ (c.requires.level_lt_m, c.args.h.now.few) c.requires.q_value (edges_next _ _ c.edges-n.ensures))

pub overflow_add-result-3 : goal.overflow_add-result-3
overflow_add-result-3 c = let n = edges_next _ _ c.edges-n.ensures in omega (arith, terms_small _ c.args.h.now.l.limits _ (c.requires.level_lt_m, c.args.h.now.few) c.requires.q_value n (ap (λ (i : ℕ). get_or c.args.ostarts.now (c.args.q.s + i) 0) n ∙ c.requires.level_in_bounds.1))

pub returns : goal.returns
returns c = let n = edges_next _ _ c.edges-n.ensures in part_next _ c.args.h.now.l.limits _ (c.requires.level_lt_m, c.args.h.now.few) c.requires.q_value n (ap (λ (i : ℕ). get_or c.args.ostarts.now (c.args.q.s + i) 0) n ∙ c.requires.level_in_bounds.1)
