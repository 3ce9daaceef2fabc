-- `renew::renew_operator::stencil_part` meets its contract. The rows are those of the lattice of the level's own lines.
-- Assumes nothing.
use native.Mathlib.Omega.{arith}
use Rattle.operators.proofs.RediscretizedLists.{own_lattice}
use Rattle.store.proofs.PartRowLaws.{own_held, own_tame, own_limits, stencil_ready, stencil_done}
use Rattle.renew.proofs.renew_operator.stencil_part.Goals as goal

pub rediscretized_lattice-lattice-requires-clause-held_three : goal.rediscretized_lattice-lattice-requires-clause-held_three
rediscretized_lattice-lattice-requires-clause-held_three c = own_held _ c.args.h.now.l.limits _ (c.requires.level_lt_m, c.args.h.now.few) c.args.h.now.has_lines c.three-s.ensures

pub rediscretized_stretches-stretches-requires-clause-held_three : goal.rediscretized_stretches-stretches-requires-clause-held_three
rediscretized_stretches-stretches-requires-clause-held_three c = own_held _ c.args.h.now.l.limits _ (c.requires.level_lt_m, c.args.h.now.few) c.args.h.now.has_lines c.three-s.ensures

pub rediscretized_stretches-stretches-requires-clause-tame : goal.rediscretized_stretches-stretches-requires-clause-tame
rediscretized_stretches-stretches-requires-clause-tame c = own_tame _ c.args.h.now.l.limits _ (c.requires.level_lt_m, c.args.h.now.few) c.args.h.now.has_lines c.three-s.ensures

pub invariant_of-own : goal.invariant_of-own
invariant_of-own c = record {
  limits = own_limits _ c.args.h.now.l.limits _ (c.requires.level_lt_m, c.args.h.now.few) c.args.h.now.has_lines c.three-s.ensures (own_lattice _ _ _ _ c.rediscretized_lattice-lattice.ensures c.rediscretized_stretches-stretches.ensures.result_value);
}

pub overflow_add-level-2 : goal.overflow_add-level-2
overflow_add-level-2 c = omega (arith, c.requires.level_lt_m, c.args.h.now.few)

pub overflow_add-level-3 : goal.overflow_add-level-3
overflow_add-level-3 c = omega (arith, c.requires.level_lt_m, c.args.h.now.few)

pub stencil_rows-requires-clause-stencil_rule : goal.stencil_rows-requires-clause-stencil_rule
stencil_rows-requires-clause-stencil_rule c = (stencil_ready _ c.args.h.now.l.limits _ (c.requires.level_lt_m, c.args.h.now.few) c.args.h.now.has_lines c.three-s.ensures (own_lattice _ _ _ _ c.rediscretized_lattice-lattice.ensures c.rediscretized_stretches-stretches.ensures.result_value) c.requires.from_value.0 c.edges-n.ensures c.args.eps.now c.args.ovalues.now c.args.flags.now c.requires.from_value.1 c.requires.operator_starts c.requires.m_in_bounds c.requires.part_flags).1.0

pub stencil_rows-requires-clause-from_bound : goal.stencil_rows-requires-clause-from_bound
stencil_rows-requires-clause-from_bound c = (stencil_ready _ c.args.h.now.l.limits _ (c.requires.level_lt_m, c.args.h.now.few) c.args.h.now.has_lines c.three-s.ensures (own_lattice _ _ _ _ c.rediscretized_lattice-lattice.ensures c.rediscretized_stretches-stretches.ensures.result_value) c.requires.from_value.0 c.edges-n.ensures c.args.eps.now c.args.ovalues.now c.args.flags.now c.requires.from_value.1 c.requires.operator_starts c.requires.m_in_bounds c.requires.part_flags).1.1.0

pub stencil_rows-requires-clause-operator_starts : goal.stencil_rows-requires-clause-operator_starts
stencil_rows-requires-clause-operator_starts c = (stencil_ready _ c.args.h.now.l.limits _ (c.requires.level_lt_m, c.args.h.now.few) c.args.h.now.has_lines c.three-s.ensures (own_lattice _ _ _ _ c.rediscretized_lattice-lattice.ensures c.rediscretized_stretches-stretches.ensures.result_value) c.requires.from_value.0 c.edges-n.ensures c.args.eps.now c.args.ovalues.now c.args.flags.now c.requires.from_value.1 c.requires.operator_starts c.requires.m_in_bounds c.requires.part_flags).1.1.1.0

pub stencil_rows-requires-clause-level_in_bounds : goal.stencil_rows-requires-clause-level_in_bounds
stencil_rows-requires-clause-level_in_bounds c = (stencil_ready _ c.args.h.now.l.limits _ (c.requires.level_lt_m, c.args.h.now.few) c.args.h.now.has_lines c.three-s.ensures (own_lattice _ _ _ _ c.rediscretized_lattice-lattice.ensures c.rediscretized_stretches-stretches.ensures.result_value) c.requires.from_value.0 c.edges-n.ensures c.args.eps.now c.args.ovalues.now c.args.flags.now c.requires.from_value.1 c.requires.operator_starts c.requires.m_in_bounds c.requires.part_flags).1.1.1.1.0

pub stencil_rows-requires-clause-n_value : goal.stencil_rows-requires-clause-n_value
stencil_rows-requires-clause-n_value c = (stencil_ready _ c.args.h.now.l.limits _ (c.requires.level_lt_m, c.args.h.now.few) c.args.h.now.has_lines c.three-s.ensures (own_lattice _ _ _ _ c.rediscretized_lattice-lattice.ensures c.rediscretized_stretches-stretches.ensures.result_value) c.requires.from_value.0 c.edges-n.ensures c.args.eps.now c.args.ovalues.now c.args.flags.now c.requires.from_value.1 c.requires.operator_starts c.requires.m_in_bounds c.requires.part_flags).1.1.1.1.1

pub returns : goal.returns
returns c = stencil_done _ c.args.h.now.l.limits _ (c.requires.level_lt_m, c.args.h.now.few) c.args.h.now.has_lines c.three-s.ensures (own_lattice _ _ _ _ c.rediscretized_lattice-lattice.ensures c.rediscretized_stretches-stretches.ensures.result_value) c.requires.from_value.0 c.edges-n.ensures c.args.base c.args.flags.now c.requires.part_flags c.stencil_rows.ensures
