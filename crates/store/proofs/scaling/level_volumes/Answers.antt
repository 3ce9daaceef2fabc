-- `store::scaling::level_volumes` meets its contract. Level 0 has the lattice itself, every other the lattice of its own lines.
-- Assumes nothing.
use Rattle.operators.proofs.RediscretizedLists.{own_lattice}
use Rattle.store.proofs.ScalingLaws.{lattice_at_lem, lattice_zero, volumes_asked, volumes_left, level_three, level_held, level_tame}
use Rattle.store.proofs.scaling.level_volumes.Goals as goal

pub volumes-requires : goal.volumes-requires
volumes-requires c = (volumes_asked _ c.args.h.now.l.limits _ (lattice_zero _ c.args.h.now.l.limits _ c.if-level-eq0.true) c.args.scaling.now c.args.k c.requires.k_bound).1

pub returns-then-level-eq0 : goal.returns-then-level-eq0
returns-then-level-eq0 c = volumes_left _ c.args.h.now.l.limits _ (lattice_zero _ c.args.h.now.l.limits _ c.if-level-eq0.true) c.args.k (c.volumes.ensures.scaling_after, c.volumes.ensures.value)

pub rediscretized_lattice-requires-clause-held_three : goal.rediscretized_lattice-requires-clause-held_three
rediscretized_lattice-requires-clause-held_three c = level_held _ c.args.h.now.l.limits _ _ (c.requires.level_lt_m, c.args.h.now.few) c.args.h.now.has_lines c.three-s.ensures

pub rediscretized_stretches-stretches-requires-clause-held_three : goal.rediscretized_stretches-stretches-requires-clause-held_three
rediscretized_stretches-stretches-requires-clause-held_three c = level_held _ c.args.h.now.l.limits _ _ (c.requires.level_lt_m, c.args.h.now.few) c.args.h.now.has_lines c.three-s.ensures

pub rediscretized_stretches-stretches-requires-clause-tame : goal.rediscretized_stretches-stretches-requires-clause-tame
rediscretized_stretches-stretches-requires-clause-tame c = level_tame _ c.args.h.now.l.limits _ _ (c.requires.level_lt_m, c.args.h.now.few) c.args.h.now.has_lines c.three-s.ensures

pub invariant_of-own : goal.invariant_of-own
invariant_of-own c = record { limits = (volumes_asked _ c.args.h.now.l.limits _ (lattice_at_lem _ c.args.h.now.l.limits _ c.if-level-eq0.false (level_three _ c.args.h.now.l.limits _ _ (c.requires.level_lt_m, c.args.h.now.few) c.args.h.now.has_lines c.three-s.ensures) (own_lattice _ _ _ _ c.rediscretized_lattice.ensures c.rediscretized_stretches-stretches.ensures.result_value)) c.args.scaling.now c.args.k c.requires.k_bound).0 }

pub volumes-requires-2 : goal.volumes-requires-2
volumes-requires-2 c = (volumes_asked _ c.args.h.now.l.limits _ (lattice_at_lem _ c.args.h.now.l.limits _ c.if-level-eq0.false (level_three _ c.args.h.now.l.limits _ _ (c.requires.level_lt_m, c.args.h.now.few) c.args.h.now.has_lines c.three-s.ensures) (own_lattice _ _ _ _ c.rediscretized_lattice.ensures c.rediscretized_stretches-stretches.ensures.result_value)) c.args.scaling.now c.args.k c.requires.k_bound).1

pub returns : goal.returns
returns c = volumes_left _ c.args.h.now.l.limits _ (lattice_at_lem _ c.args.h.now.l.limits _ c.if-level-eq0.false (level_three _ c.args.h.now.l.limits _ _ (c.requires.level_lt_m, c.args.h.now.few) c.args.h.now.has_lines c.three-s.ensures) (own_lattice _ _ _ _ c.rediscretized_lattice.ensures c.rediscretized_stretches-stretches.ensures.result_value)) c.args.k (c.volumes-2.ensures.scaling_after, c.volumes-2.ensures.value)
