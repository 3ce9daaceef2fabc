-- `renew::parts::next_standing` meets its contract.
-- Assumes nothing.
use Rattle.store.specs.Hierarchy.{the_lattice}
use native.Mathlib.Omega.{arith}
use Rattle.store.proofs.LevelParts.{only_small, edges_small, place_small, starts_small, standing_next}
use Rattle.renew.proofs.parts.next_standing.Goals as goal

pub overflow_mul-base : goal.overflow_mul-base
overflow_mul-base c = let s = edges_small (the_lattice c.args.h.now) c.args.h.now.l.limits c.args.choice c.args.h.now.m c.args.level (c.requires.level_lt_m, c.args.h.now.few) c.requires.w_value c.requires.operator_starts c.edges-n.ensures c.edges-c.ensures in let t = place_small (the_lattice c.args.h.now) c.args.h.now.l.limits c.args.choice c.args.h.now.m c.args.level (c.requires.level_lt_m, c.args.h.now.few) c.requires.w_value c.requires.operator_starts c.edges-n.ensures c.edges-c.ensures in let d = only_small c.args.choice s.0 c.only-d.ensures in let e = only_small c.args.choice s.1 c.only-e.ensures in omega (arith, s.0, s.1, t.0, t.1, t.2, d, e)

pub overflow_add-base : goal.overflow_add-base
overflow_add-base c = let s = edges_small (the_lattice c.args.h.now) c.args.h.now.l.limits c.args.choice c.args.h.now.m c.args.level (c.requires.level_lt_m, c.args.h.now.few) c.requires.w_value c.requires.operator_starts c.edges-n.ensures c.edges-c.ensures in let t = place_small (the_lattice c.args.h.now) c.args.h.now.l.limits c.args.choice c.args.h.now.m c.args.level (c.requires.level_lt_m, c.args.h.now.few) c.requires.w_value c.requires.operator_starts c.edges-n.ensures c.edges-c.ensures in let d = only_small c.args.choice s.0 c.only-d.ensures in let e = only_small c.args.choice s.1 c.only-e.ensures in omega (arith, s.0, s.1, t.0, t.1, t.2, d, e)

pub overflow_mul-base-2 : goal.overflow_mul-base-2
overflow_mul-base-2 c = let s = edges_small (the_lattice c.args.h.now) c.args.h.now.l.limits c.args.choice c.args.h.now.m c.args.level (c.requires.level_lt_m, c.args.h.now.few) c.requires.w_value c.requires.operator_starts c.edges-n.ensures c.edges-c.ensures in let t = place_small (the_lattice c.args.h.now) c.args.h.now.l.limits c.args.choice c.args.h.now.m c.args.level (c.requires.level_lt_m, c.args.h.now.few) c.requires.w_value c.requires.operator_starts c.edges-n.ensures c.edges-c.ensures in let d = only_small c.args.choice s.0 c.only-d.ensures in let e = only_small c.args.choice s.1 c.only-e.ensures in omega (arith, s.0, s.1, t.0, t.1, t.2, d, e)

pub overflow_add-base-2 : goal.overflow_add-base-2
overflow_add-base-2 c = let s = edges_small (the_lattice c.args.h.now) c.args.h.now.l.limits c.args.choice c.args.h.now.m c.args.level (c.requires.level_lt_m, c.args.h.now.few) c.requires.w_value c.requires.operator_starts c.edges-n.ensures c.edges-c.ensures in let t = place_small (the_lattice c.args.h.now) c.args.h.now.l.limits c.args.choice c.args.h.now.m c.args.level (c.requires.level_lt_m, c.args.h.now.few) c.requires.w_value c.requires.operator_starts c.edges-n.ensures c.edges-c.ensures in let d = only_small c.args.choice s.0 c.only-d.ensures in let e = only_small c.args.choice s.1 c.only-e.ensures in omega (arith, s.0, s.1, t.0, t.1, t.2, d, e)

pub overflow_add-base-3 : goal.overflow_add-base-3
overflow_add-base-3 c = let s = edges_small (the_lattice c.args.h.now) c.args.h.now.l.limits c.args.choice c.args.h.now.m c.args.level (c.requires.level_lt_m, c.args.h.now.few) c.requires.w_value c.requires.operator_starts c.edges-n.ensures c.edges-c.ensures in let t = place_small (the_lattice c.args.h.now) c.args.h.now.l.limits c.args.choice c.args.h.now.m c.args.level (c.requires.level_lt_m, c.args.h.now.few) c.requires.w_value c.requires.operator_starts c.edges-n.ensures c.edges-c.ensures in let d = only_small c.args.choice s.0 c.only-d.ensures in let e = only_small c.args.choice s.1 c.only-e.ensures in omega (arith, s.0, s.1, t.0, t.1, t.2, d, e)

pub overflow_add-base-4 : goal.overflow_add-base-4
overflow_add-base-4 c = let s = edges_small (the_lattice c.args.h.now) c.args.h.now.l.limits c.args.choice c.args.h.now.m c.args.level (c.requires.level_lt_m, c.args.h.now.few) c.requires.w_value c.requires.operator_starts c.edges-n.ensures c.edges-c.ensures in let t = place_small (the_lattice c.args.h.now) c.args.h.now.l.limits c.args.choice c.args.h.now.m c.args.level (c.requires.level_lt_m, c.args.h.now.few) c.requires.w_value c.requires.operator_starts c.edges-n.ensures c.edges-c.ensures in let d = only_small c.args.choice s.0 c.only-d.ensures in let e = only_small c.args.choice s.1 c.only-e.ensures in omega (arith, s.0, s.1, t.0, t.1, t.2, d, e)

pub overflow_add-to : goal.overflow_add-to
overflow_add-to c = let s = edges_small (the_lattice c.args.h.now) c.args.h.now.l.limits c.args.choice c.args.h.now.m c.args.level (c.requires.level_lt_m, c.args.h.now.few) c.requires.w_value c.requires.operator_starts c.edges-n.ensures c.edges-c.ensures in let t = place_small (the_lattice c.args.h.now) c.args.h.now.l.limits c.args.choice c.args.h.now.m c.args.level (c.requires.level_lt_m, c.args.h.now.few) c.requires.w_value c.requires.operator_starts c.edges-n.ensures c.edges-c.ensures in let d = only_small c.args.choice s.0 c.only-d.ensures in let e = only_small c.args.choice s.1 c.only-e.ensures in omega (arith, s.0, s.1, t.0, t.1, t.2, d, e)

pub overflow_add-scale : goal.overflow_add-scale
overflow_add-scale c = let s = edges_small (the_lattice c.args.h.now) c.args.h.now.l.limits c.args.choice c.args.h.now.m c.args.level (c.requires.level_lt_m, c.args.h.now.few) c.requires.w_value c.requires.operator_starts c.edges-n.ensures c.edges-c.ensures in let t = place_small (the_lattice c.args.h.now) c.args.h.now.l.limits c.args.choice c.args.h.now.m c.args.level (c.requires.level_lt_m, c.args.h.now.few) c.requires.w_value c.requires.operator_starts c.edges-n.ensures c.edges-c.ensures in let d = only_small c.args.choice s.0 c.only-d.ensures in let e = only_small c.args.choice s.1 c.only-e.ensures in omega (arith, s.0, s.1, t.0, t.1, t.2, d, e)

pub overflow_add-scale-2 : goal.overflow_add-scale-2
overflow_add-scale-2 c = let s = edges_small (the_lattice c.args.h.now) c.args.h.now.l.limits c.args.choice c.args.h.now.m c.args.level (c.requires.level_lt_m, c.args.h.now.few) c.requires.w_value c.requires.operator_starts c.edges-n.ensures c.edges-c.ensures in let t = place_small (the_lattice c.args.h.now) c.args.h.now.l.limits c.args.choice c.args.h.now.m c.args.level (c.requires.level_lt_m, c.args.h.now.few) c.requires.w_value c.requires.operator_starts c.edges-n.ensures c.edges-c.ensures in let d = only_small c.args.choice s.0 c.only-d.ensures in let e = only_small c.args.choice s.1 c.only-e.ensures in omega (arith, s.0, s.1, t.0, t.1, t.2, d, e)

pub behind-operator-requires : goal.behind-operator-requires
behind-operator-requires c = let s = starts_small (the_lattice c.args.h.now) c.args.h.now.l.limits c.args.choice c.args.h.now.m c.args.level (c.requires.level_lt_m, c.args.h.now.few) c.requires.w_value c.requires.operator_starts c.edges-n.ensures c.edges-c.ensures in (s.0, omega (arith, s.2))

pub returns : goal.returns
returns c = standing_next (the_lattice c.args.h.now) c.args.choice c.args.h.now.m c.args.level c.requires.w_value c.requires.operator_starts c.edges-n.ensures c.edges-c.ensures c.only-d.ensures c.only-e.ensures c.next_offsets-o.ensures c.behind-operator.ensures
