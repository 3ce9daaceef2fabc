-- `renew::parts::operator_parts` meets its contract.
-- Assumes nothing.
use mathlib.Core.Path.{ap}
use Rattle.store.specs.declared.change.Standing.{Standing}
use Rattle.store.specs.Hierarchy.{the_lattice}
use borrow.Author.Rules.{rules}
use native.Mathlib.Omega.{arith}
use Rattle.store.specs.Lists.{fixed_of}
use Rattle.store.proofs.LevelParts.{base_small, galerkin_ready, scaled_ready, parts_galerkin, parts_scaled}
use Rattle.renew.proofs.parts.operator_parts.Goals as goal

pub overflow_add-level : goal.overflow_add-level
overflow_add-level c = omega (arith, c.requires.level_lt_m, c.requires.shaped.few)

pub overflow_mul-b : goal.overflow_mul-b
overflow_mul-b c = let s = base_small (the_lattice c.args.h.now) c.requires.shaped.limits c.args.choice c.args.h.now.m c.args.level (c.requires.level_lt_m, c.requires.shaped.few) c.requires.w_value.1 c.args.flags.now c.requires.m_bound.0 c.edges-f.ensures c.edges-c.ensures in omega (arith, s.0, s.1, s.2)

pub overflow_add-b : goal.overflow_add-b
overflow_add-b c = let s = base_small (the_lattice c.args.h.now) c.requires.shaped.limits c.args.choice c.args.h.now.m c.args.level (c.requires.level_lt_m, c.requires.shaped.few) c.requires.w_value.1 c.args.flags.now c.requires.m_bound.0 c.edges-f.ensures c.edges-c.ensures in omega (arith, s.0, s.1, s.2)

pub overflow_add-b-in-Galerkin : goal.overflow_add-b-in-Galerkin
overflow_add-b-in-Galerkin c = let s = base_small (the_lattice c.args.h.now) c.requires.shaped.limits c.args.choice c.args.h.now.m c.args.level (c.requires.level_lt_m, c.requires.shaped.few) c.requires.w_value.1 c.args.flags.now c.requires.m_bound.0 c.edges-f.ensures c.edges-c.ensures in omega (arith, s.0, s.1, s.2)

pub galerkin_part-requires-clause-shaped : goal.galerkin_part-requires-clause-shaped
galerkin_part-requires-clause-shaped c = (galerkin_ready (the_lattice c.args.h.now) c.args.choice c.args.h.now.m (fixed_of c.args.s.now) c.requires.shaped c.args.level c.requires.level_lt_m ((ap (λ (s : Standing). s.o) c.requires.w_value.1), c.requires.w_value.0, c.requires.w_value.1) c.args.flags.now c.requires.m_bound c.requires.five_room c.in-Galerkin.is c.edges-f.ensures c.edges-c.ensures).0

pub galerkin_part-requires-clause-five_room : goal.galerkin_part-requires-clause-five_room
galerkin_part-requires-clause-five_room c = (galerkin_ready (the_lattice c.args.h.now) c.args.choice c.args.h.now.m (fixed_of c.args.s.now) c.requires.shaped c.args.level c.requires.level_lt_m ((ap (λ (s : Standing). s.o) c.requires.w_value.1), c.requires.w_value.0, c.requires.w_value.1) c.args.flags.now c.requires.m_bound c.requires.five_room c.in-Galerkin.is c.edges-f.ensures c.edges-c.ensures).1.0

pub galerkin_part-requires-clause-o_value : goal.galerkin_part-requires-clause-o_value
galerkin_part-requires-clause-o_value c = (galerkin_ready (the_lattice c.args.h.now) c.args.choice c.args.h.now.m (fixed_of c.args.s.now) c.requires.shaped c.args.level c.requires.level_lt_m ((ap (λ (s : Standing). s.o) c.requires.w_value.1), c.requires.w_value.0, c.requires.w_value.1) c.args.flags.now c.requires.m_bound c.requires.five_room c.in-Galerkin.is c.edges-f.ensures c.edges-c.ensures).1.1.0

pub galerkin_part-requires-clause-part_flags : goal.galerkin_part-requires-clause-part_flags
galerkin_part-requires-clause-part_flags c = (galerkin_ready (the_lattice c.args.h.now) c.args.choice c.args.h.now.m (fixed_of c.args.s.now) c.requires.shaped c.args.level c.requires.level_lt_m ((ap (λ (s : Standing). s.o) c.requires.w_value.1), c.requires.w_value.0, c.requires.w_value.1) c.args.flags.now c.requires.m_bound c.requires.five_room c.in-Galerkin.is c.edges-f.ensures c.edges-c.ensures).1.1.1

pub scaled_parts-requires-clause-w_value : goal.scaled_parts-requires-clause-w_value
scaled_parts-requires-clause-w_value c = (scaled_ready (the_lattice c.args.h.now) c.args.choice c.args.h.now.m (fixed_of c.args.s.now) c.requires.shaped c.args.level c.requires.level_lt_m ((ap (λ (s : Standing). s.o) c.requires.w_value.1), c.requires.w_value.0, c.requires.w_value.1) c.args.flags.now c.requires.m_bound c.requires.five_room c.in-Rediscretized.is).0.1

pub scaled_parts-requires-clause-turned_rows : goal.scaled_parts-requires-clause-turned_rows
scaled_parts-requires-clause-turned_rows c = (scaled_ready (the_lattice c.args.h.now) c.args.choice c.args.h.now.m (fixed_of c.args.s.now) c.requires.shaped c.args.level c.requires.level_lt_m ((ap (λ (s : Standing). s.o) c.requires.w_value.1), c.requires.w_value.0, c.requires.w_value.1) c.args.flags.now c.requires.m_bound c.requires.five_room c.in-Rediscretized.is).1.1.0

pub scaled_parts-requires-clause-m_in_bounds : goal.scaled_parts-requires-clause-m_in_bounds
scaled_parts-requires-clause-m_in_bounds c = (scaled_ready (the_lattice c.args.h.now) c.args.choice c.args.h.now.m (fixed_of c.args.s.now) c.requires.shaped c.args.level c.requires.level_lt_m ((ap (λ (s : Standing). s.o) c.requires.w_value.1), c.requires.w_value.0, c.requires.w_value.1) c.args.flags.now c.requires.m_bound c.requires.five_room c.in-Rediscretized.is).1.1.1

pub returns-in-Galerkin-clause-long : goal.returns-in-Galerkin-clause-long
returns-in-Galerkin-clause-long c = record { e_long = search rules; f_long = search rules; t_long = search rules; o_long = search rules; c_long = search rules }

pub returns-in-Galerkin-clause-renewed : goal.returns-in-Galerkin-clause-renewed
returns-in-Galerkin-clause-renewed c = parts_galerkin (the_lattice c.args.h.now) c.args.choice c.args.h.now.m (fixed_of c.args.s.now) c.requires.shaped c.args.level c.requires.level_lt_m ((ap (λ (s : Standing). s.o) c.requires.w_value.1), c.requires.w_value.0, c.requires.w_value.1) c.args.flags.now c.requires.m_bound c.requires.five_room c.in-Galerkin.is c.galerkin_part.ensures

pub returns-in-Rediscretized-clause-long : goal.returns-in-Rediscretized-clause-long
returns-in-Rediscretized-clause-long c = record { e_long = search rules; f_long = search rules; t_long = search rules; o_long = search rules; c_long = search rules }

pub returns-in-Rediscretized-clause-renewed : goal.returns-in-Rediscretized-clause-renewed
returns-in-Rediscretized-clause-renewed c = parts_scaled (the_lattice c.args.h.now) c.args.choice c.args.h.now.m (fixed_of c.args.s.now) c.requires.shaped c.args.level c.requires.level_lt_m ((ap (λ (s : Standing). s.o) c.requires.w_value.1), c.requires.w_value.0, c.requires.w_value.1) c.args.flags.now c.requires.m_bound c.requires.five_room c.in-Rediscretized.is c.scaled_parts.ensures
