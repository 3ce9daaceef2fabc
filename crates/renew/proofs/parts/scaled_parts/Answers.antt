-- `renew::parts::scaled_parts` meets its contract.
-- Assumes nothing.
use Rattle.store.specs.Hierarchy.{the_lattice}
use Rattle.std.proofs.lemmas.Result.{err_from_is_err_and}
use mathlib.Core.Path.{refl}
use native.Mathlib.Omega.{arith}
use mathlib.Core.Path.{ap}
use Rattle.store.specs.declared.Choice.TheVariants.{Rediscretized}
use Rattle.store.specs.declared.change.Standing.{Standing}
use Rattle.store.proofs.LevelParts.{flags_5, flags_6, base_small, scaled_stop, scaled_both}
use Rattle.renew.proofs.parts.scaled_parts.Goals as goal

pub overflow_mul-b : goal.overflow_mul-b
overflow_mul-b c = let s = base_small (the_lattice c.args.h.now) c.args.h.now.l.limits Rediscretized c.args.h.now.m c.args.level (c.requires.level_lt_m, c.args.h.now.few) c.requires.w_value c.args.flags.now c.requires.m_bound.0 c.edges-n.ensures c.edges-c.ensures in omega (arith, s.0, s.1, s.2)

pub overflow_mul-b-2 : goal.overflow_mul-b-2
overflow_mul-b-2 c = let s = base_small (the_lattice c.args.h.now) c.args.h.now.l.limits Rediscretized c.args.h.now.m c.args.level (c.requires.level_lt_m, c.args.h.now.few) c.requires.w_value c.args.flags.now c.requires.m_bound.0 c.edges-n.ensures c.edges-c.ensures in omega (arith, s.0, s.1, s.2)

pub overflow_add-b : goal.overflow_add-b
overflow_add-b c = let s = base_small (the_lattice c.args.h.now) c.args.h.now.l.limits Rediscretized c.args.h.now.m c.args.level (c.requires.level_lt_m, c.args.h.now.few) c.requires.w_value c.args.flags.now c.requires.m_bound.0 c.edges-n.ensures c.edges-c.ensures in omega (arith, s.0, s.1, s.2)

pub overflow_add-b-2 : goal.overflow_add-b-2
overflow_add-b-2 c = let s = base_small (the_lattice c.args.h.now) c.args.h.now.l.limits Rediscretized c.args.h.now.m c.args.level (c.requires.level_lt_m, c.args.h.now.few) c.requires.w_value c.args.flags.now c.requires.m_bound.0 c.edges-n.ensures c.edges-c.ensures in omega (arith, s.0, s.1, s.2)

pub share_part-requires-clause-o_value : goal.share_part-requires-clause-o_value
share_part-requires-clause-o_value c = ((ap (λ (s : Standing). s.o) c.requires.w_value), ap (λ (s : Standing). s.scale) c.requires.w_value)

pub share_part-requires-clause-part_flags : goal.share_part-requires-clause-part_flags
share_part-requires-clause-part_flags c = flags_5 (the_lattice c.args.h.now) c.args.h.now.l.limits c.args.h.now.m c.args.level (c.requires.level_lt_m, c.args.h.now.few) c.requires.w_value c.args.flags.now c.requires.m_bound.0 c.edges-c.ensures c.edges-n.ensures

pub returns-in_err-share_part : goal.returns-in_err-share_part
returns-in_err-share_part c =
    let p = err_from_is_err_and c.from_residual.result c.from_residual.ensures.1 in
    rw (p.1, p.2) (scaled_stop c.args.level c.requires.level_lt_m c.args.flags.now c.requires.m_bound.1 (λ q. omega (arith, q)) c.in_err-share_part.ensures)

pub overflow_add-b-3 : goal.overflow_add-b-3
overflow_add-b-3 c = let s = base_small (the_lattice c.args.h.now) c.args.h.now.l.limits Rediscretized c.args.h.now.m c.args.level (c.requires.level_lt_m, c.args.h.now.few) c.requires.w_value c.args.flags.now c.requires.m_bound.0 c.edges-n.ensures c.edges-c.ensures in omega (arith, s.0, s.1, s.2)

pub stencil_part-requires-clause-from_value : goal.stencil_part-requires-clause-from_value
stencil_part-requires-clause-from_value c = (ap (λ (s : Standing). s.to) c.requires.w_value, c.requires.m_in_bounds.0)

pub stencil_part-requires-clause-part_flags : goal.stencil_part-requires-clause-part_flags
stencil_part-requires-clause-part_flags c = flags_6 (the_lattice c.args.h.now) c.args.h.now.l.limits c.args.h.now.m c.args.level (c.requires.level_lt_m, c.args.h.now.few) c.requires.w_value c.args.flags.now c.requires.m_bound.0 c.edges-c.ensures c.edges-n.ensures

pub returns : goal.returns
returns c = scaled_both c.args.level c.requires.level_lt_m c.args.flags.now c.requires.m_bound.1 refl c.in_ok-share_part.ensures c.stencil_part.ensures
