-- `renew::parts::weight_parts` meets its contract.
-- Assumes nothing.
use Rattle.store.specs.Hierarchy.{the_lattice}
use Rattle.std.proofs.lemmas.Result.{err_from_is_err_and}
use mathlib.Core.Path.{refl}
use native.Mathlib.Omega.{arith}
use Rattle.store.proofs.LevelParts.{flags_2, flags_3, base_small, only_small, turned_long, weights_stop, weights_both}
use borrow.Author.Rules.{rules}
use Rattle.renew.proofs.parts.weight_parts.Goals as goal

pub overflow_add-b : goal.overflow_add-b
overflow_add-b c = let s = base_small (the_lattice c.args.h.now) c.args.h.now.l.limits c.args.choice c.args.h.now.m c.args.level (c.requires.level_lt_m, c.args.h.now.few) c.requires.w_value c.args.flags.now c.requires.m_bound c.edges-n.ensures c.edges-c.ensures in let d = only_small c.args.choice s.2 c.only-d.ensures in omega (arith, s.0, s.1, s.2, d)

pub overflow_add-b-2 : goal.overflow_add-b-2
overflow_add-b-2 c = let s = base_small (the_lattice c.args.h.now) c.args.h.now.l.limits c.args.choice c.args.h.now.m c.args.level (c.requires.level_lt_m, c.args.h.now.few) c.requires.w_value c.args.flags.now c.requires.m_bound c.edges-n.ensures c.edges-c.ensures in let d = only_small c.args.choice s.2 c.only-d.ensures in omega (arith, s.0, s.1, s.2, d)

pub forward_part-requires-clause-part_flags : goal.forward_part-requires-clause-part_flags
forward_part-requires-clause-part_flags c = flags_2 (the_lattice c.args.h.now) c.args.h.now.l.limits c.args.choice c.args.h.now.m c.args.level (c.requires.level_lt_m, c.args.h.now.few) c.requires.w_value c.args.flags.now c.requires.m_bound c.edges-n.ensures c.edges-c.ensures c.only-d.ensures

pub forward_part-requires-clause-m_in_bounds : goal.forward_part-requires-clause-m_in_bounds
forward_part-requires-clause-m_in_bounds c = (c.requires.weight_room.e_room, c.requires.weight_room.f_room)

pub returns-in_err-forward_part : goal.returns-in_err-forward_part
returns-in_err-forward_part c =
    let p = err_from_is_err_and c.from_residual.result c.from_residual.ensures.1 in
    rw (p.1, p.2) (weights_stop c.args.level c.args.flags.now (λ q. omega (arith, q)) c.in_err-forward_part.ensures)

pub overflow_add-b-3 : goal.overflow_add-b-3
overflow_add-b-3 c = let s = base_small (the_lattice c.args.h.now) c.args.h.now.l.limits c.args.choice c.args.h.now.m c.args.level (c.requires.level_lt_m, c.args.h.now.few) c.requires.w_value c.args.flags.now c.requires.m_bound c.edges-n.ensures c.edges-c.ensures in let d = only_small c.args.choice s.2 c.only-d.ensures in omega (arith, s.0, s.1, s.2, d)

pub turned_part-requires-clause-turned_ready : goal.turned_part-requires-clause-turned_ready
turned_part-requires-clause-turned_ready c = turned_long c.requires.turned_ready (search rules)

pub turned_part-requires-clause-part_flags : goal.turned_part-requires-clause-part_flags
turned_part-requires-clause-part_flags c = flags_3 (the_lattice c.args.h.now) c.args.h.now.l.limits c.args.choice c.args.h.now.m c.args.level (c.requires.level_lt_m, c.args.h.now.few) c.requires.w_value c.args.flags.now c.requires.m_bound c.edges-n.ensures c.edges-c.ensures c.only-d.ensures

pub returns : goal.returns
returns c = weights_both c.args.level c.args.flags.now refl c.in_ok-forward_part.ensures c.turned_part.ensures
