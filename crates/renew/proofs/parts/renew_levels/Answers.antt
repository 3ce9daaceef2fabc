use Rattle.store.specs.declared.change.Standing.{Standing}
use Rattle.store.specs.Hierarchy.{the_lattice}
use Rattle.std.proofs.lemmas.Result.{err_from_is_err_and}
use native.Mathlib.Omega.{arith}
use Prim.Native.Nat.{suc, ◌+◌, ◌<◌}
use mathlib.Core.Path.{◌≡◌, refl, ap}
use Rattle.store.specs.Lists.{fixed_of}
use Rattle.store.proofs.LevelParts.{room_long, starts_there, forward_count_lem, fine_next, levels_none, levels_next, levels_stop, levels_end}
use Rattle.renew.proofs.SameLaws.{same_self, same_then, long_self, long_then}
use Rattle.renew.proofs.parts.renew_levels.Goals as goal

pub first_standing-w-requires : goal.first_standing-w-requires
first_standing-w-requires c = c.requires.m_nonzero

pub loop-level-init : goal.loop-level-init
loop-level-init c = (omega arith, (c.first_standing-w.ensures, (refl, ((same_self, long_self), levels_none (fixed_of c.args.s.now) c.args.flags.now c.requires.m_nonzero))))

pub renew_level-requires-clause-level_lt_m : goal.renew_level-requires-clause-level_lt_m
renew_level-requires-clause-level_lt_m c = omega arith

pub renew_level-requires-clause-w_value : goal.renew_level-requires-clause-w_value
renew_level-requires-clause-w_value c = (c.loop-level.invariant.1.1.0, c.loop-level.invariant.1.0)

pub renew_level-requires-clause-five_room : goal.renew_level-requires-clause-five_room
renew_level-requires-clause-five_room c = let s = c.loop-level.invariant.1.1.1.0.1 in room_long c.requires.five_room (s.e_long, s.f_long, s.t_long, s.o_long, s.c_long)

pub returns-in_err-renew_level : goal.returns-in_err-renew_level
returns-in_err-renew_level c =
    let h : c.loop-level.level < c.args.h.now.m = omega arith in
    let p = err_from_is_err_and c.from_residual.result c.from_residual.ensures.1 in
    rw (p.1, p.2) (record { same = same_then c.loop-level.invariant.1.1.1.0.0 c.in_err-renew_level.ensures.same; long = long_then c.loop-level.invariant.1.1.1.0.1 c.in_err-renew_level.ensures.long; renewed = levels_stop (fixed_of c.args.s.now) c.args.flags.now c.loop-level.level h (omega arith) c.loop-level.invariant.1.1.1.1 c.in_err-renew_level.ensures.renewed })

pub next_standing-w-requires-clause-forward_starts : goal.next_standing-w-requires-clause-forward_starts
next_standing-w-requires-clause-forward_starts c =
    let h : c.loop-level.level < c.args.h.now.m = omega arith in
    forward_count_lem c.requires.shaped h (ap (λ (s : Standing). s.o) c.loop-level.invariant.1.0)

pub next_standing-w-requires-clause-level_lt_m : goal.next_standing-w-requires-clause-level_lt_m
next_standing-w-requires-clause-level_lt_m c = omega arith

pub next_standing-w-requires-clause-w_value : goal.next_standing-w-requires-clause-w_value
next_standing-w-requires-clause-w_value c = c.loop-level.invariant.1.0

pub next_standing-w-requires-clause-operator_starts : goal.next_standing-w-requires-clause-operator_starts
next_standing-w-requires-clause-operator_starts c = starts_there (the_lattice c.args.h.now) c.args.choice c.args.h.now.m (fixed_of c.args.s.now) c.requires.shaped c.loop-level.level (omega arith) c.loop-level.invariant.1.0

pub loop-level-smaller : goal.loop-level-smaller
loop-level-smaller c = omega (arith, c.loop-level-test.true)

pub loop-level-preserved : goal.loop-level-preserved
loop-level-preserved c =
    let z : c.loop-level.level + 1 ≡ suc c.loop-level.level = omega arith in
    (omega (arith, c.loop-level-test.true), (rw z c.next_standing-w.ensures, (fine_next (the_lattice c.args.h.now) c.args.choice c.args.h.now.m c.loop-level.level c.loop-level.invariant.1.0, ((same_then c.loop-level.invariant.1.1.1.0.0 c.in_ok-renew_level.ensures.same, long_then c.loop-level.invariant.1.1.1.0.1 c.in_ok-renew_level.ensures.long), levels_next (fixed_of c.args.s.now) c.args.flags.now c.loop-level.level (omega arith) c.loop-level.invariant.1.1.1.1 c.in_ok-renew_level.ensures.renewed))))

pub returns-clause-same : goal.returns-clause-same
returns-clause-same c = c.loop-level.invariant.1.1.1.0.0

pub returns-clause-long : goal.returns-clause-long
returns-clause-long c = c.loop-level.invariant.1.1.1.0.1

pub returns-clause-renewed : goal.returns-clause-renewed
returns-clause-renewed c = levels_end (fixed_of c.args.s.now) c.args.flags.now c.loop-level.level c.loop-level.invariant.0 (omega arith) c.loop-level.invariant.1.1.1.1
