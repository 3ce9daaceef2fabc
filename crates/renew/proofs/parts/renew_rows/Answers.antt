-- `renew::parts::renew_rows` meets its contract.
-- Assumes nothing.
use Rattle.store.specs.Hierarchy.{the_lattice}
use borrow.Author.Rules.{rules}
use native.Mathlib.Omega.{arith}
use Rattle.store.specs.Lists.{fixed_of}
use Rattle.store.proofs.LevelParts.{sole_asked, rows_sole}
use Rattle.renew.proofs.parts.renew_rows.Goals as goal

pub sole_part-requires-clause-st_in_bounds : goal.sole_part-requires-clause-st_in_bounds
sole_part-requires-clause-st_in_bounds c = (sole_asked (the_lattice c.args.h.now) c.args.choice c.args.h.now.m (fixed_of c.args.s.now) c.requires.shaped c.requires.five_room c.args.flags.now c.requires.m_bound_2 c.if-h-eq0.true).1.0

pub sole_part-requires-clause-operator_starts : goal.sole_part-requires-clause-operator_starts
sole_part-requires-clause-operator_starts c = (sole_asked (the_lattice c.args.h.now) c.args.choice c.args.h.now.m (fixed_of c.args.s.now) c.requires.shaped c.requires.five_room c.args.flags.now c.requires.m_bound_2 c.if-h-eq0.true).1.1.0

pub sole_part-requires-clause-choice_in_bounds : goal.sole_part-requires-clause-choice_in_bounds
sole_part-requires-clause-choice_in_bounds c = (sole_asked (the_lattice c.args.h.now) c.args.choice c.args.h.now.m (fixed_of c.args.s.now) c.requires.shaped c.requires.five_room c.args.flags.now c.requires.m_bound_2 c.if-h-eq0.true).1.1.1.0

pub sole_part-requires-clause-part_flags : goal.sole_part-requires-clause-part_flags
sole_part-requires-clause-part_flags c = (sole_asked (the_lattice c.args.h.now) c.args.choice c.args.h.now.m (fixed_of c.args.s.now) c.requires.shaped c.requires.five_room c.args.flags.now c.requires.m_bound_2 c.if-h-eq0.true).1.1.1.1

pub returns-then-h-eq0-clause-long : goal.returns-then-h-eq0-clause-long
returns-then-h-eq0-clause-long c = record { e_long = search rules; f_long = search rules; t_long = search rules; o_long = search rules; c_long = search rules }

pub returns-then-h-eq0-clause-renewed : goal.returns-then-h-eq0-clause-renewed
returns-then-h-eq0-clause-renewed c = rows_sole (fixed_of c.args.s.now) c.args.flags.now c.if-h-eq0.true c.sole_part.ensures

pub renew_levels-requires-clause-m_nonzero : goal.renew_levels-requires-clause-m_nonzero
renew_levels-requires-clause-m_nonzero c = omega (arith, c.if-h-eq0.false)

pub returns-clause-long : goal.returns-clause-long
returns-clause-long c = c.renew_levels.ensures.long

pub returns-clause-renewed : goal.returns-clause-renewed
returns-clause-renewed c = c.renew_levels.ensures.renewed
