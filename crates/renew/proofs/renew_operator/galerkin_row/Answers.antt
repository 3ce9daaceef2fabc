-- `renew::renew_operator::galerkin_row` meets its contract.
-- Assumes nothing.
use native.Mathlib.Omega.{arith}
use Rattle.store.specs.Lists.{fixed_of}
use Rattle.store.proofs.GalerkinRows.{galerkin_asked, reads_in, starts_small, count_rises, place_small, numbers_asked, galerkin_left_lem, galerkin_taken}
use mathlib.Core.Path.{ap}
use mathlib.Core.Bool.{not}
use Rattle.renew.proofs.renew_operator.galerkin_row.Goals as goal

pub returns-then-not-flag-clause-sums_after : goal.returns-then-not-flag-clause-sums_after
returns-then-not-flag-clause-sums_after c = c.requires.sums_value

pub returns-then-not-flag-clause-galerkin_taken : goal.returns-then-not-flag-clause-galerkin_taken
returns-then-not-flag-clause-galerkin_taken c = galerkin_left_lem _ _ (fixed_of c.args.s.now) c.requires.shaped c.args.eps.now c.args.values.now c.args.tvalues.now c.args.ovalues.now c.requires.five_room c.args.level c.requires.level_lt_m c.args.fine c.requires.galerkin_places.fine_is c.requires.galerkin_places c.args.c c.requires.c_bound.0 c.args.flags.now c.args.q c.flag.ensures (ap not c.if-not-flag.true)

pub galerkin_row-requires-clause-turned_given : goal.galerkin_row-requires-clause-turned_given
galerkin_row-requires-clause-turned_given c = (galerkin_asked _ _ (fixed_of c.args.s.now) c.requires.shaped c.args.eps.now c.args.values.now c.args.tvalues.now c.args.ovalues.now c.requires.five_room c.args.level c.requires.level_lt_m c.args.fine c.requires.galerkin_places.fine_is c.requires.galerkin_places c.args.c c.requires.c_bound.0 _ c.requires.sums_value).0

pub galerkin_row-requires-clause-row_ready : goal.galerkin_row-requires-clause-row_ready
galerkin_row-requires-clause-row_ready c = (galerkin_asked _ _ (fixed_of c.args.s.now) c.requires.shaped c.args.eps.now c.args.values.now c.args.tvalues.now c.args.ovalues.now c.requires.five_room c.args.level c.requires.level_lt_m c.args.fine c.requires.galerkin_places.fine_is c.requires.galerkin_places c.args.c c.requires.c_bound.0 _ c.requires.sums_value).1.0

pub galerkin_row-requires-clause-sums_value : goal.galerkin_row-requires-clause-sums_value
galerkin_row-requires-clause-sums_value c = (galerkin_asked _ _ (fixed_of c.args.s.now) c.requires.shaped c.args.eps.now c.args.values.now c.args.tvalues.now c.args.ovalues.now c.requires.five_room c.args.level c.requires.level_lt_m c.args.fine c.requires.galerkin_places.fine_is c.requires.galerkin_places c.args.c c.requires.c_bound.0 _ c.requires.sums_value).1.1

pub overflow_add-first : goal.overflow_add-first
overflow_add-first c = omega (arith, starts_small _ _ (fixed_of c.args.s.now) c.requires.shaped c.args.eps.now c.args.values.now c.args.tvalues.now c.args.ovalues.now c.requires.five_room c.args.level c.requires.level_lt_m c.args.fine c.requires.galerkin_places.fine_is c.requires.galerkin_places c.args.c c.requires.c_bound.0)

pub offset_bounds-s-o : goal.offset_bounds-s-o
offset_bounds-s-o c = omega (arith, starts_small _ _ (fixed_of c.args.s.now) c.requires.shaped c.args.eps.now c.args.values.now c.args.tvalues.now c.args.ovalues.now c.requires.five_room c.args.level c.requires.level_lt_m c.args.fine c.requires.galerkin_places.fine_is c.requires.galerkin_places c.args.c c.requires.c_bound.0)

pub bounds-s-o : goal.bounds-s-o
bounds-s-o c = omega (arith, reads_in _ _ (fixed_of c.args.s.now) c.requires.shaped c.args.eps.now c.args.values.now c.args.tvalues.now c.args.ovalues.now c.requires.five_room c.args.level c.requires.level_lt_m c.args.fine c.requires.galerkin_places.fine_is c.requires.galerkin_places c.args.c c.requires.c_bound.0)

pub overflow_add-last : goal.overflow_add-last
overflow_add-last c = omega (arith, starts_small _ _ (fixed_of c.args.s.now) c.requires.shaped c.args.eps.now c.args.values.now c.args.tvalues.now c.args.ovalues.now c.requires.five_room c.args.level c.requires.level_lt_m c.args.fine c.requires.galerkin_places.fine_is c.requires.galerkin_places c.args.c c.requires.c_bound.0)

pub overflow_add-last-2 : goal.overflow_add-last-2
overflow_add-last-2 c = omega (arith, starts_small _ _ (fixed_of c.args.s.now) c.requires.shaped c.args.eps.now c.args.values.now c.args.tvalues.now c.args.ovalues.now c.requires.five_room c.args.level c.requires.level_lt_m c.args.fine c.requires.galerkin_places.fine_is c.requires.galerkin_places c.args.c c.requires.c_bound.0)

pub offset_bounds-s-o-2 : goal.offset_bounds-s-o-2
offset_bounds-s-o-2 c = omega (arith, starts_small _ _ (fixed_of c.args.s.now) c.requires.shaped c.args.eps.now c.args.values.now c.args.tvalues.now c.args.ovalues.now c.requires.five_room c.args.level c.requires.level_lt_m c.args.fine c.requires.galerkin_places.fine_is c.requires.galerkin_places c.args.c c.requires.c_bound.0)

pub bounds-s-o-2 : goal.bounds-s-o-2
bounds-s-o-2 c = omega (arith, reads_in _ _ (fixed_of c.args.s.now) c.requires.shaped c.args.eps.now c.args.values.now c.args.tvalues.now c.args.ovalues.now c.requires.five_room c.args.level c.requires.level_lt_m c.args.fine c.requires.galerkin_places.fine_is c.requires.galerkin_places c.args.c c.requires.c_bound.0)

pub overflow_add-o : goal.overflow_add-o
overflow_add-o c = omega (arith, place_small _ _ (fixed_of c.args.s.now) c.requires.shaped c.args.eps.now c.args.values.now c.args.tvalues.now c.args.ovalues.now c.requires.five_room c.args.level c.requires.level_lt_m c.args.fine c.requires.galerkin_places.fine_is c.requires.galerkin_places c.args.c c.requires.c_bound.0)

pub overflow_sub-last : goal.overflow_sub-last
overflow_sub-last c = omega (arith, count_rises _ _ (fixed_of c.args.s.now) c.requires.shaped c.args.eps.now c.args.values.now c.args.tvalues.now c.args.ovalues.now c.requires.five_room c.args.level c.requires.level_lt_m c.args.fine c.requires.galerkin_places.fine_is c.requires.galerkin_places c.args.c c.requires.c_bound.0)

pub finite_numbers-requires : goal.finite_numbers-requires
finite_numbers-requires c = numbers_asked _ _ (fixed_of c.args.s.now) c.requires.shaped c.args.eps.now c.args.values.now c.args.tvalues.now c.args.ovalues.now c.requires.five_room c.args.level c.requires.level_lt_m c.args.fine c.requires.galerkin_places.fine_is c.requires.galerkin_places c.args.c c.requires.c_bound.0 c.galerkin_row.ensures.ovalues_after

pub returns-clause-sums_after : goal.returns-clause-sums_after
returns-clause-sums_after c = c.galerkin_row.ensures.sums_after

pub returns-clause-galerkin_taken : goal.returns-clause-galerkin_taken
returns-clause-galerkin_taken c = galerkin_taken _ _ (fixed_of c.args.s.now) c.requires.shaped c.args.eps.now c.args.values.now c.args.tvalues.now c.args.ovalues.now c.requires.five_room c.args.level c.requires.level_lt_m c.args.fine c.requires.galerkin_places.fine_is c.requires.galerkin_places c.args.c c.requires.c_bound.0 c.args.flags.now c.args.q c.flag.ensures (ap not c.if-not-flag.false) c.galerkin_row.ensures.ovalues_after c.finite_numbers.ensures
