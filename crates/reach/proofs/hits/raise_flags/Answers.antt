use Rattle.store.specs.Hierarchy.{the_lattice}
use mathlib.Core.Path.{◌∙◌}
use native.Mathlib.Omega.{arith}
use Rattle.store.proofs.BitLaws.{raising_start, raising_turn, raising_room, raising_end, none_set, words_long, sole_room}
use Rattle.store.proofs.HitLaws.{parts_start, transfer_here, operator_here, ends_here}
use Rattle.reach.proofs.hits.raise_flags.Goals as goal

pub edges-first-requires : goal.edges-first-requires
edges-first-requires c = omega arith

pub sole_bits-base-requires-clause-hits_long : goal.sole_bits-base-requires-clause-hits_long
sole_bits-base-requires-clause-hits_long c = c.first_hits-hits.ensures.long

pub sole_bits-base-requires-clause-n_bound : goal.sole_bits-base-requires-clause-n_bound
sole_bits-base-requires-clause-n_bound c = sole_room _ c.args.h.now.l.limits c.edges-first.ensures c.requires.flags_value

pub loop-level-init : goal.loop-level-init
loop-level-init c = raising_start _ _ _ (parts_start (the_lattice c.args.h.now) c.args.choice c.args.h.now.m) (c.sole_bits-base.ensures.next_is (the_lattice c.args.h.now) c.args.choice c.edges-first.ensures) c.first_hits-hits.ensures.long

pub edges-n-requires : goal.edges-n-requires
edges-n-requires c = omega (arith, c.loop-level-test.true)

pub overflow_add-level : goal.overflow_add-level
overflow_add-level c = omega (arith, c.loop-level-test.true, c.args.h.now.few)

pub edges-k-requires : goal.edges-k-requires
edges-k-requires c = omega (arith, c.loop-level-test.true)

pub level_hits-requires-clause-level_lt_m : goal.level_hits-requires-clause-level_lt_m
level_hits-requires-clause-level_lt_m c = c.loop-level-test.true

pub level_hits-requires-clause-hits_long : goal.level_hits-requires-clause-hits_long
level_hits-requires-clause-hits_long c = c.loop-level.invariant.long

pub level_hits-requires-clause-transfer_held : goal.level_hits-requires-clause-transfer_held
level_hits-requires-clause-transfer_held c = transfer_here _ _ _ _ c.requires.shaped _ c.loop-level-test.true c.loop-level.invariant.parts_are

pub level_hits-requires-clause-operator_held : goal.level_hits-requires-clause-operator_held
level_hits-requires-clause-operator_held c = operator_here _ _ _ _ c.requires.shaped _ c.loop-level-test.true c.loop-level.invariant.parts_are

pub level_bits-base-requires-clause-hits_long : goal.level_bits-base-requires-clause-hits_long
level_bits-base-requires-clause-hits_long c = c.level_hits.ensures.long

pub level_bits-base-requires-clause-n_bound : goal.level_bits-base-requires-clause-n_bound
level_bits-base-requires-clause-n_bound c = raising_room _ _ _ c.loop-level.invariant c.loop-level-test.true c.args.h.now.l.limits c.args.h.now.few c.edges-n.ensures c.edges-k.ensures (c.sole_bits-base.ensures.same_long ∙ words_long c.requires.flags_value)

pub next_parts-a-requires-clause-level_lt_m : goal.next_parts-a-requires-clause-level_lt_m
next_parts-a-requires-clause-level_lt_m c = c.loop-level-test.true

pub next_parts-a-requires-clause-a_value : goal.next_parts-a-requires-clause-a_value
next_parts-a-requires-clause-a_value c = c.loop-level.invariant.parts_are

pub next_parts-a-requires-clause-level_ends : goal.next_parts-a-requires-clause-level_ends
next_parts-a-requires-clause-level_ends c = ends_here _ _ _ _ c.requires.shaped _ c.loop-level-test.true c.loop-level.invariant.parts_are

pub loop-level-smaller : goal.loop-level-smaller
loop-level-smaller c = omega (arith, c.loop-level-test.true)

pub loop-level-preserved : goal.loop-level-preserved
loop-level-preserved c = raising_turn _ _ _ c.loop-level.invariant c.loop-level-test.true c.edges-n.ensures c.edges-k.ensures c.level_hits.ensures c.level_bits-base.ensures c.next_parts-a.ensures

pub returns : goal.returns
returns c = raising_end _ _ _ c.args.h.now.l.limits c.args.h.now.few c.loop-level.invariant c.loop-level-test.false (c.sole_bits-base.ensures.same_long ∙ words_long c.requires.flags_value) c.args.edge c.first_hits-hits.ensures (c.sole_bits-base.ensures.marked _ _ c.edges-first.ensures c.args.edge c.first_hits-hits.ensures.sole_are (none_set c.requires.flags_value))
