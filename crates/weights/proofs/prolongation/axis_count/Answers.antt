use native.Mathlib.Omega.{arith}
use mathlib.Core.Path.{◌∙◌}
use Rattle.weights.proofs.CountLaws.{slots_room, axis_sum, axis_most}
use Rattle.weights.proofs.prolongation.axis_count.Goals as goal

pub overflow_add-first : goal.overflow_add-first
overflow_add-first c = omega (arith, slots_room c.requires.counts_of c.args.c c.args.a c.args.n c.slot-first.ensures c.requires.a_bound.0 c.requires.a_bound.1, c.requires.counts_of.long)

pub offset_bounds-ns-first : goal.offset_bounds-ns-first
offset_bounds-ns-first c = omega (arith, slots_room c.requires.counts_of c.args.c c.args.a c.args.n c.slot-first.ensures c.requires.a_bound.0 c.requires.a_bound.1, c.requires.counts_of.long)

pub slice_bounds-total-end : goal.slice_bounds-total-end
slice_bounds-total-end c = slots_room c.requires.counts_of c.args.c c.args.a c.args.n c.slot-first.ensures c.requires.a_bound.0 c.requires.a_bound.1

pub total-requires : goal.total-requires
total-requires c = omega (arith, axis_sum c.requires.counts_of c.args.c c.args.a c.args.n c.slot-first.ensures c.requires.a_bound.0 c.requires.a_bound.1, axis_most c.requires.counts_of c.args.c c.args.a c.args.n c.slot-first.ensures c.requires.a_bound.0 c.requires.a_bound.1)

pub returns : goal.returns
returns c =
    let e = c.total.ensures ∙ axis_sum c.requires.counts_of c.args.c c.args.a c.args.n c.slot-first.ensures c.requires.a_bound.0 c.requires.a_bound.1 in
    (e, omega (arith, e, axis_most c.requires.counts_of c.args.c c.args.a c.args.n c.slot-first.ensures c.requires.a_bound.0 c.requires.a_bound.1))
