use native.Mathlib.Omega.{arith}
use Rattle.lattice.specs.Curls.{gradient_of, gradient_at}
use Rattle.numbers.proofs.TermLaws.{wrote_append, wrote_most}
use Rattle.lattice.proofs.RowLaws.{at_in, with_in, free_most, to_most}
use Rattle.lattice.proofs.curls.gradient.Goals as goal

pub half_weight-w-requires-clause-inside : goal.half_weight-w-requires-clause-inside
half_weight-w-requires-clause-inside c = let i = at_in c.args.l.now.limits c.requires c.at-p.ensures in
    i

pub half_weight-w-requires-clause-axis_bound : goal.half_weight-w-requires-clause-axis_bound
half_weight-w-requires-clause-axis_bound c = let i = at_in c.args.l.now.limits c.requires c.at-p.ensures in
    i.c_in

pub neighbour-to-requires : goal.neighbour-to-requires
neighbour-to-requires c = with_in (at_in c.args.l.now.limits c.requires c.at-p.ensures) (omega arith) c.with_component.ensures

pub push_free_here-requires-clause-inside : goal.push_free_here-requires-clause-inside
push_free_here-requires-clause-inside c = at_in c.args.l.now.limits c.requires c.at-p.ensures

pub push_free_here-requires-clause-k_bound : goal.push_free_here-requires-clause-k_bound
push_free_here-requires-clause-k_bound c = omega (arith, wrote_most c.push_free_node-k.ensures (free_most _ _ (to_most c.neighbour-to.result c.half_weight-w.result)))

pub returns : goal.returns
unfolding gradient_of gradient_at
returns c =
    rw (
      ← c.at-p.ensures,
      ← c.half_weight-w.ensures,
      ← c.with_component.ensures,
      ← c.neighbour-to.ensures,
      ← c.neg.ensures,
    )
    (wrote_append c.push_free_node-k.ensures
    c.push_free_here.ensures)
