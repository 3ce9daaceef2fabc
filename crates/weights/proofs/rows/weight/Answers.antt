use native.Mathlib.Omega.{arith}
use Rattle.lattice.proofs.GridLaws.{index_below, unknowns_most}
use Rattle.numbers.proofs.Equations.{read_from_is}
use Rattle.weights.specs.Prolongation.{edge_at}
use Rattle.weights.specs.Tables.{weight_in}
use Rattle.weights.proofs.rows.weight.Goals as goal

pub overflow_add-s : goal.overflow_add-s
overflow_add-s c =
    omega (arith, index_below c.args.t.now.span_of.coarse_in c.requires.inside, unknowns_most c.args.t.now.span_of.coarse_in)

pub get-eps_c-requires : goal.get-eps_c-requires
get-eps_c-requires c =
    omega (arith, index_below c.args.t.now.span_of.coarse_in c.requires.inside)

pub overflow_add-s-2 : goal.overflow_add-s-2
overflow_add-s-2 c =
    omega (arith, index_below c.args.t.now.span_of.fine_in c.requires.inside_2, unknowns_most c.args.t.now.span_of.fine_in)

pub get-eps_f-requires : goal.get-eps_f-requires
get-eps_f-requires c =
    omega (arith, index_below c.args.t.now.span_of.fine_in c.requires.inside_2)

pub returns : goal.returns
unfolding weight_in edge_at
returns c =
    rw (
      read_from_is,
      read_from_is,
      c.mul-2.ensures,
      c.mul-w.ensures,
      c.mul.ensures,
      c.div.ensures,
      c.get-eps_c.ensures,
      c.get-eps_f.ensures,
      c.index.ensures,
      c.index-2.ensures,
    )
