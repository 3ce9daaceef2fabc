use native.Mathlib.Omega.{arith}
use Rattle.lattice.specs.Curls.{behind}
use Rattle.numbers.proofs.TermLaws.{wrote_append, wrote_most}
use Rattle.lattice.proofs.RowLaws.{with_in, here_most}
use Rattle.lattice.proofs.curls.behind.Goals as goal

pub neighbour-to-requires : goal.neighbour-to-requires
neighbour-to-requires c = with_in c.requires.inside c.requires.field_bound c.with_component.ensures

pub push_to-requires : goal.push_to-requires
push_to-requires c =
    omega (arith, wrote_most c.push_here-k1.ensures (here_most _ _ _ _))

pub returns : goal.returns
unfolding behind
returns c =
    rw (
      ← c.node_weight-w.ensures,
      ← c.with_component.ensures,
      ← c.neighbour-to.ensures,
      ← c.neg.ensures,
    )
    (wrote_append c.push_here-k1.ensures
    c.push_to.ensures)
