use Rattle.lattice.specs.Curls.{ahead}
use Rattle.numbers.proofs.TermLaws.{wrote_append}
use Rattle.lattice.proofs.RowLaws.{with_in}
use Rattle.lattice.proofs.curls.ahead.Goals as goal

pub neighbour-to-requires : goal.neighbour-to-requires
neighbour-to-requires c = with_in c.requires.inside c.requires.field_bound c.with_component.ensures

pub returns : goal.returns
unfolding ahead
returns c =
    rw (
      ← c.half_weight-w.ensures,
      ← c.with_component.ensures,
      ← c.neighbour-to.ensures,
      ← c.neg.ensures,
    )
    (wrote_append c.push_to-k1.ensures
    c.push_here.ensures)
