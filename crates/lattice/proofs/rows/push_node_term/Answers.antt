use lib.Ieee.{of_bits, neg}
use Rattle.lattice.specs.Rows.{node_term}
use Rattle.numbers.proofs.TermLaws.{wrote_none}
use Rattle.lattice.proofs.rows.push_node_term.Goals as goal

pub returns-then-fixed : goal.returns-then-fixed
unfolding node_term
returns-then-fixed c = rw (← c.fixed.ensures, c.if-fixed.true) wrote_none

pub returns : goal.returns
unfolding node_term of_bits neg
returns c =
    rw (
      ← c.fixed.ensures,
      c.if-fixed.false,
      ← c.mul.ensures,
      ← c.mul-w.ensures,
      ← c.get.ensures,
      ← c.mul-2.ensures,
      ← c.mul-v.ensures,
    )
    c.push.ensures
