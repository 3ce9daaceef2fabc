use native.Mathlib.Omega.{arith}
use Rattle.lattice.specs.Curls.{free_nodes, term_here}
use Rattle.numbers.proofs.TermLaws.{wrote_none}
use Rattle.lattice.proofs.RowLaws.{with_in}
use Rattle.lattice.proofs.curls.push_free_here.Goals as goal

pub index-here-requires-clause-inside : goal.index-here-requires-clause-inside
index-here-requires-clause-inside c = with_in c.requires.inside (omega arith) c.with_component.ensures

pub returns-then-node_fixed : goal.returns-then-node_fixed
unfolding free_nodes term_here
returns-then-node_fixed c = rw (← c.with_component.ensures, ← c.index-here.ensures, ← c.node_fixed.ensures, c.if-node_fixed.true) wrote_none

pub returns : goal.returns
unfolding free_nodes term_here
returns c =
    rw (
      ← c.with_component.ensures,
      ← c.index-here.ensures,
      ← c.node_fixed.ensures,
      c.if-node_fixed.false,
    ) c.push.ensures
