use Rattle.lattice.specs.Curls.{free_nodes}
use Rattle.numbers.proofs.TermLaws.{wrote_none}
use Rattle.lattice.proofs.curls.push_free_node.Goals as goal

pub returns-in_default : goal.returns-in_default
unfolding free_nodes
returns-in_default c = rw c.in_default.is wrote_none

pub returns-then-node_fixed : goal.returns-then-node_fixed
unfolding free_nodes
returns-then-node_fixed c = rw (c.in-Some.is, ← c.node_fixed.ensures, c.if-node_fixed.true) wrote_none

pub returns : goal.returns
unfolding free_nodes
returns c =
    rw (
      c.in-Some.is,
      ← c.node_fixed.ensures,
      c.if-node_fixed.false,
      ← c.mul.ensures,
    ) c.push.ensures
