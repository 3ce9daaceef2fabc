use native.Mathlib.Omega.{arith}
use Rattle.lattice.specs.Line.{ends_of}
use Rattle.lattice.proofs.LineLaws.{length_ends, numbered_start, numbered_turn, numbered_end}
use Rattle.lattice.proofs.line.nodes_of.Goals as goal

pub loop-m-init : goal.loop-m-init
loop-m-init c = (omega arith, numbered_start)

pub before_from-q-requires-clause-by_index : goal.before_from-q-requires-clause-by_index
unfolding ends_of
before_from-q-requires-clause-by_index c = c.loop-m.invariant.1.below (omega (arith, length_ends c.args.coarse c.requires.held_2))

pub loop-m-preserved : goal.loop-m-preserved
unfolding ends_of
loop-m-preserved c =
    let e = length_ends c.args.coarse c.requires.held_2 in
    (omega arith, numbered_turn c.requires.held c.requires.held_2 c.requires.rises c.loop-m.invariant.1 (omega arith) c.before_from-q.ensures)

pub returns : goal.returns
unfolding ends_of
returns c = numbered_end c.requires.held_2 c.loop-m.invariant.1 (omega (arith, length_ends c.args.coarse c.requires.held_2))
