use Rattle.operators.proofs.GatherLaws.{row_there, count_gathered, adding_start, adding_turn, adding_end}
use Rattle.operators.specs.Galerkin.{scaled_term, forward_term, forward_terms}
use Rattle.operators.proofs.galerkin.add_fine.Goals as goal

pub loop-q-init : goal.loop-q-init
loop-q-init c = adding_start

pub add_column-requires : goal.add_column-requires
add_column-requires c = row_there c.requires.has_rows c.loop-q.invariant.low c.loop-q-test.true

pub loop-q-preserved : goal.loop-q-preserved
unfolding forward_terms forward_term scaled_term
loop-q-preserved c = adding_turn c.loop-q.invariant c.loop-q-test.true c.get-v.ensures (rw c.mul.ensures at c.add_column.ensures)

pub returns : goal.returns
returns c = count_gathered _ _ _ _ _ (adding_end c.loop-q.invariant c.loop-q-test.false)
