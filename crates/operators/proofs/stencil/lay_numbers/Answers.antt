use native.Mathlib.Omega.{arith}
use Rattle.numbers.proofs.ListLaws.{laying_start, laying_turn, laying_end, laying_most}
use Rattle.numbers.proofs.ElementLaws.{rows_alone}
use Rattle.operators.proofs.stencil.lay_numbers.Goals as goal

pub loop-m-init : goal.loop-m-init
loop-m-init c = laying_start

pub push-next-requires : goal.push-next-requires
push-next-requires c = omega (arith, laying_most 1 c.loop-m.invariant (λ r l. omega arith), c.loop-m.invariant.high)

pub loop-m-preserved : goal.loop-m-preserved
loop-m-preserved c = laying_turn c.loop-m.invariant (omega arith) (rw c.get.ensures at c.push-next.ensures)

pub returns-clause-values_after : goal.returns-clause-values_after
returns-clause-values_after c = (rw rows_alone at (laying_end c.loop-m.invariant (omega arith))).list
