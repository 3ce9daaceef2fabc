use native.Mathlib.Omega.{arith}
use Rattle.operators.proofs.TableLaws.{filling_start, filling_turn, filling_end}
use Rattle.operators.proofs.base.fill_relation.Goals as goal

pub loop-i-init : goal.loop-i-init
loop-i-init c = (omega arith, filling_start)

pub loop-i-preserved : goal.loop-i-preserved
loop-i-preserved c = (omega arith, filling_turn c.loop-i.invariant.1 c.loop-i-test.true c.base_word.ensures)

pub returns : goal.returns
returns c = filling_end c.loop-i.invariant.1 c.loop-i-test.false
