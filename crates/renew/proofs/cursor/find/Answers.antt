use native.Mathlib.Omega.{arith}
use Rattle.store.proofs.CellLaws.{finding_row, finding_part, found_here, found_end}
use Rattle.renew.proofs.cursor.find.Goals as goal

pub returns-then-c-gt0 : goal.returns-then-c-gt0
returns-then-c-gt0 c = found_here c.args.w.now.fits c.loop-p.p c.loop-i.i c.flagged-c.result c.loop-i.invariant c.loop-p-test.true c.loop-i-test.true c.flagged-c.ensures c.if-c-gt0.true

pub loop-i-preserved : goal.loop-i-preserved
loop-i-preserved c = finding_row c.loop-p.p c.loop-i.i c.flagged-c.result c.loop-i.invariant c.loop-p-test.true c.loop-i-test.true c.flagged-c.ensures (omega arith)

pub loop-p-preserved : goal.loop-p-preserved
loop-p-preserved c = finding_part c.loop-p.p c.loop-i.i c.loop-i.invariant c.loop-p-test.true c.loop-i-test.false

pub returns : goal.returns
returns c = found_end c.loop-p.p c.loop-p.first c.loop-p.invariant c.loop-p-test.false
