use native.Mathlib.Omega.{arith}
use Rattle.store.proofs.ChangeLaws.{no_edge, bad_value, sound_edit}
use Rattle.changes.proofs.change.edit.Goals as goal

pub returns-then-n-edge : goal.returns-then-n-edge
returns-then-n-edge c = no_edge _ _ _ (omega arith)

pub returns-then-bad : goal.returns-then-bad
returns-then-bad c = bad_value _ _ _ (omega arith) c.bad_number-bad.ensures c.if-bad.true

pub returns : goal.returns
returns c = sound_edit _ _ _ (omega arith) c.bad_number-bad.ensures c.if-bad.false
