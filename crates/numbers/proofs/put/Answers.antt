use mathlib.Core.Path.{sym}
use native.Mathlib.Omega.{arith}
use lib.ListN.{length-set}
use Rattle.numbers.proofs.Laws.{set_inside, set_outside}
use Rattle.numbers.proofs.put.Goals as goal

pub bounds-xs-k-then-k-xs : goal.bounds-xs-k-then-k-xs
bounds-xs-k-then-k-xs c = simp length-set (omega arith)

pub returns-then-k-xs : goal.returns-then-k-xs
returns-then-k-xs c = sym (set_inside _ _ _ c.if-k-xs.true)

pub returns-else-k-xs : goal.returns-else-k-xs
returns-else-k-xs c = sym (set_outside _ _ _ c.if-k-xs.false)
