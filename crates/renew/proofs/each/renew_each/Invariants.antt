use Rattle.std.proofs.Common.{◌≡◌, length}
use Rattle.renew.specs.Each.{Ran}
use Rattle.renew.proofs.each.renew_each.Given as goal

abbrev pub invariant-loop-r : goal.invariant-loop-r
invariant-loop-r g l = (length l.list ≡ length l.initial.list) × Ran g.F.Fn l.step l.flags l.base l.r l.initial.list l.list
