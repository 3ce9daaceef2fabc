-- `numbers::lists::mark_each` meets its contract. The invariant: the flags of the first columns are set.
use Rattle.numbers.proofs.ElementLaws.{single}
use Rattle.numbers.proofs.MarkedLaws.{Marking}
use Rattle.numbers.proofs.lists.mark_each.Given as goal

abbrev pub invariant-loop-c : goal.invariant-loop-c
invariant-loop-c l = Marking single l.columns l.n l.initial.flags l.flags l.c-index
