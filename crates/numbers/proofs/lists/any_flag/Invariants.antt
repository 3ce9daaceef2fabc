-- `numbers::lists::any_flag` meets its contract. The invariant (`Unflagged`): the rest has a flag just where the whole has one.
use Rattle.numbers.specs.Lists.{entry_at}
use Rattle.numbers.proofs.FlagLaws.{Unflagged}
use Rattle.numbers.proofs.lists.any_flag.Given as goal

abbrev pub invariant-loop-c : goal.invariant-loop-c
invariant-loop-c l = Unflagged l.flags (entry_at l.columns) l.k l.n l.c-index
