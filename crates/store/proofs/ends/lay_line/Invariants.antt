-- `store::ends::lay_line` meets its contract. The invariant: the first ends are laid.
-- Assumes nothing.
use lib.ListN.{set}
use Rattle.numbers.specs.Lists.{entry_at}
use Rattle.numbers.proofs.ListLaws.{Laying}
use Rattle.numbers.proofs.ElementLaws.{alone}
use Rattle.store.proofs.ends.lay_line.Given as goal

abbrev pub invariant-loop-end : goal.invariant-loop-end
invariant-loop-end l = Laying set (alone (entry_at l.fn.f.ends)) l.n l.k l.initial.ends l.ends l.next l.end-index
