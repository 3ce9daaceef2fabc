-- `operators::stencil::lay_columns` meets its contract. The invariant: the first columns are laid.
-- Assumes nothing.
use lib.ListN.{set}
use Rattle.numbers.specs.Lists.{entry_at}
use Rattle.numbers.proofs.ListLaws.{Laying}
use Rattle.numbers.proofs.ElementLaws.{alone}
use Rattle.operators.proofs.stencil.lay_columns.Given as goal

abbrev pub invariant-loop-c : goal.invariant-loop-c
invariant-loop-c l = Laying set (alone (entry_at l.cs)) l.n l.k l.initial.columns l.columns l.next l.c-index
