-- `operators::stencil::lay_numbers` meets its contract. The invariant: the first m numbers are laid.
-- Assumes nothing.
use Rattle.numbers.specs.Places.{number_at, set_number}
use Rattle.numbers.proofs.ListLaws.{Laying}
use Rattle.numbers.proofs.ElementLaws.{alone}
use Rattle.operators.proofs.stencil.lay_numbers.Given as goal

abbrev pub invariant-loop-m : goal.invariant-loop-m
invariant-loop-m l = Laying set_number (alone (number_at l.xs)) l.n l.k l.initial.values l.values l.next l.m
