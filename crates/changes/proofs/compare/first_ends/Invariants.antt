-- `changes::compare::first_ends` meets its contract. The lines before line q have passed.
-- Assumes nothing.
use Rattle.store.specs.Hierarchy.{the_lattice}
use Rattle.store.proofs.CompareLaws.{EndsGoing}
use Rattle.changes.proofs.compare.first_ends.Given as goal

abbrev pub invariant-loop-q : goal.invariant-loop-q
invariant-loop-q l = EndsGoing (the_lattice l.fn.h) l.fn.h.m l.fn.ends l.next l.q
