-- `changes::compare::first_transfer` meets its contract. The transfers before the level have passed.
-- Assumes nothing.
use Rattle.store.specs.Hierarchy.{the_lattice}
use Rattle.store.proofs.CompareLaws.{Transfers}
use Rattle.changes.proofs.compare.first_transfer.Given as goal

abbrev pub invariant-loop-level : goal.invariant-loop-level
invariant-loop-level l =
    Transfers (the_lattice l.h) l.h.m l.s.starts.now l.s.columns.now l.s.tstarts.now l.s.tcolumns.now l.o l.t l.level
