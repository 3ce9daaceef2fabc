-- `changes::compare::coarse_operator` meets its contract. The operators up to the level have passed.
-- Assumes nothing.
use Rattle.store.specs.Hierarchy.{the_lattice}
use Rattle.store.proofs.CompareLaws.{Operators}
use Rattle.changes.proofs.compare.coarse_operator.Given as goal

abbrev pub invariant-loop-level : goal.invariant-loop-level
invariant-loop-level l =
    Operators (the_lattice l.h) l.choice l.h.m l.starts l.columns l.u l.o l.level
