-- `store::galerkin_levels::operators` meets its contract.
-- Assumes nothing.
use Rattle.store.specs.Hierarchy.{the_lattice}
use Rattle.store.specs.Phases.{level_code}
use Rattle.store.proofs.OperatorLaws.{Growing}
use Rattle.store.proofs.galerkin_levels.operators.Given as goal

abbrev pub invariant-loop-level : goal.invariant-loop-level
invariant-loop-level l =
    Growing (the_lattice l.h) l.h.m l.eps l.rows.starts.now l.rows.columns.now l.rows.values.now l.rows.tstarts.now l.rows.tcolumns.now l.rows.tvalues.now l.initial.ostarts l.initial.ocolumns l.initial.ovalues l.ostarts l.ocolumns l.ovalues l.u l.o l.fine l.q (level_code l.bad) l.level
