-- `store::transfers::transfers` meets its contract.
-- Assumes nothing.
use Rattle.store.specs.Hierarchy.{the_lattice}
use Rattle.numbers.specs.Places.{number_at}
use Rattle.store.specs.Phases.{level_code}
use Rattle.store.proofs.TransferLaws.{Moving}
use Rattle.store.proofs.transfers.transfers.Given as goal

abbrev pub invariant-loop-level : goal.invariant-loop-level
invariant-loop-level l =
    Moving (the_lattice l.h) (number_at l.given) l.h.m l.initial.eps l.initial.starts l.initial.columns l.initial.values l.initial.tstarts l.initial.tcolumns l.initial.tvalues l.eps l.starts l.columns l.values l.tstarts l.tcolumns l.tvalues l.o (level_code l.bad) l.level
