-- `store::needs::galerkin_terms` meets its contract.
-- Assumes nothing.
use Rattle.store.specs.Hierarchy.{the_lattice}
use Rattle.store.proofs.NeedLaws.{Totalling}
use Rattle.store.proofs.needs.galerkin_terms.Given as goal

abbrev pub invariant-loop-level : goal.invariant-loop-level
invariant-loop-level l =
    Totalling (the_lattice l.h) l.h.m l.u l.total l.level
