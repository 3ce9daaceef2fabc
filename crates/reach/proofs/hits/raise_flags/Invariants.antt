-- `reach::hits::raise_flags` meets its contract. The invariant (`Raising`): the bits of the levels passed are right, and none is set behind them.
-- Assumes nothing.
use Rattle.store.specs.Hierarchy.{the_lattice}
use Rattle.store.proofs.BitLaws.{Raising}
use Rattle.reach.proofs.hits.raise_flags.Given as goal

abbrev pub invariant-loop-level : goal.invariant-loop-level
invariant-loop-level l = Raising (the_lattice l.h) l.choice l.h.m l.initial.hits l.initial.flags l.a l.base l.hits l.flags l.level
