-- `store::scaling::scaling` meets its contract. The invariant: the transfers passed are laid in closed form, for whichever turned rows stand in the lists.
-- Assumes nothing.
use Rattle.store.specs.Hierarchy.{the_lattice}
use Rattle.store.specs.Phases.{level_code}
use Rattle.store.proofs.ScalingLaws.{Scaling}
use Rattle.store.proofs.scaling.scaling.Given as goal

abbrev pub invariant-loop-level : goal.invariant-loop-level
invariant-loop-level l = Scaling (the_lattice l.h) l.h.m l.tstarts l.tcolumns l.tvalues l.initial.scaling l.scaling l.t l.k (level_code l.bad) l.level
