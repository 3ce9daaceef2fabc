-- `store::rediscretized_levels::operators` meets its contract. The invariant: the levels passed are laid in closed form, for whichever permittivities are given.
-- Assumes nothing.
use Rattle.store.specs.Hierarchy.{the_lattice}
use Rattle.store.specs.Phases.{level_code}
use Rattle.store.proofs.AveragedLaws.{Averaging}
use Rattle.store.proofs.rediscretized_levels.operators.Given as goal

abbrev pub invariant-loop-level : goal.invariant-loop-level
invariant-loop-level l = Averaging (the_lattice l.h) l.h.m l.initial.eps l.initial.ostarts l.initial.ocolumns l.initial.ovalues l.eps l.ostarts l.ocolumns l.ovalues l.from l.to l.o (level_code l.bad) l.level
