-- `renew::shape::set_shape` meets its contract.
-- Assumes nothing.
use Rattle.store.specs.Hierarchy.{the_lattice}
use Rattle.store.proofs.MarkLaws.{Shaping}
use Rattle.renew.proofs.shape.set_shape.Given as goal

abbrev pub invariant-loop-level : goal.invariant-loop-level
invariant-loop-level l =
    Shaping (the_lattice l.h) l.choice l.h.m l.level l.k l.base l.shape
