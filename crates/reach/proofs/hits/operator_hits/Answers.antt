-- `reach::hits::operator_hits` meets its contract.
-- Assumes nothing.
use Rattle.store.proofs.HitLaws.{held_as}
use Rattle.reach.proofs.hits.operator_hits.Goals as goal

pub galerkin_hits-requires-clause-operator_held : goal.galerkin_hits-requires-clause-operator_held
galerkin_hits-requires-clause-operator_held c = held_as c.in-Galerkin.is c.requires.operator_held

pub returns-in-Galerkin : goal.returns-in-Galerkin
returns-in-Galerkin c = rw c.in-Galerkin.is c.galerkin_hits.ensures

pub returns-in-Rediscretized : goal.returns-in-Rediscretized
returns-in-Rediscretized c = rw c.in-Rediscretized.is c.rediscretized_hits.ensures
