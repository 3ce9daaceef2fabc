use Rattle.store.proofs.FillLaws.{scaling_none, scaling_some, scaling_room}
use Rattle.store.proofs.fill.scalings.Goals as goal

pub scaling-requires-clause-scaling_room : goal.scaling-requires-clause-scaling_room
scaling-requires-clause-scaling_room c = scaling_room c.requires.scaling_asked c.in-Rediscretized.is

pub returns-in-Galerkin : goal.returns-in-Galerkin
returns-in-Galerkin c = scaling_none _ c.in-Galerkin.is

pub returns-in-Rediscretized : goal.returns-in-Rediscretized
returns-in-Rediscretized c = scaling_some c.in-Rediscretized.is c.scaling.ensures
