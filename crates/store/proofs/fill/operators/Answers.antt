use native.Mathlib.Omega.{arith}
use Rattle.store.proofs.FillLaws.{chosen_sole, chosen_galerkin, chosen_rediscretized, operators_room}
use Rattle.store.proofs.fill.operators.Goals as goal

pub returns-then-h-eq0 : goal.returns-then-h-eq0
returns-then-h-eq0 c = chosen_sole _ c.if-h-eq0.true c.sole.ensures c.noted.ensures

pub operators-requires-clause-operator_room : goal.operators-requires-clause-operator_room
operators-requires-clause-operator_room c = operators_room c.requires.chosen_room c.in-Galerkin.is

pub returns-in-Galerkin : goal.returns-in-Galerkin
returns-in-Galerkin c = chosen_galerkin c.in-Galerkin.is (omega (arith, c.if-h-eq0.false)) c.operators.ensures

pub returns-in-Rediscretized : goal.returns-in-Rediscretized
returns-in-Rediscretized c = chosen_rediscretized c.in-Rediscretized.is (omega (arith, c.if-h-eq0.false)) c.operators-in-Rediscretized.ensures
