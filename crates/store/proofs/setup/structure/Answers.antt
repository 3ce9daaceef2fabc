use native.Mathlib.Omega.{arith}
use Rattle.store.proofs.SettleLaws.{structure_found, structure_none}
use Rattle.store.proofs.setup.structure.Goals as goal

pub overflow_sub-h : goal.overflow_sub-h
overflow_sub-h c = let h = (c.requires.held _ c.in-Some.is).0 in omega arith

pub invariant_of-h-clause-few : goal.invariant_of-h-clause-few
invariant_of-h-clause-few c = let h = c.requires.held _ c.in-Some.is in omega (arith, h.1)

pub invariant_of-h-clause-has_lines : goal.invariant_of-h-clause-has_lines
invariant_of-h-clause-has_lines c = (c.requires.held _ c.in-Some.is).2

pub returns-in_default : goal.returns-in_default
returns-in_default c = structure_none _ _ _ c.in_default.is

pub returns : goal.returns
returns c = structure_found _ _ _ c.in-Some.is c.levels_structure.ensures
