use native.Mathlib.Omega.{arith}
use Rattle.store.proofs.SettleLaws.{lines_found}
use Rattle.store.proofs.NeededLaws.{lines_are_to, behind_levels, behind_none}
use Rattle.store.proofs.needed.needed_behind.Goals as goal

pub overflow_sub-h : goal.overflow_sub-h
overflow_sub-h c = let h = ((lines_found c.join_lines-found.ensures).held _ c.in-Some.is).0 in omega arith

pub invariant_of-h-clause-few : goal.invariant_of-h-clause-few
invariant_of-h-clause-few c = let h = (lines_found c.join_lines-found.ensures).held _ c.in-Some.is in omega (arith, h.1)

pub invariant_of-h-clause-has_lines : goal.invariant_of-h-clause-has_lines
invariant_of-h-clause-has_lines c = ((lines_found c.join_lines-found.ensures).held _ c.in-Some.is).2

pub levels_needed-requires : goal.levels_needed-requires
levels_needed-requires c = let h = (lines_found c.join_lines-found.ensures).held _ c.in-Some.is in record { lines_value = lines_are_to c.join_lines-found.ensures c.in-Some.is h.0 }

pub returns-in_default : goal.returns-in_default
returns-in_default c = behind_none _ _ c.join_lines-found.ensures.depth_is c.in_default.is

pub returns : goal.returns
returns c = behind_levels _ _ c.join_lines-found.ensures.depth_is c.in-Some.is c.levels_needed.ensures
