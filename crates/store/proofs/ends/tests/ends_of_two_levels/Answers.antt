-- `store::ends::tests::ends_of_two_levels`: the hierarchy that it makes.
-- Assumes nothing.
use native.Mathlib.Omega.{arith}
use Rattle.store.proofs.EndLaws.{few_cells}
use Rattle.store.proofs.SettleLaws.{lines_found}
use Rattle.store.proofs.ends.tests.ends_of_two_levels.Goals as goal

pub overflow_sub-h : goal.overflow_sub-h
overflow_sub-h c = let h = ((lines_found c.join_lines-found.ensures).held _ c.in-Some.is).0 in omega arith

pub invariant_of-h-clause-few : goal.invariant_of-h-clause-few
invariant_of-h-clause-few c = let h = (lines_found c.join_lines-found.ensures).held _ c.in-Some.is in omega (arith, h.1)

pub invariant_of-h-clause-has_lines : goal.invariant_of-h-clause-has_lines
invariant_of-h-clause-has_lines c = ((lines_found c.join_lines-found.ensures).held _ c.in-Some.is).2

pub lay_ends-requires : goal.lay_ends-requires
lay_ends-requires c =
    few_cells ((lines_found c.join_lines-found.ensures).held _ c.in-Some.is).2
    (record {
      x_some = omega arith;
      x_most = omega arith;
      y_some = omega arith;
      y_most = omega arith;
      z_some = omega arith;
      z_most = omega arith;
      total = omega arith;
    })
