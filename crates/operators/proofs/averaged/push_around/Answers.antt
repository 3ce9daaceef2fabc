-- `operators::averaged::push_around` meets its contract.
-- Assumes nothing.
use Prim.Native.Nat.{◌+◌}
use mathlib.Core.Path.{refl}
use native.Mathlib.Omega.{arith}
use Rattle.operators.proofs.HatLaws.{width_most, number_below, number_most, lower_next, upper_place, around_laid}
use Rattle.operators.proofs.averaged.push_around.Goals as goal

pub push_hat-k1-requires : goal.push_hat-k1-requires
push_hat-k1-requires c = omega (arith, lower_next c.requires.line_pair c.args.wall c.args.m c.requires.m_lt_cells.0 c.push_lower-k.ensures)

pub overflow_sub-c : goal.overflow_sub-c
overflow_sub-c c = (width_most c.requires.line_pair c.args.m (c.args.m + 1) (omega arith) (omega arith)).0

pub overflow_add-nn : goal.overflow_add-nn
overflow_add-nn c = omega (arith, c.requires.line_pair.fine_held.most, number_below c.requires.line_pair c.requires.nodes_from c.args.m refl c.requires.m_lt_cells.0)

pub push_upper-requires-clause-last_le_cells : goal.push_upper-requires-clause-last_le_cells
push_upper-requires-clause-last_le_cells c = (
  number_most c.requires.line_pair c.requires.nodes_from (c.args.m + 1) (omega arith) (omega arith),
  (width_most c.requires.line_pair c.args.m (c.args.m + 1) (omega arith) (omega arith)).1,
  omega (arith, lower_next c.requires.line_pair c.args.wall c.args.m c.requires.m_lt_cells.0 c.push_lower-k.ensures, c.push_hat-k1.ensures.next),
)

pub push_upper-requires-clause-by_index : goal.push_upper-requires-clause-by_index
push_upper-requires-clause-by_index c = λ q a b. upper_place c.requires.line_pair c.requires.nodes_from c.args.m q c.requires.m_lt_cells.0 a b

pub returns : goal.returns
returns c =
    around_laid c.requires.line_pair c.requires.nodes_from c.args.wall c.args.m c.requires.m_lt_cells.0 c.push_lower-k.ensures c.push_hat-k1.ensures c.push_upper.ensures
