-- `operators::rediscretized::cell_length` meets its contract.
-- Assumes nothing.
use native.Mathlib.Omega.{arith}
use Prim.Native.Nat.{◌+◌}
use Rattle.operators.proofs.RediscretizedLaws.{length_is}
use Rattle.operators.proofs.rediscretized.cell_length.Goals as goal

pub offset_bounds-x-last : goal.offset_bounds-x-last
offset_bounds-x-last c = omega (arith, c.requires.held.low (c.args.m + 1) (omega arith))

pub bounds-x-last : goal.bounds-x-last
bounds-x-last c = omega (arith, c.requires.held.low (c.args.m + 1) (omega arith))

pub returns : goal.returns
returns c = length_is _ _ _ c.requires.m_lt_cells c.sub.ensures
