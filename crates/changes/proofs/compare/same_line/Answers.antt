-- `changes::compare::same_line` meets its contract. A line has 65 places for its ends.
-- Assumes nothing.
use native.Mathlib.Omega.{arith}
use Rattle.changes.proofs.compare.same_line.Goals as goal

pub same-requires : goal.same-requires
same-requires c = (omega (arith, c.requires), omega (arith, c.requires))
