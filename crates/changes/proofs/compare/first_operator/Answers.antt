-- `changes::compare::first_operator` meets its contract. Either call, by m.
-- Assumes nothing.
use native.Mathlib.Omega.{arith}
use Rattle.changes.proofs.compare.first_operator.Goals as goal

pub coarse_operator-requires-clause-m_nonzero : goal.coarse_operator-requires-clause-m_nonzero
coarse_operator-requires-clause-m_nonzero c = omega (arith, c.if-h-eq0.false)
