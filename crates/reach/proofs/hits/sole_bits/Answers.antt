-- `reach::hits::sole_bits` meets its contract.
-- Assumes nothing.
use native.Mathlib.Omega.{arith}
use Rattle.store.proofs.BitLaws.{sole_none, sole_bits}
use Rattle.reach.proofs.hits.sole_bits.Goals as goal

pub returns-then-m-gt0 : goal.returns-then-m-gt0
returns-then-m-gt0 c = sole_none _ _ _ _ c.if-m-gt0.true

pub raise_bits-requires : goal.raise_bits-requires
raise_bits-requires c = (omega (arith, c.requires.hits_long.operator_long, c.requires.n_bound.0), omega arith, omega (arith, c.requires.n_bound.0, c.requires.n_bound.1))

pub returns : goal.returns
returns c = sole_bits _ _ _ (omega (arith, c.if-m-gt0.false)) c.raise_bits.ensures
