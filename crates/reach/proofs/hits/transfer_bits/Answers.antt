-- `reach::hits::transfer_bits` meets its contract.
-- Assumes nothing.
use native.Mathlib.Omega.{arith}
use Rattle.store.proofs.BitLaws.{transfer_bits}
use Rattle.reach.proofs.hits.transfer_bits.Goals as goal

pub raise_bits-at-requires : goal.raise_bits-at-requires
raise_bits-at-requires c = (omega (arith, c.requires.hits_long.eps_long), omega (arith), omega (arith))

pub raise_bits-at-requires-2 : goal.raise_bits-at-requires-2
raise_bits-at-requires-2 c = (omega (arith, c.requires.hits_long.averaged_long), omega (arith, c.raise_bits-at.ensures.next_is, c.raise_bits-at.ensures.same_long), omega (arith, c.raise_bits-at.ensures.next_is, c.raise_bits-at.ensures.same_long))

pub raise_bits-at-requires-3 : goal.raise_bits-at-requires-3
raise_bits-at-requires-3 c = (omega (arith, c.requires.hits_long.forward_long), omega (arith, c.raise_bits-at.ensures.next_is, c.raise_bits-at.ensures.same_long, c.raise_bits-at-2.ensures.next_is, c.raise_bits-at-2.ensures.same_long), omega (arith, c.raise_bits-at.ensures.next_is, c.raise_bits-at.ensures.same_long, c.raise_bits-at-2.ensures.next_is, c.raise_bits-at-2.ensures.same_long))

pub raise_bits-requires : goal.raise_bits-requires
raise_bits-requires c = (omega (arith, c.requires.hits_long.turned_long), omega (arith, c.raise_bits-at.ensures.next_is, c.raise_bits-at.ensures.same_long, c.raise_bits-at-2.ensures.next_is, c.raise_bits-at-2.ensures.same_long, c.raise_bits-at-3.ensures.next_is, c.raise_bits-at-3.ensures.same_long), omega (arith, c.raise_bits-at.ensures.next_is, c.raise_bits-at.ensures.same_long, c.raise_bits-at-2.ensures.next_is, c.raise_bits-at-2.ensures.same_long, c.raise_bits-at-3.ensures.next_is, c.raise_bits-at-3.ensures.same_long))

pub returns : goal.returns
returns c = transfer_bits c.raise_bits-at.ensures c.raise_bits-at-2.ensures c.raise_bits-at-3.ensures c.raise_bits.ensures
