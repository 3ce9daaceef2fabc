-- `reach::hits::level_bits` meets its contract.
-- Assumes nothing.
use native.Mathlib.Omega.{arith}
use Rattle.store.proofs.BitLaws.{transfer_ends, level_bits}
use Rattle.store.proofs.RaisedLaws.{only_most}
use Rattle.reach.proofs.hits.level_bits.Goals as goal

pub transfer_bits-at-requires-clause-n_bound : goal.transfer_bits-at-requires-clause-n_bound
transfer_bits-at-requires-clause-n_bound c = (c.requires.n_bound.0, c.requires.n_bound.1, omega (arith, c.only-only.ensures, only_most c.args.choice c.args.k), c.requires.n_bound.2, omega (arith, c.requires.n_bound.3))

pub overflow_add-at : goal.overflow_add-at
overflow_add-at c = omega (arith, c.only-only.ensures, only_most c.args.choice c.args.k, c.only-volumes.ensures, only_most c.args.choice c.args.n, (transfer_ends c.transfer_bits-at.ensures).0, (transfer_ends c.transfer_bits-at.ensures).1)

pub raise_bits-at-requires : goal.raise_bits-at-requires
raise_bits-at-requires c = (omega (arith, c.requires.hits_long.turned_long, c.only-only.ensures, only_most c.args.choice c.args.k), omega (arith, c.only-only.ensures, only_most c.args.choice c.args.k, c.only-volumes.ensures, only_most c.args.choice c.args.n, (transfer_ends c.transfer_bits-at.ensures).0, (transfer_ends c.transfer_bits-at.ensures).1), omega (arith, c.only-only.ensures, only_most c.args.choice c.args.k, c.only-volumes.ensures, only_most c.args.choice c.args.n, (transfer_ends c.transfer_bits-at.ensures).0, (transfer_ends c.transfer_bits-at.ensures).1))

pub raise_bits-requires : goal.raise_bits-requires
raise_bits-requires c = (omega (arith, c.requires.hits_long.operator_long), omega (arith, c.only-only.ensures, only_most c.args.choice c.args.k, c.only-volumes.ensures, only_most c.args.choice c.args.n, (transfer_ends c.transfer_bits-at.ensures).0, (transfer_ends c.transfer_bits-at.ensures).1, c.raise_bits-at.ensures.next_is, c.raise_bits-at.ensures.same_long), omega (arith, c.only-only.ensures, only_most c.args.choice c.args.k, c.only-volumes.ensures, only_most c.args.choice c.args.n, (transfer_ends c.transfer_bits-at.ensures).0, (transfer_ends c.transfer_bits-at.ensures).1, c.raise_bits-at.ensures.next_is, c.raise_bits-at.ensures.same_long))

pub returns : goal.returns
returns c = level_bits c.args.choice c.args.n c.args.k c.args.base c.args.hits.now c.only-only.ensures c.only-volumes.ensures c.transfer_bits-at.ensures c.raise_bits-at.ensures c.raise_bits.ensures
