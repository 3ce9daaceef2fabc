-- `reach::hits::raise_bit` meets its contract.
-- Assumes nothing.
use mathlib.Core.Path.{refl}
use Rattle.store.proofs.RaisedLaws.{bit_left, bit_raised}
use Rattle.reach.proofs.hits.raise_bit.Goals as goal

pub returns-then-not-b : goal.returns-then-not-b
returns-then-not-b c = bit_left c.args.flags.now c.args.q c.args.b (c.if-not-b.true)

pub returns : goal.returns
returns c = bit_raised c.args.flags.now c.args.q c.args.b (c.if-not-b.false) c.requires c.unit.ensures c.mix.ensures refl
