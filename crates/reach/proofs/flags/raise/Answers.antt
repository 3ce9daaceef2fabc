-- `reach::flags::raise` meets its contract.
-- Assumes nothing.
use Rattle.store.proofs.RaisedLaws.{raise_not, raise_set}
use Rattle.reach.proofs.flags.raise.Goals as goal

pub returns-then-not-b : goal.returns-then-not-b
returns-then-not-b c = raise_not c.args.out.now c.args.r c.args.b (c.if-not-b.true)

pub returns : goal.returns
returns c = raise_set c.args.out.now c.args.r c.args.b (c.if-not-b.false)
