-- `store::needs::forward_on` meets its contract.
-- Assumes nothing.
use Rattle.store.proofs.NeedLaws.{count_is}
use Rattle.store.proofs.needs.forward_on.Goals as goal

pub returns : goal.returns
returns c = count_is _ c.args.h.now.l.limits c.pair.ensures c.count.ensures
