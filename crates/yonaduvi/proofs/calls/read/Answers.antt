-- `yonaduvi::calls::read` meets its contract.
-- Assumes nothing.
use Rattle.std.specs.Prelude.{Ok, Err}
use Rattle.store.specs.Lists.{store_of}
use Rattle.yonaduvi.proofs.ExportLaws.{read_left}
use Rattle.yonaduvi.proofs.calls.read.Goals as goal

pub returns-in-Ok-clause-left : goal.returns-in-Ok-clause-left
returns-in-Ok-clause-left c = let a = c.args in read_left a.limit a.bytes.now a.out.now a.held.now (store_of a.lists.now) (Ok c.in-Ok.levels) c.fresh.ensures c.feed-r.ensures.left c.in-Ok.ensures c.put_two.ensures

pub returns-in-Err-clause-left : goal.returns-in-Err-clause-left
returns-in-Err-clause-left c = let a = c.args in read_left a.limit a.bytes.now a.out.now a.held.now (store_of a.lists.now) (Err c.in-Err.t) c.fresh.ensures c.feed-r.ensures.left c.in-Err.ensures c.put_two-in-Err.ensures
