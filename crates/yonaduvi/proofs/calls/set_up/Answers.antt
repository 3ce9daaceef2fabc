-- `yonaduvi::calls::set_up` meets its contract.
-- Assumes nothing.
use Rattle.store.specs.Lists.{store_of}
use Rattle.yonaduvi.proofs.ExportLaws.{setup_left}
use Rattle.yonaduvi.proofs.calls.set_up.Goals as goal

pub returns-clause-left : goal.returns-clause-left
returns-clause-left c = let a = c.args in setup_left a.cells.now a.scalars.now a.on.now.xn.now a.on.now.xh.now a.on.now.yn.now a.on.now.yh.now a.on.now.zn.now a.on.now.zh.now a.choice c.lattice_from-v.ensures c.from.ensures a.coarsest a.given.now (store_of a.lists.now) c.setup-a.result c.setup-a.ensures.left c.from-t.ensures c.put_two.ensures
