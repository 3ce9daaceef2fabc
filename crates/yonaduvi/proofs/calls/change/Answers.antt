-- `yonaduvi::calls::change` meets its contract.
-- Assumes nothing.
use Rattle.store.specs.Lists.{store_with}
use Rattle.store.specs.ChangeSteps.{change_to}
use Rattle.yonaduvi.proofs.ExportLaws.{change_left}
use Rattle.yonaduvi.proofs.calls.change.Goals as goal

pub returns-clause-left : goal.returns-clause-left
returns-clause-left c = let a = c.args in change_left a.cells.now a.scalars.now a.on.now.xn.now a.on.now.xh.now a.on.now.yn.now a.on.now.yh.now a.on.now.zn.now a.on.now.zh.now a.choice c.lattice_from-v.ensures c.from.ensures a.coarsest (store_with a.s.now a.n.now) (change_to a.edge a.value) c.change-a.result c.change-a.ensures.changed c.from-t.ensures c.put_two.ensures
