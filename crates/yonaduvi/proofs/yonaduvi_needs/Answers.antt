-- `yonaduvi::yonaduvi_needs` meets its contract.
-- Assumes nothing.
use Rattle.yonaduvi.proofs.ExportLaws.{needs_left, needs_refused}
use Rattle.yonaduvi.proofs.yonaduvi_needs.Goals as goal

pub returns-in-Err : goal.returns-in-Err
returns-in-Err c = needs_refused c.args.cells.now c.args.scalars.now c.args.xn.now c.args.xh.now c.args.yn.now c.args.yh.now c.args.zn.now c.args.zh.now c.args.choice c.lattice_from-v.ensures c.from.ensures c.args.coarsest c.in-Err.ensures c.from-t.ensures c.put_two.ensures c.leave_answer.ensures c.leave_answer-in-Err.ensures

pub returns : goal.returns
returns c = needs_left c.args.cells.now c.args.scalars.now c.args.xn.now c.args.xh.now c.args.yn.now c.args.yh.now c.args.zn.now c.args.zh.now c.args.choice c.lattice_from-v.ensures c.from.ensures c.args.coarsest c.in-Ok.ensures c.needs_words.ensures c.cells_words.ensures c.put_two-2.ensures c.put.ensures c.put-2.ensures
