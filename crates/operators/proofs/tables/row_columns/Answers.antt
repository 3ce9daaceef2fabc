-- `operators::tables::row_columns` meets its contract.
-- Assumes nothing.
use Rattle.operators.proofs.TableLaws.{own_listed, picked_listed}
use Rattle.operators.proofs.tables.row_columns.Goals as goal

pub returns-then-fixed : goal.returns-then-fixed
returns-then-fixed c =
    own_listed _ _ _ _ c.if-fixed.true c.put.ensures

pub returns : goal.returns
returns c =
    picked_listed _ _ _ _ c.if-fixed.false c.picks-x.ensures c.picks-y.ensures c.picks-z.ensures
    c.write_row.ensures
