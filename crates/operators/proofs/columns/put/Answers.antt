-- `operators::columns::put` meets its contract.
-- Assumes nothing.
use Rattle.operators.proofs.ColumnLaws.{put_none, put_one, put_out}
use Rattle.operators.proofs.columns.put.Goals as goal

pub returns-then-not-taken : goal.returns-then-not-taken
returns-then-not-taken c = put_none c.args.taken c.args.v (c.if-not-taken.true)

pub returns-then-at-out : goal.returns-then-at-out
returns-then-at-out c =
    put_one c.args.taken c.args.v (c.if-not-taken.false)

pub returns : goal.returns
returns c =
    put_out c.args.taken c.args.v (c.if-not-taken.false) c.if-at-out.false
