-- `renew::shape::sole_rows` meets its contract.
-- Assumes nothing.
use Rattle.store.proofs.MarkLaws.{sole_zero, sole_more}
use Rattle.renew.proofs.shape.sole_rows.Goals as goal

pub returns-then-h-eq0 : goal.returns-then-h-eq0
returns-then-h-eq0 c = sole_zero _ _ _ c.if-h-eq0.true c.edges.ensures

pub returns : goal.returns
returns c = sole_more _ _ c.if-h-eq0.false
