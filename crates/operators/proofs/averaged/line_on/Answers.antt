-- `operators::averaged::line_on_lem` meets its contract.
-- Assumes nothing.
use Rattle.lattice.proofs.GridLaws.{axis_first, axis_second, axis_third}
use Rattle.operators.proofs.averaged.line_on.Goals as goal

pub returns-then-axis-eq0 : goal.returns-then-axis-eq0
returns-then-axis-eq0 c = axis_first _ _ _ _ c.if-axis-eq0.true

pub returns-then-axis-eq1 : goal.returns-then-axis-eq1
returns-then-axis-eq1 c = axis_second _ _ _ _ c.if-axis-eq0.false c.if-axis-eq1.true

pub returns : goal.returns
returns c = axis_third _ _ _ _ c.if-axis-eq0.false c.if-axis-eq1.false
