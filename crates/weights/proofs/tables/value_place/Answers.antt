-- `weights::tables::value_place` meets its contract.
-- Assumes nothing.
use mathlib.Core.Path.{◌∙◌}
use Rattle.lattice.proofs.GridLaws.{axis_first, axis_second, axis_third}
use Rattle.weights.proofs.TableLaws.{value_is}
use Rattle.weights.proofs.tables.value_place.Goals as goal

pub returns-then-axis-eq0 : goal.returns-then-axis-eq0
returns-then-axis-eq0 c =
    let a = c.args in
    c.value_on.ensures ∙ value_is a.s.now a.q (axis_first _ _ _ _ c.if-axis-eq0.true) c.slot_along-along.ensures

pub returns-then-axis-eq1 : goal.returns-then-axis-eq1
returns-then-axis-eq1 c =
    let a = c.args in
    c.value_on-then-axis-eq1.ensures ∙ value_is a.s.now a.q (axis_second _ _ _ _ c.if-axis-eq0.false c.if-axis-eq1.true) c.slot_along-along.ensures

pub returns : goal.returns
returns c =
    let a = c.args in
    c.value_on-2.ensures ∙ value_is a.s.now a.q (axis_third _ _ _ _ c.if-axis-eq0.false c.if-axis-eq1.false) c.slot_along-along.ensures
