-- `weights::tables::value_on` meets its contract.
-- Assumes nothing.
use mathlib.Core.Path.{◌∙◌}
use Rattle.weights.proofs.TableLaws.{value_held, value_none}
use Rattle.weights.proofs.tables.value_on.Goals as goal

pub returns-then-i-l : goal.returns-then-i-l
returns-then-i-l c =
    let a = c.args in
    c.place.ensures ∙ value_held a.l.now c.requires a.i a.along c.if-i-l.true

pub returns : goal.returns
returns c =
    let a = c.args in
    value_none a.l.now c.requires a.i a.along c.if-i-l.false
