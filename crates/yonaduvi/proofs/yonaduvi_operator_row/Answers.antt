-- `yonaduvi::yonaduvi_operator_row` meets its contract.
-- Assumes nothing.
use mathlib.Core.Path.{ap, ◌∙◌}
use native.Mathlib.Omega.{arith}
use lib.ListN.{length}
use Rattle.numbers.specs.Lists.{laid}
use Rattle.store.specs.Handed.{Span, operator_row}
use Rattle.store.specs.declared.handed.Cells.{Cells}
use Rattle.yonaduvi.specs.Exports.{spanned}
use Rattle.yonaduvi.proofs.RowLaws.{operator_within}
use Rattle.yonaduvi.proofs.yonaduvi_operator_row.Goals as goal

pub put_span-requires : goal.put_span-requires
put_span-requires c = let a = c.args in operator_within c.cells_from-c.result a.starts.now (length a.columns.now) a.level a.row c.operator_terms-s.ensures (omega arith)

pub returns : goal.returns
returns c =
    let a = c.args in
    c.put_span.ensures
    ∙ ap (λ (s : Span). laid a.out.now 0 (spanned 1 s))
    (c.operator_terms-s.ensures ∙ ap (λ (q : Cells). operator_row q a.starts.now (length a.columns.now) a.level a.row) c.cells_from-c.ensures)
