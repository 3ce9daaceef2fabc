-- `yonaduvi::yonaduvi_weight_row` meets its contract.
-- Assumes nothing.
use Prim.Native.Nat.{◌/◌}
use mathlib.Core.Path.{ap, ◌∙◌}
use native.Mathlib.Omega.{arith}
use lib.ListN.{length}
use Rattle.numbers.specs.Lists.{laid}
use Rattle.store.specs.Handed.{Span, weight_terms}
use Rattle.store.specs.declared.handed.Cells.{Cells}
use Rattle.yonaduvi.specs.Exports.{is_turned, spanned}
use Rattle.yonaduvi.proofs.RowLaws.{weights_within}
use Rattle.yonaduvi.proofs.yonaduvi_weight_row.Goals as goal

pub put_span-requires : goal.put_span-requires
put_span-requires c = let a = c.args in weights_within c.cells_from-c.result (is_turned a.turned) a.starts.now (length a.values.now / 2) a.tstarts.now (length a.tvalues.now / 2) a.level a.row c.weight_terms-s.ensures (omega arith) (omega arith)

pub returns : goal.returns
returns c =
    let a = c.args in
    c.put_span.ensures
    ∙ ap (λ (s : Span). laid a.out.now 0 (spanned 2 s))
    (c.weight_terms-s.ensures
    ∙ ap (λ (q : Cells). weight_terms q (is_turned a.turned) a.starts.now (length a.values.now / 2) a.tstarts.now (length a.tvalues.now / 2) a.level a.row) c.cells_from-c.ensures)
