-- `lattice::check::stretch_entries` meets its contract, axis by axis.
-- Assumes nothing.
use mathlib.Core.Path.{sym, ◌∙◌}
use Rattle.std.proofs.lemmas.Result.{err_from_is_err_and}
use Rattle.lattice.proofs.CheckLaws.{hands_on, goes_on, entries_by_axis}
use Rattle.lattice.proofs.check.stretch_entries.Goals as goal

pub returns-in_err-axis_entries : goal.returns-in_err-axis_entries
returns-in_err-axis_entries c =
    let p = err_from_is_err_and c.from_residual.result c.from_residual.ensures.1 in
    rw (p.1, p.2) (hands_on _ _ c.in_err-axis_entries.ensures ∙ sym (entries_by_axis c.args.g _ _ _ _ _ _))

pub returns-in_err-axis_entries-2 : goal.returns-in_err-axis_entries-2
returns-in_err-axis_entries-2 c =
    let p = err_from_is_err_and c.from_residual-in_err-axis_entries-2.result c.from_residual-in_err-axis_entries-2.ensures.1 in
    rw (p.1, p.2) (hands_on _ _ c.in_err-axis_entries-2.ensures ∙ sym (entries_by_axis c.args.g _ _ _ _ _ _ ∙ goes_on _ c.in_ok-axis_entries.ensures))

pub returns : goal.returns
returns c =
    c.axis_entries-3.ensures ∙ sym (entries_by_axis c.args.g _ _ _ _ _ _ ∙ (goes_on _ c.in_ok-axis_entries.ensures ∙ goes_on _ c.in_ok-axis_entries-2.ensures))
