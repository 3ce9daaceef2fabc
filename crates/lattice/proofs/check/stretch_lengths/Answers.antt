-- `lattice::check::stretch_lengths` meets its contract, axis by axis.
-- Assumes nothing.
use mathlib.Core.Path.{sym, ◌∙◌}
use Rattle.std.proofs.lemmas.Result.{err_from_is_err_and}
use Rattle.lattice.proofs.CheckLaws.{hands_on, goes_on, lengths_by_axis}
use Rattle.lattice.proofs.check.stretch_lengths.Goals as goal

pub returns-in_err-axis_lengths : goal.returns-in_err-axis_lengths
returns-in_err-axis_lengths c =
    let p = err_from_is_err_and c.from_residual.result c.from_residual.ensures.1 in
    rw (p.1, p.2) (hands_on _ _ c.in_err-axis_lengths.ensures ∙ sym (lengths_by_axis c.args.g _ _ _ _ _ _))

pub returns-in_err-axis_lengths-2 : goal.returns-in_err-axis_lengths-2
returns-in_err-axis_lengths-2 c =
    let p = err_from_is_err_and c.from_residual-in_err-axis_lengths-2.result c.from_residual-in_err-axis_lengths-2.ensures.1 in
    rw (p.1, p.2) (hands_on _ _ c.in_err-axis_lengths-2.ensures ∙ sym (lengths_by_axis c.args.g _ _ _ _ _ _ ∙ goes_on _ c.in_ok-axis_lengths.ensures))

pub returns : goal.returns
returns c =
    c.axis_lengths-3.ensures ∙ sym (lengths_by_axis c.args.g _ _ _ _ _ _ ∙ (goes_on _ c.in_ok-axis_lengths.ensures ∙ goes_on _ c.in_ok-axis_lengths-2.ensures))
