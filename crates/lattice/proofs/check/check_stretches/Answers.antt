-- `lattice::check::check_stretches` meets its contract, check by check. What has passed gives what the next check requires.
-- Assumes nothing.
use mathlib.Core.Path.{sym, ◌∙◌}
use Rattle.std.proofs.lemmas.Result.{err_from_is_err_and}
use Rattle.lattice.proofs.CheckLaws.{told, hands_on, goes_on, grid_sound, lengths_are, stretches_by_check}
use Rattle.lattice.proofs.check.check_stretches.Goals as goal

pub returns-in_err-check_lattice : goal.returns-in_err-check_lattice
returns-in_err-check_lattice c =
    let p = err_from_is_err_and c.from_residual.result c.from_residual.ensures.1 in
    rw (p.1, p.2) (hands_on _ _ c.in_err-check_lattice.ensures ∙ sym (stretches_by_check c.args.v _ _ _ _ _ _))

pub stretch_lengths-requires : goal.stretch_lengths-requires
stretch_lengths-requires c = grid_sound c.args.v (told c.in_ok-check_lattice.ensures)

pub returns-in_err-stretch_lengths : goal.returns-in_err-stretch_lengths
returns-in_err-stretch_lengths c =
    let p = err_from_is_err_and c.from_residual-in_err-stretch_lengths.result c.from_residual-in_err-stretch_lengths.ensures.1 in
    rw (p.1, p.2) (hands_on _ _ c.in_err-stretch_lengths.ensures ∙ sym (stretches_by_check c.args.v _ _ _ _ _ _ ∙ goes_on _ c.in_ok-check_lattice.ensures))

pub stretch_entries-requires-clause-limits : goal.stretch_entries-requires-clause-limits
stretch_entries-requires-clause-limits c = grid_sound c.args.v (told c.in_ok-check_lattice.ensures)

pub stretch_entries-requires-clause-lengths : goal.stretch_entries-requires-clause-lengths
stretch_entries-requires-clause-lengths c = (lengths_are c.args.v.grid _ _ _ _ _ _ (told c.in_ok-stretch_lengths.ensures)).0

pub stretch_entries-requires-clause-lengths_2 : goal.stretch_entries-requires-clause-lengths_2
stretch_entries-requires-clause-lengths_2 c = (lengths_are c.args.v.grid _ _ _ _ _ _ (told c.in_ok-stretch_lengths.ensures)).1

pub returns : goal.returns
returns c =
    c.stretch_entries.ensures
    ∙ sym (stretches_by_check c.args.v _ _ _ _ _ _ ∙ (goes_on _ c.in_ok-check_lattice.ensures ∙ goes_on _ c.in_ok-stretch_lengths.ensures))
