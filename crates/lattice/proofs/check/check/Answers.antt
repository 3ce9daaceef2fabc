-- `lattice::check::check` meets its contract, check by check. What has passed gives what the next check requires.
-- Assumes nothing.
use mathlib.Core.Path.{sym, ◌∙◌}
use Rattle.std.proofs.lemmas.Result.{err_from_is_err_and}
use Rattle.lattice.proofs.CheckLaws.{told, hands_on, goes_on, length_told, grid_sound, lengths_are, all_by_check}
use Rattle.lattice.proofs.check.check.Goals as goal

pub returns-in_err-check_lattice : goal.returns-in_err-check_lattice
returns-in_err-check_lattice c =
    let p = err_from_is_err_and c.from_residual.result c.from_residual.ensures.1 in
    rw (p.1, p.2) (hands_on _ _ c.in_err-check_lattice.ensures ∙ sym (all_by_check c.args.v _ _ _ _ _ _ _))

pub stretch_lengths-requires : goal.stretch_lengths-requires
stretch_lengths-requires c = grid_sound c.args.v (told c.in_ok-check_lattice.ensures)

pub returns-in_err-stretch_lengths : goal.returns-in_err-stretch_lengths
returns-in_err-stretch_lengths c =
    let p = err_from_is_err_and c.from_residual-in_err-stretch_lengths.result c.from_residual-in_err-stretch_lengths.ensures.1 in
    rw (p.1, p.2) (hands_on _ _ c.in_err-stretch_lengths.ensures ∙ sym (all_by_check c.args.v _ _ _ _ _ _ _ ∙ goes_on _ c.in_ok-check_lattice.ensures))

pub eps_length-requires : goal.eps_length-requires
eps_length-requires c = grid_sound c.args.v (told c.in_ok-check_lattice.ensures)

pub returns-in_err-eps_length : goal.returns-in_err-eps_length
returns-in_err-eps_length c =
    let p = err_from_is_err_and c.from_residual-in_err-eps_length.result c.from_residual-in_err-eps_length.ensures.1 in
    rw (p.1, p.2) (hands_on _ _ c.in_err-eps_length.ensures ∙ sym (all_by_check c.args.v _ _ _ _ _ _ _ ∙ (goes_on _ c.in_ok-check_lattice.ensures ∙ goes_on _ c.in_ok-stretch_lengths.ensures)))

pub stretch_entries-requires-clause-limits : goal.stretch_entries-requires-clause-limits
stretch_entries-requires-clause-limits c = grid_sound c.args.v (told c.in_ok-check_lattice.ensures)

pub stretch_entries-requires-clause-lengths : goal.stretch_entries-requires-clause-lengths
stretch_entries-requires-clause-lengths c = (lengths_are c.args.v.grid _ _ _ _ _ _ (told c.in_ok-stretch_lengths.ensures)).0

pub stretch_entries-requires-clause-lengths_2 : goal.stretch_entries-requires-clause-lengths_2
stretch_entries-requires-clause-lengths_2 c = (lengths_are c.args.v.grid _ _ _ _ _ _ (told c.in_ok-stretch_lengths.ensures)).1

pub returns-in_err-stretch_entries : goal.returns-in_err-stretch_entries
returns-in_err-stretch_entries c =
    let p = err_from_is_err_and c.from_residual-in_err-stretch_entries.result c.from_residual-in_err-stretch_entries.ensures.1 in
    rw (p.1, p.2) (hands_on _ _ c.in_err-stretch_entries.ensures ∙ sym (all_by_check c.args.v _ _ _ _ _ _ _ ∙ (goes_on _ c.in_ok-check_lattice.ensures ∙ (goes_on _ c.in_ok-stretch_lengths.ensures ∙ goes_on _ c.in_ok-eps_length.ensures))))

pub eps_entries-requires-clause-limits : goal.eps_entries-requires-clause-limits
eps_entries-requires-clause-limits c = grid_sound c.args.v (told c.in_ok-check_lattice.ensures)

pub eps_entries-requires-clause-eps_len : goal.eps_entries-requires-clause-eps_len
eps_entries-requires-clause-eps_len c = (length_told _ _ _ _ (told c.in_ok-eps_length.ensures)).0

pub returns : goal.returns
returns c =
    c.eps_entries.ensures
    ∙ sym
    (all_by_check c.args.v _ _ _ _ _ _ _
    ∙ (goes_on _ c.in_ok-check_lattice.ensures
    ∙ (goes_on _ c.in_ok-stretch_lengths.ensures ∙ (goes_on _ c.in_ok-eps_length.ensures ∙ goes_on _ c.in_ok-stretch_entries.ensures))))
