-- `lattice::check::axis_entries` meets its contract, list by list.
-- Assumes nothing.
use mathlib.Core.Path.{sym, ◌∙◌}
use native.Mathlib.Omega.{arith}
use Rattle.lattice.proofs.CheckLaws.{entry_bad, entry_good, entries_none}
use Rattle.lattice.proofs.check.axis_entries.Goals as goal

pub returns-in-Some : goal.returns-in-Some
returns-in-Some c = sym (entry_bad _ _ _ _ _ c.in-Some.ensures.0 c.in-Some.ensures.1)

pub returns-in-Some-first_bad : goal.returns-in-Some-first_bad
returns-in-Some-first_bad c = sym (entry_good _ _ _ _ _ c.in_default.ensures.0 (omega arith) ∙ entry_bad _ _ _ _ _ c.in-Some-first_bad.ensures.0 c.in-Some-first_bad.ensures.1)

pub returns : goal.returns
returns c =
    sym
    (entry_good _ _ _ _ _ c.in_default.ensures.0 (omega arith)
    ∙ (entry_good _ _ _ _ _ c.in_default-first_bad.ensures.0 (omega arith) ∙ entries_none _))
