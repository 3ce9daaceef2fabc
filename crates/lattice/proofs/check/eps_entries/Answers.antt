-- `lattice::check::eps_entries` meets its contract.
-- Assumes nothing.
use mathlib.Core.Path.{sym, ◌∙◌}
use native.Mathlib.Omega.{arith}
use Rattle.lattice.proofs.CheckLaws.{entry_bad, entry_good, entries_none}
use Rattle.lattice.proofs.check.eps_entries.Goals as goal

pub returns-in-Some : goal.returns-in-Some
returns-in-Some c = rw (sym c.unknowns-n.ensures) (sym (entry_bad _ _ _ _ _ c.in-Some.ensures.0 c.in-Some.ensures.1))

pub returns : goal.returns
returns c = rw (sym c.unknowns-n.ensures) (sym (entry_good _ _ _ _ _ c.in_default.ensures.0 (omega arith) ∙ entries_none _))
