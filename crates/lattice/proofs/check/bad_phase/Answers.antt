-- `lattice::check::bad_phase` meets its contract, by the kind of the axis.
-- Assumes nothing.
use mathlib.Core.Path.{sym, ◌∙◌, ap}
use Rattle.lattice.specs.Check.{bad_phase}
use Rattle.lattice.proofs.check.bad_phase.Goals as goal

pub returns-in-Bloch : goal.returns-in-Bloch
returns-in-Bloch c = c.bad_number.ensures ∙ sym (ap bad_phase c.in-Bloch.is)
