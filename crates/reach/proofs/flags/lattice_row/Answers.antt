-- `reach::flags::lattice_row` meets its contract.
-- Assumes nothing.
use mathlib.Core.Path.{refl, sym, ◌∙◌}
use Rattle.numbers.proofs.MarkedLaws.{marked_not, marked_as}
use Rattle.reach.proofs.flags.lattice_row.Goals as goal

pub returns-then-not-flagged : goal.returns-then-not-flagged
returns-then-not-flagged c = marked_not (sym c.flagged.ensures ∙ c.if-not-flagged.true)

pub returns : goal.returns
returns c = marked_as c.mark_reads.ensures refl (sym c.flagged.ensures ∙ c.if-not-flagged.false)
