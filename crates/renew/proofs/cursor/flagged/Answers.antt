-- `renew::cursor::flagged` meets its contract.
-- Assumes nothing.
use Rattle.renew.specs.Walk.{chart_of}
use native.Mathlib.Omega.{arith}
use mathlib.Core.Path.{sym, ◌∙◌}
use Rattle.store.proofs.CellLaws.{flagged_yes, flagged_no}
use Rattle.renew.proofs.cursor.flagged.Goals as goal

pub overflow_add-q : goal.overflow_add-q
overflow_add-q c = omega (arith, c.args.w.now.fits.rows_few _ c.requires.0, c.args.w.now.fits.bases_few _ c.requires.0, c.requires.1)

pub flag-requires : goal.flag-requires
flag-requires c = omega (arith, c.args.w.now.fits.flags_there _ c.requires.0, c.requires.1)

pub returns-then-flag : goal.returns-then-flag
returns-then-flag c = let a = c.args in let w = chart_of a.w.now in c.span.ensures ∙ flagged_yes w a.part a.i (sym c.flag.ensures ∙ c.if-flag.true)

pub returns : goal.returns
returns c = let a = c.args in let w = chart_of a.w.now in flagged_no w a.part a.i (sym c.flag.ensures ∙ c.if-flag.false)
