-- `renew::cursor::span` meets its contract.
-- Assumes nothing.
use mathlib.Core.Path.{ap, ◌∙◌}
use Rattle.store.specs.Cells.{kind_in, list_in}
use Rattle.store.specs.Spots.{permittivity, forwards, turneds, entries, scales}
use Rattle.store.proofs.CellLaws.{fits_kind, span_kind}
use Rattle.renew.specs.Walk.{chart_of}
use Rattle.renew.proofs.cursor.span.Goals as goal

pub single-requires : goal.single-requires
single-requires c = let a = c.args in let w = chart_of a.w.now in fits_kind w (list_in w a.part) a.part a.i permittivity (ap kind_in c.in-Permittivities.is) (a.w.now.fits.spans _ _ c.requires.0 c.requires.1)

pub returns-in-Permittivities : goal.returns-in-Permittivities
returns-in-Permittivities c = let a = c.args in let w = chart_of a.w.now in c.single.ensures ∙ span_kind w a.part a.i permittivity (ap kind_in c.in-Permittivities.is)

pub between-requires : goal.between-requires
between-requires c = let a = c.args in let w = chart_of a.w.now in fits_kind w (list_in w a.part) a.part a.i forwards (ap kind_in c.in-Forward.is) (a.w.now.fits.spans _ _ c.requires.0 c.requires.1)

pub returns-in-Forward : goal.returns-in-Forward
returns-in-Forward c = let a = c.args in let w = chart_of a.w.now in c.between.ensures ∙ span_kind w a.part a.i forwards (ap kind_in c.in-Forward.is)

pub between-requires-in-Turned : goal.between-requires-in-Turned
between-requires-in-Turned c = let a = c.args in let w = chart_of a.w.now in fits_kind w (list_in w a.part) a.part a.i turneds (ap kind_in c.in-Turned.is) (a.w.now.fits.spans _ _ c.requires.0 c.requires.1)

pub returns-in-Turned : goal.returns-in-Turned
returns-in-Turned c = let a = c.args in let w = chart_of a.w.now in c.between-in-Turned.ensures ∙ span_kind w a.part a.i turneds (ap kind_in c.in-Turned.is)

pub between-requires-in-Operator : goal.between-requires-in-Operator
between-requires-in-Operator c = let a = c.args in let w = chart_of a.w.now in fits_kind w (list_in w a.part) a.part a.i entries (ap kind_in c.in-Operator.is) (a.w.now.fits.spans _ _ c.requires.0 c.requires.1)

pub returns-in-Operator : goal.returns-in-Operator
returns-in-Operator c = let a = c.args in let w = chart_of a.w.now in c.between-in-Operator.ensures ∙ span_kind w a.part a.i entries (ap kind_in c.in-Operator.is)

pub single-requires-in-Scaling : goal.single-requires-in-Scaling
single-requires-in-Scaling c = let a = c.args in let w = chart_of a.w.now in fits_kind w (list_in w a.part) a.part a.i scales (ap kind_in c.in-Scaling.is) (a.w.now.fits.spans _ _ c.requires.0 c.requires.1)

pub returns-in-Scaling : goal.returns-in-Scaling
returns-in-Scaling c = let a = c.args in let w = chart_of a.w.now in c.single-in-Scaling.ensures ∙ span_kind w a.part a.i scales (ap kind_in c.in-Scaling.is)
