-- `changes::compare::same_row` meets its contract. The start first, then the columns.
-- Assumes nothing.
use mathlib.Core.Path.{refl}
use borrow.Author.Tests.{eq-eqb, ne_eqb}
use Rattle.changes.proofs.compare.same_row.Goals as goal

pub returns-then-starts-at : goal.returns-then-starts-at
returns-then-starts-at c = rw (ne_eqb _ _ c.if-starts-at.true) refl

pub returns : goal.returns
returns c = rw (eq-eqb _ _ c.if-starts-at.false) c.same.ensures
