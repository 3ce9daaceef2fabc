-- `lattice::check::bad_cells` meets its contract: `||` by the way taken.
-- Assumes nothing.
use mathlib.Core.Path.{sym}
use borrow.Author.Tests.{eq-eqb, ne_eqb}
use Rattle.lattice.specs.Check.{bad_cells}
use Rattle.numbers.proofs.Laws.{or_true, or_false}
use Rattle.lattice.proofs.check.bad_cells.Goals as goal

pub returns-then-n-eq0 : goal.returns-then-n-eq0
unfolding bad_cells
returns-then-n-eq0 c = sym (or_true _ _ (eq-eqb _ _ c.if-n-eq0.true))

pub returns-else-n-eq0 : goal.returns-else-n-eq0
unfolding bad_cells
returns-else-n-eq0 c = sym (or_false _ _ (ne_eqb _ _ c.if-n-eq0.false))
