-- `lattice::levels::same_cells` meets its contract: `&&` by the way taken.
-- Assumes nothing.
use mathlib.Core.Path.{sym, ◌∙◌}
use borrow.Author.Tests.{eq-eqb, ne_eqb}
use Rattle.numbers.proofs.Laws.{and_true, and_false}
use Rattle.lattice.specs.Levels.{same_cells}
use Rattle.lattice.proofs.levels.same_cells.Goals as goal

pub returns-then-b-e : goal.returns-then-b-e
unfolding same_cells
returns-then-b-e c =
    sym (and_true _ _ (eq-eqb _ _ c.if-a-d.true) ∙ and_true _ _ (eq-eqb _ _ c.if-b-e.true))

pub returns-else-b-e : goal.returns-else-b-e
unfolding same_cells
returns-else-b-e c =
    sym (and_true _ _ (eq-eqb _ _ c.if-a-d.true) ∙ and_false _ _ (ne_eqb _ _ c.if-b-e.false))

pub returns-else-a-d : goal.returns-else-a-d
unfolding same_cells
returns-else-a-d c =
    sym (and_false _ _ (ne_eqb _ _ c.if-a-d.false))
