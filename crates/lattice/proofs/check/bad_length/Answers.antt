-- `lattice::check::bad_length` meets its contract: `&&` by the way taken.
-- Assumes nothing.
use mathlib.Core.Bool.{not}
use mathlib.Core.Path.{sym, ◌∙◌, ap}
use Rattle.numbers.proofs.Laws.{and_true, and_false}
use Rattle.lattice.specs.Check.{bad_length}
use Rattle.numbers.proofs.Laws.{float_finite}
use Rattle.lattice.proofs.check.bad_length.Goals as goal
use Rattle.lattice.proofs.check.bad_length.Goals.{then-is_finite, else-is_finite}

pub returns : goal.returns
unfolding bad_length
returns c =
    let f = c.is_finite in
    ap not
    (elim c.if-is_finite.branch [
      | then-is_finite w ↦ w.result-is ∙ sym (and_true _ _ (sym (f.ensures.value ∙ float_finite c.args.x) ∙ w.if-is_finite.true))
      | else-is_finite w ↦ w.result-is ∙ ((f.ensures.value ∙ float_finite c.args.x) ∙ sym (and_false _ _ (sym (f.ensures.value ∙ float_finite c.args.x) ∙ w.if-is_finite.false)))
    ])
