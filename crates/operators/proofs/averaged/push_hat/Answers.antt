-- `operators::averaged::push_hat` meets its contract.
-- Assumes nothing.
use mathlib.Core.Path.{refl, sym, ◌∙◌}
use lib.Seq.{set_out}
use Rattle.numbers.proofs.ListLaws.{laid_one}
use Rattle.operators.proofs.averaged.push_hat.Goals.{then-k-hats, else-k-hats}
use Rattle.operators.proofs.averaged.push_hat.Goals as goal

pub returns : goal.returns
returns c =
    laid_one
    (elim c.if-k-hats.branch [ then-k-hats w ↦ w.hats-is | else-k-hats w ↦ w.hats-is ∙ sym (set_out c.args.hats.now c.args.k c.args.h w.if-k-hats.false) ])
    refl
