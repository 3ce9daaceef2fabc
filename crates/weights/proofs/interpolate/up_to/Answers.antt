use mathlib.Core.Path.{◌∙◌, ap}
use lib.ListN.{length}
use Rattle.std.specs.Prelude.{unwrap_or}
use Rattle.weights.proofs.InterpolateLaws.{up_to_first}
use Rattle.weights.proofs.interpolate.up_to.Goals as goal

pub returns-clause-value : goal.returns-clause-value
returns-clause-value c =
    c.unwrap_or.ensures
    ∙ ap (λ o. unwrap_or o (length c.args.cs.now)) c.first_past.ensures
    ∙ up_to_first c.args.cs.now c.args.p
