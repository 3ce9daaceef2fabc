use mathlib.Core.Path.{◌∙◌, ap}
use lib.ListN.{length}
use Rattle.weights.proofs.TableLaws.{count_is}
use Rattle.weights.proofs.tables.count.Goals as goal

pub returns : goal.returns
returns c = c.count.ensures ∙ ap length c.slot_taken.ensures ∙ count_is _ _ _ _ _ c.args.q
