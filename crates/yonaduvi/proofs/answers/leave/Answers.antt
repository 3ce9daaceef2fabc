-- `yonaduvi::answers::leave` meets its contract.
-- Assumes nothing.
use mathlib.Core.List.{[]}
use mathlib.Core.Path.{◌∙◌}
use Rattle.yonaduvi.proofs.ExportLaws.{any_values}
use Rattle.yonaduvi.proofs.answers.leave.Goals as goal

pub returns : goal.returns
returns c = λ vs. c.leave_answer.ensures ∙ any_values c.args.r c.args.list.now [] vs
