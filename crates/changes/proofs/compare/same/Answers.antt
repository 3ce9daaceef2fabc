use Rattle.std.proofs.Common.{◌∙◌}
use Rattle.changes.proofs.SliceLaws.{same_part}
use Rattle.changes.proofs.compare.same.Goals as goal

pub returns : goal.returns
returns c = c.eq.ensures ∙ same_part c.args.list.now c.args.k c.args.row.now c.args.n c.requires.0 c.requires.1
