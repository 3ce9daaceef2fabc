-- `store::needed::levels_needed` meets its contract.
-- Assumes nothing.
use Rattle.store.proofs.NeededLaws.{needed_all}
use Rattle.store.proofs.needed.levels_needed.Goals as goal

pub returns : goal.returns
returns c = needed_all _ _ _ c.args.h.now.l.limits c.requires.lines_value c.count.ensures c.cells_of.ensures
