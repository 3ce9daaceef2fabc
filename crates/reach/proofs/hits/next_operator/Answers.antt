-- `reach::hits::next_operator` meets its contract.
-- Assumes nothing.
use Rattle.store.proofs.HitLaws.{part_stays, part_moves}
use Rattle.reach.proofs.hits.next_operator.Goals as goal

pub returns-then-level-eq0 : goal.returns-then-level-eq0
returns-then-level-eq0 c = part_stays _ _ _ c.if-level-eq0.true

pub behind-requires : goal.behind-requires
behind-requires c = c.requires c.if-level-eq0.false

pub returns : goal.returns
returns c = part_moves _ _ _ c.if-level-eq0.false c.behind.ensures
