-- `reach::hits::first_operator` meets its contract.
-- Assumes nothing.
use Rattle.store.proofs.HitLaws.{first_left, first_raised}
use Rattle.reach.proofs.hits.first_operator.Goals as goal

pub returns-then-only-gt0 : goal.returns-then-only-gt0
returns-then-only-gt0 c = first_left _ _ _ c.only.ensures c.if-only-gt0.true

pub returns : goal.returns
returns c = first_raised _ _ _ c.lattice_flags.ensures
