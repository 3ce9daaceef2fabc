-- `operators::averaged::through` meets its contract.
-- Assumes nothing.
use Rattle.operators.proofs.averaged.through.Goals as goal

pub returns : goal.returns
returns c = rw (← c.next_axis-b.ensures, ← c.last_axis-c.ensures, ← c.moved_to.ensures) c.moved_to-2.ensures
