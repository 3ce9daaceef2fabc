-- `renew::cursor::save` meets its contract.
-- Assumes nothing.
use Rattle.std.proofs.Common.{◌<◌}
use Rattle.store.specs.Lists.{five_of}
use Rattle.renew.specs.Walk.{chart_of}
use Rattle.store.proofs.CellLaws.{Saving}
use Rattle.renew.proofs.cursor.save.Given as goal

abbrev pub invariant-loop-n : goal.invariant-loop-n
invariant-loop-n l =
    (0 < l.c.left) × Saving (chart_of l.fn.w) l.fn.w.parts (five_of l.v) l.initial.c l.old l.c l.n
