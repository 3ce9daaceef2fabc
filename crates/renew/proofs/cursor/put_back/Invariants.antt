-- `renew::cursor::put_back` meets its contract.
-- Assumes nothing.
use Rattle.store.specs.Lists.{five_of, SameNumbers}
use Rattle.renew.specs.Long.{SameLong}
use Rattle.renew.specs.Walk.{chart_of}
use Rattle.store.proofs.CellLaws.{Putting}
use Rattle.renew.proofs.cursor.put_back.Given as goal

abbrev pub invariant-loop-x : goal.invariant-loop-x
invariant-loop-x l =
    Putting (chart_of l.fn.w) l.fn.w.parts (five_of l.initial.v) l.initial.c l.fn.n l.fn.old (five_of l.v) l.c l.x-index
    × SameNumbers l.initial.v l.v
    × SameLong (five_of l.initial.v) (five_of l.v)
