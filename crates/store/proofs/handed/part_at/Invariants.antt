-- `store::handed::part_at` meets its contract. The invariant (`Passed`): where the starts and the terms of the first q parts end; both fit.
-- Assumes nothing.
use Rattle.store.specs.Handed.{rows_from}
use Rattle.store.proofs.HandedLaws.{Passed}
use Rattle.store.proofs.handed.part_at.Given as goal

abbrev pub invariant-loop-q : goal.invariant-loop-q
invariant-loop-q l = Passed (rows_from l.c l.first) l.starts l.room l.part l.q l.at l.terms
