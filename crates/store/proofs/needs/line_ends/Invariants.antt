-- `store::needs::line_ends` meets its contract.
-- Assumes nothing.
use Rattle.numbers.proofs.SumLaws.{Summing}
use Rattle.store.proofs.NeedLaws.{ends_in_lem}
use Rattle.store.proofs.needs.line_ends.Given as goal

abbrev pub invariant-loop-f : goal.invariant-loop-f
invariant-loop-f l =
    Summing (ends_in_lem l.fn.h.lines.now) l.n l.f-index l.total
