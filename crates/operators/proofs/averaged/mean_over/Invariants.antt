-- `operators::averaged::mean_over` meets its contract. The invariants: the rest of the hats comes to the whole.
-- Assumes nothing.
use Prim.Native.Nat.{◌-◌}
use mathlib.Core.Path.{◌≡◌}
use lib.ListN.{drop}
use Rattle.numbers.specs.Lists.{read_from}
use Rattle.operators.specs.Averaged.{weigh_lines, weigh_all, nothing}
use Rattle.operators.proofs.averaged.mean_over.Given as goal

abbrev pub invariant-loop-h : goal.invariant-loop-h
invariant-loop-h l =
    weigh_all l.c.grid (read_from l.eps l.from) l.c.p l.c.first (l.c.last - l.c.first) l.last l.sum (drop l.h-index l.next)
    ≡ weigh_all l.c.grid (read_from l.eps l.from) l.c.p l.c.first (l.c.last - l.c.first) l.last nothing l.next

abbrev pub invariant-loop-k : goal.invariant-loop-k
invariant-loop-k l =
    weigh_lines l.c.grid (read_from l.eps l.from) l.c.p l.c.first (l.c.last - l.c.first) l.h l.sum (drop l.k-index l.last)
    ≡ weigh_lines l.c.grid (read_from l.eps l.from) l.c.p l.c.first (l.c.last - l.c.first) l.h l.initial.sum l.last
