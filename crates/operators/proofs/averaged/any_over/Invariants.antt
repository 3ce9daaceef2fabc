-- `operators::averaged::any_over` meets its contract. The invariants: the lines through the rest of the hats decide.
-- Assumes nothing.
use Prim.Native.Nat.{◌-◌}
use mathlib.Core.Path.{◌≡◌}
use lib.ListN.{drop}
use Rattle.numbers.specs.Lists.{each, any_flag}
use Rattle.operators.specs.Averaged.{line_edges, hat_edges}
use Rattle.operators.proofs.averaged.any_over.Given as goal

abbrev pub invariant-loop-h : goal.invariant-loop-h
invariant-loop-h l =
    any_flag l.flags (each (hat_edges l.c.grid l.c.p l.c.first (l.c.last - l.c.first) l.last) (drop l.h-index l.next))
    ≡ any_flag l.flags (each (hat_edges l.c.grid l.c.p l.c.first (l.c.last - l.c.first) l.last) l.next)

abbrev pub invariant-loop-k : goal.invariant-loop-k
invariant-loop-k l =
    any_flag l.flags (each (line_edges l.c.grid l.c.p l.c.first (l.c.last - l.c.first) l.h) (drop l.k-index l.last))
    ≡ any_flag l.flags (each (line_edges l.c.grid l.c.p l.c.first (l.c.last - l.c.first) l.h) l.last)
