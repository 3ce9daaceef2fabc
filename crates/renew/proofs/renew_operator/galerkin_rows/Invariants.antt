-- `renew::renew_operator::galerkin_rows` meets its contract. The invariant: the flagged ones of the first c rows are worked out, and the sums are +0.
-- Assumes nothing.
use Rattle.store.specs.Hierarchy.{the_lattice}
use Prim.Native.Nat.{suc, ◌≤◌}
use mathlib.Core.Path.{◌≡◌}
use lib.ListN.{length}
use Rattle.store.specs.Parts.{flagged_to}
use Rattle.operators.specs.Galerkin.{no_sums}
use Rattle.store.specs.Rows.{operator}
use Rattle.store.specs.Lists.{fixed_of}
use Rattle.store.specs.RenewSteps.{GalerkinRenewed}
use Rattle.renew.proofs.renew_operator.galerkin_rows.Given as goal

abbrev pub invariant-loop-c : goal.invariant-loop-c
invariant-loop-c l =
    (l.c ≤ l.n)
    × ((length l.ovalues ≡ length l.initial.ovalues)
    × ((l.sums ≡ no_sums)
    × GalerkinRenewed (the_lattice l.h) l.h.m (fixed_of l.s) (flagged_to (operator (suc l.level)) l.flags l.base l.c) l.eps l.values l.tvalues l.initial.ovalues 0 l.ovalues))
