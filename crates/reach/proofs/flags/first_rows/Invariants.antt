-- `reach::flags::first_rows` meets its contract. The invariant: the first c rows that are flagged have set the flags of their columns.
-- Assumes nothing.
use Prim.Native.Nat.{◌≤◌}
use Rattle.lattice.specs.Sound.{full}
use Rattle.store.specs.Layout.{operator_cols}
use Rattle.store.specs.declared.Choice.TheVariants.{Galerkin}
use Rattle.numbers.proofs.MarkedLaws.{Spread}
use Rattle.reach.proofs.flags.first_rows.Given as goal

abbrev pub invariant-loop-c : goal.invariant-loop-c
invariant-loop-c l = (l.c ≤ l.n) × Spread l.flags (operator_cols (full l.l) Galerkin 0) l.initial.out l.out l.c
