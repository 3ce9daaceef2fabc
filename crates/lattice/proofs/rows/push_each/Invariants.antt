use mathlib.Core.List.{List}
use lib.ListN.{length}
use Rattle.numbers.specs.Terms.{Term}
use Rattle.lattice.specs.Calls.{Lays}
use Rattle.numbers.proofs.TermLaws.{Laying}
use Rattle.lattice.proofs.rows.push_each.Given as goal

abbrev pub invariant-loop-m : goal.invariant-loop-m
invariant-loop-m g l =
    (f : Term → List Term) → Lays (goal.F-post g l.push) f → Laying f l.cs l.xs (length l.cs) l.from l.initial.columns l.initial.values l.columns l.values l.k l.m
