use Prim.Native.Nat.{◌≤◌}
use Rattle.lattice.specs.Grid.{at_of}
use Rattle.numbers.specs.Places.{set_number}
use Rattle.weights.specs.Tables.{numbers_in}
use Rattle.numbers.specs.Lists.{read_from}
use Rattle.numbers.proofs.RowLoops.{Going}
use Rattle.weights.proofs.rows.all_numbers.Given as goal

abbrev pub invariant-loop-r : goal.invariant-loop-r
invariant-loop-r l =
    (l.n ≤ 12288) × Going set_number (numbers_in l.t.span.fine l.t.span.coarse (read_from l.t.eps.now l.t.span.feps) (read_from l.t.eps.now l.t.span.ceps) l.t.places.now l.t.nodes.now l.t.counts.now l.t.pulls.now) (at_of l.t.span.fine) 8 l.n l.from l.initial.values l.values l.k l.r
