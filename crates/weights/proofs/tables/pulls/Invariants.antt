-- `weights::tables::pulls` meets its contract. The invariant (`NumbersTo`): the first 2 q numbers are there.
-- Assumes nothing.
use Prim.Native.Nat.{◌*◌, ◌≤◌}
use Rattle.lattice.specs.Lattice.{full_lattice}
use Rattle.weights.specs.Tables.{pull_from}
use Rattle.numbers.proofs.RowLoops.{NumbersTo}
use Rattle.weights.proofs.tables.pulls.Given as goal

abbrev pub invariant-loop-q : goal.invariant-loop-q
invariant-loop-q l = (l.q ≤ 384) × NumbersTo (pull_from (full_lattice l.l l.st) l.t.fine l.t.coarse l.t.fine_values l.t.coarse_values l.xs l.es) 768 (2 * l.q) l.out
