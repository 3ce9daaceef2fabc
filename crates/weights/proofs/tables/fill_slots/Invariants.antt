-- `weights::tables::fill_slots` meets its contract. The invariant: the first q counts and the first 2 q places are filled, zeros behind them.
-- Assumes nothing.
use Prim.Native.Nat.{◌*◌, ◌≤◌}
use Rattle.lattice.specs.Lattice.{full_lattice}
use Rattle.numbers.proofs.TabulateLaws.{Filled}
use Rattle.weights.specs.Tables.{count_from, place_from}
use Rattle.weights.proofs.tables.fill_slots.Given as goal

abbrev pub invariant-loop-q : goal.invariant-loop-q
invariant-loop-q l =
    (l.q ≤ 384) × Filled (count_from (full_lattice l.l l.st) l.t.fine l.t.coarse l.t.fine_values l.t.coarse_values) 0 0 384 l.q l.counts
    × Filled (place_from (full_lattice l.l l.st) l.t.fine l.t.coarse l.t.fine_values l.t.coarse_values) 0 0 768 (2 * l.q) l.places
