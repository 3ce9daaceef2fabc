-- `weights::tables::maps` meets its contract. Block by block, the list has the maps so far (`NumbersTo`).
-- Assumes nothing.
use native.Mathlib.Omega.{arith}
use lib.ListN.{length-replicate}
use Rattle.lattice.specs.Sound.{full}
use Rattle.numbers.proofs.RowLoops.{numbers_start, numbers_whole}
use Rattle.weights.proofs.TableLaws.{maps_turn}
use Rattle.weights.proofs.tables.maps.Goals as goal

pub returns : goal.returns
returns c =
    let a = c.args in
    let m = full a.l.now in
    numbers_whole
    (maps_turn m 5 (omega arith)
    c.along_map-3.ensures
    (maps_turn m 4 (omega arith)
    c.across_map-3.ensures
    (maps_turn m 3 (omega arith)
    c.along_map-2.ensures
    (maps_turn m 2 (omega arith)
    c.across_map-2.ensures
    (maps_turn m 1 (omega arith)
    c.along_map.ensures
    (maps_turn m 0 (omega arith)
    c.across_map.ensures
    (numbers_start (simp length-replicate))
    c.lay_map.ensures)
    c.lay_map-2.ensures)
    c.lay_map-3.ensures)
    c.lay_map-4.ensures)
    c.lay_map-5.ensures)
    c.lay_map-6.ensures)
