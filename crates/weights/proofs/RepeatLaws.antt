-- Laws of a row's columns in a list where one may stand twice, and of counting the rows' weights.
-- Assumes nothing.
use Prim.Native.Nat.{ℕ, ◌≤◌}
use native.Mathlib.Omega.{arith}
use mathlib.Core.Path.{◌≡◌}
use mathlib.Core.List.{List}
use lib.ListN.{length, get_or, set}
use Rattle.lattice.specs.declared.grid.Grid3d.{Grid3d}
use Rattle.lattice.specs.declared.grid.Position.{Position}
use Rattle.lattice.specs.Grid.{Limits, Inside}
use Rattle.numbers.specs.Lists.{Laid}
use Rattle.numbers.proofs.ListLaws.{laid_same}
use Rattle.weights.proofs.RowLaws.{three_few, place_small, slot_part, columns_most}
use Rattle.weights.specs.Tables.{slot_on, columns_in, PlacesOf, CountsOf, count_in}

-- ---- a row's columns, laid into a list with room, are read back

-- in a list of eight places
module _ {gf gc : Grid3d} {ps ns : List ℕ} {p : Position} {xs ys : List ℕ} {n : ℕ} (l : Limits gf) (i : Inside gf p) (h : PlacesOf gc ps ns)
    (w : Laid set xs 0 (columns_in gc ps ns p) ys n) (e : length xs ≡ 8) where
  row_few : length (columns_in gc ps ns p) ≤ 8
  row_few = let s = place_small l i in columns_most h p s.0 s.1 s.2

  pub row_room : n ≤ length ys
  row_room = omega (arith, row_few, w.next, laid_same w)

-- ---- counting the weights of the first r rows

-- a row has at most eight
pub count_few : {g : Grid3d} {ns : List ℕ} {p : Position} → Limits g → Inside g p → CountsOf ns → count_in ns p ≤ 8
unfolding count_in
count_few {g} {ns} {p} l h c =
    let s = place_small l h in
    let x : get_or ns (slot_on p 0 p.i) 0 ≤ 2 = c.few (slot_on p 0 p.i) (slot_part p 0 p.i (omega arith) s.0).below in
    let y : get_or ns (slot_on p 1 p.j) 0 ≤ 2 = c.few (slot_on p 1 p.j) (slot_part p 1 p.j (omega arith) s.1).below in
    let z : get_or ns (slot_on p 2 p.k) 0 ≤ 2 = c.few (slot_on p 2 p.k) (slot_part p 2 p.k (omega arith) s.2).below in
    three_few x y z
