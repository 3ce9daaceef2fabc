-- The definitions of this layer as equations, by cases: what a layer above cites where no law says more. A definition that changes behind its name changes here.
-- Assumes nothing.
use Prim.Native.Nat.{◌%◌, ◌*◌, ◌+◌, ◌-◌, ◌/◌, ℕ}
use mathlib.Core.Bool.{Bool, ◌&&◌, not}
use mathlib.Core.List.{List, [], ◌∷◌}
use mathlib.Core.Path.{◌≡◌, refl}
use lib.Dec.{eqb}
use lib.Ieee.{binary64, of_int}
use lib.IntN.{pos}
use lib.ListN.{get_or, length}
use Rattle.numbers.specs.Lists.{tabulate}
use Rattle.numbers.specs.Terms.{numbers_of}
use Rattle.numbers.specs.declared.C64.{C64}
use Rattle.lattice.specs.Grid.{axis3, index_of, moved_to, place_on}
use Rattle.lattice.specs.Lattice.{edges_of, FullLattice, is_wall}
use Rattle.lattice.specs.Line.{ends_of}
use Rattle.lattice.specs.declared.grid.Grid3d.{Grid3d}
use Rattle.lattice.specs.declared.grid.Position.{Position}
use Rattle.lattice.specs.declared.levels.Three.{Three}
use Rattle.lattice.proofs.NestLaws.{axis3_0, axis3_1, axis3_2}
use Rattle.weights.specs.CoarseEps.{edge_along, edges_along}
use Rattle.weights.specs.Interpolate.{whole}
use Rattle.weights.specs.Product.{column_in, walled}
use Rattle.weights.specs.Prolongation.{edge_at, is_along, prolongation_row, weight_numbers}
use Rattle.weights.specs.Tables.{cell_first, cell_last, lines_in, place_entry, slot_place, slot_places}
use Rattle.weights.specs.TwoLevels.{TwoLevels, coarse_cells, coarse_line, fine_cells, fine_line, grid_with, two_of}

-- ---- CoarseEps

pub edge_along_is : (g : Grid3d) (p : Position) (m : ℕ) → edge_along g p m ≡ index_of g (moved_to p p.component m)
unfolding edge_along
edge_along_is g p m = refl

pub edges_along_is : (g : Grid3d) (p : Position) (first : ℕ) (n : ℕ) → edges_along g p first n ≡ tabulate (edge_along g p) n first
unfolding edges_along
edges_along_is g p first n = refl

-- ---- Interpolate

pub whole_is : (n : ℕ) → whole n ≡ of_int binary64 (pos n)
unfolding whole
whole_is n = refl

-- ---- Product

pub walled_is : (l : FullLattice) (a : ℕ) (along : Bool) → walled l a along ≡ (not along && is_wall (edges_of l a))
unfolding walled
walled_is l a along = refl

pub column_in_is : (g : Grid3d) (p : Position) (i : ℕ) (j : ℕ) (k : ℕ) → column_in g p i j k ≡ (index_of g (edge_at p i j k) ∷ [])
unfolding column_in
column_in_is g p i j k = refl

-- ---- Prolongation

pub is_along_is : (p : Position) (a : ℕ) → is_along p a ≡ eqb a p.component
unfolding is_along
is_along_is p a = refl

pub edge_at_is : (p : Position) (i : ℕ) (j : ℕ) (k : ℕ) → edge_at p i j k ≡ record { component = p.component; i = i; j = j; k = k }
unfolding edge_at
edge_at_is p i j k = refl

pub weight_numbers_is : (t : TwoLevels) (f g : (ℕ → C64)) (r : ℕ) → weight_numbers t f g r ≡ numbers_of (prolongation_row t f g r)
unfolding weight_numbers
weight_numbers_is t f g r = refl

-- ---- Tables

pub slot_place_is : (q : ℕ) → slot_place q ≡ q % 64
unfolding slot_place
slot_place_is q = refl

pub place_entry_is : (t : TwoLevels) (e : ℕ) → place_entry t e ≡ get_or (slot_places t (e / 2)) (e % 2) 0
unfolding place_entry
place_entry_is t e = refl

pub lines_in_is : (s : Three) (a : ℕ) → lines_in s a ≡ axis3 a (ends_of s.x) (ends_of s.y) (ends_of s.z)
unfolding lines_in
lines_in_is s a = refl

pub lines_in_0 : (s : Three) → lines_in s 0 ≡ ends_of s.x
unfolding lines_in
lines_in_0 s = axis3_0 _ _ _

pub lines_in_1 : (s : Three) → lines_in s 1 ≡ ends_of s.y
unfolding lines_in
lines_in_1 s = axis3_1 _ _ _

pub lines_in_2 : (s : Three) → lines_in s 2 ≡ ends_of s.z
unfolding lines_in
lines_in_2 s = axis3_2 _ _ _

pub cell_first_is : (nn : List ℕ) (p : Position) → cell_first nn p ≡ get_or nn (65 * p.component + place_on p p.component) 0
unfolding cell_first
cell_first_is nn p = refl

pub cell_last_is : (nn : List ℕ) (p : Position) → cell_last nn p ≡ get_or nn (65 * p.component + place_on p p.component + 1) 0
unfolding cell_last
cell_last_is nn p = refl

-- ---- TwoLevels

pub fine_line_is : (t : TwoLevels) (a : ℕ) → fine_line t a ≡ axis3 a t.fine_x t.fine_y t.fine_z
unfolding fine_line
fine_line_is t a = refl

pub fine_line_0 : (t : TwoLevels) → fine_line t 0 ≡ t.fine_x
unfolding fine_line
fine_line_0 t = axis3_0 _ _ _

pub fine_line_1 : (t : TwoLevels) → fine_line t 1 ≡ t.fine_y
unfolding fine_line
fine_line_1 t = axis3_1 _ _ _

pub fine_line_2 : (t : TwoLevels) → fine_line t 2 ≡ t.fine_z
unfolding fine_line
fine_line_2 t = axis3_2 _ _ _

pub coarse_line_is : (t : TwoLevels) (a : ℕ) → coarse_line t a ≡ axis3 a t.coarse_x t.coarse_y t.coarse_z
unfolding coarse_line
coarse_line_is t a = refl

pub coarse_line_0 : (t : TwoLevels) → coarse_line t 0 ≡ t.coarse_x
unfolding coarse_line
coarse_line_0 t = axis3_0 _ _ _

pub coarse_line_1 : (t : TwoLevels) → coarse_line t 1 ≡ t.coarse_y
unfolding coarse_line
coarse_line_1 t = axis3_1 _ _ _

pub coarse_line_2 : (t : TwoLevels) → coarse_line t 2 ≡ t.coarse_z
unfolding coarse_line
coarse_line_2 t = axis3_2 _ _ _

pub fine_cells_is : (t : TwoLevels) (a : ℕ) → fine_cells t a ≡ length (fine_line t a) - 1
unfolding fine_cells
fine_cells_is t a = refl

pub coarse_cells_is : (t : TwoLevels) (a : ℕ) → coarse_cells t a ≡ length (coarse_line t a) - 1
unfolding coarse_cells
coarse_cells_is t a = refl

pub grid_with_is : (g : Grid3d) (nx : ℕ) (ny : ℕ) (nz : ℕ) → grid_with g nx ny nz ≡ record { nx = nx; ny = ny; nz = nz; dx = g.dx; dy = g.dy; dz = g.dz }
unfolding grid_with
grid_with_is g nx ny nz = refl

pub two_of_is : (l : FullLattice) (fine : Three) (coarse : Three) → two_of l fine coarse ≡ record {
  base = l;
  fine_x = ends_of fine.x;
  fine_y = ends_of fine.y;
  fine_z = ends_of fine.z;
  coarse_x = ends_of coarse.x;
  coarse_y = ends_of coarse.y;
  coarse_z = ends_of coarse.z;
}
unfolding two_of
two_of_is l fine coarse = refl
