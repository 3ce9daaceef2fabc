-- The definitions of this layer as equations, by cases: what a layer above cites where no law says more. A definition that changes behind its name changes here.
-- Assumes nothing.
use Prim.Native.Nat.{◌%◌, ◌*◌, ◌+◌, ◌-◌, ◌/◌, suc, ℕ}
use mathlib.Core.Bool.{Bool, ◌&&◌, cond}
use mathlib.Core.List.{List, [], ◌++◌, ◌∷◌}
use mathlib.Core.Path.{◌≡◌, refl}
use lib.Dec.{eqb, ltb}
use lib.ListN.{get_or, length, replicate}
use Rattle.numbers.specs.Lists.{tabulate}
use Rattle.numbers.specs.Terms.{columns_of}
use Rattle.lattice.specs.Curls.{divergence_of}
use Rattle.lattice.specs.Grid.{at_of, axis3, cells_of, index_of, last_axis, moved_to, n_of, next_axis, place_on, unknowns_of, with_component}
use Rattle.lattice.specs.Lattice.{edges_of, FullLattice, is_wall}
use Rattle.lattice.specs.Levels.{cells_at, line_at, line_no, lines_to, no_line, target, three_at}
use Rattle.lattice.specs.Line.{coarser_ends, packed, place_of}
use Rattle.lattice.specs.Neighbours.{arrived, fixed_at, is_fixed, neighbour_of, on_wall, shifted}
use Rattle.lattice.specs.Rows.{free_columns, free_of}
use Rattle.lattice.specs.Stretched.{across_map}
use Rattle.lattice.specs.declared.grid.Grid3d.{Grid3d}
use Rattle.lattice.specs.declared.grid.Position.{Position}

-- ---- Grid

pub n_of_is : (g : Grid3d) (a : ℕ) → n_of g a ≡ axis3 a g.nx g.ny g.nz
unfolding n_of
n_of_is g a = refl

pub n_of_0 : (g : Grid3d) → n_of g 0 ≡ g.nx
unfolding n_of axis3
n_of_0 g = refl

pub n_of_1 : (g : Grid3d) → n_of g 1 ≡ g.ny
unfolding n_of axis3
n_of_1 g = refl

pub n_of_2 : (g : Grid3d) → n_of g 2 ≡ g.nz
unfolding n_of axis3
n_of_2 g = refl

pub cells_of_is : (g : Grid3d) → cells_of g ≡ g.nx * g.ny * g.nz
unfolding cells_of
cells_of_is g = refl

pub unknowns_of_is : (g : Grid3d) → unknowns_of g ≡ 3 * cells_of g
unfolding unknowns_of
unknowns_of_is g = refl

pub next_axis_0 : next_axis 0 ≡ 1
unfolding next_axis axis3
next_axis_0 = refl

pub next_axis_1 : next_axis 1 ≡ 2
unfolding next_axis axis3
next_axis_1 = refl

pub next_axis_2 : next_axis 2 ≡ 0
unfolding next_axis axis3
next_axis_2 = refl

pub last_axis_0 : last_axis 0 ≡ 2
unfolding last_axis axis3
last_axis_0 = refl

pub last_axis_1 : last_axis 1 ≡ 0
unfolding last_axis axis3
last_axis_1 = refl

pub last_axis_2 : last_axis 2 ≡ 1
unfolding last_axis axis3
last_axis_2 = refl

pub place_on_is : (p : Position) (a : ℕ) → place_on p a ≡ axis3 a p.i p.j p.k
unfolding place_on
place_on_is p a = refl

pub place_on_0 : (p : Position) → place_on p 0 ≡ p.i
unfolding place_on axis3
place_on_0 p = refl

pub place_on_1 : (p : Position) → place_on p 1 ≡ p.j
unfolding place_on axis3
place_on_1 p = refl

pub place_on_2 : (p : Position) → place_on p 2 ≡ p.k
unfolding place_on axis3
place_on_2 p = refl

pub moved_to_0 : (p : Position) (m : ℕ) → moved_to p 0 m ≡ record { component = p.component; i = m; j = p.j; k = p.k }
unfolding moved_to axis3
moved_to_0 p m = refl

pub moved_to_1 : (p : Position) (m : ℕ) → moved_to p 1 m ≡ record { component = p.component; i = p.i; j = m; k = p.k }
unfolding moved_to axis3
moved_to_1 p m = refl

pub moved_to_2 : (p : Position) (m : ℕ) → moved_to p 2 m ≡ record { component = p.component; i = p.i; j = p.j; k = m }
unfolding moved_to axis3
moved_to_2 p m = refl

pub with_component_is : (p : Position) (c : ℕ) → with_component p c ≡ record { component = c; i = p.i; j = p.j; k = p.k }
unfolding with_component
with_component_is p c = refl

pub index_of_is : (g : Grid3d) (p : Position) → index_of g p ≡ p.component * cells_of g + (p.k * g.ny + p.j) * g.nx + p.i
unfolding index_of
index_of_is g p = refl

-- ---- Lattice

pub edges_of_is : (l : FullLattice) (a : ℕ) → edges_of l a ≡ axis3 a l.x l.y l.z
unfolding edges_of
edges_of_is l a = refl

pub edges_of_0 : (l : FullLattice) → edges_of l 0 ≡ l.x
unfolding edges_of axis3
edges_of_0 l = refl

pub edges_of_1 : (l : FullLattice) → edges_of l 1 ≡ l.y
unfolding edges_of axis3
edges_of_1 l = refl

pub edges_of_2 : (l : FullLattice) → edges_of l 2 ≡ l.z
unfolding edges_of axis3
edges_of_2 l = refl

-- ---- Levels

pub line_at_suc : (l : FullLattice) (a : ℕ) (L : ℕ) → line_at l a (suc L) ≡ coarser_ends (across_map l a) (target L) (line_at l a L)
unfolding line_at
line_at_suc l a L = refl

pub cells_at_is : (l : FullLattice) (a : ℕ) (L : ℕ) → cells_at l a L ≡ length (line_at l a L) - 1
unfolding cells_at
cells_at_is l a L = refl

pub no_line_is : no_line ≡ record { cells = 0; ends = replicate 65 0 }
unfolding no_line
no_line_is = refl

pub line_no_is : (l : FullLattice) (count : ℕ) (q : ℕ) → line_no l count q ≡ cond (ltb (q / 3) count) (packed (line_at l (q % 3) (q / 3))) no_line
unfolding line_no
line_no_is l count q = refl

pub lines_to_is : (l : FullLattice) (count : ℕ) → lines_to l count ≡ tabulate (line_no l count) 36 0
unfolding lines_to
lines_to_is l count = refl

pub three_at_is : (l : FullLattice) (L : ℕ) → three_at l L ≡ record { x = packed (line_at l 0 L); y = packed (line_at l 1 L); z = packed (line_at l 2 L) }
unfolding three_at
three_at_is l L = refl

-- ---- Line

pub packed_is : (es : List ℕ) → packed es ≡ record { cells = length es - 1; ends = es ++ replicate (65 - length es) 0 }
unfolding packed
packed_is es = refl

pub place_of_is : (es : List ℕ) (m : ℕ) (along : Bool) → place_of es m along ≡ cond along ((get_or es m 0 + get_or es (m + 1) 0) / 2) (get_or es m 0)
unfolding place_of
place_of_is es m along = refl

-- ---- Neighbours

pub neighbour_of_is : (l : FullLattice) (p : Position) (a : ℕ) (up : Bool) → neighbour_of l p a up ≡ arrived l p a (shifted (edges_of l a) (n_of l.grid a) (place_on p a) up)
unfolding neighbour_of
neighbour_of_is l p a up = refl

pub on_wall_is : (l : FullLattice) (p : Position) (a : ℕ) → on_wall l p a ≡ (eqb (place_on p a) 0 && is_wall (edges_of l a))
unfolding on_wall
on_wall_is l p a = refl

pub is_fixed_is : (l : FullLattice) (r : ℕ) → is_fixed l r ≡ fixed_at l (at_of l.grid r)
unfolding is_fixed
is_fixed_is l r = refl

-- ---- Rows

pub free_of_nil : (l : FullLattice) → free_of l [] ≡ []
unfolding free_of
free_of_nil l = refl

pub free_of_cons : (l : FullLattice) (c : ℕ) (cs : List ℕ) → free_of l (c ∷ cs) ≡ cond (is_fixed l c) (free_of l cs) (c ∷ free_of l cs)
unfolding free_of
free_of_cons l c cs = refl

pub free_columns_is : (l : FullLattice) (q : ℕ) → free_columns l q ≡ free_of l (columns_of (divergence_of l q))
unfolding free_columns
free_columns_is l q = refl
