-- Rows of the prolongation, from a coarse level to the next finer (docs/SPECIFICATION.md, 7): the product of the three axes' weights, times the
-- permittivity of the coarse edge over that of the fine level on the coarse value's line. Permittivities are seen only through readers, edge to
-- number: f for the fine level, g for the coarse one.
-- Assumes nothing.
use Rattle.std.specs.Prelude.{ℕ, ◌-◌, Bool, cond, List, [], ◌∷◌, eqb, length, get_or}
use Rattle.numbers.specs.declared.C64.{C64}
use Rattle.numbers.specs.Complex.{product, quotient}
use Rattle.lattice.specs.declared.grid.Position.{Position}
use Rattle.lattice.specs.Grid.{place_on, index_of, at_of}
use Rattle.lattice.specs.Lattice.{edges_of}
use Rattle.lattice.specs.Line.{place_of}
use Rattle.lattice.specs.Neighbours.{fixed_at}
use Rattle.lattice.specs.Stretched.{across_map, along_map}
use Rattle.numbers.specs.Terms.{Term, numbers_of}
use Rattle.numbers.specs.Lists.{each}
use Rattle.weights.specs.TwoLevels.{TwoLevels, fine_line, coarse_line, node_on, fine_grid, coarse_grid, fine_lattice, coarse_lattice}
use Rattle.weights.specs.Interpolate.{value_places, taken_places, interpolated}

-- the coarse values that place i of axis a takes, in the role of a component along that axis or across it
unfoldable pub axis_places : TwoLevels → ℕ → Bool → ℕ → List ℕ
axis_places t a along i =
    taken_places (edges_of t.base a) (value_places (coarse_line t a) along) along (place_of (fine_line t a) i along)

-- the same with their weights; the period is the coarse line's last end
unfoldable pub axis_terms : TwoLevels → ℕ → Bool → ℕ → List Term
axis_terms t a along i =
    interpolated (edges_of t.base a)
    (cond along (along_map t.base a) (across_map t.base a))
    (value_places (coarse_line t a) along)
    (get_or (coarse_line t a) (length (coarse_line t a) - 1) 0)
    along
    (place_of (fine_line t a) i along)

-- whether a position's component is along axis a
unfoldable pub is_along : Position → ℕ → Bool
is_along p a = eqb a p.component

-- ---- structure

-- the coarse edge of the fine edge's component at three places
unfoldable pub edge_at : Position → ℕ → ℕ → ℕ → Position
edge_at p i j k = record { component = p.component; i = i; j = j; k = k }

-- where a column's permittivity of the fine level is read: along the component at the fine edge's place, across it at the coarse node's
unfoldable pub read_place : TwoLevels → Position → ℕ → ℕ → ℕ
read_place t p a m = cond (is_along p a) (place_on p a) (node_on t a m)

unfoldable pub read_edge : TwoLevels → Position → ℕ → ℕ → ℕ → ℕ
read_edge t p i j k = index_of (fine_grid t) (edge_at p (read_place t p 0 i) (read_place t p 1 j) (read_place t p 2 k))

-- a fixed coarse edge gets no weight
unfoldable pub column_at : TwoLevels → Position → ℕ → ℕ → ℕ → List ℕ
column_at t p i j k = cond (fixed_at (coarse_lattice t) (edge_at p i j k)) [] (index_of (coarse_grid t) (edge_at p i j k) ∷ [])

-- what h gives for each triple of coarse places that a position takes, axis x outermost
unfoldable pub nest_z : {A : Type 0} → TwoLevels → Position → (ℕ → ℕ → ℕ → List A) → ℕ → ℕ → List A
nest_z t p h i j = each (h i j) (axis_places t 2 (is_along p 2) p.k)

unfoldable pub nest_y : {A : Type 0} → TwoLevels → Position → (ℕ → ℕ → ℕ → List A) → ℕ → List A
nest_y t p h i = each (nest_z t p h i) (axis_places t 1 (is_along p 1) p.j)

unfoldable pub nest : {A : Type 0} → TwoLevels → Position → (ℕ → ℕ → ℕ → List A) → List A
nest t p h = each (nest_y t p h) (axis_places t 0 (is_along p 0) p.i)

-- the columns of row r, in the order pushed; a fixed fine edge has none
unfoldable pub weight_columns : TwoLevels → ℕ → List ℕ
weight_columns t r = cond (fixed_at (fine_lattice t) (at_of (fine_grid t) r)) [] (nest t (at_of (fine_grid t) r) (column_at t (at_of (fine_grid t) r)))

-- ---- numbers

-- (wx wy) wz, times eps_c over eps_f
unfoldable pub weight_at : TwoLevels → (ℕ → C64) → (ℕ → C64) → Position → ℕ → ℕ → ℕ → C64 → C64
weight_at t f g p i j k w = product w (quotient (g (index_of (coarse_grid t) (edge_at p i j k))) (f (read_edge t p i j k)))

unfoldable pub term_at : TwoLevels → (ℕ → C64) → (ℕ → C64) → Position → ℕ → ℕ → C64 → Term → List Term
term_at t f g p i j w z =
    cond (fixed_at (coarse_lattice t) (edge_at p i j z.column))
    []
    (record {
      column = index_of (coarse_grid t) (edge_at p i j z.column);
      number = weight_at t f g p i j z.column (product w z.number);
    } ∷ [])

unfoldable pub terms_z : TwoLevels → (ℕ → C64) → (ℕ → C64) → Position → Term → Term → List Term
terms_z t f g p x y = each (term_at t f g p x.column y.column (product x.number y.number)) (axis_terms t 2 (is_along p 2) p.k)

unfoldable pub terms_y : TwoLevels → (ℕ → C64) → (ℕ → C64) → Position → Term → List Term
terms_y t f g p x = each (terms_z t f g p x) (axis_terms t 1 (is_along p 1) p.j)

unfoldable pub terms_x : TwoLevels → (ℕ → C64) → (ℕ → C64) → Position → List Term
terms_x t f g p = each (terms_y t f g p) (axis_terms t 0 (is_along p 0) p.i)

-- row r of the prolongation
unfoldable pub prolongation_row : TwoLevels → (ℕ → C64) → (ℕ → C64) → ℕ → List Term
prolongation_row t f g r = cond (fixed_at (fine_lattice t) (at_of (fine_grid t) r)) [] (terms_x t f g (at_of (fine_grid t) r))

-- its weights, in the order of its columns
unfoldable pub weight_numbers : TwoLevels → (ℕ → C64) → (ℕ → C64) → ℕ → List C64
weight_numbers t f g r = numbers_of (prolongation_row t f g r)

-- the edges of the fine level whose permittivities row r reads, one for each column; of the coarse level it reads those of its columns
unfoldable pub read_at : TwoLevels → Position → ℕ → ℕ → ℕ → List ℕ
read_at t p i j k = cond (fixed_at (coarse_lattice t) (edge_at p i j k)) [] (read_edge t p i j k ∷ [])

unfoldable pub weight_reads : TwoLevels → ℕ → List ℕ
weight_reads t r = cond (fixed_at (fine_lattice t) (at_of (fine_grid t) r)) [] (nest t (at_of (fine_grid t) r) (read_at t (at_of (fine_grid t) r)))
