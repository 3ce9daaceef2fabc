-- The rows of the prolongation as products over the axes (docs/SPECIFICATION.md, 7): with the fixed places taken out axis by axis first, no edge
-- needs a test. `proofs/ProductLaws` shows that these are the rows of `Prolongation`.
-- Assumes nothing.
use Rattle.std.specs.Prelude.{ℕ, ◌*◌, Bool, not, ◌&&◌, cond, List, [], ◌∷◌, eqb, length}
use Rattle.numbers.specs.declared.C64.{C64}
use Rattle.numbers.specs.Complex.{product}
use Rattle.lattice.specs.declared.grid.Grid3d.{Grid3d}
use Rattle.lattice.specs.declared.grid.Position.{Position}
use Rattle.lattice.specs.Grid.{index_of, at_of}
use Rattle.lattice.specs.Lattice.{FullLattice, edges_of, is_wall}
use Rattle.numbers.specs.Terms.{Term}
use Rattle.numbers.specs.Lists.{each, sum_to}
use Rattle.weights.specs.TwoLevels.{TwoLevels, fine_cells, fine_grid, coarse_grid}
use Rattle.weights.specs.Prolongation.{axis_places, axis_terms, is_along, edge_at, weight_at}

-- on a wall axis a component across it is fixed at place 0
unfoldable pub walled : FullLattice → ℕ → Bool → Bool
walled l a along = not along && is_wall (edges_of l a)

-- some places, and some terms, without place 0 where it is fixed
unfoldable pub kept_places : Bool → List ℕ → List ℕ
kept_places wall [] = []
kept_places wall (m ∷ ms) = cond (wall && eqb m 0) (kept_places wall ms) (m ∷ kept_places wall ms)

unfoldable pub kept_terms : Bool → List Term → List Term
kept_terms wall [] = []
kept_terms wall (t ∷ ts) = cond (wall && eqb t.column 0) (kept_terms wall ts) (t ∷ kept_terms wall ts)

-- what place i takes of axis a: nothing if it is fixed itself
unfoldable pub free_places : TwoLevels → ℕ → Bool → ℕ → List ℕ
free_places t a along i = cond (walled t.base a along && eqb i 0) [] (kept_places (walled t.base a along) (axis_places t a along i))

unfoldable pub free_terms : TwoLevels → ℕ → Bool → ℕ → List Term
free_terms t a along i = cond (walled t.base a along && eqb i 0) [] (kept_terms (walled t.base a along) (axis_terms t a along i))

-- ---- the products

unfoldable pub column_in : Grid3d → Position → ℕ → ℕ → ℕ → List ℕ
column_in g p i j k = index_of g (edge_at p i j k) ∷ []

unfoldable pub product_z : TwoLevels → Position → ℕ → ℕ → List ℕ
product_z t p i j = each (column_in (coarse_grid t) p i j) (free_places t 2 (is_along p 2) p.k)

unfoldable pub product_y : TwoLevels → Position → ℕ → List ℕ
product_y t p i = each (product_z t p i) (free_places t 1 (is_along p 1) p.j)

unfoldable pub product_columns : TwoLevels → Position → List ℕ
product_columns t p = each (product_y t p) (free_places t 0 (is_along p 0) p.i)

unfoldable pub term_of : TwoLevels → (ℕ → C64) → (ℕ → C64) → Position → ℕ → ℕ → C64 → Term → List Term
term_of t f g p i j w z =
    record {
      column = index_of (coarse_grid t) (edge_at p i j z.column);
      number = weight_at t f g p i j z.column (product w z.number);
    } ∷ []

unfoldable pub product_terms_z : TwoLevels → (ℕ → C64) → (ℕ → C64) → Position → Term → Term → List Term
product_terms_z t f g p x y = each (term_of t f g p x.column y.column (product x.number y.number)) (free_terms t 2 (is_along p 2) p.k)

unfoldable pub product_terms_y : TwoLevels → (ℕ → C64) → (ℕ → C64) → Position → Term → List Term
product_terms_y t f g p x = each (product_terms_z t f g p x) (free_terms t 1 (is_along p 1) p.j)

unfoldable pub product_terms : TwoLevels → (ℕ → C64) → (ℕ → C64) → Position → List Term
product_terms t f g p = each (product_terms_y t f g p) (free_terms t 0 (is_along p 0) p.i)

-- how many weights a row has: the product over the axes
unfoldable pub weight_count : TwoLevels → Position → ℕ
weight_count t p =
    length (free_places t 0 (is_along p 0) p.i)
    * length (free_places t 1 (is_along p 1) p.j)
    * length (free_places t 2 (is_along p 2) p.k)

-- how many row r has
unfoldable pub row_weights : TwoLevels → ℕ → ℕ
row_weights t r = weight_count t (at_of (fine_grid t) r)

-- how many values of axis a the places of component c take in all, and how many weights the rows of component c, and all rows, have
unfoldable pub axis_taken : TwoLevels → ℕ → ℕ → ℕ → ℕ
axis_taken t c a i = length (free_places t a (eqb a c) i)

unfoldable pub axis_weights : TwoLevels → ℕ → ℕ → ℕ
axis_weights t c a = sum_to (axis_taken t c a) (fine_cells t a)

unfoldable pub component_weights : TwoLevels → ℕ → ℕ
component_weights t c = axis_weights t c 0 * axis_weights t c 1 * axis_weights t c 2

unfoldable pub transfer_weights : TwoLevels → ℕ
transfer_weights t = sum_to (component_weights t) 3
