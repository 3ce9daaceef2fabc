-- Theorems about the rows of the prolongation and about the coarse permittivities: where the columns lie, and what of the permittivities is read.
-- Assumes nothing.
use Prim.Native.Nat.{ℕ, ◌<◌}
use mathlib.Core.Path.{◌≡◌, refl, ap, ◌∙◌}
use mathlib.Core.Bool.{Bool, true, false, cond}
use mathlib.Core.List.Memᴰ.{head}
use mathlib.Core.List.{List, [], ◌∷◌, Memᴰ as In}
use lib.ListN.{length, get_or}
use Rattle.numbers.specs.declared.C64.{C64}
use Rattle.numbers.specs.Complex.{one_f, zero_number, product, quotient, real_over}
use Rattle.lattice.specs.declared.grid.Position.{Position}
use Rattle.lattice.specs.Grid.{index_of, at_of, unknowns_of, Limits, Inside}
use Rattle.lattice.specs.Neighbours.{fixed_at, is_fixed}
use Rattle.numbers.specs.Lists.{summed}
use Rattle.numbers.specs.Terms.{Term}
use Rattle.lattice.proofs.GridLaws.{index_below}
use Rattle.weights.specs.TwoLevels.{TwoLevels, grid_with, fine_grid, coarse_grid, fine_lattice, coarse_lattice, on_grid}
use Rattle.weights.specs.Interpolate.{whole}
use Rattle.weights.specs.Prolongation.{axis_places, axis_terms, is_along, edge_at, read_edge, column_at, nest_z, nest_y, nest, weight_columns, weight_at, term_at, terms_z, terms_y, terms_x, prolongation_row, read_at, weight_reads}
use Rattle.weights.specs.Product.{column_in, product_z, product_y, product_columns}
use Rattle.weights.specs.CoarseEps.{eps_reads, inverted, harmonic, coarse_eps}
use Rattle.numbers.proofs.EachLaws.{All, none, more, all_each, all_at, each_long}
use Rattle.numbers.proofs.LoopLaws.{summed_local, each_local}
use Rattle.lattice.proofs.NestLaws.{fixed_index}
use Rattle.weights.proofs.ProductLaws.{FreePlace, free_all, fixed_coarse, columns_product, axis_columns}

-- ---- the columns are edges of the coarse level that are not fixed

pub record FreeEdge (t : TwoLevels) (c : ℕ) : Type 0 where
  pub low : c < unknowns_of (coarse_grid t)
  pub free : is_fixed (coarse_lattice t) c ≡ false

module _ (t : TwoLevels) (h : Limits (coarse_grid t)) (p : Position) (b : p.component < 3) where
  free_edge : (i j k : ℕ) → FreePlace t 0 (is_along p 0) i → FreePlace t 1 (is_along p 1) j → FreePlace t 2 (is_along p 2) k
      → FreeEdge t (index_of (coarse_grid t) (edge_at p i j k))
  unfolding coarse_grid grid_with edge_at coarse_lattice on_grid
  free_edge i j k x y z =
      let e : Inside (coarse_grid t) (edge_at p i j k) = record { c_in = b; i_in = x.low; j_in = y.low; k_in = z.low } in
      record {
        low = index_below h e;
        free = fixed_index (coarse_lattice t) h e ∙ fixed_coarse t p i j k ∙ rw (x.free, y.free, z.free);
      }

  product_free : All (FreeEdge t) (product_columns t p)
  unfolding product_columns product_y product_z column_in coarse_grid grid_with
  product_free =
      all_each (product_y t p)
      (λ i x. all_each (product_z t p i)
      (λ j y. all_each (column_in (coarse_grid t) p i j) (λ k z. more (free_edge i j k x y z) none) (free_all t 2 (is_along p 2) p.k h.z_some))
      (free_all t 1 (is_along p 1) p.j h.y_some))
      (free_all t 0 (is_along p 0) p.i h.x_some)

pub columns_free : (t : TwoLevels) (r : ℕ) → Limits (coarse_grid t) → (at_of (fine_grid t) r).component < 3 → All (FreeEdge t) (weight_columns t r)
columns_free t r h b = rw (columns_product t r) (product_free t h (at_of (fine_grid t) r) b)

-- the same by number
pub columns_inside : (t : TwoLevels) (r : ℕ) → Limits (coarse_grid t) → (at_of (fine_grid t) r).component < 3
    → (d : ℕ) → d < length (weight_columns t r) → FreeEdge t (get_or (weight_columns t r) d 0)
columns_inside t r h b d m = all_at (columns_free t r h b) d 0 m

-- ---- locality: a row sees of the permittivities only what stands at the edges that it reads

-- two readers agree on some edges
abbrev pub Agree : (ℕ → C64) → (ℕ → C64) → List ℕ → Type 0
Agree f f' cs = (c : ℕ) → In c cs → f c ≡ f' c

module _ (f f' g g' : ℕ → C64) where
  module _ (t : TwoLevels) (p : Position) where
    term_local : (i j : ℕ) (w : C64) (z : Term) → Agree f f' (read_at t p i j z.column) → Agree g g' (column_at t p i j z.column)
        → term_at t f g p i j w z ≡ term_at t f' g' p i j w z
    unfolding read_at column_at term_at weight_at
    term_local i j w z =
        go (fixed_at (coarse_lattice t) (edge_at p i j z.column)) (index_of (coarse_grid t) (edge_at p i j z.column)) (read_edge t p i j z.column)
      where
        go : (fixed : Bool) (c d : ℕ) → Agree f f' (cond fixed [] (d ∷ [])) → Agree g g' (cond fixed [] (c ∷ []))
            → ◌≡◌ {A = List Term} (cond fixed [] (record { column = c; number = product (product w z.number) (quotient (g c) (f d)) } ∷ []))
            (cond fixed [] (record { column = c; number = product (product w z.number) (quotient (g' c) (f' d)) } ∷ []))
        go true c d a b = refl
        go false c d a b = λ i. record { column = c; number = product (product w z.number) (quotient (b c (head refl) i) (a d (head refl) i)) } ∷ []

    terms_z_local : (x y : Term) → Agree f f' (nest_z t p (read_at t p) x.column y.column) → Agree g g' (nest_z t p (column_at t p) x.column y.column)
        → terms_z t f g p x y ≡ terms_z t f' g' p x y
    unfolding nest_z terms_z
    terms_z_local x y =
        let w = product x.number y.number in
        each_local (λ c. f c ≡ f' c) (λ c. g c ≡ g' c) (term_at t f g p x.column y.column w) (term_at t f' g' p x.column y.column w)
        (read_at t p x.column y.column) (column_at t p x.column y.column) (term_local x.column y.column w)
        (axis_terms t 2 (is_along p 2) p.k) (axis_columns t 2 (is_along p 2) p.k)

    terms_y_local : (x : Term) → Agree f f' (nest_y t p (read_at t p) x.column) → Agree g g' (nest_y t p (column_at t p) x.column) → terms_y t f g p x ≡ terms_y t f' g' p x
    unfolding nest_y terms_y
    terms_y_local x =
        each_local (λ c. f c ≡ f' c) (λ c. g c ≡ g' c) (terms_z t f g p x) (terms_z t f' g' p x) (nest_z t p (read_at t p) x.column) (nest_z t p (column_at t p) x.column) (terms_z_local x)
        (axis_terms t 1 (is_along p 1) p.j) (axis_columns t 1 (is_along p 1) p.j)

    terms_x_local : Agree f f' (nest t p (read_at t p)) → Agree g g' (nest t p (column_at t p)) → terms_x t f g p ≡ terms_x t f' g' p
    unfolding nest terms_x
    terms_x_local =
        each_local (λ c. f c ≡ f' c) (λ c. g c ≡ g' c) (terms_y t f g p) (terms_y t f' g' p) (nest_y t p (read_at t p)) (nest_y t p (column_at t p)) terms_y_local
        (axis_terms t 0 (is_along p 0) p.i) (axis_columns t 0 (is_along p 0) p.i)

-- f and f' read the fine level, g and g' the coarse one
pub row_local : (t : TwoLevels) (f f' g g' : ℕ → C64) (r : ℕ) → ((c : ℕ) → In c (weight_reads t r) → f c ≡ f' c)
    → ((c : ℕ) → In c (weight_columns t r) → g c ≡ g' c) → prolongation_row t f g r ≡ prolongation_row t f' g' r
unfolding prolongation_row weight_reads weight_columns
row_local t f f' g g' r = go (fixed_at (fine_lattice t) (at_of (fine_grid t) r)) (at_of (fine_grid t) r)
  where
    go : (b : Bool) (p : Position) → Agree f f' (cond b [] (nest t p (read_at t p))) → Agree g g' (cond b [] (nest t p (column_at t p)))
        → cond b [] (terms_x t f g p) ≡ cond b [] (terms_x t f' g' p)
    go true p u v = refl
    go false p u v = terms_x_local f f' g g' t p u v

-- a sum of inverses sees only what stands at its edges
pub inverted_local : (f f' : ℕ → C64) (cs : List ℕ) (s : C64) → Agree f f' cs → summed (inverted f) s cs ≡ summed (inverted f') s cs
unfolding inverted
inverted_local f f' cs s h = summed_local (inverted f) (inverted f') cs s (λ c m. ap (real_over one_f) (h c m))

pub harmonic_local : (f f' : ℕ → C64) (cs : List ℕ) → Agree f f' cs → harmonic f cs ≡ harmonic f' cs
unfolding harmonic
harmonic_local f f' cs h = ap (real_over (whole (length cs))) (inverted_local f f' cs zero_number h)

pub eps_local : (t : TwoLevels) (f f' : ℕ → C64) (r : ℕ) → ((c : ℕ) → In c (eps_reads t r) → f c ≡ f' c) → coarse_eps t f r ≡ coarse_eps t f' r
unfolding coarse_eps
eps_local t f f' r h = harmonic_local f f' (eps_reads t r) h

-- a row reads as many permittivities as it has weights
pub reads_long : (t : TwoLevels) (r : ℕ) → length (weight_reads t r) ≡ length (weight_columns t r)
unfolding weight_reads weight_columns
reads_long t r = go (fixed_at (fine_lattice t) (at_of (fine_grid t) r)) (at_of (fine_grid t) r)
  where
    one : (b : Bool) (x y : ℕ) → ◌≡◌ {A = ℕ} (length (cond b [] (x ∷ []))) (length (cond b [] (y ∷ [])))
    one true x y = refl
    one false x y = refl

    go : (b : Bool) (p : Position) → length (cond b [] (nest t p (read_at t p))) ≡ length (cond b [] (nest t p (column_at t p)))
    go true p = refl
    go false p =
        unfold nest nest_y nest_z read_at column_at in
        each_long (nest_y t p (read_at t p)) (nest_y t p (column_at t p))
        (λ i. each_long (nest_z t p (read_at t p) i) (nest_z t p (column_at t p) i)
        (λ j. each_long (read_at t p i j) (column_at t p i j) (λ k. one (fixed_at (coarse_lattice t) (edge_at p i j k)) _ _) (axis_places t 2 (is_along p 2) p.k))
        (axis_places t 1 (is_along p 1) p.j))
        (axis_places t 0 (is_along p 0) p.i)
