-- What `level_count` counts is the exact need: as many columns as the operator of the level has, for both choices, on every level and for any permittivities.
-- Assumes nothing.
use Prim.Native.Nat.{ℕ, zero, suc, ◌<◌}
use mathlib.Core.Path.{◌≡◌, refl, sym, ap, ◌∙◌, subst}
use mathlib.Core.Bool.{not, cond}
use mathlib.Core.List.{List, [], ◌∷◌}
use native.Mathlib.Omega.{arith}
use Rattle.numbers.specs.declared.C64.{C64}
use Rattle.numbers.specs.Lists.{start_of}
use Rattle.numbers.specs.Terms.{Term, columns_of}
use Rattle.numbers.proofs.ListLaws.{through, start_agree}
use Rattle.numbers.proofs.Tutorial.{start_columns}
use Rattle.lattice.specs.declared.grid.Grid3d.{Grid3d}
use Rattle.lattice.specs.declared.grid.Position.{Position}
use Rattle.lattice.specs.declared.lattice.Edges.{Edges}
use Rattle.lattice.specs.Grid.{at_of, Limits}
use Rattle.lattice.specs.Lattice.{FullLattice, is_wall}
use Rattle.lattice.specs.Neighbours.{fixed_at}
use Rattle.lattice.proofs.Equations.{cells_at_is}
use Rattle.operators.specs.Base.{base_words}
use Rattle.operators.specs.Columns.{row}
use Rattle.operators.specs.declared.columns.Picks.{Picks}
use Rattle.operators.specs.LevelLists.{edges_on}
use Rattle.operators.specs.Levels.{averaged_on, galerkin_at, line_on, lattice_at, rediscretized_at, grid_at, is_bloch, ladder_of, pattern_row, base_relations}
use Rattle.operators.specs.Numbered.{picks_of, row_columns, relations_laid, no_relations, Right}
use Rattle.operators.specs.Rediscretized.{cells_on, rediscretized_grid, rediscretized_lattice}
use Rattle.lattice.proofs.CurlLaws.{SameCells, SameKinds, at_cells, unknowns_cells, edges_kinds, fixed_kinds}
use Rattle.operators.proofs.ForwardPattern.{grid_x, grid_y, grid_z}
use Rattle.operators.proofs.GalerkinColumns.{galerkin_columns_lem}
use Rattle.operators.proofs.GalerkinPattern.{grid_first}
use Rattle.operators.proofs.LevelListLaws.{lattice_limits}
use Rattle.operators.proofs.StencilPattern.{stencil_columns}

-- ---- the pattern goes by the cells and the kinds of the axes alone

module _ {l k : FullLattice} {g h : Grid3d} (kinds : SameKinds l k) (cells : SameCells g h) where
  bloch_same : (a : ℕ) → is_bloch l a ≡ is_bloch k a
  unfolding is_bloch
  bloch_same a = ap (λ (e : Edges). not (is_wall e)) (edges_kinds kinds a)

  pub base_same : base_relations l g ≡ base_relations k h
  base_same =
      λ i.
      relations_laid
      (base_words (cells.x i ∷ (cells.y i ∷ (cells.z i ∷ []))) (bloch_same 0 i ∷ (bloch_same 1 i ∷ (bloch_same 2 i ∷ []))))
      18 no_relations

  pub pattern_same : (t : List ℕ) (r : ℕ) → pattern_row l g t r ≡ pattern_row k h t r
  unfolding pattern_row row_columns
  pattern_same t r =
      λ i.
      cond (fixed i) (r ∷ [])
      (row (picked 0 (at i)) (picked 1 (at i)) (picked 2 (at i)) (cells.x i) (cells.y i) (cells.z i))
    where
      at : at_of g r ≡ at_of h r
      at = at_cells cells r

      fixed : fixed_at l (at_of g r) ≡ fixed_at k (at_of h r)
      fixed = ap (fixed_at l) at ∙ fixed_kinds kinds (at_of h r)

      picked : ℕ → Position → Picks
      picked b p = picks_of t p.component b p.i p.j p.k

-- ---- the lattice of a rediscretized level has the level's cells and the lattice's kinds

lattice_kinds : (l : FullLattice) (L : ℕ) → SameKinds l (lattice_at l L)
unfolding lattice_at rediscretized_lattice
lattice_kinds l zero = record { x = refl; y = refl; z = refl }
lattice_kinds l (suc L) = record { x = refl; y = refl; z = refl }

lattice_cells : (l : FullLattice) (L : ℕ) → SameCells (grid_at l L) (lattice_at l L).grid
unfolding lattice_at rediscretized_lattice rediscretized_grid line_on cells_on
lattice_cells l zero =
    let e = grid_first l in
    record { x = ap (λ (g : Grid3d). g.nx) e; y = ap (λ (g : Grid3d). g.ny) e; z = ap (λ (g : Grid3d). g.nz) e }
lattice_cells l (suc L) =
    record {
      x = grid_x l (suc L) ∙ cells_at_is l 0 (suc L);
      y = grid_y l (suc L) ∙ cells_at_is l 1 (suc L);
      z = grid_z l (suc L) ∙ cells_at_is l 2 (suc L);
    }

-- the columns of its rows are the pattern that the relations of the level's own cells give
pub rediscretized_columns : (l : FullLattice) → Limits l.grid → (f : ℕ → C64) (L : ℕ) (t : List ℕ) → t ≡ base_relations l (grid_at l L)
    → (r : ℕ) → r < edges_on l L → columns_of (rediscretized_at l f L r) ≡ pattern_row l (grid_at l L) t r
unfolding rediscretized_at
rediscretized_columns l limits f L t base r h =
    let kinds = lattice_kinds l L in
    let cells = lattice_cells l L in
    stencil_columns (lattice_at l L) (lattice_limits l limits L) (averaged_on l f L) t (base ∙ base_same kinds cells) r
    (subst (λ (n : ℕ). r < n) (unknowns_cells cells) h)
    ∙ sym (pattern_same kinds cells t r)

-- ---- the counts

-- rows that have the pattern's columns are as many terms as the pattern counts
rows_count : (n : ℕ) (pattern : ℕ → List ℕ) (rows : ℕ → List Term) → ((r : ℕ) → r < n → columns_of (rows r) ≡ pattern r) → start_of pattern n ≡ start_of rows n
rows_count n pattern rows same = start_agree pattern (through columns_of rows) n (λ r h. sym (same r h)) n (omega arith) ∙ start_columns rows n

module _ (l : FullLattice) (limits : Limits l.grid) (f : ℕ → C64) (L : ℕ) (t : List ℕ) where
  pub galerkin_count : Right (ladder_of l) L t → start_of (pattern_row l (grid_at l L) t) (edges_on l L) ≡ start_of (galerkin_at l f L) (edges_on l L)
  galerkin_count right = rows_count (edges_on l L) (pattern_row l (grid_at l L) t) (galerkin_at l f L) (galerkin_columns_lem l limits f L t right)

  pub rediscretized_count : t ≡ base_relations l (grid_at l L) → start_of (pattern_row l (grid_at l L) t) (edges_on l L) ≡ start_of (rediscretized_at l f L) (edges_on l L)
  rediscretized_count base = rows_count (edges_on l L) (pattern_row l (grid_at l L) t) (rediscretized_at l f L) (rediscretized_columns l limits f L t base)
