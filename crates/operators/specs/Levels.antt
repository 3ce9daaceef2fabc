-- The operators of all levels (docs/SPECIFICATION.md, 9 and 10), for both choices, and the relations that give the columns of their rows.
-- Assumes nothing.
use Rattle.std.specs.Prelude.{ℕ, zero, suc, ◌+◌, ◌*◌, ◌/◌, ◌%◌, ◌<◌, ◌≤◌, ◌≡◌, Bool, true, false, not, ◌&&◌, List, [], ◌∷◌, eqb, ltb, length, get_or}
use Rattle.numbers.specs.declared.C64.{C64}
use Rattle.lattice.specs.declared.grid.Grid3d.{Grid3d}
use Rattle.lattice.specs.declared.grid.Position.{Position}
use Rattle.lattice.specs.Grid.{unknowns_of, at_of}
use Rattle.lattice.specs.Lattice.{FullLattice, edges_of, is_wall}
use Rattle.numbers.specs.Lists.{tabulate, contains, places_in}
use Rattle.lattice.specs.Levels.{line_at, cells_at}
use Rattle.lattice.specs.Neighbours.{fixed_at}
use Rattle.numbers.specs.Terms.{Term}
use Rattle.weights.specs.TwoLevels.{TwoLevels, two_at, grid_with, fine_grid, fine_cells, coarse_cells}
use Rattle.weights.specs.Prolongation.{prolongation_row}
use Rattle.weights.specs.Product.{free_places}
use Rattle.weights.specs.CoarseEps.{coarse_eps}
use Rattle.numbers.specs.Transpose.{turned_row}
use Rattle.operators.specs.Averaged.{averaged_eps}
use Rattle.operators.specs.Base.{base_of, base_words}
use Rattle.operators.specs.Bits.{set_of}
use Rattle.operators.specs.Compose.{words_at, composed_word}
use Rattle.operators.specs.Galerkin.{galerkin_row}
use Rattle.operators.specs.Numbered.{column_no, relations_laid, no_relations, row_columns}
use Rattle.operators.specs.Pattern.{Role, along, across, Ladder}
use Rattle.operators.specs.Rediscretized.{rediscretized_lattice}
use Rattle.operators.specs.Relation.{Rel, Spot}
use Rattle.operators.specs.Stencil.{stencil_row}
use Rattle.operators.specs.Volumes.{volume_of, inverse_share}
use Rattle.weights.specs.Tables.{all_slots, entry_count}

-- ---- numbers: f reads the given permittivities

-- the chain of `coarse_eps` and that of `averaged_eps`, each from the given permittivities
unfoldable pub eps_at : FullLattice → (ℕ → C64) → ℕ → ℕ → C64
eps_at l f zero = f
eps_at l f (suc L) = coarse_eps (two_at l L) (eps_at l f L)

unfoldable pub averaged_on : FullLattice → (ℕ → C64) → ℕ → ℕ → C64
averaged_on l f zero = f
averaged_on l f (suc L) = averaged_eps (two_at l L) (averaged_on l f L)

-- forward rows from level L + 1 to level L, and their transpose
unfoldable pub forward_at : FullLattice → (ℕ → C64) → ℕ → ℕ → List Term
forward_at l f L = prolongation_row (two_at l L) (eps_at l f L) (eps_at l f (suc L))

unfoldable pub turned_at : FullLattice → (ℕ → C64) → ℕ → ℕ → List Term
turned_at l f L = turned_row (forward_at l f L) (unknowns_of (fine_grid (two_at l L)))

-- the operator's rows on level L, Galerkin
unfoldable pub galerkin_at : FullLattice → (ℕ → C64) → ℕ → ℕ → List Term
galerkin_at l f zero = stencil_row l f
galerkin_at l f (suc L) = galerkin_row (galerkin_at l f L) (forward_at l f L) (turned_at l f L)

-- the lattice of level L and the operator's rows there, rediscretized
unfoldable pub line_on : FullLattice → ℕ → ℕ → List ℕ
line_on l L a = line_at l a L

unfoldable pub lattice_at : FullLattice → ℕ → FullLattice
lattice_at l zero = l
lattice_at l (suc L) = rediscretized_lattice l (line_on l (suc L))

unfoldable pub rediscretized_at : FullLattice → (ℕ → C64) → ℕ → ℕ → List Term
rediscretized_at l f L = stencil_row (lattice_at l L) (averaged_on l f L)

-- the volumes of level L, and the inverse shares of level L + 1 in them
unfoldable pub volumes_at : FullLattice → ℕ → ℕ → C64
volumes_at l L = volume_of (lattice_at l L)

unfoldable pub inverse_shares_at : FullLattice → (ℕ → C64) → ℕ → ℕ → C64
inverse_shares_at l f L = inverse_share (turned_at l f L) (volumes_at l L)

-- ---- structure

-- the cells of level L
unfoldable pub grid_at : FullLattice → ℕ → Grid3d
grid_at l L = grid_with l.grid (cells_at l 0 L) (cells_at l 1 L) (cells_at l 2 L)

-- the coarse places where place i of axis a has weights
unfoldable pub forward_rel : TwoLevels → ℕ → Bool → Rel
forward_rel t a own i j = contains j (free_places t a own i)

abbrev pub is_own : Role → Bool
is_own along = true
is_own across = false

unfoldable pub is_bloch : FullLattice → ℕ → Bool
is_bloch l a = not (is_wall (edges_of l a))

-- the relations of a lattice's axes, level by level
abbrev pub ladder_of : FullLattice → Ladder
ladder_of l =
    record {
      cells = λ L d. cells_at l d L;
      base = λ d w i j. ltb i (cells_at l d 0) && base_of (cells_at l d 0) (is_bloch l d) w i j;
      forward = λ L d r i j. ltb i (cells_at l d L) && forward_rel (two_at l L) d (is_own r) i j;
    }

-- the columns of row r of a level with cells g and relations t
unfoldable pub pattern_row : FullLattice → Grid3d → List ℕ → ℕ → List ℕ
pattern_row l g t r = row_columns t g (fixed_at l (at_of g r)) r (at_of g r)

-- ---- relations in lists

-- the cells and the kinds of the three axes
abbrev pub cell_list : Grid3d → List ℕ
cell_list g = g.nx ∷ (g.ny ∷ (g.nz ∷ []))

abbrev pub kind_list : FullLattice → List Bool
kind_list l = is_bloch l 0 ∷ (is_bloch l 1 ∷ (is_bloch l 2 ∷ []))

-- the relations of a level that takes its rows from a lattice of its own cells g
abbrev pub base_relations : FullLattice → Grid3d → List ℕ
base_relations l g = relations_laid (base_words (cell_list g) (kind_list l)) 18 no_relations

abbrev pub Base : FullLattice → Grid3d → List ℕ → Type 0
Base l g t = t ≡ base_relations l g

-- the coarse places where place i of axis a has weights, as a word
unfoldable pub forward_word : TwoLevels → ℕ → Bool → ℕ → ℕ
forward_word two a own i = set_of (free_places two a own i)

-- the words of relation number q one level below those of t
unfoldable pub coarser_words : TwoLevels → List ℕ → ℕ → List ℕ
coarser_words two t q =
    tabulate
    (composed_word (fine_cells two (q / 6))
    (forward_word two (q / 6) (eqb (q % 6 % 2) 0)) (words_at t (64 * q)) (forward_word two (q / 6) (eqb (column_no (q % 6)) 0)))
    (coarse_cells two (q / 6)) 0

abbrev pub relations_below : TwoLevels → List ℕ → List ℕ
relations_below two t = relations_laid (coarser_words two t) 18 no_relations

abbrev pub Below : TwoLevels → List ℕ → List ℕ → Type 0
Below two t u = u ≡ relations_below two t

-- the places of the weights' slots: at most two a slot, each below 64
pub record Entries (ps ns : List ℕ) : Type 0 where
  pub places_long : length ps ≡ entry_count
  pub counts_long : length ns ≡ all_slots
  pub few : (q : ℕ) → q < all_slots → get_or ns q 0 ≤ 2
  pub low : (q d : ℕ) → q < all_slots → d < get_or ns q 0 → get_or ps (2 * q + d) 0 < 64

-- the slot of word e: words stand by axis, along it and then across it; slots the other way round
unfoldable pub slot_no : ℕ → ℕ
slot_no e = 128 * (e / 128) + (e % 128 + 64) % 128

-- the places of a slot as a word
unfoldable pub slot_word : List ℕ → List ℕ → ℕ → ℕ
slot_word ps ns q = set_of (places_in ps (2 * q) (get_or ns q 0))

-- word e of all
unfoldable pub slot_word_no : List ℕ → List ℕ → ℕ → ℕ
slot_word_no ps ns e = slot_word ps ns (slot_no e)

-- the place of a position
abbrev pub spot_of : Position → Spot
spot_of p = record { x = p.i; y = p.j; z = p.k }
