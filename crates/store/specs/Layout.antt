-- Where each level's part stands in the store's lists (docs/SPECIFICATION.md, 11): structure alone, from the lattice, the choice and the count m of
-- transfers; there are m + 1 levels. And how many places each list needs.
-- Assumes nothing.
use Rattle.std.specs.Prelude.{ℕ, zero, suc, ◌+◌, ◌*◌, ◌/◌, ◌%◌, ◌≤◌, List, cond, ltb, length}
use Rattle.numbers.specs.declared.C64.{C64}
use Rattle.numbers.specs.Complex.{no_number}
use Rattle.lattice.specs.Lattice.{FullLattice}
use Rattle.lattice.specs.Levels.{line_at}
use Rattle.numbers.specs.Terms.{Term, columns_of}
use Rattle.weights.specs.TwoLevels.{two_at}
use Rattle.weights.specs.Prolongation.{weight_columns}
use Rattle.numbers.specs.Lists.{start_of}
use Rattle.operators.specs.Levels.{turned_at, galerkin_at, rediscretized_at}
use Rattle.operators.specs.LevelLists.{edges_on}
use Rattle.store.specs.Store.{Sizes}
use Rattle.store.specs.declared.Choice.{Choice}
use Rattle.store.specs.declared.Choice.TheVariants.{Galerkin, Rediscretized}
use Rattle.numbers.specs.Lists.{sum_to}

-- the operator's rows on level L
abbrev pub operator_at : FullLattice → Choice → (ℕ → C64) → ℕ → ℕ → List Term
operator_at l Galerkin f L = galerkin_at l f L
operator_at l Rediscretized f L = rediscretized_at l f L

-- ---- columns: the same for all permittivities, so those of none

abbrev pub blank : ℕ → C64
blank c = no_number

unfoldable pub forward_cols : FullLattice → ℕ → ℕ → List ℕ
forward_cols l L = weight_columns (two_at l L)

unfoldable pub turned_cols : FullLattice → ℕ → ℕ → List ℕ
turned_cols l L c = columns_of (turned_at l blank L c)

unfoldable pub operator_cols : FullLattice → Choice → ℕ → ℕ → List ℕ
operator_cols l ch L r = columns_of (operator_at l ch blank L r)

-- ---- counts of a part: rows, and numbers

abbrev pub next_edges : FullLattice → ℕ → ℕ
next_edges l L = edges_on l (suc L)

abbrev pub forward_count : FullLattice → ℕ → ℕ
forward_count l L = start_of (forward_cols l L) (edges_on l L)

abbrev pub turned_count : FullLattice → ℕ → ℕ
turned_count l L = start_of (turned_cols l L) (edges_on l (suc L))

abbrev pub operator_count : FullLattice → Choice → ℕ → ℕ
operator_count l ch L = start_of (operator_cols l ch L) (edges_on l L)

-- the first level whose operator is stored: level 0 only where it is the last
abbrev pub first_stored : ℕ → ℕ
first_stored zero = 0
first_stored (suc m) = 1

abbrev pub stored_count : FullLattice → Choice → ℕ → ℕ → ℕ
stored_count l ch m L = cond (ltb L (first_stored m)) 0 (operator_count l ch L)

abbrev pub scale_count : FullLattice → ℕ → ℕ
scale_count l L = edges_on l L + edges_on l (suc L)

-- ---- where the numbers of level L, or of the transfer from L + 1 to L, begin

abbrev pub eps_off : FullLattice → ℕ → ℕ
eps_off l L = sum_to (edges_on l) L

-- the averaged permittivities of level L + 1
abbrev pub averaged_off : FullLattice → ℕ → ℕ → ℕ
averaged_off l m L = eps_off l (suc m) + sum_to (next_edges l) L

abbrev pub forward_off : FullLattice → ℕ → ℕ
forward_off l L = sum_to (forward_count l) L

abbrev pub turned_off : FullLattice → ℕ → ℕ
turned_off l L = sum_to (turned_count l) L

abbrev pub operator_off : FullLattice → Choice → ℕ → ℕ → ℕ
operator_off l ch m L = sum_to (stored_count l ch m) L

abbrev pub scale_off : FullLattice → ℕ → ℕ
scale_off l L = sum_to (scale_count l) L

-- ---- where the starts of a part begin (an end for each part besides), and line q, that of axis q % 3 on level q / 3

abbrev pub starts_off : (ℕ → ℕ) → ℕ → ℕ
starts_off rows L = sum_to (λ i. rows i + 1) L

abbrev pub stored_starts : FullLattice → ℕ → ℕ → ℕ
stored_starts l m L = sum_to (λ i. cond (ltb i (first_stored m)) 0 (edges_on l i + 1)) L

abbrev pub ends_off : FullLattice → ℕ → ℕ
ends_off l q = sum_to (λ i. length (line_at l (i % 3) (i / 3))) q

-- ---- the need of each list, in places

abbrev pub eps_need : FullLattice → Choice → ℕ → ℕ
eps_need l Galerkin m = eps_off l (suc m)
eps_need l Rediscretized m = averaged_off l m m

abbrev pub scale_need : FullLattice → Choice → ℕ → ℕ
scale_need l Galerkin m = 0
scale_need l Rediscretized m = scale_off l m

-- a store of these sizes has room: a number is two doubles
pub record Enough (l : FullLattice) (ch : Choice) (m : ℕ) (h : Sizes) : Type 0 where
  pub ends_room : ends_off l (3 * suc m) ≤ h.ends
  pub eps_room : 2 * eps_need l ch m ≤ h.permittivities
  pub forward_starts_are : starts_off (edges_on l) m ≤ h.forward_starts
  pub forward_columns_are : forward_off l m ≤ h.forward_columns
  pub forward_values_are : 2 * forward_off l m ≤ h.forward_values
  pub turned_starts_are : starts_off (next_edges l) m ≤ h.turned_starts
  pub turned_columns_lem : turned_off l m ≤ h.turned_columns
  pub turned_values_are : 2 * turned_off l m ≤ h.turned_values
  pub operator_starts_are : stored_starts l m (suc m) ≤ h.operator_starts
  pub operator_columns_are : operator_off l ch m (suc m) ≤ h.operator_columns
  pub operator_values_are : 2 * operator_off l ch m (suc m) ≤ h.operator_values
  pub scaling_room : 2 * scale_need l ch m ≤ h.scaling
