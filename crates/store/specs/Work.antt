-- What the code over the store cites: a list of numbers by its kind, a store in which one list is another, and a store whose starts, columns and ends are the lattice's.
-- Assumes nothing: these are definitions.
use Rattle.std.specs.Prelude.{ℕ, suc, ◌+◌, ◌*◌, ◌/◌, ◌%◌, ◌≤◌, ◌<◌, ◌≡◌, List, length, get_or, Float}
use Rattle.lattice.specs.Lattice.{FullLattice}
use Rattle.lattice.specs.Levels.{line_at}
use Rattle.numbers.specs.Lists.{rows}
use Rattle.numbers.specs.Lists.{start_of}
use Rattle.operators.specs.LevelLists.{edges_on}
use Rattle.numbers.specs.declared.terms.Part.{Part}
use Rattle.store.specs.Phases.{forward_part, turned_part, operator_part}
use Rattle.store.specs.Store.{Store}
use Rattle.store.specs.Spots.{Kind, permittivity, forwards, turneds, entries, scales}
use Rattle.store.specs.Layout.{forward_cols, turned_cols, operator_cols, first_stored, ends_off}
use Rattle.store.specs.declared.Choice.{Choice}

abbrev pub list_of : Store → Kind → List Float
list_of s permittivity = s.permittivities
list_of s forwards = s.forward_values
list_of s turneds = s.turned_values
list_of s entries = s.operator_values
list_of s scales = s.scaling

-- the store with another list of numbers
abbrev pub with_list : Store → Kind → List Float → Store
with_list s permittivity xs =
    record { ends = s.ends; permittivities = xs; forward_starts = s.forward_starts; forward_columns = s.forward_columns; forward_values = s.forward_values; turned_starts = s.turned_starts; turned_columns = s.turned_columns; turned_values = s.turned_values; operator_starts = s.operator_starts; operator_columns = s.operator_columns; operator_values = s.operator_values; scaling = s.scaling }
with_list s forwards xs =
    record { ends = s.ends; permittivities = s.permittivities; forward_starts = s.forward_starts; forward_columns = s.forward_columns; forward_values = xs; turned_starts = s.turned_starts; turned_columns = s.turned_columns; turned_values = s.turned_values; operator_starts = s.operator_starts; operator_columns = s.operator_columns; operator_values = s.operator_values; scaling = s.scaling }
with_list s turneds xs =
    record { ends = s.ends; permittivities = s.permittivities; forward_starts = s.forward_starts; forward_columns = s.forward_columns; forward_values = s.forward_values; turned_starts = s.turned_starts; turned_columns = s.turned_columns; turned_values = xs; operator_starts = s.operator_starts; operator_columns = s.operator_columns; operator_values = s.operator_values; scaling = s.scaling }
with_list s entries xs =
    record { ends = s.ends; permittivities = s.permittivities; forward_starts = s.forward_starts; forward_columns = s.forward_columns; forward_values = s.forward_values; turned_starts = s.turned_starts; turned_columns = s.turned_columns; turned_values = s.turned_values; operator_starts = s.operator_starts; operator_columns = s.operator_columns; operator_values = xs; scaling = s.scaling }
with_list s scales xs =
    record { ends = s.ends; permittivities = s.permittivities; forward_starts = s.forward_starts; forward_columns = s.forward_columns; forward_values = s.forward_values; turned_starts = s.turned_starts; turned_columns = s.turned_columns; turned_values = s.turned_values; operator_starts = s.operator_starts; operator_columns = s.operator_columns; operator_values = s.operator_values; scaling = xs }

-- n rows' starts and columns stand in two lists from a part on
pub record RowsAt (cols : ℕ → List ℕ) (n : ℕ) (o : Part) (ss cs : List ℕ) : Type 0 where
  pub starts_are : (r : ℕ) → r ≤ n → get_or ss (o.s + r) 0 ≡ start_of cols r
  pub columns_are : (q : ℕ) → q < start_of cols n → get_or cs (o.k + q) 0 ≡ get_or (rows cols n) q 0

-- starts, columns and ends are the lattice's: what refusal 11 asks of a store
pub record Structured (l : FullLattice) (ch : Choice) (m : ℕ) (s : Store) : Type 0 where
  pub ends_are : (q j : ℕ) → q < 3 * suc m → j < length (line_at l (q % 3) (q / 3)) → get_or s.ends (ends_off l q + j) 0 ≡ get_or (line_at l (q % 3) (q / 3)) j 0
  pub forward_are : (L : ℕ) → L < m → RowsAt (forward_cols l L) (edges_on l L) (forward_part l L) s.forward_starts s.forward_columns
  pub turned_are : (L : ℕ) → L < m → RowsAt (turned_cols l L) (edges_on l (suc L)) (turned_part l L) s.turned_starts s.turned_columns
  pub operator_are : (L : ℕ) → first_stored m ≤ L → L ≤ m → RowsAt (operator_cols l ch L) (edges_on l L) (operator_part l ch m L) s.operator_starts s.operator_columns
