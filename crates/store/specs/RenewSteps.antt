-- The steps of the working parts of a change: parts one behind another, and what the operator's rows and the inverse shares ask for.
-- Assumes nothing.
use Rattle.std.specs.Prelude.{ℕ, zero, suc, ◌+◌, ◌*◌, ◌^◌, ◌≤◌, ◌<◌, ◌≡◌, List, [], ◌++◌, Bool, false, length, get_or, Float}
use Rattle.numbers.specs.Lists.{start_of}
use Rattle.numbers.specs.declared.terms.Part.{Part}
use Rattle.lattice.specs.Lattice.{FullLattice}
use Rattle.operators.specs.LevelLists.{edges_on}
use Rattle.operators.specs.Levels.{lattice_at}
use Rattle.operators.specs.Stencil.{stencil_row}
use Rattle.operators.specs.declared.galerkin.FineRows.{FineRows}
use Rattle.operators.specs.declared.galerkin.FineRows.TheVariants.{Computed, Stored as StoredFrom}
use Rattle.store.specs.Space.{Look}
use Rattle.store.specs.Places.{space}
use Rattle.store.specs.Spots.{permittivity, number_in}
use Rattle.store.specs.Layout.{turned_cols, operator_cols, turned_count, operator_count, scale_off}
use Rattle.store.specs.FillSteps.{only_count}
use Rattle.store.specs.Phases.{forward_part, turned_part, operator_part}
use Rattle.store.specs.Work.{RowsAt}
use Rattle.store.specs.Rows.{Row, operator_rule}
use Rattle.store.specs.Parts.{part_off, flag_at, flagged_part}
use Rattle.store.specs.Flagged.{RowRenewed, RowTaken}
use Rattle.store.specs.Renewed.{Fixed, fixed, five, Renewed}
use Rattle.store.specs.declared.Choice.{Choice}
use Rattle.store.specs.declared.Choice.TheVariants.{Galerkin, Rediscretized}

-- ---- parts

-- the flagged rows of n parts from part p on
unfoldable pub flagged_some : FullLattice → Choice → ℕ → List ℕ → ℕ → ℕ → List Row
flagged_some l ch m flags p zero = []
flagged_some l ch m flags p (suc n) = flagged_some l ch m flags p n ++ flagged_part l ch m flags (p + n)

-- no volume is flagged: a change reaches none
pub record NoVolumes (l : FullLattice) (ch : Choice) (m : ℕ) (flags : List ℕ) : Type 0 where
  pub none : (L i : ℕ) → L < m → i < only_count ch (edges_on l L) → flag_at flags (part_off l ch m (suc (7 * L + 4)) + i) ≡ false

-- ---- the lattice's own rows as a level's operator

-- k is the lattice of level L, and its operator's rule is k's row over the permittivities from place `from` on
pub record StencilRule (l : FullLattice) (ch : Choice) (m L : ℕ) (k : FullLattice) (from : ℕ) : Type 0 where
  pub lattice_is : k ≡ lattice_at l L
  pub rule_is : (f : Look space) (r : ℕ) → operator_rule l ch m f L r ≡ stencil_row k (λ q. number_in f permittivity (from + q)) r

-- the starts of level L's operator stand in the list from o on
pub record OperatorStarts (l : FullLattice) (ch : Choice) (m L : ℕ) (o : Part) (os : List ℕ) : Type 0 where
  pub part_is : o ≡ operator_part l ch m L
  pub starts_low : o.s ≤ 2 ^ 32
  pub low : o.k ≤ 2 ^ 32
  pub few : operator_count l ch L ≤ 2 ^ 32
  pub starts_room : o.s + edges_on l L < length os
  pub starts_are : (r : ℕ) → r ≤ edges_on l L → get_or os (o.s + r) 0 ≡ start_of (operator_cols l ch L) r

-- row r of an operator, and the rows rs of it, worked out from the permittivities, whatever the other lists are
pub record EntryMade (l : FullLattice) (ch : Choice) (m : ℕ) (r : Row) (eps ov : List Float) (b : Bool) (ov' : List Float) : Type 0 where
  pub each : (x : Fixed) (f t c : List Float) → RowRenewed l ch m x r (five eps f t ov c) b (five eps f t ov' c)

pub record EntriesRenewed (l : FullLattice) (ch : Choice) (m : ℕ) (rs : List Row) (eps ov : List Float) (n : ℕ) (ov' : List Float) : Type 0 where
  pub each : (x : Fixed) (f t c : List Float) → Renewed l ch m x rs (five eps f t ov c) n (five eps f t ov' c)

-- ---- inverse shares

-- the turned rows of the transfer from level L + 1 to L stand in the lists
pub record TurnedRows (l : FullLattice) (L : ℕ) (ts tc : List ℕ) (tv : List Float) : Type 0 where
  pub rows : RowsAt (turned_cols l L) (edges_on l (suc L)) (turned_part l L) ts tc
  pub starts_room : (turned_part l L).s + edges_on l (suc L) < length ts
  pub columns_room : (turned_part l L).k + turned_count l L ≤ length tc
  pub values_room : 2 * ((turned_part l L).k + turned_count l L) ≤ length tv

-- they begin at t, the volumes at k; there are n fine edges and c coarse ones
pub record SharePlaces (l : FullLattice) (L : ℕ) (t : Part) (k n c : ℕ) : Type 0 where
  pub turned_is : t ≡ turned_part l L
  pub place_is : k ≡ scale_off l L
  pub fine_is : n ≡ edges_on l L
  pub coarse_is : c ≡ edges_on l (suc L)

-- an inverse share, and the rows rs, worked out from the turned rows and the volumes, whatever the other lists are
pub record ShareMade (l : FullLattice) (m : ℕ) (ts tc : List ℕ) (r : Row) (tv sc : List Float) (b : Bool) (sc' : List Float) : Type 0 where
  pub each : (fs fc os oc : List ℕ) (e f o : List Float) → RowRenewed l Rediscretized m (fixed fs fc ts tc os oc) r (five e f tv o sc) b (five e f tv o sc')

pub record SharesRenewed (l : FullLattice) (m : ℕ) (ts tc : List ℕ) (rs : List Row) (tv sc : List Float) (n : ℕ) (sc' : List Float) : Type 0 where
  pub each : (fs fc os oc : List ℕ) (e f o : List Float) → Renewed l Rediscretized m (fixed fs fc ts tc os oc) rs (five e f tv o sc) n (five e f tv o sc')

-- ---- Galerkin's rows

-- where the rows of level L's operator come from: level 0's are worked out, the others are stored
abbrev pub fine_of : FullLattice → Choice → ℕ → ℕ → FineRows
fine_of l ch m zero = Computed
fine_of l ch m (suc L) = StoredFrom (operator_part l ch m (suc L))

-- what level L + 1's are worked out from, and where they stand
pub record GalerkinPlaces (l : FullLattice) (m L : ℕ) (fine : FineRows) (p t o : Part) : Type 0 where
  pub fine_is : fine ≡ fine_of l Galerkin m L
  pub forward_is : p ≡ forward_part l L
  pub turned_is : t ≡ turned_part l L
  pub operator_is : o ≡ operator_part l Galerkin m (suc L)

-- a row if flag q is set, and the rows rs, whatever the scaling is, which a store of this choice has none of
pub record GalerkinTaken (l : FullLattice) (m : ℕ) (x : Fixed) (flags : List ℕ) (q : ℕ) (r : Row) (e f t o : List Float) (b : Bool) (o' : List Float) : Type 0 where
  pub each : (c : List Float) → RowTaken l Galerkin m x flags q r (five e f t o c) b (five e f t o' c)

pub record GalerkinRenewed (l : FullLattice) (m : ℕ) (x : Fixed) (rs : List Row) (e f t o : List Float) (n : ℕ) (o' : List Float) : Type 0 where
  pub each : (c : List Float) → Renewed l Galerkin m x rs (five e f t o c) n (five e f t o' c)
