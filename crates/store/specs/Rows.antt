-- The rows of the store and their rules (docs/SPECIFICATION.md, 12): each row is a run of numbers of one list, and its rule sees the store only through a look.
-- Assumes nothing: these are definitions.
use Rattle.std.specs.Prelude.{ℕ, zero, suc, ◌+◌, ◌*◌, List, [], ◌∷◌, ◌++◌, map, length}
use Rattle.numbers.specs.declared.C64.{C64}
use Rattle.lattice.specs.Lattice.{FullLattice}
use Rattle.numbers.specs.Terms.{Term}
use Rattle.numbers.specs.Lists.{tabulate, each}
use Rattle.weights.specs.TwoLevels.{two_at}
use Rattle.weights.specs.CoarseEps.{coarse_eps, eps_reads}
use Rattle.weights.specs.Prolongation.{prolongation_row, weight_reads}
use Rattle.numbers.specs.Terms.{numbers_of}
use Rattle.numbers.specs.Lists.{start_of}
use Rattle.numbers.specs.Transpose.{turned_reads}
use Rattle.operators.specs.Averaged.{averaged_eps, averaged_reads}
use Rattle.operators.specs.Galerkin.{galerkin_row}
use Rattle.operators.specs.LevelLists.{edges_on}
use Rattle.operators.specs.Levels.{lattice_at}
use Rattle.operators.specs.Stencil.{stencil_row, stencil_reads}
use Rattle.operators.specs.Volumes.{volume_of, inverse_share}
use Rattle.store.specs.Space.{Look}
use Rattle.store.specs.Plan.{Rules}
use Rattle.store.specs.Places.{Place, space}
use Rattle.store.specs.Spots.{
  Kind,
  permittivity,
  forwards,
  turneds,
  entries,
  scales,
  Spot,
  spot,
  place,
  cells,
  number_in,
  spots_from,
  laid_from,
  finite_place,
}
use Rattle.store.specs.Layout.{forward_cols, turned_cols, operator_cols, eps_off, averaged_off, forward_off, turned_off, operator_off, scale_off}
use Rattle.store.specs.declared.Choice.{Choice}
use Rattle.store.specs.declared.Choice.TheVariants.{Galerkin, Rediscretized}

-- of the transfer from level L + 1 to L: the permittivity of edge r of level L + 1, in the first chain and in the averaged one; forward row r; turned row c;
-- the volume of edge r of level L; the inverse share of edge c of level L + 1. And row r of level L's operator
pub data Row : Type 0 where
  coarse averaged forward turned volume share operator : ℕ → ℕ → Row

-- columns with the numbers that h gives from k on
unfoldable pub dressed : List ℕ → (ℕ → C64) → ℕ → List Term
dressed [] h k = []
dressed (c ∷ cs) h k = record { column = c; number = h k } ∷ dressed cs h (suc k)

-- row r of a part whose numbers stand in a list from `off` on: as a look finds it, and its numbers
abbrev pub stored_in : Look space → Kind → (ℕ → List ℕ) → ℕ → ℕ → List Term
stored_in f k cols off r = dressed (cols r) (number_in f k) (off + start_of cols r)

abbrev pub row_spots : Kind → (ℕ → List ℕ) → ℕ → ℕ → List Spot
row_spots k cols off r = spots_from k (off + start_of cols r) (length (cols r))

module _ (l : FullLattice) (ch : Choice) (m : ℕ) where
  -- ---- what stands where

  abbrev pub kind_of : Row → Kind
  kind_of (coarse L r) = permittivity
  kind_of (averaged L r) = permittivity
  kind_of (forward L r) = forwards
  kind_of (turned L c) = turneds
  kind_of (volume L r) = scales
  kind_of (share L c) = scales
  kind_of (operator L r) = entries

  abbrev pub from : Row → ℕ
  from (coarse L r) = eps_off l (suc L) + r
  from (averaged L r) = averaged_off l m L + r
  from (forward L r) = forward_off l L + start_of (forward_cols l L) r
  from (turned L c) = turned_off l L + start_of (turned_cols l L) c
  from (volume L r) = scale_off l L + r
  from (share L c) = scale_off l L + edges_on l L + c
  from (operator L r) = operator_off l ch m L + start_of (operator_cols l ch L) r

  abbrev pub count : Row → ℕ
  count (coarse L r) = 1
  count (averaged L r) = 1
  count (forward L r) = length (forward_cols l L r)
  count (turned L c) = length (turned_cols l L c)
  count (volume L r) = 1
  count (share L c) = 1
  count (operator L r) = length (operator_cols l ch L r)

  -- ---- what a look finds

  -- the permittivities of level L; the averaged ones, on level 0 the given ones
  abbrev pub eps_spot : ℕ → ℕ → ℕ
  eps_spot L r = eps_off l L + r

  abbrev pub averaged_spot : ℕ → ℕ → ℕ
  averaged_spot zero r = eps_spot 0 r
  averaged_spot (suc L) r = averaged_off l m L + r

  abbrev pub eps_in : Look space → ℕ → ℕ → C64
  eps_in f L r = number_in f permittivity (eps_spot L r)

  abbrev pub averaged_in : Look space → ℕ → ℕ → C64
  averaged_in f L r = number_in f permittivity (averaged_spot L r)

  abbrev pub volume_in : Look space → ℕ → ℕ → C64
  volume_in f L r = number_in f scales (scale_off l L + r)

  abbrev pub forward_in : Look space → ℕ → ℕ → List Term
  forward_in f L = stored_in f forwards (forward_cols l L) (forward_off l L)

  abbrev pub turned_in : Look space → ℕ → ℕ → List Term
  turned_in f L = stored_in f turneds (turned_cols l L) (turned_off l L)

  -- the finer operator's rows: on level 0 computed, else stored
  abbrev pub operator_in : Look space → ℕ → ℕ → List Term
  operator_in f zero = stencil_row l (eps_in f 0)
  operator_in f (suc L) = stored_in f entries (operator_cols l ch (suc L)) (operator_off l ch m (suc L))

  -- ---- rules

  abbrev pub galerkin_in : Look space → ℕ → ℕ → List Term
  galerkin_in f zero r = stencil_row l (eps_in f 0) r
  galerkin_in f (suc L) c = galerkin_row (operator_in f L) (forward_in f L) (turned_in f L) c

  abbrev pub rediscretized_in : Look space → ℕ → ℕ → List Term
  rediscretized_in f L r = stencil_row (lattice_at l L) (averaged_in f L) r

  -- ---- what a rule reads, by position

  abbrev pub eps_spots : ℕ → List ℕ → List Spot
  eps_spots L cs = map (λ c. spot permittivity (eps_spot L c)) cs

  abbrev pub averaged_spots : ℕ → List ℕ → List Spot
  averaged_spots L cs = map (λ c. spot permittivity (averaged_spot L c)) cs

  abbrev pub forward_spots : ℕ → ℕ → List Spot
  forward_spots L r = row_spots forwards (forward_cols l L) (forward_off l L) r

  abbrev pub turned_spots : ℕ → ℕ → List Spot
  turned_spots L c = row_spots turneds (turned_cols l L) (turned_off l L) c

  abbrev pub operator_spots : ℕ → ℕ → List Spot
  operator_spots zero r = eps_spots 0 (stencil_reads l r)
  operator_spots (suc L) r = row_spots entries (operator_cols l ch (suc L)) (operator_off l ch m (suc L)) r

  abbrev pub galerkin_spots : ℕ → ℕ → List Spot
  galerkin_spots zero r = eps_spots 0 (stencil_reads l r)
  galerkin_spots (suc L) c =
      turned_spots L c
      ++ (each (operator_spots L) (turned_cols l L c) ++ each (forward_spots L) (each (operator_cols l ch L) (turned_cols l L c)))

abbrev pub operator_rule : FullLattice → Choice → ℕ → Look space → ℕ → ℕ → List Term
operator_rule l Galerkin m f L r = galerkin_in l Galerkin m f L r
operator_rule l Rediscretized m f L r = rediscretized_in l Rediscretized m f L r

abbrev pub operator_reading : FullLattice → Choice → ℕ → ℕ → ℕ → List Spot
operator_reading l Galerkin m L r = galerkin_spots l Galerkin m L r
operator_reading l Rediscretized m L r = averaged_spots l Rediscretized m L (stencil_reads (lattice_at l L) r)

module _ (l : FullLattice) (ch : Choice) (m : ℕ) where
  -- the numbers that a row's rule gives, and those that it reads
  unfoldable pub numbers : Look space → Row → List C64
  numbers f (coarse L r) = coarse_eps (two_at l L) (eps_in l ch m f L) r ∷ []
  numbers f (averaged L r) = averaged_eps (two_at l L) (averaged_in l ch m f L) r ∷ []
  numbers f (forward L r) = numbers_of (prolongation_row (two_at l L) (eps_in l ch m f L) (eps_in l ch m f (suc L)) r)
  numbers f (turned L c) = map (λ q. number_in f forwards (forward_off l L + q)) (turned_reads (forward_cols l L) (edges_on l L) c)
  numbers f (volume L r) = volume_of (lattice_at l L) r ∷ []
  numbers f (share L c) = inverse_share (turned_in l ch m f L) (volume_in l ch m f L) c ∷ []
  numbers f (operator L r) = numbers_of (operator_rule l ch m f L r)

  unfoldable pub reading : Row → List Spot
  reading (coarse L r) = eps_spots l ch m L (eps_reads (two_at l L) r)
  reading (averaged L r) = averaged_spots l ch m L (averaged_reads (two_at l L) r)
  reading (forward L r) = eps_spots l ch m L (weight_reads (two_at l L) r) ++ eps_spots l ch m (suc L) (forward_cols l L r)
  reading (turned L c) = map (λ q. spot forwards (forward_off l L + q)) (turned_reads (forward_cols l L) (edges_on l L) c)
  reading (volume L r) = []
  reading (share L c) = turned_spots l ch m L c ++ map (λ q. spot scales (scale_off l L + q)) (turned_cols l L c)
  reading (operator L r) = operator_reading l ch m L r

  abbrev pub writes : Row → List Place
  writes r = tabulate (place (kind_of l ch m r)) (2 * count l ch m r) (2 * from l ch m r)

  abbrev pub reads : Row → List Place
  reads r = each cells (reading r)

  abbrev pub calc : Look space → Row → Look space
  calc f r = laid_from (numbers f r) (from l ch m r)

  -- where refusal 7 counts a row: at the transfer's coarse level
  abbrev pub level : Row → ℕ
  level (coarse L r) = suc L
  level (averaged L r) = suc L
  level (forward L r) = suc L
  level (turned L c) = suc L
  level (volume L r) = suc L
  level (share L c) = suc L
  level (operator L r) = L

-- ---- all rows, level by level

-- those that only a rediscretized store has
abbrev pub only : Choice → List Row → List Row
only Galerkin rs = []
only Rediscretized rs = rs

abbrev pub group : FullLattice → Choice → ℕ → List Row
group l ch L =
    tabulate (coarse L) (edges_on l (suc L)) 0
    ++ (only ch (tabulate (averaged L) (edges_on l (suc L)) 0)
    ++ (tabulate (forward L) (edges_on l L) 0
    ++ (tabulate (turned L) (edges_on l (suc L)) 0
    ++ (only ch (tabulate (volume L) (edges_on l L) 0)
    ++ (only ch (tabulate (share L) (edges_on l (suc L)) 0)
    ++ tabulate (operator (suc L)) (edges_on l (suc L)) 0)))))

unfoldable pub groups : FullLattice → Choice → ℕ → List Row
groups l ch zero = []
groups l ch (suc m) = groups l ch m ++ group l ch m

abbrev pub full : FullLattice → Choice → ℕ → List Row
full l ch zero = tabulate (operator 0) (edges_on l 0) 0
full l ch (suc m) = groups l ch (suc m)

abbrev pub rules : FullLattice → Choice → ℕ → Rules space
rules l ch m =
    record {
      Row = Row;
      full = full l ch m;
      writes = writes l ch m;
      reads = reads l ch m;
      calc = calc l ch m;
      fine? = finite_place;
      level = level l ch m;
    }
