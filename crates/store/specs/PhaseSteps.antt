-- What the steps of a phase ask for and leave, for whichever lattice and permittivities they hold. Assumes nothing.
use Rattle.std.specs.Prelude.{ℕ, zero, suc, ◌+◌, ◌*◌, ◌<◌, ◌≤◌, ◌≡◌, Bool, List, length, get_or, Float}
use Rattle.numbers.specs.declared.C64.{C64}
use Rattle.numbers.specs.Lists.{tabulate, rows, laid, laid_numbers, places_in, all_finite, read_from}
use Rattle.numbers.specs.Terms.{Stored, LaidRows}
use Rattle.numbers.specs.declared.terms.Part.{Part}
use Rattle.lattice.specs.declared.line.Line.{Line}
use Rattle.lattice.specs.Grid.{Limits}
use Rattle.lattice.specs.Lattice.{FullLattice}
use Rattle.operators.specs.LevelLists.{edges_on}
use Rattle.operators.specs.Galerkin.{rows_in}
use Rattle.operators.specs.Levels.{averaged_on, turned_at, rediscretized_at, volumes_at}
use Rattle.store.specs.Layout.{turned_count, operator_off, stored_starts, eps_off, averaged_off, scale_off}
use Rattle.store.specs.Setup.{ends_part, averaged_part, operator_numbers, scale_part}
use Rattle.store.specs.Phases.{blank_line, HasLines, turned_part, operator_part, first_of, GivenIn, OperatorsLeft, averaged_fine, scale_fine}
use Rattle.store.specs.declared.Choice.{Choice}
use Rattle.store.specs.declared.Choice.TheVariants.{Rediscretized}

-- ---- parts

-- the part behind n rows whose starts stand in the list from o on
abbrev pub behind_of : Part → ℕ → List ℕ → Part
behind_of o n ss = record { s = o.s + n + 1; k = o.k + get_or ss (o.s + n) 0 }

-- ---- line ends

-- the ends that a line's record holds
abbrev pub held_by : Line → List ℕ
held_by f = places_in f.ends 0 (f.cells + 1)

-- the lines of levels 0 to m have at most 64 cells
pub record FewCells (lines : List Line) (m : ℕ) : Type 0 where
  pub few : (q : ℕ) → q < 3 * suc m → (get_or lines q blank_line).cells ≤ 64

-- the ends of the lines of levels 0 to m have been laid, of whichever lattice they are
pub record EndsLaid (lines : List Line) (m : ℕ) (es es' : List ℕ) : Type 0 where
  pub ends_are : (l : FullLattice) → Limits l.grid → HasLines l m lines → es' ≡ laid es 0 (rows (ends_part l) (3 * suc m))

-- ---- the operator of a sole level 0

module _ (l : FullLattice) (eps : List Float) (os oc : List ℕ) (ox : List Float) (os' oc' : List ℕ) (ox' : List Float) where
  -- for whichever permittivities stand in the list, and either choice
  pub record SoleLeft (b : Bool) : Type 0 where
    pub operator : (f : ℕ → C64) → GivenIn l f eps → (ch : Choice) → OperatorsLeft l ch f 0 0 os oc ox os' oc' ox'
    pub finite : (f : ℕ → C64) → GivenIn l f eps → (ch : Choice) → b ≡ all_finite (operator_numbers l ch 0 f 0)

-- ---- rediscretized: the averaged permittivities and the operators of levels 1 to m

-- where the permittivities of level L begin that the next level's are averaged from: the given ones stand at the front
abbrev pub averaged_from : FullLattice → ℕ → ℕ → ℕ
averaged_from l m zero = 0
averaged_from l m (suc L) = averaged_off l m L

-- where those of level L and of the next level begin, and the next level's operator
pub record AveragedPlaces (l : FullLattice) (m L from to : ℕ) (o : Part) : Type 0 where
  pub from_is : from ≡ averaged_from l m L
  pub to_is : to ≡ averaged_off l m L
  pub part_is : o ≡ operator_part l Rediscretized m (suc L)

-- the permittivities of level L stand in the list
pub record AveragedIn (l : FullLattice) (f : ℕ → C64) (m L : ℕ) (eps : List Float) : Type 0 where
  pub reads : (r : ℕ) → r < edges_on l L → read_from eps (averaged_from l m L) r ≡ averaged_on l f L r

-- of whichever permittivities stand there, those of level L + 1 and its operator have been laid, and b says whether all numbers are finite
pub record AveragedLevel (l : FullLattice) (m L : ℕ) (eps : List Float) (os oc : List ℕ) (ox : List Float)
    (eps' : List Float) (os' oc' : List ℕ) (ox' : List Float) (b : Bool) : Type 0 where
  pub averaged : (f : ℕ → C64) → AveragedIn l f m L eps → eps' ≡ laid_numbers eps (averaged_off l m L) (averaged_part l f L)
  pub operator : (f : ℕ → C64) → AveragedIn l f m L eps
      → LaidRows (rediscretized_at l f (suc L)) (edges_on l (suc L)) os (stored_starts l m (suc L)) oc ox (operator_off l Rediscretized m (suc L)) os' oc' ox'
  pub finite : (f : ℕ → C64) → AveragedIn l f m L eps → b ≡ averaged_fine l m f L

-- levels 1 to L have been laid, and bad is the first that is not finite
pub record RediscretizedLeft (l : FullLattice) (f : ℕ → C64) (m L : ℕ) (eps : List Float) (os oc : List ℕ) (ox : List Float)
    (eps' : List Float) (os' oc' : List ℕ) (ox' : List Float) (bad : ℕ) : Type 0 where
  pub eps_are : eps' ≡ laid_numbers eps (eps_off l (suc m)) (rows (averaged_part l f) L)
  pub operators_are : OperatorsLeft l Rediscretized f m L os oc ox os' oc' ox'
  pub bad_is : bad ≡ first_of (averaged_fine l m f) L

-- for whichever permittivities are given at the front of the list
pub record RediscretizedDone (l : FullLattice) (m L : ℕ) (eps : List Float) (os oc : List ℕ) (ox : List Float)
    (eps' : List Float) (os' oc' : List ℕ) (ox' : List Float) (bad : ℕ) : Type 0 where
  pub left : (f : ℕ → C64) → GivenIn l f eps → RediscretizedLeft l f m L eps os oc ox eps' os' oc' ox' bad

-- ---- rediscretized: the scaling of m transfers

-- turned rows of every transfer stand in the lists, where the layout says
pub record TurnedStored (l : FullLattice) (m : ℕ) (ts us : List ℕ) (ys : List Float) : Type 0 where
  pub stored : (L : ℕ) → L < m → Stored ts (turned_part l L).s us ys (turned_part l L).k (edges_on l (suc L)) (edges_on l L)
  pub count_is : (L : ℕ) → L < m → get_or ts ((turned_part l L).s + edges_on l (suc L)) 0 ≡ turned_count l L

-- they are those of the permittivities that f reads
pub record TurnedIn (l : FullLattice) (f : ℕ → C64) (m : ℕ) (ts us : List ℕ) (ys : List Float) : Type 0 where
  pub turned_are : (L : ℕ) → L < m → (c : ℕ) → c < edges_on l (suc L) → rows_in (turned_part l L) ts us ys c ≡ turned_at l f L c

-- the volumes of level L have been laid from place k on, and b says whether they are finite
pub record VolumesLeft (l : FullLattice) (L k : ℕ) (xs xs' : List Float) (b : Bool) : Type 0 where
  pub volumes : xs' ≡ laid_numbers xs k (tabulate (volumes_at l L) (edges_on l L) 0)
  pub finite : b ≡ all_finite (tabulate (volumes_at l L) (edges_on l L) 0)

-- the volumes and inverse shares of transfer L have been laid, whichever turned rows stand in the lists, and b says whether they and the shares are finite
pub record ScaleLevel (l : FullLattice) (m L : ℕ) (ts us : List ℕ) (ys xs xs' : List Float) (b : Bool) : Type 0 where
  pub long : length xs' ≡ length xs
  pub scale : (f : ℕ → C64) → TurnedIn l f m ts us ys → xs' ≡ laid_numbers xs (scale_off l L) (scale_part l f L)
  pub finite : (f : ℕ → C64) → TurnedIn l f m ts us ys → b ≡ scale_fine l f L

-- those of the first L transfers, and bad is the first coarse level that is not finite
pub record ScalingLeft (l : FullLattice) (m L : ℕ) (ts us : List ℕ) (ys xs xs' : List Float) (bad : ℕ) : Type 0 where
  pub scaling : (f : ℕ → C64) → TurnedIn l f m ts us ys → xs' ≡ laid_numbers xs 0 (rows (scale_part l f) L)
  pub bad_is : (f : ℕ → C64) → TurnedIn l f m ts us ys → bad ≡ first_of (scale_fine l f) L
