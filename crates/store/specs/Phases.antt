-- The phases of a setup: each lays its parts of all levels into the lists it is lent, and answers the first coarse level that has a number that is not
-- finite. All transfers first, then all operators, then the scaling.
-- Assumes nothing.
use Rattle.std.specs.Prelude.{ℕ, zero, suc, ◌+◌, ◌*◌, ◌<◌, ◌≤◌, ◌≡◌, List, [], Bool, ◌&&◌, cond, eqb, ltb, length, get_or, Float, Option, None, Some}
use Rattle.numbers.specs.declared.C64.{C64}
use Rattle.numbers.specs.declared.terms.Part.{Part}
use Rattle.numbers.specs.Lists.{tabulate, rows, laid, laid_numbers, all_finite, read_from}
use Rattle.lattice.specs.declared.line.Line.{Line}
use Rattle.lattice.specs.declared.levels.Three.{Three}
use Rattle.lattice.specs.Lattice.{FullLattice}
use Rattle.lattice.specs.Line.{packed}
use Rattle.operators.specs.LevelLists.{edges_on, TransferIn}
use Rattle.operators.specs.Levels.{turned_at, volumes_at}
use Rattle.operators.specs.Volumes.{shares_finite}
use Rattle.store.specs.Layout.{next_edges, forward_off, turned_off, operator_off, starts_off, stored_starts, eps_off, averaged_off, scale_off}
use Rattle.store.specs.Setup.{ends_part, eps_part, averaged_part, forward_starts_of, forward_cols_of, forward_numbers, turned_starts_of, turned_cols_of, turned_numbers, operator_starts_of, operator_cols_of, operator_numbers}
use Rattle.store.specs.declared.Choice.{Choice}
use Rattle.store.specs.declared.Choice.TheVariants.{Rediscretized}

-- ---- lines

-- what a look past a list of lines finds
abbrev pub blank_line : Line
blank_line = record { cells = 0; ends = [] }

-- the lines of levels 0 to m: that of axis a on level L is number 3 L + a
pub record HasLines (l : FullLattice) (m : ℕ) (lines : List Line) : Type 0 where
  pub long : length lines ≡ 36
  pub line_is : (q : ℕ) → q < 3 * suc m → get_or lines q blank_line ≡ packed (ends_part l q)

abbrev pub three_in : List Line → ℕ → Three
three_in lines L = record { x = get_or lines (3 * L) blank_line; y = get_or lines (3 * L + 1) blank_line; z = get_or lines (3 * L + 2) blank_line }

-- ---- the parts of level L, and of the transfer from level L + 1 to L

abbrev pub forward_part : FullLattice → ℕ → Part
forward_part l L = record { s = starts_off (edges_on l) L; k = forward_off l L }

abbrev pub turned_part : FullLattice → ℕ → Part
turned_part l L = record { s = starts_off (next_edges l) L; k = turned_off l L }

abbrev pub operator_part : FullLattice → Choice → ℕ → ℕ → Part
operator_part l ch m L = record { s = stored_starts l m L; k = operator_off l ch m L }

-- ---- levels that are not finite: the first coarse level, 0 where there is none

-- 1 + a level, 0 where there is none: of the level before the first coarse level that is not finite, that coarse level
abbrev pub level_code : Option ℕ → ℕ
level_code None = 0
level_code (Some L) = suc L

abbrev pub noted : ℕ → ℕ → Bool → ℕ
noted bad level ok = cond (eqb bad 0) (cond ok 0 (suc level)) bad

unfoldable pub first_of : (ℕ → Bool) → ℕ → ℕ
first_of fine zero = 0
first_of fine (suc n) = noted (first_of fine n) n (fine n)

-- the lower of two levels, 0 being none
abbrev pub lower_of : ℕ → ℕ → ℕ
lower_of a b = cond (eqb a 0) b (cond (eqb b 0) a (cond (ltb a b) a b))

-- ---- the given permittivities and m transfers

-- f reads the given permittivities, which stand at the front of a list
pub record GivenIn (l : FullLattice) (f : ℕ → C64) (eps : List Float) : Type 0 where
  pub reads : (r : ℕ) → r < edges_on l 0 → read_from eps 0 r ≡ f r

pub record TransferRoom (l : FullLattice) (m : ℕ) (eps : List Float) (ss cs : List ℕ) (xs : List Float) (ts us : List ℕ) (ys : List Float) : Type 0 where
  pub eps_room : 2 * eps_off l (suc m) ≤ length eps
  pub forward_starts_are : starts_off (edges_on l) m ≤ length ss
  pub forward_columns_are : forward_off l m ≤ length cs
  pub forward_values_are : 2 * forward_off l m ≤ length xs
  pub turned_starts_are : starts_off (next_edges l) m ≤ length ts
  pub turned_columns_lem : turned_off l m ≤ length us
  pub turned_values_are : 2 * turned_off l m ≤ length ys

pub record TransfersLeft (l : FullLattice) (f : ℕ → C64) (m : ℕ) (eps : List Float) (ss cs : List ℕ) (xs : List Float) (ts us : List ℕ) (ys : List Float)
    (eps' : List Float) (ss' cs' : List ℕ) (xs' : List Float) (ts' us' : List ℕ) (ys' : List Float) : Type 0 where
  pub eps_are : eps' ≡ laid_numbers eps 0 (rows (eps_part l f) (suc m))
  pub starts_are : ss' ≡ laid ss 0 (rows (forward_starts_of l) m)
  pub columns_are : cs' ≡ laid cs 0 (rows (forward_cols_of l) m)
  pub values_are : xs' ≡ laid_numbers xs 0 (rows (forward_numbers l f) m)
  pub tstarts_are : ts' ≡ laid ts 0 (rows (turned_starts_of l) m)
  pub tcolumns_are : us' ≡ laid us 0 (rows (turned_cols_of l) m)
  pub tvalues_are : ys' ≡ laid_numbers ys 0 (rows (turned_numbers l f) m)

-- turned numbers are forward numbers, so they are finite where those are
unfoldable pub weights_fine : FullLattice → (ℕ → C64) → ℕ → Bool
weights_fine l f L = all_finite (eps_part l f (suc L)) && all_finite (forward_numbers l f L)

-- every transfer stands in the lists, where the layout says
pub record TransfersIn (l : FullLattice) (f : ℕ → C64) (m : ℕ) (ss cs : List ℕ) (xs : List Float) (ts us : List ℕ) (ys : List Float) : Type 0 where
  pub each_in : (L : ℕ) → L < m → TransferIn l f L (forward_part l L) ss cs xs (turned_part l L) ts us ys

-- ---- the operators of levels 1 to m, of either choice

pub record OperatorRoom (l : FullLattice) (ch : Choice) (m : ℕ) (ss cs : List ℕ) (xs : List Float) : Type 0 where
  pub starts_room : stored_starts l m (suc m) ≤ length ss
  pub columns_room : operator_off l ch m (suc m) ≤ length cs
  pub values_room : 2 * operator_off l ch m (suc m) ≤ length xs

pub record OperatorsLeft (l : FullLattice) (ch : Choice) (f : ℕ → C64) (m L : ℕ) (ss cs : List ℕ) (xs : List Float) (ss' cs' : List ℕ) (xs' : List Float) : Type 0 where
  pub starts_are : ss' ≡ laid ss 0 (rows (operator_starts_of l ch m) (suc L))
  pub columns_are : cs' ≡ laid cs 0 (rows (operator_cols_of l ch m) (suc L))
  pub values_are : xs' ≡ laid_numbers xs 0 (rows (operator_numbers l ch m f) (suc L))

unfoldable pub operator_fine : FullLattice → Choice → ℕ → (ℕ → C64) → ℕ → Bool
operator_fine l ch m f L = all_finite (operator_numbers l ch m f (suc L))

-- ---- rediscretized: the averaged permittivities of levels 1 to m stand behind all others

pub record AveragedRoom (l : FullLattice) (m : ℕ) (eps : List Float) : Type 0 where
  pub room : 2 * averaged_off l m m ≤ length eps

unfoldable pub averaged_fine : FullLattice → ℕ → (ℕ → C64) → ℕ → Bool
averaged_fine l m f L = all_finite (averaged_part l f L) && operator_fine l Rediscretized m f L

-- ---- rediscretized: volumes and inverse shares

pub record ScalingRoom (l : FullLattice) (m : ℕ) (xs : List Float) : Type 0 where
  pub room : 2 * scale_off l m ≤ length xs

unfoldable pub scale_fine : FullLattice → (ℕ → C64) → ℕ → Bool
scale_fine l f L = all_finite (tabulate (volumes_at l L) (edges_on l L) 0) && shares_finite (turned_at l f L) (volumes_at l L) (edges_on l (suc L))
