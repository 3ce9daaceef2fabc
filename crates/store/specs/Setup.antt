-- A setup (docs/SPECIFICATION.md, 11): what it answers and what it leaves in the lent lists. `setup_of` is the whole of it: refusals in the order of the
-- table, or the level count and the levels, one behind another in each list.
-- Assumes nothing.
use Rattle.std.specs.Prelude.{ℕ, zero, suc, ◌-◌, ◌*◌, ◌/◌, ◌%◌, List, [], ◌++◌, Bool, true, not, ◌&&◌, cond, leb, ltb, Float}
use Rattle.numbers.specs.declared.C64.{C64}
use Rattle.numbers.specs.Places.{number_at}
use Rattle.numbers.specs.Lists.{tabulate, rows, laid, laid_numbers, all_finite, starts_of, some_repeats}
use Rattle.numbers.specs.Terms.{numbers_of}
use Rattle.lattice.specs.declared.lattice.Lattice.{Lattice}
use Rattle.lattice.specs.declared.input.Stretches.{Stretches}
use Rattle.lattice.specs.Check.{Verdict, accepted, refused, and_then, check_of}
use Rattle.lattice.specs.Lattice.{FullLattice, lattice_of}
use Rattle.lattice.specs.Levels.{depth_of, count_of, line_at}
use Rattle.operators.specs.LevelLists.{edges_on}
use Rattle.operators.specs.Levels.{eps_at, averaged_on, forward_at, turned_at, volumes_at, inverse_shares_at}
use Rattle.operators.specs.Volumes.{shares_finite}
use Rattle.store.specs.Store.{Store, Sizes, sizes, zeroed}
use Rattle.store.specs.Layout.{operator_at, forward_cols, turned_cols, operator_cols, next_edges, first_stored, eps_off, forward_off, turned_off, operator_off, starts_off, stored_starts, ends_off, eps_need, scale_need}
use Rattle.store.specs.declared.Choice.{Choice}
use Rattle.store.specs.declared.Choice.TheVariants.{Galerkin, Rediscretized}

-- ---- input and answer

-- the input of a setup but for the permittivities: also that of a change
pub record Input : Type 0 where
  pub lattice : Lattice
  pub xn : List Float
  pub xh : List Float
  pub yn : List Float
  pub yh : List Float
  pub zn : List Float
  pub zh : List Float
  pub choice : Choice
  pub coarsest : ℕ

abbrev pub input_of : Lattice → List Float → List Float → List Float → List Float → List Float → List Float → Choice → ℕ → Input
input_of v xn xh yn yh zn zh ch coarsest = record { lattice = v; xn = xn; xh = xh; yn = yn; yh = yh; zn = zn; zh = zh; choice = ch; coarsest = coarsest }

-- of the six lists as they go through the code
abbrev pub input_on : Lattice → Stretches → Choice → ℕ → Input
input_on v on = input_of v on.xn.now on.xh.now on.yn.now on.yh.now on.zn.now on.zh.now

-- the lattice with its stretches
abbrev pub full_of : Input → FullLattice
full_of i = lattice_of i.lattice i.xn i.xh i.yn i.yh i.zn i.zh

-- the count of transfers: one less than that of levels
abbrev pub transfers_of : Input → ℕ
transfers_of i = count_of (depth_of (full_of i) i.coarsest) - 1

-- what a call answers, and what it leaves
pub record Result : Type 0 where
  pub verdict : Verdict
  pub store : Store

abbrev pub result_of : Verdict → Store → Result
result_of v s = record { verdict = v; store = s }

-- the call goes on unless it is refused, which leaves s
abbrev pub unless : Verdict → Store → Result → Result
unless (accepted n) s r = r
unless (refused number place) s r = result_of (refused number place) s

-- ---- each level's part of each list: structure

-- line q: that of axis q % 3 on level q / 3
abbrev pub ends_part : FullLattice → ℕ → List ℕ
ends_part l q = line_at l (q % 3) (q / 3)

abbrev pub forward_starts_of : FullLattice → ℕ → List ℕ
forward_starts_of l L = starts_of (forward_cols l L) (edges_on l L)

abbrev pub forward_cols_of : FullLattice → ℕ → List ℕ
forward_cols_of l L = rows (forward_cols l L) (edges_on l L)

abbrev pub turned_starts_of : FullLattice → ℕ → List ℕ
turned_starts_of l L = starts_of (turned_cols l L) (edges_on l (suc L))

abbrev pub turned_cols_of : FullLattice → ℕ → List ℕ
turned_cols_of l L = rows (turned_cols l L) (edges_on l (suc L))

-- level 0 has a stored operator only if it is the last
abbrev pub if_stored : {A : Type 0} → ℕ → ℕ → List A → List A
if_stored m L xs = cond (ltb L (first_stored m)) [] xs

abbrev pub operator_starts_of : FullLattice → Choice → ℕ → ℕ → List ℕ
operator_starts_of l ch m L = if_stored m L (starts_of (operator_cols l ch L) (edges_on l L))

abbrev pub operator_cols_of : FullLattice → Choice → ℕ → ℕ → List ℕ
operator_cols_of l ch m L = if_stored m L (rows (operator_cols l ch L) (edges_on l L))

-- ---- numbers: f reads the given permittivities

abbrev pub eps_part : FullLattice → (ℕ → C64) → ℕ → List C64
eps_part l f L = tabulate (eps_at l f L) (edges_on l L) 0

abbrev pub averaged_part : FullLattice → (ℕ → C64) → ℕ → List C64
averaged_part l f L = tabulate (averaged_on l f (suc L)) (edges_on l (suc L)) 0

abbrev pub forward_numbers : FullLattice → (ℕ → C64) → ℕ → List C64
forward_numbers l f L = numbers_of (rows (forward_at l f L) (edges_on l L))

abbrev pub turned_numbers : FullLattice → (ℕ → C64) → ℕ → List C64
turned_numbers l f L = numbers_of (rows (turned_at l f L) (edges_on l (suc L)))

abbrev pub operator_numbers : FullLattice → Choice → ℕ → (ℕ → C64) → ℕ → List C64
operator_numbers l ch m f L = if_stored m L (numbers_of (rows (operator_at l ch f L) (edges_on l L)))

-- the fine volumes of a transfer, then its inverse shares
abbrev pub scale_part : FullLattice → (ℕ → C64) → ℕ → List C64
scale_part l f L = tabulate (volumes_at l L) (edges_on l L) 0 ++ tabulate (inverse_shares_at l f L) (edges_on l (suc L)) 0

-- what only a rediscretized store has
abbrev pub only_numbers : Choice → List C64 → List C64
only_numbers Galerkin vs = []
only_numbers Rediscretized vs = vs

-- ---- the lists of an accepted setup: places beyond the need stay

unfoldable pub filled : FullLattice → Choice → ℕ → (ℕ → C64) → Store → Store
filled l ch m f b =
    record {
      ends = laid b.ends 0 (rows (ends_part l) (3 * suc m));
      permittivities = laid_numbers (laid_numbers b.permittivities 0 (rows (eps_part l f) (suc m))) (eps_off l (suc m)) (only_numbers ch (rows (averaged_part l f) m));
      forward_starts = laid b.forward_starts 0 (rows (forward_starts_of l) m);
      forward_columns = laid b.forward_columns 0 (rows (forward_cols_of l) m);
      forward_values = laid_numbers b.forward_values 0 (rows (forward_numbers l f) m);
      turned_starts = laid b.turned_starts 0 (rows (turned_starts_of l) m);
      turned_columns = laid b.turned_columns 0 (rows (turned_cols_of l) m);
      turned_values = laid_numbers b.turned_values 0 (rows (turned_numbers l f) m);
      operator_starts = laid b.operator_starts 0 (rows (operator_starts_of l ch m) (suc m));
      operator_columns = laid b.operator_columns 0 (rows (operator_cols_of l ch m) (suc m));
      operator_values = laid_numbers b.operator_values 0 (rows (operator_numbers l ch m f) (suc m));
      scaling = laid_numbers b.scaling 0 (only_numbers ch (rows (scale_part l f) m));
    }

-- ---- refusals of a level: the first of n levels that fails a test, by the refusal's number there

unfoldable pub all_to : ℕ → (ℕ → Bool) → ℕ → Verdict
all_to number ok zero = accepted 0
all_to number ok (suc n) = and_then (all_to number ok n) (cond (ok n) (accepted 0) (refused number n))

-- 8: a forward row of the transfer to this level names a coarse edge twice
abbrev pub names_once : FullLattice → ℕ → Bool
names_once l L = not (some_repeats (forward_cols l L) (edges_on l L))

-- 7: a number of the transfer to level L, or a share, is not finite
abbrev pub only_fine : Choice → Bool → Bool
only_fine Galerkin b = true
only_fine Rediscretized b = b

unfoldable pub transfer_fine : FullLattice → Choice → (ℕ → C64) → ℕ → Bool
transfer_fine l ch f L =
    all_finite (eps_part l f (suc L))
    && (only_fine ch (all_finite (averaged_part l f L))
    && (all_finite (forward_numbers l f L)
    && (all_finite (turned_numbers l f L)
    && only_fine ch (all_finite (tabulate (volumes_at l L) (edges_on l L) 0) && shares_finite (turned_at l f L) (volumes_at l L) (edges_on l (suc L))))))

-- the transfer to a level and its operator; level 0 has an operator alone
unfoldable pub level_fine : FullLattice → Choice → ℕ → (ℕ → C64) → ℕ → Bool
level_fine l ch m f zero = all_finite (operator_numbers l ch m f zero)
level_fine l ch m f (suc L) = transfer_fine l ch f L && all_finite (operator_numbers l ch m f (suc L))

-- ---- 6: a list that is short, at its number; a list of three is short if any of the three is

abbrev pub room_if : ℕ → Bool → Verdict
room_if k b = cond b (accepted 0) (refused 6 k)

-- a list of three: starts, columns, values, two doubles each
abbrev pub room_of : ℕ → ℕ → ℕ → ℕ → ℕ → Bool
room_of starts terms hs hc hv = leb starts hs && (leb terms hc && leb terms (hv / 2))

unfoldable pub short_of : FullLattice → Choice → ℕ → Sizes → Verdict
short_of l ch m h =
    and_then (room_if 0 (leb (ends_off l (3 * suc m)) h.ends))
    (and_then (room_if 1 (leb (eps_need l ch m) (h.permittivities / 2)))
    (and_then (room_if 2 (room_of (starts_off (edges_on l) m) (forward_off l m) h.forward_starts h.forward_columns h.forward_values))
    (and_then (room_if 3 (room_of (starts_off (next_edges l) m) (turned_off l m) h.turned_starts h.turned_columns h.turned_values))
    (and_then (room_if 4 (room_of (stored_starts l m (suc m)) (operator_off l ch m (suc m)) h.operator_starts h.operator_columns h.operator_values))
    (room_if 5 (leb (scale_need l ch m) (h.scaling / 2)))))))

-- ---- the setup

-- 5, 8: levels alone
abbrev pub levels_of : Input → Verdict
levels_of i = and_then (depth_of (full_of i) i.coarsest) (all_to 8 (names_once (full_of i)) (transfers_of i))

-- 5, 8, 6: structure alone, known before any number
abbrev pub structure_of : Input → Sizes → Verdict
structure_of i h = and_then (levels_of i) (short_of (full_of i) i.choice (transfers_of i) h)

-- 1 to 4 leave the lists as they were; 5, 8, 6 and 7 leave zero in every place
unfoldable pub setup_of : Input → List Float → Store → Result
setup_of i eps s =
    unless (check_of i.lattice i.xn i.xh i.yn i.yh i.zn i.zh eps) s
    (unless (structure_of i (sizes s)) (zeroed s)
    (unless (all_to 7 (level_fine (full_of i) i.choice (transfers_of i) (number_at eps)) (suc (transfers_of i))) (zeroed s)
    (result_of (accepted (suc (transfers_of i))) (filled (full_of i) i.choice (transfers_of i) (number_at eps) s))))
