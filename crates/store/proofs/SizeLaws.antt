-- The parts of a level: how many rows and numbers it has, how long each part is, and that all offsets are small.
-- Assumes nothing.
use Prim.Native.Nat.{ℕ, zero, suc, ◌+◌, ◌*◌, ◌≤◌}
use mathlib.Core.Path.{◌≡◌, refl, sym, ◌∙◌}
use mathlib.Core.Bool.{Bool, true, false, cond}
use native.Mathlib.Omega.{arith}
use lib.Dec.{ltb}
use lib.ListN.{length, length-append}
use borrow.Author.Tests.{le-ltb}
use Rattle.numbers.specs.declared.C64.{C64}
use Rattle.numbers.specs.Lists.{tabulate, rows, start_of, starts_of}
use Rattle.numbers.specs.Terms.{columns_of, numbers_of}
use Rattle.numbers.proofs.SumLaws.{sum_most}
use Rattle.numbers.proofs.TabulateLaws.{length_tabulate}
use Rattle.numbers.proofs.PartLaws.{same_start, numbers_count, starts_long, cols_long, part_long}
use Rattle.lattice.specs.Grid.{Limits}
use Rattle.lattice.specs.Lattice.{FullLattice}
use Rattle.operators.specs.LevelLists.{edges_on}
use Rattle.operators.specs.Levels.{eps_at, averaged_on, forward_at, turned_at, volumes_at, inverse_shares_at}
use Rattle.operators.proofs.RangeLaws as Ranges
use Rattle.store.specs.Layout.{operator_at, blank, forward_cols, turned_cols, operator_cols, next_edges, forward_count, turned_count, operator_count, first_stored, stored_count, scale_count, eps_off, forward_off, turned_off, operator_off, starts_off, stored_starts}
use Rattle.store.specs.Setup.{eps_part, averaged_part, forward_starts_of, forward_cols_of, forward_numbers, turned_starts_of, turned_cols_of, turned_numbers, operator_starts_of, operator_cols_of, operator_numbers, scale_part}
use Rattle.store.specs.declared.Choice.{Choice}
use Rattle.store.specs.declared.Choice.TheVariants.{Galerkin, Rediscretized}
use Rattle.store.proofs.ColumnLaws.{forward_cols_at, turned_cols_at, operator_cols_at, turned_off_lem}
use Rattle.numbers.proofs.TransposedLaws.{starts_same, columns_same}

-- ---- counts

module _ (l : FullLattice) (f : ℕ → C64) (L : ℕ) where
  pub forward_count_lem : start_of (forward_at l f L) (edges_on l L) ≡ forward_count l L
  forward_count_lem = same_start (forward_at l f L) (forward_cols l L) (forward_cols_at l f L) (edges_on l L)

  pub turned_count_lem : start_of (turned_at l f L) (edges_on l (suc L)) ≡ turned_count l L
  turned_count_lem = same_start (turned_at l f L) (turned_cols l L) (turned_cols_at l f L) (edges_on l (suc L))

pub operator_count_lem : (l : FullLattice) (ch : Choice) (f : ℕ → C64) (L : ℕ) → start_of (operator_at l ch f L) (edges_on l L) ≡ operator_count l ch L
operator_count_lem l ch f L = same_start (operator_at l ch f L) (operator_cols l ch L) (operator_cols_at l ch f L) (edges_on l L)

-- levels below the finest are stored
pub stored_later : (m L : ℕ) → ltb (suc L) (first_stored m) ≡ false
stored_later zero L = le-ltb (suc L) 0 (omega arith)
stored_later (suc m) L = le-ltb (suc L) 1 (omega arith)

-- ---- how long the parts are

module _ (l : FullLattice) where
  pub fstarts_long : (i : ℕ) → length (forward_starts_of l i) ≡ edges_on l i + 1
  fstarts_long i = starts_long (forward_cols l i) (edges_on l i)

  pub fcols_long : (i : ℕ) → length (forward_cols_of l i) ≡ forward_count l i
  fcols_long i = cols_long (forward_cols l i) (edges_on l i)

  pub tstarts_long : (i : ℕ) → length (turned_starts_of l i) ≡ next_edges l i + 1
  tstarts_long i = starts_long (turned_cols l i) (edges_on l (suc i))

  pub tcols_long : (i : ℕ) → length (turned_cols_of l i) ≡ turned_count l i
  tcols_long i = cols_long (turned_cols l i) (edges_on l (suc i))

  module _ (f : ℕ → C64) where
    pub eps_long : (i : ℕ) → length (eps_part l f i) ≡ edges_on l i
    eps_long i = length_tabulate (eps_at l f i) (edges_on l i) 0

    pub averaged_long : (i : ℕ) → length (averaged_part l f i) ≡ next_edges l i
    averaged_long i = length_tabulate (averaged_on l f (suc i)) (edges_on l (suc i)) 0

    pub fnumbers_long : (i : ℕ) → length (forward_numbers l f i) ≡ forward_count l i
    fnumbers_long i = numbers_count (forward_at l f i) (forward_cols l i) (forward_cols_at l f i) (edges_on l i)

    pub tnumbers_long : (i : ℕ) → length (turned_numbers l f i) ≡ turned_count l i
    tnumbers_long i = numbers_count (turned_at l f i) (turned_cols l i) (turned_cols_at l f i) (edges_on l (suc i))

    pub scale_long : (i : ℕ) → length (scale_part l f i) ≡ scale_count l i
    scale_long i =
        length-append (tabulate (volumes_at l i) (edges_on l i) 0) (tabulate (inverse_shares_at l f i) (edges_on l (suc i)) 0)
        ∙ (λ k. length_tabulate (volumes_at l i) (edges_on l i) 0 k + length_tabulate (inverse_shares_at l f i) (edges_on l (suc i)) 0 k)

  abbrev pub stored_rows : ℕ → ℕ → ℕ
  stored_rows m i = cond (ltb i (first_stored m)) 0 (edges_on l i + 1)

  module _ (ch : Choice) (m : ℕ) where
    pub ostarts_long : (i : ℕ) → length (operator_starts_of l ch m i) ≡ stored_rows m i
    ostarts_long i = part_long (ltb i (first_stored m)) (starts_of (operator_cols l ch i) (edges_on l i)) (edges_on l i + 1) (starts_long (operator_cols l ch i) (edges_on l i))

    pub ocols_long : (i : ℕ) → length (operator_cols_of l ch m i) ≡ stored_count l ch m i
    ocols_long i = part_long (ltb i (first_stored m)) (rows (operator_cols l ch i) (edges_on l i)) (operator_count l ch i) (cols_long (operator_cols l ch i) (edges_on l i))

    pub onumbers_long : (f : ℕ → C64) (i : ℕ) → length (operator_numbers l ch m f i) ≡ stored_count l ch m i
    onumbers_long f i =
        part_long (ltb i (first_stored m)) (numbers_of (rows (operator_at l ch f i) (edges_on l i))) (operator_count l ch i)
        (numbers_count (operator_at l ch f i) (operator_cols l ch i) (operator_cols_at l ch f i) (edges_on l i))

-- ---- the parts of a stored level are its rows

module _ (l : FullLattice) (m L : ℕ) (z : ltb L (first_stored m) ≡ false) where
  pub rows_stored : stored_rows l m L ≡ edges_on l L + 1
  rows_stored = rw z refl

  module _ (ch : Choice) where
    pub count_stored : stored_count l ch m L ≡ operator_count l ch L
    count_stored = rw z refl

    module _ (f : ℕ → C64) where
      pub starts_stored : operator_starts_of l ch m L ≡ starts_of (operator_at l ch f L) (edges_on l L)
      starts_stored = rw z (sym (starts_same (operator_at l ch f L) (operator_cols l ch L) (edges_on l L) (λ r h. operator_cols_at l ch f L r)))

      pub columns_stored : operator_cols_of l ch m L ≡ columns_of (rows (operator_at l ch f L) (edges_on l L))
      columns_stored = rw z (sym (columns_same (operator_at l ch f L) (operator_cols l ch L) (edges_on l L) (λ r h. operator_cols_at l ch f L r)))

      pub numbers_stored : operator_numbers l ch m f L ≡ numbers_of (rows (operator_at l ch f L) (edges_on l L))
      numbers_stored = rw z refl

-- ---- the offsets are small

either_most : (b : Bool) {x n : ℕ} → x ≤ n → cond b 0 x ≤ n
either_most true h = omega arith
either_most false h = h

module _ (l : FullLattice) (limits : Limits l.grid) where
  pub edges_few : (L : ℕ) → edges_on l L ≤ 12288
  edges_few L = Ranges.edges_few l limits L

  pub forward_few : (L : ℕ) → forward_count l L ≤ 98304
  forward_few L = omega (arith, Ranges.forward_few l limits L blank, forward_count_lem l blank L)

  pub operator_few : (ch : Choice) (L : ℕ) → operator_count l ch L ≤ 150994944
  operator_few Galerkin L = omega (arith, Ranges.galerkin_few l limits L blank, operator_count_lem l Galerkin blank L)
  operator_few Rediscretized L = omega (arith, Ranges.rediscretized_few l limits L blank, operator_count_lem l Rediscretized blank L)

  pub eps_low : (L : ℕ) → eps_off l L ≤ 12288 * L
  eps_low L = sum_most (edges_on l) 12288 L (λ i h. edges_few i)

  pub starts_low : (L : ℕ) → starts_off (edges_on l) L ≤ 12289 * L
  starts_low L = sum_most (λ i. edges_on l i + 1) 12289 L (λ i h. omega (arith, edges_few i))

  pub tstarts_low : (L : ℕ) → starts_off (next_edges l) L ≤ 12289 * L
  tstarts_low L = sum_most (λ i. next_edges l i + 1) 12289 L (λ i h. omega (arith, edges_few (suc i)))

  pub forward_low : (L : ℕ) → forward_off l L ≤ 98304 * L
  forward_low L = sum_most (forward_count l) 98304 L (λ i h. forward_few i)

  pub turned_low : (L : ℕ) → turned_off l L ≤ 98304 * L
  turned_low L = omega (arith, turned_off_lem l limits L, forward_low L)

  pub ostarts_low : (m L : ℕ) → stored_starts l m L ≤ 12289 * L
  ostarts_low m L = sum_most (stored_rows l m) 12289 L (λ i h. either_most (ltb i (first_stored m)) (omega (arith, edges_few i)))

  pub operator_low : (ch : Choice) (m L : ℕ) → operator_off l ch m L ≤ 150994944 * L
  operator_low ch m L = sum_most (stored_count l ch m) 150994944 L (λ i h. either_most (ltb i (first_stored m)) (operator_few ch i))
