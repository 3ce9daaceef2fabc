-- A whole transfer in lent lists (docs/SPECIFICATION.md, 7): the coarse permittivities, the forward rows and the turned rows.
-- Assumes nothing.
use Rattle.std.specs.Prelude.{ℕ, ◌+◌, ◌*◌, ◌<◌, ◌≤◌, ◌^◌, ◌≡◌, Bool, ◌&&◌, List, length, Float}
use Rattle.numbers.specs.declared.C64.{C64}
use Rattle.lattice.specs.Grid.{unknowns_of}
use Rattle.numbers.specs.Lists.{tabulate, rows, laid, laid_numbers, all_finite, start_of, starts_of, read_from}
use Rattle.weights.specs.TwoLevels.{TwoLevels, fine_grid, coarse_grid}
use Rattle.weights.specs.CoarseEps.{coarse_eps}
use Rattle.weights.specs.Prolongation.{weight_columns, weight_numbers, prolongation_row}
use Rattle.numbers.specs.Transpose.{turned_row}
use Rattle.numbers.specs.Terms.{LaidRows}
use Rattle.numbers.specs.declared.terms.Part.{Part}

abbrev pub fine_edges : TwoLevels → ℕ
fine_edges t = unknowns_of (fine_grid t)

abbrev pub coarse_edges : TwoLevels → ℕ
coarse_edges t = unknowns_of (coarse_grid t)

-- how many weights the transfer has
abbrev pub weights_in : TwoLevels → ℕ
weights_in t = start_of (weight_columns t) (fine_edges t)

-- the permittivities of the coarse level from those of the fine one
abbrev pub eps_of : TwoLevels → (ℕ → C64) → List C64
eps_of t f = tabulate (coarse_eps t f) (coarse_edges t) 0

-- all weights, row by row
abbrev pub all_weights : TwoLevels → (ℕ → C64) → (ℕ → C64) → List C64
all_weights t f g = rows (weight_numbers t f g) (fine_edges t)

-- room in the lists: the permittivities of the fine level stand from place feps on, those of the coarse one behind them from ceps on
pub record WholeRoom (t : TwoLevels) (feps ceps : ℕ) (forward turned : Part) (eps : List Float) (ss cs : List ℕ) (xs : List Float) (ts us : List ℕ) (ys : List Float) : Type 0 where
  pub apart : feps + fine_edges t ≤ ceps
  pub eps_room : 2 * (ceps + coarse_edges t) ≤ length eps
  pub starts_room : forward.s + fine_edges t < length ss
  pub columns_room : forward.k + weights_in t ≤ length cs
  pub values_room : 2 * (forward.k + weights_in t) ≤ length xs
  pub tstarts_room : turned.s + coarse_edges t < length ts
  pub tcolumns_room : turned.k + weights_in t ≤ length us
  pub tvalues_room : 2 * (turned.k + weights_in t) ≤ length ys
  pub ceps_low : ceps ≤ 2 ^ 32
  pub s_low : forward.s ≤ 2 ^ 32
  pub k_low : forward.k ≤ 2 ^ 32
  pub ts_low : turned.s ≤ 2 ^ 32
  pub tk_low : turned.k ≤ 2 ^ 32

-- what the transfer leaves in the lists
pub record WholeLeft (t : TwoLevels) (feps ceps : ℕ) (forward turned : Part) (eps : List Float) (ss cs : List ℕ) (xs : List Float) (ts us : List ℕ) (ys : List Float)
    (eps' : List Float) (ss' cs' : List ℕ) (xs' : List Float) (ts' us' : List ℕ) (ys' : List Float) : Type 0 where
  pub eps_are : eps' ≡ laid_numbers eps ceps (eps_of t (read_from eps feps))
  pub starts_are : ss' ≡ laid ss forward.s (starts_of (weight_columns t) (fine_edges t))
  pub columns_are : cs' ≡ laid cs forward.k (rows (weight_columns t) (fine_edges t))
  pub values_are : xs' ≡ laid_numbers xs forward.k (all_weights t (read_from eps feps) (coarse_eps t (read_from eps feps)))
  pub turned_are :
      LaidRows (turned_row (prolongation_row t (read_from eps feps) (coarse_eps t (read_from eps feps))) (fine_edges t)) (coarse_edges t)
      ts turned.s us ys turned.k ts' us' ys'

-- every number of the transfer is finite
unfoldable pub whole_finite : TwoLevels → (ℕ → C64) → Bool
whole_finite t f = all_finite (eps_of t f) && all_finite (all_weights t f (coarse_eps t f))
