-- One row worked out anew in the lists of numbers, if its flag is set; and what a function promises that sees some of the lists only.
-- Assumes nothing.
use Rattle.std.specs.Prelude.{◌≡◌, List, Bool, true, false, length, get_or, Float, ℕ, suc, ◌+◌, ◌*◌, ◌≤◌, ◌<◌, ◌^◌}
use Rattle.numbers.specs.Lists.{tabulate, start_of, read_from}
use Rattle.numbers.specs.Terms.{ColumnsStand}
use Rattle.lattice.specs.declared.levels.Three.{Three}
use Rattle.lattice.specs.Grid.{Limits, unknowns_of, at_of}
use Rattle.lattice.specs.Lattice.{FullLattice}
use Rattle.lattice.specs.Levels.{three_at}
use Rattle.weights.specs.TwoLevels.{two_at}
use Rattle.weights.specs.Tables.{node_no, node_count, SpanOf, numbers_row, count_in}
use Rattle.weights.specs.Prolongation.{weight_numbers}
use Rattle.weights.specs.declared.rows.Span.{Span}
use Rattle.operators.specs.LevelLists.{edges_on}
use Rattle.store.specs.Layout.{forward_cols, turned_cols, next_edges, forward_count, eps_off, forward_off, turned_off, starts_off}
use Rattle.store.specs.FillSteps.{offsets_at}
use Rattle.store.specs.declared.transfers.Offsets.{Offsets}
use Rattle.store.specs.Plan.{step, row_fine}
use Rattle.store.specs.Rows.{Row, rules}
use Rattle.store.specs.Work.{Structured}
use Rattle.store.specs.Renewed.{Fixed, Five, five, store_of, Renewed}
use Rattle.store.specs.Parts.{part_size, part_off, flag_at}
use Rattle.store.specs.declared.Choice.{Choice}

-- one row worked out anew in the lists of numbers, and whether it is finite
pub record RowRenewed (l : FullLattice) (ch : Choice) (m : ℕ) (x : Fixed) (r : Row) (v : Five) (b : Bool) (u : Five) : Type 0 where
  pub stepped : (ends : List ℕ) → Structured l ch m (store_of ends x v) → store_of ends x u ≡ step (rules l ch m) (store_of ends x v) r
  pub tested : (ends : List ℕ) → Structured l ch m (store_of ends x v) → b ≡ row_fine (rules l ch m) (store_of ends x v) r

-- row r if flag q is set; else all is as before
pub record RowTaken (l : FullLattice) (ch : Choice) (m : ℕ) (x : Fixed) (flags : List ℕ) (q : ℕ) (r : Row) (v : Five) (b : Bool) (u : Five) : Type 0 where
  pub left : flag_at flags q ≡ false → (b ≡ true) × (u ≡ v)
  pub taken : flag_at flags q ≡ true → RowRenewed l ch m x r v b u

-- the flags of part p begin at `base`, and are all there
pub record PartFlags (l : FullLattice) (ch : Choice) (m p base : ℕ) (flags : List ℕ) : Type 0 where
  pub base_is : base ≡ part_off l ch m p
  pub there : base + part_size l ch m p ≤ 64 * length flags
  pub low : base ≤ 2 ^ 32

-- the lines of levels L and L + 1, and the nodes of the coarse one on the fine one
pub record PairAt (l : FullLattice) (L : ℕ) (fine coarse : Three) (nn : List ℕ) : Type 0 where
  pub limits : Limits l.grid
  pub fine_is : fine ≡ three_at l L
  pub coarse_is : coarse ≡ three_at l (suc L)
  pub nodes_are : nn ≡ tabulate (node_no (two_at l L)) node_count 0

-- ---- what a function promises that sees some of the lists only: g puts the list that it writes among the others, whatever these are

-- row r worked out anew
pub record Made (l : FullLattice) (ch : Choice) (m : ℕ) (r : Row) (g : Five → List Float → Five) (v : List Float) (b : Bool) (v' : List Float) : Type 0 where
  pub each : (x : Fixed) (w : Five) → RowRenewed l ch m x r (g w v) b (g w v')

-- the same of either choice and of any count of levels
pub record MadeAny (l : FullLattice) (r : Row) (g : Five → List Float → Five) (v : List Float) (b : Bool) (v' : List Float) : Type 0 where
  pub made : (ch : Choice) (m : ℕ) → Made l ch m r g v b v'

pub record RenewedIn (l : FullLattice) (ch : Choice) (m : ℕ) (rs : List Row) (g : Five → List Float → Five) (v : List Float) (n : ℕ) (v' : List Float) : Type 0 where
  pub each : (x : Fixed) (w : Five) → Renewed l ch m x rs (g w v) n (g w v')

-- the permittivities, with nothing else seen; the numbers of the forward rows, with the permittivities; those of the turned rows, with the forward ones
abbrev pub with_eps : Five → List Float → Five
with_eps w eps = five eps w.f w.t w.o w.c

abbrev pub with_forward : List Float → Five → List Float → Five
with_forward eps w values = five eps values w.t w.o w.c

abbrev pub with_turned : List Float → Five → List Float → Five
with_turned values w tvalues = five w.e values tvalues w.o w.c

-- ---- what the forward rows ask for

-- the starts of n rows stand in a list from place s on
pub record StartsAt (cols : ℕ → List ℕ) (n s : ℕ) (ss : List ℕ) : Type 0 where
  pub starts_are : (r : ℕ) → r ≤ n → get_or ss (s + r) 0 ≡ start_of cols r
  pub starts_room : s + n < length ss
  pub starts_low : s + n ≤ 2 ^ 40

-- the tables of the transfer from level L + 1 to L: what a row's numbers are worked out from, and what comes of it
pub record WeightsReady (l : FullLattice) (L : ℕ) (s : Span) (ps ds ns : List ℕ) (xs eps : List Float) : Type 0 where
  pub span : SpanOf s ps ds ns xs eps
  pub fine_is : unknowns_of s.fine ≡ edges_on l L
  pub counts_are : (r : ℕ) → r < edges_on l L → count_in ns (at_of s.fine r) ≡ length (forward_cols l L r)
  pub rows_are : (r : ℕ) → r < edges_on l L → numbers_row s.fine s.coarse (read_from eps s.feps) (read_from eps s.ceps) ps ds ns xs r
      ≡ weight_numbers (two_at l L) (read_from eps (eps_off l L)) (read_from eps (eps_off l (suc L))) r

-- ---- what the turned rows ask for

-- the rows stand in the lists, n forward rows, from the transfer's offsets on
pub record TurnedReady (l : FullLattice) (L : ℕ) (o : Offsets) (n : ℕ) (ss cs : List ℕ) (xs : List Float) (ts us : List ℕ) : Type 0 where
  pub limits : Limits l.grid
  pub offsets : o ≡ offsets_at l L
  pub count : n ≡ edges_on l L
  pub forward : ColumnsStand (forward_cols l L) (edges_on l L) ss (starts_off (edges_on l) L) cs (forward_off l L)
  pub turned : ColumnsStand (turned_cols l L) (edges_on l (suc L)) ts (starts_off (next_edges l) L) us (turned_off l L)
  pub numbers_room : 2 * (forward_off l L + forward_count l L) ≤ length xs
