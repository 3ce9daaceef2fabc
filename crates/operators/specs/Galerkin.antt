-- Galerkin's operator rows (docs/SPECIFICATION.md, 9): over the turned row, the fine row by column and the forward row, (weight × value) × weight,
-- summed by column from +0; an untouched diagonal is 1. A, P and R give the rows of the fine operator, of the prolongation and of its transpose.
-- Assumes nothing.
use Rattle.std.specs.Prelude.{ℕ, ◌+◌, ◌*◌, ◌<◌, ◌≤◌, ◌^◌, ◌≡◌, ◌≢◌, Bool, true, cond, List, [], ◌∷◌, eqb, length, get_or, replicate, Float}
use Rattle.numbers.specs.declared.C64.{C64}
use Rattle.numbers.specs.Complex.{zero_f, one_number, zero_number, product}
use Rattle.numbers.specs.Places.{places, number_at, set_number}
use Rattle.numbers.specs.Terms.{Term, columns_of, numbers_of, stored_row, Stored, most_rows}
use Rattle.numbers.specs.Lists.{each, tabulate, rows, laid_numbers, all_finite, contains, start_of}
use Rattle.lattice.specs.Grid.{unknowns_of, Limits}
use Rattle.lattice.specs.Lattice.{FullLattice, full_lattice}
use Rattle.numbers.specs.declared.terms.Part.{Part}
use Rattle.operators.specs.declared.galerkin.Rows.{Rows}
use Rattle.operators.specs.declared.galerkin.Fine.{Fine}
use Rattle.operators.specs.declared.galerkin.Fine.TheVariants.{Computed as FromLattice, Stored as FromLists}
use Rattle.operators.specs.declared.galerkin.FineRows.{FineRows}
use Rattle.operators.specs.declared.galerkin.FineRows.TheVariants.{Computed, Stored as StoredFrom}
use Rattle.operators.specs.Stencil.{stencil_row}
use Rattle.numbers.specs.Collect.{inserted, collected, at_first, from_zero, summed_at}

-- (weight × value) × weight: turned, fine and forward
unfoldable pub forward_term : C64 → C64 → Term → List Term
forward_term w v u = record { column = u.column; number = product (product w v) u.number } ∷ []

-- an entry of the fine row, taken with weight w, through the forward row of its column
unfoldable pub forward_terms : (ℕ → List Term) → C64 → Term → List Term
forward_terms P w a = each (forward_term w a.number) (P a.column)

-- an entry of the turned row, through the fine row of its column
unfoldable pub fine_terms : (ℕ → List Term) → (ℕ → List Term) → Term → List Term
fine_terms A P t = each (forward_terms P t.number) (A t.column)

unfoldable pub galerkin_terms : (ℕ → List Term) → (ℕ → List Term) → List Term → List Term
galerkin_terms A P ts = each (fine_terms A P) ts

-- the row with 1 on its diagonal, where nothing stands there
unfoldable pub with_diagonal : ℕ → List Term → List Term
with_diagonal c row = cond (contains c (columns_of row)) row (inserted at_first (record { column = c; number = one_number }) row)

unfoldable pub galerkin_row : (ℕ → List Term) → (ℕ → List Term) → (ℕ → List Term) → ℕ → List Term
galerkin_row A P R c = with_diagonal c (collected from_zero [] (galerkin_terms A P (R c)))

unfoldable pub galerkin_columns : (ℕ → List Term) → (ℕ → List Term) → (ℕ → List Term) → ℕ → List ℕ
galerkin_columns A P R c = columns_of (galerkin_row A P R c)

unfoldable pub galerkin_numbers : (ℕ → List Term) → (ℕ → List Term) → (ℕ → List Term) → ℕ → List C64
galerkin_numbers A P R c = numbers_of (galerkin_row A P R c)

-- the rows that row c reads besides turned row c: of the fine operator, and forward rows
unfoldable pub fine_rows_read : (ℕ → List Term) → ℕ → List ℕ
fine_rows_read R c = columns_of (R c)

unfoldable pub columns_at : (ℕ → List Term) → ℕ → List ℕ
columns_at A r = columns_of (A r)

unfoldable pub forward_rows_read : (ℕ → List Term) → (ℕ → List Term) → ℕ → List ℕ
forward_rows_read A R c = each (columns_at A) (fine_rows_read R c)

-- the rows that stand in lists from a part on
abbrev pub rows_in : Part → List ℕ → List ℕ → List Float → ℕ → List Term
rows_in p starts cs xs = stored_row starts p.s cs xs p.k

abbrev pub rows_of : Rows → ℕ → List Term
rows_of p = rows_in p.part p.starts.now p.columns.now p.values.now

-- ---- what a row is worked out from

-- the rows of the fine operator: the lattice's own, or those that stand in lists from a part on; f reads the permittivities
unfoldable pub fine_row : FineRows → FullLattice → (ℕ → C64) → List ℕ → List ℕ → List Float → ℕ → List Term
fine_row Computed l f starts cs xs = stencil_row l f
fine_row (StoredFrom o) l f starts cs xs = rows_in o starts cs xs

-- n rows can be worked out: as many as the lattice has edges, with a permittivity for each
pub record Computable (l : FullLattice) (eps : List Float) (n : ℕ) : Type 0 where
  pub limits : Limits l.grid
  pub edges : n ≡ unknowns_of l.grid
  pub room : 2 * n ≤ length eps

-- there are n rows of the fine operator
pub record FineReady (fine : FineRows) (l : FullLattice) (eps : List Float) (starts cs : List ℕ) (xs : List Float) (n : ℕ) : Type 0 where
  pub computed : fine ≡ Computed → Computable l eps n
  pub stored : (f : Part) → fine ≡ StoredFrom f → Stored starts f.s cs xs f.k n n

-- the terms of those that stand in lists end before part o begins
pub record FineBefore (fine : FineRows) (starts : List ℕ) (n : ℕ) (o : Part) : Type 0 where
  pub ends : (f : Part) → fine ≡ StoredFrom f → f.k + get_or starts (f.s + n) 0 ≤ o.k

-- a transfer stands in lists: n forward rows from p on, m turned rows from t on
pub record TransferStored (p : Part) (ss cs : List ℕ) (xs : List Float) (t : Part) (ts us : List ℕ) (ys : List Float) (n m : ℕ) : Type 0 where
  pub forward : Stored ss p.s cs xs p.k n m
  pub turned : Stored ts t.s us ys t.k m n

-- row c is one of those that stand in lists from a part on
pub record HasRow (p : Part) (starts cs : List ℕ) (xs : List Float) (c : ℕ) : Type 0 where
  pub n : ℕ
  pub m : ℕ
  pub stored : Stored starts p.s cs xs p.k n m
  pub low : c < n

-- its terms stand from place `first` up to `last`
pub record RowPlaces (p : Rows) (c first last : ℕ) : Type 0 where
  pub first_is : first ≡ p.part.k + get_or p.starts.now (p.part.s + c) 0
  pub last_is : last ≡ p.part.k + get_or p.starts.now (p.part.s + c + 1) 0

-- so is each of those whose numbers stand in another list, count of them from place k on
pub record HasRows (p : Part) (starts cs : List ℕ) (xs : List Float) (ds : List ℕ) (k count : ℕ) : Type 0 where
  pub each_there : (q : ℕ) → q < count → HasRow p starts cs xs (get_or ds (k + q) 0)

-- the same rows, from all that they are worked out from
unfoldable pub fine_of : Fine → ℕ → List Term
fine_of (FromLattice l st eps) = stencil_row (full_lattice l st.now) (number_at eps.now)
fine_of (FromLists o) = rows_of o

-- there are n of them
unfoldable pub FineHas : Fine → ℕ → Type 0
FineHas (FromLattice l st eps) n = Computable (full_lattice l st.now) eps.now n
FineHas (FromLists o) n = Stored o.starts.now o.part.s o.columns.now o.values.now o.part.k n n

-- f was made of the same as `fine_row`
pub record FineMade (fine : FineRows) (l : FullLattice) (eps : List Float) (starts cs : List ℕ) (xs : List Float) (f : Fine) : Type 0 where
  pub rows : fine_row fine l (number_at eps) starts cs xs ≡ fine_of f
  pub has : (n : ℕ) → FineReady fine l eps starts cs xs n → FineHas f n

-- what is read for fine row r: it and forward rows
pub record FineThere (f : Fine) (p : Rows) (r : ℕ) : Type 0 where
  pub n : ℕ
  pub m : ℕ
  pub has : FineHas f n
  pub forward : Stored p.starts.now p.part.s p.columns.now p.values.now p.part.k n m
  pub low : r < n

-- and for row c: turned row c, fine rows and forward rows
pub record TurnedThere (f : Fine) (p t : Rows) (c : ℕ) : Type 0 where
  pub n : ℕ
  pub m : ℕ
  pub has : FineHas f n
  pub transfer : TransferStored p.part p.starts.now p.columns.now p.values.now t.part t.starts.now t.columns.now t.values.now n m
  pub low : c < m

-- the same over lists that stand apart: fine rows, whose lists are os, oc and ox, and forward rows
module _ (fine : FineRows) (l : FullLattice) (eps : List Float) (os oc : List ℕ) (ox : List Float) (p : Part) (ss cs : List ℕ) (xs : List Float) where
  -- and turned rows
  module _ (t : Part) (ts us : List ℕ) (ys : List Float) where
    -- for row c
    pub record TurnedGiven (c : ℕ) : Type 0 where
      pub n : ℕ
      pub m : ℕ
      pub ready : FineReady fine l eps os oc ox n
      pub transfer : TransferStored p ss cs xs t ts us ys n m
      pub low : c < m

    -- for all m rows; fine rows that are read stand before part o
    pub record RowsGiven (m : ℕ) (o : Part) : Type 0 where
      pub n : ℕ
      pub ready : FineReady fine l eps os oc ox n
      pub before : FineBefore fine os n o
      pub transfer : TransferStored p ss cs xs t ts us ys n m

-- the doubles of a sum for each column
abbrev pub sum_doubles : ℕ
sum_doubles = 24576

-- ---- how a row is worked out: a sum for each column, in a list of doubles

-- the sums of no terms: +0 for each of the edges that a level can have
unfoldable pub no_sums : List Float
no_sums = replicate sum_doubles zero_f

-- a term, times a number
unfoldable pub scaled_term : C64 → Term → List Term
scaled_term wv u = record { column = u.column; number = product wv u.number } ∷ []

-- the terms have been added to the sums at their columns
pub record Gathered (ts : List Term) (xs ys : List Float) : Type 0 where
  pub long : length ys ≡ length xs
  pub sums : (d : ℕ) → d < places xs → number_at ys d ≡ summed_at d (number_at xs d) ts

-- the sums at the n columns that stand in a list from place k on are +0, the others as they were
pub record Cleared (cs : List ℕ) (k n : ℕ) (xs ys : List Float) : Type 0 where
  pub long : length ys ≡ length xs
  pub zeros : (m : ℕ) → m < n → get_or cs (k + m) 0 < places xs → number_at ys (get_or cs (k + m) 0) ≡ zero_number
  pub kept : (d : ℕ) → ((m : ℕ) → m < n → d ≢ get_or cs (k + m) 0) → number_at ys d ≡ number_at xs d

-- the sums at the n columns that stand in a list from place k on
unfoldable pub sum_of : List ℕ → List Float → ℕ → C64
sum_of cs xs m = number_at xs (get_or cs m 0)

unfoldable pub sums_at : List ℕ → List Float → ℕ → ℕ → List C64
sums_at cs xs k n = tabulate (sum_of cs xs) n k

-- the n columns that stand in a list from place k on are below b
pub record ColumnsBelow (cs : List ℕ) (k n b : ℕ) : Type 0 where
  pub low : (q : ℕ) → q < n → get_or cs (k + q) 0 < b

-- the sum at c set to 1 where turned row c is empty: its starts stand from place s on
unfoldable pub diagonal_one : List ℕ → ℕ → ℕ → List Float → List Float
diagonal_one starts s c xs = cond (eqb (get_or starts (s + c) 0) (get_or starts (s + c + 1) 0)) (set_number xs c one_number) xs

-- the columns of m rows stand in lists
pub record Columned (row : ℕ → List ℕ) (m : ℕ) (o : Part) (starts cs : List ℕ) : Type 0 where
  pub starts_room : o.s + m < length starts
  pub starts_are : (c : ℕ) → c ≤ m → get_or starts (o.s + c) 0 ≡ start_of row c
  pub columns_room : o.k + start_of row m ≤ length cs
  pub columns_are : (c q : ℕ) → c < m → q < length (row c) → get_or cs (o.k + start_of row c + q) 0 ≡ get_or (row c) q 0
  pub columns_low : (c q : ℕ) → c < m → q < length (row c) → get_or (row c) q 0 < most_rows
  pub starts_low : o.s ≤ 2 ^ 32
  pub low : o.k ≤ 2 ^ 32
  pub all_few : start_of row m ≤ 2 ^ 32

-- each entry of turned row c has a fine row with its own diagonal, and a forward row with a weight at c: so a turned row that is not empty touches c
pub record Met (A P R : ℕ → List Term) (c : ℕ) : Type 0 where
  pub diagonal : (q : ℕ) → q < length (R c) → contains (get_or (columns_of (R c)) q 0) (columns_of (A (get_or (columns_of (R c)) q 0))) ≡ true
  pub back : (q : ℕ) → q < length (R c) → contains c (columns_of (P (get_or (columns_of (R c)) q 0))) ≡ true

pub record MetAll (A P R : ℕ → List Term) (m : ℕ) : Type 0 where
  pub each_met : (c : ℕ) → c < m → Met A P R c

-- ---- a row and all rows, laid

-- row c can be laid: the columns of all rows, m of them, stand in two lists from part o on
pub record RowReady (A P R : ℕ → List Term) (c : ℕ) (o : Part) (starts cs : List ℕ) : Type 0 where
  pub m : ℕ
  pub columned : Columned (galerkin_columns A P R) m o starts cs
  pub met : Met A P R c
  pub low : c < m

-- the values with the numbers of row c at its place
unfoldable pub row_laid : (ℕ → List Term) → (ℕ → List Term) → (ℕ → List Term) → ℕ → Part → List Float → List Float
row_laid A P R c o xs = laid_numbers xs (o.k + start_of (galerkin_columns A P R) c) (galerkin_numbers A P R c)

-- all m rows can be laid
pub record RowsReady (A P R : ℕ → List Term) (m : ℕ) (o : Part) (starts cs : List ℕ) (xs : List Float) : Type 0 where
  pub columned : Columned (galerkin_columns A P R) m o starts cs
  pub met : MetAll A P R m
  pub room : 2 * (o.k + get_or starts (o.s + m) 0) ≤ length xs

-- they have been laid over the values, and b says whether all numbers are finite
pub record NumbersLaid (A P R : ℕ → List Term) (m : ℕ) (o : Part) (xs xs' : List Float) (b : Bool) : Type 0 where
  pub list : xs' ≡ laid_numbers xs o.k (rows (galerkin_numbers A P R) m)
  pub finite : b ≡ all_finite (rows (galerkin_numbers A P R) m)
