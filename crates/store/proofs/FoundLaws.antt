-- What the row functions of the layers below ask for holds of ANY store whose starts and columns are the lattice's, also one whose numbers were altered; and what they leave
-- is what the store's rules say. Assumes nothing.
use Prim.Native.Nat.{ℕ, suc, ◌+◌, ◌*◌, ◌≤◌, ◌<◌, ◌^◌}
use mathlib.Core.Path.{◌≡◌, sym, ap, subst, ◌∙◌}
use mathlib.Core.List.{List, ◌∷◌, []}
use native.Mathlib.Omega.{arith}
use lib.ListN.{length, get_or}
use lib.Ieee.{Float}
use Rattle.numbers.specs.declared.C64.{C64}
use Rattle.numbers.specs.declared.terms.Part.{Part}
use Rattle.numbers.specs.Places.{number_at}
use Rattle.numbers.specs.Terms.{Term, columns_of, numbers_of, Stored}
use Rattle.numbers.specs.Lists.{laid_numbers, read_from, start_of, In}
use Rattle.numbers.proofs.ListLaws.{start_agree}
use Rattle.numbers.proofs.SumLaws.{sum_to_zero}
use Rattle.numbers.proofs.LoopLaws.{start_suc, start_zero}
use Rattle.numbers.proofs.StoredLaws.{start_room, start_at}
use Rattle.numbers.proofs.CollectSums.{in_at}
use Rattle.numbers.proofs.PartLaws.{row_of}
use Rattle.lattice.specs.Grid.{Limits}
use Rattle.lattice.specs.Lattice.{FullLattice}
use Rattle.operators.specs.Galerkin.{galerkin_row, galerkin_columns, galerkin_numbers, rows_in, Columned, MetAll}
use Rattle.operators.specs.LevelLists.{edges_on}
use Rattle.operators.specs.Stencil.{stencil_row}
use Rattle.operators.specs.Volumes.{inverse_share}
use Rattle.operators.proofs.VolumeLaws.{inverse_local}
use Rattle.operators.proofs.SecondCondition.{galerkin_local}
use Rattle.operators.proofs.ColumnsOnly.{SourceColumns, columns_met, columns_next}
use Rattle.store.specs.Plan.{step}
use Rattle.store.specs.Store.{Store}
use Rattle.store.specs.Places.{get}
use Rattle.store.specs.Spots.{permittivity, forwards, entries, scales, number_in}
use Rattle.store.specs.Layout.{blank, forward_cols, turned_cols, operator_cols, eps_off, forward_off, scale_off}
use Rattle.store.specs.declared.Choice.{Choice}
use Rattle.store.specs.declared.Choice.TheVariants.{Galerkin}
use Rattle.store.specs.Rows.{share, operator, from, count, rules, volume_in, eps_in, forward_in, turned_in, operator_in, galerkin_in, numbers}
use Rattle.store.specs.Work.{with_list, RowsAt, Structured}
use Rattle.store.specs.Phases.{forward_part, turned_part, operator_part}
use Rattle.store.proofs.DressedLaws.{columns_dressed}
use Rattle.store.proofs.LocalLaws.{operator_in_cols, turned_in_cols}
use Rattle.store.proofs.RangeLaws.{ranges}
use Rattle.store.proofs.SpotLaws.{each_in}
use Rattle.store.proofs.WorkLaws.{step_laid, look_from, look_list, forward_found, turned_found}
use Rattle.store.proofs.ColumnLaws.{operator_cols_at, forward_cols_at, turned_cols_at}
use Rattle.operators.proofs.Equations.{fine_rows_read_is, forward_rows_read_is, galerkin_numbers_is}

-- ---- rows in lists, as the layers below ask for them

-- numbers that are small enough for the code's sums
pub record Small (o : Part) (n m k : ℕ) : Type 0 where
  pub rows_few : n ≤ 12288
  pub columns_few : m ≤ 12288
  pub all_few : k ≤ 2 ^ 32
  pub starts_low : o.s ≤ 2 ^ 32
  pub low : o.k ≤ 2 ^ 32

module _ (cols : ℕ → List ℕ) (n : ℕ) (o : Part) (ss cs : List ℕ) (w : RowsAt cols n o ss cs) where
  -- the column of a place, by its row
  pub column_is : (r j : ℕ) → r < n → j < length (cols r) → get_or cs (o.k + (start_of cols r + j)) 0 ≡ get_or (cols r) j 0
  column_is r j b i = w.columns_are (start_of cols r + j) (omega (arith, start_room cols n r b)) ∙ start_at cols n r j 0 b i

  pub rows_stored : (xs : List Float) (m : ℕ) → ((r c : ℕ) → r < n → In c (cols r) → c < m) → o.s + n < length ss → o.k + start_of cols n ≤ length cs → 2 * (o.k + start_of cols n) ≤ length xs
      → Small o n m (start_of cols n) → Stored ss o.s cs xs o.k n m
  rows_stored xs m low rs rc rx small =
      let end : get_or ss (o.s + n) 0 ≡ start_of cols n = w.starts_are n (omega arith) in
      record {
        first = let z : o.s + 0 ≡ o.s = omega arith in (rw z at (w.starts_are 0 (omega arith))) ∙ start_zero cols;
        rise = λ r b.
            let z : o.s + r + 1 ≡ o.s + suc r = omega arith in
            rw z (omega (arith, w.starts_are r (omega arith), w.starts_are (suc r) b, start_suc cols r));
        starts_room = rs;
        columns_room = rw end rc;
        numbers_room = rw end rx;
        columns_low = λ q b.
            let t = row_of cols n q (omega (arith, end)) in
            rw t.4 (rw (column_is t.0 t.1 t.2 t.3) (low t.0 (get_or (cols t.0) t.1 0) t.2 (in_at (cols t.0) t.1 t.3)));
        rows_few = small.rows_few;
        columns_few = small.columns_few;
        all_few = rw end small.all_few;
        starts_low = small.starts_low;
        low = small.low;
      }

  -- rows with these columns
  pub rows_columned : (row : ℕ → List ℕ) → ((c : ℕ) → c < n → cols c ≡ row c) → ((c d : ℕ) → c < n → In d (cols c) → d < 12288) → o.s + n < length ss → o.k + start_of cols n ≤ length cs
      → Small o n n (start_of cols n) → Columned row n o ss cs
  rows_columned row e low rs rc small =
      let same : (c : ℕ) → c ≤ n → start_of cols c ≡ start_of row c = λ c b. start_agree cols row n e c (omega arith) in
      record {
        starts_room = rs;
        starts_are = λ c b. w.starts_are c b ∙ same c b;
        columns_room = omega (arith, rc, same n (omega arith));
        columns_are = λ c q b i.
            let k : length (cols c) ≡ length (row c) = ap length (e c b) in
            let z : o.k + start_of row c + q ≡ o.k + (start_of cols c + q) = omega (arith, same c (omega arith)) in
            rw z (column_is c q b (omega arith) ∙ ap (λ (xs : List ℕ). get_or xs q 0) (e c b));
        columns_low = λ c q b i.
            let k : length (cols c) ≡ length (row c) = ap length (e c b) in
            rw (sym (e c b)) (low c (get_or (cols c) q 0) b (in_at (cols c) q (omega arith)));
        starts_low = small.starts_low;
        low = small.low;
        all_few = omega (arith, small.all_few, same n (omega arith));
      }

-- ---- Galerkin's rows

module _ (l : FullLattice) (limits : Limits l.grid) (m : ℕ) (s : Store) (w : Structured l Galerkin m s) (L : ℕ) (h : L < m)
    (A : ℕ → List Term) (fine : (r : ℕ) → r < edges_on l L → A r ≡ operator_in l Galerkin m (get s) L r) where
  abbrev P : ℕ → List Term
  P = rows_in (forward_part l L) s.forward_starts s.forward_columns s.forward_values

  abbrev R : ℕ → List Term
  R = rows_in (turned_part l L) s.turned_starts s.turned_columns s.turned_values

  turned_cols_lem : (c : ℕ) → c < edges_on l (suc L) → columns_of (R c) ≡ turned_cols l L c
  turned_cols_lem c b = ap columns_of (turned_found l Galerkin m s w L c h b) ∙ turned_in_cols l Galerkin m (get s) L c

  fine_cols : (r : ℕ) → r < edges_on l L → columns_of (A r) ≡ operator_cols l Galerkin L r
  fine_cols r b = ap columns_of (fine r b) ∙ operator_in_cols l m (get s) L r

  named_low : (c r : ℕ) → c < edges_on l (suc L) → In r (columns_of (R c)) → r < edges_on l L
  named_low c r b i = (ranges l limits).turned_low L c r (subst (In r) (turned_cols_lem c b) i)

  -- THE ROW AS FOUND IS THE STORE'S RULE
  pub galerkin_found : (c : ℕ) → c < edges_on l (suc L) → galerkin_row A P R c ≡ galerkin_in l Galerkin m (get s) (suc L) c
  galerkin_found c b =
      galerkin_local A (operator_in l Galerkin m (get s) L) P (forward_in l Galerkin m (get s) L) R (turned_in l Galerkin m (get s) L) c (turned_found l Galerkin m s w L c h b)
      (λ r i. fine r (named_low c r b (subst (In r) (fine_rows_read_is R c) i)))
      (λ q i. let t = each_in (λ r. columns_of (A r)) (columns_of (R c)) q (subst (In q) (forward_rows_read_is A R c) i) in
      let k = named_low c t.0 b t.1 in
      forward_found l Galerkin m s w L q h ((ranges l limits).operator_low L t.0 q k (subst (In q) (fine_cols t.0 k) t.2)))

  -- its numbers are those of the rule
  pub galerkin_numbers_found : (c : ℕ) → c < edges_on l (suc L) → galerkin_numbers A P R c ≡ numbers l Galerkin m (get s) (operator (suc L) c)
  unfolding numbers
  galerkin_numbers_found c b = galerkin_numbers_is A P R c ∙ ap numbers_of (galerkin_found c b)

  sources : SourceColumns l blank L A P R
  sources =
      record {
        fine_are = λ r b. fine_cols r b ∙ sym (operator_cols_at l Galerkin blank L r);
        forward_are = λ r b.
            ap columns_of (forward_found l Galerkin m s w L r h b)
            ∙ columns_dressed (forward_cols l L r) (number_in (get s) forwards) (forward_off l L + start_of (forward_cols l L) r)
            ∙ sym (forward_cols_at l blank L r);
        turned_are = λ c b. turned_cols_lem c b ∙ sym (turned_cols_at l blank L c);
      }

  -- its columns are the pattern
  pub galerkin_columns_found : (c : ℕ) → c < edges_on l (suc L) → operator_cols l Galerkin (suc L) c ≡ galerkin_columns A P R c
  galerkin_columns_found c b = sym (columns_next sources limits c b ∙ operator_cols_at l Galerkin blank (suc L) c)

  -- a turned row that is not empty touches its own column, whatever the numbers are
  pub met_found : MetAll A P R (edges_on l (suc L))
  met_found = columns_met sources

  -- SO WHAT `galerkin_row_computed` AND `galerkin_row_stored` LEAVE IS THE ROW'S STEP, also where the holder altered numbers
  pub galerkin_step : (c : ℕ) → c < edges_on l (suc L) → (o : Part) → o ≡ operator_part l Galerkin m (suc L)
      → 2 * (from l Galerkin m (operator (suc L) c) + count l Galerkin m (operator (suc L) c)) ≤ length s.operator_values
      → with_list s entries (laid_numbers s.operator_values (o.k + start_of (galerkin_columns A P R) c) (galerkin_numbers A P R c)) ≡ step (rules l Galerkin m) s (operator (suc L) c)
  galerkin_step c b o e room =
      let start : start_of (operator_cols l Galerkin (suc L)) c ≡ start_of (galerkin_columns A P R) c =
      start_agree (operator_cols l Galerkin (suc L)) (galerkin_columns A P R) (edges_on l (suc L)) galerkin_columns_found c (omega arith) in
      (λ i. with_list s entries (laid_numbers s.operator_values ((e i).k + sym start i) (galerkin_numbers_found c b i)))
      ∙ step_laid l Galerkin m s (operator (suc L) c) room

-- level 0's rows as found: the lattice's, over the permittivities at the front of the list
pub first_found : (l : FullLattice) (ch : Choice) (m : ℕ) (s : Store) (r : ℕ) → stencil_row l (number_at s.permittivities) r ≡ operator_in l ch m (get s) 0 r
first_found l ch m s r =
    let e : number_at s.permittivities ≡ eps_in l ch m (get s) 0 =
    λ i q. (sym (look_list s permittivity q) ∙ ap (number_in (get s) permittivity) (sym (zero_off q))) i in
    ap (λ (f : ℕ → C64). stencil_row l f r) e
  where
    zero_off : (q : ℕ) → eps_off l 0 + q ≡ q
    zero_off q = omega (arith, sum_to_zero (edges_on l))

-- a share as found
pub share_found : (l : FullLattice) (ch : Choice) (m : ℕ) (s : Store) → Structured l ch m s → (L c : ℕ) → L < m → c < edges_on l (suc L)
    → numbers l ch m (get s) (share L c) ≡ inverse_share (rows_in (turned_part l L) s.turned_starts s.turned_columns s.turned_values) (read_from s.scaling (scale_off l L)) c ∷ []
unfolding numbers
share_found l ch m s w L c h b =
    ap (λ (v : C64). v ∷ [])
    (inverse_local (turned_in l ch m (get s) L) (rows_in (turned_part l L) s.turned_starts s.turned_columns s.turned_values) (volume_in l ch m (get s) L) (read_from s.scaling (scale_off l L)) c
    (sym (turned_found l ch m s w L c h b)) (λ d i. look_from s scales (scale_off l L) d))
