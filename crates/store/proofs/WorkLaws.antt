-- Laws for the code over the store: what a look finds is what the layers below read in the lists; a row of numbers laid over its list is the row's step; whether a row is
-- finite. All of it of ANY store whose starts and columns are the lattice's, also one whose numbers were altered. Assumes nothing.
use Prim.Native.Nat.{ℕ, zero, suc, ◌+◌, ◌-◌, ◌*◌, ◌/◌, ◌%◌, ◌≤◌, ◌<◌}
use mathlib.Core.Path.{◌≡◌, refl, sym, ap, ◌∙◌}
use mathlib.Core.Bool.{Bool, ◌&&◌, and_assoc}
use mathlib.Core.List.{List, ◌∷◌, []}
use native.Mathlib.Omega.{arith}
use native.Mathlib.Decide.{ℕ_discrete, dec_lt}
use lib.ListN.{length, get_or, length-map}
use lib.Ieee.{Float, nan}
use borrow.Author.Tests.{eq-eqb, ne_eqb}
use Rattle.numbers.specs.declared.C64.{C64}
use Rattle.numbers.specs.declared.terms.Part.{Part}
use Rattle.numbers.specs.Complex.{no_number, finite_double}
use Rattle.numbers.specs.Places.{number_at}
use Rattle.numbers.specs.Lists.{tabulate, laid_numbers, all_finite, read_from, start_of}
use Rattle.numbers.specs.Terms.{columns_of, terms_in, Term}
use Rattle.numbers.specs.Transpose.{turned_reads}
use Rattle.numbers.proofs.TabulateLaws.{is_tabulate}
use Rattle.numbers.proofs.EachLaws.{length_columns, length_numbers}
use Rattle.numbers.proofs.ListLaws.{laid_numbers_length, laid_numbers_before, laid_numbers_behind, laid_numbers_at}
use Rattle.numbers.proofs.LoopLaws.{start_suc}
use Rattle.numbers.proofs.StoredLaws.{start_room, start_at}
use Rattle.numbers.proofs.Equations.{number_at_is, read_from_is, terms_in_zero, terms_in_suc, stored_row_is, tabulate_zero, tabulate_suc, all_finite_nil, all_finite_cons}
use Rattle.lattice.specs.Lattice.{FullLattice}
use Rattle.weights.specs.TwoLevels.{two_at}
use Rattle.weights.proofs.ProductLaws.{numbers_count}
use Rattle.weights.proofs.Equations.{weight_numbers_is}
use Rattle.operators.specs.Galerkin.{rows_in}
use Rattle.operators.specs.LevelLists.{edges_on}
use Rattle.operators.specs.Levels.{forward_at, turned_at, galerkin_at, averaged_on, lattice_at}
use Rattle.operators.proofs.ColumnsOnly.{galerkin_same, stencil_same}
use Rattle.store.specs.Space.{Look}
use Rattle.store.specs.Plan.{step, row_fine, all_fine}
use Rattle.store.specs.Store.{Store, sizes}
use Rattle.store.specs.Places.{Place, get, space, ends_at, permittivities_at, forward_starts_at, forward_columns_at, forward_values_at, turned_starts_at, turned_columns_at, turned_values_at, operator_starts_at, operator_columns_at, operator_values_at, scaling_at}
use Rattle.store.specs.Spots.{Kind, permittivity, forwards, turneds, entries, scales, place, double_in, number_in, double_of, part_of, laid_from, finite_place}
use Rattle.store.specs.Layout.{blank, forward_cols, turned_cols, operator_cols, forward_off, first_stored}
use Rattle.store.specs.declared.Choice.{Choice}
use Rattle.store.specs.declared.Choice.TheVariants.{Galerkin, Rediscretized}
use Rattle.store.specs.Rows.{Row, coarse, averaged, forward, turned, volume, share, operator, dressed, kind_of, from, count, eps_in, averaged_in, forward_in, turned_in, operator_in, operator_rule, numbers, rules}
use Rattle.store.specs.Work.{list_of, with_list, RowsAt, Structured}
use Rattle.store.specs.Phases.{forward_part, turned_part, operator_part}
use Rattle.store.proofs.PlanWork.{step_is}
use Rattle.store.proofs.SpaceLaws.{lawful}
use Rattle.store.proofs.DressedLaws.{columns_dressed}
use Rattle.store.proofs.LandedLaws.{even_of, odd_of}
use Rattle.store.proofs.LocalLaws.{operator_in_cols, turned_in_cols}
use Rattle.store.proofs.ColumnLaws.{forward_cols_at, turned_cols_at, operator_cols_at, turned_long}
use Rattle.operators.proofs.Equations.{galerkin_columns_is, galerkin_at_suc, rediscretized_at_is}
use Rattle.numbers.proofs.Laws.{finite_both}
use Rattle.numbers.proofs.TransposedLaws.{in_tabulate, tabulate_in}

-- ---- what a look finds in a list

pub look_list : (s : Store) (k : Kind) (q : ℕ) → number_in (get s) k q ≡ number_at (list_of s k) q
unfolding number_in get
look_list s permittivity q = sym (number_at_is s.permittivities q)
look_list s forwards q = sym (number_at_is s.forward_values q)
look_list s turneds q = sym (number_at_is s.turned_values q)
look_list s entries q = sym (number_at_is s.operator_values q)
look_list s scales q = sym (number_at_is s.scaling q)

pub look_from : (s : Store) (k : Kind) (a q : ℕ) → number_in (get s) k (a + q) ≡ read_from (list_of s k) a q
look_from s k a q = look_list s k (a + q) ∙ sym (read_from_is (list_of s k) a q)

-- terms that lie in two lists are their columns with the numbers that are looked up
terms_dressed : (ds : List ℕ) (h : ℕ → C64) (cs : List ℕ) (xs : List Float) (k : ℕ) → ((q : ℕ) → h q ≡ number_at xs q) → ((j i : ℕ) → i ≡ k + j → j < length ds → get_or cs i 0 ≡ get_or ds j 0)
    → terms_in cs xs k (length ds) ≡ dressed ds h k
unfolding dressed
terms_dressed [] h cs xs k e g = terms_in_zero cs xs k
terms_dressed (d ∷ ds) h cs xs k e g =
    let a : get_or cs k 0 ≡ d = g 0 k (omega arith) (omega arith) in
    let b = terms_dressed ds h cs xs (suc k) e (λ j i z l. g (suc j) i (omega arith) (omega arith)) in
    terms_in_suc cs xs k (length ds) ∙ (λ i. record { column = a i; number = sym (e k) i } ∷ b i)

-- a row as the layers below read it is the row that is looked up
pub row_found : (cols : ℕ → List ℕ) (n : ℕ) (o : Part) (ss cs : List ℕ) (xs : List Float) (h : ℕ → C64) → ((q : ℕ) → h q ≡ number_at xs q) → RowsAt cols n o ss cs → (r : ℕ) → r < n
    → rows_in o ss cs xs r ≡ dressed (cols r) h (o.k + start_of cols r)
row_found cols n o ss cs xs h e w r b =
    let a : get_or ss (o.s + r) 0 ≡ start_of cols r = w.starts_are r (omega arith) in
    let z : o.s + r + 1 ≡ o.s + suc r = omega arith in
    let c : get_or ss (o.s + r + 1) 0 - get_or ss (o.s + r) 0 ≡ length (cols r) = rw z (omega (arith, w.starts_are (suc r) b, a, start_suc cols r)) in
    stored_row_is ss o.s cs xs o.k r
    ∙ rw (c, a)
    (terms_dressed (cols r) h cs xs (o.k + start_of cols r) e
    (λ j i y l. let q : i ≡ o.k + (start_of cols r + j) = omega arith in
    rw q (w.columns_are (start_of cols r + j) (omega (arith, start_room cols n r b)) ∙ start_at cols n r j 0 b l)))

module _ (l : FullLattice) (ch : Choice) (m : ℕ) (s : Store) (w : Structured l ch m s) where
  pub forward_found : (L r : ℕ) → L < m → r < edges_on l L → rows_in (forward_part l L) s.forward_starts s.forward_columns s.forward_values r ≡ forward_in l ch m (get s) L r
  forward_found L r h b =
      row_found (forward_cols l L) (edges_on l L) (forward_part l L) s.forward_starts s.forward_columns s.forward_values (number_in (get s) forwards) (look_list s forwards) (w.forward_are L h) r b

  pub turned_found : (L c : ℕ) → L < m → c < edges_on l (suc L) → rows_in (turned_part l L) s.turned_starts s.turned_columns s.turned_values c ≡ turned_in l ch m (get s) L c
  turned_found L c h b =
      row_found (turned_cols l L) (edges_on l (suc L)) (turned_part l L) s.turned_starts s.turned_columns s.turned_values (number_in (get s) turneds) (look_list s turneds) (w.turned_are L h) c b

  pub operator_found : (L r : ℕ) → first_stored m ≤ suc L → suc L ≤ m → r < edges_on l (suc L)
      → rows_in (operator_part l ch m (suc L)) s.operator_starts s.operator_columns s.operator_values r ≡ operator_in l ch m (get s) (suc L) r
  operator_found L r f h b =
      row_found (operator_cols l ch (suc L)) (edges_on l (suc L)) (operator_part l ch m (suc L)) s.operator_starts s.operator_columns s.operator_values (number_in (get s) entries) (look_list s entries)
      (w.operator_are (suc L) f h) r b

-- ---- as many numbers as places, whatever is looked up

pub rule_cols : (l : FullLattice) (ch : Choice) (m : ℕ) (f : Look space) (L r : ℕ) → columns_of (operator_rule l ch m f L r) ≡ operator_cols l ch L r
rule_cols l Galerkin m f zero r = operator_in_cols l m f 0 r
rule_cols l Galerkin m f (suc L) c =
    sym (galerkin_columns_is A P R c)
    ∙ galerkin_same A (galerkin_at l blank L) P (forward_at l blank L) R (turned_at l blank L) c (turned_in_cols l Galerkin m f L c ∙ sym (turned_cols_at l blank L c))
    (λ r i. operator_in_cols l m f L r ∙ sym (operator_cols_at l Galerkin blank L r))
    (λ r i. columns_dressed (forward_cols l L r) (number_in f forwards) (forward_off l L + start_of (forward_cols l L) r) ∙ sym (forward_cols_at l blank L r))
    ∙ galerkin_columns_is (galerkin_at l blank L) (forward_at l blank L) (turned_at l blank L) c
    ∙ ap (λ (row : ℕ → List Term). columns_of (row c)) (sym (galerkin_at_suc l blank L))
    ∙ operator_cols_at l Galerkin blank (suc L) c
  where
    A : ℕ → List Term
    A = operator_in l Galerkin m f L

    P : ℕ → List Term
    P = forward_in l Galerkin m f L

    R : ℕ → List Term
    R = turned_in l Galerkin m f L
rule_cols l Rediscretized m f L r =
    stencil_same (lattice_at l L) (averaged_in l Rediscretized m f L) (averaged_on l blank L) r
    ∙ ap (λ (row : ℕ → List Term). columns_of (row r)) (sym (rediscretized_at_is l blank L))
    ∙ operator_cols_at l Rediscretized blank L r

module _ (l : FullLattice) (ch : Choice) (m : ℕ) (f : Look space) where
  pub numbers_long : (r : Row) → length (numbers l ch m f r) ≡ count l ch m r
  unfolding numbers
  numbers_long (coarse L r) = refl
  numbers_long (averaged L r) = refl
  numbers_long (forward L r) = unfold forward_cols in ap length (sym (weight_numbers_is (two_at l L) _ _ r)) ∙ numbers_count (two_at l L) (eps_in l ch m f L) (eps_in l ch m f (suc L)) r
  numbers_long (turned L c) = length-map (turned_reads (forward_cols l L) (edges_on l L) c) (λ q. number_in f forwards (forward_off l L + q)) ∙ turned_long l L c
  numbers_long (volume L r) = refl
  numbers_long (share L c) = refl
  numbers_long (operator L r) =
      length_numbers (operator_rule l ch m f L r) ∙ sym (length_columns (operator_rule l ch m f L r)) ∙ ap length (rule_cols l ch m f L r)

-- ---- one row of numbers, laid over its list

-- double j of a list, by its number
pub number_double : (xs : List Float) (j : ℕ) → get_or xs j nan ≡ part_of j (number_at xs (j / 2))
unfolding part_of
number_double xs j =
    elim (ℕ_discrete (j % 2) 0) as (λ _. get_or xs j nan ≡ part_of j (number_at xs (j / 2))) [
      | yes z ↦ let h : 2 * (j / 2) ≡ j = omega arith in rw (number_at_is xs (j / 2), eq-eqb (j % 2) 0 z, h) refl
      | no z ↦ let h : 2 * (j / 2) + 1 ≡ j = omega arith in rw (number_at_is xs (j / 2), ne_eqb (j % 2) 0 z, h) refl
    ]

pub laid_double : (xs : List Float) (a : ℕ) (vs : List C64) (j : ℕ) → 2 * (a + length vs) ≤ length xs → 2 * a ≤ j → j < 2 * (a + length vs) → get_or (laid_numbers xs a vs) j nan ≡ double_of vs a j
unfolding double_of
laid_double xs a vs j room lo hi =
    let e : a + (j / 2 - a) ≡ j / 2 = omega arith in
    number_double (laid_numbers xs a vs) j
    ∙ ap (part_of j) (rw e at (laid_numbers_at xs a vs (j / 2 - a) no_number (omega arith) room))

pub rest_double : (xs : List Float) (a : ℕ) (vs : List C64) (j : ℕ) → (2 * a ≤ j → j < 2 * (a + length vs) → ⊥) → get_or (laid_numbers xs a vs) j nan ≡ get_or xs j nan
rest_double xs a vs j n =
    number_double (laid_numbers xs a vs) j
    ∙ ap (part_of j)
    (elim (dec_lt (j / 2) a) as (λ _. number_at (laid_numbers xs a vs) (j / 2) ≡ number_at xs (j / 2)) [
      | yes b ↦ laid_numbers_before xs a vs (j / 2) b
      | no b ↦ elim (dec_lt (j / 2) (a + length vs)) as (λ _. number_at (laid_numbers xs a vs) (j / 2) ≡ number_at xs (j / 2)) [
        | yes c ↦ absurd (n (omega arith) (omega arith))
        | no c ↦ laid_numbers_behind xs a vs (j / 2) (omega arith)
      ]
    ])
    ∙ sym (number_double xs j)

pub with_sizes : (s : Store) (k : Kind) (xs : List Float) → length xs ≡ length (list_of s k) → sizes (with_list s k xs) ≡ sizes s
with_sizes s permittivity xs e = λ i. record { ends = length s.ends; permittivities = e i; forward_starts = length s.forward_starts; forward_columns = length s.forward_columns; forward_values = length s.forward_values; turned_starts = length s.turned_starts; turned_columns = length s.turned_columns; turned_values = length s.turned_values; operator_starts = length s.operator_starts; operator_columns = length s.operator_columns; operator_values = length s.operator_values; scaling = length s.scaling }
with_sizes s forwards xs e = λ i. record { ends = length s.ends; permittivities = length s.permittivities; forward_starts = length s.forward_starts; forward_columns = length s.forward_columns; forward_values = e i; turned_starts = length s.turned_starts; turned_columns = length s.turned_columns; turned_values = length s.turned_values; operator_starts = length s.operator_starts; operator_columns = length s.operator_columns; operator_values = length s.operator_values; scaling = length s.scaling }
with_sizes s turneds xs e = λ i. record { ends = length s.ends; permittivities = length s.permittivities; forward_starts = length s.forward_starts; forward_columns = length s.forward_columns; forward_values = length s.forward_values; turned_starts = length s.turned_starts; turned_columns = length s.turned_columns; turned_values = e i; operator_starts = length s.operator_starts; operator_columns = length s.operator_columns; operator_values = length s.operator_values; scaling = length s.scaling }
with_sizes s entries xs e = λ i. record { ends = length s.ends; permittivities = length s.permittivities; forward_starts = length s.forward_starts; forward_columns = length s.forward_columns; forward_values = length s.forward_values; turned_starts = length s.turned_starts; turned_columns = length s.turned_columns; turned_values = length s.turned_values; operator_starts = length s.operator_starts; operator_columns = length s.operator_columns; operator_values = e i; scaling = length s.scaling }
with_sizes s scales xs e = λ i. record { ends = length s.ends; permittivities = length s.permittivities; forward_starts = length s.forward_starts; forward_columns = length s.forward_columns; forward_values = length s.forward_values; turned_starts = length s.turned_starts; turned_columns = length s.turned_columns; turned_values = length s.turned_values; operator_starts = length s.operator_starts; operator_columns = length s.operator_columns; operator_values = length s.operator_values; scaling = e i }

with_list_lem : (s : Store) (k : Kind) (xs : List Float) (j : ℕ) → double_in (get (with_list s k xs)) k j ≡ get_or xs j nan
unfolding get
with_list_lem s permittivity xs j = refl
with_list_lem s forwards xs j = refl
with_list_lem s turneds xs j = refl
with_list_lem s entries xs j = refl
with_list_lem s scales xs j = refl

place_laid : (f : Look space) (k : Kind) (vs : List C64) (a j : ℕ) → double_in f k j ≡ double_of vs a j → f (place k j) ≡ laid_from vs a (place k j)
unfolding laid_from
place_laid f permittivity vs a j e = e
place_laid f forwards vs a j e = e
place_laid f turneds vs a j e = e
place_laid f entries vs a j e = e
place_laid f scales vs a j e = e

-- the other places
with_other : (s : Store) (k : Kind) (xs : List Float) (p : Place) → ((j : ℕ) → p ≡ place k j → get_or xs j nan ≡ get_or (list_of s k) j nan) → get (with_list s k xs) p ≡ get s p
unfolding get
with_other s permittivity xs (ends_at j) h = refl
with_other s permittivity xs (permittivities_at j) h = h j refl
with_other s permittivity xs (forward_starts_at j) h = refl
with_other s permittivity xs (forward_columns_at j) h = refl
with_other s permittivity xs (forward_values_at j) h = refl
with_other s permittivity xs (turned_starts_at j) h = refl
with_other s permittivity xs (turned_columns_at j) h = refl
with_other s permittivity xs (turned_values_at j) h = refl
with_other s permittivity xs (operator_starts_at j) h = refl
with_other s permittivity xs (operator_columns_at j) h = refl
with_other s permittivity xs (operator_values_at j) h = refl
with_other s permittivity xs (scaling_at j) h = refl
with_other s forwards xs (ends_at j) h = refl
with_other s forwards xs (permittivities_at j) h = refl
with_other s forwards xs (forward_starts_at j) h = refl
with_other s forwards xs (forward_columns_at j) h = refl
with_other s forwards xs (forward_values_at j) h = h j refl
with_other s forwards xs (turned_starts_at j) h = refl
with_other s forwards xs (turned_columns_at j) h = refl
with_other s forwards xs (turned_values_at j) h = refl
with_other s forwards xs (operator_starts_at j) h = refl
with_other s forwards xs (operator_columns_at j) h = refl
with_other s forwards xs (operator_values_at j) h = refl
with_other s forwards xs (scaling_at j) h = refl
with_other s turneds xs (ends_at j) h = refl
with_other s turneds xs (permittivities_at j) h = refl
with_other s turneds xs (forward_starts_at j) h = refl
with_other s turneds xs (forward_columns_at j) h = refl
with_other s turneds xs (forward_values_at j) h = refl
with_other s turneds xs (turned_starts_at j) h = refl
with_other s turneds xs (turned_columns_at j) h = refl
with_other s turneds xs (turned_values_at j) h = h j refl
with_other s turneds xs (operator_starts_at j) h = refl
with_other s turneds xs (operator_columns_at j) h = refl
with_other s turneds xs (operator_values_at j) h = refl
with_other s turneds xs (scaling_at j) h = refl
with_other s entries xs (ends_at j) h = refl
with_other s entries xs (permittivities_at j) h = refl
with_other s entries xs (forward_starts_at j) h = refl
with_other s entries xs (forward_columns_at j) h = refl
with_other s entries xs (forward_values_at j) h = refl
with_other s entries xs (turned_starts_at j) h = refl
with_other s entries xs (turned_columns_at j) h = refl
with_other s entries xs (turned_values_at j) h = refl
with_other s entries xs (operator_starts_at j) h = refl
with_other s entries xs (operator_columns_at j) h = refl
with_other s entries xs (operator_values_at j) h = h j refl
with_other s entries xs (scaling_at j) h = refl
with_other s scales xs (ends_at j) h = refl
with_other s scales xs (permittivities_at j) h = refl
with_other s scales xs (forward_starts_at j) h = refl
with_other s scales xs (forward_columns_at j) h = refl
with_other s scales xs (forward_values_at j) h = refl
with_other s scales xs (turned_starts_at j) h = refl
with_other s scales xs (turned_columns_at j) h = refl
with_other s scales xs (turned_values_at j) h = refl
with_other s scales xs (operator_starts_at j) h = refl
with_other s scales xs (operator_columns_at j) h = refl
with_other s scales xs (operator_values_at j) h = refl
with_other s scales xs (scaling_at j) h = h j refl

-- THE STEP OF A ROW, AS CODE DOES IT: its numbers laid over its list, whatever the store holds
pub step_laid : (l : FullLattice) (ch : Choice) (m : ℕ) (s : Store) (r : Row) → 2 * (from l ch m r + count l ch m r) ≤ length (list_of s (kind_of l ch m r))
    → with_list s (kind_of l ch m r) (laid_numbers (list_of s (kind_of l ch m r)) (from l ch m r) (numbers l ch m (get s) r)) ≡ step (rules l ch m) s r
step_laid l ch m s r room =
    let k = kind_of l ch m r in
    let a = from l ch m r in
    let n = count l ch m r in
    let xs = list_of s k in
    let vs = numbers l ch m (get s) r in
    let ys = laid_numbers xs a vs in
    let long : length vs ≡ n = numbers_long l ch m (get s) r in
    step_is (rules l ch m) lawful s (with_list s k ys) r (with_sizes s k ys (laid_numbers_length xs a vs))
    (λ p i. let t = in_tabulate (place k) (2 * n) (2 * a) p i in
    rw t.3 (place_laid (get (with_list s k ys)) k vs a t.0 (with_list_lem s k ys t.0 ∙ laid_double xs a vs t.0 (omega arith) t.1 (omega (arith, t.2)))))
    (λ p i. with_other s k ys p (λ j e. rest_double xs a vs j (λ lo hi. i (rw e (tabulate_in (place k) (2 * n) (2 * a) j lo (omega arith))))))

-- ---- whether a row is finite

place_fine : (k : Kind) (vs : List C64) (a j : ℕ) → finite_place (place k j) (laid_from vs a (place k j)) ≡ finite_double (double_of vs a j)
unfolding laid_from
place_fine permittivity vs a j = refl
place_fine forwards vs a j = refl
place_fine turneds vs a j = refl
place_fine entries vs a j = refl
place_fine scales vs a j = refl

part_fine : (l : FullLattice) (ch : Choice) (m : ℕ) (k : Kind) (vs : List C64) (a n i : ℕ)
    → all_fine (rules l ch m) (tabulate (place k) (2 * n) (2 * (a + i))) (laid_from vs a) ≡ all_finite (tabulate (λ q. get_or vs q no_number) n i)
unfolding all_fine
part_fine l ch m k vs a zero i =
    ap (λ (ps : List Place). all_fine (rules l ch m) ps (laid_from vs a)) (tabulate_zero (place k) (2 * (a + i))) ∙ sym (ap all_finite (tabulate_zero (λ q. get_or vs q no_number) i) ∙ all_finite_nil)
part_fine l ch m k vs a (suc n) i =
    let e : 2 * suc n ≡ suc (suc (2 * n)) = omega arith in
    let o : suc (2 * (a + i)) ≡ 2 * (a + i) + 1 = omega arith in
    let g : suc (2 * (a + i) + 1) ≡ 2 * (a + suc i) = omega arith in
    let x : finite_place (place k (2 * (a + i))) (laid_from vs a (place k (2 * (a + i)))) ≡ finite_double (get_or vs i no_number).re =
    place_fine k vs a (2 * (a + i)) ∙ ap finite_double (even_of vs a i) in
    let y : finite_place (place k (2 * (a + i) + 1)) (laid_from vs a (place k (2 * (a + i) + 1))) ≡ finite_double (get_or vs i no_number).im =
    place_fine k vs a (2 * (a + i) + 1) ∙ ap finite_double (odd_of vs a i) in
    let z = get_or vs i no_number in
    let rest = all_finite (tabulate (λ q. get_or vs q no_number) n (suc i)) in
    rw (e, tabulate_suc (place k) (suc (2 * n)) (2 * (a + i)), o, tabulate_suc (place k) (2 * n) (2 * (a + i) + 1), g)
    (rw (x, y, part_fine l ch m k vs a n (suc i)) (sym (and_assoc (finite_double z.re) (finite_double z.im) rest) ∙ ap (λ (b : Bool). b && rest) (sym (finite_both z))))
    ∙ sym (ap all_finite (tabulate_suc (λ q. get_or vs q no_number) n i) ∙ all_finite_cons z (tabulate (λ q. get_or vs q no_number) n (suc i)))

-- a row passes just where the numbers of its rule are finite, as the layers below test them
pub row_fine_lem : (l : FullLattice) (ch : Choice) (m : ℕ) (s : Store) (r : Row) → row_fine (rules l ch m) s r ≡ all_finite (numbers l ch m (get s) r)
row_fine_lem l ch m s r =
    let k = kind_of l ch m r in
    let a = from l ch m r in
    let vs = numbers l ch m (get s) r in
    let z : a + 0 ≡ a = omega arith in
    let long : length vs ≡ count l ch m r = numbers_long l ch m (get s) r in
    (rw z at (part_fine l ch m k vs a (count l ch m r) 0))
    ∙ ap all_finite (sym (is_tabulate (λ q. get_or vs q no_number) (count l ch m r) no_number vs long (λ i b. refl)))
