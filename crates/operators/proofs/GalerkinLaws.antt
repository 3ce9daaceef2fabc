-- Galerkin's operator in lists: a row's sums, rows laid one behind another, and an operator that stands in the same lists before them.
-- Assumes nothing.
use Prim.Native.Nat.{ℕ, suc, ◌+◌, ◌-◌, ◌*◌, ◌<◌, ◌≤◌, ◌^◌}
use native.Mathlib.Decide.{ℕ_discrete}
use native.Mathlib.Numerals.{add-one}
use native.Mathlib.Omega.{arith}
use mathlib.Core.Logic.{◌≢◌, inl, inr}
use mathlib.Core.Path.{◌≡◌, refl, sym, ap, ◌∙◌, subst}
use mathlib.Core.Bool.{Bool, true, false, cond}
use mathlib.Core.List.{List, [], ◌∷◌, ◌++◌}
use borrow.Author.Tests.{eq-eqb, ne_eqb}
use lib.Dec.{eqb}
use lib.ListN.{length, get_or, replicate, length-replicate}
use lib.Seq.{ext_get_or}
use lib.Ieee.{Float}
use Rattle.std.proofs.lemmas.List.{nil_from_length}
use Rattle.numbers.specs.declared.C64.{C64}
use Rattle.numbers.specs.Complex.{zero_f, one_number, zero_number, no_number}
use Rattle.numbers.specs.Places.{places, number_at, set_number}
use Rattle.numbers.specs.Lists.{In, tabulate, rows, laid_numbers, all_finite, contains, start_of}
use Rattle.numbers.specs.Terms.{Term, columns_of, numbers_of, Stored}
use Rattle.numbers.specs.Collect.{at_first, from_zero, summed_at}
use Rattle.numbers.proofs.Equations.{each_nil, collected_nil, columns_of_nil, columns_of_cons, numbers_of_nil, numbers_of_cons, contains_nil, inserted_nil, at_first_is, tabulate_zero, tabulate_suc, rows_zero, rows_suc, laid_by_nil, start_of_is}
use Rattle.numbers.proofs.Laws.{length_set_number, number_same, number_other}
use Rattle.numbers.proofs.TabulateLaws.{length_tabulate, tabulate_at}
use Rattle.numbers.proofs.EachLaws.{length_columns, length_numbers}
use Rattle.numbers.proofs.ListLaws.{laid_behind_laid, laid_numbers_length, read_back, start_agree}
use Rattle.numbers.proofs.MemberLaws.{contains_in, in_contains}
use Rattle.numbers.proofs.CollectSums.{in_at, number_at_lem, sum_columns}
use Rattle.numbers.proofs.Tutorial.{start_columns, start_numbers}
use Rattle.lattice.specs.Lattice.{FullLattice}
use Rattle.numbers.specs.declared.terms.Part.{Part}
use Rattle.operators.specs.declared.galerkin.FineRows.{FineRows}
use Rattle.operators.specs.declared.galerkin.FineRows.TheVariants.{Computed, Stored as StoredFrom}
use Rattle.operators.specs.Galerkin.{fine_terms, galerkin_terms, with_diagonal, galerkin_row, galerkin_columns, galerkin_numbers, fine_rows_read, rows_in, fine_row, FineReady, FineBefore, no_sums, Gathered, Cleared, sum_of, sums_at, ColumnsBelow, diagonal_one, Columned, Met, MetAll, RowReady, row_laid, RowsReady, NumbersLaid}
use Rattle.numbers.proofs.ElementLaws.{zeros_at}
use Rattle.numbers.proofs.StoredLaws.{summed_none, places_of, zeros_are, start_room, place_of, stored_size, stored_low, stored_kept, stored_laid}
use Rattle.numbers.proofs.LoopLaws.{start_suc}
use Rattle.operators.proofs.ComputedLaws.{row_computed, row_stored}
use Rattle.operators.proofs.RowMembers.{terms_via, via_terms, via_row}
use Rattle.operators.proofs.SecondCondition.{second_condition, touched, galerkin_local}

-- ---- a row by place

module _ (A P R : ℕ → List Term) (c : ℕ) where
  -- a turned row that is not empty touches the row's own column
  met_named : Met A P R c → 0 < length (R c) → contains c (columns_of (galerkin_terms A P (R c))) ≡ true
  met_named u h =
      let r : ℕ = get_or (columns_of (R c)) 0 0 in
      in_contains c (columns_of (galerkin_terms A P (R c)))
      (via_terms A P (R c) c
      (record {
        r = r;
        k = r;
        turned = in_at (columns_of (R c)) 0 (omega (arith, length_columns (R c)));
        fine = contains_in r (columns_of (A r)) (u.diagonal 0 h);
        forward = contains_in c (columns_of (P r)) (u.back 0 h);
      }))

  -- then each number is the sum at its column
  row_number : Met A P R c → 0 < length (R c) → (q : ℕ) → q < length (galerkin_row A P R c)
      → get_or (numbers_of (galerkin_row A P R c)) q no_number ≡ summed_at (get_or (columns_of (galerkin_row A P R c)) q 0) zero_number (galerkin_terms A P (R c))
  row_number u h q b =
      let row : List Term = galerkin_row A P R c in
      let ts : List Term = galerkin_terms A P (R c) in
      let d : ℕ = get_or (columns_of row) q 0 in
      let e : contains d (columns_of row) ≡ true = in_contains d (columns_of row) (in_at (columns_of row) q (omega (arith, length_columns row))) in
      let f : contains d (columns_of row) ≡ contains d (columns_of ts) = ap (λ (us : List Term). contains d (columns_of us)) (touched A P R c (met_named u h)) ∙ sum_columns d ts in
      number_at_lem row q (summed_at d zero_number ts) b (second_condition A P R c d (sym f ∙ e))

  -- with an empty turned row it is 1 on the diagonal alone
  row_alone : R c ≡ [] → galerkin_row A P R c ≡ record { column = c; number = one_number } ∷ []
  unfolding galerkin_row galerkin_terms with_diagonal
  row_alone e =
      rw (
        e,
        each_nil (fine_terms A P),
        collected_nil from_zero [],
        columns_of_nil,
        contains_nil c,
        inserted_nil at_first (record { column = c; number = one_number }),
        at_first_is one_number,
      )
      refl

-- ---- a row's columns in a list

-- the row's columns, n of them, stand in the list from place k on
pub record Standing (row cs : List ℕ) (k n : ℕ) : Type 0 where
  pub count : n ≡ length row
  pub are : (q : ℕ) → q < n → get_or cs (k + q) 0 ≡ get_or row q 0
  pub low : (q : ℕ) → q < n → get_or row q 0 < 12288
  pub room : k + n ≤ length cs
  pub few : k + n ≤ 2 ^ 40

-- where row c ends
columned_end : {row : ℕ → List ℕ} {m : ℕ} {o : Part} {starts cs : List ℕ} → Columned row m o starts cs → (c : ℕ) → c < m
    → get_or starts (o.s + c + 1) 0 ≡ start_of row c + length (row c)
columned_end {row} {m} {o} {starts} {cs} u c h =
    let j : o.s + c + 1 ≡ o.s + suc c = omega arith in
    ap (λ (i : ℕ). get_or starts i 0) j ∙ (u.starts_are (suc c) (omega arith) ∙ start_suc row c)

pub columned_row : {row : ℕ → List ℕ} {m : ℕ} {o : Part} {starts cs : List ℕ} {c k n : ℕ} → Columned row m o starts cs → c < m
    → k ≡ o.k + get_or starts (o.s + c) 0 → n ≡ get_or starts (o.s + c + 1) 0 - get_or starts (o.s + c) 0 → Standing (row c) cs k n
columned_row {row} {m} {o} {starts} {cs} {c} {k} {n} u h e d =
    let p : k ≡ o.k + start_of row c = omega (arith, u.starts_are c (omega arith)) in
    let w : n ≡ length (row c) = omega (arith, u.starts_are c (omega arith), columned_end u c h) in
    record {
      count = w;
      are = λ q i. rw p (u.columns_are c q h (omega arith));
      low = λ q i. u.columns_low c q h (omega arith);
      room = omega (arith, start_room row m c h, u.columns_room);
      few = omega (arith, start_room row m c h, u.all_few, u.low);
    }

pub standing_below : {row cs : List ℕ} {k n : ℕ} → Standing row cs k n → ColumnsBelow cs k n 12288
standing_below {row} {cs} {k} {n} u = record { low = λ q h. omega (arith, u.are q h, u.low q h) }

-- what is read of a row's starts
pub record Bounds (starts : List ℕ) (o : Part) (c : ℕ) : Type 0 where
  pub there : o.s + c + 1 < length starts
  pub rise : get_or starts (o.s + c) 0 ≤ get_or starts (o.s + c + 1) 0
  pub low : get_or starts (o.s + c) 0 ≤ 2 ^ 32
  pub few : c < 12288
  pub starts_low : o.s ≤ 2 ^ 32
  pub places_low : o.k ≤ 2 ^ 32

pub columned_bounds : {row : ℕ → List ℕ} {m : ℕ} {o : Part} {starts cs : List ℕ} {c : ℕ} → Columned row m o starts cs → c < m → c < 12288 → Bounds starts o c
columned_bounds {row} {m} {o} {starts} {cs} {c} u h l =
    record {
      there = omega (arith, u.starts_room);
      rise = omega (arith, u.starts_are c (omega arith), columned_end u c h);
      low = omega (arith, u.starts_are c (omega arith), start_room row m c h, u.all_few);
      few = l;
      starts_low = u.starts_low;
      places_low = u.low;
    }

-- ---- a row's sums

one_long : (starts : List ℕ) (s c : ℕ) (xs : List Float) → length (diagonal_one starts s c xs) ≡ length xs
unfolding diagonal_one
one_long starts s c xs = go (eqb (get_or starts (s + c) 0) (get_or starts (s + c + 1) 0))
  where
    go : (b : Bool) → length (cond b (set_number xs c one_number) xs) ≡ length xs
    go true = length_set_number xs c one_number
    go false = refl

one_other : (starts : List ℕ) (s c : ℕ) (xs : List Float) (d : ℕ) → d ≢ c → number_at (diagonal_one starts s c xs) d ≡ number_at xs d
unfolding diagonal_one
one_other starts s c xs d h = go (eqb (get_or starts (s + c) 0) (get_or starts (s + c + 1) 0))
  where
    go : (b : Bool) → number_at (cond b (set_number xs c one_number) xs) d ≡ number_at xs d
    go true = number_other xs c d one_number h
    go false = refl

-- where turned row c is empty, and where not
module _ (starts : List ℕ) (s c : ℕ) (xs : List Float) where
  pub one_set : {ys : List Float} {v : C64} → get_or starts (s + c) 0 ≡ get_or starts (s + c + 1) 0 → v ≡ one_number → ys ≡ set_number xs c v → ys ≡ diagonal_one starts s c xs
  unfolding diagonal_one
  one_set e p q = rw (eq-eqb (get_or starts (s + c) 0) (get_or starts (s + c + 1) 0) e) (q ∙ ap (set_number xs c) p)

  pub one_left : (get_or starts (s + c) 0 ≡ get_or starts (s + c + 1) 0 → ⊥) → xs ≡ diagonal_one starts s c xs
  unfolding diagonal_one
  one_left e = rw (ne_eqb (get_or starts (s + c) 0) (get_or starts (s + c + 1) 0) e)

-- the sums at columns that stand in a list, by place
sums_are : (cs : List ℕ) (xs : List Float) (k n : ℕ) (vs : List C64) → n ≡ length vs
    → ((q : ℕ) → q < n → number_at xs (get_or cs (k + q) 0) ≡ get_or vs q no_number) → sums_at cs xs k n ≡ vs
unfolding sums_at sum_of
sums_are cs xs k n vs e h =
    let l : length (tabulate (sum_of cs xs) n k) ≡ n = length_tabulate (sum_of cs xs) n k in
    ext_get_or no_number (tabulate (sum_of cs xs) n k) vs (l ∙ e)
    (λ q b. let i : q < n = omega arith in tabulate_at (sum_of cs xs) n k q no_number i ∙ h q i)

sums_one : (cs : List ℕ) (xs : List Float) (k : ℕ) {v : C64} → number_at xs (get_or cs (k + 0) 0) ≡ v → sums_at cs xs k 1 ≡ v ∷ []
unfolding sums_at sum_of
sums_one cs xs k {v} e =
    let p : k ≡ k + 0 = omega arith in
    rw (tabulate_suc (sum_of cs xs) 0 k, tabulate_zero (sum_of cs xs) (suc k)) (λ i. (ap (λ (j : ℕ). number_at xs (get_or cs j 0)) p ∙ e) i ∷ [])

-- the sums of no terms are +0
pub none_long : length no_sums ≡ 24576
unfolding no_sums
none_long = length-replicate {A = Float} 24576 zero_f

none_zero : (d : ℕ) → d < 12288 → number_at no_sums d ≡ zero_number
unfolding no_sums
none_zero d h = zeros_at 24576 d (omega arith)

none_is : (xs : List Float) → length xs ≡ 24576 → ((d : ℕ) → d < 12288 → number_at xs d ≡ zero_number) → xs ≡ no_sums
unfolding no_sums
none_is xs l h = zeros_are 12288 24576 refl xs l h

module _ {A P R : ℕ → List Term} {c : ℕ} {cs : List ℕ} (starts : List ℕ) (s : ℕ) {k n : ℕ} {xs ys zs : List Float} (met : Met A P R c)
    (there : Standing (galerkin_columns A P R c) cs k n) (none : xs ≡ no_sums) (gathered : Gathered (galerkin_terms A P (R c)) xs ys)
    (one : zs ≡ diagonal_one starts s c ys)
    (size : length (R c) ≡ get_or starts (s + c + 1) 0 - get_or starts (s + c) 0) (rise : get_or starts (s + c) 0 ≤ get_or starts (s + c + 1) 0) where
  gathered_long : length ys ≡ 24576
  gathered_long = gathered.long ∙ (ap length none ∙ none_long)

  sums_long : length zs ≡ 24576
  sums_long = ap length one ∙ (one_long starts s c ys ∙ gathered_long)

  -- at each column the sum of the terms there
  gathered_sum : (d : ℕ) → d < 12288 → number_at ys d ≡ summed_at d zero_number (galerkin_terms A P (R c))
  gathered_sum d h =
      let z : number_at xs d ≡ zero_number = ap (λ (vs : List Float). number_at vs d) none ∙ none_zero d h in
      let p : places xs ≡ 12288 = places_of xs 12288 (ap length none ∙ none_long) in
      gathered.sums d (omega arith) ∙ ap (λ (v : C64). summed_at d v (galerkin_terms A P (R c))) z

  -- with an empty turned row
  alone_sums : R c ≡ [] → get_or starts (s + c) 0 ≡ get_or starts (s + c + 1) 0 → sums_at cs zs k n ≡ numbers_of (galerkin_row A P R c)
  unfolding galerkin_columns diagonal_one
  alone_sums e d =
      let t : Term = record { column = c; number = one_number } in
      let f : galerkin_row A P R c ≡ t ∷ [] = row_alone A P R c e in
      let j : columns_of (galerkin_row A P R c) ≡ c ∷ [] = ap columns_of f ∙ (columns_of_cons t [] ∙ ap (λ (l : List ℕ). c ∷ l) columns_of_nil) in
      let v : numbers_of (galerkin_row A P R c) ≡ one_number ∷ [] = ap numbers_of f ∙ (numbers_of_cons t [] ∙ ap (λ (l : List C64). one_number ∷ l) numbers_of_nil) in
      let l : n ≡ 1 = there.count ∙ ap length j in
      let g : get_or (columns_of (galerkin_row A P R c)) 0 0 ≡ c = ap (λ (us : List ℕ). get_or us 0 0) j in
      let i : c < 12288 = omega (arith, there.low 0 (omega arith)) in
      let h : get_or cs (k + 0) 0 ≡ c = there.are 0 (omega arith) ∙ g in
      let w : zs ≡ set_number ys c one_number = rw (eq-eqb (get_or starts (s + c) 0) (get_or starts (s + c + 1) 0) d) at one in
      let b : number_at zs c ≡ one_number = rw w (number_same ys c one_number (omega (arith, places_of ys 12288 gathered_long))) in
      rw (l, v) (sums_one cs zs k (ap (number_at zs) h ∙ b))

  -- and with one that is not
  met_sums : 0 < length (R c) → sums_at cs ys k n ≡ numbers_of (galerkin_row A P R c)
  unfolding galerkin_columns
  met_sums h =
      sums_are cs ys k n (numbers_of (galerkin_row A P R c)) (there.count ∙ (length_columns (galerkin_row A P R c) ∙ sym (length_numbers (galerkin_row A P R c)))) at
    where
      at : (q : ℕ) → q < n → number_at ys (get_or cs (k + q) 0) ≡ get_or (numbers_of (galerkin_row A P R c)) q no_number
      at q b =
          let d : ℕ = get_or cs (k + q) 0 in
          let e : d ≡ get_or (columns_of (galerkin_row A P R c)) q 0 = there.are q b in
          let l : q < length (galerkin_row A P R c) = omega (arith, there.count, length_columns (galerkin_row A P R c)) in
          gathered_sum d (omega (arith, there.low q b))
          ∙ (ap (λ (i : ℕ). summed_at i zero_number (galerkin_terms A P (R c))) e ∙ sym (row_number A P R c met h q l))

  row_sums : sums_at cs zs k n ≡ galerkin_numbers A P R c
  unfolding galerkin_numbers diagonal_one
  row_sums = go (ℕ_discrete (get_or starts (s + c) 0) (get_or starts (s + c + 1) 0))
    where
      go : Dec (get_or starts (s + c) 0 ≡ get_or starts (s + c + 1) 0) → sums_at cs zs k n ≡ numbers_of (galerkin_row A P R c)
      go (yes d) = alone_sums (nil_from_length (R c) (omega arith)) d
      go (no d) =
          let w : zs ≡ ys = rw (ne_eqb (get_or starts (s + c) 0) (get_or starts (s + c + 1) 0) d) at one in
          rw w (met_sums (omega arith))

  -- ---- sums that were cleared again

  module _ {ws : List Float} (cleared : Cleared cs k n zs ws) where
    -- at one of the row's columns
    zero_in : (d : ℕ) → d < 12288 → In d (galerkin_columns A P R c) → number_at ws d ≡ zero_number
    zero_in d h i =
        let p = place_of d (galerkin_columns A P R c) i in
        let b : p.place < n = omega (arith, there.count, p.low) in
        let e : get_or cs (k + p.place) 0 ≡ d = there.are p.place b ∙ p.is in
        let w : places zs ≡ 12288 = places_of zs 12288 sums_long in
        ap (number_at ws) (sym e) ∙ cleared.zeros p.place b (omega arith)

    -- elsewhere: no term has touched it
    zero_out : (d : ℕ) → d < 12288 → (In d (galerkin_columns A P R c) → ⊥) → number_at ws d ≡ zero_number
    unfolding galerkin_columns
    zero_out d h out =
        let apart : (m : ℕ) → m < n → d ≢ get_or cs (k + m) 0 =
        λ m b e. out (subst (λ (i : ℕ). In i (columns_of (galerkin_row A P R c))) (sym (e ∙ there.are m b)) (in_at (columns_of (galerkin_row A P R c)) m (omega (arith, there.count)))) in
        let own : d ≢ c = λ e. out (via_row A P R c d (inl e)) in
        cleared.kept d apart
        ∙ (ap (λ (vs : List Float). number_at vs d) one
        ∙ (one_other starts s c ys d own
        ∙ (gathered_sum d h ∙ summed_none d zero_number (galerkin_terms A P (R c)) (unnamed d out))))
      where
        unnamed : (d : ℕ) → (In d (columns_of (galerkin_row A P R c)) → ⊥) → contains d (columns_of (galerkin_terms A P (R c))) ≡ false
        unnamed d out = go (contains d (columns_of (galerkin_terms A P (R c)))) refl
          where
            go : (b : Bool) → contains d (columns_of (galerkin_terms A P (R c))) ≡ b → b ≡ false
            go true e = absurd (out (via_row A P R c d (inr (terms_via A P (R c) d (contains_in d (columns_of (galerkin_terms A P (R c))) e)))))
            go false e = refl

    sums_none : ws ≡ no_sums
    sums_none = none_is ws (cleared.long ∙ sums_long) (λ d h. go d h (contains d (galerkin_columns A P R c)) refl)
      where
        go : (d : ℕ) → d < 12288 → (b : Bool) → contains d (galerkin_columns A P R c) ≡ b → number_at ws d ≡ zero_number
        go d h true e = zero_in d h (contains_in d (galerkin_columns A P R c) e)
        go d h false e =
            zero_out d h
            (λ i. let f : true ≡ false = sym (in_contains d (galerkin_columns A P R c) i) ∙ e in let z : ◌≡◌ {A = ℕ} 0 1 = cc in omega arith)

-- room for the starts of row c
pub diagonal_room : {starts : List ℕ} {s : ℕ} {cs : List ℕ} {xs : List Float} {k m n c : ℕ} → Stored starts s cs xs k m n → c < m
    → (s + c + 1 < length starts) × (s + c ≤ 2 ^ 40)
diagonal_room u h = (omega (arith, u.starts_room), omega (arith, u.starts_low, u.rows_few))

-- ---- a row laid over the values

-- row c has been worked out: the sums at its n columns, which stand from place k on, are its numbers
pub record Worked (A P R : ℕ → List Term) (c : ℕ) (o : Part) (cs : List ℕ) (k n : ℕ) (sums : List Float) : Type 0 where
  pub long : length sums ≡ 24576
  pub place : k ≡ o.k + start_of (galerkin_columns A P R) c
  pub numbers : sums_at cs sums k n ≡ galerkin_numbers A P R c
  pub cleared : (sums' : List Float) → Cleared cs k n sums sums' → sums' ≡ no_sums

-- sums that were gathered, and the diagonal set
pub row_worked : {A P : ℕ → List Term} (t : Part) {o : Part} {tstarts tcs ostarts ocs : List ℕ} {txs : List Float} {m w c k n : ℕ} {xs ys zs : List Float}
    → Stored tstarts t.s tcs txs t.k m w
    → c < m
    → RowReady A P (rows_in t tstarts tcs txs) c o ostarts ocs
    → k ≡ o.k + get_or ostarts (o.s + c) 0
    → n ≡ get_or ostarts (o.s + c + 1) 0 - get_or ostarts (o.s + c) 0
    → xs ≡ no_sums
    → Gathered (galerkin_terms A P (rows_in t tstarts tcs txs c)) xs ys
    → zs ≡ diagonal_one tstarts t.s c ys
    → Worked A P (rows_in t tstarts tcs txs) c o ocs k n zs
row_worked {A} {P} t {o} {tstarts} {tcs} {ostarts} {ocs} {txs} {c = c} turned low ready from count none gathered one =
    let there = columned_row ready.columned ready.low from count in
    let size : length (rows_in t tstarts tcs txs c) ≡ get_or tstarts (t.s + c + 1) 0 - get_or tstarts (t.s + c) 0 = stored_size tstarts t.s tcs txs t.k c in
    let rise = turned.rise c low in
    record {
      long = sums_long tstarts t.s ready.met there none gathered one size rise;
      place = omega (arith, ready.columned.starts_are c (omega (arith, ready.low)));
      numbers = row_sums tstarts t.s ready.met there none gathered one size rise;
      cleared = λ ws w. sums_none tstarts t.s ready.met there none gathered one size rise w;
    }

pub worked_laid : {A P R : ℕ → List Term} {c : ℕ} {o : Part} {cs : List ℕ} {k n : ℕ} {sums : List Float} (vs : List Float) {vs' : List Float}
    → Worked A P R c o cs k n sums → vs' ≡ laid_numbers vs k (sums_at cs sums k n) → vs' ≡ row_laid A P R c o vs
unfolding row_laid
worked_laid vs w e = e ∙ (λ i. laid_numbers vs (w.place i) (w.numbers i))

-- ---- rows laid one behind another, c of m done

pub record RowsLaid (f : ℕ → List C64) (m k : ℕ) (xs₀ xs sums : List Float) (c : ℕ) : Type 0 where
  pub high : c ≤ m
  pub list : xs ≡ laid_numbers xs₀ k (rows f c)
  pub none : sums ≡ no_sums

-- the sums at first are +0
pub rows_start : {f : ℕ → List C64} {m k : ℕ} {xs : List Float} → RowsLaid f m k xs xs (replicate {A = Float} 24576 zero_f) 0
unfolding no_sums
rows_start {f} {m} {k} {xs} = record { high = omega arith; list = rw (rows_zero f, laid_by_nil set_number xs k) refl; none = refl }

pub rows_end : {f : ℕ → List C64} {m k c : ℕ} {xs₀ xs sums : List Float} → RowsLaid f m k xs₀ xs sums c → m ≤ c → xs ≡ laid_numbers xs₀ k (rows f m)
rows_end {f} {m} {k} {c} {xs₀} {xs} {sums} u h = let e : c ≡ m = omega (arith, u.high) in u.list ∙ ap (λ (j : ℕ). laid_numbers xs₀ k (rows f j)) e

pub rows_same : {f : ℕ → List C64} {m k c : ℕ} {xs₀ xs sums : List Float} → RowsLaid f m k xs₀ xs sums c → length xs ≡ length xs₀
rows_same {f} {m} {k} {c} {xs₀} {xs} {sums} u = ap length u.list ∙ laid_numbers_length xs₀ k (rows f c)

module _ (A P R : ℕ → List Term) where
  -- the rows' numbers begin where their columns do
  start_same : (c : ℕ) → start_of (galerkin_columns A P R) c ≡ length (rows (galerkin_numbers A P R) c)
  unfolding galerkin_columns galerkin_numbers
  start_same c = start_columns (galerkin_row A P R) c ∙ (sym (start_numbers (galerkin_row A P R) c) ∙ start_of_is (galerkin_numbers A P R) c)

  rows_turn : {m k c : ℕ} {xs₀ xs xs' sums sums' : List Float} → RowsLaid (galerkin_numbers A P R) m k xs₀ xs sums c → c < m
      → xs' ≡ laid_numbers xs (k + start_of (galerkin_columns A P R) c) (galerkin_numbers A P R c) → sums' ≡ no_sums
      → RowsLaid (galerkin_numbers A P R) m k xs₀ xs' sums' (c + 1)
  rows_turn {m} {k} {c} {xs₀} {xs} {xs'} u h e z =
      let f : ℕ → List C64 = galerkin_numbers A P R in
      let j : ℕ = k + start_of (galerkin_columns A P R) c in
      let p : j ≡ k + length (rows f c) = omega (arith, start_same c) in
      let q : rows f (c + 1) ≡ rows f c ++ f c = rw (add-one c) (rows_suc f c) in
      record {
        high = omega arith;
        list = e
            ∙ (ap (λ (ys : List Float). laid_numbers ys j (f c)) u.list
            ∙ (sym (laid_behind_laid set_number xs₀ k (rows f c) (f c) j p) ∙ ap (laid_numbers xs₀ k) (sym q)));
        none = z;
      }

  module _ {m : ℕ} {o : Part} {starts cs : List ℕ} {xs₀ : List Float} (ready : RowsReady A P R m o starts cs xs₀) where
    last_start : get_or starts (o.s + m) 0 ≡ length (rows (galerkin_numbers A P R) m)
    last_start = ready.columned.starts_are m (omega arith) ∙ start_same m

    module _ {c : ℕ} {xs sums : List Float} (w : RowsLaid (galerkin_numbers A P R) m o.k xs₀ xs sums c) where
      pub finite_room : (o.k + get_or starts (o.s + m) 0 < 2 ^ 40) × (2 * (o.k + get_or starts (o.s + m) 0) ≤ length xs)
      finite_room = (omega (arith, ready.columned.starts_are m (omega arith), ready.columned.all_few, ready.columned.low), omega (arith, ready.room, rows_same w))

      pub rows_finite : m ≤ c → {b : Bool} → b ≡ all_finite (tabulate (number_at xs) (get_or starts (o.s + m) 0) o.k) → NumbersLaid A P R m o xs₀ xs b
      rows_finite h d =
          record {
            list = rows_end w h;
            finite = d
                ∙ (λ i. all_finite (tabulate (number_at (rows_end w h i)) (last_start i) o.k))
                ∙ ap all_finite (read_back xs₀ o.k (rows (galerkin_numbers A P R) m) (omega (arith, last_start, ready.room)));
          }

-- ---- fine rows that stand in the same lists, before the rows

-- rows with the same columns
pub columned_agree : {f g : ℕ → List ℕ} {m : ℕ} {o : Part} {starts cs : List ℕ} → ((c : ℕ) → c < m → f c ≡ g c) → Columned f m o starts cs → Columned g m o starts cs
columned_agree {f} {g} {m} {o} {starts} {cs} h u =
    let e : (c : ℕ) → c ≤ m → start_of f c ≡ start_of g c = λ c b. start_agree f g m h c (omega arith) in
    record {
      starts_room = u.starts_room;
      starts_are = λ c b. u.starts_are c b ∙ e c b;
      columns_room = omega (arith, u.columns_room, e m (omega arith));
      columns_are = λ c q b i.
          let d : length (f c) ≡ length (g c) = ap length (h c b) in
          let j : o.k + start_of g c + q ≡ o.k + start_of f c + q = omega (arith, e c (omega arith)) in
          ap (λ (x : ℕ). get_or cs x 0) j ∙ (u.columns_are c q b (omega arith) ∙ ap (λ (l : List ℕ). get_or l q 0) (h c b));
      columns_low = λ c q b i.
          let d : length (f c) ≡ length (g c) = ap length (h c b) in
          let w : get_or (f c) q 0 ≡ get_or (g c) q 0 = ap (λ (l : List ℕ). get_or l q 0) (h c b) in
          omega (arith, u.columns_low c q b (omega arith));
      starts_low = u.starts_low;
      low = u.low;
      all_few = omega (arith, u.all_few, e m (omega arith));
    }

module _ (fine : FineRows) (l : FullLattice) (eps : List Float) (t o : Part) {ostarts ocs tstarts tcs : List ℕ} {xs₀ xs txs : List Float} (P : ℕ → List Term) {n m c : ℕ} {sums : List Float}
    (ready : FineReady fine l eps ostarts ocs xs₀ n) (before : FineBefore fine ostarts n o)
    (turned : Stored tstarts t.s tcs txs t.k m n)
    (laid : RowsLaid (galerkin_numbers (fine_row fine l (number_at eps) ostarts ocs xs₀) P (rows_in t tstarts tcs txs)) m o.k xs₀ xs sums c) where
  abbrev first : ℕ → List Term
  first = fine_row fine l (number_at eps) ostarts ocs xs₀

  abbrev now : ℕ → List Term
  now = fine_row fine l (number_at eps) ostarts ocs xs

  abbrev R : ℕ → List Term
  R = rows_in t tstarts tcs txs

  pub fine_ready : FineReady fine l eps ostarts ocs xs n
  fine_ready =
      record {
        computed = ready.computed;
        stored = λ f e. rw laid.list (stored_laid (ready.stored f e) o.k (rows (galerkin_numbers first P R) c));
      }

  -- each fine row is as it was
  fine_now : (r : ℕ) → r < n → first r ≡ now r
  fine_now r h = go fine refl
    where
      go : (g : FineRows) → fine ≡ g → first r ≡ now r
      go Computed e = row_computed l (number_at eps) ostarts ocs xs₀ e r ∙ sym (row_computed l (number_at eps) ostarts ocs xs e r)
      go (StoredFrom f) e =
          row_stored l (number_at eps) ostarts ocs xs₀ f e r
          ∙ (sym
          (ap (λ (ys : List Float). rows_in f ostarts ocs ys r) laid.list
          ∙ stored_kept (ready.stored f e) o.k (rows (galerkin_numbers first P R) c) (before.ends f e) r h)
          ∙ sym (row_stored l (number_at eps) ostarts ocs xs f e r))

  -- and so is each row of Galerkin's operator
  row_now : (d : ℕ) → d < m → galerkin_row first P R d ≡ galerkin_row now P R d
  unfolding fine_rows_read
  row_now d h = galerkin_local first now P P R R d refl (λ r e. fine_now r (stored_low turned d h r e)) (λ s e. refl)

  met_now : MetAll first P R m → c < m → Met now P R c
  met_now u h =
      let w : Met first P R c = u.each_met c h in
      record {
        diagonal = λ q b.
            let r : ℕ = get_or (columns_of (R c)) q 0 in
            let e : In r (columns_of (R c)) = in_at (columns_of (R c)) q (omega (arith, length_columns (R c))) in
            ap (λ (us : List Term). contains r (columns_of us)) (sym (fine_now r (stored_low turned c h r e))) ∙ w.diagonal q b;
        back = w.back;
      }

  pub row_ready : RowsReady first P R m o ostarts ocs xs₀ → c < m → RowReady now P R c o ostarts ocs
  unfolding galerkin_columns
  row_ready u h =
      record {
        m = m;
        columned = columned_agree (λ d b. ap columns_of (row_now d b)) u.columned;
        met = met_now u.met h;
        low = h;
      }

  pub row_turn : {xs' sums' : List Float} → c < m → xs' ≡ row_laid now P R c o xs → sums' ≡ no_sums
      → RowsLaid (galerkin_numbers first P R) m o.k xs₀ xs' sums' (c + 1)
  unfolding row_laid galerkin_columns galerkin_numbers
  row_turn h e z =
      let p : start_of (galerkin_columns now P R) c ≡ start_of (galerkin_columns first P R) c =
      sym (start_agree (galerkin_columns first P R) (galerkin_columns now P R) m (λ d b. ap columns_of (row_now d b)) c (omega arith)) in
      rows_turn first P R laid h (e ∙ (λ i. laid_numbers xs (o.k + p i) (numbers_of (sym (row_now c h) i)))) z
