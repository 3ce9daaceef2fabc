-- The first variational condition of "A Multigrid Tutorial" (Briggs, Henson, McCormick): restriction is the transpose of interpolation.
-- For any rows; and rows that were laid into lists are read back one by one.
-- Assumes nothing.
use Prim.Native.Nat.{ℕ, zero, suc, ◌+◌, ◌-◌, ◌*◌, ◌<◌, ◌≤◌}
use native.Mathlib.Decide.{ℕ_discrete, dec_lt}
use native.Mathlib.Omega.{arith}
use mathlib.Core.Logic.{◌≢◌, inl, inr, ◌↔◌}
use mathlib.Core.Path.{◌≡◌, refl, sym, ap, ◌∙◌, subst}
use mathlib.Core.Bool.{Bool, true, false, cond, ◌||◌}
use mathlib.Core.List.{List, [], ◌∷◌, ◌++◌, append-nil, map}
use borrow.Author.Tests.{eq-eqb, ne_eqb, eqb-true}
use lib.Dec.{eqb}
use lib.ListN.{length, get_or, replicate, length-append, length-replicate, get_or-replicate, get_or-append}
use lib.Seq.{get_or-append_right}
use lib.Ieee.{Float}
use Rattle.std.proofs.lemmas.List.{map-append}
use Rattle.numbers.specs.declared.C64.{C64}
use Rattle.numbers.specs.Complex.{no_number}
use Rattle.numbers.specs.Places.{number_at}
use Rattle.numbers.specs.Lists.{In, Rises, rows, start_of, contains, repeats, some_repeats}
use Rattle.numbers.specs.Terms.{Term, columns_of, numbers_of, weights_at, stored_row, LaidRows}
use Rattle.numbers.specs.Transpose.{turned_from, turned_part, turned_row, found_from, found_part, turned_reads}
use Rattle.numbers.proofs.EachLaws.{columns_append, numbers_append, length_columns, length_numbers}
use Rattle.numbers.proofs.MemberLaws.{rows_in_lem, in_rows}
use Rattle.numbers.proofs.TermLaws.{terms_read}
use Rattle.numbers.proofs.ListLaws.{through, laid_at, laid_numbers_at, rows_agree, rows_length, rows_room, rows_at, starts_laid_lem}

-- ---- rows one behind another

module _ {A B : Type 0} (h : List A → List B) (none : h [] ≡ []) (both : (xs ys : List A) → h (xs ++ ys) ≡ h xs ++ h ys) (f : ℕ → List A) where
  -- what goes through appending goes through rows
  pub rows_through : (n : ℕ) → h (rows f n) ≡ rows (through h f) n
  unfolding rows
  rows_through zero = none
  rows_through (suc n) = both (rows f n) (f n) ∙ ap (λ (xs : List B). xs ++ h (f n)) (rows_through n)

module _ {A : Type 0} where
  module _ (f : ℕ → List A) (r : ℕ) (other : (s : ℕ) → s ≢ r → f s ≡ []) where
    -- where every row but row r is empty
    rows_none : (n : ℕ) → n ≤ r → rows f n ≡ []
    unfolding rows
    rows_none zero h = refl
    rows_none (suc n) h = λ i. rows_none n (omega arith) i ++ other n (omega arith) i

    pub rows_one : (n : ℕ) → r < n → rows f n ≡ f r
    unfolding rows
    rows_one zero h = absurd (omega arith)
    rows_one (suc n) h = go (ℕ_discrete n r) (rows_one n)
      where
        go : Dec (n ≡ r) → (r < n → rows f n ≡ f r) → rows f n ++ f n ≡ f r
        go (yes e) k = (λ i. rows_none n (omega arith) i ++ f (e i))
        go (no d) k = (λ i. k (omega arith) i ++ other n d i) ∙ append-nil (f r)

  start_more : (f : ℕ → List A) (r : ℕ) → start_of f (suc r) - start_of f r ≡ length (f r)
  unfolding start_of
  start_more f r = omega (arith, rows_length f r)

-- ---- columns, numbers and weights of terms one behind another

weights_append : (c : ℕ) (ts us : List Term) → weights_at c (ts ++ us) ≡ weights_at c ts ++ weights_at c us
unfolding weights_at
weights_append c [] us = refl
weights_append c (t ∷ ts) us = go (eqb t.column c) (weights_append c ts us)
  where
    go : (b : Bool) → weights_at c (ts ++ us) ≡ weights_at c ts ++ weights_at c us
        → cond b (t.number ∷ weights_at c (ts ++ us)) (weights_at c (ts ++ us)) ≡ cond b (t.number ∷ weights_at c ts) (weights_at c ts) ++ weights_at c us
    go true e = ap (λ (vs : List C64). t.number ∷ vs) e
    go false e = e

module _ (row : ℕ → List Term) (n : ℕ) where
  pub columns_rows : columns_of (rows row n) ≡ rows (through columns_of row) n
  unfolding columns_of
  columns_rows = rows_through columns_of refl columns_append row n

  pub numbers_rows : numbers_of (rows row n) ≡ rows (through numbers_of row) n
  unfolding numbers_of
  numbers_rows = rows_through numbers_of refl numbers_append row n

  weights_rows : (c : ℕ) → weights_at c (rows row n) ≡ rows (through (weights_at c) row) n
  unfolding weights_at
  weights_rows c = rows_through (weights_at c) refl (weights_append c) row n

-- ---- one turned row's part from one row

module _ (c r : ℕ) where
  -- its numbers are the row's weights at the column
  pub numbers_turned : (ts : List Term) → numbers_of (turned_from c r ts) ≡ weights_at c ts
  unfolding numbers_of turned_from weights_at
  numbers_turned [] = refl
  numbers_turned (t ∷ ts) = go (eqb t.column c) (numbers_turned ts)
    where
      go : (b : Bool) → numbers_of (turned_from c r ts) ≡ weights_at c ts
          → numbers_of (cond b (record { column = r; number = t.number } ∷ turned_from c r ts) (turned_from c r ts)) ≡ cond b (t.number ∷ weights_at c ts) (weights_at c ts)
      go true e = ap (λ (vs : List C64). t.number ∷ vs) e
      go false e = e

  -- all stand at the row's number
  columns_turned : (ts : List Term) → columns_of (turned_from c r ts) ≡ replicate (length (weights_at c ts)) r
  unfolding columns_of turned_from weights_at
  columns_turned [] = refl
  columns_turned (t ∷ ts) = go (eqb t.column c) (columns_turned ts)
    where
      go : (b : Bool) → columns_of (turned_from c r ts) ≡ replicate (length (weights_at c ts)) r
          → columns_of (cond b (record { column = r; number = t.number } ∷ turned_from c r ts) (turned_from c r ts))
          ≡ replicate (length (cond b (t.number ∷ weights_at c ts) (weights_at c ts))) r
      go true e = ap (λ (cs : List ℕ). r ∷ cs) e
      go false e = e

  weights_here : (ts : List Term) → weights_at r (turned_from c r ts) ≡ weights_at c ts
  unfolding turned_from weights_at
  weights_here [] = refl
  weights_here (t ∷ ts) = go (eqb t.column c) (weights_here ts)
    where
      go : (b : Bool) → weights_at r (turned_from c r ts) ≡ weights_at c ts
          → weights_at r (cond b (record { column = r; number = t.number } ∷ turned_from c r ts) (turned_from c r ts)) ≡ cond b (t.number ∷ weights_at c ts) (weights_at c ts)
      go true e = rw (eq-eqb r r refl) (ap (λ (vs : List C64). t.number ∷ vs) e)
      go false e = e

  weights_elsewhere : (s : ℕ) → r ≢ s → (ts : List Term) → weights_at s (turned_from c r ts) ≡ []
  unfolding turned_from weights_at
  weights_elsewhere s d [] = refl
  weights_elsewhere s d (t ∷ ts) = go (eqb t.column c) (weights_elsewhere s d ts)
    where
      go : (b : Bool) → weights_at s (turned_from c r ts) ≡ []
          → weights_at s (cond b (record { column = r; number = t.number } ∷ turned_from c r ts) (turned_from c r ts)) ≡ []
      go true e = rw (ne_eqb r s d) e
      go false e = e

-- ---- the first variational condition

module _ (row : ℕ → List Term) (n c r : ℕ) where
  -- turned row c holds at r what row r holds at c: each number as often, and in the same order
  pub first_condition : r < n → weights_at r (turned_row row n c) ≡ weights_at c (row r)
  unfolding turned_row
  first_condition h =
      weights_rows (turned_part row c) n r
      ∙ (rows_one (through (weights_at r) (turned_part row c)) r (λ s d. weights_elsewhere c s r d (row s)) n h ∙ weights_here c r (row r))

  -- and nothing past the rows
  pub none_besides : n ≤ r → weights_at r (turned_row row n c) ≡ []
  unfolding turned_row
  none_besides h =
      weights_rows (turned_part row c) n r ∙ rows_none (through (weights_at r) (turned_part row c)) r (λ s d. weights_elsewhere c s r d (row s)) n h

-- rows that agree have the same turned rows
pub turned_local : (f g : ℕ → List Term) (n c : ℕ) → ((r : ℕ) → r < n → f r ≡ g r) → turned_row f n c ≡ turned_row g n c
unfolding turned_row
turned_local f g n c h = rows_agree (turned_part f c) (turned_part g c) n (λ r b. ap (turned_from c r) (h r b))

-- ---- a turned row in order

-- each earlier number lies at least d below each later one
abbrev pub Apart : ℕ → List ℕ → Type 0
Apart d cs = (i j : ℕ) → i < j → j < length cs → get_or cs i 0 + d ≤ get_or cs j 0

-- row r, as often as it names c
abbrev names_of : (ℕ → List Term) → ℕ → ℕ → List ℕ
names_of row c r = replicate (length (weights_at c (row r))) r

-- some numbers below n, then n itself m times
apart_more : (d n m : ℕ) (xs : List ℕ) → d ≤ 1 → (1 < m → d ≡ 0) → ((i : ℕ) → i < length xs → get_or xs i 0 < n) → Apart d xs → Apart d (xs ++ replicate m n)
apart_more d n m xs o s low p i j h k = go (dec_lt j (length xs)) (dec_lt i (length xs))
  where
    l : length (xs ++ replicate m n) ≡ length xs + m
    l = length-append xs (replicate m n) ∙ ap (λ (q : ℕ). length xs + q) (length-replicate m n)

    at : (q : ℕ) → length xs ≤ q → q < length (xs ++ replicate m n) → get_or (xs ++ replicate m n) q 0 ≡ n
    at q b c = get_or-append_right xs (replicate m n) q 0 b ∙ get_or-replicate m (q - length xs) n 0 (omega (arith, l))

    go : Dec (j < length xs) → Dec (i < length xs) → get_or (xs ++ replicate m n) i 0 + d ≤ get_or (xs ++ replicate m n) j 0
    go (yes b) y = rw (get_or-append xs (replicate m n) 0 i (omega arith), get_or-append xs (replicate m n) 0 j b) (p i j h b)
    go (no b) (yes c) = rw (get_or-append xs (replicate m n) 0 i c, at j (omega arith) k) (omega (arith, low i c))
    go (no b) (no c) = rw (at i (omega arith) (omega arith), at j (omega arith) k) (let z : d ≡ 0 = s (omega (arith, l)) in omega arith)

rises_is : (cs : List ℕ) → Apart 1 cs → Rises cs
unfolding Rises
rises_is [] p = tt
rises_is (a ∷ []) p = tt
rises_is (a ∷ (b ∷ cs)) p =
    (let q : a + 1 ≤ b = p 0 1 (omega arith) (omega arith) in omega arith, rises_is (b ∷ cs) (λ i j h k. p (suc i) (suc j) (omega arith) (omega arith)))

module _ (row : ℕ → List Term) (c : ℕ) where
  columns_names : (n : ℕ) → columns_of (turned_row row n c) ≡ rows (names_of row c) n
  unfolding turned_row
  columns_names n = columns_rows (turned_part row c) n ∙ rows_agree (through columns_of (turned_part row c)) (names_of row c) n (λ r b. columns_turned c r (row r))

  names_low : (n i : ℕ) → i < length (rows (names_of row c) n) → get_or (rows (names_of row c) n) i 0 < n
  unfolding rows
  names_low zero i h = absurd (omega arith)
  names_low (suc n) i h = go (dec_lt i (length (rows (names_of row c) n))) (names_low n i)
    where
      m : ℕ
      m = length (weights_at c (row n))

      go : Dec (i < length (rows (names_of row c) n)) → (i < length (rows (names_of row c) n) → get_or (rows (names_of row c) n) i 0 < n)
          → get_or (rows (names_of row c) n ++ names_of row c n) i 0 < suc n
      go (yes b) k = rw (get_or-append (rows (names_of row c) n) (names_of row c n) 0 i b) (omega (arith, k b))
      go (no b) k =
          rw (
            get_or-append_right (rows (names_of row c) n) (names_of row c n) i 0 (omega arith),
            get_or-replicate m (i - length (rows (names_of row c) n)) n 0
                (omega (arith, length-append (rows (names_of row c) n) (names_of row c n), length-replicate m n)),
          )
          (omega arith)

  names_apart : (d : ℕ) → d ≤ 1 → (n : ℕ) → ((r : ℕ) → r < n → 1 < length (weights_at c (row r)) → d ≡ 0) → Apart d (rows (names_of row c) n)
  unfolding rows
  names_apart d o zero s = λ i j h k. absurd (omega arith)
  names_apart d o (suc n) s =
      apart_more d n (length (weights_at c (row n))) (rows (names_of row c) n) o (s n (omega arith)) (names_low n)
      (names_apart d o n (λ r b. s r (omega arith)))

  module _ (n : ℕ) where
    -- the columns of a turned row are numbers of rows
    pub turned_low : (i : ℕ) → i < length (turned_row row n c) → get_or (columns_of (turned_row row n c)) i 0 < n
    turned_low i h = rw (columns_names n) (names_low n i (omega (arith, length_columns (turned_row row n c), ap length (columns_names n))))

    -- and rise
    pub turned_rise : (i j : ℕ) → i < j → j < length (turned_row row n c)
        → get_or (columns_of (turned_row row n c)) i 0 ≤ get_or (columns_of (turned_row row n c)) j 0
    turned_rise i j h k =
        let p : get_or (rows (names_of row c) n) i 0 + 0 ≤ get_or (rows (names_of row c) n) j 0 =
        names_apart 0 (omega arith) n (λ r b q. refl) i j h (omega (arith, length_columns (turned_row row n c), ap length (columns_names n))) in
        rw (columns_names n) (omega arith)

    -- strictly, where no row names c twice
    pub turned_rises : ((r : ℕ) → r < n → length (weights_at c (row r)) ≤ 1) → Rises (columns_of (turned_row row n c))
    turned_rises s = rw (columns_names n) (rises_is (rows (names_of row c) n) (names_apart 1 (omega arith) n (λ r b q. omega (arith, s r b))))

-- ---- refusal 8 and strictness

-- a column that is not contained has no weight
pub none_named : (c : ℕ) (ts : List Term) → contains c (columns_of ts) ≡ false → weights_at c ts ≡ []
unfolding contains columns_of weights_at
none_named c [] e = refl
none_named c (t ∷ ts) e = go (eqb t.column c) e (none_named c ts)
  where
    go : (b : Bool) → b || contains c (columns_of ts) ≡ false → (contains c (columns_of ts) ≡ false → weights_at c ts ≡ [])
        → cond b (t.number ∷ weights_at c ts) (weights_at c ts) ≡ []
    go true e k = absurd (let z : ◌≡◌ {A = ℕ} 0 1 = cc in omega arith)
    go false e k = k e

-- a row that repeats no column names each at most once
pub named_once : (c : ℕ) (ts : List Term) → repeats (columns_of ts) ≡ false → length (weights_at c ts) ≤ 1
unfolding repeats columns_of weights_at
named_once c [] e = omega arith
named_once c (t ∷ ts) e = go (eqb t.column c) refl (contains t.column (columns_of ts)) refl e (named_once c ts)
  where
    go : (b : Bool) → eqb t.column c ≡ b → (d : Bool) → contains t.column (columns_of ts) ≡ d → d || repeats (columns_of ts) ≡ false
        → (repeats (columns_of ts) ≡ false → length (weights_at c ts) ≤ 1)
        → length (cond b (t.number ∷ weights_at c ts) (weights_at c ts)) ≤ 1
    go b p true q e k = absurd (let z : ◌≡◌ {A = ℕ} 0 1 = cc in omega arith)
    go false p false q e k = k e
    go true p false q e k =
        let f : t.column ≡ c = eqb-true t.column c p in
        let g : weights_at c ts ≡ [] = none_named c ts (rw f at q) in
        omega (arith, ap length g)

pub none_repeats : (f : ℕ → List ℕ) (n : ℕ) → some_repeats f n ≡ false → (r : ℕ) → r < n → repeats (f r) ≡ false
unfolding some_repeats
none_repeats f zero e r h = absurd (omega arith)
none_repeats f (suc n) e r h = go (some_repeats f n) refl e (ℕ_discrete r n) (none_repeats f n)
  where
    go : (b : Bool) → some_repeats f n ≡ b → b || repeats (f n) ≡ false → Dec (r ≡ n)
        → (some_repeats f n ≡ false → (r : ℕ) → r < n → repeats (f r) ≡ false) → repeats (f r) ≡ false
    go true p e y k = absurd (let z : ◌≡◌ {A = ℕ} 0 1 = cc in omega arith)
    go false p e (yes q) k = rw q e
    go false p e (no d) k = k p r (omega arith)

-- where refusal 8 finds nothing, the columns of a turned row rise strictly
pub turned_sorted : (row : ℕ → List Term) (n c : ℕ) → some_repeats (through columns_of row) n ≡ false → Rises (columns_of (turned_row row n c))
turned_sorted row n c e = turned_rises row c n (λ r h. named_once c (row r) (none_repeats (through columns_of row) n e r h))

-- ---- what a turned row reads

-- number k of all the rows' numbers, one row behind another; d past them
abbrev pub number_no : (ℕ → List Term) → ℕ → C64 → ℕ → C64
number_no row n d k = get_or (numbers_of (rows row n)) k d

-- the weights at a column are read where it stands
pub found_read : (c : ℕ) (f : ℕ → C64) (d : C64) (ts : List Term) (k : ℕ) → ((j i : ℕ) → i ≡ k + j → j < length ts → f i ≡ get_or (numbers_of ts) j d)
    → weights_at c ts ≡ map f (found_from c k (columns_of ts))
unfolding weights_at found_from columns_of numbers_of
found_read c f d [] k h = refl
found_read c f d (t ∷ ts) k h =
    go (eqb t.column c) (h 0 k (omega arith) (omega arith))
    (found_read c f d ts (suc k) (λ j i e b. h (suc j) i (omega arith) (omega arith)))
  where
    go : (b : Bool) → f k ≡ t.number → weights_at c ts ≡ map f (found_from c (suc k) (columns_of ts))
        → cond b (t.number ∷ weights_at c ts) (weights_at c ts) ≡ map f (cond b (k ∷ found_from c (suc k) (columns_of ts)) (found_from c (suc k) (columns_of ts)))
    go true p e = λ i. sym p i ∷ e i
    go false p e = e

module _ (row : ℕ → List Term) where
  -- the rows' columns and numbers begin where the rows do
  pub start_columns : (r : ℕ) → start_of (through columns_of row) r ≡ start_of row r
  unfolding start_of
  start_columns r = ap length (sym (columns_rows row r)) ∙ length_columns (rows row r)

  pub start_numbers : (r : ℕ) → start_of (through numbers_of row) r ≡ start_of row r
  unfolding start_of
  start_numbers r = ap length (sym (numbers_rows row r)) ∙ length_numbers (rows row r)

  module _ (n r j i : ℕ) (e : i ≡ start_of row r + j) (h : r < n) (k : j < length (row r)) where
    -- a row's columns and numbers among those of all rows
    pub column_place : (d : ℕ) → get_or (columns_of (rows row n)) i d ≡ get_or (columns_of (row r)) j d
    unfolding start_of
    column_place d =
        let q : i ≡ start_of (through columns_of row) r + j = omega (arith, start_columns r) in
        rw (columns_rows row n, q) (rows_at (through columns_of row) n r j d h (omega (arith, length_columns (row r))))

    pub number_place : (d : C64) → get_or (numbers_of (rows row n)) i d ≡ get_or (numbers_of (row r)) j d
    unfolding start_of
    number_place d =
        let q : i ≡ start_of (through numbers_of row) r + j = omega (arith, start_numbers r) in
        rw (numbers_rows row n, q) (rows_at (through numbers_of row) n r j d h (omega (arith, length_numbers (row r))))

  -- the numbers of a turned row are the rows' own, read at the places that `turned_reads` lists
  pub turned_reads_lem : (n c : ℕ) (d : C64) → numbers_of (turned_row row n c) ≡ map (number_no row n d) (turned_reads (through columns_of row) n c)
  unfolding turned_row turned_reads
  turned_reads_lem n c d =
      numbers_rows (turned_part row c) n
      ∙ (rows_agree (through numbers_of (turned_part row c)) (through (map (number_no row n d)) (found_part (through columns_of row) c)) n each
      ∙ sym (rows_through (map (number_no row n d)) refl (map-append (number_no row n d)) (found_part (through columns_of row) c) n))
    where
      each : (r : ℕ) → r < n → numbers_of (turned_from c r (row r)) ≡ map (number_no row n d) (found_from c (start_of (through columns_of row) r) (columns_of (row r)))
      each r h =
          numbers_turned c r (row r)
          ∙ found_read c (number_no row n d) d (row r) (start_of (through columns_of row) r)
          (λ j i e b. number_place n r j i (omega (arith, start_columns r)) h b d)

-- ---- a transfer in lists

module _ {row : ℕ → List Term} {n s k : ℕ} {starts cs starts' cs' : List ℕ} {xs xs' : List Float} (t : LaidRows row n starts s cs xs k starts' cs' xs')
    (starts_room : s + n < length starts) (columns_room : k + start_of row n ≤ length cs) (numbers_room : 2 * (k + start_of row n) ≤ length xs) where
  module _ (r : ℕ) (h : r < n) (j i : ℕ) (e : i ≡ k + start_of row r + j) (o : j < length (row r)) where
    within : start_of row r + j < length (rows row n)
    unfolding start_of
    within = omega (arith, rows_room row n r h)

    column_at_lem : get_or cs' i 0 ≡ get_or (columns_of (row r)) j 0
    unfolding start_of
    column_at_lem =
        let q : i ≡ k + (start_of row r + j) = omega arith in
        let l : length (columns_of (rows row n)) ≡ length (rows row n) = length_columns (rows row n) in
        rw (t.columns_are, q, laid_at cs k (columns_of (rows row n)) (start_of row r + j) (omega (arith, within)) (omega arith))
        (column_place row n r j (start_of row r + j) refl h o 0)

    number_at_lem : number_at xs' i ≡ get_or (numbers_of (row r)) j no_number
    unfolding start_of
    number_at_lem =
        let q : i ≡ k + (start_of row r + j) = omega arith in
        let l : length (numbers_of (rows row n)) ≡ length (rows row n) = length_numbers (rows row n) in
        rw (t.numbers_are, q, laid_numbers_at xs k (numbers_of (rows row n)) (start_of row r + j) no_number (omega (arith, within)) (omega arith))
        (number_place row n r j (start_of row r + j) refl h o no_number)

  -- each row is read back from the lists into which the rows were laid
  pub stored_is : (r : ℕ) → r < n → stored_row starts' s cs' xs' k r ≡ row r
  unfolding stored_row
  stored_is r h =
      let a : get_or starts' (s + r) 0 ≡ start_of row r = starts_laid_lem row n starts s t.starts_are starts_room r (omega arith) in
      let q : s + r + 1 ≡ s + suc r = omega arith in
      let m : start_of row (suc r) - start_of row r ≡ length (row r) = start_more row r in
      rw (q, a, starts_laid_lem row n starts s t.starts_are starts_room (suc r) (omega arith), m) (terms_read no_number cs' xs' (row r) (k + start_of row r) (column_at_lem r h) (number_at_lem r h))

-- the transpose as it stands in lists: turned row c holds at r what row r holds at c
pub stored_condition : (row : ℕ → List Term) (n : ℕ) {m s k : ℕ} {starts cs starts' cs' : List ℕ} {xs xs' : List Float}
    → LaidRows (turned_row row n) m starts s cs xs k starts' cs' xs'
    → s + m < length starts
    → k + start_of (turned_row row n) m ≤ length cs
    → 2 * (k + start_of (turned_row row n) m) ≤ length xs
    → (c r : ℕ)
    → c < m
    → r < n
    → weights_at r (stored_row starts' s cs' xs' k c) ≡ weights_at c (row r)
stored_condition row n t p q o c r h b = rw (stored_is t p q o c h) (first_condition row n c r b)

-- ---- the columns of a turned row are the rows that name it

from_in_lem : (c r k : ℕ) (ts : List Term) → In k (columns_of (turned_from c r ts)) → (k ≡ r) × In c (columns_of ts)
unfolding turned_from columns_of
from_in_lem c r k [] i = elim i [ ]
from_in_lem c r k (t ∷ ts) i = go (eqb t.column c) refl i (from_in_lem c r k ts)
  where
    go : (b : Bool) → eqb t.column c ≡ b → In k (columns_of (cond b (record { column = r; number = t.number } ∷ turned_from c r ts) (turned_from c r ts)))
        → (In k (columns_of (turned_from c r ts)) → (k ≡ r) × In c (columns_of ts)) → (k ≡ r) × In c (t.column ∷ columns_of ts)
    go true e (inl p) ih = (p, inl (sym (eqb-true t.column c e)))
    go true e (inr j) ih = let w = ih j in (w.0, inr w.1)
    go false e j ih = let w = ih j in (w.0, inr w.1)

in_from : (c r : ℕ) (ts : List Term) → In c (columns_of ts) → In r (columns_of (turned_from c r ts))
unfolding turned_from columns_of
in_from c r [] x' = elim x' [ ]
in_from c r (t ∷ ts) (inl e) = rw (eq-eqb t.column c (sym e)) (inl refl)
in_from c r (t ∷ ts) (inr i) = go (eqb t.column c) (in_from c r ts i)
  where
    go : (b : Bool) → In r (columns_of (turned_from c r ts)) → In r (columns_of (cond b (record { column = r; number = t.number } ∷ turned_from c r ts) (turned_from c r ts)))
    go true j = inr j
    go false j = j

pub turned_columns_lem : (row : ℕ → List Term) (n c r : ℕ) → In r (columns_of (turned_row row n c)) ↔ ((r < n) × In c (columns_of (row r)))
unfolding turned_row
turned_columns_lem row n c r = (
  (λ i.
      let w = rows_in_lem (turned_part row c) n r i in
      let v = from_in_lem c w.0 r (row w.0) w.2 in
      (subst (λ (k : ℕ). k < n) (sym v.0) w.1, subst (λ (k : ℕ). In c (columns_of (row k))) (sym v.0) v.1)),
  (λ h. in_rows (turned_part row c) n r r h.0 (in_from c r (row r) h.1)),
)
