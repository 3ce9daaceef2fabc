-- Laws of the numbers' lists and rows: sums by column, lists of zeros, terms and rows that stand in lists, and what leaves them as they are.
-- Assumes nothing.
use Prim.Native.Nat.{ℕ, zero, suc, ◌+◌, ◌-◌, ◌*◌, ◌/◌, ◌<◌, ◌≤◌}
use native.Mathlib.Decide.{ℕ_discrete}
use native.Mathlib.Omega.{arith}
use mathlib.Core.Logic.{inl, inr}
use mathlib.Core.Path.{◌≡◌, refl, sym, ap, subst, ◌∙◌}
use mathlib.Core.Bool.{Bool, true, false, ◌||◌, cond}
use mathlib.Core.List.{List, [], ◌∷◌, ◌++◌}
use lib.Dec.{eqb}
use lib.ListN.{length, get_or, replicate}
use lib.Ieee.{Float, nan}
use Rattle.numbers.specs.declared.C64.{C64}
use Rattle.numbers.specs.Complex.{zero_f, zero_number, sum}
use Rattle.numbers.specs.Places.{places, number_at}
use Rattle.numbers.specs.Lists.{In, each, rows, laid_by, laid, laid_numbers, contains, start_of}
use Rattle.numbers.specs.Terms.{Term, columns_of, terms_in, stored_row, Stored}
use Rattle.numbers.specs.Collect.{summed_at}
use Rattle.numbers.proofs.TabulateLaws.{is_replicate}
use Rattle.numbers.proofs.TermLaws.{length_in}
use Rattle.numbers.proofs.ListLaws.{laid_behind_laid, laid_length, laid_before, laid_numbers_length, laid_numbers_before, rows_room, rows_at}
use Rattle.numbers.proofs.TransposeLaws.{row_of}

-- ---- sums by column

pub summed_append : (d : ℕ) (s : C64) (ts us : List Term) → summed_at d s (ts ++ us) ≡ summed_at d (summed_at d s ts) us
unfolding summed_at
summed_append d s [] us = refl
summed_append d s (t ∷ ts) us = summed_append d (cond (eqb t.column d) (sum s t.number) s) ts us

-- at a column that no term names the sum stays
pub summed_none : (d : ℕ) (s : C64) (ts : List Term) → contains d (columns_of ts) ≡ false → summed_at d s ts ≡ s
unfolding summed_at columns_of contains
summed_none d s [] h = refl
summed_none d s (t ∷ ts) h = go (eqb t.column d) h (summed_none d s ts)
  where
    go : (b : Bool) → (b || contains d (columns_of ts)) ≡ false → (contains d (columns_of ts) ≡ false → summed_at d s ts ≡ s)
        → summed_at d (cond b (sum s t.number) s) ts ≡ s
    go true e k = absurd (let z : ◌≡◌ {A = ℕ} 0 1 = cc in omega arith)
    go false e k = k e

-- ---- lists of doubles

pub places_same : (xs ys : List Float) → length ys ≡ length xs → places ys ≡ places xs
unfolding places
places_same xs ys e = ap (λ (n : ℕ). n / 2) e

pub places_of : (xs : List Float) (n : ℕ) → length xs ≡ 2 * n → places xs ≡ n
unfolding places
places_of xs n e = omega arith

-- of zeros
module _ (n m : ℕ) (even : m ≡ 2 * n) where
  pub zeros_are : (xs : List Float) → length xs ≡ m → ((d : ℕ) → d < n → number_at xs d ≡ zero_number) → xs ≡ replicate m zero_f
  unfolding number_at zero_number
  zeros_are xs long h = is_replicate m zero_f nan xs long (λ i b. at i b (ℕ_discrete i (2 * (i / 2))))
    where
      at : (i : ℕ) → i < m → Dec (i ≡ 2 * (i / 2)) → get_or xs i nan ≡ zero_f
      at i b (yes e) = ap (λ (j : ℕ). get_or xs j nan) e ∙ ap (λ (v : C64). v.re) (h (i / 2) (omega arith))
      at i b (no e) =
          let f : i ≡ 2 * (i / 2) + 1 = omega arith in
          ap (λ (j : ℕ). get_or xs j nan) f ∙ ap (λ (v : C64). v.im) (h (i / 2) (omega arith))

-- a value laid behind the others
pub laid_more : {L A : Type 0} (put : L → ℕ → A → L) (xs : L) (k : ℕ) (vs : List A) (v : A) (j : ℕ) → j ≡ k + length vs
    → laid_by put xs k (vs ++ (v ∷ [])) ≡ put (laid_by put xs k vs) j v
unfolding laid_by
laid_more put xs k vs v j e = laid_behind_laid put xs k vs (v ∷ []) j e

-- ---- rows one behind another

module _ {A : Type 0} (row : ℕ → List A) where
  pub start_room : (n r : ℕ) → r < n → start_of row r + length (row r) ≤ start_of row n
  unfolding start_of
  start_room n r h = rows_room row n r h

  pub start_at : (n r j : ℕ) (d : A) → r < n → j < length (row r) → get_or (rows row n) (start_of row r + j) d ≡ get_or (row r) j d
  unfolding start_of
  start_at n r j d h i = rows_at row n r j d h i

-- ---- members

-- a member stands at a place
pub record PlaceOf (c : ℕ) (xs : List ℕ) : Type 0 where
  pub place : ℕ
  pub low : place < length xs
  pub is : get_or xs place 0 ≡ c

pub place_of : (c : ℕ) (xs : List ℕ) → In c xs → PlaceOf c xs
place_of c [] x' = elim x' [ ]
place_of c (x ∷ xs) (inl e) = record { place = 0; low = omega arith; is = sym e }
place_of c (x ∷ xs) (inr i) = let p = place_of c xs i in record { place = suc p.place; low = omega (arith, p.low); is = p.is }

-- ---- terms in lists

module _ {A : Type 0} (f g : Term → List A) where
  -- what agrees for the columns of a list agrees for its terms
  pub each_agree : (ts : List Term) → ((t : Term) → In t.column (columns_of ts) → f t ≡ g t) → each f ts ≡ each g ts
  unfolding each columns_of
  each_agree [] h = refl
  each_agree (t ∷ ts) h =
      let p : f t ≡ g t = h t (inl refl) in
      let q : each f ts ≡ each g ts = each_agree ts (λ u o. h u (inr o)) in
      λ i. p i ++ q i

-- the column at a place is one of the terms'
pub in_terms : (cs : List ℕ) (xs : List Float) (k n q : ℕ) → q < n → In (get_or cs (k + q) 0) (columns_of (terms_in cs xs k n))
unfolding terms_in columns_of
in_terms cs xs k zero q h = absurd (omega arith)
in_terms cs xs k (suc n) zero h = let e : k + 0 ≡ k = omega arith in rw e (inl refl)
in_terms cs xs k (suc n) (suc q) h = let e : k + suc q ≡ suc k + q = omega arith in subst (λ (j : ℕ). In (get_or cs j 0) (columns_of (terms_in cs xs k (suc n)))) (sym e) (inr (in_terms cs xs (suc k) n q (omega arith)))

-- columns below m
pub terms_low : (cs : List ℕ) (xs : List Float) (k n m : ℕ) → ((j : ℕ) → k ≤ j → j < k + n → get_or cs j 0 < m)
    → (d : ℕ) → In d (columns_of (terms_in cs xs k n)) → d < m
unfolding terms_in columns_of
terms_low cs xs k zero m h d x'' = elim x'' [ ]
terms_low cs xs k (suc n) m h d (inl e) = omega (arith, h k (omega arith) (omega arith))
terms_low cs xs k (suc n) m h d (inr i) = terms_low cs xs (suc k) n m (λ j a b. h j (omega arith) (omega arith)) d i

-- lists that agree up to the terms' end have the same terms
pub terms_agree : (cs ds : List ℕ) (xs ys : List Float) (k n : ℕ) → ((j : ℕ) → j < k + n → get_or cs j 0 ≡ get_or ds j 0)
    → ((j : ℕ) → j < k + n → number_at xs j ≡ number_at ys j) → terms_in cs xs k n ≡ terms_in ds ys k n
unfolding terms_in
terms_agree cs ds xs ys k zero g h = refl
terms_agree cs ds xs ys k (suc n) g h =
    let o : get_or cs k 0 ≡ get_or ds k 0 = g k (omega arith) in
    let p : number_at xs k ≡ number_at ys k = h k (omega arith) in
    let q : terms_in cs xs (suc k) n ≡ terms_in ds ys (suc k) n = terms_agree cs ds xs ys (suc k) n (λ j b. g j (omega arith)) (λ j b. h j (omega arith)) in
    λ i. record { column = o i; number = p i } ∷ q i

-- ---- rows that stand in lists

pub stored_size : (starts : List ℕ) (s : ℕ) (cs : List ℕ) (xs : List Float) (k r : ℕ)
    → length (stored_row starts s cs xs k r) ≡ get_or starts (s + r + 1) 0 - get_or starts (s + r) 0
unfolding stored_row
stored_size starts s cs xs k r = length_in cs xs (k + get_or starts (s + r) 0) (get_or starts (s + r + 1) 0 - get_or starts (s + r) 0)

module _ {starts : List ℕ} {s : ℕ} {cs : List ℕ} {xs : List Float} {k n m : ℕ} (u : Stored starts s cs xs k n m) where
  stored_most : (r : ℕ) → r < n → get_or starts (s + r + 1) 0 ≤ get_or starts (s + n) 0
  stored_most r h = (row_of u r h).most

  -- a row's columns are below m
  pub stored_low : (r : ℕ) → r < n → (d : ℕ) → In d (columns_of (stored_row starts s cs xs k r)) → d < m
  unfolding stored_row
  stored_low r h =
      terms_low cs xs (k + get_or starts (s + r) 0) (get_or starts (s + r + 1) 0 - get_or starts (s + r) 0) m
      (λ j a b.
      let e : k + (j - k) ≡ j = omega arith in
      let w : get_or cs (k + (j - k)) 0 < m = u.columns_low (j - k) (omega (arith, stored_most r h, u.rise r h)) in
      rw e at w)

  -- numbers that are laid behind the rows leave them as they are
  pub stored_kept : (o : ℕ) (vs : List C64) → k + get_or starts (s + n) 0 ≤ o → (r : ℕ) → r < n
      → stored_row starts s cs (laid_numbers xs o vs) k r ≡ stored_row starts s cs xs k r
  unfolding stored_row
  stored_kept o vs h r b =
      terms_agree cs cs (laid_numbers xs o vs) xs (k + get_or starts (s + r) 0) (get_or starts (s + r + 1) 0 - get_or starts (s + r) 0) (λ j i. refl)
      (λ j i. laid_numbers_before xs o vs j (omega (arith, stored_most r b, u.rise r b)))

  -- and they still stand in the lists
  pub stored_laid : (o : ℕ) (vs : List C64) → Stored starts s cs (laid_numbers xs o vs) k n m
  stored_laid o vs =
      record {
        first = u.first;
        rise = u.rise;
        starts_room = u.starts_room;
        columns_room = u.columns_room;
        numbers_room = omega (arith, laid_numbers_length xs o vs, u.numbers_room);
        columns_low = u.columns_low;
        rows_few = u.rows_few;
        columns_few = u.columns_few;
        all_few = u.all_few;
        starts_low = u.starts_low;
        low = u.low;
      }

  -- so do starts and columns that are laid behind them
  module _ (a b : ℕ) (vs ws : List ℕ) (behind : s + n < a) (after : k + get_or starts (s + n) 0 ≤ b) where
    start_before : (r : ℕ) → r ≤ n → get_or (laid starts a vs) (s + r) 0 ≡ get_or starts (s + r) 0
    start_before r h = laid_before starts a vs (s + r) (omega arith)

    end_before : (r : ℕ) → r < n → get_or (laid starts a vs) (s + r + 1) 0 ≡ get_or starts (s + r + 1) 0
    end_before r h = laid_before starts a vs (s + r + 1) (omega arith)

    pub last_before : get_or (laid starts a vs) (s + n) 0 ≡ get_or starts (s + n) 0
    last_before = start_before n (omega arith)

    pub stored_before : Stored (laid starts a vs) s (laid cs b ws) xs k n m
    stored_before =
        record {
          first = laid_before starts a vs s (omega arith) ∙ u.first;
          rise = λ r h. omega (arith, start_before r (omega arith), end_before r h, u.rise r h);
          starts_room = omega (arith, laid_length starts a vs, u.starts_room);
          columns_room = omega (arith, laid_length cs b ws, last_before, u.columns_room);
          numbers_room = omega (arith, last_before, u.numbers_room);
          columns_low = λ q h. rw (laid_before cs b ws (k + q) (omega (arith, last_before))) (u.columns_low q (omega (arith, last_before)));
          rows_few = u.rows_few;
          columns_few = u.columns_few;
          all_few = omega (arith, last_before, u.all_few);
          starts_low = u.starts_low;
          low = u.low;
        }

    pub row_before : (r : ℕ) → r < n → stored_row (laid starts a vs) s (laid cs b ws) xs k r ≡ stored_row starts s cs xs k r
    unfolding stored_row
    row_before r h =
        rw (start_before r (omega arith), end_before r h)
        (terms_agree (laid cs b ws) cs xs xs (k + get_or starts (s + r) 0) (get_or starts (s + r + 1) 0 - get_or starts (s + r) 0)
        (λ j i. laid_before cs b ws j (omega (arith, stored_most r h, u.rise r h))) (λ j i. refl))
