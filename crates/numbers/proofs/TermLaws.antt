-- Lists of terms: how they lie in lent lists, what is read back from there, and what `each` does term by term.
-- Assumes nothing.
use Prim.Native.Nat.{ℕ, zero, suc, ◌+◌, ◌*◌, ◌<◌, ◌≤◌}
use mathlib.Core.Path.{◌≡◌, refl, sym, ap, ◌∙◌}
use mathlib.Core.List.{List, [], ◌∷◌, ◌++◌, append_assoc, append-nil}
use native.Mathlib.Omega.{arith}
use native.Mathlib.Numerals.{add-one}
use native.Mathlib.Nat.{mul-suc}
use lib.ListN.{length, get_or, set, take, drop, length-append}
use lib.Seq.{drop-cons}
use lib.Ieee.{Float}
use Rattle.numbers.specs.declared.C64.{C64}
use Rattle.numbers.specs.Complex.{no_number}
use Rattle.numbers.specs.Places.{number_at, set_number}
use Rattle.numbers.specs.Lists.{each, laid_by, laid, laid_numbers}
use Rattle.numbers.specs.Terms.{Term, columns_of, numbers_of, Wrote, terms_in, Below}
use Rattle.numbers.proofs.EachLaws.{columns_append, numbers_append, length_columns, length_numbers}
use Rattle.numbers.proofs.ListLaws.{laid_behind_laid, laid_length, laid_at, laid_numbers_length, laid_numbers_at}

-- ---- what has been written: nothing, one term, two lists of terms; the lists keep their lengths

pub wrote_none : {cs : List ℕ} {xs : List Float} {k : ℕ} → Wrote cs xs k [] cs xs k
unfolding laid_by columns_of numbers_of
wrote_none = record { columns = refl; numbers = refl; next = omega arith }

-- one term, stored where the columns have the place
pub wrote_one : {cs cs' : List ℕ} {xs xs' : List Float} {k c : ℕ} {v : C64} {r : ℕ}
    → cs' ≡ set cs k c → xs' ≡ set_number xs k v → r ≡ k + 1
    → Wrote cs xs k (record { column = c; number = v } ∷ []) cs' xs' r
unfolding laid_by columns_of numbers_of
wrote_one p q e = record { columns = p; numbers = q; next = e }

pub wrote_append : {cs cs' cs'' : List ℕ} {xs xs' xs'' : List Float} {k r s : ℕ} {ts us : List Term}
    → Wrote cs xs k ts cs' xs' r → Wrote cs' xs' r us cs'' xs'' s → Wrote cs xs k (ts ++ us) cs'' xs'' s
wrote_append {cs} {cs'} {cs''} {xs} {xs'} {xs''} {k} {r} {s} {ts} {us} v w =
    record {
      columns =
          w.columns
          ∙ ap (λ (l : List ℕ). laid l r (columns_of us)) v.columns
          ∙ sym (rw (columns_append ts us) (laid_behind_laid set cs k (columns_of ts) (columns_of us) r (omega (arith, v.next, length_columns ts))));
      numbers =
          w.numbers
          ∙ ap (λ (l : List Float). laid_numbers l r (numbers_of us)) v.numbers
          ∙ sym (rw (numbers_append ts us) (laid_behind_laid set_number xs k (numbers_of ts) (numbers_of us) r (omega (arith, v.next, length_numbers ts))));
      next = omega (arith, length-append ts us);
    }

pub wrote_columns : {cs cs' : List ℕ} {xs xs' : List Float} {k r : ℕ} {ts : List Term} → Wrote cs xs k ts cs' xs' r → length cs' ≡ length cs
wrote_columns {cs} {cs'} {xs} {xs'} {k} {r} {ts} w = ap length w.columns ∙ laid_length cs k (columns_of ts)

pub wrote_numbers : {cs cs' : List ℕ} {xs xs' : List Float} {k r : ℕ} {ts : List Term} → Wrote cs xs k ts cs' xs' r → length xs' ≡ length xs
wrote_numbers {cs} {cs'} {xs} {xs'} {k} {r} {ts} w = ap length w.numbers ∙ laid_numbers_length xs k (numbers_of ts)

pub wrote_most : {cs cs' : List ℕ} {xs xs' : List Float} {k r b : ℕ} {ts : List Term} → Wrote cs xs k ts cs' xs' r → length ts ≤ b → r ≤ k + b
wrote_most w h = omega (arith, w.next)

-- ---- terms in lists

pub length_in : (cs : List ℕ) (xs : List Float) (k n : ℕ) → length (terms_in cs xs k n) ≡ n
unfolding terms_in
length_in cs xs k zero = refl
length_in cs xs k (suc n) = ap suc (length_in cs xs (suc k) n)

-- one more at the end, at j
pub in_more : (cs : List ℕ) (xs : List Float) (k n j : ℕ) → j ≡ k + n
    → terms_in cs xs k (suc n) ≡ terms_in cs xs k n ++ (record { column = get_or cs j 0; number = number_at xs j } ∷ [])
unfolding terms_in
in_more cs xs k zero j e = let d : k ≡ j = omega arith in rw d
in_more cs xs k (suc n) j e = rw (in_more cs xs (suc k) n j (omega arith))

-- terms whose columns and numbers stand in two lists from place k on
pub terms_read : (d : C64) (cs : List ℕ) (xs : List Float) (ts : List Term) (k : ℕ)
    → ((j i : ℕ) → i ≡ k + j → j < length ts → get_or cs i 0 ≡ get_or (columns_of ts) j 0)
    → ((j i : ℕ) → i ≡ k + j → j < length ts → number_at xs i ≡ get_or (numbers_of ts) j d)
    → terms_in cs xs k (length ts) ≡ ts
unfolding terms_in columns_of numbers_of
terms_read d cs xs [] k p q = refl
terms_read d cs xs (t ∷ ts) k p q =
    let c : get_or cs k 0 ≡ t.column = p 0 k (omega arith) (omega arith) in
    let v : number_at xs k ≡ t.number = q 0 k (omega arith) (omega arith) in
    let rest : terms_in cs xs (suc k) (length ts) ≡ ts =
    terms_read d cs xs ts (suc k) (λ j i e b. p (suc j) i (omega arith) (omega arith)) (λ j i e b. q (suc j) i (omega arith) (omega arith)) in
    λ i. record { column = c i; number = v i } ∷ rest i

-- what was laid into lists with room is read back
pub laid_terms : (cs : List ℕ) (xs : List Float) (k : ℕ) (ts : List Term) → k + length ts ≤ length cs → 2 * (k + length ts) ≤ length xs
    → terms_in (laid cs k (columns_of ts)) (laid_numbers xs k (numbers_of ts)) k (length ts) ≡ ts
laid_terms cs xs k ts h j =
    let a : length (columns_of ts) ≡ length ts = length_columns ts in
    let b : length (numbers_of ts) ≡ length ts = length_numbers ts in
    terms_read no_number (laid cs k (columns_of ts)) (laid_numbers xs k (numbers_of ts)) ts k
    (λ m i e l. rw e (laid_at cs k (columns_of ts) m (omega arith) (omega arith)))
    (λ m i e l. rw e (laid_numbers_at xs k (numbers_of ts) m no_number (omega arith) (omega arith)))

-- the first n places of two lists hold the terms, at most b of them
pub record Holds (b : ℕ) (ts : List Term) (cs : List ℕ) (xs : List Float) (n : ℕ) : Type 0 where
  pub terms : terms_in cs xs 0 n ≡ ts
  pub most : n ≤ b
  pub columns_room : n ≤ length cs
  pub numbers_room : 2 * n ≤ length xs

pub read_back : {cs cs' : List ℕ} {xs xs' : List Float} {n : ℕ} {ts : List Term} (b : ℕ)
    → Wrote cs xs 0 ts cs' xs' n → length ts ≤ b → b ≤ length cs → 2 * b ≤ length xs → Holds b ts cs' xs' n
read_back {cs} {cs'} {xs} {xs'} {n} {ts} b w m h j =
    let e : n ≡ length ts = omega (arith, w.next) in
    record {
      terms = (λ i. terms_in (w.columns i) (w.numbers i) 0 (e i)) ∙ laid_terms cs xs 0 ts (omega arith) (omega arith);
      most = omega arith;
      columns_room = omega (arith, wrote_columns w);
      numbers_room = omega (arith, wrote_numbers w);
    }

-- ---- columns below a bound

pub data Low (b : ℕ) : List Term → Type 0 where
  none : Low b []
  more : {t : Term} {ts : List Term} → t.column < b → Low b ts → Low b (t ∷ ts)

pub low_append : {b : ℕ} {ts us : List Term} → Low b ts → Low b us → Low b (ts ++ us)
low_append none v = v
low_append (more h u) v = more h (low_append u v)

low_at : (b : ℕ) (cs : List ℕ) (xs : List Float) (k n m j : ℕ) → Low b (terms_in cs xs k n) → j ≡ k + m → m < n → get_or cs j 0 < b
unfolding terms_in
low_at b cs xs k zero m j u e h = omega arith
low_at b cs xs k (suc n) zero j (more p u) e h = let d : k ≡ j = omega arith in rw d at p
low_at b cs xs k (suc n) (suc m) j (more p u) e h = low_at b cs xs (suc k) n m j u (omega arith) (omega arith)

pub low_below : {u b n : ℕ} {cs : List ℕ} {xs : List Float} {ts : List Term} → Holds b ts cs xs n → Low u ts → Below u cs n
low_below {u} {b} {n} {cs} {xs} {ts} e v = record { low = λ m h. low_at u cs xs 0 n m m (rw e.terms v) (omega arith) h }

columns_from_lem : (cs : List ℕ) (xs : List Float) (k n : ℕ) → k + n ≤ length cs → columns_of (terms_in cs xs k n) ≡ take n (drop k cs)
unfolding terms_in columns_of
columns_from_lem cs xs k zero h = refl
columns_from_lem cs xs k (suc n) h = rw (drop-cons cs k 0 (omega arith), columns_from_lem cs xs (suc k) n (omega arith))

-- the columns that the lists hold
pub columns_held : {b n : ℕ} {cs : List ℕ} {xs : List Float} {ts : List Term} → Holds b ts cs xs n → take n cs ≡ columns_of ts
columns_held {b} {n} {cs} {xs} {ts} e = sym (columns_from_lem cs xs 0 n (omega arith)) ∙ ap columns_of e.terms

-- ---- each

pub each_append : {A B : Type 0} (f : A → List B) (ts us : List A) → each f (ts ++ us) ≡ each f ts ++ each f us
unfolding each
each_append f [] us = refl
each_append f (t ∷ ts) us = rw (each_append f ts us) (sym (append_assoc (f t) (each f ts) (each f us)))

pub each_one : {A B : Type 0} (f : A → List B) (t : A) → each f (t ∷ []) ≡ f t
unfolding each
each_one f t = append-nil (f t)

pub each_most : {A B : Type 0} (f : A → List B) (b : ℕ) → ((t : A) → length (f t) ≤ b) → (ts : List A) → length (each f ts) ≤ b * length ts
unfolding each
each_most f b h [] = omega arith
each_most f b h (t ∷ ts) =
    let ih : length (each f ts) ≤ b * length ts = each_most f b h ts in
    omega (arith, h t, length-append (f t) (each f ts), mul-suc b (length ts))

-- columns below a bound from columns below a bound
pub low_each : {b u : ℕ} (f : Term → List Term) → ((t : Term) → t.column < b → Low u (f t)) → {ts : List Term} → Low b ts → Low u (each f ts)
unfolding each
low_each f h none = none
low_each f h (more {t = t} p v) = low_append (h t p) (low_each f h v)

-- ---- a loop that lays what f gives for each of the first n terms of two lists, m of them done

pub record Laying (f : Term → List Term) (ds : List ℕ) (ys : List Float) (n from : ℕ) (cs₀ : List ℕ) (xs₀ : List Float) (cs : List ℕ) (xs : List Float) (k m : ℕ) : Type 0 where
  pub high : m ≤ n
  pub wrote : Wrote cs₀ xs₀ from (each f (terms_in ds ys 0 m)) cs xs k
  pub same_columns : length cs ≡ length cs₀
  pub same_numbers : length xs ≡ length xs₀

module _ {f : Term → List Term} {ds : List ℕ} {ys : List Float} {n from : ℕ} where
  pub laying_start : {cs : List ℕ} {xs : List Float} → Laying f ds ys n from cs xs cs xs from 0
  unfolding terms_in each
  laying_start = record { high = omega arith; wrote = wrote_none; same_columns = refl; same_numbers = refl }

  pub laying_turn : {cs₀ cs cs' : List ℕ} {xs₀ xs xs' : List Float} {k k' m : ℕ} {v : C64}
      → Laying f ds ys n from cs₀ xs₀ cs xs k m → m < n → v ≡ number_at ys m
      → Wrote cs xs k (f (record { column = get_or ds m 0; number = v })) cs' xs' k'
      → Laying f ds ys n from cs₀ xs₀ cs' xs' k' (m + 1)
  laying_turn {cs₀} {cs} {cs'} {xs₀} {xs} {xs'} {k} {k'} {m} {v} u h e w =
      let t : Term = record { column = get_or ds m 0; number = number_at ys m } in
      let w' : Wrote cs xs k (f t) cs' xs' k' = rw e at w in
      let d : each f (terms_in ds ys 0 (m + 1)) ≡ each f (terms_in ds ys 0 m) ++ f t =
      rw (add-one m, in_more ds ys 0 m m (omega arith), each_append f (terms_in ds ys 0 m) (t ∷ []), each_one f t) in
      let a : Wrote cs₀ xs₀ from (each f (terms_in ds ys 0 (m + 1))) cs' xs' k' = rw d (wrote_append u.wrote w') in
      record { high = omega arith; wrote = a; same_columns = wrote_columns a; same_numbers = wrote_numbers a }

  pub laying_end : {cs₀ cs : List ℕ} {xs₀ xs : List Float} {k m : ℕ}
      → Laying f ds ys n from cs₀ xs₀ cs xs k m → n ≤ m → Wrote cs₀ xs₀ from (each f (terms_in ds ys 0 n)) cs xs k
  laying_end {cs₀} {cs} {xs₀} {xs} {k} {m} u h = let e : m ≡ n = omega arith in rw e at u.wrote

  pub laying_most : {cs₀ cs : List ℕ} {xs₀ xs : List Float} {k m b : ℕ}
      → Laying f ds ys n from cs₀ xs₀ cs xs k m → ((t : Term) → length (f t) ≤ b) → k ≤ from + b * m
  laying_most {cs₀} {cs} {xs₀} {xs} {k} {m} {b} u h =
      let e : length (each f (terms_in ds ys 0 m)) ≤ b * m = rw (length_in ds ys 0 m) at (each_most f b h (terms_in ds ys 0 m)) in
      wrote_most u.wrote e
