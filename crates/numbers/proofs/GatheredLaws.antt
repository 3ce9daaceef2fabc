-- Laws of lists of numbers and of rows of terms: the columns of collected rows, terms that keep their columns, lists that rise, numbers that are read.
-- Assumes nothing.
use Prim.Native.Nat.{ℕ, zero, suc, ◌-◌, ◌*◌, ◌+◌, ◌<◌}
use mathlib.Core.Path.{◌≡◌, refl, sym, ap, ◌∙◌}
use mathlib.Core.Logic.{◌⊎◌, inl, inr, ⊎_elim}
use mathlib.Core.Bool.{true, ◌||◌, ◌&&◌, and_assoc}
use mathlib.Core.List.{List, [], ◌∷◌, ◌++◌}
use native.Mathlib.Omega.{arith}
use native.Mathlib.Nat.{le_refl}
use borrow.Author.Tests.{eq-eqb, eqb-true}
use lib.Dec.{eqb}
use lib.ListN.{length, take, drop, length-drop}
use lib.Seq.{get_or-drop, take_all}
use lib.Ieee.{Float}
use Rattle.std.proofs.lemmas.Bool.{or_cases, or_left, or_right}
use Rattle.numbers.specs.declared.C64.{C64}
use Rattle.numbers.specs.Complex.{finite}
use Rattle.numbers.specs.Places.{number_at}
use Rattle.numbers.specs.Lists.{In, Rises, tabulate, each, places_in, all_finite, read_from, contains}
use Rattle.numbers.specs.Terms.{Term, columns_of, numbers_of, terms_in}
use Rattle.numbers.specs.Collect.{inserted, collected}
use Rattle.numbers.proofs.Laws.{parts}
use Rattle.numbers.proofs.EachLaws.{columns_append}
use Rattle.numbers.proofs.TermLaws.{Holds}
use Rattle.numbers.proofs.MemberLaws.{Span, contains_in, in_contains}
use Rattle.numbers.proofs.CollectLaws.{inserted_columns_same, collected_columns_same, From, none, more}

-- ---- columns of terms

-- terms that give one term each, at the same column
pub columns_kept : (f : Term → List Term) → ((t : Term) → columns_of (f t) ≡ t.column ∷ []) → (ts : List Term) → columns_of (each f ts) ≡ columns_of ts
unfolding each columns_of
columns_kept f h [] = refl
columns_kept f h (t ∷ ts) = columns_append (f t) (each f ts) ∙ (λ i. h t i ++ columns_kept f h ts i)

-- ---- members of a collected row

module _ (first : C64 → C64) where
  -- a term is put into a row
  pub inserted_in : (t : Term) (us : List Term) (c : ℕ) → In c (columns_of (inserted first t us)) → (c ≡ t.column) ⊎ In c (columns_of us)
  inserted_in t us c i =
      ⊎_elim (λ h. inr (contains_in c (columns_of us) h)) (λ h. inl (sym (eqb-true t.column c h)))
      (or_cases (contains c (columns_of us)) (eqb t.column c)
      (sym (inserted_columns_same first c t us) ∙ in_contains c (columns_of (inserted first t us)) i))

  pub in_inserted : (t : Term) (us : List Term) (c : ℕ) → (c ≡ t.column) ⊎ In c (columns_of us) → In c (columns_of (inserted first t us))
  in_inserted t us c h = contains_in c (columns_of (inserted first t us)) (inserted_columns_same first c t us ∙ go h)
    where
      go : (c ≡ t.column) ⊎ In c (columns_of us) → (contains c (columns_of us) || eqb t.column c) ≡ true
      go (inl e) = or_right (contains c (columns_of us)) _ (eq-eqb t.column c (sym e))
      go (inr i) = or_left _ (eqb t.column c) (in_contains c (columns_of us) i)

  -- terms are put into a row one after another
  pub collected_in : (row ts : List Term) (c : ℕ) → In c (columns_of (collected first row ts)) → In c (columns_of row) ⊎ In c (columns_of ts)
  collected_in row ts c i =
      ⊎_elim (λ h. inl (contains_in c (columns_of row) h)) (λ h. inr (contains_in c (columns_of ts) h))
      (or_cases (contains c (columns_of row)) (contains c (columns_of ts))
      (sym (collected_columns_same first c row ts) ∙ in_contains c (columns_of (collected first row ts)) i))

  pub in_collected : (row ts : List Term) (c : ℕ) → In c (columns_of row) ⊎ In c (columns_of ts) → In c (columns_of (collected first row ts))
  in_collected row ts c h = contains_in c (columns_of (collected first row ts)) (collected_columns_same first c row ts ∙ go h)
    where
      go : In c (columns_of row) ⊎ In c (columns_of ts) → (contains c (columns_of row) || contains c (columns_of ts)) ≡ true
      go (inl i) = or_left _ (contains c (columns_of ts)) (in_contains c (columns_of row) i)
      go (inr i) = or_right (contains c (columns_of row)) _ (in_contains c (columns_of ts) i)

  -- terms alone
  pub gathered_in : (ts : List Term) (c : ℕ) → In c (columns_of (collected first [] ts)) → In c (columns_of ts)
  unfolding columns_of
  gathered_in ts c i = ⊎_elim (λ n. absurd n) (λ j. j) (collected_in [] ts c i)

  pub in_gathered : (ts : List Term) (c : ℕ) → In c (columns_of ts) → In c (columns_of (collected first [] ts))
  in_gathered ts c i = in_collected [] ts c (inr i)

-- ---- lists that rise

-- what rises and lies below e
pub rises_span : (l : List ℕ) (e : ℕ) → Rises l → ((c : ℕ) → In c l → c < e) → Span 0 e l
unfolding Rises
rises_span [] e r h = omega arith
rises_span (v ∷ l) e r h = (omega arith, go v l r (λ c i. h c i))
  where
    go : (v : ℕ) (l : List ℕ) → Rises (v ∷ l) → ((c : ℕ) → In c (v ∷ l) → c < e) → Span (suc v) e l
    go v [] r h = h v (inl refl)
    go v (u ∷ l) r h = (r.0, go u l r.1 (λ c i. h c (inr i)))

-- columns that rise lie in a span
pub from_span : {b : ℕ} {ts : List Term} → From b ts → (e : ℕ) × Span b e (columns_of ts)
unfolding columns_of
from_span {b} none = (b, le_refl b)
from_span (more h u) = let s = from_span u in (s.0, (h, s.1))

-- ---- columns and numbers that are read

-- the part of a list from place `from` on, as a reader
pub read_part : (xs : List Float) (from : ℕ) → number_at (take (length xs - 2 * from) (drop (2 * from) xs)) ≡ read_from xs from
unfolding read_from number_at
read_part xs from =
    let whole : take (length xs - 2 * from) (drop (2 * from) xs) ≡ drop (2 * from) xs =
    take_all (length xs - 2 * from) (drop (2 * from) xs) (omega (arith, length-drop (2 * from) xs)) in
    rw whole (λ i. λ r. at r i)
  where
    at : (r : ℕ) → number_at (drop (2 * from) xs) r ≡ number_at xs (from + r)
    at r =
        let e : 2 * from + 2 * r ≡ 2 * (from + r) = omega arith in
        let d : 2 * from + (2 * r + 1) ≡ 2 * (from + r) + 1 = omega arith in
        parts (rw (get_or-drop, e)) (rw (get_or-drop, d))

pub columns_in_lem : (cs : List ℕ) (xs : List Float) (k n : ℕ) → columns_of (terms_in cs xs k n) ≡ places_in cs k n
unfolding columns_of terms_in tabulate
columns_in_lem cs xs k zero = refl
columns_in_lem cs xs k (suc n) = rw (columns_in_lem cs xs (suc k) n)

pub numbers_in_lem : (cs : List ℕ) (xs : List Float) (k n : ℕ) → numbers_of (terms_in cs xs k n) ≡ tabulate (number_at xs) n k
unfolding numbers_of terms_in tabulate
numbers_in_lem cs xs k zero = refl
numbers_in_lem cs xs k (suc n) = rw (numbers_in_lem cs xs (suc k) n)

-- as two lists hold the terms
pub places_held : {b n : ℕ} {cs : List ℕ} {xs : List Float} {ts : List Term} → Holds b ts cs xs n → places_in cs 0 n ≡ columns_of ts
places_held {b} {n} {cs} {xs} h = sym (columns_in_lem cs xs 0 n) ∙ ap columns_of h.terms

pub numbers_held : {b n : ℕ} {cs : List ℕ} {xs : List Float} {ts : List Term} → Holds b ts cs xs n → tabulate (number_at xs) n 0 ≡ numbers_of ts
numbers_held {b} {n} {cs} {xs} h = sym (numbers_in_lem cs xs 0 n) ∙ ap numbers_of h.terms

pub finite_append : (vs ws : List C64) → all_finite (vs ++ ws) ≡ (all_finite vs && all_finite ws)
unfolding all_finite
finite_append [] ws = refl
finite_append (v ∷ vs) ws = rw (finite_append vs ws) (sym (and_assoc (finite v) (all_finite vs) (all_finite ws)))
