-- Flags set at positions: at none, at one, at those of two lists, in a loop over a list. And in a loop over rows that name one another: where each row
-- that is flagged sets the flags of its columns, those are set that name a flagged row.
-- Assumes nothing.
use Prim.Native.Nat.{ℕ, zero, suc, ◌+◌, ◌<◌, ◌≤◌}
use mathlib.Core.Path.{◌≡◌, refl, sym, ap, ◌∙◌}
use mathlib.Core.Logic.{◌⊎◌, inl, inr}
use mathlib.Core.Bool.{Bool, true, false, false≢true, ◌||◌, ◌&&◌, or_assoc, or-false}
use mathlib.Core.List.{List, [], ◌∷◌, ◌++◌, append-nil}
use native.Mathlib.Omega.{arith}
use native.Mathlib.Decide.{ℕ_discrete}
use native.Mathlib.Numerals.{add-one}
use borrow.Author.Tests.{eq-eqb, ne_eqb}
use lib.Dec.{eqb}
use lib.ListN.{length, get_or, set, take, length-set}
use lib.Seq.{get_or-set_same, get_or-set_other, get_or-take, length-take-le, take-suc}
use Rattle.std.proofs.lemmas.Bool.{and_parts, or_cases, or_left, or_right}
use Rattle.numbers.specs.Lists.{In, each, contains, any_flag, Marked, entry_at, places_in}
use Rattle.numbers.specs.Terms.{Below}
use Rattle.numbers.proofs.Laws.{bool_same}
use Rattle.numbers.proofs.ElementLaws.{single, each_single}
use Rattle.numbers.proofs.FlagLaws.{flagged_any, any_flagged}
use Rattle.numbers.proofs.MemberLaws.{contains_in, in_contains}
use Rattle.numbers.proofs.TabulateLaws.{is_tabulate}
use Rattle.numbers.proofs.TermLaws.{each_append}

contains_append : (c : ℕ) (us vs : List ℕ) → contains c (us ++ vs) ≡ (contains c us || contains c vs)
unfolding contains
contains_append c [] vs = refl
contains_append c (u ∷ us) vs = ap (λ (b : Bool). eqb u c || b) (contains_append c us vs) ∙ sym (or_assoc (eqb u c) (contains c us) (contains c vs))

-- ---- at none, at one, at those of two lists

pub marked_not : {b : Bool} {cs : List ℕ} {xs : List Bool} → b ≡ false → Marked b cs xs xs
marked_not {b} {cs} {xs} e = record { same_long = refl; each_is = λ c. rw e (sym (or-false (get_or xs c false))) }

pub marked_nil : {xs : List Bool} → Marked true [] xs xs
unfolding contains
marked_nil {xs} = record { same_long = refl; each_is = λ c. sym (or-false (get_or xs c false)) }

pub marked_one : {c : ℕ} {xs : List Bool} → c < length xs → Marked true (c ∷ []) xs (set xs c true)
unfolding contains
marked_one {c} {xs} h = record { same_long = length-set xs c true; each_is = λ d. go d (ℕ_discrete d c) }
  where
    go : (d : ℕ) → Dec (d ≡ c) → get_or (set xs c true) d false ≡ (get_or xs d false || (true && (eqb c d || false)))
    go d (yes e) = rw e (get_or-set_same xs c true false h ∙ sym (or_right (get_or xs c false) _ (or_left _ false (eq-eqb c c refl))))
    go d (no n) = get_or-set_other xs c d true false n ∙ rw (ne_eqb c d (λ e. n (sym e))) (sym (or-false (get_or xs d false)))

pub marked_append : {us vs : List ℕ} {xs ys zs : List Bool} → Marked true us xs ys → Marked true vs ys zs → Marked true (us ++ vs) xs zs
marked_append {us} {vs} {xs} p q =
    record {
      same_long = q.same_long ∙ p.same_long;
      each_is = λ c.
          q.each_is c
          ∙ ap (λ (b : Bool). b || contains c vs) (p.each_is c)
          ∙ or_assoc (get_or xs c false) (contains c us) (contains c vs)
          ∙ ap (λ (b : Bool). get_or xs c false || b) (sym (contains_append c us vs));
    }

pub marked_as : {b : Bool} {us vs : List ℕ} {xs ys : List Bool} → Marked true us xs ys → us ≡ vs → b ≡ true → Marked b vs xs ys
marked_as p e d = rw (d, ← e) p

-- ---- the loop over a list: the flags of what f gives for the first m of its elements are set

pub record Marking (f : ℕ → List ℕ) (cs : List ℕ) (n : ℕ) (xs ys : List Bool) (m : ℕ) : Type 0 where
  pub high : m ≤ n
  pub marked : Marked true (each f (take m cs)) xs ys

module _ {f : ℕ → List ℕ} {cs : List ℕ} {n : ℕ} {xs : List Bool} where
  pub marking_start : Marking f cs n xs xs 0
  unfolding each
  marking_start = record { high = omega arith; marked = marked_nil }

  pub marking_turn : {ys zs : List Bool} {m : ℕ} → Marking f cs n xs ys m → m < n → n ≤ length cs → Marked true (f (get_or cs m 0)) ys zs → Marking f cs n xs zs (m + 1)
  unfolding each
  marking_turn {ys} {zs} {m} p h room q =
      let e : each f (take (m + 1) cs) ≡ each f (take m cs) ++ f (get_or cs m 0) =
      rw (add-one m, take-suc cs m 0 (omega arith), each_append f (take m cs) (get_or cs m 0 ∷ [])) (ap (λ (us : List ℕ). each f (take m cs) ++ us) (append-nil (f (get_or cs m 0)))) in
      record { high = omega arith; marked = marked_as (marked_append p.marked q) (sym e) refl }

  -- there is a flag for the next
  pub marking_low : {ys : List Bool} {m : ℕ} → Marking f cs n xs ys m → Below (length xs) cs n → m < n → get_or cs m 0 < length ys
  marking_low {m = m} p w h = omega (arith, w.low m h, p.marked.same_long)

  pub marking_end : {ys : List Bool} {m : ℕ} → Marking f cs n xs ys m → n ≤ m → Marked true (each f (take n cs)) xs ys
  marking_end {m = m} p h =
      let e : m ≡ n = omega (arith, p.high) in
      rw e at p.marked

take_places : (cs : List ℕ) (n : ℕ) → n ≤ length cs → take n cs ≡ places_in cs 0 n
take_places cs n h = is_tabulate (entry_at cs) n 0 (take n cs) (length-take-le n cs h) (λ i b. get_or-take n cs i 0 b)

-- where the elements themselves are set
pub marking_all : {cs : List ℕ} {n : ℕ} {xs ys : List Bool} {m : ℕ} → Marking single cs n xs ys m → n ≤ m → n ≤ length cs → Marked true (places_in cs 0 n) xs ys
marking_all {cs} {n} p h room = marked_as (marking_end p h) (each_single (take n cs) ∙ take_places cs n room) refl

-- ---- the loop over rows

-- one of the first n rows is flagged and names c
unfoldable pub named_by : List Bool → (ℕ → List ℕ) → ℕ → ℕ → Bool
named_by fs row zero c = false
named_by fs row (suc n) c = named_by fs row n c || (get_or fs n false && contains c (row n))

-- each of the first n rows that is flagged has set the flags of its columns, and no other has changed
pub record Spread (fs : List Bool) (row : ℕ → List ℕ) (xs ys : List Bool) (n : ℕ) : Type 0 where
  pub same_long : length ys ≡ length xs
  pub each_is : (c : ℕ) → get_or ys c false ≡ (get_or xs c false || named_by fs row n c)

module _ {fs : List Bool} {row : ℕ → List ℕ} {xs : List Bool} where
  pub spread_start : Spread fs row xs xs 0
  unfolding named_by
  spread_start = record { same_long = refl; each_is = λ c. sym (or-false (get_or xs c false)) }

  pub spread_turn : {ys zs : List Bool} {n : ℕ} → Spread fs row xs ys n → Marked (get_or fs n false) (row n) ys zs → Spread fs row xs zs (n + 1)
  unfolding named_by
  spread_turn {ys} {zs} {n} p q =
      rw (add-one n)
      (record {
        same_long = q.same_long ∙ p.same_long;
        each_is = λ c.
            q.each_is c
            ∙ ap (λ (b : Bool). b || (get_or fs n false && contains c (row n))) (p.each_is c)
            ∙ or_assoc (get_or xs c false) (named_by fs row n c) (get_or fs n false && contains c (row n));
      })

-- ---- rows that name one another

-- the columns of the first n rows are below n, and each names the row that names it
pub record Mutual (n : ℕ) (row : ℕ → List ℕ) : Type 0 where
  pub low : (r c : ℕ) → r < n → In c (row r) → c < n
  pub back : (r c : ℕ) → r < n → In c (row r) → In r (row c)

module _ (fs : List Bool) (row : ℕ → List ℕ) where
  named_by_lem : (n c : ℕ) → named_by fs row n c ≡ true → (r : ℕ) × (r < n) × (get_or fs r false ≡ true) × In c (row r)
  unfolding named_by
  named_by_lem zero c h = absurd (false≢true h)
  named_by_lem (suc n) c h = go (named_by_lem n c) (or_cases (named_by fs row n c) (get_or fs n false && contains c (row n)) h)
    where
      go : (named_by fs row n c ≡ true → (r : ℕ) × (r < n) × (get_or fs r false ≡ true) × In c (row r))
          → (named_by fs row n c ≡ true) ⊎ ((get_or fs n false && contains c (row n)) ≡ true) → (r : ℕ) × (r < suc n) × (get_or fs r false ≡ true) × In c (row r)
      go ih (inl e) = let w = ih e in (w.0, omega (arith, w.1), w.2, w.3)
      go ih (inr e) = (n, omega arith, (and_parts (get_or fs n false) (contains c (row n)) e).0, contains_in c (row n) ((and_parts (get_or fs n false) (contains c (row n)) e).1))

  by_named : (n c r : ℕ) → r < n → get_or fs r false ≡ true → In c (row r) → named_by fs row n c ≡ true
  unfolding named_by
  by_named zero c r h f i = absurd (omega arith)
  by_named (suc n) c r h f i = go (by_named n c r) (ℕ_discrete r n)
    where
      go : (r < n → get_or fs r false ≡ true → In c (row r) → named_by fs row n c ≡ true) → Dec (r ≡ n) → (named_by fs row n c || (get_or fs n false && contains c (row n))) ≡ true
      go ih (yes e) = or_right (named_by fs row n c) _ (rw (← e, f, in_contains c (row r) i))
      go ih (no e) = or_left _ (get_or fs n false && contains c (row n)) (ih (omega arith) f i)

  module _ (n : ℕ) (w : Mutual n row) where
    -- the rows that the flagged ones name are those that name a flagged one
    pub named_any : (r : ℕ) → r < n → named_by fs row n r ≡ any_flag fs (row r)
    named_any r h =
        bool_same (named_by fs row n r) (any_flag fs (row r))
        (λ e. let u = named_by_lem n r e in flagged_any fs (row r) u.0 (w.back u.0 r u.1 u.3) u.2)
        (λ e. let u = any_flagged fs (row r) e in by_named n r u.place (w.low r u.place h u.there) u.flag (w.back r u.place h u.there))

    -- and none behind them is named
    pub named_none : (c : ℕ) → n ≤ c → named_by fs row n c ≡ false
    named_none c h =
        bool_same (named_by fs row n c) false (λ e. let u = named_by_lem n c e in absurd (not_below (w.low u.0 c u.1 u.3))) (λ e. absurd (false≢true e))
      where
        not_below : c < n → ⊥
        not_below k = omega arith
