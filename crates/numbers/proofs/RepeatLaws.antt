-- Laws of repetition: lists and rows without it, and the loops that search for a column that stands twice.
-- Assumes nothing.
use Prim.Native.Nat.{ℕ, zero, suc, ◌+◌, ◌-◌, ◌<◌, ◌≤◌}
use native.Mathlib.Omega.{arith}
use mathlib.Core.Logic.{◌≢◌}
use mathlib.Core.Path.{◌≡◌, refl, sym, ap, ◌∙◌}
use mathlib.Core.Bool.{true, false, ◌||◌}
use mathlib.Core.List.{List, [], ◌∷◌, ◌++◌}
use borrow.Author.Tests.{eq-eqb, ne_eqb}
use lib.ListN.{length, get_or, take, drop}
use Rattle.std.specs.Prelude.{nat_eq}
use Rattle.std.specs.List.{list_any, range_with_len}
use Rattle.numbers.specs.Lists.{tabulate, each, contains, repeats, some_repeats, entry_at, places_in}
use Rattle.numbers.proofs.EachLaws.{All, none, more, all_append}
use Rattle.numbers.proofs.SliceLaws.{any_contains, between_places}
use Rattle.numbers.proofs.LoopLaws.{tabulate_left, tabulate_done}

-- ---- lists without repetition

pub data Distinct : List ℕ → Type 0 where
  empty : Distinct []
  fresh : {x : ℕ} {xs : List ℕ} → All (λ y. y ≢ x) xs → Distinct xs → Distinct (x ∷ xs)

pub distinct_one : {a : ℕ} → Distinct (a ∷ [])
distinct_one = fresh none empty

pub distinct_two : {a b : ℕ} → b ≢ a → Distinct (a ∷ (b ∷ []))
distinct_two d = fresh (more d none) distinct_one

pub all_map : {P Q : ℕ → Type 0} {xs : List ℕ} → ((x : ℕ) → P x → Q x) → All P xs → All Q xs
all_map f none = none
all_map f (more {x = x} p ps) = more (f x p) (all_map f ps)

pub distinct_append : {xs ys : List ℕ} → Distinct xs → Distinct ys → All (λ x. All (λ y. y ≢ x) ys) xs → Distinct (xs ++ ys)
distinct_append empty d a = d
distinct_append (fresh n e) d (more p a) = fresh (all_append n p) (distinct_append e d a)

-- if g tells of each element of f m that it is m's, the lists f m one behind another repeat nothing that they do not repeat themselves
module _ (g : ℕ → ℕ) (f : ℕ → List ℕ) where
  abbrev pub Own : ℕ → Type 0
  Own m = Distinct (f m) × All (λ c. g c ≡ m) (f m)

  elsewhere : (x m : ℕ) → g x ≡ m → {ms : List ℕ} → All (λ k. k ≢ m) ms → All Own ms → All (λ y. y ≢ x) (each f ms)
  unfolding each
  elsewhere x m e none none = none
  elsewhere x m e (more n ns) (more p ps) = all_append (all_map (λ y q s. n (sym q ∙ (ap g s ∙ e))) p.1) (elsewhere x m e ns ps)

  pub each_distinct : {ms : List ℕ} → Distinct ms → All Own ms → Distinct (each f ms)
  unfolding each
  each_distinct empty a = empty
  each_distinct (fresh {x = m} n d) (more p a) = distinct_append p.0 (each_distinct d a) (all_map (λ x e. elsewhere x m e n a) p.1)

not_contained : (c : ℕ) {xs : List ℕ} → All (λ y. y ≢ c) xs → contains c xs ≡ false
unfolding contains
not_contained c none = refl
not_contained c (more {x = x} n ns) = rw (ne_eqb x c n) (not_contained c ns)

pub no_repeats : {xs : List ℕ} → Distinct xs → repeats xs ≡ false
unfolding repeats
no_repeats empty = refl
no_repeats (fresh {x = x} n d) = rw (not_contained x n) (no_repeats d)

pub no_row_repeats : (f : ℕ → List ℕ) (n : ℕ) → ((r : ℕ) → r < n → repeats (f r) ≡ false) → some_repeats f n ≡ false
unfolding some_repeats
no_row_repeats f zero h = refl
no_row_repeats f (suc n) h = rw (no_row_repeats f n (λ r b. h r (omega arith))) (h n (omega arith))

-- ---- whether a column is among those from place m to place n - 1: the rest, from place q on, comes to the whole

pub record Seeking (cs : List ℕ) (m n c q : ℕ) : Type 0 where
  pub same : contains c (places_in cs q (n - q)) ≡ contains c (places_in cs m (n - m))

pub seeking_start : {cs : List ℕ} {m n c : ℕ} → Seeking cs m n c m
seeking_start = record { same = refl }

module _ {cs : List ℕ} {m n c q : ℕ} (p : Seeking cs m n c q) where
  pub seeking_hit : q < n → get_or cs q 0 ≡ c → true ≡ contains c (places_in cs m (n - m))
  unfolding contains
  seeking_hit h e =
      let k : contains c (places_in cs q (n - q)) ≡ true = rw (tabulate_left (entry_at cs) n q h, eq-eqb (get_or cs q 0) c e) in
      sym k ∙ p.same

  pub seeking_turn : q < n → (get_or cs q 0 ≡ c → ⊥) → Seeking cs m n c (q + 1)
  unfolding contains
  seeking_turn h e =
      let k : contains c (places_in cs q (n - q)) ≡ contains c (places_in cs (q + 1) (n - (q + 1))) =
      rw (tabulate_left (entry_at cs) n q h, ne_eqb (get_or cs q 0) c e) in
      record { same = sym k ∙ p.same }

  pub seeking_end : n ≤ q → false ≡ contains c (places_in cs m (n - m))
  unfolding contains
  seeking_end h =
      let k : contains c (places_in cs q (n - q)) ≡ false = rw (tabulate_done (entry_at cs) n q h) in
      sym k ∙ p.same

-- ---- whether one stands twice among those from place m to place e - 1: each is sought in the part behind it

repeats_from : (cs : List ℕ) (e n m : ℕ) → m + n ≡ e → e ≤ length cs
    → list_any (λ q. list_any (λ y. nat_eq y (get_or cs q 0)) (take (e - (q + 1)) (drop (q + 1) cs))) (range_with_len m n) ≡ repeats (places_in cs m n)
unfolding tabulate repeats
repeats_from cs e zero m k h = refl
repeats_from cs e (suc n) m k h =
    let l : e - (m + 1) ≡ n = omega arith in
    let d : m + 1 ≡ suc m = omega arith in
    let here : list_any (λ y. nat_eq y (get_or cs m 0)) (take (e - (m + 1)) (drop (m + 1) cs)) ≡ contains (get_or cs m 0) (places_in cs (suc m) n) =
    any_contains _ _ ∙ ap (contains (get_or cs m 0)) (between_places cs (m + 1) e h (omega arith) ∙ (λ i. places_in cs (d i) (l i))) in
    let more : list_any (λ q. list_any (λ y. nat_eq y (get_or cs q 0)) (take (e - (q + 1)) (drop (q + 1) cs))) (range_with_len (m + 1) n) ≡ repeats (places_in cs (suc m) n) =
    rw d (repeats_from cs e n (suc m) (omega arith) h) in
    λ i. here i || more i

pub repeats_along : (cs : List ℕ) (n : ℕ) → n ≤ length cs
    → list_any (λ q. list_any (λ y. nat_eq y (get_or cs q 0)) (take (n - (q + 1)) (drop (q + 1) cs))) (range_with_len 0 n) ≡ repeats (places_in cs 0 n)
repeats_along cs n h = repeats_from cs n n 0 (omega arith) h
