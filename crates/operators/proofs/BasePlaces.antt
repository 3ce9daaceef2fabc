-- A word of level 0 has no places but its own and the two beside it.
-- Assumes nothing.
use Prim.Native.Nat.{ℕ, ◌+◌, ◌-◌, ◌<◌, ◌≤◌}
use mathlib.Core.Path.{◌≡◌, refl, sym, ◌∙◌}
use mathlib.Core.Logic.{◌⊎◌, inl, inr}
use mathlib.Core.Bool.{Bool, true, false, ◌&&◌, ◌||◌, and-false, or-true}
use native.Mathlib.Omega.{arith}
use native.Mathlib.Decide.{ℕ_discrete}
use borrow.Author.Tests.{eq-eqb, eqb-true, ne_eqb, le-ltb, lt-ltb, ltb-true}
use lib.Dec.{eqb, ltb}
use Rattle.std.proofs.lemmas.Bool.{and_parts, or_cases}
use Rattle.operators.specs.Pattern.{across, Name, same, near, up, down}
use Rattle.operators.specs.Bits.{bit_at, mix_of, single}
use Rattle.operators.specs.Numbered.{name_no}
use Rattle.operators.specs.Base.{live_at, follows, base_of, place_of, base_word, OnlyAfter, OnlyBefore}
use Rattle.operators.proofs.WordLaws.{bit_none, bit_mix, bit_unit, mix_left}
use Rattle.operators.proofs.WordPlaces.{same_places}
use Rattle.operators.proofs.BaseLaws.{bit_base}

-- ---- the places beside i

-- what follows is one further, or the first after the last
follows_by : (n : ℕ) (bloch : Bool) (i j : ℕ) → follows n bloch i j ≡ true → ((j ≡ i + 1) × (i + 1 < n)) ⊎ ((i + 1 ≡ n) × (j ≡ 0))
unfolding follows
follows_by n bloch i j h = go (or_cases (eqb j (i + 1) && ltb (i + 1) n) ((bloch && eqb (i + 1) n) && eqb j 0) h)
  where
    go : ((eqb j (i + 1) && ltb (i + 1) n) ≡ true) ⊎ (((bloch && eqb (i + 1) n) && eqb j 0) ≡ true) → ((j ≡ i + 1) × (i + 1 < n)) ⊎ ((i + 1 ≡ n) × (j ≡ 0))
    go (inl e) =
        let b = and_parts (eqb j (i + 1)) (ltb (i + 1) n) e in
        inl (eqb-true j (i + 1) b.0, ltb-true (i + 1) n b.1)
    go (inr e) =
        let b = and_parts (bloch && eqb (i + 1) n) (eqb j 0) e in
        inr (eqb-true (i + 1) n (and_parts bloch (eqb (i + 1) n) b.0).1, eqb-true j 0 b.1)

pub after_near : (n i : ℕ) → i + 1 < n → OnlyAfter n i (i + 1)
after_near n i h = record { only = λ bloch j f. go j (follows_by n bloch i j f) }
  where
    go : (j : ℕ) → ((j ≡ i + 1) × (i + 1 < n)) ⊎ ((i + 1 ≡ n) × (j ≡ 0)) → j ≡ i + 1
    go j (inl e) = e.0
    go j (inr e) = absurd (omega (arith, e.0))

pub after_last : (n i : ℕ) → n ≤ i + 1 → OnlyAfter n i 0
after_last n i h = record { only = λ bloch j f. go j (follows_by n bloch i j f) }
  where
    go : (j : ℕ) → ((j ≡ i + 1) × (i + 1 < n)) ⊎ ((i + 1 ≡ n) × (j ≡ 0)) → j ≡ 0
    go j (inl e) = absurd (omega (arith, e.1))
    go j (inr e) = e.1

pub before_near : (n i : ℕ) → 0 < i → OnlyBefore n i (i - 1)
before_near n i h = record { only = λ bloch j f. go j (follows_by n bloch j i f) }
  where
    go : (j : ℕ) → ((i ≡ j + 1) × (j + 1 < n)) ⊎ ((j + 1 ≡ n) × (i ≡ 0)) → j ≡ i - 1
    go j (inl e) = omega (arith, e.0)
    go j (inr e) = absurd (omega (arith, e.1))

pub before_first : (n i r : ℕ) → i ≤ 0 → r ≡ n - 1 → OnlyBefore n i r
before_first n i r h o = record { only = λ bloch j f. go j (follows_by n bloch j i f) }
  where
    go : (j : ℕ) → ((i ≡ j + 1) × (j + 1 < n)) ⊎ ((j + 1 ≡ n) × (i ≡ 0)) → j ≡ r
    go j (inl e) = absurd (omega (arith, e.0))
    go j (inr e) = omega (arith, e.0)

-- ---- the relations

-- the place itself, the one after it or the one before it
beside : (n : ℕ) (bloch : Bool) (w : Name) (i j : ℕ) → base_of n bloch w i j ≡ true → (eqb i j ≡ true) ⊎ ((follows n bloch i j ≡ true) ⊎ (follows n bloch j i ≡ true))
unfolding base_of
beside n bloch (same r) i j h = inl (and_parts (live_at bloch r i) (eqb i j) h).1
beside n bloch (near r) i j h = go (or_cases (eqb i j) (follows n bloch i j || follows n bloch j i) (and_parts (live_at bloch r i && live_at bloch r j) (eqb i j || (follows n bloch i j || follows n bloch j i)) h).1)
  where
    go : (eqb i j ≡ true) ⊎ ((follows n bloch i j || follows n bloch j i) ≡ true) → (eqb i j ≡ true) ⊎ ((follows n bloch i j ≡ true) ⊎ (follows n bloch j i ≡ true))
    go (inl e) = inl e
    go (inr e) = inr (or_cases (follows n bloch i j) (follows n bloch j i) e)
beside n bloch up i j h = go (or_cases (eqb i j) (follows n bloch i j) (and_parts (live_at bloch across j) (eqb i j || follows n bloch i j) h).1)
  where
    go : (eqb i j ≡ true) ⊎ (follows n bloch i j ≡ true) → (eqb i j ≡ true) ⊎ ((follows n bloch i j ≡ true) ⊎ (follows n bloch j i ≡ true))
    go (inl e) = inl e
    go (inr e) = inr (inl e)
beside n bloch down i j h = go (or_cases (eqb i j) (follows n bloch j i) (and_parts (live_at bloch across i) (eqb i j || follows n bloch j i) h).1)
  where
    go : (eqb i j ≡ true) ⊎ (follows n bloch j i ≡ true) → (eqb i j ≡ true) ⊎ ((follows n bloch i j ≡ true) ⊎ (follows n bloch j i ≡ true))
    go (inl e) = inl e
    go (inr e) = inr (inr e)

-- ---- a set of three places

module _ (q : ℕ → Bool) (k : ℕ) where
  term_none : (x : ℕ) → q k ≡ false → (q x && eqb k x) ≡ false
  term_none x e = go (ℕ_discrete k x)
    where
      go : Dec (k ≡ x) → (q x && eqb k x) ≡ false
      go (yes o) = rw (← o, e)
      go (no o) = rw (ne_eqb k x o) (and-false (q x))

  term_some : (x : ℕ) → q k ≡ true → k ≡ x → (q x && eqb k x) ≡ true
  term_some x e o = rw (← o, e, eq-eqb k k refl)

  three : (a b c : ℕ) → (q k ≡ true → (k ≡ a) ⊎ ((k ≡ b) ⊎ (k ≡ c))) → (((q a && eqb k a) || (q b && eqb k b)) || (q c && eqb k c)) ≡ q k
  three a b c found = go (q k) refl
    where
      by : q k ≡ true → (k ≡ a) ⊎ ((k ≡ b) ⊎ (k ≡ c)) → (((q a && eqb k a) || (q b && eqb k b)) || (q c && eqb k c)) ≡ true
      by e (inl o) = rw (term_some a e o)
      by e (inr (inl o)) = rw (term_some b e o, or-true (q a && eqb k a))
      by e (inr (inr o)) = rw (term_some c e o) (or-true ((q a && eqb k a) || (q b && eqb k b)))

      go : (t : Bool) → q k ≡ t → (((q a && eqb k a) || (q b && eqb k b)) || (q c && eqb k c)) ≡ t
      go true e = by e (found e)
      go false e = rw (term_none a e, term_none b e, term_none c e)

-- ---- the word

pub place_out : {set : ℕ} (n : ℕ) (bloch : Bool) (w i j : ℕ) → n ≤ j → set ≡ mix_of true set (place_of n bloch w i j) (single j)
unfolding place_of
place_out {set} n bloch w i j h = rw (le-ltb j n h) (mix_left set (single j))

pub place_in : {r v : ℕ} {b : Bool} (n : ℕ) (bloch : Bool) (w i set j : ℕ) → j < n → b ≡ base_of n bloch (name_no w) i j → v ≡ single j → r ≡ mix_of true set b v
    → r ≡ mix_of true set (place_of n bloch w i j) (single j)
unfolding place_of
place_in n bloch w i set j h eb ev er = rw (lt-ltb j n h, ← eb, ← ev) er

module _ (n : ℕ) (bloch : Bool) (w i : ℕ) where
  -- its places are among the three
  found : {a c : ℕ} → OnlyAfter n i a → OnlyBefore n i c → (k : ℕ) → place_of n bloch w i k ≡ true → (k ≡ i) ⊎ ((k ≡ a) ⊎ (k ≡ c))
  unfolding place_of
  found {a} {c} after before k e = go (beside n bloch (name_no w) i k (and_parts (ltb k n) (base_of n bloch (name_no w) i k) e).1)
    where
      go : (eqb i k ≡ true) ⊎ ((follows n bloch i k ≡ true) ⊎ (follows n bloch k i ≡ true)) → (k ≡ i) ⊎ ((k ≡ a) ⊎ (k ≡ c))
      go (inl o) = inl (sym (eqb-true i k o))
      go (inr (inl o)) = inr (inl (after.only bloch k o))
      go (inr (inr o)) = inr (inr (before.only bloch k o))

  whole : (k : ℕ) → place_of n bloch w i k ≡ bit_at (base_word n bloch w i) k
  unfolding place_of
  whole k = sym (bit_base n bloch w i k)

  pub three_places : {x y r a c : ℕ} → x ≡ mix_of true 0 (place_of n bloch w i i) (single i) → OnlyAfter n i a → y ≡ mix_of true x (place_of n bloch w i a) (single a)
      → OnlyBefore n i c → r ≡ mix_of true y (place_of n bloch w i c) (single c) → r ≡ base_word n bloch w i
  three_places {x} {y} {r} {a} {c} ex after ey before er =
      same_places r (base_word n bloch w i) (λ k. bits k ∙ three (place_of n bloch w i) k i a c (found after before k) ∙ whole k)
    where
      with : (u set j k : ℕ) → u ≡ mix_of true set (place_of n bloch w i j) (single j) → bit_at u k ≡ (bit_at set k || (place_of n bloch w i j && eqb k j))
      with u set j k e = rw e (bit_mix true set (place_of n bloch w i j) (single j) k ∙ rw (bit_unit j k))

      bits : (k : ℕ) → bit_at r k ≡ (((place_of n bloch w i i && eqb k i) || (place_of n bloch w i a && eqb k a)) || (place_of n bloch w i c && eqb k c))
      bits k = with r y c k er ∙ rw (with y x a k ey, with x 0 i k ex, bit_none k)
