-- Laws of `tabulate` and `replicate`, and of a loop that fills a local array from the front.
-- Assumes nothing.
use Prim.Native.Nat.{ℕ, zero, suc, ◌+◌, ◌-◌, ◌<◌, ◌≤◌}
use native.Mathlib.Omega.{arith}
use mathlib.Core.Path.{◌≡◌, refl, sym, ap, ◌∙◌}
use mathlib.Core.List.{List, [], ◌∷◌, ◌++◌}
use borrow.Author.Count.{below_more}
use lib.ListN.{length, get_or, set, take, drop, replicate, length-set, length-replicate, length-drop, get_or-replicate, take-append-drop}
use lib.Seq.{ext_get_or, get_or-set_same, get_or-set_other, get_or-take, get_or-drop, length-take-le}
use Rattle.numbers.specs.Lists.{tabulate}

module _ {A : Type 0} where
  -- ---- tabulate

  pub length_tabulate : (f : ℕ → A) (n k : ℕ) → length (tabulate f n k) ≡ n
  unfolding tabulate
  length_tabulate f zero k = refl
  length_tabulate f (suc n) k = ap suc (length_tabulate f n (suc k))

  pub tabulate_at : (f : ℕ → A) (n k i : ℕ) (d : A) → i < n → get_or (tabulate f n k) i d ≡ f (k + i)
  unfolding tabulate
  tabulate_at f zero k i d h = absurd (omega arith)
  tabulate_at f (suc n) k zero d h = ap f (omega arith)
  tabulate_at f (suc n) k (suc i) d h =
      let e : suc k + i ≡ k + suc i = omega arith in
      tabulate_at f n (suc k) i d (omega arith) ∙ ap f e

  -- the same from 0 on
  pub tabulate_at_0 : (f : ℕ → A) (n i : ℕ) (d : A) → i < n → get_or (tabulate f n 0) i d ≡ f i
  tabulate_at_0 f n i d h =
      let e : 0 + i ≡ i = omega arith in
      tabulate_at f n 0 i d h ∙ ap f e

  -- a list that has n elements, f i at each place i, is the tabulated one
  pub is_tabulate : (f : ℕ → A) (n : ℕ) (d : A) (xs : List A) → length xs ≡ n → ((i : ℕ) → i < n → get_or xs i d ≡ f i) → xs ≡ tabulate f n 0
  is_tabulate f n d xs l h =
      ext_get_or d xs (tabulate f n 0)
      (l ∙ sym (length_tabulate f n 0))
      (λ i b. let b' : i < n = omega arith in h i b' ∙ sym (tabulate_at_0 f n i d b'))

  -- the same from k on
  pub is_tabulate_from : (f : ℕ → A) (n k : ℕ) (d : A) (xs : List A) → length xs ≡ n → ((i : ℕ) → i < n → get_or xs i d ≡ f (k + i)) → xs ≡ tabulate f n k
  is_tabulate_from f n k d xs l h =
      ext_get_or d xs (tabulate f n k)
      (l ∙ sym (length_tabulate f n k))
      (λ i b. let b' : i < n = omega arith in h i b' ∙ sym (tabulate_at f n k i d b'))

  -- two functions that agree below n
  pub tabulate_agree : (f g : ℕ → A) (n : ℕ) (d : A) → ((i : ℕ) → i < n → f i ≡ g i) → tabulate f n 0 ≡ tabulate g n 0
  tabulate_agree f g n d h =
      is_tabulate g n d (tabulate f n 0) (length_tabulate f n 0) (λ i b. tabulate_at_0 f n i d b ∙ h i b)

  -- a list of n elements that are all z
  pub is_replicate : (n : ℕ) (z d : A) (xs : List A) → length xs ≡ n → ((i : ℕ) → i < n → get_or xs i d ≡ z) → xs ≡ replicate n z
  is_replicate n z d xs l h =
      ext_get_or d xs (replicate n z)
      (l ∙ sym (length-replicate n z))
      (λ i b. let b' : i < n = omega arith in h i b' ∙ sym (get_or-replicate n i z d b'))

-- a table of twelve, written out
pub tabulate_twelve : {A : Type 0} (f : ℕ → A)
    → tabulate f 12 0 ≡ f 0 ∷ (f 1 ∷ (f 2 ∷ (f 3 ∷ (f 4 ∷ (f 5 ∷ (f 6 ∷ (f 7 ∷ (f 8 ∷ (f 9 ∷ (f 10 ∷ (f 11 ∷ [])))))))))))
unfolding tabulate
tabulate_twelve f = refl

-- two functions with the same table agree at each of its places
pub tabulated : {A : Type 0} (f g : ℕ → A) (n k : ℕ) → tabulate f n k ≡ tabulate g n k → (L j : ℕ) → L < n → j ≡ L + k → f j ≡ g j
unfolding tabulate
tabulated {A} f g zero k e L j h p = absurd (none h)
  where
    none : L < 0 → ⊥
    none h = omega arith
tabulated {A} f g (suc n) k e zero j h p = let q : j ≡ k = omega arith in rw q (head (f k) (g k) e)
  where
    head : (a b : A) {xs ys : List A} → (a ∷ xs) ≡ (b ∷ ys) → a ≡ b
    head a b e = cc
tabulated {A} f g (suc n) k e (suc L) j h p = tabulated f g n (suc k) (tail e) L j (omega arith) (omega arith)
  where
    tail : {a b : A} {xs ys : List A} → (a ∷ xs) ≡ (b ∷ ys) → xs ≡ ys
    tail e = cc

-- ---- a loop that fills an array of n elements from the front: f i at each place below k, and still z from there on.
-- d is what a read past the end gives.

pub record Filled {A : Type 0} (f : ℕ → A) (z d : A) (n k : ℕ) (xs : List A) : Type 0 where
  pub long : length xs ≡ n
  pub done : (i : ℕ) → i < k → get_or xs i d ≡ f i
  pub bare : (i : ℕ) → k ≤ i → i < n → get_or xs i d ≡ z

module _ {A : Type 0} {f : ℕ → A} {z d : A} {n : ℕ} where
  -- the start: n times z
  pub filled_start : Filled f z d n 0 (replicate n z)
  filled_start =
      record {
        long = length-replicate n z;
        done = λ i h. absurd (omega arith);
        bare = λ i h b. get_or-replicate n i z d b;
      }

  -- a turn: f k is stored at k
  pub filled_turn : {k : ℕ} {xs : List A} {v : A} → Filled f z d n k xs → k < n → v ≡ f k → Filled f z d n (k + 1) (set xs k v)
  filled_turn {k} {xs} {v} p b e =
      record {
        long = length-set xs k v ∙ p.long;
        done = below_more (λ (i : ℕ). get_or (set xs k v) i d ≡ f i) k
            (λ i h. get_or-set_other xs k i v d (omega arith) ∙ p.done i h)
            (get_or-set_same xs k v d (omega (arith, p.long)) ∙ e);
        bare = λ i h b'. get_or-set_other xs k i v d (omega arith) ∙ p.bare i (omega arith) b';
      }

  -- a turn without a store, where f k is z
  pub filled_same : {k : ℕ} {xs : List A} → Filled f z d n k xs → k < n → z ≡ f k → Filled f z d n (k + 1) xs
  filled_same {k} {xs} p b e =
      record {
        long = p.long;
        done = below_more (λ (i : ℕ). get_or xs i d ≡ f i) k p.done (p.bare k (omega arith) b ∙ e);
        bare = λ i h. p.bare i (omega arith);
      }

  -- the end: what was filled, and then z
  pub filled_end : {k : ℕ} {xs : List A} → Filled f z d n k xs → k ≤ n → xs ≡ tabulate f k 0 ++ replicate (n - k) z
  filled_end {k} {xs} p b =
      let front : take k xs ≡ tabulate f k 0 = is_tabulate f k d (take k xs) (length-take-le k xs (omega (arith, p.long))) (λ i h. get_or-take k xs i d h ∙ p.done i h) in
      let back : drop k xs ≡ replicate (n - k) z =
      is_replicate (n - k) z d (drop k xs)
      (length-drop k xs ∙ ap (λ (m : ℕ). m - k) p.long)
      (λ i h. get_or-drop k xs i d ∙ p.bare (k + i) (omega arith) (omega arith)) in
      sym (take-append-drop k xs) ∙ (λ i. front i ++ back i)

  -- the end where all is filled
  pub filled_whole : {xs : List A} → Filled f z d n n xs → xs ≡ tabulate f n 0
  filled_whole {xs} p = is_tabulate f n d xs p.long p.done
