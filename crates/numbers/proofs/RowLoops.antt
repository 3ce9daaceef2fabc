-- Laws of loops that lay values, rows and their starts into lists.
-- Assumes nothing.
use Prim.Native.Nat.{ℕ, zero, suc, ◌+◌, ◌-◌, ◌*◌, ◌<◌, ◌≤◌}
use native.Mathlib.Numerals.{add-one}
use native.Mathlib.Nat.{mul-suc}
use native.Mathlib.Omega.{arith}
use mathlib.Core.Path.{◌≡◌, refl, sym, ap, subst, ◌∙◌}
use mathlib.Core.Bool.{Bool, true, false}
use mathlib.Core.List.{List, [], ◌∷◌, ◌++◌}
use borrow.Author.Count.{below_more}
use borrow.Author.Tests.{ltb-true, ltb-false}
use lib.Dec.{ltb}
use lib.ListN.{drop, drop_of_length-le, length, get_or, set}
use lib.Seq.{drop-cons}
use lib.Ieee.{Float}
use Rattle.numbers.specs.declared.C64.{C64}
use Rattle.numbers.specs.Lists.{rows, laid_by, laid_numbers, Laid, Numbers, start_of, starts_of}
use Rattle.numbers.specs.Complex.{no_number}
use Rattle.numbers.specs.Places.{places, number_at, set_number}
use Rattle.numbers.proofs.Laws.{length_set_number, number_same, number_other}
use Rattle.numbers.proofs.ListLaws.{laid_numbers_length, laid_numbers_before, laid_numbers_at, through, laid_append, Laying, laying_start, laying_turn, laying_end, starts_first, starts_more}

-- ---- a loop that lays what f gives for one element after another, at most b for each, m of n done

pub record Going {L E A : Type 0} (put : L → ℕ → A → L) (f : E → List A) (el : ℕ → E) (b n from : ℕ) (xs₀ xs : L) (k m : ℕ) : Type 0 where
  pub laying : Laying put (through f el) n from xs₀ xs k m
  pub most : k ≤ from + b * m

module _ {L E A : Type 0} {put : L → ℕ → A → L} {f : E → List A} {el : ℕ → E} {b n from : ℕ} where
  pub going_start : {xs : L} → Going put f el b n from xs xs from 0
  going_start = record { laying = laying_start; most = omega arith }

  pub going_turn : {xs₀ xs ys : L} {k r m : ℕ} {v : E}
      → Going put f el b n from xs₀ xs k m → m < n → v ≡ el m → Laid put xs k (f v) ys r → length (f v) ≤ b → Going put f el b n from xs₀ ys r (m + 1)
  going_turn {xs₀} {xs} {ys} {k} {r} {m} {v} u h e w l =
      let w' : Laid put xs k (f (el m)) ys r = subst (λ (x : E). Laid put xs k (f x) ys r) e w in
      record { laying = laying_turn u.laying h w'; most = rw (add-one m) (omega (arith, u.most, w.next, mul-suc b m)) }

  pub going_end : {xs₀ xs : L} {k m l : ℕ} → Going put f el b n from xs₀ xs k m → n ≤ m → n ≡ l → Laid put xs₀ from (rows (through f el) l) xs k
  going_end u h e = rw e at (laying_end u.laying h)

-- ---- the starts of the rows: 0 first, and behind each row how far it came

-- how far the rows have come with row m
abbrev pub end_at : {A : Type 0} → (ℕ → List A) → ℕ → List ℕ
end_at row m = start_of row (m + 1) ∷ []

starts_are : {A : Type 0} (row : ℕ → List A) (n : ℕ) → starts_of row n ≡ (0 ∷ []) ++ rows (end_at row) n
unfolding rows
starts_are row zero = starts_first row
starts_are row (suc n) = rw (← add-one n, starts_more row n, starts_are row n)

pub record Starting {E A : Type 0} (f : E → List A) (el : ℕ → E) (s : ℕ) (xs₀ xs : List ℕ) (m : ℕ) : Type 0 where
  pub begun : Laid set xs₀ (s + 1) (rows (end_at (through f el)) m) xs (s + m + 1)

module _ {E A : Type 0} {f : E → List A} {el : ℕ → E} {s : ℕ} where
  pub starting_start : {xs : List ℕ} → Starting f el s xs xs 0
  unfolding rows laid_by
  starting_start = record { begun = record { list = refl; next = omega arith } }

  pub starting_turn : {L : Type 0} {put : L → ℕ → A → L} {b n from k m t : ℕ} {cs₀ cs : L} {xs₀ xs ys : List ℕ}
      → Starting f el s xs₀ xs m → Going put f el b n from cs₀ cs k (m + 1) → Laid set xs (s + m + 1) ((k - from) ∷ []) ys t → Starting f el s xs₀ ys (m + 1)
  unfolding start_of rows
  starting_turn {from = from} {k = k} {m = m} {t = t} {xs₀ = xs₀} {xs = xs} {ys = ys} u v p =
      let d : k - from ≡ start_of (through f el) (m + 1) = omega (arith, v.laying.wrote.next) in
      let e : t ≡ s + (m + 1) + 1 = omega (arith, p.next) in
      let w : Laid set xs (s + m + 1) (end_at (through f el) m) ys (s + (m + 1) + 1) = rw (d, e) at p in
      let r : rows (end_at (through f el)) (m + 1) ≡ rows (end_at (through f el)) m ++ end_at (through f el) m = ap (rows (end_at (through f el))) (add-one m) in
      record { begun = rw r (laid_append u.begun w) }

  -- with the 0 that was laid first
  pub starting_end : {xs xs₀ ys : List ℕ} {m l r : ℕ} → Laid set xs s (0 ∷ []) xs₀ r → Starting f el s xs₀ ys m → m ≡ l
      → Laid set xs s (starts_of (through f el) l) ys (s + l + 1)
  starting_end {xs} {xs₀} {ys} {m} {l} {r} p u e =
      let d : r ≡ s + 1 = omega (arith, p.next) in
      let q : Laid set xs s (0 ∷ []) xs₀ (s + 1) = rw d at p in
      rw (starts_are (through f el) l, ← e) (laid_append q u.begun)

-- ---- a loop that lays one value at each turn, m of them done: the others, laid from there on, come to the whole

pub record Spread {L A : Type 0} (put : L → ℕ → A → L) (xs : L) (k : ℕ) (vs : List A) (m : ℕ) (ys : L) : Type 0 where
  pub same : laid_by put ys (k + m) (drop m vs) ≡ laid_by put xs k vs

module _ {L A : Type 0} {put : L → ℕ → A → L} {xs : L} {k : ℕ} {vs : List A} where
  pub spread_start : Spread put xs k vs 0 xs
  spread_start = let e : k + 0 ≡ k = omega arith in record { same = ap (λ (i : ℕ). laid_by put xs i vs) e }

  pub spread_turn : {m : ℕ} {ys : L} {v : A} (d : A) → Spread put xs k vs m ys → m < length vs → v ≡ get_or vs m d → Spread put xs k vs (m + 1) (put ys (k + m) v)
  unfolding laid_by
  spread_turn {m} {ys} {v} d p h q =
      let e : k + (m + 1) ≡ suc (k + m) = omega arith in
      record { same = rw (e, add-one m, q) (sym (ap (laid_by put ys (k + m)) (drop-cons vs m d h)) ∙ p.same) }

  pub spread_end : {m : ℕ} {ys : L} → Spread put xs k vs m ys → length vs ≤ m → ys ≡ laid_by put xs k vs
  unfolding laid_by
  spread_end {m} {ys} p h = sym (ap (laid_by put ys (k + m)) (drop_of_length-le vs {i = m} h)) ∙ p.same

-- ---- a list whose first k numbers of n are f 0, f 1, ..

pub record NumbersTo (f : ℕ → C64) (n k : ℕ) (xs : List Float) : Type 0 where
  pub long : length xs ≡ 2 * n
  pub done : (i : ℕ) → i < k → number_at xs i ≡ f i

module _ {f : ℕ → C64} {n : ℕ} where
  pub numbers_start : {xs : List Float} → length xs ≡ 2 * n → NumbersTo f n 0 xs
  numbers_start h = record { long = h; done = λ i b. absurd (omega arith) }

  -- one number more
  pub numbers_turn : {k : ℕ} {xs : List Float} {v : C64} → NumbersTo f n k xs → k < n → v ≡ f k → NumbersTo f n (k + 1) (set_number xs k v)
  unfolding places
  numbers_turn {k} {xs} {v} p b e =
      record {
        long = length_set_number xs k v ∙ p.long;
        done = below_more (λ (i : ℕ). number_at (set_number xs k v) i ≡ f i) k
            (λ i h. number_other xs k i v (omega arith) ∙ p.done i h)
            (number_same xs k v (omega (arith, p.long)) ∙ e);
      }

  -- a list of numbers more
  pub numbers_laid : {k : ℕ} {xs : List Float} (vs : List C64) → NumbersTo f n k xs → k + length vs ≤ n
      → ((j : ℕ) → j < length vs → get_or vs j no_number ≡ f (k + j)) → NumbersTo f n (k + length vs) (laid_numbers xs k vs)
  numbers_laid {k} {xs} vs p b e =
      record { long = laid_numbers_length xs k vs ∙ p.long; done = λ i h. go i h (ltb i k) refl }
    where
      go : (i : ℕ) → i < k + length vs → (s : Bool) → ltb i k ≡ s → number_at (laid_numbers xs k vs) i ≡ f i
      go i h true q = let l : i < k = ltb-true i k q in laid_numbers_before xs k vs i l ∙ p.done i l
      go i h false q =
          let l : i - k < length vs = omega (arith, ltb-false i k q) in
          let w : k + (i - k) ≡ i = omega (arith, ltb-false i k q) in
          let u : number_at (laid_numbers xs k vs) (k + (i - k)) ≡ f (k + (i - k)) =
          laid_numbers_at xs k vs (i - k) no_number l (omega (arith, p.long)) ∙ e (i - k) l in
          rw w at u

  pub numbers_whole : {xs : List Float} → NumbersTo f n n xs → Numbers f n xs
  numbers_whole p = record { long = p.long; each_is = p.done }
