-- Loops that lay values and rows of terms one after another, and what is laid over a part of a list.
-- Assumes nothing.
use Prim.Native.Nat.{ℕ, zero, suc, ◌+◌, ◌-◌, ◌*◌, ◌/◌, ◌<◌, ◌≤◌, min}
use native.Mathlib.Numerals.{add-one}
use native.Mathlib.Decide.{dec_lt}
use native.Mathlib.Omega.{arith}
use mathlib.Core.Path.{◌≡◌, refl, sym, ◌∙◌, ap}
use mathlib.Core.List.{List, [], ◌∷◌, ◌++◌, append-nil}
use lib.ListN.{length, get_or, set, take, drop, length-drop, drop_of_length-le}
use lib.Seq.{take-suc, take_all, drop-drop}
use lib.Ieee.{Float}
use Rattle.std.proofs.lemmas.List.{drop_min, take_min}
use Rattle.numbers.specs.declared.C64.{C64}
use Rattle.numbers.specs.Places.{set_number}
use Rattle.numbers.specs.Lists.{tabulate, rows, laid_by, laid, laid_numbers, Laid, start_of, starts_of}
use Rattle.numbers.specs.Terms.{Term, columns_of, numbers_of, Wrote, LaidRows}
use Rattle.numbers.proofs.Laws.{set_inside, set_outside}
use Rattle.numbers.proofs.ListLaws.{laid_none, laid_append, rows_most, tabulate_more}
use Rattle.numbers.proofs.TermLaws.{wrote_none, wrote_append}

-- ---- a loop that lays the first n values of a list one after another, c of them done

pub record Copying {L A : Type 0} (put : L → ℕ → A → L) (vs : List A) (n from : ℕ) (xs₀ xs : L) (k c : ℕ) : Type 0 where
  pub high : c ≤ n
  pub place : k ≡ from + c
  pub wrote : Laid put xs₀ from (take c vs) xs k

module _ {L A : Type 0} {put : L → ℕ → A → L} {vs : List A} {n from : ℕ} where
  pub copying_start : {xs : L} → Copying put vs n from xs xs from 0
  copying_start = record { high = omega arith; place = omega arith; wrote = laid_none }

  pub copying_turn : (d : A) {xs₀ xs ys : L} {k r c : ℕ} → Copying put vs n from xs₀ xs k c → c < n → n ≤ length vs → Laid put xs k (get_or vs c d ∷ []) ys r
      → Copying put vs n from xs₀ ys r (c + 1)
  copying_turn d {c = c} u h b w =
      let e : take (c + 1) vs ≡ take c vs ++ (get_or vs c d ∷ []) = rw (add-one c) (take-suc vs c d (omega arith)) in
      record { high = omega arith; place = omega (arith, u.place, w.next); wrote = rw e (laid_append u.wrote w) }

  pub copying_end : {xs₀ xs : L} {k c : ℕ} → Copying put vs n from xs₀ xs k c → n ≤ c → Laid put xs₀ from (take n vs) xs k
  copying_end {c = c} u h = let e : c ≡ n = omega (arith, u.high) in rw e at u.wrote

  pub copying_whole : {xs₀ xs : L} {k c : ℕ} → Copying put vs n from xs₀ xs k c → length vs ≤ c → Laid put xs₀ from vs xs k
  copying_whole {c = c} u h = rw (take_all c vs h) at u.wrote

-- ---- a loop that lays rows of terms one behind another, and where each starts, r of n rows done

pub record Filling (row : ℕ → List Term) (n : ℕ) (ss₀ cs₀ : List ℕ) (xs₀ : List Float) (ss cs : List ℕ) (xs : List Float) (from r : ℕ) : Type 0 where
  pub high : r ≤ n
  pub starts : Laid set ss₀ 0 (tabulate (start_of row) r 0) ss r
  pub wrote : Wrote cs₀ xs₀ 0 (rows row r) cs xs from

module _ {row : ℕ → List Term} {n : ℕ} where
  pub filling_start : {ss cs : List ℕ} {xs : List Float} → Filling row n ss cs xs ss cs xs 0 0
  unfolding tabulate rows
  filling_start = record { high = omega arith; starts = laid_none; wrote = wrote_none }

  -- the next start is where the rows end
  more_starts : {ss₀ cs₀ ss cs ss' : List ℕ} {xs₀ xs : List Float} {from r k : ℕ} → Filling row n ss₀ cs₀ xs₀ ss cs xs from r
      → Laid set ss r (from ∷ []) ss' k → Laid set ss₀ 0 (tabulate (start_of row) (r + 1) 0) ss' k
  unfolding start_of
  more_starts {from = from} {r = r} u p =
      let e : from ≡ length (rows row r) = omega (arith, u.wrote.next) in
      rw (add-one r, tabulate_more (start_of row) r 0 r (omega arith), sym e) (laid_append u.starts p)

  pub filling_turn : {ss₀ cs₀ ss cs ss' cs' : List ℕ} {xs₀ xs xs' : List Float} {from from' r k : ℕ}
      → Filling row n ss₀ cs₀ xs₀ ss cs xs from r → r < n → Laid set ss r (from ∷ []) ss' k → Wrote cs xs from (row r) cs' xs' from'
      → Filling row n ss₀ cs₀ xs₀ ss' cs' xs' from' (r + 1)
  unfolding rows
  filling_turn {r = r} {k = k} u h p w =
      let e : r + 1 ≡ k = omega (arith, p.next) in
      record { high = omega arith; starts = rw (sym e) at (more_starts u p); wrote = rw (add-one r) (wrote_append u.wrote w) }

  -- how far it has come, with at most b terms in each row
  pub filling_most : {ss₀ cs₀ ss cs : List ℕ} {xs₀ xs : List Float} {from r : ℕ} (b : ℕ) → Filling row n ss₀ cs₀ xs₀ ss cs xs from r
      → ((q : ℕ) → q < n → length (row q) ≤ b) → from ≤ b * r
  filling_most {r = r} b u h = omega (arith, u.wrote.next, rows_most row b r (λ q l. h q (omega (arith, u.high))))

  pub filling_end : {ss₀ cs₀ ss cs ss' : List ℕ} {xs₀ xs : List Float} {from r k : ℕ}
      → Filling row n ss₀ cs₀ xs₀ ss cs xs from r → n ≤ r → Laid set ss n (from ∷ []) ss' k
      → LaidRows row n ss₀ 0 cs₀ xs₀ 0 ss' cs xs × (from ≡ length (rows row n))
  unfolding starts_of
  filling_end {r = r} u h p =
      let e : r ≡ n = omega (arith, u.high) in
      let q = rw e at (more_starts u (rw (sym e) at p)) in
      (record { starts_are = q.list; columns_are = rw e at u.wrote.columns; numbers_are = rw e at u.wrote.numbers }, omega (arith, rw e at u.wrote.next))

-- ---- a part of a list: what is laid over it is laid over the whole, further on

-- the part from n on, or from the end where n lies past it, and the whole with another part in its place
module _ {A : Type 0} (xs : List A) (n : ℕ) where
  module _ (a : ℕ) (e : a ≡ min n (length xs)) where
    part_is : take (length xs - a) (drop a xs) ≡ drop n xs
    part_is =
        let h : length (drop a xs) ≤ length xs - a = omega (arith, length-drop a xs) in
        take_all (length xs - a) (drop a xs) h ∙ (ap (λ (i : ℕ). drop i xs) e ∙ drop_min n xs)

    whole_is : (ys : List A) → take a xs ++ (ys ++ drop (length xs - a) (drop a xs)) ≡ take n xs ++ ys
    whole_is ys =
        let h : length (drop a xs) ≤ length xs - a = omega (arith, length-drop a xs) in
        rw (drop_of_length-le (drop a xs) h, append-nil ys)
        (ap (λ (i : ℕ). take i xs ++ ys) e ∙ ap (λ (l : List A). l ++ ys) (take_min n xs))

laid_empty : (k : ℕ) (vs : List ℕ) → laid [] k vs ≡ []
unfolding laid_by
laid_empty k [] = refl
laid_empty k (v ∷ vs) = laid_empty (suc k) vs

laid_further : (c : ℕ) (cs : List ℕ) (k : ℕ) (vs : List ℕ) → laid (c ∷ cs) (suc k) vs ≡ c ∷ laid cs k vs
unfolding laid_by
laid_further c cs k [] = refl
laid_further c cs k (v ∷ vs) = laid_further c (set cs k v) (suc k) vs

pub laid_part : (n : ℕ) (cs vs : List ℕ) → take n cs ++ laid (drop n cs) 0 vs ≡ laid cs n vs
laid_part zero cs vs = refl
laid_part (suc n) [] vs = laid_empty 0 vs ∙ sym (laid_empty (suc n) vs)
laid_part (suc n) (c ∷ cs) vs = ap (λ (l : List ℕ). c ∷ l) (laid_part n cs vs) ∙ sym (laid_further c cs n vs)

numbers_empty : (k : ℕ) (vs : List C64) → laid_numbers [] k vs ≡ []
unfolding laid_by
numbers_empty k [] = refl
numbers_empty k (v ∷ vs) = rw (set_outside [] k v (omega arith)) (numbers_empty (suc k) vs)

-- a list of one double has no place
numbers_odd : (x : Float) (k : ℕ) (vs : List C64) → laid_numbers (x ∷ []) k vs ≡ x ∷ []
unfolding laid_by
numbers_odd x k [] = refl
numbers_odd x k (v ∷ vs) = rw (set_outside (x ∷ []) k v (omega arith)) (numbers_odd x (suc k) vs)

set_further : (x y : Float) (xs : List Float) (k : ℕ) (v : C64) → set_number (x ∷ (y ∷ xs)) (suc k) v ≡ x ∷ (y ∷ set_number xs k v)
set_further x y xs k v = go (dec_lt k (length xs / 2))
  where
    go : Dec (k < length xs / 2) → set_number (x ∷ (y ∷ xs)) (suc k) v ≡ x ∷ (y ∷ set_number xs k v)
    go (yes h) =
        let e : 2 * suc k ≡ suc (suc (2 * k)) = omega arith in
        let f : 2 * suc k + 1 ≡ suc (suc (2 * k + 1)) = omega arith in
        set_inside (x ∷ (y ∷ xs)) (suc k) v (omega arith)
        ∙ (rw (f, e) refl)
        ∙ ap (λ (l : List Float). x ∷ (y ∷ l)) (sym (set_inside xs k v h))
    go (no h) =
        set_outside (x ∷ (y ∷ xs)) (suc k) v (omega arith)
        ∙ ap (λ (l : List Float). x ∷ (y ∷ l)) (sym (set_outside xs k v (omega arith)))

numbers_further : (x y : Float) (xs : List Float) (k : ℕ) (vs : List C64) → laid_numbers (x ∷ (y ∷ xs)) (suc k) vs ≡ x ∷ (y ∷ laid_numbers xs k vs)
unfolding laid_by
numbers_further x y xs k [] = refl
numbers_further x y xs k (v ∷ vs) = rw (set_further x y xs k v) (numbers_further x y (set_number xs k v) (suc k) vs)

pub laid_numbers_part : (n : ℕ) (xs : List Float) (vs : List C64) → take (2 * n) xs ++ laid_numbers (drop (2 * n) xs) 0 vs ≡ laid_numbers xs n vs
laid_numbers_part zero xs vs = refl
laid_numbers_part (suc n) [] vs =
    let e : 2 * suc n ≡ suc (suc (2 * n)) = omega arith in
    rw e (numbers_empty 0 vs ∙ sym (numbers_empty (suc n) vs))
laid_numbers_part (suc n) (x ∷ []) vs =
    let e : 2 * suc n ≡ suc (suc (2 * n)) = omega arith in
    rw e (ap (λ (l : List Float). x ∷ l) (numbers_empty 0 vs) ∙ sym (numbers_odd x (suc n) vs))
laid_numbers_part (suc n) (x ∷ (y ∷ xs)) vs =
    let e : 2 * suc n ≡ suc (suc (2 * n)) = omega arith in
    rw e (ap (λ (l : List Float). x ∷ (y ∷ l)) (laid_numbers_part n xs vs) ∙ sym (numbers_further x y xs n vs))

-- terms that were laid over the parts from place n on were laid over the whole lists
pub wrote_part : {cs ds : List ℕ} {xs ys : List Float} {n a b r : ℕ} {ts : List Term}
    → a ≡ min n (length cs) → b ≡ min (2 * n) (length xs)
    → Wrote (take (length cs - a) (drop a cs)) (take (length xs - b) (drop b xs)) 0 ts ds ys r
    → Wrote cs xs n ts
    (take a cs ++ (ds ++ drop (length cs - a) (drop a cs)))
    (take b xs ++ (ys ++ drop (length xs - b) (drop b xs)))
    (n + r)
wrote_part {cs} {ds} {xs} {ys} {n} {a} {b} {r} {ts} e f w =
    record {
      columns =
          whole_is cs n a e ds
          ∙ (ap (λ (l : List ℕ). take n cs ++ l) (w.columns ∙ ap (λ (l : List ℕ). laid l 0 (columns_of ts)) (part_is cs n a e))
          ∙ laid_part n cs (columns_of ts));
      numbers =
          whole_is xs (2 * n) b f ys
          ∙ (ap (λ (l : List Float). take (2 * n) xs ++ l) (w.numbers ∙ ap (λ (l : List Float). laid_numbers l 0 (numbers_of ts)) (part_is xs (2 * n) b f))
          ∙ laid_numbers_part n xs (numbers_of ts));
      next = omega (arith, w.next);
    }

-- values laid where the list has room for them: what is before, the values, what is behind
laid_front : (xs vs : List ℕ) → length vs ≤ length xs → laid xs 0 vs ≡ vs ++ drop (length vs) xs
unfolding laid_by
laid_front xs [] h = refl
laid_front [] (v ∷ vs) h = absurd (omega arith)
laid_front (x ∷ xs) (v ∷ vs) h = sym (laid_part 1 (v ∷ xs) vs) ∙ ap (λ (ys : List ℕ). v ∷ ys) (laid_front xs vs (omega arith))

pub laid_whole : (xs : List ℕ) (s : ℕ) (vs : List ℕ) → s + length vs ≤ length xs → laid xs s vs ≡ take s xs ++ (vs ++ drop (s + length vs) xs)
laid_whole xs s vs h =
    sym (laid_part s xs vs)
    ∙ ap (λ (ys : List ℕ). take s xs ++ ys)
    (laid_front (drop s xs) vs (omega (arith, length-drop s xs)) ∙ ap (λ (ys : List ℕ). vs ++ ys) (drop-drop (length vs) s xs))
