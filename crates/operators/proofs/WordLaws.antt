-- Bits of unions, of single places and of the empty word; words gathered from words.
-- Assumes nothing.
use Prim.Native.Nat.{ℕ, zero, suc, ◌+◌, ◌-◌, ◌*◌, ◌/◌, ◌%◌, ◌^◌, ◌<◌, max}
use mathlib.Core.Path.{◌≡◌, refl, sym, ◌∙◌, ap}
use mathlib.Core.Bool.{Bool, true, false, cond, ◌&&◌, ◌||◌}
use mathlib.Core.List.{List}
use native.Mathlib.Nat.{mod-lt, zero-div, div-eq_of_lt, zero-lt-suc, div_self, mod-eq_of_lt, pow-suc}
use native.Mathlib.Omega.{arith}
use native.Mathlib.Decide.{ℕ_discrete, dec_lt}
use native.Mathlib.Numerals.{add-one}
use borrow.Author.Tests.{eq-eqb, ne_eqb}
use lib.Dec.{eqb}
use lib.Pow.{pow_pos, pow-lt, pow-add, shl-shr}
use lib.Bits.{bit_or, or_shr, or_step, or_zero_l, or_zero_r}
use lib.ListN.{length}
use Rattle.numbers.specs.Lists.{tabulate, contains, entry_at}
use Rattle.numbers.proofs.Equations.{tabulate_zero, contains_nil}
use Rattle.numbers.proofs.ListLaws.{tabulate_more}
use Rattle.numbers.proofs.TabulateLaws.{is_tabulate}
use Rattle.operators.specs.Bits.{bit_at, mix_of, single, gathered, set_of}
use Rattle.operators.specs.Relation.{some}
use Rattle.numbers.proofs.StartLaws.{contains_last}

two_pos : 0 < 2
two_pos = zero-lt-suc 1

digit : (u v : ℕ) → u < 2 → v < 2 → eqb (max u v) 1 ≡ (eqb u 1 || eqb v 1)
digit zero zero h g = refl
digit zero (suc zero) h g = refl
digit zero (suc (suc v)) h g = absurd (omega arith)
digit (suc zero) zero h g = refl
digit (suc zero) (suc zero) h g = refl
digit (suc zero) (suc (suc v)) h g = absurd (omega arith)
digit (suc (suc u)) v h g = absurd (omega arith)

pub bit_or_lem : (a b k : ℕ) → bit_at (bit_or a b) k ≡ (bit_at a k || bit_at b k)
unfolding bit_at
bit_or_lem a b k = go (a / 2 ^ k) (b / 2 ^ k) (or_shr a b k)
  where
    go : (x y : ℕ) → bit_or a b / 2 ^ k ≡ bit_or x y → eqb (bit_or a b / 2 ^ k % 2) 1 ≡ (eqb (x % 2) 1 || eqb (y % 2) 1)
    go x y e =
        let s : bit_or x y ≡ bit_or (x / 2) (y / 2) * 2 + max (x % 2) (y % 2) = or_step x y in
        let m : bit_or x y % 2 ≡ max (x % 2) (y % 2) = omega (arith, mod-lt x two_pos, mod-lt y two_pos) in
        rw (e, m) (digit (x % 2) (y % 2) (mod-lt x two_pos) (mod-lt y two_pos))

pub bit_none : (k : ℕ) → bit_at 0 k ≡ false
unfolding bit_at
bit_none k = rw (zero-div (2 ^ k))

pub bit_cond : (a : Bool) (t k : ℕ) → bit_at (cond a t 0) k ≡ (a && bit_at t k)
bit_cond true t k = refl
bit_cond false t k = bit_none k

pub bit_mix : (a : Bool) (t : ℕ) (b : Bool) (s k : ℕ) → bit_at (mix_of a t b s) k ≡ ((a && bit_at t k) || (b && bit_at s k))
unfolding mix_of
bit_mix a t b s k = rw (bit_or_lem (cond a t 0) (cond b s 0) k, bit_cond a t k, bit_cond b s k)

pub bit_unit : (k j : ℕ) → bit_at (2 ^ k) j ≡ eqb j k
unfolding bit_at
bit_unit k j = go (ℕ_discrete j k) (dec_lt j k)
  where
    go : Dec (j ≡ k) → Dec (j < k) → eqb (2 ^ k / 2 ^ j % 2) 1 ≡ eqb j k
    go (yes e) d =
        let f : 2 ^ k / 2 ^ k ≡ 1 = div_self (pow_pos k) in
        rw (e, f, eq-eqb k k refl)
    go (no ne) (yes l) =
        let e : k ≡ suc (k - suc j) + j = omega arith in
        let f : 2 ^ k / 2 ^ j ≡ 2 ^ suc (k - suc j) = ap (λ (m : ℕ). 2 ^ m / 2 ^ j) e ∙ ap (λ (m : ℕ). m / 2 ^ j) (pow-add 2 (suc (k - suc j)) j) ∙ shl-shr (2 ^ suc (k - suc j)) j in
        let g : 2 ^ suc (k - suc j) ≡ 2 ^ (k - suc j) * 2 = pow-suc 2 (k - suc j) in
        let m : 2 ^ k / 2 ^ j % 2 ≡ 0 = omega arith in
        rw (m, ne_eqb j k ne)
    go (no ne) (no l) =
        let f : 2 ^ k / 2 ^ j ≡ 0 = div-eq_of_lt (pow-lt (omega arith)) in
        rw (f, ne_eqb j k ne)

pub mix_left : (t s : ℕ) → t ≡ mix_of true t false s
unfolding mix_of
mix_left t s = sym (or_zero_r t)

pub mix_right : (t s : ℕ) → s ≡ mix_of false t true s
unfolding mix_of
mix_right t s = sym (or_zero_l s)

pub mix_none : (t s : ℕ) → mix_of false t false s ≡ 0
unfolding mix_of
mix_none t s = or_zero_l 0

-- the machine's shift
pub single_shifted : (k : ℕ) → k < 64 → 1 * 2 ^ k % 2 ^ 64 ≡ single k
single_shifted k h =
    let e : 1 * 2 ^ k ≡ 2 ^ k = omega arith in
    rw e (mod-eq_of_lt (pow-lt h))

-- ---- unions of words

pub gathered_none : (p : ℕ → Bool) (w : ℕ → ℕ) → 0 ≡ gathered 0 p w
unfolding gathered
gathered_none p w = refl

pub gathered_turn : {u u' k v : ℕ} {b : Bool} (p : ℕ → Bool) (w : ℕ → ℕ) → u ≡ gathered k p w → b ≡ p k → v ≡ w k → u' ≡ mix_of true u b v → u' ≡ gathered (k + 1) p w
unfolding gathered
gathered_turn {k = k} p w e f g h = rw (add-one k, ← e, ← f, ← g) h

-- only what stands below n counts
pub gathered_agree : (n : ℕ) {p p' : ℕ → Bool} {w w' : ℕ → ℕ} → ((k : ℕ) → k < n → p k ≡ p' k) → ((k : ℕ) → k < n → w k ≡ w' k) → gathered n p w ≡ gathered n p' w'
unfolding gathered
gathered_agree zero f g = refl
gathered_agree (suc n) f g = rw (gathered_agree n (λ k h. f k (omega arith)) (λ k h. g k (omega arith)), f n (omega arith), g n (omega arith))

pub bit_gathered : (n : ℕ) (p : ℕ → Bool) (w : ℕ → ℕ) (j : ℕ) → bit_at (gathered n p w) j ≡ some n (λ k. p k && bit_at (w k) j)
unfolding gathered some
bit_gathered zero p w j = bit_none j
bit_gathered (suc n) p w j = bit_mix true (gathered n p w) (p n) (w n) j ∙ rw (bit_gathered n p w j)

-- the union of single places
bit_places : (f : ℕ → ℕ) (n j : ℕ) → bit_at (gathered n (λ k. true) (λ k. single (f k))) j ≡ contains j (tabulate f n 0)
unfolding gathered
bit_places f zero j = rw (tabulate_zero, contains_nil) (bit_none j)
bit_places f (suc n) j =
    bit_mix true (gathered n (λ k. true) (λ k. single (f k))) true (single (f n)) j
    ∙ rw (bit_places f n j, bit_unit (f n) j, tabulate_more f n 0 n (omega arith)) (sym (contains_last j (f n) (tabulate f n 0)))

pub bit_set : (ms : List ℕ) (j : ℕ) → bit_at (set_of ms) j ≡ contains j ms
unfolding set_of
bit_set ms j = bit_places (entry_at ms) (length ms) j ∙ ap (contains j) (sym (is_tabulate (entry_at ms) (length ms) 0 ms refl (λ i h. refl)))
