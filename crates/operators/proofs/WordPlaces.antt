-- The lowest set digit of a word, the first place of a set at or behind another, and words with the same places.
-- Assumes nothing.
use Prim.Native.Nat.{ℕ, zero, suc, ◌+◌, ◌-◌, ◌/◌, ◌%◌, ◌^◌, ◌<◌, ◌≤◌}
use mathlib.Core.Path.{◌≡◌, refl, sym, ◌∙◌, ap, subst}
use mathlib.Core.Bool.{false, true, true≢false, false≢true}
use mathlib.Core.List.{List}
use native.Mathlib.Nat.{mod-lt, zero-lt-suc, zero-div, div-eq_of_lt, div-one, zero-add, suc-add}
use native.Mathlib.Omega.{arith}
use lib.Count.{count_trailing_zeros}
use lib.Dec.{eqb}
use native.Mathlib.Decide.{dec_lt}
use lib.Pow.{shr-shr, pow_mono}
use mir.Syntax.{w64}
use Rattle.std.proofs.lemmas.Nat.{shr_le}
use Rattle.std.proofs.lemmas.Nat.Bits.{bit_at-trailing_zeros}
use Rattle.std.proofs.lemmas.Bool.{or_parts}
use Rattle.operators.specs.Bits.{bit_at, mix_of, NextPlace}
use Rattle.operators.proofs.WordLaws.{bit_mix}

-- ---- the first place of a set

pub next_out : (w i : ℕ) → i ≤ 64 → 64 ≤ i → NextPlace w i 64
next_out w i h g = record { from = h; last = omega arith; none = λ k p q. absurd (omega arith); here = λ p. absurd (omega arith) }

module _ (w i : ℕ) (low : i < 64) where
  shifted : (k : ℕ) → i ≤ k → w / 2 ^ k ≡ w / 2 ^ i / 2 ^ (k - i)
  shifted k h =
      let e : k ≡ i + (k - i) = omega arith in
      ap (λ (x : ℕ). w / 2 ^ x) e ∙ sym (shr-shr w i (k - i))

  pub next_none : w / 2 ^ i ≡ 0 → NextPlace w i 64
  unfolding bit_at
  next_none e = record { from = omega arith; last = omega arith; none = λ k h g. rw (shifted k h, e, zero-div (2 ^ (k - i))); here = λ h. absurd (omega arith) }

  pub next_some : w < 2 ^ 64 → 0 < w / 2 ^ i → NextPlace w i (i + count_trailing_zeros 64 (w / 2 ^ i))
  unfolding bit_at
  next_some word p =
      record {
        from = omega arith;
        last = omega (arith, short);
        none = λ k h g. rw (shifted k h, lowest.1 (k - i) (omega arith));
        here = λ h. rw (← shr-shr w i z, lowest.0);
      }
    where
      z : ℕ
      z = count_trailing_zeros 64 (w / 2 ^ i)

      lowest : (w / 2 ^ i / 2 ^ z % 2 ≡ 1) × ((k : ℕ) → k < z → w / 2 ^ i / 2 ^ k % 2 ≡ 0)
      lowest = let h = bit_at-trailing_zeros w64 (w / 2 ^ i) p (omega (arith, shr_le w i, word)) in (h.1, h.2)

      -- a word has no digit behind its last
      short : i + z < 64
      short = go (dec_lt (i + z) 64)
        where
          go : Dec (i + z < 64) → i + z < 64
          go (yes h) = h
          go (no h) =
              let g : w < 2 ^ (i + z) = omega (arith, word, pow_mono {i = 64} {j = i + z} (omega arith)) in
              let e : w / 2 ^ i / 2 ^ z ≡ 0 = shr-shr w i z ∙ div-eq_of_lt g in
              absurd (omega (arith, lowest.0, e))

-- what stays where w has not the place stays up to w's next place
pub next_same : {i r : ℕ} (w : ℕ) (f : ℕ → List ℕ) → ((k : ℕ) → bit_at w k ≡ false → f k ≡ f (suc k)) → NextPlace w i r → f i ≡ f r
next_same {i} {r} w f pass o =
    let e : r - i + i ≡ r = omega (arith, o.from) in
    subst (λ (q : ℕ). f i ≡ f q) e (go (r - i) (omega arith))
  where
    go : (d : ℕ) → d ≤ r - i → f i ≡ f (d + i)
    go zero h = rw (zero-add i)
    go (suc d) h = rw (suc-add d i) (go d (omega arith) ∙ pass (d + i) (o.none (d + i) (omega arith) (omega arith)))

-- a place that the union has not, neither has
pub union_none : (a b k : ℕ) → bit_at (mix_of true a true b) k ≡ false → (bit_at a k ≡ false) × (bit_at b k ≡ false)
union_none a b k e = or_parts (bit_at a k) (bit_at b k) (sym (bit_mix true a true b k) ∙ e)

-- ---- words with the same places are the same

half_digit : (n j : ℕ) → n / 2 ^ suc j % 2 ≡ n / 2 / 2 ^ j % 2
half_digit n j =
    let e : suc j ≡ 1 + j = omega arith in
    rw e (ap (λ (x : ℕ). x % 2) (sym (shr-shr n 1 j)))

digit_same : (u v : ℕ) → u < 2 → v < 2 → eqb u 1 ≡ eqb v 1 → u ≡ v
digit_same zero zero h g e = refl
digit_same zero (suc zero) h g e = absurd (false≢true e)
digit_same (suc zero) zero h g e = absurd (true≢false e)
digit_same (suc zero) (suc zero) h g e = refl
digit_same zero (suc (suc v)) h g e = absurd (omega arith)
digit_same (suc zero) (suc (suc v)) h g e = absurd (omega arith)
digit_same (suc (suc u)) v h g e = absurd (omega arith)

same_below : (d u v : ℕ) → u ≤ d → v ≤ d → ((k : ℕ) → eqb (u / 2 ^ k % 2) 1 ≡ eqb (v / 2 ^ k % 2) 1) → u ≡ v
same_below zero u v h g same = omega arith
same_below (suc d) u v h g same =
    let half : u / 2 ≡ v / 2 = same_below d (u / 2) (v / 2) (omega arith) (omega arith) (λ k. rw (← half_digit u k, ← half_digit v k) (same (suc k))) in
    let low : u % 2 ≡ v % 2 = digit_same (u % 2) (v % 2) (mod-lt u (zero-lt-suc 1)) (mod-lt v (zero-lt-suc 1)) (rw (div-one u, div-one v) at (same 0)) in
    omega arith

pub same_places : (u v : ℕ) → ((k : ℕ) → bit_at u k ≡ bit_at v k) → u ≡ v
unfolding bit_at
same_places u v same = same_below (u + v) u v (omega arith) (omega arith) same
