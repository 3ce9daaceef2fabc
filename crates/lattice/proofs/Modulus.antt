-- The joining test re re + im im ≤ T T, with each operation rounded, agrees with the test of the modulus |re| ≤ T where im is a zero: for every
-- double re, the NaN, infinities and subnormals included, and the T of each of the 12 levels.
-- Where |re| ≤ T the square rounds to T T at most, which is a double. Where |re| > T the exact square is no less than the double behind T T.
-- Assumes nothing.
use Prim.Native.Nat.{ℕ, zero, suc, ◌+◌, ◌*◌, ◌%◌, ◌^◌, ◌≤◌, ◌<◌}
use mathlib.Core.Path.{◌≡◌, refl, sym, ap, ◌∙◌}
use mathlib.Core.Logic.{◌⊎◌, inl, inr}
use mathlib.Core.Bool.{Bool, true, false, not, ◌&&◌, ◌||◌, cond, true≢false}
use mathlib.Core.List.{List}
use native.Mathlib.Nat.{le_of_lt, le_of_eq, lt_of_lt_of_le, mul-pos, mul_assoc, mul-one, zero-mul, mul-le-mul, mul-le-mul_right, pow-suc}
use native.Mathlib.Omega.{arith}
use borrow.Author.Tests.{eqb-true}
use lib.Dec.{T, leb, ltb, eqb, leb→le, nleb→lt, ltb→lt, eqb→eq, lit<}
use lib.Pow.{pow-add, pow_pos, pow_mono, shl_lt}
use lib.IntN.{ℤ, pos, negsuc}
use lib.ListN.{get_or}
use lib.Ieee.{Float, nan, inf, fin, binary64, prec, emax, low, up, down, unlike, odd, units, round, add, mul, le, eq, of_bits, of_int, fits}
use lib.Ieee.Fits.{and_l, and_r, up_pos, down_pos, sub-fits, round_is}
use lib.Ieee.Exact.{HasValue, round_exact}
use lib.Ieee.Order.{transfer, le_of_values, round_mono, kept, drop}
use lib.Ieee.Scale.{round_same}
use lib.Ieee.Positive.{positive_of_value, between, le_trans_positive}
use Rattle.std.proofs.lemmas.Bool.{and_parts}
use Rattle.numbers.specs.declared.C64.{C64}
use Rattle.numbers.specs.Complex.{add_f, mul_f, zero_f, no_number, difference, squares}
use Rattle.lattice.specs.Line.{joins_by, joins}
use Rattle.lattice.specs.Levels.{target}
use Rattle.lattice.specs.Modulus.{abs_f}
use Rattle.lattice.proofs.TargetLaws.{squared, target_value, square_value, square_exact}
use Rattle.numbers.proofs.Equations.{squares_is, difference_is}

same_test : (a b : Bool) → (T a → T b) → (T b → T a) → a ≡ b
same_test true true h k = refl
same_test true false h k = absurd (h tt)
same_test false true h k = absurd (k tt)
same_test false false h k = refl

-- ---- two values that are not negative compare as the fractions that they equal

or_split : (a b : Bool) → T (a || b) → T a ⊎ T b
or_split true b t = inl tt
or_split false b t = inr t

lt_or_eq : (a b : ℕ) → T (ltb a b || (eqb a b && true)) → a ≤ b
lt_or_eq a b t =
    elim (or_split (ltb a b) (eqb a b && true) t) [
      | inl u ↦ le_of_lt (ltb→lt a b u)
      | inr u ↦ le_of_eq (eqb→eq a b (and_l (eqb a b) true u))
    ]

values_le : (x y : Float) (a c b d : ℕ) → HasValue x false a c → HasValue y false b d → T (le x y) → a * d ≤ b * c
unfolding le
values_le nan y a c b d h k l = absurd h
values_le (inf s) y a c b d h k l = absurd h
values_le (fin true m e) y a c b d h k l = absurd (true≢false h.0)
values_le (fin false m e) nan a c b d h k l = absurd k
values_le (fin false m e) (inf t) a c b d h k l = absurd k
values_le (fin false m e) (fin true n g) a c b d h k l = absurd (true≢false k.0)
values_le (fin false m e) (fin false n g) a c b d h k l =
    transfer a b c d (m * up e) (n * up g) (down e) (down g) (down_pos e) (down_pos g) (sym h.1) (sym k.1)
    (lt_or_eq (m * up e * down g) (n * up g * down e) l)

-- no infinity is below a finite value
inf_above : (y : Float) (b d : ℕ) → HasValue y false b d → le (inf false) y ≡ false
unfolding le
inf_above nan b d k = absurd k
inf_above (inf t) b d k = absurd k
inf_above (fin t n g) b d k = refl

-- ---- what `round` makes of a fraction that is not negative: +inf, or a finite value with the sign clear

abbrev Plain : Float → Type 0
Plain x = (x ≡ inf false) ⊎ ((m : ℕ) × (e : ℤ) × (x ≡ fin false m e))

odd_plain : (d q k l : ℕ) → Plain (odd d false q k l)
unfolding odd
odd_plain d zero k l = inr (zero, pos zero, refl)
odd_plain d (suc q) k l = inr (_, _, refl)

units_plain : (q k : ℕ) → Plain (units binary64 false q k)
unfolding units
units_plain q k = go (ltb (q * 2 ^ k) (2 ^ (low binary64 + suc (emax binary64))))
  where
    go : (b : Bool) → Plain (cond b (odd (suc (prec binary64)) false q k (low binary64)) (inf false))
    go true = odd_plain (suc (prec binary64)) q k (low binary64)
    go false = inl refl

round_plain : (a c : ℕ) → Plain (round binary64 false a c)
round_plain a c =
    let n = a * 2 ^ low binary64 in
    rw (round_is binary64 false a c) (units_plain (kept 53 n c) (drop 53 n c))

-- ---- to add +0 keeps a value on its side of a bound that is a double

abbrev plus_zero : Float → Float
plus_zero x = add_f x (fin false 0 (pos 0))

plus_zero_lem : (m : ℕ) (e : ℤ) → plus_zero (fin false m e) ≡ round binary64 false (m * up e) (down e)
unfolding add
plus_zero_lem m e =
    round_same binary64 false (m * up e * 1 + 0 * 1 * down e) (down e * 1) (m * up e) (down e) (mul-pos (down_pos e) (lit< tt)) (down_pos e)
    (simp (mul-one, zero-mul) (omega arith))

inf_plus : (x : Float) → x ≡ inf false → plus_zero x ≡ inf false
unfolding add
inf_plus x p = rw p

module _ (b d : ℕ) (D : 0 < d) (v : HasValue (round binary64 false b d) false b d) where
  keeps_below : (x : Float) → Plain x → T (le x (round binary64 false b d)) → T (le (plus_zero x) (round binary64 false b d))
  keeps_below x (inl p) h = rw (inf_plus x p) (rw p at h)
  keeps_below x (inr (m, e, p)) h =
      rw (p, plus_zero_lem m e)
      (round_mono binary64 (m * up e) (down e) b d (down_pos e) D
      (values_le (fin false m e) (round binary64 false b d) (m * up e) (down e) b d (refl, refl) v (rw p at h)))

  keeps_above : (x : Float) → Plain x → T (le (round binary64 false b d) x) → T (le (round binary64 false b d) (plus_zero x))
  keeps_above x (inl p) h = rw (inf_plus x p) (rw p at h)
  keeps_above x (inr (m, e, p)) h =
      rw (p, plus_zero_lem m e)
      (round_mono binary64 b d (m * up e) (down e) D (down_pos e)
      (values_le (round binary64 false b d) (fin false m e) b d (m * up e) (down e) v (refl, refl) (rw p at h)))

-- ---- the square of a zero is +0

zero_factor : (n u v : ℕ) → 0 < u → n * u * 1 ≡ 0 * 1 * v → n ≡ 0
zero_factor zero u v U e = refl
zero_factor (suc n) u v U e = absurd (no (suc n * u) (mul-pos (omega arith) U) (simp (mul-one, zero-mul) at e))
  where
    no : (k : ℕ) → 0 < k → k ≡ 0 → ⊥
    no k h e = omega arith

unlike_same : (s : Bool) → unlike s s ≡ false
unlike_same true = refl
unlike_same false = refl

square_at : (s : Bool) (m : ℕ) (e : ℤ) → mul_f (fin s m e) (fin s m e) ≡ round binary64 false (m * up e * (m * up e)) (down e * down e)
unfolding mul
square_at s m e = rw (unlike_same s)

round_zero : (c : ℕ) → 0 < c → round binary64 false 0 c ≡ fin false 0 (pos 0)
unfolding round
round_zero c C = round_same binary64 false 0 c 0 1 C (lit< tt) (omega arith)

zero_square : (y : Float) → eq y zero_f ≡ true → mul_f y y ≡ fin false 0 (pos 0)
unfolding eq of_bits
zero_square nan h = absurd (true≢false (sym h))
zero_square (inf s) h = absurd (true≢false (sym h))
zero_square (fin s n e) h =
    let z : n ≡ 0 = zero_factor n (up e) (down e) (up_pos e) (eqb-true _ _ ((and_parts _ _ h).0)) in
    rw (square_at s n e, z, zero-mul, zero-mul) (round_zero (down e * down e) (mul-pos (down_pos e) (down_pos e)))

-- ---- the numbers: A / c is |re|, and 3 p is T

-- |re| ≤ T: the squares are in that order
square_below : (A c p w : ℕ) → w ≡ p * p → A ≤ 3 * p * c → A * A * 1 ≤ 9 * w * (c * c)
square_below A c p w e h = let k : A * A ≤ 3 * p * c * (3 * p * c) = mul-le-mul h h in rw e (omega arith)

-- |re| > T: the square is no less than (9 N + 1) p p / N, which at N = 2^49 is the double behind T T
square_above : (A c p w N : ℕ) → w ≡ p * p → 3 * p * c < A → p * c ≤ 6 * N → (9 * N + 1) * w * (c * c) ≤ A * A * N
square_above A c p w N e h k =
    let a : (3 * p * c + 1) * (3 * p * c + 1) * N ≤ A * A * N = mul-le-mul_right N (mul-le-mul (omega arith) (omega arith)) in
    let b : p * c * (p * c) ≤ 6 * N * (p * c) = mul-le-mul_right (p * c) k in
    rw e (omega arith)

-- a double above T has few digits behind the point
few : (L m : ℕ) (e : ℤ) → L < 12 → m < 2 ^ 53 → 3 * 2 ^ L * down e < m * up e → 2 ^ L * down e ≤ 6 * 2 ^ 49
few L m (pos k) l h g = let p : 2 ^ L ≤ 2 ^ 11 = pow_mono {i = L} {j = 11} (omega arith) in omega arith
few L m (negsuc k) l h g = omega arith

short : (m : ℕ) (s : Bool) (e : ℤ) → T (fits binary64 (fin s m e)) → m < 2 ^ 53
unfolding fits
short zero s e h = lit< tt
short (suc m) s e h =
    ltb→lt (suc m) (2 ^ 53)
    (and_r (eqb (suc m % 2) 1) (ltb (suc m) (2 ^ 53))
    (and_l (eqb (suc m % 2) 1 && ltb (suc m) (2 ^ 53)) (leb (down e) (2 ^ 1074))
    (and_l (eqb (suc m % 2) 1 && ltb (suc m) (2 ^ 53) && leb (down e) (2 ^ 1074)) (ltb (suc m * up e) (2 ^ 1024 * down e)) h)))

four : (L : ℕ) → 4 ^ L ≡ 2 ^ L * 2 ^ L
four zero = refl
four (suc L) = rw (pow-suc 4 L, pow-suc 2 L, four L) (omega arith)

four_pos : (L : ℕ) → 0 < 4 ^ L
four_pos L = rw (four L) (mul-pos (pow_pos L) (pow_pos L))

-- ---- the double behind T T

shifted : (q w x l j d : ℕ) → w ≡ 2 ^ x → x + l ≡ j + d → q * w * 2 ^ l ≡ q * 2 ^ j * 2 ^ d
shifted q w x l j d e h =
    rw e
    (mul_assoc q (2 ^ x) (2 ^ l)
    ∙ ap (λ (z : ℕ). q * z) (sym (pow-add 2 x l) ∙ ap (λ (z : ℕ). 2 ^ z) h ∙ pow-add 2 j d)
    ∙ sym (mul_assoc q (2 ^ j) (2 ^ d)))

abbrev behind : ℕ → Float
behind L = round binary64 false ((9 * 2 ^ 49 + 1) * 4 ^ L) (2 ^ 49)

behind_value : (L : ℕ) → L < 12 → HasValue (behind L) false ((9 * 2 ^ 49 + 1) * 4 ^ L) (2 ^ 49)
behind_value L l =
    round_exact binary64 false ((9 * 2 ^ 49 + 1) * 4 ^ L) (2 ^ 49) (9 * 2 ^ 49 + 1) (L + L + 1025) (pow_pos 49) (lit< tt)
    (lt_of_lt_of_le (shl_lt 53 (L + L + 1025) (lit< tt)) (pow_mono {i = 53 + (L + L + 1025)} {j = 2098} (omega arith)))
    (shifted (9 * 2 ^ 49 + 1) (4 ^ L) (L + L) 1074 (L + L + 1025) 49 (four L ∙ sym (pow-add 2 L L)) (omega arith))

-- nothing is no less than it and T T or less
apart : (w N : ℕ) → 0 < w → (9 * N + 1) * w * 1 ≤ 9 * w * N → ⊥
apart w N h k = omega arith

not_both : (L : ℕ) (y : Float) → L < 12 → T (le (behind L) y) → T (le y (squared L)) → ⊥
not_both L y l h k =
    let t = squared L in
    let v = behind_value L l in
    let w = square_value L l in
    let p = positive_of_value (behind L) ((9 * 2 ^ 49 + 1) * 4 ^ L) (2 ^ 49) v (mul-pos (lit< tt) (four_pos L)) in
    let q = positive_of_value t (9 * 4 ^ L) 1 w (mul-pos (lit< tt) (four_pos L)) in
    apart (4 ^ L) (2 ^ 49) (four_pos L)
    (values_le (behind L) t ((9 * 2 ^ 49 + 1) * 4 ^ L) (2 ^ 49) (9 * 4 ^ L) 1 v w
    (le_trans_positive (behind L) y t p (between (behind L) y t p q h k) q h k))

-- ---- the two tests agree

module _ (L : ℕ) (l : L < 12) where
  squared_is : squared L ≡ round binary64 false (9 * 4 ^ L) 1
  unfolding of_int
  squared_is = square_exact L l

  -- |re| ≤ T: the test passes
  joins_if : (A c : ℕ) → 0 < c → A ≤ 3 * 2 ^ L * c → T (le (plus_zero (round binary64 false (A * A) (c * c))) (squared L))
  joins_if A c C h =
      rw squared_is
      (keeps_below (9 * 4 ^ L) 1 (lit< tt) (rw squared_is at (square_value L l)) (round binary64 false (A * A) (c * c)) (round_plain (A * A) (c * c))
      (round_mono binary64 (A * A) (c * c) (9 * 4 ^ L) 1 (mul-pos C C) (lit< tt) (square_below A c (2 ^ L) (4 ^ L) (four L) h)))

  -- |re| > T: it does not
  joins_not : (A c : ℕ) → 0 < c → 3 * 2 ^ L * c < A → 2 ^ L * c ≤ 6 * 2 ^ 49
      → T (le (plus_zero (round binary64 false (A * A) (c * c))) (squared L)) → ⊥
  joins_not A c C h k t =
      not_both L (plus_zero (round binary64 false (A * A) (c * c))) l
      (keeps_above ((9 * 2 ^ 49 + 1) * 4 ^ L) (2 ^ 49) (pow_pos 49) (behind_value L l) (round binary64 false (A * A) (c * c)) (round_plain (A * A) (c * c))
      (round_mono binary64 ((9 * 2 ^ 49 + 1) * 4 ^ L) (2 ^ 49) (A * A) (c * c) (pow_pos 49) (mul-pos C C) (square_above A c (2 ^ L) (4 ^ L) (2 ^ 49) (four L) h k)))
      t

  agree_nan : le (plus_zero (mul_f nan nan)) (squared L) ≡ le (abs_f nan) (target L)
  unfolding abs_f add mul le
  agree_nan = refl

  agree_inf : (s : Bool) → le (plus_zero (mul_f (inf s) (inf s))) (squared L) ≡ le (abs_f (inf s)) (target L)
  unfolding abs_f add mul
  agree_inf s = rw (unlike_same s, inf_above (squared L) (9 * 4 ^ L) 1 (square_value L l), inf_above (target L) (3 * 2 ^ L) 1 (target_value L l))

  agree_fin : (s : Bool) (m : ℕ) (e : ℤ) → T (fits binary64 (fin s m e))
      → le (plus_zero (mul_f (fin s m e) (fin s m e))) (squared L) ≡ le (abs_f (fin s m e)) (target L)
  unfolding abs_f
  agree_fin s m e f =
      rw (square_at s m e)
      (same_test (le (plus_zero (round binary64 false (m * up e * (m * up e)) (down e * down e))) (squared L)) (le (fin false m e) (target L))
      (go (leb (m * up e) (3 * 2 ^ L * down e)) (leb→le (m * up e) (3 * 2 ^ L * down e)) (nleb→lt (m * up e) (3 * 2 ^ L * down e)))
      (λ t. joins_if (m * up e) (down e) (down_pos e) (rw mul-one at (values_le (fin false m e) (target L) (m * up e) (down e) (3 * 2 ^ L) 1 (refl, refl) (target_value L l) t))))
    where
      go : (b : Bool) → (T b → m * up e ≤ 3 * 2 ^ L * down e) → (T (not b) → 3 * 2 ^ L * down e < m * up e)
          → T (le (plus_zero (round binary64 false (m * up e * (m * up e)) (down e * down e))) (squared L))
          → T (le (fin false m e) (target L))
      go true h k t = le_of_values (fin false m e) (target L) (m * up e) (down e) (3 * 2 ^ L) 1 (down_pos e) (lit< tt) (refl, refl) (target_value L l) (rw mul-one (h tt))
      go false h k t = absurd (joins_not (m * up e) (down e) (down_pos e) (k tt) (few L m e l (short m s e f) (k tt)) t)

  agree : (x : Float) → T (fits binary64 x) → le (plus_zero (mul_f x x)) (squared L) ≡ le (abs_f x) (target L)
  agree nan f = agree_nan
  agree (inf s) f = agree_inf s
  agree (fin s m e) f = agree_fin s m e f

  -- with no imaginary part, the test of the squares is that of the modulus
  pub modulus : (z : C64) → T (fits binary64 z.re) → eq z.im zero_f ≡ true → le (squares z) (mul_f (target L) (target L)) ≡ le (abs_f z.re) (target L)
  modulus z f h = rw (squares_is z, zero_square z.im h) (agree z.re f)

  -- the joining test, for any map
  pub joins_modulus : (x : List C64) (a c : ℕ) → eq (difference (get_or x c no_number) (get_or x a no_number)).im zero_f ≡ true
      → joins x (target L) a c ≡ le (abs_f (difference (get_or x c no_number) (get_or x a no_number)).re) (target L)
  unfolding joins joins_by
  joins_modulus x a c h = modulus (difference (get_or x c no_number) (get_or x a no_number)) (difference_fits (get_or x c no_number) (get_or x a no_number)) h
    where
      difference_fits : (y z : C64) → T (fits binary64 (difference y z).re)
      difference_fits y z = rw (difference_is y z) (sub-fits binary64 y.re z.re)
