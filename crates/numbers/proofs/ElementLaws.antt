-- Laws of lists and terms: what holds of every element, members, values laid over a list, the first end that is not below a place, rows of one, numbers that are not finite, flags.
-- Assumes nothing.
use Prim.Native.Nat.{ℕ, zero, suc, ◌+◌, ◌*◌, ◌<◌, ◌≤◌}
use native.Mathlib.Omega.{arith}
use mathlib.Core.Path.{◌≡◌, refl, sym, ap, ◌∙◌}
use mathlib.Core.Bool.{Bool, true, false, false≢true, cond, and-false}
use mathlib.Core.Logic.{◌⊎◌, inl, inr, ⊎_elim}
use mathlib.Core.List.Memᴰ
use mathlib.Core.List.{List, [], ◌∷◌, ◌++◌, Memᴰ as In}
use borrow.Author.Tests.{ltb-true, ltb-false, lt-ltb, le-ltb}
use lib.Dec.{ltb}
use lib.Ieee.{Float, nan, inf, fin, add, sub, mul, div, neg, eq, of_bits}
use lib.ListN.{length, get_or, set, replicate, length-set, get_or-replicate}
use lib.Seq.{get_or-set_other}
use Rattle.numbers.specs.declared.C64.{C64}
use Rattle.numbers.specs.Complex.{add_f, sub_f, mul_f, div_f, zero_f, one_f, zero_number, sum, squares, real_over, finite_double, finite, is_zero}
use Rattle.numbers.specs.Lists.{tabulate, each, rows, laid_by, before, summed}
use Rattle.numbers.specs.Places.{number_at}
use Rattle.numbers.specs.Terms.{Term, columns_of, terms_in}
use Rattle.numbers.proofs.EachLaws.{All, none, more, all_append}
use Rattle.numbers.proofs.ListLaws.{tabulate_more}
use Rattle.numbers.proofs.TermLaws as Terms

-- ---- what holds of every element

module _ {A : Type 0} {P : A → Type 0} where
  pub all_tabulate : (f : ℕ → A) (n k : ℕ) → ((q : ℕ) → k ≤ q → q < k + n → P (f q)) → All P (tabulate f n k)
  unfolding tabulate
  all_tabulate f zero k h = none
  all_tabulate f (suc n) k h = more (h k (omega arith) (omega arith)) (all_tabulate f n (suc k) (λ q a b. h q (omega arith) (omega arith)))

-- ---- members of what is given for each

module _ {A B : Type 0} (f : A → List B) (x : A) (xs : List A) {c : B} where
  pub each_first : In c (f x) → In c (each f (x ∷ xs))
  unfolding each
  each_first m = Memᴰ.append_left (each f xs) m

  pub each_later : In c (each f xs) → In c (each f (x ∷ xs))
  unfolding each
  each_later m = Memᴰ.append_right (f x) m

-- ---- values laid over a list of any kind: the length, and what is read elsewhere

module _ {A : Type 0} where
  pub laid_long : (xs : List A) (k : ℕ) (vs : List A) → length (laid_by set xs k vs) ≡ length xs
  unfolding laid_by
  laid_long xs k [] = refl
  laid_long xs k (v ∷ vs) = laid_long (set xs k v) (suc k) vs ∙ length-set xs k v

  pub laid_apart : (xs : List A) (k : ℕ) (vs : List A) (j : ℕ) (d : A) → ((i : ℕ) → i < length vs → j ≡ k + i → ⊥) → get_or (laid_by set xs k vs) j d ≡ get_or xs j d
  unfolding laid_by
  laid_apart xs k [] j d h = refl
  laid_apart xs k (v ∷ vs) j d h =
      laid_apart (set xs k v) (suc k) vs j d (λ i b e. h (suc i) (omega arith) (omega arith)) ∙ get_or-set_other xs k j v d (λ e. h 0 (omega arith) (omega arith))

-- ---- sums

pub summed_append : (f : ℕ → C64) (s : C64) (cs : List ℕ) (c : ℕ) → summed f s (cs ++ (c ∷ [])) ≡ sum (summed f s cs) (f c)
unfolding summed
summed_append f s [] c = refl
summed_append f s (d ∷ cs) c = summed_append f (sum s (f d)) cs c

-- ---- the first that is not below

-- the first q are below e, and one that follows is not
pub before_is : (e : ℕ) (es : List ℕ) (q : ℕ) → q ≤ length es → ((m : ℕ) → m < q → get_or es m 0 < e) → (q < length es → e ≤ get_or es q 0)
    → before e es ≡ q
unfolding before
before_is e [] q h a b = omega arith
before_is e (f ∷ es) zero h a b = rw (le-ltb f e (b (omega arith)))
before_is e (f ∷ es) (suc q) h a b =
    rw (lt-ltb f e (a 0 (omega arith)))
    (ap suc (before_is e es q (omega arith) (λ m c. a (suc m) (omega arith)) (λ c. b (omega arith))))

pub before_most : (e : ℕ) (es : List ℕ) → before e es ≤ length es
unfolding before
before_most e [] = omega arith
before_most e (f ∷ es) = go (ltb f e) (before_most e es)
  where
    go : (s : Bool) → before e es ≤ length es → cond s (suc (before e es)) 0 ≤ suc (length es)
    go true h = omega arith
    go false h = omega arith

pub before_below : (e : ℕ) (es : List ℕ) (m : ℕ) → m < before e es → get_or es m 0 < e
unfolding before
before_below e [] m h = absurd (omega arith)
before_below e (f ∷ es) m h = go (ltb f e) refl m h (before_below e es)
  where
    go : (s : Bool) → ltb f e ≡ s → (m : ℕ) → m < cond s (suc (before e es)) 0 → ((m : ℕ) → m < before e es → get_or es m 0 < e)
        → get_or (f ∷ es) m 0 < e
    go false q m h r = absurd (omega arith)
    go true q zero h r = ltb-true f e q
    go true q (suc m) h r = r m (omega arith)

-- the first end that is not below e
pub before_reached : (e : ℕ) (es : List ℕ) → before e es < length es → e ≤ get_or es (before e es) 0
unfolding before
before_reached e [] h = absurd (omega arith)
before_reached e (f ∷ es) h = go (ltb f e) refl h (before_reached e es)
  where
    go : (s : Bool) → ltb f e ≡ s → cond s (suc (before e es)) 0 < suc (length es) → (before e es < length es → e ≤ get_or es (before e es) 0)
        → e ≤ get_or (f ∷ es) (cond s (suc (before e es)) 0) 0
    go false q h r = ltb-false f e q
    go true q h r = r (omega arith)

-- what is given for terms with low columns
pub all_each_low : {A : Type 0} {P : A → Type 0} {b : ℕ} (f : Term → List A) → ((t : Term) → t.column < b → All P (f t)) → {ts : List Term} → Terms.Low b ts → All P (each f ts)
unfolding each
all_each_low f h Terms.none = none
all_each_low f h (Terms.more {t = t} p v) = all_append (h t p) (all_each_low f h v)

-- ---- one in each row

-- one number in each row
abbrev pub alone : {A : Type 0} → (ℕ → A) → ℕ → List A
alone f m = f m ∷ []

pub rows_alone : {A : Type 0} (f : ℕ → A) (n : ℕ) → rows (alone f) n ≡ tabulate f n 0
unfolding rows tabulate
rows_alone f zero = refl
rows_alone f (suc n) = rw (rows_alone f n) (sym (tabulate_more f n 0 n (omega arith)))

-- ---- columns of terms in lists

pub terms_low : (cs : List ℕ) (xs : List Float) (k n b : ℕ) → ((q : ℕ) → k ≤ q → q < k + n → get_or cs q 0 < b) → (d : ℕ) → In d (columns_of (terms_in cs xs k n)) → d < b
unfolding terms_in columns_of
terms_low cs xs k zero b h d m = absurd (Memᴰ.not-nil m)
terms_low cs xs k (suc n) b h d m =
    ⊎_elim (λ (e : d ≡ get_or cs k 0). rw e (h k (omega arith) (omega arith)))
    (λ (o : In d (columns_of (terms_in cs xs (suc k) n))). terms_low cs xs (suc k) n b (λ q i j. h q (omega arith) (omega arith)) d o)
    (Memᴰ.cases_cons m)

-- ---- numbers of a list of zeros

pub zeros_at : (n k : ℕ) → 2 * k + 1 < n → number_at (replicate n zero_f) k ≡ zero_number
unfolding number_at zero_number
zeros_at n k h =
    let p : get_or (replicate n zero_f) (2 * k) nan ≡ zero_f = get_or-replicate n (2 * k) zero_f nan (omega arith) in
    let q : get_or (replicate n zero_f) (2 * k + 1) nan ≡ zero_f = get_or-replicate n (2 * k + 1) zero_f nan (omega arith) in
    λ i. record { re = p i; im = q i }

-- ---- numbers that are not finite

left_inf : (s : Bool) (y : Float) → (add_f (inf s) y ≡ nan) ⊎ (add_f (inf s) y ≡ inf s)
unfolding add
left_inf s nan = inl refl
left_inf true (inf true) = inr refl
left_inf true (inf false) = inl refl
left_inf false (inf true) = inl refl
left_inf false (inf false) = inr refl
left_inf s (fin t n d) = inr refl

right_inf : (y : Float) (s : Bool) → (add_f y (inf s) ≡ nan) ⊎ (add_f y (inf s) ≡ inf s)
unfolding add
right_inf nan s = inl refl
right_inf (inf true) true = inr refl
right_inf (inf true) false = inl refl
right_inf (inf false) true = inl refl
right_inf (inf false) false = inr refl
right_inf (fin t n d) s = inr refl

-- 1 times an infinity, over a NaN or an infinity, is a NaN
over_nan : (s t : Bool) (y : Float) → (y ≡ nan) ⊎ (y ≡ inf t) → div_f (mul_f one_f (inf s)) y ≡ nan
unfolding mul div of_bits
over_nan s t y (inl e) = rw e refl
over_nan s t y (inr e) = rw e refl

-- the square of an infinity is an infinity
square_inf : (s : Bool) → (t : Bool) × (mul_f (inf s) (inf s) ≡ inf t)
unfolding mul
square_inf true = (false, refl)
square_inf false = (false, refl)

minus_nan : sub_f zero_f nan ≡ nan
unfolding sub add neg of_bits
minus_nan = refl

nan_not : finite_double nan ≡ false
unfolding finite_double
nan_not = refl

-- where a part is not finite, 1 over the number is not
re_nan : (d : Float) → finite (real_over one_f (record { re = nan; im = d })) ≡ false
unfolding finite finite_double real_over mul div of_bits
re_nan d = refl

re_inf : (s : Bool) (d : Float) → finite (real_over one_f (record { re = inf s; im = d })) ≡ false
unfolding finite real_over squares
re_inf s d =
    let q = square_inf s in
    let e : div_f (mul_f one_f (inf s)) (add_f (mul_f (inf s) (inf s)) (mul_f d d)) ≡ nan =
    over_nan s q.0 (add_f (mul_f (inf s) (inf s)) (mul_f d d)) (rw q.1 (left_inf q.0 (mul_f d d))) in
    rw (e, nan_not)

im_nan : (c : Float) → finite (real_over one_f (record { re = c; im = nan })) ≡ false
unfolding finite finite_double real_over mul div sub add neg of_bits
im_nan c = and-false (finite_double (real_over one_f (record { re = c; im = nan })).re)

im_inf : (c : Float) (s : Bool) → finite (real_over one_f (record { re = c; im = inf s })) ≡ false
unfolding finite real_over squares
im_inf c s =
    let q = square_inf s in
    let e : div_f (mul_f one_f (inf s)) (add_f (mul_f c c) (mul_f (inf s) (inf s))) ≡ nan =
    over_nan s q.0 (add_f (mul_f c c) (mul_f (inf s) (inf s))) (rw q.1 (right_inf (mul_f c c) q.0)) in
    rw (e, minus_nan, nan_not) (and-false (finite_double (real_over one_f (record { re = c; im = inf s })).re))

parts_over : (c d : Float) → finite (record { re = c; im = d }) ≡ false → finite (real_over one_f (record { re = c; im = d })) ≡ false
parts_over nan d h = re_nan d
parts_over (inf s) d h = re_inf s d
parts_over (fin s m e) nan h = im_nan (fin s m e)
parts_over (fin s m e) (inf t) h = im_inf (fin s m e) t
parts_over (fin s m e) (fin t n d) h = unfold finite finite_double in absurd (false≢true (sym h))

pub over_not_finite : (x : C64) → finite x ≡ false → finite (real_over one_f x) ≡ false
over_not_finite x = parts_over x.re x.im

-- and it is not zero
parts_zero : (c d : Float) → finite (record { re = c; im = d }) ≡ false → is_zero (record { re = c; im = d }) ≡ false
unfolding finite finite_double is_zero eq of_bits
parts_zero nan d h = refl
parts_zero (inf s) d h = refl
parts_zero (fin s m e) nan h = and-false (eq (fin s m e) zero_f)
parts_zero (fin s m e) (inf t) h = and-false (eq (fin s m e) zero_f)
parts_zero (fin s m e) (fin t n d) h = absurd (false≢true (sym h))

pub not_finite_not_zero : (x : C64) → finite x ≡ false → is_zero x ≡ false
not_finite_not_zero x = parts_zero x.re x.im

-- ---- flags at positions

-- a position alone
abbrev pub single : ℕ → List ℕ
single c = c ∷ []

pub each_single : (cs : List ℕ) → each single cs ≡ cs
unfolding each
each_single [] = refl
each_single (c ∷ cs) = ap (λ (ds : List ℕ). c ∷ ds) (each_single cs)
