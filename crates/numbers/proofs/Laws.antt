-- Laws of the definitions that the layers above cite: what is read after a write, equality of numbers by their parts, finite by cases.
-- Assumes nothing.
use Prim.Native.Nat.{ℕ, ◌+◌, ◌*◌, ◌/◌, ◌<◌, ◌≤◌}
use mathlib.Core.Path.{◌≡◌, refl, sym, ◌∙◌}
use mathlib.Core.Logic.{◌≢◌}
use mathlib.Core.List.{List}
use mathlib.Core.Bool.{Bool, true, false, ◌&&◌, ◌||◌, cond}
use native.Mathlib.Omega.{arith}
use borrow.Author.Tests.{lt-ltb, le-ltb}
use lib.Dec.{ltb}
use lib.ListN.{length, set, length-set}
use lib.Seq.{get_or-set_same, get_or-set_other}
use lib.Ieee.{Float, nan, inf, fin}
use Rattle.std.specs.Float.{float_is_finite}
use Rattle.std.proofs.lemmas.Bool.{and_parts}
use Rattle.numbers.specs.declared.C64.{C64}
use Rattle.numbers.specs.Complex.{no_number, finite_double, finite}
use Rattle.numbers.specs.Places.{places, number_at, set_number, found_at}

-- two numbers are equal by their parts
pub parts : {x y : C64} → x.re ≡ y.re → x.im ≡ y.im → x ≡ y
parts p q = λ i. record { re = p i; im = q i }

-- ---- two tests

pub and_true : (a b : Bool) → a ≡ true → (a && b) ≡ b
and_true true b e = refl
and_true false true e = e
and_true false false e = refl

pub and_false : (a b : Bool) → a ≡ false → (a && b) ≡ a
and_false true true e = refl
and_false true false e = sym e
and_false false b e = refl

pub or_true : (a b : Bool) → a ≡ true → (a || b) ≡ a
or_true true b e = refl
or_true false true e = sym e
or_true false false e = refl

pub or_false : (a b : Bool) → a ≡ false → (a || b) ≡ b
or_false true true e = refl
or_false true false e = e
or_false false b e = refl

-- ---- finite, by cases: a finite double is one of these, a finite number has two

pub finite_is : (x : Float) → finite_double x ≡ true → (s : Bool) × (m : ℕ) × (e : lib.IntN.ℤ) × (x ≡ fin s m e)
unfolding finite_double
finite_is nan h = absurd (no h)
  where
    no : false ≡ true → ⊥
    no e = let z : ◌≡◌ {A = ℕ} 0 1 = cc in omega arith
finite_is (inf s) h = absurd (no h)
  where
    no : false ≡ true → ⊥
    no e = let z : ◌≡◌ {A = ℕ} 0 1 = cc in omega arith
finite_is (fin s m e) h = (s, m, e, refl)

pub finite_both : (x : C64) → finite x ≡ (finite_double x.re && finite_double x.im)
unfolding finite
finite_both x = refl

pub finite_parts : (x : C64) → finite x ≡ true → (finite_double x.re ≡ true) × (finite_double x.im ≡ true)
unfolding finite
finite_parts x h = and_parts (finite_double x.re) (finite_double x.im) h

-- ---- a list of doubles

module _ (xs : List Float) (k : ℕ) (v : C64) where
  pub set_inside : k < length xs / 2 → set_number xs k v ≡ set (set xs (2 * k) v.re) (2 * k + 1) v.im
  unfolding set_number
  set_inside h = rw (lt-ltb k (length xs / 2) h)

  pub set_outside : length xs / 2 ≤ k → set_number xs k v ≡ xs
  unfolding set_number
  set_outside h = rw (le-ltb k (length xs / 2) h)

pub length_set_number : (xs : List Float) (k : ℕ) (v : C64) → length (set_number xs k v) ≡ length xs
unfolding set_number
length_set_number xs k v = go (ltb k (length xs / 2))
  where
    go : (b : Bool) → length (cond b (set (set xs (2 * k) v.re) (2 * k + 1) v.im) xs) ≡ length xs
    go true = simp length-set
    go false = refl

-- a number that is written is read
pub number_same : (xs : List Float) (k : ℕ) (v : C64) → k < places xs → number_at (set_number xs k v) k ≡ v
unfolding number_at places
number_same xs k v h =
    let ys = set xs (2 * k) v.re in
    rw (set_inside xs k v h)
    (parts
    (get_or-set_other ys (2 * k + 1) (2 * k) v.im nan (omega arith) ∙ get_or-set_same xs (2 * k) v.re nan (omega arith))
    (get_or-set_same ys (2 * k + 1) v.im nan (omega (arith, length-set xs (2 * k) v.re))))

-- the others are as they were
pub number_other : (xs : List Float) (k j : ℕ) (v : C64) → j ≢ k → number_at (set_number xs k v) j ≡ number_at xs j
unfolding number_at set_number
number_other xs k j v h = go (ltb k (length xs / 2))
  where
    go : (b : Bool)
        → number_at (cond b (set (set xs (2 * k) v.re) (2 * k + 1) v.im) xs) j ≡ number_at xs j
    go true =
        let ys = set xs (2 * k) v.re in
        parts
        (get_or-set_other ys (2 * k + 1) (2 * j) v.im nan (omega arith) ∙ get_or-set_other xs (2 * k) (2 * j) v.re nan (omega arith))
        (get_or-set_other ys (2 * k + 1) (2 * j + 1) v.im nan (omega arith) ∙ get_or-set_other xs (2 * k) (2 * j + 1) v.re nan (omega arith))
    go false = refl

-- number k of a list, where the list has it and where not
module _ (xs : List Float) (k : ℕ) where
  pub found_held : k < length xs / 2 → number_at xs k ≡ found_at xs k
  unfolding found_at
  found_held h = rw (lt-ltb k (length xs / 2) h)

  pub found_none : length xs / 2 ≤ k → no_number ≡ found_at xs k
  unfolding found_at
  found_none h = rw (le-ltb k (length xs / 2) h)

-- two answers that follow from each other are the same
pub bool_same : (a b : Bool) → (a ≡ true → b ≡ true) → (b ≡ true → a ≡ true) → a ≡ b
bool_same true b f g = sym (f refl)
bool_same false true f g = g refl
bool_same false false f g = refl

-- std's test of a double
pub float_finite : (x : Float) → float_is_finite x ≡ finite_double x
unfolding float_is_finite finite_double
float_finite nan = refl
float_finite (inf s) = refl
float_finite (fin s m e) = refl
