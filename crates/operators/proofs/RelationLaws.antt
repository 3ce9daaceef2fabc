-- The composition of two products is the product of the compositions, and composition goes into a union.
-- Assumes nothing.
use Prim.Native.Nat.{ℕ, zero, suc, ◌<◌}
use mathlib.Core.Path.{◌≡◌, refl, sym, ◌∙◌, ap₂}
use mathlib.Core.Logic.{◌↔◌}
use mathlib.Core.Bool.{Bool, true, false, ◌&&◌, ◌||◌, false≢true}
use native.Mathlib.Nat.{not-suc-le-zero}
use native.Mathlib.Omega.{arith}
use native.Mathlib.Decide.{ℕ_discrete}
use Rattle.std.proofs.lemmas.Bool.{and_from, and_parts}
use Rattle.operators.specs.Relation.{Rel, some, after, Spot, Cube, Times, after_cube, Over, Then, Union}

-- the bounded search finds a place if there is one
pub found : (n : ℕ) (p : ℕ → Bool) → some n p ≡ true → (k : ℕ) × (k < n) × (p k ≡ true)
unfolding some
found zero p h = absurd (false≢true h)
found (suc n) p h = go (found n p) (some n p) refl
  where
    go : (some n p ≡ true → (k : ℕ) × (k < n) × (p k ≡ true)) → (t : Bool) → some n p ≡ t → (k : ℕ) × (k < suc n) × (p k ≡ true)
    go ih true e = let w = ih e in (w.0, omega (arith, w.1), w.2)
    go ih false e = (n, omega arith, rw e at h)

pub finds : (n : ℕ) (p : ℕ → Bool) (k : ℕ) → k < n → p k ≡ true → some n p ≡ true
unfolding some
finds zero p k h e = absurd (not-suc-le-zero h)
finds (suc n) p k h e = go (finds n p k) (ℕ_discrete k n) (some n p) refl
  where
    go : (k < n → p k ≡ true → some n p ≡ true) → Dec (k ≡ n) → (t : Bool) → some n p ≡ t → (some n p || p n) ≡ true
    go ih d true f = rw f
    go ih (yes q) false f = rw f (rw q at e)
    go ih (no q) false f = absurd (false≢true (sym f ∙ ih (omega arith) e))

-- only the places below n count
pub some_below : (n : ℕ) (p q : ℕ → Bool) → ((k : ℕ) → k < n → p k ≡ q k) → some n p ≡ some n q
unfolding some
some_below zero p q h = refl
some_below (suc n) p q h = rw (some_below n p q (λ k b. h k (omega arith)), h n (omega arith))

-- composition on one axis
pub after_by : (n : ℕ) (r s : Rel) (i j : ℕ) → after n r s i j ≡ true → (k : ℕ) × (k < n) × (r i k ≡ true) × (s k j ≡ true)
unfolding after
after_by n r s i j h =
    let w = found n (λ k. r i k && s k j) h in
    let b = and_parts (r i w.0) (s w.0 j) w.2 in
    (w.0, w.1, b.0, b.1)

pub by_after : (n : ℕ) (r s : Rel) (i j k : ℕ) → k < n → r i k ≡ true → s k j ≡ true → after n r s i j ≡ true
unfolding after
by_after n r s i j k h a b = finds n (λ k. r i k && s k j) k h (and_from _ _ a b)

pub after_below : (n : ℕ) (r r' s s' : Rel) (i j : ℕ) → ((k : ℕ) → k < n → r i k ≡ r' i k) → ((k : ℕ) → k < n → s k j ≡ s' k j) → after n r s i j ≡ after n r' s' i j
unfolding after
after_below n r r' s s' i j h g = some_below n _ _ (λ k b. ap₂ (λ (x y : Bool). x && y) (h k b) (g k b))

-- Theorem 1: a composition of products is the product of the compositions
pub product : (n : Spot) (r s : Cube) (p q : Spot) → Then n (Times r) (Times s) p q ↔ Times (after_cube n r s) p q
unfolding after_cube
product n r s p q = (
  (λ t. record {
    x = by_after n.x r.x s.x p.x q.x t.by.x t.inside.x t.first.x t.second.x;
    y = by_after n.y r.y s.y p.y q.y t.by.y t.inside.y t.first.y t.second.y;
    z = by_after n.z r.z s.z p.z q.z t.by.z t.inside.z t.first.z t.second.z;
  }),
  (λ t.
      let x = after_by n.x r.x s.x p.x q.x t.x in
      let y = after_by n.y r.y s.y p.y q.y t.y in
      let z = after_by n.z r.z s.z p.z q.z t.z in
      record {
        by = record { x = x.0; y = y.0; z = z.0 };
        inside = record { x = x.1; y = y.1; z = z.1 };
        first = record { x = x.2; y = y.2; z = z.2 };
        second = record { x = x.3; y = y.3; z = z.3 };
      }),
)

-- Theorem 2: composition goes into a union, on either side
pub union_then : (n : Spot) (A : Type 0) (R : A → Over) (S : Over) (p q : Spot)
    → Then n (Union A R) S p q ↔ Union A (λ a. Then n (R a) S) p q
union_then n A R S p q = (
  (λ t. record { term = t.first.term; held = record { by = t.by; inside = t.inside; first = t.first.held; second = t.second } }),
  (λ u. record { by = u.held.by; inside = u.held.inside; first = record { term = u.term; held = u.held.first }; second = u.held.second }),
)

pub then_union : (n : Spot) (A : Type 0) (R : Over) (S : A → Over) (p q : Spot)
    → Then n R (Union A S) p q ↔ Union A (λ a. Then n R (S a)) p q
then_union n A R S p q = (
  (λ t. record { term = t.second.term; held = record { by = t.by; inside = t.inside; first = t.first; second = t.second.held } }),
  (λ u. record { by = u.held.by; inside = u.held.inside; first = u.held.first; second = record { term = u.term; held = u.held.second } }),
)
