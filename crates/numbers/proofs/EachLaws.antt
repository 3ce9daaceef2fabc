-- Lists from `each`: sieved lists and products of them, the columns and numbers of lists of terms, how many elements there are, and what holds for all of them.
-- Assumes nothing.
use Prim.Native.Nat.{ℕ, zero, suc, ◌*◌, ◌<◌}
use native.Mathlib.Omega.{arith}
use native.Mathlib.Nat.{suc-mul}
use mathlib.Core.Path.{◌≡◌, refl, sym, ap, ◌∙◌}
use mathlib.Core.Bool.{Bool, true, false, ◌||◌, cond}
use mathlib.Core.List.{List, [], ◌∷◌, ◌++◌}
use lib.ListN.{length, get_or, length-append}
use Rattle.numbers.specs.Terms.{Term, columns_of, numbers_of}
use Rattle.numbers.specs.Lists.{each}

-- ---- lists that are sieved

-- a list without the elements that q tells
unfoldable pub sieved : {A : Type 0} → (A → Bool) → List A → List A
sieved q [] = []
sieved q (x ∷ xs) = cond (q x) (sieved q xs) (x ∷ sieved q xs)

-- the list that is left of another: nothing, or all that q does not tell
pub record Sifted {A : Type 0} (q : A → Bool) (nothing : Bool) (xs xs' : List A) : Type 0 where
  pub is : xs' ≡ cond nothing [] (sieved q xs)

module _ {A B : Type 0} where
  -- what gives nothing for any element gives nothing
  pub each_none : (f : A → List B) → ((x : A) → f x ≡ []) → (xs : List A) → each f xs ≡ []
  unfolding each
  each_none f h [] = refl
  each_none f h (x ∷ xs) = λ i. h x i ++ each_none f h xs i

  -- what gives nothing for the elements that are sieved out is not changed by sieving
  sieved_each : (q : A → Bool) (f g : A → List B) → ((x : A) → q x ≡ true → f x ≡ []) → ((x : A) → q x ≡ false → f x ≡ g x)
      → (xs : List A) → each f xs ≡ each g (sieved q xs)
  unfolding each sieved
  sieved_each q f g out in_it [] = refl
  sieved_each q f g out in_it (x ∷ xs) = go (q x) refl (sieved_each q f g out in_it xs)
    where
      go : (b : Bool) → q x ≡ b → each f xs ≡ each g (sieved q xs) → f x ++ each f xs ≡ each g (cond b (sieved q xs) (x ∷ sieved q xs))
      go true e ih = λ i. out x e i ++ ih i
      go false e ih = λ i. in_it x e i ++ ih i

-- a product over three lists with a test of each triple is the product over the sieved lists; the whole may be fixed, axis by axis, too
module _ {A B C D : Type 0} (a : A → Bool) (b : B → Bool) (c : C → Bool) (f h : A → B → C → List D)
    (tested : (x : A) (y : B) (z : C) → f x y z ≡ cond (a x || (b y || c z)) [] (h x y z)) where
  none_x : (ys : List B) (zs : List C) (x : A) → a x ≡ true → each (λ y. each (f x y) zs) ys ≡ []
  none_x ys zs x e = each_none (λ y. each (f x y) zs) (λ y. each_none (f x y) (λ z. rw (tested x y z, e)) zs) ys

  none_y : (zs : List C) (x : A) (y : B) → b y ≡ true → a x ≡ false → each (f x y) zs ≡ []
  none_y zs x y e d = each_none (f x y) (λ z. rw (tested x y z, d, e)) zs

  each_sieved : (xs : List A) (ys : List B) (zs : List C)
      → each (λ x. each (λ y. each (f x y) zs) ys) xs ≡ each (λ x. each (λ y. each (h x y) (sieved c zs)) (sieved b ys)) (sieved a xs)
  each_sieved xs ys zs =
      sieved_each a (λ x. each (λ y. each (f x y) zs) ys) (λ x. each (λ y. each (h x y) (sieved c zs)) (sieved b ys)) (none_x ys zs)
      (λ x d. sieved_each b (λ y. each (f x y) zs) (λ y. each (h x y) (sieved c zs)) (λ y e. none_y zs x y e d)
      (λ y e. sieved_each c (f x y) (h x y) (λ z o. rw (tested x y z, d, e, o)) (λ z o. rw (tested x y z, d, e, o)) zs) ys)
      xs

  all_sieved : (s t u : Bool) (xs : List A) (ys : List B) (zs : List C)
      → cond (s || (t || u)) [] (each (λ x. each (λ y. each (f x y) zs) ys) xs)
      ≡ each (λ x. each (λ y. each (h x y) (cond u [] (sieved c zs))) (cond t [] (sieved b ys))) (cond s [] (sieved a xs))
  unfolding each
  all_sieved true t u xs ys zs = refl
  all_sieved false true u xs ys zs = sym (each_none (λ x. []) (λ x. refl) (sieved a xs))
  all_sieved false false true xs ys zs = sym (each_none (λ x. each (λ y. []) (sieved b ys)) (λ x. each_none (λ y. []) (λ y. refl) (sieved b ys)) (sieved a xs))
  all_sieved false false false xs ys zs = each_sieved xs ys zs

  pub product_sieved : {s t u fixed : Bool} {xs xs' : List A} {ys ys' : List B} {zs zs' : List C}
      → fixed ≡ (s || (t || u)) → Sifted a s xs xs' → Sifted b t ys ys' → Sifted c u zs zs'
      → cond fixed [] (each (λ x. each (λ y. each (f x y) zs) ys) xs) ≡ each (λ x. each (λ y. each (h x y) zs') ys') xs'
  product_sieved {s} {t} {u} {fixed} {xs} {xs'} {ys} {ys'} {zs} {zs'} e p q r =
      (λ i. cond (e i) [] (each (λ x. each (λ y. each (f x y) zs) ys) xs))
      ∙ all_sieved s t u xs ys zs
      ∙ sym (λ i. each (λ x. each (λ y. each (h x y) (r.is i)) (q.is i)) (p.is i))

-- ---- the columns of terms

pub columns_append : (ts us : List Term) → columns_of (ts ++ us) ≡ columns_of ts ++ columns_of us
unfolding columns_of
columns_append [] us = refl
columns_append (t ∷ ts) us = rw (columns_append ts us)

-- terms one behind another have their columns one behind another
module _ (f : Term → List Term) (g : ℕ → List ℕ) (h : (t : Term) → columns_of (f t) ≡ g t.column) where
  each_columns : (ts : List Term) → columns_of (each f ts) ≡ each g (columns_of ts)
  unfolding each columns_of
  each_columns [] = refl
  each_columns (t ∷ ts) = columns_append (f t) (each f ts) ∙ (λ i. h t i ++ each_columns ts i)

  pub columns_each : (ts : List Term) {ms : List ℕ} → columns_of ts ≡ ms → columns_of (each f ts) ≡ each g ms
  columns_each ts e = each_columns ts ∙ ap (each g) e

-- ---- columns and numbers of terms, one each

pub numbers_append : (ts us : List Term) → numbers_of (ts ++ us) ≡ numbers_of ts ++ numbers_of us
unfolding numbers_of
numbers_append [] us = refl
numbers_append (t ∷ ts) us = rw (numbers_append ts us)

pub length_columns : (ts : List Term) → length (columns_of ts) ≡ length ts
unfolding columns_of
length_columns [] = refl
length_columns (t ∷ ts) = ap suc (length_columns ts)

pub length_numbers : (ts : List Term) → length (numbers_of ts) ≡ length ts
unfolding numbers_of
length_numbers [] = refl
length_numbers (t ∷ ts) = ap suc (length_numbers ts)

-- by place; d past the end
pub columns_at_lem : (ts : List Term) (i : ℕ) (d : Term) → get_or (columns_of ts) i d.column ≡ (get_or ts i d).column
unfolding columns_of
columns_at_lem [] i d = refl
columns_at_lem (t ∷ ts) zero d = refl
columns_at_lem (t ∷ ts) (suc i) d = columns_at_lem ts i d

pub numbers_at : (ts : List Term) (i : ℕ) (d : Term) → get_or (numbers_of ts) i d.number ≡ (get_or ts i d).number
unfolding numbers_of
numbers_at [] i d = refl
numbers_at (t ∷ ts) zero d = refl
numbers_at (t ∷ ts) (suc i) d = numbers_at ts i d

-- ---- how many elements

-- each element gives n
pub each_count : {A B : Type 0} (f : A → List B) (n : ℕ) → ((x : A) → length (f x) ≡ n) → (xs : List A) → length (each f xs) ≡ length xs * n
unfolding each
each_count f n h [] = omega arith
each_count f n h (x ∷ xs) =
    let ih : length (each f xs) ≡ length xs * n = each_count f n h xs in
    omega (arith, h x, length-append (f x) (each f xs), suc-mul (length xs) n)

-- ---- what holds for each element of a list

pub data All {A : Type 0} (P : A → Type 0) : List A → Type 0 where
  none : All P []
  more : {x : A} {xs : List A} → P x → All P xs → All P (x ∷ xs)

module _ {A : Type 0} {P : A → Type 0} where
  pub all_append : {xs ys : List A} → All P xs → All P ys → All P (xs ++ ys)
  all_append none v = v
  all_append (more p u) v = more p (all_append u v)

  pub all_at : {xs : List A} → All P xs → (d : ℕ) (x : A) → d < length xs → P (get_or xs d x)
  all_at none d x h = absurd (omega arith)
  all_at (more p u) zero x h = p
  all_at (more p u) (suc d) x h = all_at u d x (omega arith)

-- from the elements of a list to those that they give
pub all_each : {A B : Type 0} {P : A → Type 0} {Q : B → Type 0} (f : A → List B) → ((x : A) → P x → All Q (f x)) → {xs : List A} → All P xs → All Q (each f xs)
unfolding each
all_each f h none = none
all_each f h (more {x = x} p u) = all_append (h x p) (all_each f h u)

-- as many for each element
pub each_long : {A B C : Type 0} (f : A → List B) (g : A → List C) → ((x : A) → length (f x) ≡ length (g x)) → (xs : List A) → length (each f xs) ≡ length (each g xs)
unfolding each
each_long f g h [] = refl
each_long f g h (x ∷ xs) = omega (arith, length-append (f x) (each f xs), length-append (g x) (each g xs), h x, each_long f g h xs)
