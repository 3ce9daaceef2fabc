-- Laws of the store's numbers: looks that agree on the doubles of some numbers agree on the numbers. Assumes nothing.
use Prim.Native.Nat.{ℕ, ◌+◌, ◌*◌}
use mathlib.Core.Path.{◌≡◌, refl, sym, ap, subst}
use mathlib.Core.Logic.{inl, inr, ⊎_elim}
use mathlib.Core.List.{List, ◌∷◌, map, []}
use Rattle.numbers.specs.Lists.{each, In}
use Rattle.numbers.proofs.MemberLaws.{in_left, in_right, in_append}
use Rattle.numbers.proofs.Equations.{each_nil, each_cons}
use Rattle.store.specs.Space.{Look}
use Rattle.store.specs.Places.{Place, space}
use Rattle.store.specs.Spots.{Kind, permittivity, forwards, turneds, entries, scales, Spot, spot, place, double_in, cells, number_in}

-- ---- membership

pub in_each : {A B : Type 0} (f : A → List B) (xs : List A) (a : A) (b : B) → In a xs → In b (f a) → In b (each f xs)
in_each f [] a b i j = absurd i
in_each f (x ∷ xs) a b i j = subst (In b) (sym (each_cons f x xs)) (⊎_elim (λ e. in_left b (f x) (each f xs) (rw e at j)) (λ k. in_right b (f x) (each f xs) (in_each f xs a b k j)) i)

pub each_in : {A B : Type 0} (f : A → List B) (xs : List A) (b : B) → In b (each f xs) → (a : A) × In a xs × In b (f a)
each_in f [] b i = absurd (subst (In b) (each_nil f) i)
each_in f (x ∷ xs) b i =
    ⊎_elim (λ j. (x, inl refl, j)) (λ j. let t = each_in f xs b j in (t.0, inr t.1, t.2)) (in_append b (f x) (each f xs) (subst (In b) (each_cons f x xs) i))

-- ---- looks

double_same : (f g : Look space) (ps : List Place) → ((p : Place) → In p ps → f p ≡ g p) → (k : Kind) (j : ℕ) → In (place k j) ps → double_in f k j ≡ double_in g k j
double_same f g ps h permittivity j i = h (place permittivity j) i
double_same f g ps h forwards j i = h (place forwards j) i
double_same f g ps h turneds j i = h (place turneds j) i
double_same f g ps h entries j i = h (place entries j) i
double_same f g ps h scales j i = h (place scales j) i

-- two looks find the same numbers at some spots
abbrev pub Agrees : Look space → Look space → List Spot → Type 0
Agrees f g ss = (k : Kind) (q : ℕ) → In (spot k q) ss → number_in f k q ≡ number_in g k q

pub cells_agree : (f g : Look space) (ss : List Spot) → ((p : Place) → In p (each cells ss) → f p ≡ g p) → Agrees f g ss
unfolding number_in
cells_agree f g ss h k q i =
    let a = double_same f g (each cells ss) h k (2 * q) (in_each cells ss (spot k q) (place k (2 * q)) i (inl refl)) in
    let b = double_same f g (each cells ss) h k (2 * q + 1) (in_each cells ss (spot k q) (place k (2 * q + 1)) i (inr (inl refl))) in
    λ t. record { re = a t; im = b t }

pub in_map : {A B : Type 0} (f : A → B) (xs : List A) (b : B) → In b (map f xs) → (a : A) × In a xs × (b ≡ f a)
in_map f [] b i = absurd i
in_map f (x ∷ xs) b (inl e) = (x, inl refl, e)
in_map f (x ∷ xs) b (inr i) = let t = in_map f xs b i in (t.0, inr t.1, t.2)

pub map_in_lem : {A B : Type 0} (f : A → B) (xs : List A) (a : A) → In a xs → In (f a) (map f xs)
map_in_lem f [] a i = absurd i
map_in_lem f (x ∷ xs) a (inl e) = inl (ap f e)
map_in_lem f (x ∷ xs) a (inr i) = inr (map_in_lem f xs a i)
