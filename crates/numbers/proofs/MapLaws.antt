-- Lists that a function is mapped over: what stands at a place, and what each element gives.
-- Assumes nothing.
use Prim.Native.Nat.{ℕ, ◌<◌}
use mathlib.Core.Path.{◌≡◌, refl, ap}
use mathlib.Core.List.{List, [], ◌∷◌, ◌++◌, map}
use lib.ListN.{length, get_or}
use Rattle.numbers.specs.Lists.{each}
use Rattle.std.proofs.lemmas.List.{get_or-map}

pub map_at_lem : {A B : Type 0} (f : A → B) (xs : List A) (q : ℕ) (a : A) (b : B) → q < length xs → get_or (map f xs) q b ≡ f (get_or xs q a)
map_at_lem f xs q a b h = get_or-map f xs q a b h

pub each_map : {A B C : Type 0} (f : B → List C) (g : A → B) (xs : List A) → each f (map g xs) ≡ each (λ x. f (g x)) xs
unfolding each
each_map f g [] = refl
each_map {A} {B} {C} f g (x ∷ xs) = ap (λ (zs : List C). f (g x) ++ zs) (each_map f g xs)
