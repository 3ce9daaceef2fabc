-- A part of a list, as a slice of it: how long it is, its elements by their places in the whole, and what std's methods say of it.
-- Assumes nothing.
use Prim.Native.Nat.{ℕ, ◌+◌, ◌-◌, ◌≤◌, ◌<◌}
use mathlib.Core.Path.{◌≡◌, refl, ap, ◌∙◌}
use mathlib.Core.Bool.{◌||◌}
use mathlib.Core.List.{List, [], ◌∷◌}
use native.Mathlib.Omega.{arith}
use lib.ListN.{length, get_or, take, drop}
use Rattle.std.specs.Prelude.{nat_eq}
use Rattle.std.specs.List.{list_any}
use Rattle.std.proofs.lemmas.List.{get_or-take, get_or-drop, length-take-le, length-drop}
use Rattle.numbers.specs.Lists.{contains, places_in, entry_at}
use Rattle.numbers.proofs.TabulateLaws.{is_tabulate_from}

module _ {A : Type 0} (xs : List A) (k n : ℕ) where
  pub part_long : k + n ≤ length xs → length (take (k + n - k) (drop k xs)) ≡ n
  part_long h = length-take-le (k + n - k) (drop k xs) (omega (arith, length-drop k xs)) ∙ omega arith

  pub part_at : (q : ℕ) (d : A) → q < n → get_or (take (k + n - k) (drop k xs)) q d ≡ get_or xs (k + q) d
  part_at q d h = get_or-take (k + n - k) (drop k xs) q d (omega arith) ∙ get_or-drop k xs q d

pub between_places : (xs : List ℕ) (m n : ℕ) → n ≤ length xs → m ≤ n → take (n - m) (drop m xs) ≡ places_in xs m (n - m)
between_places xs m n h b =
    is_tabulate_from (entry_at xs) (n - m) m 0 (take (n - m) (drop m xs)) (length-take-le (n - m) (drop m xs) (omega (arith, length-drop m xs)))
    (λ q p. get_or-take (n - m) (drop m xs) q 0 p ∙ get_or-drop m xs q 0)

pub any_contains : (c : ℕ) (xs : List ℕ) → list_any (λ y. nat_eq y c) xs ≡ contains c xs
unfolding contains
any_contains c [] = refl
any_contains c (x ∷ xs) = ap (λ b. nat_eq x c || b) (any_contains c xs)
