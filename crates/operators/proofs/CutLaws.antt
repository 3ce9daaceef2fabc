-- A part that is cut out of a list: how long it is, and what stands in it.
-- Assumes nothing.
use Prim.Native.Nat.{ℕ, ◌+◌, ◌-◌, ◌<◌, ◌≤◌}
use native.Mathlib.Omega.{arith}
use mathlib.Core.Path.{◌≡◌, ◌∙◌}
use mathlib.Core.List.{List}
use lib.ListN.{length, get_or, take, drop, length-take, length-drop}
use lib.Seq.{take_all}
use Rattle.std.proofs.lemmas.List.{get_or-take, get_or-drop}

module _ {A : Type 0} (xs : List A) where
  -- its first n elements
  pub front_long : (n : ℕ) → n ≤ length xs → length (take n xs) ≡ n
  front_long n h = omega (arith, length-take n xs)

  pub front_at : (n i : ℕ) (d : A) → i < length (take n xs) → get_or (take n xs) i d ≡ get_or xs i d
  front_at n i d h = get_or-take n xs i d (omega (arith, length-take n xs))

  pub front_whole : (n : ℕ) → take (length (take n xs)) (take n xs) ≡ take n xs
  front_whole n = take_all (length (take n xs)) (take n xs) (omega arith)

  -- the n elements from place k on
  module _ (k n : ℕ) (h : k + n ≤ length xs) where
    pub cut_long : length (take (k + n - k) (drop k xs)) ≡ n
    cut_long = omega (arith, length-take (k + n - k) (drop k xs), length-drop k xs)

    pub cut_at : (i : ℕ) (d : A) → i < length (take (k + n - k) (drop k xs)) → get_or (take (k + n - k) (drop k xs)) i d ≡ get_or xs (k + i) d
    cut_at i d b = get_or-take (k + n - k) (drop k xs) i d (omega (arith, length-take (k + n - k) (drop k xs))) ∙ get_or-drop k xs i d
