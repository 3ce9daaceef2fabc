-- A set of at most 64 places as the bits of a word (docs/SPECIFICATION.md, 9).
-- Assumes nothing.
use Rattle.std.specs.Prelude.{ℕ, zero, suc, ◌+◌, ◌/◌, ◌%◌, ◌^◌, ◌<◌, ◌≤◌, ◌≡◌, Bool, true, false, cond, List, Option, None, Some, eqb, length, get_or}
use Rattle.std.specs.Int.Bits.{bit_or}
use Rattle.operators.specs.declared.words.Places.{Places}

-- place k is in the set
unfoldable pub bit_at : ℕ → ℕ → Bool
bit_at w k = eqb (w / 2 ^ k % 2) 1

-- the places of t if a, with those of s if b
unfoldable pub mix_of : Bool → ℕ → Bool → ℕ → ℕ
mix_of a t b s = bit_or (cond a t 0) (cond b s 0)

-- the set of place k alone
abbrev pub single : ℕ → ℕ
single k = 2 ^ k

-- the union of those of the words w 0, .., w (n - 1) that p takes
unfoldable pub gathered : ℕ → (ℕ → Bool) → (ℕ → ℕ) → ℕ
gathered zero p w = 0
gathered (suc n) p w = mix_of true (gathered n p w) (p n) (w n)

-- the set of some places
unfoldable pub set_of : List ℕ → ℕ
set_of ms = gathered (length ms) (λ k. true) (λ k. single (get_or ms k 0))

-- r is the first place at or behind i of the set w, 64 if it has none there
pub record NextPlace (w i r : ℕ) : Type 0 where
  pub from : i ≤ r
  pub last : r ≤ 64
  pub none : (k : ℕ) → i ≤ k → k < r → bit_at w k ≡ false
  pub here : r < 64 → bit_at w r ≡ true

-- an iterator over the places of a word below n: it looks for the next one from place `next` on
abbrev pub PlacesReady : Places → Type 0
PlacesReady s = (s.n ≤ 64) × (s.next ≤ 64)

pub record TakesPlace (s : Places) (i : ℕ) (t : Places) : Type 0 where
  pub found : NextPlace s.w s.next i
  pub below : i < s.n
  pub after : t ≡ record { w = s.w; n = s.n; next = i + 1 }

-- what a step gives: the next place, or that there is none below n
abbrev pub GivesPlace : Places → Option ℕ → Places → Type 0
GivesPlace s None t = (r : ℕ) × NextPlace s.w s.next r × (s.n ≤ r)
GivesPlace s (Some i) t = TakesPlace s i t
