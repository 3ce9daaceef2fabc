-- A function that is called for each entry of a slot and lays a part of a list.
-- Assumes nothing.
use Rattle.std.specs.Prelude.{ℕ, ◌+◌, ◌*◌, ◌<◌, ◌≤◌, List}
use Rattle.std.specs.Borrow.{MutBor}
use Rattle.numbers.specs.Lists.{Laid}

-- what a call may be given: an entry, a place and the list; and what it may give: the place behind and the list
abbrev pub Asks : Type 0 → Type 1
Asks X = ℕ → ℕ → MutBor (List X) → Type 0

abbrev pub Gives : Type 0 → Type 1
Gives X = ℕ → ℕ → MutBor (List X) → ℕ → MutBor (List X) → Type 0

-- every call lays what f gives for its entry
abbrev pub Lays : {X A : Type 0} → (List X → ℕ → A → List X) → Gives X → (ℕ → List A) → Type 0
Lays {X} put post f = (e k : ℕ) (xs : MutBor (List X)) (r : ℕ) (xs' : MutBor (List X)) → post e k xs r xs' → Laid put xs.now k (f e) xs'.now r

-- n entries may be laid, from entry `first` on, where each before lays at most b from place `from` on
abbrev pub MayLay : {X : Type 0} → Asks X → ℕ → ℕ → ℕ → ℕ → Type 0
MayLay {X} pre first n from b = (d k : ℕ) (xs : MutBor (List X)) → d < n → k ≤ from + b * d → pre (first + d) k xs
