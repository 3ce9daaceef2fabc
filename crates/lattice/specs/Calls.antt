-- A function that is called for each term of two lists and lays terms into two others.
-- Assumes nothing.
use Rattle.std.specs.Prelude.{ℕ, ◌+◌, ◌*◌, ◌<◌, ◌≤◌, List, length, get_or, Float}
use Rattle.std.specs.Borrow.{MutBor}
use Rattle.numbers.specs.declared.C64.{C64}
use Rattle.numbers.specs.Places.{number_at}
use Rattle.numbers.specs.Terms.{Term, Wrote}

-- what a call may be given: a column, its number, a place and the two lists
abbrev pub Asks : Type 1
Asks = ℕ → C64 → ℕ → MutBor (List ℕ) → MutBor (List Float) → Type 0

-- and what it may give: the place behind and the lists
abbrev pub Gives : Type 1
Gives = ℕ → C64 → ℕ → MutBor (List ℕ) → MutBor (List Float) → ℕ → MutBor (List ℕ) → MutBor (List Float) → Type 0

-- every call lays what f gives for its term
abbrev pub Lays : Gives → (Term → List Term) → Type 0
Lays post f =
    (column : ℕ) (number : C64) (k : ℕ) (cs : MutBor (List ℕ)) (xs : MutBor (List Float)) (r : ℕ) (cs' : MutBor (List ℕ)) (xs' : MutBor (List Float))
    → post column number k cs xs r cs' xs'
    → Wrote cs.now xs.now k (f (record { column = column; number = number })) cs'.now xs'.now r

-- the terms of two lists may be laid, where each term before lays at most b from place `from` on
abbrev pub MayLay : Asks → List ℕ → List Float → ℕ → ℕ → Type 0
MayLay pre ds ys from b =
    (m k : ℕ) (cs : MutBor (List ℕ)) (xs : MutBor (List Float)) → m < length ds → k ≤ from + b * m → pre (get_or ds m 0) (number_at ys m) k cs xs
