-- The flagged rows of a part worked out one behind another, in a list that is lent to a step: what a run of it leaves.
-- Assumes nothing.
use Rattle.std.specs.Prelude.{ℕ, zero, suc, ◌+◌, ◌<◌, ◌≡◌, Bool, true, false, List, Float, length, Result, Ok, Err}
use Rattle.std.specs.Fn.{Shared}
use denote.Ref.{MutBor}
use Rattle.store.specs.Parts.{flag_at}
use Rattle.renew.specs.declared.NotFinite.{NotFinite}

-- what a step is: called with the list and a row, it tells whether the row's numbers are finite
abbrev pub Step : Type 0 → Type 1
Step F = Shared F (MutBor (List Float) × (ℕ × Unit {0})) (Bool × (MutBor (List Float) × Unit {0}))

-- f may be called at row r, the list being xs
pub record Takes {F : Type 0} (g : Step F) (f : F) (xs : List Float) (r : ℕ) : Type 0 where
  pub taken : (p : MutBor (List Float)) → p.now ≡ xs → g.pre f (p, (r, tt))

-- such a call may answer b and leave ys
pub record Gives {F : Type 0} (g : Step F) (f : F) (xs : List Float) (r : ℕ) (b : Bool) (ys : List Float) : Type 0 where
  pub shown : MutBor (List Float)
  pub shows : shown.now ≡ xs
  pub left : MutBor (List Float)
  pub met : g.post f (shown, (r, tt)) (b, (left, tt))
  pub leaves : left.now ≡ ys

-- row r is worked out if its flag is set; else all is as before
pub record TakenBy {F : Type 0} (g : Step F) (f : F) (flags : List ℕ) (base r : ℕ) (xs : List Float) (b : Bool) (ys : List Float) : Type 0 where
  pub same_long : length ys ≡ length xs
  pub left : flag_at flags (base + r) ≡ false → (b ≡ true) × (ys ≡ xs)
  pub taken : flag_at flags (base + r) ≡ true → Gives g f xs r b ys

-- the first n rows are, and all are finite
abbrev pub Ran : {F : Type 0} → Step F → F → List ℕ → ℕ → ℕ → List Float → List Float → Type 0
Ran g f flags base zero xs ys = ys ≡ xs
Ran g f flags base (suc n) xs ys = (zs : List Float) × Ran g f flags base n xs zs × TakenBy g f flags base n zs true ys

-- the first of n rows that is not finite, and the rows before it
pub record Stopped {F : Type 0} (g : Step F) (f : F) (flags : List ℕ) (base n : ℕ) (xs ys : List Float) : Type 0 where
  pub row : ℕ
  pub low : row < n
  pub before : List Float
  pub ran : Ran g f flags base row xs before
  pub bad : TakenBy g f flags base row before false ys

abbrev pub EachRow : {F : Type 0} → Step F → F → List ℕ → ℕ → ℕ → ℕ → List Float → Result (Unit {0}) NotFinite → List Float → Type 0
EachRow g f flags base n level xs (Ok x) ys = Ran g f flags base n xs ys
EachRow g f flags base n level xs (Err e) ys = (e.0 ≡ level) × Stopped g f flags base n xs ys
