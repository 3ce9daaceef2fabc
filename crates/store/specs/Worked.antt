-- Rows worked out anew in place, one after another, up to the first that has a number that is not finite: over any store of places.
-- Assumes nothing.
use Rattle.std.specs.Prelude.{ℕ, zero, suc, ◌≡◌, List}
use Rattle.std.proofs.Math.Option.{Option, none, some}
use Rattle.store.specs.Space.{Space}
use Rattle.store.specs.Book.{Answer, Done, NotFinite}
use Rattle.store.specs.Plan.{Rules, run, first_bad, Stands}

-- the code's answer: 0 where all is finite, else 1 + the first level that is not
abbrev pub code : Option ℕ → ℕ
code none = 0
code (some l) = suc l

-- the answer that such a code stands for
abbrev pub answer_by : {Why : Type 0} → ℕ → Answer Why
answer_by zero = Done
answer_by (suc l) = NotFinite l

-- the rows rs have been worked out over the store s, with the answer n; t is left. Whatever the answer, only places of these rows have changed
pub record Worked {X : Space} (R : Rules X) (rs : List R.Row) (s : X.S) (n : ℕ) (t : X.S) : Type 0 where
  pub told : n ≡ code (first_bad R rs s)
  pub done : n ≡ 0 → t ≡ run R rs s
  pub shaped : X.shape t ≡ X.shape s
  pub kept : (p : X.P) → (Stands R p rs → ⊥) → X.get t p ≡ X.get s p

-- the same, and where a number is not finite all is as before
pub record Tried {X : Space} (R : Rules X) (rs : List R.Row) (s : X.S) (n : ℕ) (t : X.S) : Type 0 where
  pub told : n ≡ code (first_bad R rs s)
  pub done : n ≡ 0 → t ≡ run R rs s
  pub back : (n ≡ 0 → ⊥) → t ≡ s
