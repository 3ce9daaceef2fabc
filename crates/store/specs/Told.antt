-- Answers in two whole numbers: a refusal's number and place, or 0 and the level count; and the choice that a number stands for.
-- Assumes nothing.
use Rattle.std.specs.Prelude.{ℕ, zero, suc, cond, eqb, Result, Ok, Err}
use Rattle.lattice.specs.Check.{Verdict, accepted, refused}
use Rattle.store.specs.declared.Choice.{Choice}
use Rattle.store.specs.declared.Choice.TheVariants.{Galerkin, Rediscretized}
use Rattle.store.specs.declared.told.Told.{Told}

abbrev pub told : ℕ → ℕ → Told
told number place = record { number = number; place = place }

abbrev pub told_by : Verdict → Told
told_by (accepted n) = told 0 n
told_by (refused number place) = told number place

-- as a result: the level count, or a refusal
abbrev pub said : Told → Result ℕ Told
said t = cond (eqb t.number 0) (Ok t.place) (Err t)

-- 0 is Galerkin, every other number rediscretized
abbrev pub choice_of : ℕ → Choice
choice_of zero = Galerkin
choice_of (suc n) = Rediscretized
