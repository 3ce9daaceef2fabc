-- The first of some levels that fails a test, as the code tells it: a level, or none.
-- Assumes nothing.
use Rattle.std.specs.Prelude.{ℕ, ◌<◌, Bool, Option, Some, None}
use Rattle.store.specs.Compare.{Lowest}
use Rattle.store.specs.FillSteps.{FirstBad}

-- the first of n levels that fails a test; none where none does
abbrev pub LowestIn : (ℕ → Bool) → ℕ → Option ℕ → Type 0
LowestIn ok n None = Lowest ok n n
LowestIn ok n (Some L) = (L < n) × Lowest ok n L

-- and the verdict over them all
abbrev pub FirstBadIn : ℕ → (ℕ → Bool) → ℕ → Option ℕ → Type 0
FirstBadIn number ok n None = FirstBad number ok n n
FirstBadIn number ok n (Some L) = (L < n) × FirstBad number ok n L
