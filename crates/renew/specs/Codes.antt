-- The answers of this crate as the numbers of the definitions of a change: 0, or 1 + the level of the first row that has a number that is not finite.
-- Assumes nothing.
use Rattle.std.specs.Prelude.{ℕ, suc, Result, Ok, Err}
use Rattle.renew.specs.declared.NotFinite.{NotFinite}

abbrev pub code_of : {T : Type 0} → Result T NotFinite → ℕ
code_of (Ok x) = 0
code_of (Err e) = suc e.0
