-- The lines of a test file (crates/case_lines/src/lines.rt).
-- Assumes nothing.
use Rattle.std.specs.Prelude.{◌≡◌, ℕ, ◌<◌, List, ◌++◌, ◌∷◌, length, ◌≢◌, All, take, ⊤, None, Some, Option}
use Rattle.std.specs.Borrow.{Bor}

-- where the bytes of the input are known, it lost a line and the newline behind it; or it has none within so many bytes
abbrev pub GivesLine : ℕ → Option (List ℕ) → Option (List ℕ) → Option (Bor (List ℕ)) → Type 0
GivesLine room None new line = ⊤
GivesLine room (Some bytes) None line = ⊥
GivesLine room (Some bytes) (Some rest) None = All (λ b. b ≢ 10) (take room bytes)
GivesLine room (Some bytes) (Some rest) (Some line) = (bytes ≡ line.now ++ 10 ∷ rest) × (length line.now < room) × All (λ b. b ≢ 10) line.now
