-- The starred cases (docs/SPECIFICATION.md, 6): a table of rows, each with what the definitions compute and what was worked out by hand.
-- The theorem `all_cases` (proofs/Cases.antt) says that they are equal. A layer above has the rows of the layers below and its own in one table.
-- Assumes nothing.
use Rattle.std.specs.Prelude.{ℕ, false, List, [], ◌∷◌, Float}
use Rattle.std.specs.Float.{binary64}
use Rattle.std.specs.Float.Ieee.{round}
use Rattle.numbers.specs.declared.C64.{C64}
use Rattle.numbers.specs.Complex.{zero_f}
use Rattle.lattice.specs.Stretched.{map_list}
use Rattle.lattice.specs.Line.{finest_ends, coarser_ends}
use Rattle.lattice.specs.Levels.{target}

-- the double nearest to a / b
abbrev pub over : ℕ → ℕ → Float
over a b = round binary64 false a b

-- what a case comes to: whole numbers (ends, places, columns) and doubles (weights, permittivities), in order
pub record Outcome : Type 0 where
  pub places : List ℕ
  pub doubles : List Float

pub record Case : Type 0 where
  pub computed : Outcome
  pub expected : Outcome

abbrev pub ends : List ℕ → Outcome
ends es = record { places = es; doubles = [] }

-- the same real stretch everywhere
abbrev pub everywhere : Float → ℕ → C64
everywhere s p = record { re = s; im = zero_f }

-- level 0 of an axis of n cells, all of the real stretch s, is joined to the line with the ends es
unfoldable pub joining : ℕ → Float → List ℕ → Case
joining n s es = record { computed = ends (coarser_ends (map_list (everywhere s) n) (target 0) (finest_ends n)); expected = ends es }

unfoldable pub table : List Case
table =
    joining 3 (over 1 1) (0 ∷ 2 ∷ 4 ∷ 6 ∷ [])
    ∷ joining 4 (over 1 1) (0 ∷ 4 ∷ 8 ∷ [])
    ∷ joining 5 (over 1 1) (0 ∷ 4 ∷ 8 ∷ 10 ∷ [])
    ∷ joining 4 (over 3 2) (0 ∷ 4 ∷ 8 ∷ [])
    ∷ joining 4 (over 7 4) (0 ∷ 2 ∷ 4 ∷ 6 ∷ 8 ∷ [])
    ∷ []
