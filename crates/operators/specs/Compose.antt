-- A relation of an axis as a run of words (docs/SPECIFICATION.md, 9): word i has the places that i is related to.
-- Assumes nothing.
use Rattle.std.specs.Prelude.{ℕ, ◌+◌, List, get_or}
use Rattle.operators.specs.Relation.{Rel, after, turned}
use Rattle.operators.specs.Bits.{bit_at, gathered}

-- the relation whose words stand from `at` on
unfoldable pub table : List ℕ → ℕ → Rel
table t at i j = bit_at (get_or t (at + i) 0) j

-- the words themselves
abbrev pub words_at : List ℕ → ℕ → ℕ → ℕ
words_at t at k = get_or t (at + k) 0

-- the relation of some words
abbrev pub bits_of : (ℕ → ℕ) → Rel
bits_of w i j = bit_at (w i) j

-- the relation one level down: f the other way round, then r, then g
unfoldable pub composed : ℕ → Rel → Rel → Rel → Rel
composed n f r g = after n (after n (turned f) r) g

-- the same in words: word c is what g brings from the places that r brings from those places below n whose word in f has c
unfoldable pub composed_word : ℕ → (ℕ → ℕ) → (ℕ → ℕ) → (ℕ → ℕ) → ℕ → ℕ
composed_word n f r g c = gathered n (bit_at (gathered n (turned (bits_of f) c) r)) g
