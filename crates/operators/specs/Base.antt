-- Level 0's relations of an axis of n cells (docs/SPECIFICATION.md, 9): wrapped if it is Bloch's, and with place 0 of the role across held fixed if
-- it is a wall's.
-- Assumes nothing.
use Rattle.std.specs.Prelude.{ℕ, ◌+◌, ◌/◌, ◌%◌, ◌<◌, ◌≤◌, List, ◌≡◌, Bool, true, false, not, ◌&&◌, ◌||◌, length, get_or, eqb, ltb}
use Rattle.numbers.specs.Lists.{tabulate}
use Rattle.operators.specs.Relation.{Rel}
use Rattle.operators.specs.Pattern.{Role, along, across, Name, same, near, up, down}
use Rattle.operators.specs.Bits.{single, gathered}
use Rattle.operators.specs.Numbered.{name_no, word_count}

-- not held fixed
unfoldable pub live_at : Bool → Role → ℕ → Bool
live_at bloch along i = true
live_at bloch across i = bloch || not (eqb i 0)

-- j comes next after i
unfoldable pub follows : ℕ → Bool → ℕ → ℕ → Bool
follows n bloch i j = (eqb j (i + 1) && ltb (i + 1) n) || ((bloch && eqb (i + 1) n) && eqb j 0)

-- the relations: none of them reaches a fixed place
unfoldable pub base_of : ℕ → Bool → Name → Rel
unfolding live_at follows
base_of n bloch (same r) i j = live_at bloch r i && eqb i j
base_of n bloch (near r) i j = (live_at bloch r i && live_at bloch r j) && (eqb i j || (follows n bloch i j || follows n bloch j i))
base_of n bloch up i j = live_at bloch across j && (eqb i j || follows n bloch i j)
base_of n bloch down i j = live_at bloch across i && (eqb i j || follows n bloch j i)

-- the word of relation number w at place i: the places below n that it is related to
unfoldable pub base_word : ℕ → Bool → ℕ → ℕ → ℕ
base_word n bloch w i = gathered n (base_of n bloch (name_no w) i) single

-- j is a place below n that relation number w has at i
unfoldable pub place_of : ℕ → Bool → ℕ → ℕ → ℕ → Bool
place_of n bloch w i j = ltb j n && base_of n bloch (name_no w) i j

-- no place but r comes next after i
pub record OnlyAfter (n i r : ℕ) : Type 0 where
  pub only : (bloch : Bool) (j : ℕ) → follows n bloch i j ≡ true → j ≡ r

-- i comes next after no place but r
pub record OnlyBefore (n i r : ℕ) : Type 0 where
  pub only : (bloch : Bool) (j : ℕ) → follows n bloch j i ≡ true → j ≡ r

-- the words of relation number q of the three axes, one for each of its axis's cells
unfoldable pub base_words : List ℕ → List Bool → ℕ → List ℕ
base_words n bloch q = tabulate (base_word (get_or n (q / 6) 0) (get_or bloch (q / 6) false) (q % 6)) (get_or n (q / 6) 0) 0

-- what `fill_base` is given: three cells and three kinds of axis, and room for eighteen relations
pub record Sizes (n : List ℕ) (bloch : List Bool) (t : List ℕ) : Type 0 where
  pub axes : length n ≡ 3
  pub kinds : length bloch ≡ 3
  pub many : length t ≡ word_count
  pub small : (d : ℕ) → d < 3 → get_or n d 0 ≤ 64
