-- The eighteen relations of a level in one list of words (docs/SPECIFICATION.md, 9): relation w of axis d has the 64 words from 64 * (6 * d + w) on.
-- Roles are numbered too: 0 along, 1 across.
-- Assumes nothing.
use Rattle.std.specs.Prelude.{ℕ, zero, suc, ◌+◌, ◌-◌, ◌*◌, ◌/◌, ◌%◌, ◌<◌, ◌≤◌, ◌≡◌, List, [], ◌∷◌, Bool, true, false, cond, length, get_or, replicate, eqb, ltb}
use Rattle.lattice.specs.declared.grid.Grid3d.{Grid3d}
use Rattle.lattice.specs.declared.grid.Position.{Position}
use Rattle.numbers.specs.Lists.{tabulate, laid}
use Rattle.operators.specs.Pattern.{Role, along, across, Name, same, near, up, down, Ladder, rel}
use Rattle.operators.specs.Columns.{row}
use Rattle.operators.specs.declared.columns.Picks.{Picks}
use Rattle.operators.specs.Compose.{table, words_at, composed_word}
use Rattle.weights.specs.Tables.{all_slots}

-- eighteen relations of 64 words
abbrev pub word_count : ℕ
word_count = 1152

-- relation number w
abbrev pub name_no : ℕ → Name
name_no zero = same along
name_no (suc zero) = same across
name_no (suc (suc zero)) = near along
name_no (suc (suc (suc zero))) = near across
name_no (suc (suc (suc (suc zero)))) = up
name_no (suc (suc (suc (suc (suc w))))) = down

-- role number r
abbrev pub role_no : ℕ → Role
role_no zero = along
role_no (suc r) = across

-- the role of the columns of relation w; that of its rows is w % 2
unfoldable pub column_no : ℕ → ℕ
column_no w = cond (ltb w 4) (w % 2) (5 - w)

-- the number of a relation, from what its axis is
abbrev pub no_of : Bool → Bool → Bool → ℕ
no_of true true true = 2
no_of true true false = 0
no_of true false t = 4
no_of false true t = 5
no_of false false true = 3
no_of false false false = 1

-- the word of place i on axis d, in a row of component a for the columns of component b
unfoldable pub word_of : List ℕ → ℕ → ℕ → ℕ → Bool → ℕ → ℕ
word_of t d a b wide i = get_or t (64 * (6 * d + no_of (eqb d a) (eqb d b) wide) + i) 0

-- the words of a row of component a for the columns of component b
unfoldable pub picks_of : List ℕ → ℕ → ℕ → ℕ → ℕ → ℕ → Picks
unfolding word_of
picks_of t a b x y z =
    record {
      sx = word_of t 0 a b false x;
      tx = word_of t 0 a b (eqb a b) x;
      sy = word_of t 1 a b false y;
      ty = word_of t 1 a b (eqb a b) y;
      sz = word_of t 2 a b false z;
      tz = word_of t 2 a b (eqb a b) z;
    }

-- the columns of row r, whose edge is at p: r alone if the edge is held fixed, else those that are picked
unfoldable pub row_columns : List ℕ → Grid3d → Bool → ℕ → Position → List ℕ
row_columns t g fixed r p =
    cond fixed (r ∷ [])
    (row
    (picks_of t p.component 0 p.i p.j p.k)
    (picks_of t p.component 1 p.i p.j p.k)
    (picks_of t p.component 2 p.i p.j p.k)
    g.nx g.ny g.nz)

-- the words w q of each of the first m relations laid over a list, those of relation q from 64 * q on
unfoldable pub relations_laid : (ℕ → List ℕ) → ℕ → List ℕ → List ℕ
relations_laid w zero xs = xs
relations_laid w (suc q) xs = laid (relations_laid w q xs) (64 * q) (w q)

-- a list of eighteen relations without a word
abbrev pub no_relations : List ℕ
no_relations = replicate word_count 0

-- the words of relation number q one level down, for m cells: t has a level's relations, f the words of its weights' places, n its cells
unfoldable pub words_below : List ℕ → List ℕ → List ℕ → List ℕ → ℕ → List ℕ
words_below t f n m q =
    tabulate
    (composed_word (get_or n (q / 6) 0)
    (words_at f (64 * (2 * (q / 6) + q % 6 % 2))) (words_at t (64 * q)) (words_at f (64 * (2 * (q / 6) + column_no (q % 6)))))
    (get_or m (q / 6) 0) 0

-- what `coarsen` is given: a level's relations t, the words f of its weights' places, role r of axis d from 64 * (2 * d + r) on, the cells n and m of
-- the level and of the next, and room for the next level's relations
pub record Ready (t f n m out : List ℕ) : Type 0 where
  pub fine : length t ≡ word_count
  pub weights : length f ≡ all_slots
  pub coarse : length out ≡ word_count
  pub axes : length n ≡ 3
  pub axes_below : length m ≡ 3
  pub small : (d : ℕ) → d < 3 → get_or n d 0 ≤ 64
  pub small_below : (d : ℕ) → d < 3 → get_or m d 0 ≤ 64

-- the list has level L's relations
pub record Right (M : Ladder) (L : ℕ) (t : List ℕ) : Type 0 where
  pub is : (q i j : ℕ) → q < 18 → i < M.cells L (q / 6) → j < M.cells L (q / 6) → table t (64 * q) i j ≡ rel M L (q / 6) (name_no (q % 6)) i j
