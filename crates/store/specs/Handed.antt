-- Rows handed back (docs/SPECIFICATION.md, 11): which part of a lent list holds a row, for cell counts, starts and lists of any content.
-- Assumes nothing.
use Rattle.std.specs.Prelude.{ℕ, zero, suc, ◌+◌, ◌-◌, ◌*◌, ◌/◌, ◌<◌, ◌≤◌, ◌≡◌, Bool, true, ◌&&◌, cond, List, leb, ltb, Float, length, get_or, take, drop, Option, Some, None}
use Rattle.numbers.specs.Lists.{sum_to}
use Rattle.lattice.specs.Lattice.{FullLattice}
use Rattle.lattice.specs.Levels.{cells_at}
use Rattle.store.specs.Layout.{starts_off}
use Rattle.store.specs.declared.handed.Cells.{Cells}

-- where something stands in two lists, or in one from one place up to another; or that it does not
abbrev pub Span : Type 0
Span = Option (ℕ × ℕ)

-- ---- levels

-- the cells of axis a on level L
abbrev pub cells_in : Cells → ℕ → ℕ → ℕ
cells_in c L a = get_or c.cells (3 * L + a) 0

-- 1 to 64
abbrev pub some_cells : ℕ → Bool
some_cells n = ltb 0 n && leb n 64

-- level L exists: it is below the level count and below 12, and each axis has 1 to 64 cells. Their product, at most 64^3, is not tested: the limit of
-- 4,096 cells is refusal 1's, and the rows' bounds do not need it.
unfoldable pub level_there : Cells → ℕ → Bool
level_there c L = ltb L 12 && (ltb L c.levels && (some_cells (cells_in c L 0) && (some_cells (cells_in c L 1) && some_cells (cells_in c L 2))))

-- its edges, none where it does not exist
unfoldable pub edges_in : Cells → ℕ → ℕ
edges_in c L = cond (level_there c L) (3 * (cells_in c L 0 * cells_in c L 1 * cells_in c L 2)) 0

-- the first n levels exist
unfoldable pub levels_there : Cells → ℕ → Bool
levels_there c zero = true
levels_there c (suc n) = levels_there c n && level_there c n

-- ---- a row of a list of three: part q has n q rows, so n q + 1 starts, which count within their part

-- start r of part p
abbrev pub start_in : (ℕ → ℕ) → List ℕ → ℕ → ℕ → ℕ
start_in n ss p r = get_or ss (starts_off n p + r) 0

-- the terms of part p begin behind those of the parts before it, each of which has as many as its last start says
unfoldable pub terms_off : (ℕ → ℕ) → List ℕ → ℕ → ℕ
terms_off n ss p = sum_to (λ q. start_in n ss q (n q)) p

-- where the starts and the terms of part p begin; the starts before it fit the list of starts, the terms before it the room for terms
unfoldable pub part_at : (ℕ → ℕ) → List ℕ → ℕ → ℕ → Span
part_at n ss room p = cond (leb (starts_off n p) (length ss) && leb (terms_off n ss p) room) (Some (starts_off n p, terms_off n ss p)) None

-- the terms of row r of part p: the part has the row, its start and the next are in the list, in order, and its terms fit the room
unfoldable pub row_at : (ℕ → ℕ) → List ℕ → ℕ → ℕ → ℕ → Span
row_at n ss room p r =
    cond
    (ltb r (n p)
    && (ltb (starts_off n p + (r + 1)) (length ss) && (leb (start_in n ss p r) (start_in n ss p (r + 1)) && leb (terms_off n ss p + start_in n ss p (r + 1)) room)))
    (Some (terms_off n ss p + start_in n ss p r, terms_off n ss p + start_in n ss p (r + 1)))
    None

-- part q has the rows of level q + first
abbrev pub rows_from : Cells → ℕ → ℕ → ℕ
rows_from c first q = edges_in c (q + first)

-- the transfer from level L + 1 to L has a part in the forward list, with the rows of level L (first = 0), and one in the turned list (first = 1)
unfoldable pub transfer_row : Cells → ℕ → List ℕ → ℕ → ℕ → ℕ → Span
transfer_row c first ss room L r = cond (levels_there c (L + 2)) (row_at (rows_from c first) ss room L r) None

-- as the caller chooses: of the turned list or of the forward one, each with its room for terms
unfoldable pub weight_terms : Cells → Bool → List ℕ → ℕ → List ℕ → ℕ → ℕ → ℕ → Span
weight_terms c turned ss room ts troom L r = cond turned (transfer_row c 1 ts troom L r) (transfer_row c 0 ss room L r)

-- the first level whose operator is stored: level 0 only where it is the only one
abbrev pub first_of : Cells → ℕ
first_of c = cond (leb c.levels 1) 0 1

unfoldable pub operator_row : Cells → List ℕ → ℕ → ℕ → ℕ → Span
operator_row c ss room L r = cond (leb (first_of c) L && levels_there c (L + 1)) (row_at (rows_from c (first_of c)) ss room (L - first_of c) r) None

-- ---- what is handed back

-- the part of a list from place i up to place j
abbrev pub part_of : {A : Type 0} → List A → ℕ → ℕ → List A
part_of xs i j = take (j - i) (drop i xs)

-- numbers, two doubles each; the empty front of the forward list where there is no such row
abbrev pub numbers_handed : List Float → List Float → Span → List Float
numbers_handed forward xs (Some (i, j)) = part_of xs (2 * i) (2 * j)
numbers_handed forward xs None = part_of forward 0 0

-- columns; the empty front of the list where there is no such row
abbrev pub columns_handed : List ℕ → Span → List ℕ
columns_handed cs (Some (i, j)) = part_of cs i j
columns_handed cs None = part_of cs 0 0

unfoldable pub weight_row_of : Cells → Bool → List ℕ → List Float → List ℕ → List Float → ℕ → ℕ → List Float
weight_row_of c turned ss xs ts ys L r = numbers_handed xs (cond turned ys xs) (weight_terms c turned ss (length xs / 2) ts (length ys / 2) L r)

unfoldable pub operator_row_of : Cells → List ℕ → List ℕ → ℕ → ℕ → List ℕ
operator_row_of c ss cs L r = columns_handed cs (operator_row c ss (length cs) L r)

-- ---- the counts of a lattice with m transfers

pub record CellsOf (l : FullLattice) (m : ℕ) (c : Cells) : Type 0 where
  pub levels_are : c.levels ≡ m + 1
  pub few : m < 12
  pub cells_are : (L a : ℕ) → L ≤ m → a < 3 → cells_in c L a ≡ cells_at l a L
