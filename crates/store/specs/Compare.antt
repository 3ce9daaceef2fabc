-- What the test of refusal 11 looks at, part by part (docs/SPECIFICATION.md, 12).
-- Assumes nothing.
use Rattle.std.specs.Prelude.{ℕ, suc, ◌+◌, ◌-◌, ◌*◌, ◌≤◌, ◌<◌, ◌≡◌, Bool, true, false, ◌&&◌, ◌||◌, cond, List, [], ◌∷◌, eqb, leb, length, get_or}
use Rattle.numbers.specs.declared.terms.Part.{Part}
use Rattle.numbers.specs.Lists.{tabulate, rows, start_of, starts_of, places_in}
use Rattle.numbers.specs.Transpose.{named_from}
use Rattle.lattice.specs.declared.levels.Three.{Three}
use Rattle.lattice.specs.Lattice.{FullLattice}
use Rattle.weights.specs.Tables.{count_entry, place_entry, Paired}
use Rattle.weights.specs.TwoLevels.{two_of}
use Rattle.operators.specs.Levels.{grid_at, base_relations}
use Rattle.operators.specs.LevelLists.{edges_on}
use Rattle.store.specs.Layout.{forward_cols, turned_cols, operator_off, stored_starts, ends_off}
use Rattle.store.specs.Setup.{ends_part, operator_starts_of, operator_cols_of}
use Rattle.store.specs.Phases.{forward_part, turned_part}
use Rattle.store.specs.FillSteps.{Relations}
use Rattle.store.specs.Calls.{matches}
use Rattle.store.specs.declared.Choice.{Choice}
use Rattle.store.specs.declared.Choice.TheVariants.{Galerkin, Rediscretized}

-- r is the first of n levels that fails a test, n where none does
pub record Lowest (ok : ℕ → Bool) (n r : ℕ) : Type 0 where
  pub low : r ≤ n
  pub before : (L : ℕ) → L < r → ok L ≡ true
  pub here : r < n → ok r ≡ false

-- the starts and the columns of n rows stand in two lists from a part on
abbrev pub rows_match : (ℕ → List ℕ) → ℕ → Part → List ℕ → List ℕ → Bool
rows_match cols n o ss cs = matches ss o.s (starts_of cols n) && matches cs o.k (rows cols n)

-- the lists have the part
pub record PartRoom (cols : ℕ → List ℕ) (n : ℕ) (o : Part) (ss cs : List ℕ) : Type 0 where
  pub starts_room : o.s + n < length ss
  pub columns_room : o.k + start_of cols n ≤ length cs

-- the ends of a level's three lines
abbrev pub lines_match : FullLattice → List ℕ → ℕ → Bool
lines_match l es L =
    matches es (ends_off l (3 * L)) (ends_part l (3 * L))
    && (matches es (ends_off l (3 * L + 1)) (ends_part l (3 * L + 1)) && matches es (ends_off l (3 * L + 2)) (ends_part l (3 * L + 2)))

-- the forward and the turned rows of a transfer
abbrev pub transfer_match : FullLattice → List ℕ → List ℕ → List ℕ → List ℕ → ℕ → Bool
transfer_match l ss cs ts us L =
    rows_match (forward_cols l L) (edges_on l L) (forward_part l L) ss cs && rows_match (turned_cols l L) (edges_on l (suc L)) (turned_part l L) ts us

-- the last level has none
abbrev pub transfer_ok : FullLattice → ℕ → List ℕ → List ℕ → List ℕ → List ℕ → ℕ → Bool
transfer_ok l m ss cs ts us L = leb m L || transfer_match l ss cs ts us L

-- a stored operator
abbrev pub operator_ok : FullLattice → Choice → ℕ → List ℕ → List ℕ → ℕ → Bool
operator_ok l ch m ss cs L = matches ss (stored_starts l m L) (operator_starts_of l ch m L) && matches cs (operator_off l ch m L) (operator_cols_of l ch m L)

-- u gives the columns of level L's operator
abbrev pub Gives : FullLattice → Choice → ℕ → List ℕ → Type 0
Gives l Galerkin L u = Relations l L u
Gives l Rediscretized L u = u ≡ base_relations l (grid_at l L)

-- ns and ps are the counts and the places of the slots between two levels
pub record Slotted (l : FullLattice) (fine coarse : Three) (ps ns : List ℕ) : Type 0 where
  pub paired : Paired l fine coarse
  pub counts : ns ≡ tabulate (count_entry (two_of l fine coarse)) 384 0
  pub places : ps ≡ tabulate (place_entry (two_of l fine coarse)) 768 0

-- ---- turned rows, from forward rows that stand in lists

-- the values vs stand in a list at the next free place of row c, within `count` places from tk on
pub record TurnFits (vs next us : List ℕ) (tk count c : ℕ) : Type 0 where
  pub low : (i : ℕ) → i < length vs → get_or next c 0 + i < count
  pub there : matches us (tk + get_or next c 0) vs ≡ true

-- b tells whether the values vs c do so for each of m rows c; then each next free place is behind them
pub record TurnedBy (vs : ℕ → List ℕ) (m : ℕ) (next us : List ℕ) (tk count : ℕ) (b : Bool) (next' : List ℕ) : Type 0 where
  pub long : length next' ≡ length next
  pub fits : b ≡ true → (c : ℕ) → c < m → TurnFits (vs c) next us tk count c
  pub behind : b ≡ true → (c : ℕ) → c < m → get_or next' c 0 ≡ get_or next c 0 + length (vs c)
  pub fails : b ≡ false → ((c : ℕ) → c < m → TurnFits (vs c) next us tk count c) → ⊥

-- what a term of row r at column d gives to turned row c
abbrev pub term_in : ℕ → ℕ → ℕ → List ℕ
term_in d r c = cond (eqb d c) (r ∷ []) []

-- what the n columns of row r from place k on give to it
abbrev pub named_in : List ℕ → ℕ → ℕ → ℕ → ℕ → List ℕ
named_in cs k n r c = named_from c r (places_in cs k n)

-- what row r gives to it, of rows that stand in lists
abbrev pub named_by : List ℕ → ℕ → List ℕ → ℕ → ℕ → ℕ → List ℕ
named_by ss s cs k c r = named_in cs (k + get_or ss (s + r) 0) (get_or ss (s + r + 1) 0 - get_or ss (s + r) 0) r c

-- n rows stand in lists, by places alone: their columns are below m, and there is room for as many turned ones
pub record Walkable (ss : List ℕ) (s : ℕ) (cs : List ℕ) (k n m : ℕ) (us : List ℕ) (tk count : ℕ) : Type 0 where
  pub starts_room : s + n < length ss
  pub rise : (r : ℕ) → r < n → get_or ss (s + r) 0 ≤ get_or ss (s + r + 1) 0
  pub most : (r : ℕ) → r < n → k + get_or ss (s + r + 1) 0 ≤ length cs
  pub low : (r q : ℕ) → r < n → get_or ss (s + r) 0 ≤ q → q < get_or ss (s + r + 1) 0 → get_or cs (k + q) 0 < m
  pub room : tk + count ≤ length us

-- the first of the rows begins at 0, and each behind c of them at the next free place of the one before it
pub record BeginsTo (next tss : List ℕ) (ts c : ℕ) : Type 0 where
  pub first : get_or tss ts 0 ≡ 0
  pub begins : (i : ℕ) → i < c → get_or tss (ts + i + 1) 0 ≡ get_or next i 0

-- b tells whether m rows do
pub record Begins (next tss : List ℕ) (ts m : ℕ) (b : Bool) : Type 0 where
  pub good : b ≡ true → BeginsTo next tss ts m
  pub bad : b ≡ false → BeginsTo next tss ts m → ⊥
