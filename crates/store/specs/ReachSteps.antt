-- The steps of a change's flags: lists with a flag for each row of one kind, the bits of all rows, and what each pass over a level leaves.
-- Assumes nothing.
use Rattle.std.specs.Prelude.{ℕ, suc, ◌+◌, ◌*◌, ◌≤◌, ◌<◌, ◌≡◌, Bool, false, ◌||◌, ◌&&◌, List, eqb, length, get_or}
use Rattle.numbers.specs.declared.terms.Part.{Part}
use Rattle.numbers.specs.Lists.{start_of, any_flag}
use Rattle.lattice.specs.Lattice.{FullLattice}
use Rattle.operators.specs.LevelLists.{edges_on}
use Rattle.operators.specs.Stencil.{stencil_reads}
use Rattle.store.specs.Rows.{Row}
use Rattle.store.specs.Parts.{part_off, part_row, part_size, flag_at}
use Rattle.store.specs.Work.{RowsAt}
use Rattle.store.specs.FillSteps.{only_count}
use Rattle.store.specs.Reach.{eps_hit, averaged_hit, forward_hit, turned_hit, galerkin_hit, operator_hit, hit}
use Rattle.store.specs.Layout.{forward_cols, turned_cols, operator_cols, forward_count, turned_count, operator_count}
use Rattle.store.specs.Phases.{forward_part, turned_part, operator_part}
use Rattle.store.specs.declared.Choice.{Choice}
use Rattle.store.specs.declared.Choice.TheVariants.{Galerkin, Rediscretized}
use Rattle.store.specs.declared.change.Hits.{Hits}
use Rattle.store.specs.declared.change.LevelParts.{LevelParts}

-- the words of the flags: a bit for each row of part 0 and of seven parts a transfer, 12,288 rows at most each, and eleven transfers
abbrev pub flag_words : ℕ
flag_words = 14976

-- ---- a list of flags

-- the first n flags tell what f does
pub record Flags (n : ℕ) (f : ℕ → Bool) (xs : List Bool) : Type 0 where
  pub long : n ≤ length xs
  pub each_is : (r : ℕ) → r < n → get_or xs r false ≡ f r

-- flag r has been raised for each of n rows that reads a flagged position, and nothing else has changed
pub record Raised (n : ℕ) (flags : List Bool) (reads : ℕ → List ℕ) (xs ys : List Bool) : Type 0 where
  pub same_long : length ys ≡ length xs
  pub each_is : (r : ℕ) → r < n → get_or ys r false ≡ (get_or xs r false || any_flag flags (reads r))
  pub rest_is : (r : ℕ) → n ≤ r → get_or ys r false ≡ get_or xs r false

-- n rows with these columns stand in two lists from part o on
pub record RowsHeld (cols : ℕ → List ℕ) (n : ℕ) (o : Part) (ss cs : List ℕ) : Type 0 where
  pub rows_at : RowsAt cols n o ss cs
  pub starts_room : o.s + n < length ss
  pub columns_room : o.k + start_of cols n ≤ length cs

-- whatever the columns are
pub record RowsThere (n : ℕ) (o : Part) (ss cs : List ℕ) : Type 0 where
  pub cols : ℕ → List ℕ
  pub held : RowsHeld cols n o ss cs

-- the flags have been raised by the columns of these rows
pub record RaisedBy (n : ℕ) (o : Part) (ss cs : List ℕ) (flags xs ys : List Bool) : Type 0 where
  pub raised : (cols : ℕ → List ℕ) → RowsAt cols n o ss cs → Raised n flags cols xs ys

-- ---- bits

-- bit q has been set if b says so, and no other has changed
pub record BitRaised (q : ℕ) (b : Bool) (ws vs : List ℕ) : Type 0 where
  pub same_long : length vs ≡ length ws
  pub each_is : (k : ℕ) → flag_at vs k ≡ (flag_at ws k || (b && eqb k q))

-- the bits from `base` on have been set for the first n flags that are raised, and no other has changed; r is the place behind them
pub record BitsRaised (base n : ℕ) (xs : List Bool) (ws vs : List ℕ) (r : ℕ) : Type 0 where
  pub same_long : length vs ≡ length ws
  pub next_is : r ≡ base + n
  pub each_is : (i : ℕ) → i < n → flag_at vs (base + i) ≡ (flag_at ws (base + i) || get_or xs i false)
  pub low_is : (k : ℕ) → k < base → flag_at vs k ≡ flag_at ws k
  pub high_is : (k : ℕ) → base + n ≤ k → flag_at vs k ≡ flag_at ws k

-- the bits of the first n parts tell which rows pass a test, and none is set behind them
pub record FlagsTo (l : FullLattice) (ch : Choice) (m : ℕ) (test : Row → Bool) (n : ℕ) (flags : List ℕ) : Type 0 where
  pub each_is : (p i : ℕ) → p < n → i < part_size l ch m p → flag_at flags (part_off l ch m p + i) ≡ test (part_row p i)
  pub rest_is : (q : ℕ) → part_off l ch m n ≤ q → flag_at flags q ≡ false

-- ---- the flags of a level; edge e of level 0 is changed

-- as many flags as a level has edges at most
pub record HitsLong (h : Hits) : Type 0 where
  pub eps_long : length h.eps ≡ 12288
  pub averaged_long : length h.averaged ≡ 12288
  pub forward_long : length h.forward ≡ 12288
  pub turned_long : length h.turned ≡ 12288
  pub operator_long : length h.operator ≡ 12288

-- those of level L that the next level's come from
pub record HitsAt (l : FullLattice) (e : ℕ) (ch : Choice) (L : ℕ) (h : Hits) : Type 0 where
  pub eps_are : Flags (edges_on l L) (eps_hit l e L) h.eps
  pub averaged_are : ch ≡ Rediscretized → Flags (edges_on l L) (averaged_hit l e L) h.averaged
  pub galerkin_are : ch ≡ Galerkin → Flags (edges_on l L) (galerkin_hit l e L) h.operator

-- those of the transfer from level L + 1 to L
pub record TransferHits (l : FullLattice) (e L : ℕ) (h : Hits) : Type 0 where
  pub coarse_are : Flags (edges_on l (suc L)) (eps_hit l e (suc L)) h.eps
  pub forward_are : Flags (edges_on l L) (forward_hit l e L) h.forward
  pub turned_are : Flags (edges_on l (suc L)) (turned_hit l e L) h.turned

-- both, of level L + 1, and those of its operator
pub record NextHits (l : FullLattice) (e : ℕ) (ch : Choice) (L : ℕ) (h : Hits) : Type 0 where
  pub own : HitsAt l e ch (suc L) h
  pub transfer : TransferHits l e L h
  pub operator_are : Flags (edges_on l (suc L)) (operator_hit l e ch (suc L)) h.operator

-- level 0's; those of its operator's rows where they are stored
pub record FirstHits (l : FullLattice) (e : ℕ) (ch : Choice) (m : ℕ) (h : Hits) : Type 0 where
  pub long : HitsLong h
  pub hits : HitsAt l e ch 0 h
  pub sole_are : m ≡ 0 → Flags (edges_on l 0) (operator_hit l e ch 0) h.operator

-- flags raised by the rows of level 0's operator, where the next level's come from them or they are stored
pub record FirstRaised (l : FullLattice) (ch : Choice) (m : ℕ) (flags xs ys : List Bool) : Type 0 where
  pub same_long : length ys ≡ length xs
  pub raised : only_count ch m ≡ 0 → Raised (edges_on l 0) flags (stencil_reads l) xs ys

-- ---- what the steps leave, whichever edge is changed

-- r has the transfer's flags, from those of level L in h
pub record TransferRaised (l : FullLattice) (L : ℕ) (h r : Hits) : Type 0 where
  pub long : HitsLong r
  pub averaged_same : r.averaged ≡ h.averaged
  pub operator_same : r.operator ≡ h.operator
  pub raised : (e : ℕ) → Flags (edges_on l L) (eps_hit l e L) h.eps → TransferHits l e L r

-- r has the flags of level L + 1, once h has those of the transfer and still those of level L's operator and averaged permittivities
pub record OperatorRaised (l : FullLattice) (ch : Choice) (L : ℕ) (h r : Hits) : Type 0 where
  pub long : HitsLong r
  pub raised : (e : ℕ) → TransferHits l e L h → (ch ≡ Rediscretized → Flags (edges_on l L) (averaged_hit l e L) h.averaged)
      → (ch ≡ Galerkin → Flags (edges_on l L) (galerkin_hit l e L) h.operator) → NextHits l e ch L r

-- all of them from those of level L
pub record LevelRaised (l : FullLattice) (ch : Choice) (L : ℕ) (h r : Hits) : Type 0 where
  pub long : HitsLong r
  pub raised : (e : ℕ) → HitsAt l e ch L h → NextHits l e ch L r

-- the bits of the permittivities of a level of k edges, of a averaged ones, and of n forward and k turned rows, from place `base` on; r is the place behind them
pub record TransferBits (base k a n : ℕ) (h : Hits) (ws vs : List ℕ) (r : ℕ) : Type 0 where
  pub ws₁ : List ℕ
  pub ws₂ : List ℕ
  pub ws₃ : List ℕ
  pub p₁ : ℕ
  pub p₂ : ℕ
  pub p₃ : ℕ
  pub coarse_bits : BitsRaised base k h.eps ws ws₁ p₁
  pub averaged_bits : BitsRaised p₁ a h.averaged ws₁ ws₂ p₂
  pub forward_bits : BitsRaised p₂ n h.forward ws₂ ws₃ p₃
  pub turned_bits : BitsRaised p₃ k h.turned ws₃ vs r

-- the bits of a level of k edges whose finer one has n, from place `base` on; r is the place behind them
pub record LevelBits (ch : Choice) (n k base : ℕ) (h : Hits) (ws vs : List ℕ) (r : ℕ) : Type 0 where
  pub same_long : length vs ≡ length ws
  pub next_is : (l : FullLattice) (m L : ℕ) → n ≡ edges_on l L → k ≡ edges_on l (suc L) → base ≡ part_off l ch m (suc (7 * L)) → r ≡ part_off l ch m (suc (7 * suc L))
  pub marked : (l : FullLattice) (m L : ℕ) → n ≡ edges_on l L → k ≡ edges_on l (suc L) → base ≡ part_off l ch m (suc (7 * L))
      → (e : ℕ) → NextHits l e ch L h → FlagsTo l ch m (hit l e ch) (suc (7 * L)) ws → FlagsTo l ch m (hit l e ch) (suc (7 * suc L)) vs

-- the bits of part 0, of n edges of level 0; r is the place behind them
pub record SoleBits (m n : ℕ) (h : Hits) (ws vs : List ℕ) (r : ℕ) : Type 0 where
  pub same_long : length vs ≡ length ws
  pub next_is : (l : FullLattice) (ch : Choice) → n ≡ edges_on l 0 → r ≡ part_off l ch m 1
  pub marked : (l : FullLattice) (ch : Choice) → n ≡ edges_on l 0 → (e : ℕ) → (m ≡ 0 → Flags (edges_on l 0) (operator_hit l e ch 0) h.operator) → ((q : ℕ) → flag_at ws q ≡ false) → FlagsTo l ch m (hit l e ch) 1 vs

-- ---- where the rows of a level stand

abbrev pub parts_at : FullLattice → Choice → ℕ → ℕ → LevelParts
parts_at l ch m L = record { forward = forward_part l L; turned = turned_part l L; operator = operator_part l ch m L }

-- the rows of the transfer from level L + 1 to L, and those of level L's operator, which is not stored on level 0
pub record TransferHeld (l : FullLattice) (L : ℕ) (a : LevelParts) (ss cs ts us : List ℕ) : Type 0 where
  pub forward_held : RowsHeld (forward_cols l L) (edges_on l L) a.forward ss cs
  pub turned_held : RowsHeld (turned_cols l L) (edges_on l (suc L)) a.turned ts us

pub record OperatorHeld (l : FullLattice) (ch : Choice) (L : ℕ) (o : Part) (os oc : List ℕ) : Type 0 where
  pub held : (L ≡ 0 → ⊥) → RowsHeld (operator_cols l ch L) (edges_on l L) o os oc

-- n rows whose last start is `count` stand from o on
pub record Ends (o : Part) (n count : ℕ) (ss : List ℕ) : Type 0 where
  pub room : o.s + n < length ss
  pub last_is : get_or ss (o.s + n) 0 ≡ count

pub record LevelEnds (l : FullLattice) (ch : Choice) (L : ℕ) (a : LevelParts) (ss ts os : List ℕ) : Type 0 where
  pub forward_ends : Ends a.forward (edges_on l L) (forward_count l L) ss
  pub turned_ends : Ends a.turned (edges_on l (suc L)) (turned_count l L) ts
  pub operator_ends : (L ≡ 0 → ⊥) → Ends a.operator (edges_on l L) (operator_count l ch L) os
