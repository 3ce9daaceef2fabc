-- Laws of the layer of the lattice that this layer cites: three by axis, the ends of a coarser line among those of a finer one, the lines of the levels.
-- Assumes nothing.
use Prim.Native.Nat.{ℕ, zero, suc, ◌+◌, ◌-◌, ◌<◌, ◌≤◌}
use native.Mathlib.Decide.{dec_lt}
use native.Mathlib.Nat.{not-suc-le-zero, le_of_suc-le-suc}
use native.Mathlib.Omega.{arith}
use mathlib.Core.Path.{◌≡◌, refl, sym, ap, ◌∙◌}
use mathlib.Core.Bool.{Bool, true, false, not, ◌&&◌, ◌||◌, cond}
use mathlib.Core.List.{List, [], ◌∷◌}
use lib.Dec.{eqb, ltb}
use lib.ListN.{length, get_or}
use lib.Ieee.{Float}
use Rattle.numbers.specs.declared.C64.{C64}
use Rattle.numbers.specs.Lists.{before, Rises}
use Rattle.numbers.proofs.TabulateLaws.{length_tabulate}
use Rattle.numbers.proofs.ListLaws.{rises_below}
use Rattle.lattice.specs.declared.grid.Position.{Position}
use Rattle.lattice.specs.Grid.{axis3, n_of, place_on, index_of, Limits, Inside}
use Rattle.lattice.specs.Neighbours.{on_wall, fixed_at, is_fixed}
use Rattle.lattice.specs.Lattice.{FullLattice, edges_of, is_wall}
use Rattle.lattice.specs.Levels.{target, line_at, cells_at, three_at}
use Rattle.lattice.specs.Line.{place_of, packed, ends_of, twice, finest_ends, skips, joined, coarser_ends, nodes_of, LineOver}
use Rattle.lattice.specs.Stretched.{map_list, across_map, along_map}
use Rattle.lattice.proofs.GridLaws.{at_index}
use Rattle.lattice.proofs.LevelLaws.{line_over}
use Rattle.lattice.proofs.LineLaws.{ends_packed, coarser_none, coarser_two, coarser_shorter, nodes_at_lem}
use Rattle.numbers.proofs.ElementLaws.{before_is}

-- ---- by the axis

module _ {A : Type 0} (x y z : A) where
  pub axis3_0 : axis3 0 x y z ≡ x
  unfolding axis3
  axis3_0 = refl

  pub axis3_1 : axis3 1 x y z ≡ y
  unfolding axis3
  axis3_1 = refl

  pub axis3_2 : axis3 2 x y z ≡ z
  unfolding axis3
  axis3_2 = refl

-- ---- fixed edges

-- place m of axis a is fixed for component c: the first, on a wall axis other than the component's own
abbrev pub fixed_on : FullLattice → ℕ → ℕ → ℕ → Bool
fixed_on l c a m = not (eqb a c) && (eqb m 0 && is_wall (edges_of l a))

-- an edge is fixed if it is on one of the axes
pub fixed_axes : (l : FullLattice) (p : Position)
    → fixed_at l p ≡ fixed_on l p.component 0 p.i || (fixed_on l p.component 1 p.j || fixed_on l p.component 2 p.k)
unfolding fixed_at on_wall place_on axis3
fixed_axes l p = refl

-- an edge is fixed by its number as it is by its position
pub fixed_index : (l : FullLattice) {p : Position} → Limits l.grid → Inside l.grid p → is_fixed l (index_of l.grid p) ≡ fixed_at l p
unfolding is_fixed
fixed_index l h e = ap (fixed_at l) (at_index h e)

-- ---- maps and values

pub map_long : (l : FullLattice) (a : ℕ) (along : Bool) → length (cond along (along_map l a) (across_map l a)) ≡ 129
unfolding across_map along_map map_list
map_long l a true = length_tabulate _ 129 0
map_long l a false = length_tabulate _ 129 0

-- the value at place m lies no further than the end behind it
pub place_below : (es : List ℕ) (m b : ℕ) (along : Bool) → get_or es m 0 < b → get_or es (m + 1) 0 < b → place_of es m along < b
unfolding place_of
place_below es m b true h k = omega arith
place_below es m b false h k = h

-- ---- ends of a line among the ends of another

-- e is among the ends
pub record Among (e : ℕ) (es : List ℕ) : Type 0 where
  pub place : ℕ
  pub low : place < length es
  pub is : get_or es place 0 ≡ e

-- so is every end of cs
pub record EndsAmong (cs es : List ℕ) : Type 0 where
  pub each_among : (m : ℕ) → m < length cs → Among (get_or cs m 0) es

later : {e a : ℕ} {es : List ℕ} → Among e es → Among e (a ∷ es)
later p = record { place = suc p.place; low = omega (arith, p.low); is = p.is }

-- as many ends stand before an end of a rising line as its number says
pub before_end : (es : List ℕ) → Rises es → (m : ℕ) → m < length es → before (get_or es m 0) es ≡ m
before_end es r m h = before_is (get_or es m 0) es m (omega arith) (λ i b. rises_below es r i m b h) (λ b. omega arith)

pub before_among : {e : ℕ} (es : List ℕ) → Rises es → (p : Among e es) → before e es ≡ p.place
before_among es r p = ap (λ (f : ℕ). before f es) (sym p.is) ∙ before_end es r p.place p.low

-- two lines over the same cells, the ends of the coarse one among those of the fine one: node m of the coarse line as a node of the fine one
module _ {n : ℕ} {es cs : List ℕ} (fine : LineOver n es) (coarse : LineOver n cs) (kept : EndsAmong cs es) (m : ℕ) where
  -- it lies where the coarse one's does
  pub nodes_end : m < length cs → get_or es (get_or (nodes_of es cs) m 0) 0 ≡ get_or cs m 0
  nodes_end h =
      let p : Among (get_or cs m 0) es = kept.each_among m h in
      rw (nodes_at_lem es cs m h, before_among es fine.rises p) p.is

  pub nodes_low : m < length cs → get_or (nodes_of es cs) m 0 < length es
  nodes_low h =
      let p : Among (get_or cs m 0) es = kept.each_among m h in
      rw (nodes_at_lem es cs m h, before_among es fine.rises p) p.low

  -- a node but the last lies before the last
  pub nodes_below : m < length cs - 1 → get_or (nodes_of es cs) m 0 < length es - 1
  nodes_below h = go (dec_lt k (length es - 1))
    where
      k : ℕ
      k = get_or (nodes_of es cs) m 0

      b : m < length cs
      b = omega arith

      go : Dec (k < length es - 1) → k < length es - 1
      go (yes c) = c
      go (no c) =
          let e : k ≡ length es - 1 = omega (arith, nodes_low b) in
          let up : get_or cs m 0 < get_or cs (length cs - 1) 0 = rises_below cs coarse.rises m (length cs - 1) h (omega arith) in
          let same : get_or es (length es - 1) 0 ≡ get_or cs m 0 = rw e at (nodes_end b) in
          absurd (omega (arith, coarse.last, fine.last))

  pub nodes_most : m ≤ length cs - 1 → get_or (nodes_of es cs) m 0 ≤ length es - 1
  nodes_most h = omega (arith, nodes_low (omega (arith, coarse.some)))

-- ---- a line and the next coarser one

module _ (x : List C64) (t : Float) where
  joined_among : (pass : Bool) (es : List ℕ) (m : ℕ) → m < length (joined x t pass es) → Among (get_or (joined x t pass es) m 0) es
  unfolding joined
  joined_among pass [] m h = absurd (not-suc-le-zero h)
  joined_among true (b ∷ es) m h = later (joined_among false es m h)
  joined_among false (b ∷ es) zero h = record { place = 0; low = omega arith; is = refl }
  joined_among false (b ∷ es) (suc m) h = later (joined_among (skips x t b es) es m (le_of_suc-le-suc h))

  pub coarser_among : (es : List ℕ) → EndsAmong (coarser_ends x t es) es
  unfolding coarser_ends
  coarser_among es = record { each_among = λ m. go m (ltb (length es) 5) }
    where
      go : (m : ℕ) (b : Bool) → m < length (cond b es (joined x t false es)) → Among (get_or (cond b es (joined x t false es)) m 0) es
      go m true k = record { place = m; low = k; is = refl }
      go m false k = joined_among false es m k

  -- a coarser line of one cell is the line itself
  pub coarser_one : (es : List ℕ) → length (coarser_ends x t es) ≡ 2 → coarser_ends x t es ≡ es
  coarser_one es h = coarser_none x t es (go (dec_lt (length es) 5))
    where
      go : Dec (length es < 5) → length es < 5
      go (yes b) = b
      go (no b) = absurd (omega (arith, coarser_two x t es (omega arith)))

-- ---- the lines of a lattice's levels

-- no more cells than the finest line
pub line_most : (l : FullLattice) (a L : ℕ) → length (line_at l a L) ≤ n_of l.grid a + 1
unfolding line_at finest_ends
line_most l a zero = omega (arith, length_tabulate twice (n_of l.grid a + 1) 0)
line_most l a (suc L) = omega (arith, coarser_shorter (across_map l a) (target L) (line_at l a L), line_most l a L)

pub cells_fewer : (l : FullLattice) (a L : ℕ) → cells_at l a L ≤ n_of l.grid a
unfolding cells_at
cells_fewer l a L = omega (arith, line_most l a L)

-- the ends of the next level's line are ends of this level's
pub line_among : (l : FullLattice) (a L : ℕ) → EndsAmong (line_at l a (suc L)) (line_at l a L)
unfolding line_at
line_among l a L = coarser_among (across_map l a) (target L) (line_at l a L)

-- the next level's line has one cell only where this level's is the same
pub line_one : (l : FullLattice) (a L : ℕ) → length (line_at l a (suc L)) ≡ 2 → line_at l a (suc L) ≡ line_at l a L
unfolding line_at
line_one l a L = coarser_one (across_map l a) (target L) (line_at l a L)

module _ (l : FullLattice) (limits : Limits l.grid) where
  pub cells_some : (a L : ℕ) → 0 < cells_at l a L
  unfolding cells_at
  cells_some a L = omega (arith, (line_over l limits a L).some)

  -- a packed line's ends are the line
  pub line_ends : (a L : ℕ) → ends_of (packed (line_at l a L)) ≡ line_at l a L
  line_ends a L = let o = line_over l limits a L in ends_packed (line_at l a L) (omega (arith, o.some)) o.most

  -- the lines that a level's record holds
  pub three_ends : (L : ℕ) → (ends_of (three_at l L).x ≡ line_at l 0 L) × (ends_of (three_at l L).y ≡ line_at l 1 L) × (ends_of (three_at l L).z ≡ line_at l 2 L)
  unfolding three_at
  three_ends L = (line_ends 0 L, line_ends 1 L, line_ends 2 L)
