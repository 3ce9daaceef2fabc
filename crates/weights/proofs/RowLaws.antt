-- Rows from the lists of slots: what a slot of a position has, and the loops that lay one list for each entry of a slot or for each edge.
-- Assumes nothing.
use Prim.Native.Nat.{ℕ, ◌+◌, ◌*◌, ◌/◌, ◌<◌, ◌≤◌}
use mathlib.Core.Path.{◌≡◌}
use mathlib.Core.Bool.{Bool, true, false, cond}
use mathlib.Core.List.{List}
use native.Mathlib.Omega.{arith}
use native.Mathlib.Nat.{mul-le-mul, mul-le-mul_left}
use lib.ListN.{length, get_or}
use lib.Ieee.{Float}
use Rattle.numbers.specs.declared.C64.{C64}
use Rattle.lattice.specs.declared.grid.Grid3d.{Grid3d}
use Rattle.lattice.specs.declared.grid.Position.{Position}
use Rattle.lattice.specs.Grid.{n_of, at_of, unknowns_of, Limits, Inside}
use Rattle.numbers.specs.Lists.{tabulate, rows, each, Laid, entry_at}
use Rattle.numbers.proofs.TabulateLaws.{length_tabulate}
use Rattle.lattice.proofs.GridLaws.{at_inside}
use Rattle.numbers.proofs.TermLaws.{each_most}
use Rattle.numbers.proofs.LoopLaws.{each_tabulate}
use Rattle.weights.specs.declared.rows.Pull.{Pull}
use Rattle.weights.specs.Prolongation.{is_along}
use Rattle.weights.specs.Product.{column_in}
use Rattle.weights.specs.Tables.{HasSlots, slot_of, slot_on, pull_in, PlacesOf, NodesOf, columns_in_z, columns_in_y, columns_in, number_in, numbers_in_z, numbers_in_y, numbers_in}

-- ---- the slot of a position on an axis

pub record SlotOf (q a : ℕ) : Type 0 where
  pub below : q < 384
  pub axis_is : q / 128 ≡ a

pub slot_part : (p : Position) (a i : ℕ) → a < 3 → i < 64 → SlotOf (slot_on p a i) a
unfolding slot_on slot_of
slot_part p a i h l = go (is_along p a)
  where
    go : (b : Bool) → SlotOf (128 * a + cond b 64 0 + i) a
    go true = record { below = omega arith; axis_is = omega arith }
    go false = record { below = omega arith; axis_is = omega arith }

pub slot_is : (p : Position) (a i : ℕ) {q : ℕ} → q ≡ slot_on p a i → a < 3 → i < 64 → SlotOf q a
slot_is p a i {q} e h l = rw e (slot_part p a i h l)

-- its entries are places of the grids
pub place_on_lem : {g : Grid3d} {ps ns : List ℕ} {q a d : ℕ} → PlacesOf g ps ns → SlotOf q a → d < get_or ns q 0 → get_or ps (2 * q + d) 0 < n_of g a
place_on_lem {q = q} {d = d} u s h = rw s.axis_is at (u.place_in q d s.below h)

pub node_on_lem : {g : Grid3d} {ds ns : List ℕ} {q a d : ℕ} → NodesOf g ds ns → SlotOf q a → d < get_or ns q 0 → get_or ds (2 * q + d) 0 < n_of g a
node_on_lem {q = q} {d = d} u s h = rw s.axis_is at (u.node_in_is q d s.below h)

-- the product of two short counts, and of three
pub two_few : {x y : ℕ} → x ≤ 2 → y ≤ 2 → x * y ≤ 4
two_few {x} {y} h l = mul-le-mul h l

pub three_few : {x y z : ℕ} → x ≤ 2 → y ≤ 2 → z ≤ 2 → x * y * z ≤ 8
three_few h l m = mul-le-mul (two_few h l) m

-- ---- how long the lists of a row are

-- at most b for each of at most two elements
each_few : {E A : Type 0} (f : E → List A) (b : ℕ) (ts : List E) → ((t : E) → length (f t) ≤ b) → length ts ≤ 2 → length (each f ts) ≤ b * 2
each_few f b ts h l = omega (arith, each_most f b h ts, mul-le-mul_left b l)

module _ {g : Grid3d} {ps ns : List ℕ} (u : PlacesOf g ps ns) (p : Position) where
  -- what f gives for the entries of a slot
  entries_few : {E A : Type 0} (f : E → List A) (entry : ℕ → E) (b a i : ℕ) → a < 3 → i < 64 → ((t : E) → length (f t) ≤ b)
      → length (each f (tabulate entry (get_or ns (slot_on p a i) 0) (2 * slot_on p a i))) ≤ b * 2
  entries_few f entry b a i h l m =
      let q = slot_on p a i in
      each_few f b (tabulate entry (get_or ns q 0) (2 * q)) m
      (omega (arith, length_tabulate entry (get_or ns q 0) (2 * q), u.few q (slot_part p a i h l).below))

  pub columns_z_most : p.k < 64 → (i j : ℕ) → length (columns_in_z g ps ns p i j) ≤ 2
  unfolding columns_in_z column_in
  columns_z_most h i j = entries_few (column_in g p i j) (entry_at ps) 1 2 p.k (omega arith) h (λ k. omega arith)

  pub columns_y_most : p.j < 64 → p.k < 64 → (i : ℕ) → length (columns_in_y g ps ns p i) ≤ 4
  unfolding columns_in_y
  columns_y_most h l i = entries_few (columns_in_z g ps ns p i) (entry_at ps) 2 1 p.j (omega arith) h (columns_z_most l i)

  pub columns_most : p.i < 64 → p.j < 64 → p.k < 64 → length (columns_in g ps ns p) ≤ 8
  unfolding columns_in
  columns_most h l m = entries_few (columns_in_y g ps ns p) (entry_at ps) 4 0 p.i (omega arith) h (columns_y_most l m)

  -- the same with fine places and weights
  module _ (gf : Grid3d) (f e : ℕ → C64) (ds : List ℕ) (xs : List Float) where
    pub numbers_z_most : p.k < 64 → (x y : Pull) → length (numbers_in_z gf g f e ps ds ns xs p x y) ≤ 2
    unfolding numbers_in_z number_in
    numbers_z_most h x y = entries_few (number_in gf g f e p x y) (pull_in ps ds xs) 1 2 p.k (omega arith) h (λ z. omega arith)

    pub numbers_y_most : p.j < 64 → p.k < 64 → (x : Pull) → length (numbers_in_y gf g f e ps ds ns xs p x) ≤ 4
    unfolding numbers_in_y
    numbers_y_most h l x = entries_few (numbers_in_z gf g f e ps ds ns xs p x) (pull_in ps ds xs) 2 1 p.j (omega arith) h (numbers_z_most l x)

    pub numbers_most : p.i < 64 → p.j < 64 → p.k < 64 → length (numbers_in gf g f e ps ds ns xs p) ≤ 8
    unfolding numbers_in
    numbers_most h l m = entries_few (numbers_in_y gf g f e ps ds ns xs p) (pull_in ps ds xs) 4 0 p.i (omega arith) h (numbers_y_most l m)

-- ---- the entries of a slot, one behind another

-- a slot of a position has at most two entries, and its lists reach that far
pub record Few (q a n : ℕ) : Type 0 where
  pub slot : SlotOf q a
  pub most : n ≤ 2

pub few_at : {g : Grid3d} {ps ns : List ℕ} {q a : ℕ} (p : Position) (i : ℕ) → PlacesOf g ps ns → q ≡ slot_on p a i → a < 3 → i < 64 → Few q a (get_or ns q 0)
few_at {q = q} {a} p i u e h l = let s : SlotOf q a = slot_is p a i e h l in record { slot = s; most = u.few q s.below }

-- what has been laid for each entry has been laid for the slot
pub slot_laid : {L E A : Type 0} {put : L → ℕ → A → L} (f : E → List A) (entry : ℕ → E) (ns : List ℕ) {q s from k : ℕ} {xs ys : L} → q ≡ s
    → Laid put xs from (rows (λ d. f (entry (2 * q + d))) (get_or ns q 0)) ys k → Laid put xs from (each f (tabulate entry (get_or ns s 0) (2 * s))) ys k
slot_laid f entry ns {s = s} e h = rw (each_tabulate f entry (2 * s) (get_or ns s 0), ← e) h

-- ---- edges of a grid

-- a position of a grid within the limits has places below 64
pub place_small : {g : Grid3d} {p : Position} → Limits g → Inside g p → (p.i < 64) × (p.j < 64) × (p.k < 64)
place_small l h = (omega (arith, l.x_most, h.i_in), omega (arith, l.y_most, h.j_in), omega (arith, l.z_most, h.k_in))

-- so with those of an edge
pub at_low : {g : Grid3d} {p : Position} {r : ℕ} → Limits g → r < unknowns_of g → p ≡ at_of g r → HasSlots p
at_low {g} {p} {r} l h e =
    let i : Inside g (at_of g r) = at_inside l r h in
    let s = place_small l i in
    rw e (record { c_low = i.c_in; i_low = s.0; j_low = s.1; k_low = s.2 })
