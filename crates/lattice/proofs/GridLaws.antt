-- Laws of the grid that the layers above cite: the numbering of edges goes both ways, and moves along the axes stay inside.
-- Assumes nothing.
use Prim.Native.Nat.{ℕ, ◌+◌, ◌-◌, ◌*◌, ◌/◌, ◌%◌, ◌<◌, ◌≤◌}
use native.Mathlib.Nat.{
  mul_comm,
  mul_assoc,
  mul-le-mul,
  mul-le-mul_right,
  suc-mul,
  mul-pos,
  mod-lt,
  mod-eq_of_lt,
  div-add-mod',
  div-eq_of_lt,
  div-lt_iff_lt-mul,
  div-div-eq-div-mul,
  mul-add-div_right,
  mul-add-mod_self_right,
}
use native.Mathlib.Omega.{arith}
use mathlib.Core.Path.{◌≡◌, refl, ◌∙◌, ap}
use mathlib.Core.Bool.{Bool, true, false, cond}
use borrow.Author.Tests.{ltb-true, eq-eqb, ne_eqb}
use lib.Dec.{eqb, ltb}
use Rattle.numbers.specs.declared.C64.{C64}
use Rattle.numbers.specs.Complex.{one_number}
use Rattle.lattice.specs.Grid.{
  axis3,
  n_of,
  cells_of,
  unknowns_of,
  next_axis,
  last_axis,
  place_on,
  moved_to,
  with_component,
  index_of,
  at_of,
  Limits,
  Inside,
}
use Rattle.lattice.specs.Lattice.{edges_of, FullLattice}
use Rattle.lattice.specs.Neighbours.{past_high, past_low, shifted, arrived, neighbour_of}
use Rattle.lattice.specs.declared.grid.Grid3d.{Grid3d}
use Rattle.lattice.specs.declared.grid.Position.{Position}
use Rattle.lattice.specs.declared.lattice.Edges.{Edges}
use Rattle.lattice.specs.declared.lattice.Edges.TheVariants.{Pml, Bloch}
use Rattle.lattice.specs.declared.neighbours.Arrival.{Arrival}
use Rattle.std.specs.Prelude.{None, Some, Option}
use Rattle.lattice.specs.Neighbours.{to_place}

-- ---- by the axis

-- what relates three pairs relates the pair of an axis
pub axis_both : {A B : Type 0} (R : A → B → Type 0) (a : ℕ) {x y z : A} {u v w : B}
    → R x u
    → R y v
    → R z w
    → R (axis3 a x y z) (axis3 a u v w)
unfolding axis3
axis_both R a {x} {y} {z} {u} {v} {w} p q r = go (eqb a 0) (eqb a 1)
  where
    go : (s t : Bool) → R (cond s x (cond t y z)) (cond s u (cond t v w))
    go true t = p
    go false true = q
    go false false = r

pub axis_each : {A : Type 0} (P : A → Type 0) (a : ℕ) {x y z : A} → P x → P y → P z → P (axis3 a x y z)
axis_each {A} P a {x} {y} {z} = axis_both {B = A} (λ b c. P b) a {u = x} {v = y} {w = z}

pub axis_of : {A B : Type 0} (f : A → B) (a : ℕ) (x y z : A) → f (axis3 a x y z) ≡ axis3 a (f x) (f y) (f z)
axis_of f a x y z = axis_both (λ v w. f v ≡ w) a {x = x} {y = y} {z = z} refl refl refl

module _ {A : Type 0} (a : ℕ) (x y z : A) where
  pub axis_first : a ≡ 0 → x ≡ axis3 a x y z
  unfolding axis3
  axis_first e = rw (eq-eqb a 0 e)

  pub axis_second : (a ≡ 0 → ⊥) → a ≡ 1 → y ≡ axis3 a x y z
  unfolding axis3
  axis_second n e = rw (ne_eqb a 0 n, eq-eqb a 1 e)

  pub axis_third : (a ≡ 0 → ⊥) → (a ≡ 1 → ⊥) → z ≡ axis3 a x y z
  unfolding axis3
  axis_third n m = rw (ne_eqb a 0 n, ne_eqb a 1 m)

pub next_low : (a : ℕ) → next_axis a < 3
unfolding next_axis
next_low a = axis_each (λ b. b < 3) a (omega arith) (omega arith) (omega arith)

pub last_low : (a : ℕ) → last_axis a < 3
unfolding last_axis
last_low a = axis_each (λ b. b < 3) a (omega arith) (omega arith) (omega arith)

pub n_some : {g : Grid3d} → Limits g → (a : ℕ) → 0 < n_of g a
unfolding n_of
n_some h a = axis_each (λ n. 0 < n) a h.x_some h.y_some h.z_some

pub n_most : {g : Grid3d} → Limits g → (a : ℕ) → n_of g a ≤ 64
unfolding n_of
n_most h a = axis_each (λ n. n ≤ 64) a h.x_most h.y_most h.z_most

-- ---- moves

pub place_inside : {g : Grid3d} {p : Position} → Inside g p → (a : ℕ) → place_on p a < n_of g a
unfolding place_on n_of
place_inside h a = axis_both (λ m n. m < n) a h.i_in h.j_in h.k_in

pub place_low : {g : Grid3d} {p : Position} → Limits g → Inside g p → (a : ℕ) → place_on p a < 64
place_low h i a = omega (arith, place_inside i a, n_most h a)

pub moved_inside : {g : Grid3d} {p : Position} → Inside g p → (a m : ℕ) → m < n_of g a → Inside g (moved_to p a m)
unfolding moved_to n_of
moved_inside {g} h a m =
    axis_both (λ n q. m < n → Inside g q) a
    (λ f. record { c_in = h.c_in; i_in = f; j_in = h.j_in; k_in = h.k_in })
    (λ f. record { c_in = h.c_in; i_in = h.i_in; j_in = f; k_in = h.k_in })
    (λ f. record { c_in = h.c_in; i_in = h.i_in; j_in = h.j_in; k_in = f })

pub with_inside : {g : Grid3d} {p : Position} → Inside g p → (c : ℕ) → c < 3 → Inside g (with_component p c)
unfolding with_component
with_inside h c f = record { c_in = f; i_in = h.i_in; j_in = h.j_in; k_in = h.k_in }

-- ---- numbers of two parts: m n + i with i below n

pub part_below : (m n i b : ℕ) → m < b → i < n → m * n + i < b * n
part_below m n i b h f = omega (arith, mul-le-mul_right n h, suc-mul m n)

pub part_high : (m n i : ℕ) → i < n → (m * n + i) / n ≡ m
part_high m n i f = mul-add-div_right (omega arith) m i ∙ omega (arith, div-eq_of_lt f)

pub part_low : (m n i : ℕ) → i < n → (m * n + i) % n ≡ i
part_low m n i f = mul-add-mod_self_right m n i ∙ mod-eq_of_lt f

-- ---- the numbering

pub cells_most : {g : Grid3d} → Limits g → cells_of g ≤ 4096
unfolding cells_of
cells_most h = h.total

pub unknowns_most : {g : Grid3d} → Limits g → unknowns_of g ≤ 12288
unfolding unknowns_of
unknowns_most h = omega (arith, cells_most h)

pub plane_some : {g : Grid3d} → Limits g → 0 < g.nx * g.ny
plane_some h = mul-pos h.x_some h.y_some

pub cells_some : {g : Grid3d} → Limits g → 0 < cells_of g
unfolding cells_of
cells_some h = mul-pos (plane_some h) h.z_some

planes : (g : Grid3d) → cells_of g ≡ g.nz * (g.nx * g.ny)
unfolding cells_of
planes g = mul_comm (g.nx * g.ny) g.nz

-- the number of a place within a component
abbrev pub place_no : Grid3d → Position → ℕ
place_no g p = (p.k * g.ny + p.j) * g.nx + p.i

module _ {g : Grid3d} {p : Position} (f : Inside g p) where
  pub index_parts : index_of g p ≡ p.component * cells_of g + place_no g p
  unfolding index_of
  index_parts = omega arith

  line_below : p.k * g.ny + p.j < g.nz * g.ny
  line_below = part_below p.k g.ny p.j g.nz f.k_in f.j_in

  place_below : place_no g p < cells_of g
  place_below =
      rw (planes g, mul_comm g.nx g.ny, ← mul_assoc)
      (part_below (p.k * g.ny + p.j) g.nx p.i (g.nz * g.ny) line_below f.i_in)

pub index_below : {g : Grid3d} {p : Position} → Limits g → Inside g p → index_of g p < unknowns_of g
unfolding unknowns_of
index_below {g} {p} h f = rw (index_parts f) (part_below p.component (cells_of g) (place_no g p) 3 f.c_in (place_below f))

-- each sum on the way to the number is small
pub line_most : {g : Grid3d} {p : Position} → Limits g → Inside g p → p.k * g.ny + p.j < 4096
line_most h f = omega (arith, line_below f, mul-le-mul h.z_most h.y_most)

pub index_most : {g : Grid3d} {p : Position} → Limits g → Inside g p → p.component * cells_of g + place_no g p < 12288
index_most h f = omega (arith, index_below h f, index_parts f, unknowns_most h)

pub at_inside : {g : Grid3d} → Limits g → (r : ℕ) → r < unknowns_of g → Inside g (at_of g r)
unfolding at_of unknowns_of
at_inside {g} h r f =
    record {
      c_in = (div-lt_iff_lt-mul (cells_some h)).1 f;
      i_in = mod-lt (r % cells_of g) h.x_some;
      j_in = mod-lt (r % cells_of g / g.nx) h.y_some;
      k_in = (div-lt_iff_lt-mul (plane_some h)).1 (omega (arith, mod-lt r (cells_some h), planes g));
    }

pub at_index : {g : Grid3d} {p : Position} → Limits g → Inside g p → at_of g (index_of g p) ≡ p
unfolding at_of
at_index {g} {p} h f =
    rw (
      index_parts f,
      part_low p.component (cells_of g) (place_no g p) (place_below f),
      part_high p.component (cells_of g) (place_no g p) (place_below f),
      ← div-div-eq-div-mul (place_no g p) g.nx g.ny,
      part_low (p.k * g.ny + p.j) g.nx p.i f.i_in,
      part_high (p.k * g.ny + p.j) g.nx p.i f.i_in,
      part_low p.k g.ny p.j f.j_in,
      part_high p.k g.ny p.j f.j_in,
    )

pub index_at : {g : Grid3d} → Limits g → (r : ℕ) → r < unknowns_of g → index_of g (at_of g r) ≡ r
unfolding index_of at_of
index_at {g} h r f =
    let q = r % cells_of g in
    rw (← div-div-eq-div-mul q g.nx g.ny, div-add-mod' (q / g.nx) g.ny)
    (omega (arith, div-add-mod' q g.nx, div-add-mod' r (cells_of g)))

-- ---- neighbours

-- two ways to one place
pub same_place : {j k : ℕ} {v w : C64} → to_place j v ≡ to_place k w → j ≡ k
same_place {j} {k} {v} {w} e =
    let z : ◌≡◌ {A = Arrival} (record { at = j; phase = v }) (record { at = k; phase = w }) = cc in
    ap (λ (s : Arrival). s.at) z

-- a step along an axis of n places ends at one of them
pub shift_below : (e : Edges) (n m : ℕ) (up : Bool) (k : ℕ) (w : C64) → m < n → shifted e n m up ≡ to_place k w → k < n
unfolding shifted
shift_below e n m true k w h q = go (ltb (m + 1) n) e refl q
  where
    go : (b : Bool) (e : Edges) → ltb (m + 1) n ≡ b → cond b (to_place (m + 1) one_number) (past_high e) ≡ to_place k w → k < n
    go true e f q = let z : m + 1 ≡ k = same_place q in omega (arith, ltb-true (m + 1) n f)
    go false Pml f q = let z : ◌≡◌ {A = ℕ} 0 1 = cc in omega arith
    go false (Bloch p) f q = let z : 0 ≡ k = same_place q in omega arith
shift_below e n m false k w h q = go (eqb m 0) e q
  where
    go : (b : Bool) (e : Edges) → cond b (past_low e n) (to_place (m - 1) one_number) ≡ to_place k w → k < n
    go true Pml q = let z : ◌≡◌ {A = ℕ} 0 1 = cc in omega arith
    go true (Bloch p) q = let z : n - 1 ≡ k = same_place q in omega arith
    go false e q = let z : m - 1 ≡ k = same_place q in omega arith

pub neighbour_below : (l : FullLattice) (p : Position) (a : ℕ) (up : Bool) (c : ℕ) (w : C64)
    → Limits l.grid
    → Inside l.grid p
    → neighbour_of l p a up ≡ to_place c w
    → c < unknowns_of l.grid
unfolding neighbour_of
neighbour_below l p a up c w h f e =
    go (shifted (edges_of l a) (n_of l.grid a) (place_on p a) up)
    (λ k v. shift_below (edges_of l a) (n_of l.grid a) (place_on p a) up k v (place_inside f a)) e
  where
    go : (s : Option Arrival) → ((k : ℕ) (v : C64) → s ≡ to_place k v → k < n_of l.grid a) → arrived l p a s ≡ to_place c w → c < unknowns_of l.grid
    go None b q = let z : ◌≡◌ {A = ℕ} 0 1 = cc in omega arith
    go (Some s) b q =
        let z : index_of l.grid (moved_to p a s.at) ≡ c = same_place q in
        rw z at (index_below h (moved_inside f a s.at (b s.at s.phase refl)))
