-- Laws for the code of neighbours and walls: each branch gives what the definition says.
-- Assumes nothing.
use Prim.Native.Nat.{ℕ, ◌+◌, ◌-◌, ◌<◌, ◌≤◌}
use mathlib.Core.Path.{◌≡◌, refl, sym, ◌∙◌, ap}
use mathlib.Core.Bool.{Bool, true, false, ◌||◌, false≢true}
use borrow.Author.Tests.{lt-ltb, le-ltb, eq-eqb, ne_eqb}
use Rattle.numbers.specs.declared.C64.{C64}
use Rattle.numbers.proofs.Laws.{or_true, or_false}
use Rattle.numbers.specs.Complex.{one_number}
use Rattle.lattice.specs.Grid.{n_of, place_on, moved_to, Inside}
use Rattle.lattice.specs.Lattice.{edges_of, is_wall, FullLattice}
use Rattle.lattice.specs.Neighbours.{past_high, past_low, shifted, arrived, neighbour_of}
use Rattle.lattice.specs.declared.grid.Grid3d.{Grid3d}
use Rattle.lattice.specs.declared.grid.Position.{Position}
use Rattle.lattice.specs.declared.lattice.Edges.{Edges}
use Rattle.lattice.specs.declared.lattice.Edges.TheVariants.{Pml, Bloch}
use Rattle.lattice.specs.declared.neighbours.Arrival.{Arrival}
use Rattle.std.specs.Prelude.{Option}
use Rattle.lattice.specs.Neighbours.{to_place}
use Rattle.lattice.proofs.GridLaws.{place_inside, moved_inside, shift_below}

-- ---- one step

module _ (e : Edges) (n m : ℕ) (up : Bool) where
  pub shift_up : (w : C64) → up ≡ true → m + 1 < n → w ≡ one_number → to_place (m + 1) w ≡ shifted e n m up
  unfolding shifted
  shift_up w u h q = rw (u, lt-ltb (m + 1) n h, q)

  pub shift_high : up ≡ true → n ≤ m + 1 → past_high e ≡ shifted e n m up
  unfolding shifted
  shift_high u h = rw (u, le-ltb (m + 1) n h)

  pub shift_down : (w : C64) → up ≡ false → (m ≡ 0 → ⊥) → w ≡ one_number → to_place (m - 1) w ≡ shifted e n m up
  unfolding shifted
  shift_down w u h q = rw (u, ne_eqb m 0 h, q)

  pub shift_low : up ≡ false → m ≡ 0 → past_low e n ≡ shifted e n m up
  unfolding shifted
  shift_low u h = rw (u, eq-eqb m 0 h)

-- past an end of a Bloch axis lies a place, with some phase
pub past_high_lem : (e : Edges) → is_wall e ≡ false → (w : C64) × (past_high e ≡ to_place 0 w)
past_high_lem Pml h = absurd (false≢true (sym h))
past_high_lem (Bloch p) h = (_, refl)

pub past_low_lem : (e : Edges) (n : ℕ) → is_wall e ≡ false → (w : C64) × (past_low e n ≡ to_place (n - 1) w)
past_low_lem Pml n h = absurd (false≢true (sym h))
past_low_lem (Bloch p) n h = (_, refl)

pub neighbour_is : (l : FullLattice) (p : Position) (a : ℕ) (up : Bool) {e : Edges} {n m : ℕ} {s : Option Arrival}
    → e ≡ edges_of l a
    → n ≡ n_of l.grid a
    → m ≡ place_on p a
    → s ≡ shifted e n m up
    → arrived l p a s ≡ neighbour_of l p a up
unfolding neighbour_of
neighbour_is l p a up q r t h = ap (arrived l p a) (h ∙ (λ i. shifted (q i) (r i) (t i) up))

-- where a step ends is inside the grid
pub step_inside : {g : Grid3d} {p : Position} {n m k : ℕ} {w : C64} {s : Option Arrival} (a : ℕ) (e : Edges) (up : Bool)
    → Inside g p
    → n ≡ n_of g a
    → m ≡ place_on p a
    → s ≡ shifted e n m up
    → s ≡ to_place k w
    → Inside g (moved_to p a k)
step_inside {g} {p} {k = k} {w = w} a e up f q r h t =
    moved_inside f a k
    (shift_below e (n_of g a) (place_on p a) up k w (place_inside f a)
    (sym (h ∙ (λ i. shifted e (q i) (r i) up)) ∙ t))

-- ---- one test after another

pub or_first : {v : Bool} (t s : Bool) → v ≡ true → v ≡ t → v ≡ (t || s)
or_first t s h e = e ∙ sym (or_true t s (sym e ∙ h))

pub or_next : {v r : Bool} (t s : Bool) → v ≡ false → v ≡ t → r ≡ s → r ≡ (t || s)
or_next t s h e q = q ∙ sym (or_false t s (sym e ∙ h))
