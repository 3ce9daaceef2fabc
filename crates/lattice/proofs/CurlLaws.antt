-- Laws of the lattice's definitions: positions moved and given a component, what goes by the cells and the kinds alone, the columns of one term, the curls as equations, and the places of a line.
-- Assumes nothing.
use Prim.Native.Nat.{ℕ, ◌+◌, ◌/◌, ◌<◌, ◌≤◌}
use mathlib.Core.Path.{◌≡◌, refl}
use mathlib.Core.Bool.{true, false}
use mathlib.Core.List.{List, [], ◌∷◌, ◌++◌}
use native.Mathlib.Decide.{dec_lt}
use native.Mathlib.Omega.{arith}
use lib.Ieee.{Float}
use lib.ListN.{length, get_or}
use Rattle.numbers.specs.declared.C64.{C64}
use Rattle.numbers.specs.Complex.{one_f, negation}
use Rattle.numbers.specs.Lists.{Rises}
use Rattle.numbers.specs.Terms.{columns_of}
use Rattle.numbers.proofs.Equations.{columns_of_nil, columns_of_cons}
use Rattle.lattice.specs.declared.grid.Grid3d.{Grid3d}
use Rattle.lattice.specs.declared.grid.Position.{Position}
use Rattle.lattice.specs.Neighbours.{to_place}
use Rattle.lattice.specs.Grid.{axis3, cells_of, unknowns_of, next_axis, last_axis, place_on, moved_to, with_component, index_of, at_of}
use Rattle.lattice.specs.Lattice.{edges_of, FullLattice}
use Rattle.lattice.specs.Line.{place_of}
use Rattle.lattice.specs.Neighbours.{neighbour_of, on_wall, fixed_at}
use Rattle.lattice.specs.Curls.{minus_one_f, half_weight, node_weight, term_to, term_here, ahead, behind, curl_e_at, curl_h_at, divergence_of, free_nodes, gradient_at}
use Rattle.lattice.proofs.GridLaws.{axis_each}
use Rattle.numbers.proofs.ListLaws.{rises_below}

-- ---- positions

pub moved_component : (p : Position) (a m : ℕ) → (moved_to p a m).component ≡ p.component
unfolding moved_to
moved_component p a m = axis_each (λ (q : Position). q.component ≡ p.component) a refl refl refl

pub with_component_lem : (p : Position) (c : ℕ) → (with_component p c).component ≡ c
unfolding with_component
with_component_lem p c = refl

pub with_place : (p : Position) (c a : ℕ) → place_on (with_component p c) a ≡ place_on p a
unfolding place_on with_component
with_place p c a = refl

-- ---- the numbering goes by the cells alone, and what is fixed by the kinds of the axes

pub record SameCells (g h : Grid3d) : Type 0 where
  pub x : g.nx ≡ h.nx
  pub y : g.ny ≡ h.ny
  pub z : g.nz ≡ h.nz

pub at_cells : {g h : Grid3d} → SameCells g h → (r : ℕ) → at_of g r ≡ at_of h r
unfolding at_of cells_of
at_cells s r = rw (s.x, s.y, s.z)

pub unknowns_cells : {g h : Grid3d} → SameCells g h → unknowns_of g ≡ unknowns_of h
unfolding unknowns_of cells_of
unknowns_cells s = rw (s.x, s.y, s.z)

pub record SameKinds (l k : FullLattice) : Type 0 where
  pub x : l.x ≡ k.x
  pub y : l.y ≡ k.y
  pub z : l.z ≡ k.z

pub edges_kinds : {l k : FullLattice} → SameKinds l k → (a : ℕ) → edges_of l a ≡ edges_of k a
unfolding edges_of
edges_kinds s a = λ i. axis3 a (s.x i) (s.y i) (s.z i)

pub fixed_kinds : {l k : FullLattice} → SameKinds l k → (p : Position) → fixed_at l p ≡ fixed_at k p
unfolding fixed_at on_wall
fixed_kinds s p = rw (edges_kinds s 0, edges_kinds s 1, edges_kinds s 2)

-- ---- the column of one term

pub to_column : (c : ℕ) (v w : C64) → columns_of (term_to (to_place c v) w) ≡ c ∷ []
to_column c v w = simp (columns_of_cons, columns_of_nil)

pub here_column : (l : FullLattice) (p : Position) (c : ℕ) (w : C64) → columns_of (term_here l p c w) ≡ index_of l.grid (with_component p c) ∷ []
unfolding term_here
here_column l p c w = simp (columns_of_cons, columns_of_nil)

-- ---- the curls, the divergence and the gradient as equations

pub ahead_is : (l : FullLattice) (p : Position) (along field : ℕ) (sign : Float) → ahead l p along field sign
    ≡ term_to (neighbour_of l (with_component p field) along true) (half_weight l p along sign)
    ++ term_here l p field (negation (half_weight l p along sign))
unfolding ahead
ahead_is l p along field sign = refl

pub behind_is : (l : FullLattice) (p : Position) (along field : ℕ) (sign : Float) → behind l p along field sign
    ≡ term_here l p field (node_weight l p along sign)
    ++ term_to (neighbour_of l (with_component p field) along false) (negation (node_weight l p along sign))
unfolding behind
behind_is l p along field sign = refl

pub curl_e_at_is : (l : FullLattice) (p : Position) → curl_e_at l p
    ≡ ahead l p (next_axis p.component) (last_axis p.component) one_f
    ++ ahead l p (last_axis p.component) (next_axis p.component) minus_one_f
unfolding curl_e_at
curl_e_at_is l p = refl

pub curl_h_at_is : (l : FullLattice) (p : Position) → curl_h_at l p
    ≡ behind l p (next_axis p.component) (last_axis p.component) one_f
    ++ behind l p (last_axis p.component) (next_axis p.component) minus_one_f
unfolding curl_h_at
curl_h_at_is l p = refl

pub divergence_of_is : (l : FullLattice) (q : ℕ) → divergence_of l q
    ≡ behind l (at_of l.grid q) 0 0 one_f
    ++ (behind l (at_of l.grid q) 1 1 one_f ++ behind l (at_of l.grid q) 2 2 one_f)
unfolding divergence_of
divergence_of_is l q = refl

pub gradient_at_is : (l : FullLattice) (p : Position) → gradient_at l p
    ≡ free_nodes l (term_to (neighbour_of l (with_component p 0) p.component true) (half_weight l p p.component one_f))
    ++ free_nodes l (term_here l p 0 (negation (half_weight l p p.component one_f)))
unfolding gradient_at
gradient_at_is l p = refl

-- ---- lines

-- across the axis a value lies at its node, along it halfway to the next
pub place_across : (es : List ℕ) (m : ℕ) → place_of es m false ≡ get_or es m 0
unfolding place_of
place_across es m = refl

pub place_along : (es : List ℕ) (m : ℕ) → place_of es m true ≡ (get_or es m 0 + get_or es (m + 1) 0) / 2
unfolding place_of
place_along es m = refl

-- the ends of a line that rises, not strictly
pub rises_most : (es : List ℕ) → Rises es → (i j : ℕ) → i ≤ j → j < length es → get_or es i 0 ≤ get_or es j 0
rises_most es r i j a b = go (dec_lt i j)
  where
    go : Dec (i < j) → get_or es i 0 ≤ get_or es j 0
    go (yes c) = let k : get_or es i 0 < get_or es j 0 = rises_below es r i j c b in omega arith
    go (no c) = let q : i ≡ j = omega arith in rw q (omega arith)
