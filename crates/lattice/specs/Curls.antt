-- The curls, the divergence and the gradient on the lattice (docs/SPECIFICATION.md, 3): lists of terms, in the order pushed.
-- Assumes nothing.
use Rattle.std.specs.Prelude.{ℕ, true, false, cond, List, [], ◌∷◌, ◌++◌, Float, Option, Some, None}
use Rattle.std.specs.Float.{binary64}
use Rattle.std.specs.Float.Ieee.{of_bits}
use Rattle.numbers.specs.declared.C64.{C64}
use Rattle.numbers.specs.Complex.{one_f, product, negation, real_over, real_times}
use Rattle.lattice.specs.Grid.{step_of, next_axis, last_axis, place_on, with_component, index_of, at_of}
use Rattle.lattice.specs.Lattice.{nodes_at, halves_at, FullLattice}
use Rattle.numbers.specs.Terms.{Term}
use Rattle.lattice.specs.Neighbours.{neighbour_of, is_node_fixed}
use Rattle.lattice.specs.declared.grid.Position.{Position}
use Rattle.lattice.specs.declared.neighbours.Arrival.{Arrival}

-- -1
abbrev pub minus_one_f : Float
minus_one_f = of_bits binary64 0xbff0_0000_0000_0000

-- sign over the step times the stretch: the weight of a difference along axis a, across a cell, and across a node's dual cell
unfoldable pub half_weight : FullLattice → Position → ℕ → Float → C64
half_weight l p a sign = real_over sign (real_times (step_of l.grid a) (halves_at l a (place_on p a)))

unfoldable pub node_weight : FullLattice → Position → ℕ → Float → C64
node_weight l p a sign = real_over sign (real_times (step_of l.grid a) (nodes_at l a (place_on p a)))

-- where a step leads has the term w times the step's factor; beyond a wall there is no term
abbrev pub term_to : Option Arrival → C64 → List Term
term_to None w = []
term_to (Some s) w = record { column = s.at; number = product w s.phase } ∷ []

-- the term of a position of a component
unfoldable pub term_here : FullLattice → Position → ℕ → C64 → List Term
term_here l p c w = record { column = index_of l.grid (with_component p c); number = w } ∷ []

-- ---- curl E, at a face: (a, b, c) cyclic, the difference of E_c along b less that of E_b along c

-- the difference of `field` along an axis: ahead, then here
unfoldable pub ahead : FullLattice → Position → ℕ → ℕ → Float → List Term
ahead l p along field sign =
    term_to (neighbour_of l (with_component p field) along true) (half_weight l p along sign)
    ++ term_here l p field (negation (half_weight l p along sign))

unfoldable pub curl_e_at : FullLattice → Position → List Term
curl_e_at l p =
    ahead l p (next_axis p.component) (last_axis p.component) one_f
    ++ ahead l p (last_axis p.component) (next_axis p.component) minus_one_f

unfoldable pub curl_e : FullLattice → ℕ → List Term
curl_e l r = curl_e_at l (at_of l.grid r)

-- ---- curl H, at an edge

-- the difference of `field` along an axis: here, then behind
unfoldable pub behind : FullLattice → Position → ℕ → ℕ → Float → List Term
behind l p along field sign =
    term_here l p field (node_weight l p along sign)
    ++ term_to (neighbour_of l (with_component p field) along false) (negation (node_weight l p along sign))

unfoldable pub curl_h_at : FullLattice → Position → List Term
curl_h_at l p =
    behind l p (next_axis p.component) (last_axis p.component) one_f
    ++ behind l p (last_axis p.component) (next_axis p.component) minus_one_f

unfoldable pub curl_h : FullLattice → ℕ → List Term
curl_h l r = curl_h_at l (at_of l.grid r)

-- ---- the divergence at a node, and the gradient at an edge; nodes have the numbers of component 0

unfoldable pub divergence_of : FullLattice → ℕ → List Term
divergence_of l q =
    behind l (at_of l.grid q) 0 0 one_f
    ++ (behind l (at_of l.grid q) 1 1 one_f ++ behind l (at_of l.grid q) 2 2 one_f)

-- those terms whose node is not fixed
unfoldable pub free_nodes : FullLattice → List Term → List Term
free_nodes l [] = []
free_nodes l (t ∷ ts) = cond (is_node_fixed l t.column) (free_nodes l ts) (t ∷ free_nodes l ts)

unfoldable pub gradient_at : FullLattice → Position → List Term
gradient_at l p =
    free_nodes l (term_to (neighbour_of l (with_component p 0) p.component true) (half_weight l p p.component one_f))
    ++ free_nodes l (term_here l p 0 (negation (half_weight l p p.component one_f)))

unfoldable pub gradient_of : FullLattice → ℕ → List Term
gradient_of l r = gradient_at l (at_of l.grid r)
