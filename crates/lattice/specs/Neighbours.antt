-- Neighbours on the lattice (docs/SPECIFICATION.md, 3): one step along an axis, and which edges and nodes are fixed.
-- Assumes nothing.
use Rattle.std.specs.Prelude.{ℕ, ◌+◌, ◌-◌, Bool, not, ◌&&◌, ◌||◌, cond, eqb, ltb, Option, Some, None}
use Rattle.numbers.specs.declared.C64.{C64}
use Rattle.numbers.specs.Complex.{one_number, conjugate}
use Rattle.lattice.specs.Grid.{n_of, place_on, moved_to, index_of, at_of}
use Rattle.lattice.specs.Lattice.{edges_of, is_wall, FullLattice}
use Rattle.lattice.specs.declared.grid.Position.{Position}
use Rattle.lattice.specs.declared.lattice.Edges.{Edges}
use Rattle.lattice.specs.declared.lattice.Edges.TheVariants.{Pml, Bloch}
use Rattle.lattice.specs.declared.neighbours.Arrival.{Arrival}

-- there, with that factor
abbrev pub to_place : ℕ → C64 → Option Arrival
to_place m phase = Some (record { at = m; phase = phase })

-- past the last place: nothing behind a wall; on a Bloch axis the first place, with the phase p
abbrev pub past_high : Edges → Option Arrival
past_high Pml = None
past_high (Bloch p) = to_place 0 p

-- before the first place of n: nothing behind a wall; on a Bloch axis the last place, with the conjugate of p
abbrev pub past_low : Edges → ℕ → Option Arrival
past_low Pml n = None
past_low (Bloch p) n = to_place (n - 1) (conjugate p)

-- a step from place m of n; its factor is (1, 0) inside the lattice
unfoldable pub shifted : Edges → ℕ → ℕ → Bool → Option Arrival
shifted e n m up =
    cond up
    (cond (ltb (m + 1) n) (to_place (m + 1) one_number) (past_high e))
    (cond (eqb m 0) (past_low e n) (to_place (m - 1) one_number))

-- the same of a position: the number of the neighbour along axis a, and the phase there
abbrev pub arrived : FullLattice → Position → ℕ → Option Arrival → Option Arrival
arrived l p a None = None
arrived l p a (Some s) = to_place (index_of l.grid (moved_to p a s.at)) s.phase

unfoldable pub neighbour_of : FullLattice → Position → ℕ → Bool → Option Arrival
neighbour_of l p a up = arrived l p a (shifted (edges_of l a) (n_of l.grid a) (place_on p a) up)

-- place 0 of a wall axis
unfoldable pub on_wall : FullLattice → Position → ℕ → Bool
on_wall l p a = eqb (place_on p a) 0 && is_wall (edges_of l a)

-- an edge is fixed if, on a wall axis other than its own, its place is 0
unfoldable pub fixed_at : FullLattice → Position → Bool
fixed_at l p =
    (not (eqb 0 p.component) && on_wall l p 0)
    || ((not (eqb 1 p.component) && on_wall l p 1)
    || (not (eqb 2 p.component) && on_wall l p 2))

unfoldable pub is_fixed : FullLattice → ℕ → Bool
is_fixed l r = fixed_at l (at_of l.grid r)

-- a node is fixed if, on any wall axis, its place is 0; nodes have the numbers of component 0
unfoldable pub is_node_fixed : FullLattice → ℕ → Bool
is_node_fixed l q = on_wall l (at_of l.grid q) 0 || (on_wall l (at_of l.grid q) 1 || on_wall l (at_of l.grid q) 2)
