-- The permittivity of a coarse edge (docs/SPECIFICATION.md, 8): the harmonic mean over the fine edges of its cell that lie
-- on its own line. Read through a reader, edge to number.
-- Assumes nothing.
use Rattle.std.specs.Prelude.{ℕ, ◌+◌, ◌-◌, List, length}
use Rattle.numbers.specs.declared.C64.{C64}
use Rattle.numbers.specs.Complex.{one_f, zero_number, real_over}
use Rattle.lattice.specs.declared.grid.Grid3d.{Grid3d}
use Rattle.lattice.specs.declared.grid.Position.{Position}
use Rattle.lattice.specs.Grid.{place_on, moved_to, index_of, at_of}
use Rattle.numbers.specs.Lists.{tabulate, summed}
use Rattle.weights.specs.TwoLevels.{TwoLevels, node_on, fine_grid, coarse_grid}
use Rattle.weights.specs.Interpolate.{whole}

-- the position of a coarse edge's node on the fine level
unfoldable pub on_fine : TwoLevels → Position → Position
on_fine t p = record { component = p.component; i = node_on t 0 p.i; j = node_on t 1 p.j; k = node_on t 2 p.k }

-- the edge at place m along the component of p, and n of them from the first on, by rising place
unfoldable pub edge_along : Grid3d → Position → ℕ → ℕ
edge_along g p m = index_of g (moved_to p p.component m)

unfoldable pub edges_along : Grid3d → Position → ℕ → ℕ → List ℕ
edges_along g p first n = tabulate (edge_along g p) n first

-- the fine edges in a coarse edge's cell
unfoldable pub cell_edges : TwoLevels → Position → List ℕ
cell_edges t p =
    edges_along (fine_grid t) (on_fine t p)
    (node_on t p.component (place_on p p.component))
    (node_on t p.component (place_on p p.component + 1) - node_on t p.component (place_on p p.component))

-- the positions that the permittivity of coarse edge r reads
unfoldable pub eps_reads : TwoLevels → ℕ → List ℕ
eps_reads t r = cell_edges t (at_of (coarse_grid t) r)

unfoldable pub inverted : (ℕ → C64) → ℕ → C64
inverted f c = real_over one_f (f c)

-- how many there are over the sum of their inverses, from +0
unfoldable pub harmonic : (ℕ → C64) → List ℕ → C64
harmonic f cs = real_over (whole (length cs)) (summed (inverted f) zero_number cs)

unfoldable pub coarse_eps : TwoLevels → (ℕ → C64) → ℕ → C64
coarse_eps t f r = harmonic f (eps_reads t r)
