-- The stretched coordinate of an axis (docs/SPECIFICATION.md, 4): a map from half-steps of the finest grid, in units of its step.
-- Two maps: across the axis, by the stretch of the cells (`halves`), and along it, by the stretch of the nodes (`nodes`).
-- Assumes nothing.
use Rattle.std.specs.Prelude.{ℕ, zero, suc, ◌+◌, ◌-◌, ◌*◌, ◌/◌, min, cond, List, leb, Float}
use Rattle.std.specs.Float.{binary64}
use Rattle.std.specs.Float.Ieee.{of_bits}
use Rattle.numbers.specs.declared.C64.{C64}
use Rattle.numbers.specs.Complex.{zero_number, sum, real_times}
use Rattle.lattice.specs.Grid.{n_of}
use Rattle.lattice.specs.Lattice.{nodes_at, halves_at, FullLattice}
use Rattle.numbers.specs.Lists.{tabulate}
use Rattle.lattice.specs.declared.stretched.Stretched.{Stretched}

-- 0.5
abbrev pub half_f : Float
half_f = of_bits binary64 0x3fe0_0000_0000_0000

-- the points of the map of 64 cells, both ends included
abbrev pub map_points : ℕ
map_points = 129

-- the map of a stretch s, which has s p from half-step p to the next: 0 at 0, and half of s p more at each half-step
unfoldable pub map_at : (ℕ → C64) → ℕ → C64
map_at s zero = zero_number
map_at s (suc p) = sum (map_at s p) (real_times half_f (s p))

-- the stretch behind half-step p: that of the cell, or that of the nearest node, the last one at the far end
unfoldable pub across_stretch : FullLattice → ℕ → ℕ → C64
across_stretch l a p = halves_at l a (p / 2)

unfoldable pub along_stretch : FullLattice → ℕ → ℕ → C64
along_stretch l a p = nodes_at l a (min ((p + 1) / 2) (n_of l.grid a - 1))

-- an axis of n cells has the map at its half-steps 0 to 2 n; the record's list goes on with zeros up to 129 numbers
unfoldable pub map_entry : (ℕ → C64) → ℕ → ℕ → C64
map_entry s n p = cond (leb p (2 * n)) (map_at s p) zero_number

unfoldable pub map_list : (ℕ → C64) → ℕ → List C64
map_list s n = tabulate (map_entry s n) map_points 0

unfoldable pub across_map : FullLattice → ℕ → List C64
across_map l a = map_list (across_stretch l a) (n_of l.grid a)

unfoldable pub along_map : FullLattice → ℕ → List C64
along_map l a = map_list (along_stretch l a) (n_of l.grid a)

unfoldable pub stretched_of : FullLattice → ℕ → Stretched
stretched_of l a = record { across = across_map l a; along = along_map l a }
