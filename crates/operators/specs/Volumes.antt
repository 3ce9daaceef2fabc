-- Volumes and shares of a rediscretized level (docs/SPECIFICATION.md, 10).
-- Assumes nothing.
use Rattle.std.specs.Prelude.{ℕ, zero, suc, ◌+◌, ◌*◌, ◌<◌, ◌≤◌, ◌^◌, Bool, true, ◌&&◌, cond, List, [], ◌∷◌, eqb, length, get_or, Float}
use Rattle.numbers.specs.declared.C64.{C64}
use Rattle.numbers.specs.Complex.{one_f, zero_number, one_number, sum, product, real_over, real_times, finite, is_zero}
use Rattle.lattice.specs.declared.grid.Position.{Position}
use Rattle.lattice.specs.Grid.{step_of, place_on, at_of}
use Rattle.lattice.specs.Lattice.{FullLattice, nodes_at, halves_at}
use Rattle.numbers.specs.Terms.{Term, most_rows}

-- a side of an edge's cell: along its component the cell's length, across it the width of the node's dual cell
unfoldable pub side_of : FullLattice → Position → ℕ → C64
side_of l p a = real_times (step_of l.grid a) (cond (eqb a p.component) (halves_at l a (place_on p a)) (nodes_at l a (place_on p a)))

unfoldable pub volume_at : FullLattice → Position → C64
volume_at l p = product (product (product one_number (side_of l p 0)) (side_of l p 1)) (side_of l p 2)

unfoldable pub volume_of : FullLattice → ℕ → C64
volume_of l r = volume_at l (at_of l.grid r)

-- a coarse edge's share of the fine volumes: its turned row times them, from s on
unfoldable pub weighted : (ℕ → C64) → C64 → List Term → C64
weighted v s [] = s
weighted v s (t ∷ ts) = weighted v (sum s (product t.number (v t.column))) ts

unfoldable pub share_of : (ℕ → List Term) → (ℕ → C64) → ℕ → C64
share_of R v c = weighted v zero_number (R c)

-- 1 over a share; a zero share gives 1
unfoldable pub inverse_of : C64 → C64
inverse_of x = cond (is_zero x) one_number (real_over one_f x)

unfoldable pub inverse_share : (ℕ → List Term) → (ℕ → C64) → ℕ → C64
inverse_share R v c = inverse_of (share_of R v c)

-- a share and its inverse are finite
unfoldable pub share_finite : (ℕ → List Term) → (ℕ → C64) → ℕ → Bool
share_finite R v c = finite (share_of R v c) && finite (inverse_share R v c)

-- those of the first n
unfoldable pub shares_finite : (ℕ → List Term) → (ℕ → C64) → ℕ → Bool
shares_finite R v zero = true
shares_finite R v (suc n) = shares_finite R v n && share_finite R v n

-- the volumes at the columns from place first up to last stand in a list from place k on
pub record SharesRoom (cs : List ℕ) (first last : ℕ) (xs : List Float) (k : ℕ) : Type 0 where
  pub column_in_is : (q : ℕ) → first ≤ q → q < last → 2 * (k + get_or cs q 0) + 1 < length xs
  pub column_low : (q : ℕ) → first ≤ q → q < last → get_or cs q 0 ≤ most_rows
  pub low : k ≤ 2 ^ 32
