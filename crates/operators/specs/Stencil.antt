-- Operator rows from the lattice (docs/SPECIFICATION.md, 9): the terms of `row_into` by column, then the shift on the diagonal.
-- The permittivities are seen only through a reader, edge to number.
-- Assumes nothing.
use Rattle.std.specs.Prelude.{ℕ, ◌||◌, cond, List, [], ◌∷◌}
use Rattle.std.specs.Float.Ieee as Ieee
use Rattle.numbers.specs.declared.C64.{C64}
use Rattle.numbers.specs.Complex.{mul_f, zero_f, product}
use Rattle.lattice.specs.Lattice.{FullLattice}
use Rattle.lattice.specs.Neighbours.{is_fixed}
use Rattle.lattice.specs.Rows.{row_into, row_reads}
use Rattle.numbers.specs.Terms.{Term}
use Rattle.numbers.specs.Collect.{collected, at_first}

-- i times the shift times k0 k0, times the edge's permittivity, on the diagonal: only where the shift is not 0 and the edge is not fixed
unfoldable pub shift_number : FullLattice → (ℕ → C64) → ℕ → C64
shift_number l f r = product (record { re = zero_f; im = mul_f l.shift (mul_f l.k0 l.k0) }) (f r)

unfoldable pub shift_terms : FullLattice → (ℕ → C64) → ℕ → List Term
shift_terms l f r = cond (Ieee.eq l.shift zero_f || is_fixed l r) [] (record { column = r; number = shift_number l f r } ∷ [])

unfoldable pub stencil_row : FullLattice → (ℕ → C64) → ℕ → List Term
stencil_row l f r = collected at_first (collected at_first [] (row_into l f r)) (shift_terms l f r)

-- the edges whose permittivities row r reads
unfoldable pub stencil_reads : FullLattice → ℕ → List ℕ
stencil_reads l r = row_reads l r
