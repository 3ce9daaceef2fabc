-- One coarse permittivity: what it reads, and what its cell, taken from a list of nodes, gives.
-- Assumes nothing.
use Prim.Native.Nat.{ℕ, zero, suc, ◌+◌, ◌-◌, ◌*◌, ◌<◌, ◌≤◌}
use mathlib.Core.Path.{◌≡◌, refl, sym, ap, ◌∙◌}
use mathlib.Core.Bool.{Bool, false, ◌||◌}
use mathlib.Core.List.{List}
use native.Mathlib.Omega.{arith}
use lib.Dec.{T}
use lib.IntN.{pos}
use lib.ListN.{length, get_or}
use lib.Ieee.{Float, binary64, of_int, in_float}
use Rattle.numbers.specs.declared.C64.{C64}
use Rattle.numbers.specs.Complex.{zero_number, real_over}
use Rattle.numbers.specs.Lists.{tabulate, summed, read_from, any_flag}
use Rattle.numbers.proofs.TabulateLaws.{length_tabulate}
use Rattle.numbers.proofs.Equations.{tabulate_zero, tabulate_suc}
use Rattle.numbers.proofs.FlagLaws.{any_flag_nil, any_flag_cons}
use Rattle.std.specs.List.{list_any, range_with_len}
use Rattle.lattice.specs.declared.grid.Grid3d.{Grid3d}
use Rattle.lattice.specs.declared.grid.Position.{Position}
use Rattle.lattice.specs.Grid.{place_on, at_of, unknowns_of, Limits, Inside}
use Rattle.lattice.proofs.GridLaws.{n_most, place_inside, at_inside}
use Rattle.lattice.proofs.RowLaws.{small_float}
use Rattle.weights.specs.declared.eps.Along.{Along}
use Rattle.weights.specs.TwoLevels.{TwoLevels, fine_grid, coarse_grid}
use Rattle.weights.specs.Interpolate.{whole}
use Rattle.weights.specs.CoarseEps.{edge_along, edges_along, eps_reads, inverted, harmonic}
use Rattle.weights.specs.Tables.{node_no, on_fine_in, cell_first, cell_last, coarse_eps_in, eps_reads_in, CellAt, LineInside, NestedIn}
use Rattle.weights.proofs.EpsLaws.{cell_inside, cell_rises, cell_most, cell_is}

-- the permittivity is the harmonic mean of what it reads
pub eps_of_reads : (gf gc : Grid3d) (nn : List ℕ) (f : ℕ → C64) (r : ℕ) → coarse_eps_in gf gc nn f r ≡ harmonic f (eps_reads_in gf gc nn r)
unfolding coarse_eps_in eps_reads_in
eps_of_reads gf gc nn f r = refl

-- with the nodes of two levels, these are the edges that the coarse permittivity of the levels reads
pub reads_same : (t : TwoLevels) → Limits (coarse_grid t) → (r : ℕ) → r < unknowns_of (coarse_grid t)
    → eps_reads_in (fine_grid t) (coarse_grid t) (tabulate (node_no t) 195 0) r ≡ eps_reads t r
unfolding eps_reads_in eps_reads
reads_same t l r h = cell_is t l (at_inside l r h)

-- ---- the cell as the code has it

-- its nodes are in the list
pub ends_index : {g : Grid3d} {p : Position} {m : ℕ} → Limits g → Inside g p → m ≡ place_on p p.component → 65 * p.component + m + 1 < 195
ends_index {g} {p} {m} l h e = omega (arith, h.c_in, place_inside h p.component, n_most l p.component)

pub cell_of : {gc : Grid3d} {nn : List ℕ} {r m : ℕ} {p q : Position} → p ≡ at_of gc r → m ≡ place_on p p.component → q ≡ on_fine_in nn p
    → CellAt gc nn r (record { node = q; first = get_or nn (65 * p.component + m) 0; last = get_or nn (65 * p.component + m + 1) 0 })
unfolding cell_first cell_last
cell_of e d o = record { node_is = rw (o, e); first_is = rw (d, e); last_is = rw (d, e) }

module _ {gf gc : Grid3d} {nn : List ℕ} {r : ℕ} {c : Along} (lf : Limits gf) (lc : Limits gc) (d : NestedIn gf gc nn) (b : r < unknowns_of gc) (w : CellAt gc nn r c) where
  pub cell_line : LineInside gf c.node c.last
  cell_line = rw (w.node_is, w.last_is) (cell_inside d (at_inside lc r b))

  pub ends_rise : c.first ≤ c.last
  ends_rise = rw (w.first_is, w.last_is) (cell_rises d (at_inside lc r b))

  pub ends_float : T (in_float binary64 (pos (c.last - c.first)))
  ends_float = small_float (c.last - c.first) (omega (arith, w.last_is, cell_most d (at_inside lc r b), n_most lf (at_of gc r).component))

  pub cell_reads : edges_along gf c.node c.first (c.last - c.first) ≡ eps_reads_in gf gc nn r
  unfolding eps_reads_in
  cell_reads = rw (w.node_is, w.first_is, w.last_is)

  pub cell_eps : (xs : List Float) (from : ℕ) {s v : C64} → s ≡ summed (inverted (read_from xs from)) zero_number (edges_along gf c.node c.first (c.last - c.first))
      → v ≡ real_over (of_int binary64 (pos (c.last - c.first))) s → v ≡ coarse_eps_in gf gc nn (read_from xs from) r
  unfolding harmonic whole edges_along
  cell_eps xs from {s} {v} e u =
      let es = edges_along gf c.node c.first (c.last - c.first) in
      let l : length es ≡ c.last - c.first = length_tabulate (edge_along gf c.node) (c.last - c.first) c.first in
      let k : v ≡ harmonic (read_from xs from) es = u ∙ (λ i. real_over (of_int binary64 (pos (sym l i))) (e i)) in
      k ∙ ap (harmonic (read_from xs from)) cell_reads ∙ sym (eps_of_reads gf gc nn (read_from xs from) r)

-- ---- the flags of the edges along a component

any_along : (flags : List Bool) (f : ℕ → ℕ) (n first : ℕ) → list_any (λ m. get_or flags (f m) false) (range_with_len first n) ≡ any_flag flags (tabulate f n first)
any_along flags f zero first = sym (ap (any_flag flags) (tabulate_zero f first) ∙ any_flag_nil flags)
any_along flags f (suc n) first =
    let k : first + 1 ≡ suc first = omega arith in
    let t : list_any (λ m. get_or flags (f m) false) (range_with_len (first + 1) n) ≡ any_flag flags (tabulate f n (suc first)) = rw k (any_along flags f n (suc first)) in
    ap (λ b. get_or flags (f first) false || b) t
    ∙ sym (ap (any_flag flags) (tabulate_suc f n first) ∙ any_flag_cons flags (f first) (tabulate f n (suc first)))

pub flags_along : (flags : List Bool) (g : Grid3d) (p : Position) (first n : ℕ)
    → list_any (λ m. get_or flags (edge_along g p m) false) (range_with_len first n) ≡ any_flag flags (edges_along g p first n)
unfolding edges_along
flags_along flags g p first n = any_along flags (edge_along g p) n first
