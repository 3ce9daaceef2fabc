-- The lattice's own rows as a level's operator, worked out anew where they are flagged.
-- Assumes nothing.
use Prim.Native.Nat.{ℕ, ◌+◌, ◌*◌, ◌≤◌, ◌<◌, ◌^◌}
use mathlib.Core.Path.{◌≡◌, sym, ap, subst, ◌∙◌}
use mathlib.Core.List.{List}
use mathlib.Core.Bool.{Bool}
use native.Mathlib.Omega.{arith}
use lib.ListN.{length, get_or}
use lib.Ieee.{Float}
use Rattle.numbers.specs.declared.C64.{C64}
use Rattle.numbers.specs.declared.terms.Part.{Part}
use Rattle.numbers.specs.Lists.{laid_numbers, all_finite, read_from}
use Rattle.numbers.specs.Terms.{numbers_of}
use Rattle.numbers.proofs.StoredLaws.{start_room}
use Rattle.lattice.specs.Grid.{Limits, unknowns_of}
use Rattle.lattice.specs.Lattice.{FullLattice}
use Rattle.operators.specs.LevelLists.{edges_on}
use Rattle.operators.specs.Stencil.{stencil_row}
use Rattle.operators.proofs.LevelListLaws.{lattice_limits}
use Rattle.operators.proofs.RangeLaws.{level_edges}
use Rattle.store.specs.Store.{Store}
use Rattle.store.specs.Places.{get}
use Rattle.store.specs.Spots.{permittivity, number_in}
use Rattle.store.specs.Layout.{operator_cols, operator_count}
use Rattle.store.specs.Rows.{operator, from, count, numbers}
use Rattle.store.specs.Renewed.{five, store_of}
use Rattle.store.specs.RenewSteps.{StencilRule, OperatorStarts, EntryMade}
use Rattle.store.specs.declared.Choice.{Choice}
use Rattle.store.proofs.WorkLaws.{look_from}
use Rattle.store.proofs.FlaggedLaws.{row_renewed}

-- ---- where a row's numbers stand

module _ {l : FullLattice} {ch : Choice} {m L : ℕ} {o : Part} {os : List ℕ} (at : OperatorStarts l ch m L o os) (r : ℕ) (low : r < edges_on l L) where
  pub entry_place : o.k + get_or os (o.s + r) 0 ≡ from l ch m (operator L r)
  entry_place = omega (arith, ap (λ (p : Part). p.k) at.part_is, at.starts_are r (omega arith))

  pub entry_room : from l ch m (operator L r) + count l ch m (operator L r) ≤ o.k + operator_count l ch L
  entry_room = omega (arith, ap (λ (p : Part). p.k) at.part_is, start_room (operator_cols l ch L) (edges_on l L) r low)

  pub entry_start : get_or os (o.s + r) 0 ≤ 2 ^ 32
  entry_start = omega (arith, at.starts_are r (omega arith), start_room (operator_cols l ch L) (edges_on l L) r low, at.few)

  pub entry_low : o.k + get_or os (o.s + r) 0 ≤ 2 ^ 33
  entry_low = omega (arith, entry_start, at.low)

-- ---- one row

module _ {l : FullLattice} {ch : Choice} {m L : ℕ} {k : FullLattice} {a : ℕ} (rule : StencilRule l ch m L k a) where
  own_edges : unknowns_of k.grid ≡ edges_on l L
  own_edges = ap (λ (k : FullLattice). unknowns_of k.grid) rule.lattice_is ∙ level_edges l L

  pub stencil_asked : Limits l.grid → {o : Part} {os : List ℕ} → OperatorStarts l ch m L o os → (r : ℕ) → r < edges_on l L → (eps : List Float)
      → (a ≤ 2 ^ 32) × (2 * (a + edges_on l L) ≤ length eps)
      → Limits k.grid × ((r < unknowns_of k.grid) × (((a ≤ 2 ^ 32) × (2 * (a + unknowns_of k.grid) ≤ length eps)) × (o.k + get_or os (o.s + r) 0 ≤ 2 ^ 36)))
  stencil_asked limits at r low eps h = (
    subst (λ (k : FullLattice). Limits k.grid) (sym rule.lattice_is) (lattice_limits l limits L),
    (omega (arith, own_edges), ((h.0, omega (arith, h.1, own_edges)), omega (arith, entry_low at r low))),
  )

  row_numbers : (s : Store) (r : ℕ) → numbers l ch m (get s) (operator L r) ≡ numbers_of (stencil_row k (read_from s.permittivities a) r)
  unfolding numbers
  row_numbers s r =
      let e : (λ q. number_in (get s) permittivity (a + q)) ≡ read_from s.permittivities a = λ i q. look_from s permittivity a q i in
      ap numbers_of (rule.rule_is (get s) r ∙ ap (λ (f : ℕ → C64). stencil_row k f r) e)

  module _ {o : Part} {os : List ℕ} (at : OperatorStarts l ch m L o os) (r : ℕ) (low : r < edges_on l L) {eps ov : List Float} where
    pub entry_made : 2 * (o.k + operator_count l ch L) ≤ length ov → {ok : Bool} {ov' : List Float}
        → (ov' ≡ laid_numbers ov (o.k + get_or os (o.s + r) 0) (numbers_of (stencil_row k (read_from eps a) r))) × (ok ≡ all_finite (numbers_of (stencil_row k (read_from eps a) r)))
        → EntryMade l ch m (operator L r) eps ov ok ov'
    entry_made room {ok} {ov'} d =
        let vs = numbers_of (stencil_row k (read_from eps a) r) in
        let w : ov' ≡ laid_numbers ov (from l ch m (operator L r)) vs = d.0 ∙ ap (λ (j : ℕ). laid_numbers ov j vs) (entry_place at r low) in
        record {
          each = λ x f t c.
              row_renewed l ch m x (operator L r) (five eps f t ov c) (five eps f t ov' c) ok vs
              (λ ends w. row_numbers (store_of ends x (five eps f t ov c)) r)
              (λ ends. ap (λ (ys : List Float). store_of ends x (five eps f t ys c)) w)
              (λ ends. omega (arith, entry_room at r low))
              d.1;
        }
