-- The rows of the fine operator: worked out, and read back from the lists where they were laid; or read where they stand.
-- Assumes nothing.
use Prim.Native.Nat.{ℕ, ◌+◌, ◌<◌, ◌≤◌}
use mathlib.Core.Path.{◌≡◌, subst}
use mathlib.Core.List.{List}
use native.Mathlib.Omega.{arith}
use lib.ListN.{length, get_or}
use lib.Ieee.{Float}
use Rattle.numbers.specs.declared.C64.{C64}
use Rattle.lattice.specs.Grid.{unknowns_of, Limits}
use Rattle.lattice.specs.Lattice.{FullLattice, full_lattice}
use Rattle.lattice.specs.declared.lattice.Lattice.{Lattice}
use Rattle.std.proofs.Common.{Bor}
use Rattle.numbers.specs.Terms.{Term, columns_of, Wrote, Stored}
use Rattle.numbers.specs.Places.{number_at}
use Rattle.numbers.specs.Lists.{In, each}
use Rattle.numbers.proofs.TermLaws.{Holds, read_back}
use Rattle.operators.specs.Stencil.{stencil_row}
use Rattle.numbers.specs.declared.terms.Part.{Part}
use Rattle.operators.specs.declared.galerkin.Fine.{Fine}
use Rattle.operators.specs.declared.galerkin.Fine.TheVariants.{Computed as FromLattice, Stored as FromLists}
use Rattle.operators.specs.declared.galerkin.Rows.{Rows}
use Rattle.operators.specs.declared.galerkin.FineRows.{FineRows}
use Rattle.operators.specs.declared.galerkin.FineRows.TheVariants.{Computed, Stored as StoredFrom}
use Rattle.operators.specs.Galerkin.{forward_terms, fine_terms, rows_in, rows_of, fine_row, fine_of, Computable, FineHas, FineMade, TurnedThere, TurnedGiven, galerkin_terms, Gathered, ColumnsBelow}
use Rattle.numbers.proofs.StoredLaws.{in_terms}
use Rattle.operators.proofs.GalerkinPattern.{stencil_low}

-- a row that was laid over two lists, read back
pub row_fits : (l : FullLattice) (f : ℕ → C64) (r : ℕ) {n : ℕ} {cs cs' : List ℕ} {xs xs' : List Float}
    → Wrote cs xs 0 (stencil_row l f r) cs' xs' n → n ≤ 30 → length cs ≡ 30 → length xs ≡ 60 → Holds 30 (stencil_row l f r) cs' xs' n
row_fits l f r w m h g = read_back 30 w (omega (arith, w.next)) (omega arith) (omega arith)

-- its columns are edges of the grid
pub computed_below : (l : FullLattice) (f : ℕ → C64) (r : ℕ) {b n : ℕ} {cs : List ℕ} {xs : List Float} → Limits l.grid → r < unknowns_of l.grid
    → Holds b (stencil_row l f r) cs xs n → ColumnsBelow cs 0 n (unknowns_of l.grid)
computed_below l f r {b} {n} {cs} {xs} limits h held =
    record { low = λ q g. stencil_low l f r limits h (get_or cs (0 + q) 0) (subst (λ (ts : List Term). In (get_or cs (0 + q) 0) (columns_of ts)) held.terms (in_terms cs xs 0 n q g)) }

-- ---- by case

module _ {fine : FineRows} (l : FullLattice) (f : ℕ → C64) (starts cs : List ℕ) (xs : List Float) where
  pub row_computed : fine ≡ Computed → (r : ℕ) → fine_row fine l f starts cs xs r ≡ stencil_row l f r
  unfolding fine_row
  row_computed e r = rw e

  pub row_stored : (o : Part) → fine ≡ StoredFrom o → (r : ℕ) → fine_row fine l f starts cs xs r ≡ rows_in o starts cs xs r
  unfolding fine_row
  row_stored o e r = rw e

-- ---- the same, from all that it is worked out from

module _ {f : Fine} where
  module _ {l : Lattice} {st eps : Bor (List Float)} (e : f ≡ FromLattice l st eps) where
    pub from_lattice : (r : ℕ) → fine_of f r ≡ stencil_row (full_lattice l st.now) (number_at eps.now) r
    unfolding fine_of
    from_lattice r = rw e

    pub has_computed : {n : ℕ} → FineHas f n → Computable (full_lattice l st.now) eps.now n
    unfolding FineHas
    has_computed h = rw e at h

  module _ {o : Rows} (e : f ≡ FromLists o) where
    pub from_lists : (r : ℕ) → fine_of f r ≡ rows_of o r
    unfolding fine_of
    from_lists r = rw e

    pub has_stored : {n : ℕ} → FineHas f n → Stored o.starts.now o.part.s o.columns.now o.values.now o.part.k n n
    unfolding FineHas
    has_stored h = rw e at h

module _ {fine : FineRows} where
  pub made_computed : (l : Lattice) (st eps : Bor (List Float)) (starts cs : List ℕ) (xs : List Float) → fine ≡ Computed
      → FineMade fine (full_lattice l st.now) eps.now starts cs xs (FromLattice l st eps)
  unfolding fine_row fine_of FineHas
  made_computed l st eps starts cs xs e = record { rows = rw e; has = λ n h. h.computed e }

  pub made_stored : (l : FullLattice) (eps : List Float) {o : Part} (starts cs : Bor (List ℕ)) (xs : Bor (List Float)) → fine ≡ StoredFrom o
      → FineMade fine l eps starts.now cs.now xs.now (FromLists (record { part = o; starts = starts; columns = cs; values = xs }))
  unfolding fine_row fine_of FineHas
  made_stored l eps {o} starts cs xs e = record { rows = rw e; has = λ n h. h.stored o e }

-- what was given over lists that stand apart
module _ {fine : FineRows} {l : FullLattice} {eps : List Float} {os oc : List ℕ} {ox : List Float} {f : Fine} (u : FineMade fine l eps os oc ox f) where
  pub turned_there : {p t : Rows} {c : ℕ}
      → TurnedGiven fine l eps os oc ox p.part p.starts.now p.columns.now p.values.now t.part t.starts.now t.columns.now t.values.now c
      → TurnedThere f p t c
  turned_there g = record { n = g.n; m = g.m; has = u.has g.n g.ready; transfer = g.transfer; low = g.low }

  pub gathered_made : (P : ℕ → List Term) (ts : List Term) {xs ys : List Float} → Gathered (galerkin_terms (fine_of f) P ts) xs ys
      → Gathered (galerkin_terms (fine_row fine l (number_at eps) os oc ox) P ts) xs ys
  gathered_made P ts g = rw u.rows g

-- the terms of row r, from where they stand
pub fine_gathered : (A P : ℕ → List Term) (r : ℕ) (w : C64) {ts : List Term} {ys zs : List Float} → A r ≡ ts
    → Gathered (each (forward_terms P w) ts) ys zs → Gathered (fine_terms A P (record { column = r; number = w })) ys zs
unfolding fine_terms
fine_gathered A P r w e g = rw e g
