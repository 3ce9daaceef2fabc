-- Galerkin's operator of the next level: its starts and columns are laid first, from its relations; then its numbers, from the rows in the lists.
-- Assumes nothing.
use Prim.Native.Nat.{ℕ, suc, ◌<◌, ◌≤◌, ◌^◌}
use native.Mathlib.Omega.{arith}
use mathlib.Core.Path.{◌≡◌, refl, sym, ap, ◌∙◌}
use mathlib.Core.Bool.{Bool}
use mathlib.Core.List.{List}
use lib.ListN.{set}
use lib.Ieee.{Float}
use Rattle.numbers.specs.declared.C64.{C64}
use Rattle.numbers.specs.Places.{number_at}
use Rattle.numbers.specs.Lists.{rows, laid, laid_numbers, Laid, all_finite, starts_of}
use Rattle.numbers.specs.Terms.{Term, columns_of, numbers_of, LaidRows}
use Rattle.lattice.specs.declared.grid.Grid3d.{Grid3d}
use Rattle.lattice.specs.Grid.{unknowns_of, Limits}
use Rattle.lattice.specs.Lattice.{FullLattice}
use Rattle.numbers.specs.declared.terms.Part.{Part}
use Rattle.operators.specs.declared.galerkin.FineRows.{FineRows}
use Rattle.operators.specs.declared.galerkin.FineRows.TheVariants.{Computed, Stored as StoredFrom}
use Rattle.operators.specs.Galerkin.{galerkin_columns, rows_in, fine_row, RowsGiven, RowsReady, NumbersLaid}
use Rattle.operators.specs.LevelLists.{edges_on, OperatorGiven, LevelGiven}
use Rattle.operators.specs.Levels.{galerkin_at, pattern_row}
use Rattle.operators.specs.Stencil.{stencil_row}
use Rattle.operators.proofs.ComputedLaws.{row_computed, row_stored}
use Rattle.operators.proofs.ForwardPattern.{grid_limits}
use Rattle.operators.proofs.GalerkinLaws.{columned_agree}
use Rattle.operators.proofs.LevelListLaws.{Sources, Placed, first_edges, row_is, sources_met, placed_by, placed_columned, last_room, operator_before, numbers_same}
use Rattle.operators.proofs.RediscretizedLists.{stencil_agree}

-- the operator of level 0 is the lattice's own
given_row : {l : FullLattice} {f : ℕ → C64} {L : ℕ} {eps : List Float} → Limits l.grid → OperatorGiven l f L eps
    → (r : ℕ) → r < edges_on l L → stencil_row l (number_at eps) r ≡ galerkin_at l f L r
unfolding galerkin_at
given_row {l} {f} {L} {eps} limits u r h =
    let e : edges_on l L ≡ unknowns_of l.grid = ap (edges_on l) u.level ∙ sym (first_edges l) in
    rw u.level (stencil_agree l limits r (omega arith) (number_at eps) f (λ c b. u.reads c (omega arith)))

-- what is asked of a level's cells
module _ {fine : FineRows} {l : FullLattice} {eps : List Float} {g : Grid3d} {u : List ℕ} {p : Part} {ss cs : List ℕ} {xs : List Float} {t : Part} {ts us : List ℕ} {ys : List Float}
    {o : Part} {os oc : List ℕ} {ox : List Float} {f : ℕ → C64} {L : ℕ} (given : LevelGiven fine l eps g u p ss cs xs t ts us ys o os oc ox f L) where
  pub next_limits : Limits g
  next_limits = rw given.cells (grid_limits l given.limits (suc L))

  pub columns_room : (o.s ≤ 2 ^ 32) × (o.k ≤ 2 ^ 32)
  columns_room = (given.room.starts_low, given.room.low)

  -- the starts and columns have been laid
  module _ {os' oc' : List ℕ} {e : ℕ} (starts : os' ≡ laid os o.s (starts_of (pattern_row l g u) (unknowns_of g)))
      (columns : Laid set oc o.k (rows (pattern_row l g u) (unknowns_of g)) oc' e) where
    abbrev A : ℕ → List Term
    A = fine_row fine l (number_at eps) os' oc' ox

    abbrev P : ℕ → List Term
    P = rows_in p ss cs xs

    abbrev R : ℕ → List Term
    R = rows_in t ts us ys

    placed : Placed l f (suc L) o os oc os' oc'
    placed = placed_by l (suc L) u f o given.limits given.relations given.cells starts columns

    fine_are : (r : ℕ) → r < edges_on l L → A r ≡ galerkin_at l f L r
    fine_are r h = go fine refl
      where
        go : (x : FineRows) → fine ≡ x → A r ≡ galerkin_at l f L r
        go Computed d = row_computed l (number_at eps) os' oc' ox d r ∙ given_row given.limits (given.computed d) r h
        go (StoredFrom q) d = row_stored l (number_at eps) os' oc' ox q d r ∙ (operator_before (given.stored q d) placed).there.rows_are r h

    sources : Sources l f L A P R
    sources = record { fine_are = fine_are; forward_are = given.transfer.forward_are; turned_are = given.transfer.turned_are }

    module _ {m : ℕ} (size : m ≡ unknowns_of g) where
      edges_are : m ≡ edges_on l (suc L)
      edges_are = size ∙ ap unknowns_of given.cells

      pub given_asked : RowsGiven fine l eps os' oc' ox p ss cs xs t ts us ys m o
      given_asked =
          rw edges_are
          (record {
            n = edges_on l L;
            ready = record {
              computed = λ d.
                  let v = given.computed d in
                  record { limits = given.limits; edges = ap (edges_on l) v.level ∙ sym (first_edges l); room = v.room };
              stored = λ q d. (operator_before (given.stored q d) placed).there.stored;
            };
            before = record { ends = λ q d. (operator_before (given.stored q d) placed).terms_end };
            transfer = record { forward = given.transfer.forward_stored; turned = given.transfer.turned_stored };
          })

      pub rows_asked : RowsReady A P R m o os' oc' ox
      unfolding galerkin_columns
      rows_asked =
          rw edges_are
          (record {
            columned = columned_agree (λ c h. ap columns_of (sym (row_is given.limits sources c h))) (placed_columned given.limits placed given.room);
            met = sources_met given.limits sources;
            room = last_room given.limits placed given.room;
          })

      -- the numbers have been laid too
      module _ {ox' : List Float} {b : Bool} (numbers : NumbersLaid A P R m o ox ox' b) where
        pub level_laid : LaidRows (galerkin_at l f (suc L)) (edges_on l (suc L)) os o.s oc ox o.k os' oc' ox'
        level_laid =
            record {
              starts_are = placed.starts_are;
              columns_are = placed.columns_are;
              numbers_are = numbers.list ∙ ap (laid_numbers ox o.k) (numbers_same given.limits sources edges_are);
            }

        pub level_finite : b ≡ all_finite (numbers_of (rows (galerkin_at l f (suc L)) (edges_on l (suc L))))
        level_finite = numbers.finite ∙ ap all_finite (numbers_same given.limits sources edges_are)
