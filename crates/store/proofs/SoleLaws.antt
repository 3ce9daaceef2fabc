-- The operator of a sole level 0, from the lattice's own rows.
-- Assumes nothing.
use Prim.Native.Nat.{ℕ, ◌+◌, ◌*◌, ◌≤◌, ◌<◌, ◌^◌}
use mathlib.Core.Path.{◌≡◌, refl, sym, ap, ◌∙◌}
use mathlib.Core.Bool.{Bool}
use mathlib.Core.List.{List}
use native.Mathlib.Omega.{arith}
use lib.ListN.{length, set}
use lib.Ieee.{Float}
use Rattle.numbers.specs.declared.C64.{C64}
use Rattle.numbers.specs.Places.{set_number}
use Rattle.numbers.specs.Lists.{rows, all_finite, read_from}
use Rattle.numbers.specs.Terms.{Term, numbers_of, LaidRows}
use Rattle.numbers.proofs.ListLaws.{rows_agree}
use Rattle.numbers.proofs.PartLaws.{laid_zero}
use Rattle.lattice.specs.Grid.{Limits, unknowns_of}
use Rattle.lattice.specs.Lattice.{FullLattice}
use Rattle.operators.specs.LevelLists.{edges_on}
use Rattle.operators.specs.Stencil.{stencil_row}
use Rattle.operators.proofs.Conditions.{galerkin_first}
use Rattle.operators.proofs.LevelListLaws.{first_edges}
use Rattle.operators.proofs.RediscretizedLists.{stencil_agree, turned_agree}
use Rattle.store.specs.Layout.{operator_at}
use Rattle.store.specs.Setup.{operator_starts_of, operator_cols_of, operator_numbers}
use Rattle.store.specs.Phases.{GivenIn}
use Rattle.store.specs.PhaseSteps.{SoleLeft}
use Rattle.store.specs.declared.Choice.{Choice}
use Rattle.store.specs.declared.Choice.TheVariants.{Galerkin, Rediscretized}
use Rattle.operators.proofs.Equations.{rediscretized_first}
use Rattle.store.proofs.StepLaws.{operators_step, operator_first}

pub operator_at_first : (l : FullLattice) (ch : Choice) (f : ℕ → C64) (r : ℕ) → operator_at l ch f 0 r ≡ stencil_row l f r
operator_at_first l Galerkin f r = galerkin_first l f r
operator_at_first l Rediscretized f r = rediscretized_first l f r

pub sole_asked : (l : FullLattice) (eps : List Float) → Limits l.grid → 2 * edges_on l 0 ≤ length eps
    → (Limits l.grid) × (((0 ≤ 2 ^ 32) × (2 * (0 + unknowns_of l.grid) ≤ length eps)) × ((0 ≤ 2 ^ 32) × (0 ≤ 2 ^ 32)))
sole_asked l eps limits h = (limits, ((omega arith, omega (arith, h, first_edges l)), (omega arith, omega arith)))

module _ (l : FullLattice) (limits : Limits l.grid) (eps : List Float) {os oc : List ℕ} {ox : List Float} {os' oc' : List ℕ} {ox' : List Float} {b : Bool}
    (w : LaidRows (stencil_row l (read_from eps 0)) (unknowns_of l.grid) os 0 oc ox 0 os' oc' ox')
    (e : b ≡ all_finite (numbers_of (rows (stencil_row l (read_from eps 0)) (unknowns_of l.grid)))) where
  row_is : (f : ℕ → C64) → GivenIn l f eps → (ch : Choice) (r : ℕ) → r < edges_on l 0 → stencil_row l (read_from eps 0) r ≡ operator_at l ch f 0 r
  row_is f u ch r h =
      let n = first_edges l in
      stencil_agree l limits r (omega arith) (read_from eps 0) f (λ c k. u.reads c (omega arith)) ∙ sym (operator_at_first l ch f r)

  laid_at : LaidRows (stencil_row l (read_from eps 0)) (edges_on l 0) os 0 oc ox 0 os' oc' ox'
  laid_at = rw (first_edges l) at w

  pub sole_left : SoleLeft l eps os oc ox os' oc' ox' b
  sole_left =
      record {
        operator = λ f u ch.
            let p = operator_first l ch 0 in
            operators_step l ch 0 f 0 refl
            (laid_zero set os (operator_starts_of l ch 0) 0)
            (laid_zero set oc (operator_cols_of l ch 0) 0)
            (laid_zero set_number ox (operator_numbers l ch 0 f) 0)
            (rw (p.0, p.1) (turned_agree (row_is f u ch) laid_at));
        finite = λ f u ch.
            e
            ∙ ap (λ (n : ℕ). all_finite (numbers_of (rows (stencil_row l (read_from eps 0)) n))) (first_edges l)
            ∙ ap (λ (ts : List Term). all_finite (numbers_of ts)) (rows_agree (stencil_row l (read_from eps 0)) (operator_at l ch f 0) (edges_on l 0) (row_is f u ch));
      }
