-- The operators of either choice, level by level: after n levels each list is the first n parts laid over it.
-- Assumes nothing.
use Prim.Native.Nat.{ℕ, zero, suc, ◌+◌, ◌<◌}
use mathlib.Core.Path.{◌≡◌, refl, sym, ap, ◌∙◌}
use mathlib.Core.Bool.{false}
use mathlib.Core.List.{List, [], ◌++◌}
use native.Mathlib.Omega.{arith}
use lib.Dec.{ltb}
use lib.ListN.{length, set}
use lib.Ieee.{Float}
use Rattle.numbers.specs.declared.C64.{C64}
use Rattle.numbers.specs.declared.terms.Part.{Part}
use Rattle.numbers.specs.Places.{set_number}
use Rattle.numbers.specs.Lists.{rows, laid_by, laid, laid_numbers}
use Rattle.numbers.specs.Terms.{LaidRows}
use Rattle.numbers.proofs.Equations.{rows_zero, rows_suc, laid_by_nil}
use Rattle.numbers.proofs.SumLaws.{sum_to_zero, sum_to_suc}
use Rattle.numbers.proofs.ListLaws.{laid_length, laid_numbers_length}
use Rattle.numbers.proofs.PartLaws.{rows_sum, laid_next}
use Rattle.lattice.specs.Lattice.{FullLattice}
use Rattle.operators.specs.LevelLists.{edges_on}
use Rattle.store.specs.Layout.{operator_at, operator_count, first_stored, stored_count, operator_off, stored_starts}
use Rattle.store.specs.Setup.{operator_starts_of, operator_cols_of, operator_numbers}
use Rattle.store.specs.Phases.{OperatorsLeft}
use Rattle.store.specs.declared.Choice.{Choice}
use Rattle.store.proofs.SizeLaws.{stored_rows, stored_later, ostarts_long, ocols_long, onumbers_long, rows_stored, count_stored, starts_stored, columns_stored, numbers_stored}

-- a part by the places of its starts and of its terms
abbrev pub part_at : ℕ → ℕ → Part
part_at s k = record { s = s; k = k }

module _ (l : FullLattice) (ch : Choice) (m : ℕ) where
  -- where the part behind that of level L + 1 begins
  pub starts_later : (L : ℕ) → stored_starts l m (suc (suc L)) ≡ stored_starts l m (suc L) + (edges_on l (suc L) + 1)
  starts_later L = sum_to_suc (stored_rows l m) (suc L) ∙ ap (λ (k : ℕ). stored_starts l m (suc L) + k) (rows_stored l m (suc L) (stored_later m L))

  pub terms_later : (L : ℕ) → operator_off l ch m (suc (suc L)) ≡ operator_off l ch m (suc L) + operator_count l ch (suc L)
  terms_later L = sum_to_suc (stored_count l ch m) (suc L) ∙ ap (λ (k : ℕ). operator_off l ch m (suc L) + k) (count_stored l m (suc L) (stored_later m L) ch)

  module _ (f : ℕ → C64) {os₀ oc₀ : List ℕ} {ox₀ : List Float} where
    -- the operator of level n behind those of the levels before it
    pub operators_step : (n : ℕ) → ltb n (first_stored m) ≡ false → {os oc : List ℕ} {ox : List Float} {os' oc' : List ℕ} {ox' : List Float}
        → os ≡ laid os₀ 0 (rows (operator_starts_of l ch m) n) → oc ≡ laid oc₀ 0 (rows (operator_cols_of l ch m) n) → ox ≡ laid_numbers ox₀ 0 (rows (operator_numbers l ch m f) n)
        → LaidRows (operator_at l ch f n) (edges_on l n) os (stored_starts l m n) oc ox (operator_off l ch m n) os' oc' ox' → OperatorsLeft l ch f m n os₀ oc₀ ox₀ os' oc' ox'
    operators_step n z {os} {oc} {ox} p q r w =
        let x = starts_stored l m n z ch f in
        let y = columns_stored l m n z ch f in
        let v = numbers_stored l m n z ch f in
        let a = rows_sum (operator_starts_of l ch m) (stored_rows l m) (ostarts_long l ch m) n in
        let b = rows_sum (operator_cols_of l ch m) (stored_count l ch m) (ocols_long l ch m) n in
        let c = rows_sum (operator_numbers l ch m f) (stored_count l ch m) (onumbers_long l ch m f) n in
        record {
          starts_are = w.starts_are ∙ (λ i. laid (p i) (stored_starts l m n) (sym x i)) ∙ laid_next set os₀ (operator_starts_of l ch m) 0 n (stored_starts l m n) (omega arith);
          columns_are = w.columns_are ∙ (λ i. laid (q i) (operator_off l ch m n) (sym y i)) ∙ laid_next set oc₀ (operator_cols_of l ch m) 0 n (operator_off l ch m n) (omega arith);
          values_are = w.numbers_are ∙ (λ i. laid_numbers (r i) (operator_off l ch m n) (sym v i))
              ∙ laid_next set_number ox₀ (operator_numbers l ch m f) 0 n (operator_off l ch m n) (omega arith);
        }

    pub operators_next : (L : ℕ) {os oc : List ℕ} {ox : List Float} {os' oc' : List ℕ} {ox' : List Float} → OperatorsLeft l ch f m L os₀ oc₀ ox₀ os oc ox
        → LaidRows (operator_at l ch f (suc L)) (edges_on l (suc L)) os (stored_starts l m (suc L)) oc ox (operator_off l ch m (suc L)) os' oc' ox'
        → OperatorsLeft l ch f m (suc L) os₀ oc₀ ox₀ os' oc' ox'
    operators_next L w = operators_step (suc L) (stored_later m L) w.starts_are w.columns_are w.values_are

    pub operators_long : (L : ℕ) {os oc : List ℕ} {ox : List Float} → OperatorsLeft l ch f m L os₀ oc₀ ox₀ os oc ox
        → (length os ≡ length os₀) × (length oc ≡ length oc₀) × (length ox ≡ length ox₀)
    operators_long L w = (
      ap length w.starts_are ∙ laid_length os₀ 0 (rows (operator_starts_of l ch m) (suc L)),
      ap length w.columns_are ∙ laid_length oc₀ 0 (rows (operator_cols_of l ch m) (suc L)),
      ap length w.values_are ∙ laid_numbers_length ox₀ 0 (rows (operator_numbers l ch m f) (suc L)),
    )

-- no operator of level 0 above others
pub operators_none : (l : FullLattice) (ch : Choice) (f : ℕ → C64) (m : ℕ) → 0 < m → (os oc : List ℕ) (ox : List Float) → OperatorsLeft l ch f m 0 os oc ox os oc ox
operators_none l ch f zero h os oc ox = absurd (omega arith)
operators_none l ch f (suc m) h os oc ox =
    record {
      starts_are = none set os (operator_starts_of l ch (suc m)) refl;
      columns_are = none set oc (operator_cols_of l ch (suc m)) refl;
      values_are = none set_number ox (operator_numbers l ch (suc m) f) refl;
    }
  where
    none : {X A : Type 0} (put : X → ℕ → A → X) (xs : X) (f : ℕ → List A) → f 0 ≡ [] → xs ≡ laid_by put xs 0 (rows f 1)
    none put xs f e = sym (ap (laid_by put xs 0) (rows_suc f 0 ∙ (λ i. rows_zero f i ++ e i)) ∙ laid_by_nil put xs 0)

pub operator_first : (l : FullLattice) (ch : Choice) (m : ℕ) → (stored_starts l m 0 ≡ 0) × (operator_off l ch m 0 ≡ 0)
operator_first l ch m = (sum_to_zero (stored_rows l m), sum_to_zero (stored_count l ch m))

-- no part before that of level 1
pub operator_second : (l : FullLattice) (ch : Choice) (m : ℕ) → 0 < m → (stored_starts l m 1 ≡ 0) × (operator_off l ch m 1 ≡ 0)
operator_second l ch zero h = absurd (omega arith)
operator_second l ch (suc m) h =
    let p = operator_first l ch (suc m) in
    (sum_to_suc (stored_rows l (suc m)) 0 ∙ ap (λ (n : ℕ). n + 0) p.0, sum_to_suc (stored_count l ch (suc m)) 0 ∙ ap (λ (n : ℕ). n + 0) p.1)
