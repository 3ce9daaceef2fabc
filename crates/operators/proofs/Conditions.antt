-- The two variational conditions of "A Multigrid Tutorial" (Briggs, Henson, McCormick) on every level of Galerkin's choice, of the levels' rows and of those that
-- stand in lists: restriction is the transpose of interpolation, the coarse operator is restriction × fine operator × interpolation.
-- Assumes nothing.
use Prim.Native.Nat.{ℕ, suc, ◌<◌, ◌≤◌}
use native.Mathlib.Omega.{arith}
use mathlib.Core.Logic.{◌⊎◌}
use mathlib.Core.Path.{◌≡◌, refl, sym, ap, ◌∙◌}
use mathlib.Core.Bool.{true, false}
use mathlib.Core.List.{List, [], ◌∷◌}
use lib.ListN.{length}
use lib.Ieee.{Float}
use Rattle.numbers.specs.declared.C64.{C64}
use Rattle.numbers.specs.Complex.{zero_number, one_number, product}
use Rattle.numbers.specs.Collect.{summed_at}
use Rattle.numbers.specs.Lists.{Rises, each, contains, some_repeats}
use Rattle.numbers.specs.Terms.{Term, columns_of, weights_at}
use Rattle.numbers.proofs.Tutorial.{first_condition, none_besides, none_repeats, named_once, turned_sorted}
use Rattle.lattice.specs.Grid.{unknowns_of, Limits}
use Rattle.lattice.specs.Lattice.{FullLattice}
use Rattle.weights.specs.TwoLevels.{fine_grid, two_at}
use Rattle.weights.proofs.NoRepeats.{names_no_edge_twice}
use Rattle.numbers.specs.declared.terms.Part.{Part}
use Rattle.operators.specs.Galerkin.{forward_term, forward_terms, fine_terms, galerkin_terms, galerkin_row, rows_in}
use Rattle.operators.specs.LevelLists.{edges_on, TransferIn, OperatorIn}
use Rattle.operators.specs.Levels.{forward_at, turned_at, galerkin_at}
use Rattle.operators.specs.Stencil.{stencil_row}
use Rattle.operators.proofs.ColumnsOnly.{forward_columns_are}
use Rattle.operators.proofs.ForwardPattern.{grid_fine}
use Rattle.operators.proofs.LevelListLaws.{Sources, row_is}
use Rattle.operators.proofs.RowMembers.{Via}
use Rattle.operators.proofs.SecondCondition.{second_condition, nothing_besides, nothing_missing, untouched}

-- ---- the first condition

module _ (l : FullLattice) (f : ℕ → C64) (L c r : ℕ) where
  -- turned row c holds at r what forward row r holds at c
  pub first_at : r < edges_on l L → weights_at r (turned_at l f L c) ≡ weights_at c (forward_at l f L r)
  unfolding turned_at
  first_at h = first_condition (forward_at l f L) (unknowns_of (fine_grid (two_at l L))) c r (rw (← grid_fine l L) h)

  -- and nothing past the level's edges
  pub none_at : edges_on l L ≤ r → weights_at r (turned_at l f L c) ≡ []
  unfolding turned_at
  none_at h = none_besides (forward_at l f L) (unknowns_of (fine_grid (two_at l L))) c r (rw (← grid_fine l L) h)

module _ (l : FullLattice) (limits : Limits l.grid) (f : ℕ → C64) (L c : ℕ) where
  no_repeats : some_repeats (λ r. columns_of (forward_at l f L r)) (unknowns_of (fine_grid (two_at l L))) ≡ false
  no_repeats = ap (λ (cols : ℕ → List ℕ). some_repeats cols n) (λ i r. forward_columns_are l f L r i) ∙ names_no_edge_twice l L limits n (omega arith)
    where
      n : ℕ
      n = unknowns_of (fine_grid (two_at l L))

  -- that is one number at most
  pub once_at : (r : ℕ) → r < edges_on l L → length (weights_at c (forward_at l f L r)) ≤ 1
  once_at r h = named_once c (forward_at l f L r) (none_repeats (λ r. columns_of (forward_at l f L r)) (unknowns_of (fine_grid (two_at l L))) no_repeats r (rw (← grid_fine l L) h))

  -- and the columns of a turned row rise
  pub turned_rises_at : Rises (columns_of (turned_at l f L c))
  unfolding turned_at
  turned_rises_at = turned_sorted (forward_at l f L) (unknowns_of (fine_grid (two_at l L))) c no_repeats

-- of a transfer that stands in lists
module _ {l : FullLattice} {f : ℕ → C64} {L : ℕ} {p : Part} {ss cs : List ℕ} {xs : List Float} {t : Part} {ts us : List ℕ} {ys : List Float} (u : TransferIn l f L p ss cs xs t ts us ys)
    (c r : ℕ) (b : c < edges_on l (suc L)) where
  pub first_stored_lem : r < edges_on l L → weights_at r (rows_in t ts us ys c) ≡ weights_at c (rows_in p ss cs xs r)
  first_stored_lem h = ap (weights_at r) (u.turned_are c b) ∙ first_at l f L c r h ∙ sym (ap (weights_at c) (u.forward_are r h))

  pub none_stored : edges_on l L ≤ r → weights_at r (rows_in t ts us ys c) ≡ []
  none_stored h = ap (weights_at r) (u.turned_are c b) ∙ none_at l f L c r h

-- ---- the second condition

-- level 0 has the lattice's own rows
pub galerkin_first : (l : FullLattice) (f : ℕ → C64) (r : ℕ) → galerkin_at l f 0 r ≡ stencil_row l f r
unfolding galerkin_at
galerkin_first l f r = refl

-- restriction × fine operator × interpolation, term by term: over the turned row, the fine row of each of its columns, and the forward row of each of theirs
pub galerkin_terms_lem : (A P : ℕ → List Term) (ts : List Term)
    → galerkin_terms A P ts
    ≡ each (λ t. each (λ a. each (λ u. record { column = u.column; number = product (product t.number a.number) u.number } ∷ []) (P a.column)) (A t.column)) ts
unfolding galerkin_terms fine_terms forward_terms forward_term
galerkin_terms_lem A P ts = refl

module _ (l : FullLattice) (f : ℕ → C64) (L c : ℕ) where
  -- the terms of row c of level L + 1
  abbrev pub terms_at : List Term
  terms_at = galerkin_terms (galerkin_at l f L) (forward_at l f L) (turned_at l f L c)

  module _ (d : ℕ) where
    -- at a column that a term names stands one number: the sum of the terms there, in order, from +0
    pub second_at : contains d (columns_of terms_at) ≡ true → weights_at d (galerkin_at l f (suc L) c) ≡ summed_at d zero_number terms_at ∷ []
    unfolding galerkin_at
    second_at h = second_condition (galerkin_at l f L) (forward_at l f L) (turned_at l f L) c d h

    -- there are no columns besides these and the row's own
    pub besides_at : contains d (columns_of (galerkin_at l f (suc L) c)) ≡ true → (d ≡ c) ⊎ Via (galerkin_at l f L) (forward_at l f L) (turned_at l f L c) d
    unfolding galerkin_at
    besides_at h = nothing_besides (galerkin_at l f L) (forward_at l f L) (turned_at l f L) c d h

    -- and none is missing
    pub missing_at : Via (galerkin_at l f L) (forward_at l f L) (turned_at l f L c) d → contains d (columns_of (galerkin_at l f (suc L) c)) ≡ true
    unfolding galerkin_at
    missing_at w = nothing_missing (galerkin_at l f L) (forward_at l f L) (turned_at l f L) c d w

  -- the one exception: a diagonal that no term names is 1
  pub untouched_at : contains c (columns_of terms_at) ≡ false → weights_at c (galerkin_at l f (suc L) c) ≡ one_number ∷ []
  unfolding galerkin_at
  untouched_at h = untouched (galerkin_at l f L) (forward_at l f L) (turned_at l f L) c h

-- of an operator that stands in lists, from the finer one's rows A and the transfer's rows P and R, as they stand in lists or are worked out
module _ {l : FullLattice} (limits : Limits l.grid) {f : ℕ → C64} {L : ℕ} {A P R : ℕ → List Term} (u : Sources l f L A P R) {o : Part} {os oc : List ℕ} {ox : List Float}
    (v : OperatorIn l f (suc L) o os oc ox) (c : ℕ) (b : c < edges_on l (suc L)) where
  stored_row_lem : rows_in o os oc ox c ≡ galerkin_row A P R c
  stored_row_lem = v.rows_are c b ∙ sym (row_is limits u c b)

  module _ (d : ℕ) where
    pub second_stored : contains d (columns_of (galerkin_terms A P (R c))) ≡ true → weights_at d (rows_in o os oc ox c) ≡ summed_at d zero_number (galerkin_terms A P (R c)) ∷ []
    second_stored h = ap (weights_at d) stored_row_lem ∙ second_condition A P R c d h

    pub besides_stored : contains d (columns_of (rows_in o os oc ox c)) ≡ true → (d ≡ c) ⊎ Via A P (R c) d
    besides_stored h = nothing_besides A P R c d (rw stored_row_lem at h)

    pub missing_stored : Via A P (R c) d → contains d (columns_of (rows_in o os oc ox c)) ≡ true
    missing_stored w = rw stored_row_lem (nothing_missing A P R c d w)

  pub untouched_stored : contains c (columns_of (galerkin_terms A P (R c))) ≡ false → weights_at c (rows_in o os oc ox c) ≡ one_number ∷ []
  untouched_stored h = ap (weights_at c) stored_row_lem ∙ untouched A P R c h
