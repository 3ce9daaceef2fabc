-- Structure without numbers: the columns of a row depend on columns alone. Galerkin's on those of the rows that they are made of, a lattice's own on nothing
-- besides the lattice; and whether a row's own column is touched. So all of it holds of rows whose numbers are any.
-- Assumes nothing.
use Prim.Native.Nat.{ℕ, zero, suc, ◌<◌}
use native.Mathlib.Omega.{arith}
use mathlib.Core.Logic.{inl, inr, ⊎_elim}
use mathlib.Core.Path.{◌≡◌, refl, sym, ap, subst, ◌∙◌}
use mathlib.Core.Bool.{Bool, true, false, ◌||◌, cond}
use mathlib.Core.List.{List, [], ◌∷◌}
use lib.ListN.{length, get_or}
use lib.Ieee as Ieee
use Rattle.numbers.specs.declared.C64.{C64}
use Rattle.numbers.specs.Complex.{zero_f}
use Rattle.numbers.specs.Collect.{collected, at_first}
use Rattle.numbers.specs.Lists.{In, contains, start_of}
use Rattle.numbers.specs.Terms.{Term, columns_of}
use Rattle.numbers.specs.Transpose.{turned_row}
use Rattle.numbers.proofs.CollectLaws.{collected_columns_same}
use Rattle.numbers.proofs.CollectSums.{in_at}
use Rattle.numbers.proofs.EachLaws.{length_columns}
use Rattle.numbers.proofs.Equations.{columns_of_nil, columns_of_cons, contains_nil}
use Rattle.numbers.proofs.MemberLaws.{each_in, in_each, in_contains}
use Rattle.numbers.proofs.Tutorial.{turned_columns_lem}
use Rattle.lattice.specs.declared.grid.Grid3d.{Grid3d}
use Rattle.lattice.specs.Grid.{Limits, unknowns_of}
use Rattle.lattice.specs.Lattice.{FullLattice}
use Rattle.lattice.specs.Neighbours.{is_fixed}
use Rattle.lattice.specs.Rows.{row_into}
use Rattle.weights.specs.Prolongation.{weight_columns}
use Rattle.weights.specs.TwoLevels.{fine_grid, two_at}
use Rattle.weights.proofs.ProductLaws.{terms_columns}
use Rattle.operators.specs.Galerkin.{galerkin_row, galerkin_columns, fine_rows_read, columns_at, forward_rows_read, MetAll}
use Rattle.operators.specs.LevelLists.{edges_on}
use Rattle.operators.specs.Levels.{eps_at, averaged_on, forward_at, turned_at, galerkin_at, lattice_at, rediscretized_at}
use Rattle.operators.specs.Stencil.{shift_number, shift_terms, stencil_row}
use Rattle.lattice.proofs.ColumnLaws.{row_columns_same}
use Rattle.numbers.proofs.TransposedLaws.{rises_unique, rises_same, start_same, turned_same}
use Rattle.operators.proofs.ForwardPattern.{grid_fine, turned_named}
use Rattle.operators.proofs.GalerkinPattern.{stencil_rises, galerkin_low}
use Rattle.operators.proofs.RowMembers.{row_via, via_row}
use Rattle.operators.proofs.SecondCondition.{galerkin_rises, galerkin_diagonal}
use Rattle.operators.proofs.StencilLaws.{stencil_diagonal}

-- ---- Galerkin's rows

-- columns that are led to from turned row c, by rows that have the same columns
led : (A A' P P' R R' : ℕ → List Term) (c d : ℕ) → columns_of (R c) ≡ columns_of (R' c)
    → ((r : ℕ) → In r (fine_rows_read R c) → columns_of (A r) ≡ columns_of (A' r))
    → ((s : ℕ) → In s (forward_rows_read A R c) → columns_of (P s) ≡ columns_of (P' s))
    → In d (columns_of (galerkin_row A P R c)) → In d (columns_of (galerkin_row A' P' R' c))
unfolding fine_rows_read forward_rows_read columns_at
led A A' P P' R R' c d turned fine forward i =
    via_row A' P' R' c d
    (⊎_elim inl
    (λ w. inr
    (record {
      r = w.r;
      k = w.k;
      turned = subst (In w.r) turned w.turned;
      fine = subst (In w.k) (fine w.r w.turned) w.fine;
      forward = subst (In d) (forward w.k (in_each (columns_at A) (columns_of (R c)) w.k w.r w.turned w.fine)) w.forward;
    }))
    (row_via A P R c d i))

-- the columns of row c depend on those of turned row c, of the fine rows of its columns, and of the forward rows of theirs
pub galerkin_same : (A A' P P' R R' : ℕ → List Term) (c : ℕ) → columns_of (R c) ≡ columns_of (R' c)
    → ((r : ℕ) → In r (fine_rows_read R c) → columns_of (A r) ≡ columns_of (A' r))
    → ((s : ℕ) → In s (forward_rows_read A R c) → columns_of (P s) ≡ columns_of (P' s))
    → galerkin_columns A P R c ≡ galerkin_columns A' P' R' c
unfolding galerkin_columns fine_rows_read forward_rows_read columns_at
galerkin_same A A' P P' R R' c turned fine forward =
    rises_unique (columns_of (galerkin_row A P R c)) (columns_of (galerkin_row A' P' R' c)) (galerkin_rises A P R c) (galerkin_rises A' P' R' c)
    (λ d. led A A' P P' R R' c d turned fine forward)
    (λ d. led A' A P' P R' R c d (sym turned) (λ r i. sym (fine r (subst (In r) (sym turned) i))) (λ s i. sym (forward s (back s i))))
  where
    back : (s : ℕ) → In s (forward_rows_read A' R' c) → In s (forward_rows_read A R c)
    back s i =
        let w = each_in (columns_at A') (columns_of (R' c)) s i in
        let there : In w.by (columns_of (R c)) = subst (In w.by) (sym turned) w.there in
        in_each (columns_at A) (columns_of (R c)) s w.by there (subst (In s) (sym (fine w.by there)) w.gives)

-- ---- rows from a lattice

module _ (l : FullLattice) (f : ℕ → C64) (r : ℕ) where
  -- those as pushed, and that of the shift
  stencil_has : (d : ℕ) → contains d (columns_of (stencil_row l f r)) ≡ (contains d (columns_of (row_into l f r)) || contains d (columns_of (shift_terms l f r)))
  unfolding stencil_row
  stencil_has d =
      let e : contains d (columns_of (collected at_first [] (row_into l f r))) ≡ contains d (columns_of (row_into l f r)) =
      rw (columns_of_nil, contains_nil d) at (collected_columns_same at_first d [] (row_into l f r)) in
      collected_columns_same at_first d (collected at_first [] (row_into l f r)) (shift_terms l f r)
      ∙ ap (λ (b : Bool). b || contains d (columns_of (shift_terms l f r))) e

shift_same : (l : FullLattice) (f g : ℕ → C64) (r : ℕ) → columns_of (shift_terms l f r) ≡ columns_of (shift_terms l g r)
unfolding shift_terms
shift_same l f g r = go (shift_number l f r) (shift_number l g r) (Ieee.eq l.shift zero_f || is_fixed l r)
  where
    go : (v w : C64) (b : Bool) → columns_of (cond b [] (record { column = r; number = v } ∷ [])) ≡ columns_of (cond b [] (record { column = r; number = w } ∷ []))
    go v w true = refl
    go v w false = columns_of_cons (record { column = r; number = v }) [] ∙ sym (columns_of_cons (record { column = r; number = w }) [])

-- the columns of a row from a lattice do not depend on the permittivities
pub stencil_same : (l : FullLattice) (f g : ℕ → C64) (r : ℕ) → columns_of (stencil_row l f r) ≡ columns_of (stencil_row l g r)
stencil_same l f g r =
    rises_same (columns_of (stencil_row l f r)) (columns_of (stencil_row l g r)) (stencil_rises l f r) (stencil_rises l g r)
    (λ d. stencil_has l f r d ∙ (λ i. contains d (row_columns_same l f g r i) || contains d (shift_same l f g r i)) ∙ sym (stencil_has l g r d))

-- ---- the levels' rows: their columns do not depend on the permittivities

module _ (l : FullLattice) (f : ℕ → C64) (L : ℕ) where
  -- forward rows have the columns of the prolongation
  pub forward_columns_are : (r : ℕ) → columns_of (forward_at l f L r) ≡ weight_columns (two_at l L) r
  unfolding forward_at
  forward_columns_are r = terms_columns (two_at l L) (eps_at l f L) (eps_at l f (suc L)) r

  pub forward_start : (r : ℕ) → start_of (forward_at l f L) r ≡ start_of (weight_columns (two_at l L)) r
  forward_start r = start_same (forward_at l f L) (weight_columns (two_at l L)) r (λ q h. forward_columns_are q) r (omega arith)

module _ (l : FullLattice) (f g : ℕ → C64) where
  pub forward_same : (L r : ℕ) → columns_of (forward_at l f L r) ≡ columns_of (forward_at l g L r)
  forward_same L r = forward_columns_are l f L r ∙ sym (forward_columns_are l g L r)

  pub turned_at_same : (L c : ℕ) → columns_of (turned_at l f L c) ≡ columns_of (turned_at l g L c)
  unfolding turned_at
  turned_at_same L c = turned_same (forward_at l f L) (forward_at l g L) (unknowns_of (fine_grid (two_at l L))) (λ r h. forward_same L r) c

  pub galerkin_at_same : (L r : ℕ) → columns_of (galerkin_at l f L r) ≡ columns_of (galerkin_at l g L r)
  unfolding galerkin_at galerkin_columns
  galerkin_at_same zero r = stencil_same l f g r
  galerkin_at_same (suc L) c =
      galerkin_same (galerkin_at l f L) (galerkin_at l g L) (forward_at l f L) (forward_at l g L) (turned_at l f L) (turned_at l g L) c
      (turned_at_same L c) (λ r i. galerkin_at_same L r) (λ s i. forward_same L s)

  pub rediscretized_same : (L r : ℕ) → columns_of (rediscretized_at l f L r) ≡ columns_of (rediscretized_at l g L r)
  unfolding rediscretized_at
  rediscretized_same L r = stencil_same (lattice_at l L) (averaged_on l f L) (averaged_on l g L) r

-- a row of Galerkin's has its own column on every level
pub own_column : (l : FullLattice) (f : ℕ → C64) (L r : ℕ) → contains r (columns_of (galerkin_at l f L r)) ≡ true
unfolding galerkin_at
own_column l f zero r = stencil_diagonal l f r
own_column l f (suc L) r = galerkin_diagonal (galerkin_at l f L) (forward_at l f L) (turned_at l f L) r

-- ---- when a row's own column is touched

-- with rows that have the columns of the transpose as restriction, and a fine operator that has its diagonal
pub met_found : {A P R : ℕ → List Term} {n m : ℕ} → ((r : ℕ) → r < n → contains r (columns_of (A r)) ≡ true)
    → ((c : ℕ) → c < m → columns_of (R c) ≡ columns_of (turned_row P n c)) → MetAll A P R m
met_found {A} {P} {R} {n} {m} own turn =
    record {
      each_met = λ c h.
          record {
            diagonal = λ q b. own (get_or (columns_of (R c)) q 0) (named c h q b).0;
            back = λ q b. in_contains c (columns_of (P (get_or (columns_of (R c)) q 0))) (named c h q b).1;
          };
    }
  where
    named : (c : ℕ) → c < m → (q : ℕ) → q < length (R c) → (get_or (columns_of (R c)) q 0 < n) × In c (columns_of (P (get_or (columns_of (R c)) q 0)))
    named c h q b =
        let r = get_or (columns_of (R c)) q 0 in
        (turned_columns_lem P n c r).0 (subst (In r) (turn c h) (in_at (columns_of (R c)) q (omega (arith, length_columns (R c)))))

-- ---- the rows that the next level's are worked out from, by columns

-- A, P and R have the columns of level L's operator and of the transfer between levels L and L + 1; their numbers are any
pub record SourceColumns (l : FullLattice) (f : ℕ → C64) (L : ℕ) (A P R : ℕ → List Term) : Type 0 where
  pub fine_are : (r : ℕ) → r < edges_on l L → columns_of (A r) ≡ columns_of (galerkin_at l f L r)
  pub forward_are : (r : ℕ) → r < edges_on l L → columns_of (P r) ≡ columns_of (forward_at l f L r)
  pub turned_are : (c : ℕ) → c < edges_on l (suc L) → columns_of (R c) ≡ columns_of (turned_at l f L c)

module _ {l : FullLattice} {f : ℕ → C64} {L : ℕ} {A P R : ℕ → List Term} (u : SourceColumns l f L A P R) where
  -- a turned row that is not empty touches its own column
  pub columns_met : MetAll A P R (edges_on l (suc L))
  unfolding turned_at
  columns_met =
      met_found {n = edges_on l L} (λ r h. ap (contains r) (u.fine_are r h) ∙ own_column l f L r)
      (λ c h. u.turned_are c h
      ∙ ap (λ (g : Grid3d). columns_of (turned_row (forward_at l f L) (unknowns_of g) c)) (sym (grid_fine l L))
      ∙ sym (turned_same P (forward_at l f L) (edges_on l L) u.forward_are c))

  -- the row that is worked out from them has the columns of the next level's
  pub columns_next : Limits l.grid → (c : ℕ) → c < edges_on l (suc L) → galerkin_columns A P R c ≡ columns_of (galerkin_at l f (suc L) c)
  unfolding galerkin_at galerkin_columns fine_rows_read forward_rows_read columns_at
  columns_next limits c h =
      galerkin_same A (galerkin_at l f L) P (forward_at l f L) R (turned_at l f L) c (u.turned_are c h)
      (λ r i. u.fine_are r (read_low r i))
      (λ s i. let w = each_in (columns_at A) (columns_of (R c)) s i in
      let b = read_low w.by w.there in
      u.forward_are s (galerkin_low l limits f L w.by b s (subst (In s) (u.fine_are w.by b) w.gives)))
    where
      read_low : (r : ℕ) → In r (columns_of (R c)) → r < edges_on l L
      read_low r i = ((turned_named l limits f L c r).0 (subst (In r) (u.turned_are c h) i)).0
