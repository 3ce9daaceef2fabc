-- The second variational condition of "A Multigrid Tutorial" (Briggs, Henson, McCormick): the coarse operator is restriction × fine operator × interpolation.
-- About `Galerkin`, for any rows: what a row holds at each column, which columns it has, which rows it reads, and when its own column is touched.
-- Assumes nothing.
use Prim.Native.Nat.{ℕ, ◌<◌}
use native.Mathlib.Omega.{arith}
use mathlib.Core.Logic.{◌⊎◌, inl, inr}
use mathlib.Core.Path.{◌≡◌, refl, sym, ap, ◌∙◌}
use mathlib.Core.Bool.{Bool, true, false, cond}
use mathlib.Core.List.{List, [], ◌∷◌}
use lib.ListN.{length, get_or}
use Rattle.numbers.specs.declared.C64.{C64}
use Rattle.numbers.specs.Complex.{one_number, zero_number}
use Rattle.numbers.specs.Lists.{In, Rises, each, contains}
use Rattle.numbers.specs.Terms.{Term, columns_of, weights_at}
use Rattle.numbers.specs.Transpose.{turned_row}
use Rattle.numbers.proofs.Equations.{at_first_is}
use Rattle.numbers.proofs.EachLaws.{length_columns}
use Rattle.numbers.proofs.Tutorial.{first_condition, turned_low, none_named}
use Rattle.numbers.specs.Collect.{inserted, collected, at_first, from_zero, summed_at}
use Rattle.operators.specs.Galerkin.{forward_term, forward_terms, fine_terms, galerkin_terms, with_diagonal, galerkin_row, fine_rows_read, columns_at, forward_rows_read, Met, MetAll}
use Rattle.numbers.proofs.MemberLaws.{contains_in, in_contains, in_each}
use Rattle.numbers.proofs.StoredLaws.{each_agree}
use Rattle.operators.proofs.RowMembers.{Via, row_via, via_row}
use Rattle.numbers.proofs.CollectLaws.{inserted_rises, collected_rises}
use Rattle.numbers.proofs.CollectSums.{in_at, some, named_is, inserted_other, inserted_new, sum_at, sum_columns}

-- ---- the diagonal

module _ (c : ℕ) (row : List Term) where
  diagonal_there : contains c (columns_of row) ≡ true → with_diagonal c row ≡ row
  unfolding with_diagonal
  diagonal_there e = rw e

  diagonal_missing : contains c (columns_of row) ≡ false → with_diagonal c row ≡ inserted at_first (record { column = c; number = one_number }) row
  unfolding with_diagonal
  diagonal_missing e = rw e

  diagonal_rises : Rises (columns_of row) → Rises (columns_of (with_diagonal c row))
  unfolding with_diagonal
  diagonal_rises r = go (contains c (columns_of row))
    where
      go : (b : Bool) → Rises (columns_of (cond b row (inserted at_first (record { column = c; number = one_number }) row)))
      go true = r
      go false = inserted_rises at_first (record { column = c; number = one_number }) row r

-- ---- the second variational condition

module _ (A P R : ℕ → List Term) (c : ℕ) where
  -- the columns of a row rise
  pub galerkin_rises : Rises (columns_of (galerkin_row A P R c))
  unfolding galerkin_row
  galerkin_rises = diagonal_rises c (collected from_zero [] (galerkin_terms A P (R c))) (collected_rises from_zero (galerkin_terms A P (R c)))

  -- a row has its own column
  pub galerkin_diagonal : contains c (columns_of (galerkin_row A P R c)) ≡ true
  galerkin_diagonal = in_contains c (columns_of (galerkin_row A P R c)) (via_row A P R c c (inl refl))

  module _ (d : ℕ) where
    -- at a column that a term names a row holds one number: the sum, in order, over restriction × fine operator × interpolation
    pub second_condition : contains d (columns_of (galerkin_terms A P (R c))) ≡ true
        → weights_at d (galerkin_row A P R c) ≡ summed_at d zero_number (galerkin_terms A P (R c)) ∷ []
    unfolding galerkin_row
    second_condition h = go (contains c (columns_of row)) refl
      where
        row : List Term
        row = collected from_zero [] (galerkin_terms A P (R c))

        go : (b : Bool) → contains c (columns_of row) ≡ b → weights_at d (with_diagonal c row) ≡ summed_at d zero_number (galerkin_terms A P (R c)) ∷ []
        go true e = ap (weights_at d) (diagonal_there c row e) ∙ sum_at d (galerkin_terms A P (R c)) h
        go false e =
            ap (weights_at d) (diagonal_missing c row e)
            ∙ inserted_other at_first (record { column = c; number = one_number }) d apart row
            ∙ sum_at d (galerkin_terms A P (R c)) h
          where
            apart : c ≡ d → ⊥
            apart q =
                let f : true ≡ false = sym h ∙ (sym (sum_columns d (galerkin_terms A P (R c))) ∙ (ap (λ (x : ℕ). contains x (columns_of row)) (sym q) ∙ e)) in
                let z : ◌≡◌ {A = ℕ} 0 1 = cc in
                omega arith

    -- a row has no columns besides: its own, and those that an entry of the turned row, one of its fine row and one of its forward row lead to
    pub nothing_besides : contains d (columns_of (galerkin_row A P R c)) ≡ true → (d ≡ c) ⊎ Via A P (R c) d
    nothing_besides h = row_via A P R c d (contains_in d (columns_of (galerkin_row A P R c)) h)

    -- and none of them is missing
    pub nothing_missing : Via A P (R c) d → contains d (columns_of (galerkin_row A P R c)) ≡ true
    nothing_missing w = in_contains d (columns_of (galerkin_row A P R c)) (via_row A P R c d (inr w))

  -- an untouched diagonal is 1
  pub untouched : contains c (columns_of (galerkin_terms A P (R c))) ≡ false → weights_at c (galerkin_row A P R c) ≡ one_number ∷ []
  unfolding galerkin_row
  untouched h =
      let row : List Term = collected from_zero [] (galerkin_terms A P (R c)) in
      let e : contains c (columns_of row) ≡ false = sum_columns c (galerkin_terms A P (R c)) ∙ h in
      ap (weights_at c) (diagonal_missing c row e)
      ∙ (inserted_new at_first (record { column = c; number = one_number }) row (none_named c row e) ∙ ap (λ (v : C64). v ∷ []) (at_first_is one_number))

  -- a touched diagonal leaves the row of sums as it is
  pub touched : contains c (columns_of (galerkin_terms A P (R c))) ≡ true → galerkin_row A P R c ≡ collected from_zero [] (galerkin_terms A P (R c))
  unfolding galerkin_row
  touched h = diagonal_there c (collected from_zero [] (galerkin_terms A P (R c))) (sum_columns c (galerkin_terms A P (R c)) ∙ h)

-- ---- which rows are read

module _ (A A' P P' R R' : ℕ → List Term) (c : ℕ) (turned : R c ≡ R' c)
    (fine : (r : ℕ) → In r (fine_rows_read R c) → A r ≡ A' r)
    (forward : (s : ℕ) → In s (forward_rows_read A R c) → P s ≡ P' s) where
  -- a row reads turned row c, the fine rows of its columns, and the forward rows of theirs; no others
  pub galerkin_local : galerkin_row A P R c ≡ galerkin_row A' P' R' c
  unfolding galerkin_row galerkin_terms fine_terms forward_terms fine_rows_read forward_rows_read columns_at
  galerkin_local =
      ap (λ (ts : List Term). with_diagonal c (collected from_zero [] ts))
      (each_agree (fine_terms A P) (fine_terms A' P') (R c) row ∙ ap (each (fine_terms A' P')) turned)
    where
      row : (t : Term) → In t.column (columns_of (R c)) → fine_terms A P t ≡ fine_terms A' P' t
      row t o =
          each_agree (forward_terms P t.number) (forward_terms P' t.number) (A t.column)
          (λ a n. ap (each (forward_term t.number a.number)) (forward a.column (in_each (columns_at A) (columns_of (R c)) a.column t.column o n)))
          ∙ ap (each (forward_terms P' t.number)) (fine t.column o)

-- ---- when a row's own column is touched

module _ {A P R : ℕ → List Term} {n m : ℕ} (own : (r : ℕ) → r < n → contains r (columns_of (A r)) ≡ true) (turn : (c : ℕ) → c < m → R c ≡ turned_row P n c) where
  -- with the transpose as restriction, and a fine operator that has its diagonal
  pub met_all : MetAll A P R m
  met_all = record { each_met = met }
    where
      at : (c q : ℕ) → c < m → q < length (R c) → get_or (columns_of (R c)) q 0 < n
      at c q h b = rw (turn c h) (turned_low P c n q (omega (arith, ap length (turn c h))))

      met : (c : ℕ) → c < m → Met A P R c
      met c h =
          record {
            diagonal = λ q b. own (get_or (columns_of (R c)) q 0) (at c q h b);
            back = λ q b. back c h (get_or (columns_of (R c)) q 0) (at c q h b) (in_contains (get_or (columns_of (R c)) q 0) (columns_of (R c)) (in_at (columns_of (R c)) q (omega (arith, length_columns (R c)))));
          }
        where
          back : (c : ℕ) → c < m → (r : ℕ) → r < n → contains r (columns_of (R c)) ≡ true → contains c (columns_of (P r)) ≡ true
          back c h r b e =
              named_is c (P r)
              ∙ (ap some (sym (ap (weights_at r) (turn c h) ∙ first_condition P n c r b)) ∙ (sym (named_is r (R c)) ∙ e))
