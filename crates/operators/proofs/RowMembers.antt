-- The columns of Galerkin's rows: they rise, and they are those of the terms.
-- Assumes nothing.
use Prim.Native.Nat.{ℕ}
use mathlib.Core.Path.{◌≡◌, refl, sym, subst}
use mathlib.Core.Logic.{◌⊎◌, inl, inr, ⊎_elim}
use mathlib.Core.Bool.{Bool, true, false, cond}
use mathlib.Core.List.{List, []}
use Rattle.numbers.specs.declared.C64.{C64}
use Rattle.numbers.specs.Complex.{one_number}
use Rattle.numbers.specs.Lists.{In, Rises, each, contains}
use Rattle.numbers.specs.Terms.{Term, columns_of}
use Rattle.numbers.specs.Collect.{inserted, collected, at_first, from_zero}
use Rattle.numbers.proofs.EachLaws.{columns_each}
use Rattle.numbers.proofs.MemberLaws.{contains_in, each_in, in_each}
use Rattle.numbers.proofs.CollectLaws.{inserted_rises, collected_rises}
use Rattle.operators.specs.Galerkin.{forward_term, forward_terms, fine_terms, galerkin_terms, with_diagonal, galerkin_row}
use Rattle.numbers.proofs.LoopLaws.{columns_one}
use Rattle.numbers.proofs.GatheredLaws.{columns_kept, inserted_in, in_inserted, gathered_in, in_gathered}

module _ (A P : ℕ → List Term) where
  forward_columns_are : (w : C64) (a : Term) → columns_of (forward_terms P w a) ≡ columns_of (P a.column)
  unfolding forward_terms forward_term
  forward_columns_are w a = columns_kept (forward_term w a.number) (λ u. columns_one _) (P a.column)

  abbrev columns_from : ℕ → List ℕ
  columns_from r = each (λ (k : ℕ). columns_of (P k)) (columns_of (A r))

  fine_columns : (t : Term) → columns_of (fine_terms A P t) ≡ columns_from t.column
  unfolding fine_terms
  fine_columns t = columns_each (forward_terms P t.number) (λ (k : ℕ). columns_of (P k)) (forward_columns_are t.number) (A t.column) refl

  terms_columns : (ts : List Term) → columns_of (galerkin_terms A P ts) ≡ each columns_from (columns_of ts)
  unfolding galerkin_terms
  terms_columns ts = columns_each (fine_terms A P) columns_from fine_columns ts refl

  -- column c is named by way of a row r and of a column k of the fine level
  pub record Via (ts : List Term) (c : ℕ) : Type 0 where
    pub r : ℕ
    pub k : ℕ
    pub turned : In r (columns_of ts)
    pub fine : In k (columns_of (A r))
    pub forward : In c (columns_of (P k))

  pub terms_via : (ts : List Term) (c : ℕ) → In c (columns_of (galerkin_terms A P ts)) → Via ts c
  terms_via ts c i =
      let u = each_in columns_from (columns_of ts) c (subst (In c) (terms_columns ts) i) in
      let v = each_in (λ (k : ℕ). columns_of (P k)) (columns_of (A u.by)) c u.gives in
      record { r = u.by; k = v.by; turned = u.there; fine = v.there; forward = v.gives }

  pub via_terms : (ts : List Term) (c : ℕ) → Via ts c → In c (columns_of (galerkin_terms A P ts))
  via_terms ts c h =
      subst (In c) (sym (terms_columns ts))
      (in_each columns_from (columns_of ts) c h.r h.turned (in_each (λ (k : ℕ). columns_of (P k)) (columns_of (A h.r)) c h.k h.fine h.forward))

  module _ (R : ℕ → List Term) (c : ℕ) where
    abbrev touched : List Term
    touched = collected from_zero [] (galerkin_terms A P (R c))

    abbrev one : Term
    one = record { column = c; number = one_number }

    -- the columns of row c are c and those that it touches
    pub row_via : (d : ℕ) → In d (columns_of (galerkin_row A P R c)) → (d ≡ c) ⊎ Via (R c) d
    unfolding galerkin_row with_diagonal
    row_via d = go (contains c (columns_of touched))
      where
        old : In d (columns_of touched) → (d ≡ c) ⊎ Via (R c) d
        old i = inr (terms_via (R c) d (gathered_in from_zero (galerkin_terms A P (R c)) d i))

        go : (b : Bool) → In d (columns_of (cond b touched (inserted at_first one touched))) → (d ≡ c) ⊎ Via (R c) d
        go true i = old i
        go false i = ⊎_elim (λ e. inl e) old (inserted_in at_first one touched d i)

    pub via_row : (d : ℕ) → (d ≡ c) ⊎ Via (R c) d → In d (columns_of (galerkin_row A P R c))
    unfolding galerkin_row with_diagonal
    via_row d h = go (contains c (columns_of touched)) refl h
      where
        old : Via (R c) d → In d (columns_of touched)
        old i = in_gathered from_zero (galerkin_terms A P (R c)) d (via_terms (R c) d i)

        go : (b : Bool) → contains c (columns_of touched) ≡ b → (d ≡ c) ⊎ Via (R c) d → In d (columns_of (cond b touched (inserted at_first one touched)))
        go true q (inl e) = subst (λ (k : ℕ). In k (columns_of touched)) (sym e) (contains_in c (columns_of touched) q)
        go true q (inr i) = old i
        go false q (inl e) = in_inserted at_first one touched d (inl e)
        go false q (inr i) = in_inserted at_first one touched d (inr (old i))

    -- they rise
    pub galerkin_rises : Rises (columns_of (galerkin_row A P R c))
    unfolding galerkin_row with_diagonal
    galerkin_rises = go (contains c (columns_of touched))
      where
        go : (b : Bool) → Rises (columns_of (cond b touched (inserted at_first one touched)))
        go true = collected_rises from_zero (galerkin_terms A P (R c))
        go false = inserted_rises at_first one touched (collected_rises from_zero (galerkin_terms A P (R c)))
