-- The phases put together over the record of lists: what each asks for, and the fill as one equation.
-- Assumes nothing.
use Prim.Native.Nat.{ℕ, zero, suc, ◌*◌, ◌≤◌, ◌<◌}
use native.Mathlib.Omega.{arith}
use mathlib.Core.Path.{◌≡◌, refl, sym, ap, ◌∙◌}
use mathlib.Core.Bool.{Bool, true, false, cond, ◌&&◌}
use mathlib.Core.List.{List}
use lib.ListN.{length}
use lib.Ieee.{Float}
use Rattle.numbers.specs.declared.C64.{C64}
use Rattle.numbers.specs.Lists.{rows, laid, laid_numbers, all_finite}
use Rattle.numbers.specs.Places.{set_number}
use Rattle.numbers.proofs.Equations.{laid_by_nil, rows_zero}
use Rattle.lattice.specs.Check.{accepted, refused}
use Rattle.lattice.specs.Grid.{Limits}
use Rattle.lattice.specs.Lattice.{FullLattice}
use Rattle.numbers.proofs.ListLaws.{laid_numbers_length}
use Rattle.store.proofs.FineLaws.{turned_fine}
use Rattle.store.proofs.SeamLaws.{operators_ready}
use Rattle.store.proofs.ShortLaws.{transfer_room, operator_room}
use Rattle.store.proofs.ScalingLaws.{turned_stored, turned_in_lem}
use Rattle.store.specs.Store.{Store, sizes, lent}
use Rattle.store.specs.Layout.{Enough, eps_off}
use Rattle.store.specs.Setup.{ends_part, eps_part, averaged_part, forward_numbers, turned_numbers, operator_numbers, only_numbers, filled, all_to, level_fine}
use Rattle.store.specs.Phases.{TransfersLeft, OperatorRoom, AveragedRoom, ScalingRoom, first_of, lower_of, weights_fine, operator_fine, averaged_fine, scale_fine}
use Rattle.store.specs.FillSteps.{TransfersBy, OperatorsReady, OperatorsDone}
use Rattle.store.specs.PhaseSteps.{SoleLeft, RediscretizedDone, ScalingLeft}
use Rattle.store.specs.Ready.{ChosenRoom, ScalingAsked, chosen_fine, operators_code, ChosenLeft, ChosenDone, scaling_code, ScaledLeft, ScalingDone}
use Rattle.store.specs.Steps.{filling, code_of, sole_code, after_level, fill_code, fill_of}
use Rattle.store.specs.declared.Choice.{Choice}
use Rattle.store.specs.declared.Choice.TheVariants.{Galerkin, Rediscretized}
use Rattle.store.proofs.CodeLaws.{lower_right, first_low, first_both, first_same, seven_of, seven_is, level_galerkin, level_rediscretized, level_first}

-- ---- room

module _ {l : FullLattice} {ch : Choice} {m : ℕ} {eps : List Float} {os oc : List ℕ} {ox : List Float} (room : ChosenRoom l ch m eps os oc ox) where
  pub averaged_room : ch ≡ Rediscretized → AveragedRoom l m eps
  averaged_room e = record { room = rw e at room.eps_room }

  pub operators_room : {d : Choice} → ch ≡ d → OperatorRoom l d m os oc ox
  operators_room e = rw e at room.operator_room

pub scaling_room : {l : FullLattice} {ch : Choice} {m : ℕ} {ts us : List ℕ} {ys xs : List Float} → ScalingAsked l ch m ts us ys xs → ch ≡ Rediscretized → ScalingRoom l m xs
scaling_room a e = record { room = rw e at a.room }

-- ---- either choice

nothing_laid : (xs : List Float) (k : ℕ) (part : ℕ → List C64) → xs ≡ laid_numbers xs k (rows part 0)
nothing_laid xs k part = sym (ap (laid_numbers xs k) (rows_zero part) ∙ laid_by_nil set_number xs k)

only_laid : (ch : Choice) (xs : List Float) (k : ℕ) (part : ℕ → List C64) → xs ≡ laid_numbers xs k (only_numbers ch (rows part 0))
only_laid Galerkin xs k part = sym (laid_by_nil set_number xs k)
only_laid Rediscretized xs k part = nothing_laid xs k part

code_more : (l : FullLattice) (ch : Choice) (k : ℕ) (f : ℕ → C64) → 0 < k → operators_code l ch k f ≡ first_of (chosen_fine l ch k f) k
code_more l ch zero f h = absurd (omega arith)
code_more l ch (suc k) f h = refl

module _ {l : FullLattice} {m : ℕ} {eps : List Float} {ss cs : List ℕ} {xs : List Float} {ts us : List ℕ} {ys : List Float} {os oc : List ℕ} {ox : List Float} {os' oc' : List ℕ} {ox' : List Float} where
  pub chosen_sole : (ch : Choice) {ok : Bool} {r : ℕ} → m ≡ 0 → SoleLeft l eps os oc ox os' oc' ox' ok → r ≡ sole_code ok
      → ChosenDone l ch m eps ss cs xs ts us ys os oc ox eps os' oc' ox' r
  chosen_sole ch z h e =
      rw z (record {
        left = λ f t.
            record {
              averaged = only_laid ch eps (eps_off l 1) (averaged_part l f);
              operators = h.operator f t.given ch;
              bad = e ∙ ap sole_code (h.finite f t.given ch);
            };
      })

  pub chosen_galerkin : {ch : Choice} {r : ℕ} → ch ≡ Galerkin → 0 < m → OperatorsDone l m eps ss cs xs ts us ys os oc ox os' oc' ox' r
      → ChosenDone l ch m eps ss cs xs ts us ys os oc ox eps os' oc' ox' r
  chosen_galerkin z p h =
      rw z (record {
        left = λ f t.
            record { averaged = sym (laid_by_nil set_number eps (eps_off l (suc m))); operators = h.lists f t; bad = h.first_is f t ∙ sym (code_more l Galerkin m f p) };
      })

  pub chosen_rediscretized : {ch : Choice} {eps' : List Float} {r : ℕ} → ch ≡ Rediscretized → 0 < m → RediscretizedDone l m m eps os oc ox eps' os' oc' ox' r
      → ChosenDone l ch m eps ss cs xs ts us ys os oc ox eps' os' oc' ox' r
  chosen_rediscretized z p h =
      rw z (record {
        left = λ f t.
            let d = h.left f t.given in
            record { averaged = d.eps_are; operators = d.operators_are; bad = d.bad_is ∙ sym (code_more l Rediscretized m f p) };
      })

module _ {l : FullLattice} {m : ℕ} {ts us : List ℕ} {ys : List Float} where
  pub scaling_none : {ch : Choice} (vs : List Float) → ch ≡ Galerkin → ScalingDone l ch m ts us ys vs vs 0
  scaling_none vs z = rw z (record { left = λ f t. record { numbers = sym (laid_by_nil set_number vs 0); bad = refl } })

  pub scaling_some : {ch : Choice} {vs vs' : List Float} {r : ℕ} → ch ≡ Rediscretized → ScalingLeft l m m ts us ys vs vs' r → ScalingDone l ch m ts us ys vs vs' r
  scaling_some z h = rw z (record { left = λ f t. record { numbers = h.scaling f t; bad = h.bad_is f t } })

-- ---- the codes

module _ (l : FullLattice) (f : ℕ → C64) where
  sole_low : (ok : Bool) → sole_code ok ≤ 1
  sole_low true = omega arith
  sole_low false = omega arith

  pub operators_low : (ch : Choice) (m : ℕ) → operators_code l ch m f ≤ suc m
  operators_low ch zero = sole_low (all_finite (operator_numbers l ch 0 f 0))
  operators_low ch (suc m) = omega (arith, first_low (chosen_fine l ch (suc m) f) (suc m))

  pub scaling_low : (ch : Choice) (m : ℕ) → scaling_code l ch m f ≤ m
  scaling_low Galerkin m = omega arith
  scaling_low Rediscretized m = first_low (scale_fine l f) m

  sole_is : (ok : Bool) → sole_code ok ≡ code_of (cond ok (accepted 0) (refused 7 0))
  sole_is true = refl
  sole_is false = refl

  seven_code : (a : ℕ) → after_level a ≡ code_of (seven_of a)
  seven_code zero = refl
  seven_code (suc a) = refl

  pub code_is : (turned : (L : ℕ) → all_finite (forward_numbers l f L) ≡ true → all_finite (turned_numbers l f L) ≡ true) (ch : Choice) (m : ℕ)
      → fill_code m (first_of (weights_fine l f) m) (operators_code l ch m f) (scaling_code l ch m f) ≡ code_of (all_to 7 (level_fine l ch m f) (suc m))
  unfolding all_to level_fine
  code_is turned ch zero = sole_is (all_finite (operator_numbers l ch 0 f 0))
  code_is turned Galerkin (suc m) =
      ap after_level
      (lower_right (lower_of (first_of (weights_fine l f) (suc m)) (first_of (operator_fine l Galerkin (suc m) f) (suc m))) 0 refl
      ∙ first_both (weights_fine l f) (operator_fine l Galerkin (suc m) f) (suc m)
      ∙ sym (first_same (λ L. level_fine l Galerkin (suc m) f (suc L)) (λ L. weights_fine l f L && operator_fine l Galerkin (suc m) f L) (suc m) (level_galerkin l m f turned)))
      ∙ seven_code (first_of (λ L. level_fine l Galerkin (suc m) f (suc L)) (suc m))
      ∙ ap code_of (sym (seven_is (level_fine l Galerkin (suc m) f) (suc m) (level_first l m f turned Galerkin)))
  code_is turned Rediscretized (suc m) =
      ap after_level
      (ap (λ (k : ℕ). lower_of k (first_of (scale_fine l f) (suc m))) (first_both (weights_fine l f) (averaged_fine l (suc m) f) (suc m))
      ∙ first_both (λ L. weights_fine l f L && averaged_fine l (suc m) f L) (scale_fine l f) (suc m)
      ∙ sym (first_same (λ L. level_fine l Rediscretized (suc m) f (suc L)) (λ L. (weights_fine l f L && averaged_fine l (suc m) f L) && scale_fine l f L) (suc m) (level_rediscretized l m f turned)))
      ∙ seven_code (first_of (λ L. level_fine l Rediscretized (suc m) f (suc L)) (suc m))
      ∙ ap code_of (sym (seven_is (level_fine l Rediscretized (suc m) f) (suc m) (level_first l m f turned Rediscretized)))

-- what the code works out
module _ {m : ℕ} (a b c : ℕ) {bad : ℕ} (n : m ≡ 0 → ⊥) (e : bad ≡ lower_of (lower_of a b) c) where
  fill_at : (k : ℕ) → (k ≡ 0 → ⊥) → fill_code k a b c ≡ after_level (lower_of (lower_of a b) c)
  fill_at zero h = absurd (h refl)
  fill_at (suc k) h = refl

  pub code_none : bad ≡ 0 → 0 ≡ fill_code m a b c
  code_none z = sym (fill_at m n ∙ ap after_level (sym e ∙ z))

-- ---- all lists

module _ {l : FullLattice} (ch : Choice) {m : ℕ} {f : ℕ → C64} (b : Store) (limits : Limits l.grid) (small : m ≤ 11) (enough : Enough l ch m (sizes b))
    {eps : List Float} {ss cs : List ℕ} {xs : List Float} {ts us : List ℕ} {ys : List Float}
    (t : TransfersLeft l f m b.permittivities b.forward_starts b.forward_columns b.forward_values b.turned_starts b.turned_columns b.turned_values eps ss cs xs ts us ys) where
  both : (TransfersBy l f m eps ss cs xs ts us ys) × (OperatorsReady l m eps ss cs xs ts us ys)
  both = operators_ready l limits f m small (transfer_room l ch m b enough) t

  by : TransfersBy l f m eps ss cs xs ts us ys
  by = both.0

  pub ready_of : OperatorsReady l m eps ss cs xs ts us ys
  ready_of = both.1

  pub chosen_room_after : ChosenRoom l ch m eps b.operator_starts b.operator_columns b.operator_values
  chosen_room_after =
      record {
        operator_room = operator_room l ch m b enough;
        eps_room = omega (arith, enough.eps_room, ap length t.eps_are ∙ laid_numbers_length b.permittivities 0 (rows (eps_part l f) (suc m)));
      }

  pub scaling_asked_of : ScalingAsked l ch m ts us ys b.scaling
  scaling_asked_of = record { stored = turned_stored by.transfers; room = enough.scaling_room }

  module _ {eps' : List Float} {os oc : List ℕ} {ox vs : List Float} {p q s : ℕ} (pe : p ≡ first_of (weights_fine l f) m)
      (o : ChosenDone l ch m eps ss cs xs ts us ys b.operator_starts b.operator_columns b.operator_values eps' os oc ox q) (sc : ScalingDone l ch m ts us ys b.scaling vs s) where
    chosen : ChosenLeft l ch f m eps b.operator_starts b.operator_columns b.operator_values eps' os oc ox q
    chosen = o.left f by

    scaled : ScaledLeft l ch f m b.scaling vs s
    scaled = sc.left f (turned_in_lem by.transfers)

    pub codes_low : (p ≤ m) × (q ≤ suc m) × (s ≤ m) × (m ≤ 11)
    codes_low = (rw pe (first_low (weights_fine l f) m), rw chosen.bad (operators_low l f ch m), rw scaled.bad (scaling_low l f ch m), small)

    pub fill_is : {e : List ℕ} {r : ℕ} → e ≡ laid b.ends 0 (rows (ends_part l) (3 * suc m)) → r ≡ fill_code m p q s
        → filling r (lent e eps' ss cs xs ts us ys os oc ox vs) ≡ fill_of l ch m f b
    unfolding fill_of filled
    fill_is ends re =
        λ i.
        filling ((re ∙ (λ j. fill_code m (pe j) (chosen.bad j) (scaled.bad j)) ∙ code_is l f (turned_fine l f) ch m) i)
        (lent (ends i) ((chosen.averaged ∙ ap (λ (xs : List Float). laid_numbers xs (eps_off l (suc m)) (only_numbers ch (rows (averaged_part l f) m))) t.eps_are) i)
        (t.starts_are i) (t.columns_are i) (t.values_are i) (t.tstarts_are i) (t.tcolumns_are i) (t.tvalues_are i)
        (chosen.operators.starts_are i) (chosen.operators.columns_are i) (chosen.operators.values_are i) (scaled.numbers i))
