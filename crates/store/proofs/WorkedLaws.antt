-- Rows worked out anew: none, one, some behind others; and a whole change. Over any store of places.
-- Assumes nothing.
use Prim.Native.Nat.{ℕ, suc}
use mathlib.Core.Path.{◌≡◌, refl, sym, ap, ◌∙◌}
use mathlib.Core.Logic.{inl, inr}
use mathlib.Core.List.{List, [], ◌∷◌, ◌++◌}
use mathlib.Core.Option.{Option, none, some}
use mathlib.Core.Bool.{true, false}
use native.Mathlib.Omega.{arith}
use Rattle.numbers.specs.Lists.{In}
use Rattle.store.specs.Space.{Space, Look, Lawful, puts}
use Rattle.store.specs.Plan.{Rules, step, run, row_fine, first_bad, Stands}
use Rattle.store.specs.Book.{Outcome, outcome, settle}
use Rattle.store.specs.Worked.{code, answer_by, Worked, Tried}
use Rattle.store.proofs.PlaceLaws.{puts_is, puts_shape, puts_out, puts_back}
use Rattle.store.proofs.PlanWork.{run_append, first_append, or_else}

code_none : (o : Option ℕ) → code o ≡ 0 → o ≡ none
code_none none e = refl
code_none (some l) e = absurd (omega (arith, e))

code_else : (o p : Option ℕ) → (code o ≡ 0 → ⊥) → code (or_else o p) ≡ code o
code_else none p h = absurd (h refl)
code_else (some l) p h = refl

module _ {X : Space} (R : Rules X) (W : Lawful X) where
  pub worked_none : (s : X.S) → Worked R [] s 0 s
  unfolding first_bad run
  worked_none s = record { told = refl; done = λ _. refl; shaped = refl; kept = λ p h. refl }

  -- one row: b says whether its numbers are finite
  pub worked_row : (r : R.Row) (s t : X.S) → t ≡ step R s r → row_fine R s r ≡ true → Worked R (r ∷ []) s 0 t
  unfolding first_bad run
  worked_row r s t e f =
      record {
        told = rw f refl;
        done = λ _. e;
        shaped = rw e (puts_shape X W s (R.writes r) (R.calc (X.get s) r));
        kept = λ p h. rw e (puts_out X W s (R.writes r) (R.calc (X.get s) r) p (λ i. h (inl i)));
      }

  pub worked_bad : (r : R.Row) (s t : X.S) → t ≡ step R s r → row_fine R s r ≡ false → Worked R (r ∷ []) s (suc (R.level r)) t
  unfolding first_bad run
  worked_bad r s t e f =
      record {
        told = rw f refl;
        done = λ y. absurd (omega (arith, y));
        shaped = rw e (puts_shape X W s (R.writes r) (R.calc (X.get s) r));
        kept = λ p h. rw e (puts_out X W s (R.writes r) (R.calc (X.get s) r) p (λ i. h (inl i)));
      }

  stands_left : (ps qs : List R.Row) (p : X.P) → Stands R p ps → Stands R p (ps ++ qs)
  stands_left [] qs p i = absurd i
  stands_left (r ∷ ps) qs p (inl i) = inl i
  stands_left (r ∷ ps) qs p (inr i) = inr (stands_left ps qs p i)

  stands_right : (ps qs : List R.Row) (p : X.P) → Stands R p qs → Stands R p (ps ++ qs)
  stands_right [] qs p i = i
  stands_right (r ∷ ps) qs p i = inr (stands_right ps qs p i)

  -- rows behind others, all of which are finite
  pub worked_then : (ps qs : List R.Row) (s t u : X.S) (n : ℕ) → Worked R ps s 0 t → Worked R qs t n u → Worked R (ps ++ qs) s n u
  worked_then ps qs s t u n a b =
      let e : t ≡ run R ps s = a.done refl in
      let z : first_bad R ps s ≡ none = code_none (first_bad R ps s) (sym a.told) in
      record {
        told = b.told ∙ rw (first_append R ps qs s, z, sym e) refl;
        done = λ y. b.done y ∙ ap (run R qs) e ∙ sym (run_append R ps qs s);
        shaped = b.shaped ∙ a.shaped;
        kept = λ p h. b.kept p (λ i. h (stands_right ps qs p i)) ∙ a.kept p (λ i. h (stands_left ps qs p i));
      }

  -- rows that were not come to
  pub worked_stop : (ps qs : List R.Row) (s t : X.S) (n : ℕ) → (n ≡ 0 → ⊥) → Worked R ps s n t → Worked R (ps ++ qs) s n t
  worked_stop ps qs s t n k a =
      record {
        told = a.told ∙ sym (ap code (first_append R ps qs s) ∙ code_else (first_bad R ps s) (first_bad R qs (run R ps s)) (λ y. k (a.told ∙ y)));
        done = λ y. absurd (k y);
        shaped = a.shaped;
        kept = λ p h. a.kept p (λ i. h (stands_left ps qs p i));
      }

  -- all places of the rows put back
  pub worked_back : (rs : List R.Row) (s t : X.S) (n : ℕ) (ps : List X.P) → ((p : X.P) → Stands R p rs → In p ps) → Worked R rs s n t → puts X t ps (X.get s) ≡ s
  worked_back rs s t n ps sub a = sym (puts_is X W t s ps (X.get s) (sym a.shaped) (λ p i. refl) (λ p i. sym (a.kept p (λ j. i (sub p j)))))

  -- a whole change: the edit first, the rows over the edited store, and the edit taken back where a number is not finite
  pub tried_change : {Why : Type 0} (rs : List R.Row) (s : X.S) (ps : List X.P) (g : Look X) (n : ℕ) (t u : X.S) → Tried R rs (puts X s ps g) n t
      → (n ≡ 0 → u ≡ t) → ((n ≡ 0 → ⊥) → u ≡ puts X t ps (X.get s))
      → ◌≡◌ {A = Outcome X Why} (outcome (answer_by n) u) (settle (first_bad R rs (puts X s ps g)) (run R rs (puts X s ps g)) s)
  tried_change {Why} rs s ps g n t u h kept undone = by (first_bad R rs (puts X s ps g)) h.told
    where
      by : (o : Option ℕ) → n ≡ code o → ◌≡◌ {A = Outcome X Why} (outcome (answer_by n) u) (settle o (run R rs (puts X s ps g)) s)
      by none e = let a : u ≡ run R rs (puts X s ps g) = kept e ∙ h.done e in λ i. outcome {X = X} {Why = Why} (answer_by (e i)) (a i)
      by (some l) e =
          let k : n ≡ 0 → ⊥ = λ z. omega arith in
          let b : t ≡ puts X s ps g = h.back k in
          let a : u ≡ s = undone k ∙ ap (λ (v : X.S). puts X v ps (X.get s)) b ∙ puts_back X W s ps g in
          λ i. outcome {X = X} {Why = Why} (answer_by (e i)) (a i)
