-- The flagged rows of a part worked out anew by a loop over all rows of it: none yet, a row that is not flagged, one that is, and the stop at one that is not finite.
-- Assumes nothing.
use Prim.Native.Nat.{ℕ, zero, suc, ◌+◌, ◌-◌, ◌*◌, ◌/◌, ◌%◌, ◌≤◌, ◌<◌}
use mathlib.Core.Path.{◌≡◌, refl, sym, ap, subst, ◌∙◌}
use mathlib.Core.Logic.{⊎_elim}
use mathlib.Core.List.{List, [], ◌∷◌, ◌++◌, append_assoc, append-nil}
use mathlib.Core.Bool.{Bool, true, false, cond, ◌&&◌, false≢true, and-true}
use native.Mathlib.Omega.{arith}
use lib.ListN.{length}
use lib.Ieee.{Float}
use Rattle.std.proofs.lemmas.Bool.{cases_Bool}
use Rattle.numbers.specs.declared.C64.{C64}
use Rattle.numbers.specs.Complex.{finite}
use Rattle.numbers.specs.Places.{set_number}
use Rattle.numbers.specs.Lists.{laid_numbers, all_finite}
use Rattle.numbers.proofs.Equations.{laid_by_nil, laid_by_cons, all_finite_nil, all_finite_cons}
use Rattle.lattice.specs.Lattice.{FullLattice}
use Rattle.store.specs.Places.{get}
use Rattle.store.specs.Rows.{Row, kind_of, from, count, numbers, level, rules}
use Rattle.store.specs.Work.{list_of, with_list, Structured}
use Rattle.store.specs.Renewed.{Fixed, Five, store_of, Renewed}
use Rattle.store.specs.Flagged.{RowRenewed, RowTaken}
use Rattle.store.specs.Parts.{row_by, size_by, part_size, part_row, part_off, flag_at, flagged_to, flagged_part}
use Rattle.store.specs.declared.Choice.{Choice}
use Rattle.store.proofs.SpaceLaws.{lawful}
use Rattle.store.proofs.WorkLaws.{step_laid, row_fine_lem}
use Rattle.store.proofs.WorkedLaws.{worked_none, worked_row, worked_bad, worked_then, worked_stop}

-- ---- the rows of a part by its kind

pub part_row_lem : (L k i : ℕ) → k < 7 → part_row (suc (7 * L + k)) i ≡ row_by k L i
unfolding part_row
part_row_lem L k i h =
    let a : (7 * L + k) % 7 ≡ k = omega arith in
    let b : (7 * L + k) / 7 ≡ L = omega arith in
    rw (a, b) refl

pub part_size_lem : (l : FullLattice) (ch : Choice) (m L k : ℕ) → k < 7 → part_size l ch m (suc (7 * L + k)) ≡ size_by l ch k L
unfolding part_size
part_size_lem l ch m L k h =
    let a : (7 * L + k) % 7 ≡ k = omega arith in
    let b : (7 * L + k) / 7 ≡ L = omega arith in
    rw (a, b) refl

-- ---- flagged rows, one more

flagged_same : (f g : ℕ → Row) (flags : List ℕ) (base n : ℕ) → ((i : ℕ) → f i ≡ g i) → flagged_to f flags base n ≡ flagged_to g flags base n
unfolding flagged_to
flagged_same f g flags base zero h = refl
flagged_same f g flags base (suc n) h = λ i. flagged_same f g flags base n h i ++ cond (flag_at flags (base + n)) (h n i ∷ []) []

pub part_is : (l : FullLattice) (ch : Choice) (m : ℕ) (flags : List ℕ) (base L k : ℕ) → k < 7 → base ≡ part_off l ch m (suc (7 * L + k))
    → flagged_to (row_by k L) flags base (size_by l ch k L) ≡ flagged_part l ch m flags (suc (7 * L + k))
part_is l ch m flags base L k h e =
    rw (← e, part_size_lem l ch m L k h) (sym (flagged_same (part_row (suc (7 * L + k))) (row_by k L) flags base (size_by l ch k L) (λ i. part_row_lem L k i h)))

module _ (row : ℕ → Row) (flags : List ℕ) (base : ℕ) where
  flagged_no : (i : ℕ) → flag_at flags (base + i) ≡ false → flagged_to row flags base (suc i) ≡ flagged_to row flags base i
  unfolding flagged_to
  flagged_no i e = rw e (append-nil (flagged_to row flags base i))

  flagged_yes : (i : ℕ) → flag_at flags (base + i) ≡ true → flagged_to row flags base (suc i) ≡ flagged_to row flags base i ++ (row i ∷ [])
  unfolding flagged_to
  flagged_yes i e = rw e refl

  -- the rows from row i on
  unfoldable rest : ℕ → ℕ → List Row
  rest i zero = []
  rest i (suc n) = rest i n ++ cond (flag_at flags (base + (i + n))) (row (i + n) ∷ []) []

  flagged_rest : (i n : ℕ) → flagged_to row flags base (i + n) ≡ flagged_to row flags base i ++ rest i n
  unfolding flagged_to rest
  flagged_rest i zero = let z : i + 0 ≡ i = omega arith in rw z (sym (append-nil (flagged_to row flags base i)))
  flagged_rest i (suc n) =
      let z : i + suc n ≡ suc (i + n) = omega arith in
      rw (z, flagged_rest i n) (append_assoc (flagged_to row flags base i) (rest i n) (cond (flag_at flags (base + (i + n))) (row (i + n) ∷ []) []))

-- ---- one row

-- one number laid is a number set, and all of one are finite if it is
pub number_laid : (xs : List Float) (k : ℕ) (v : C64) → set_number xs k v ≡ laid_numbers xs k (v ∷ [])
number_laid xs k v = sym (laid_by_cons set_number xs k v [] ∙ laid_by_nil set_number (set_number xs k v) (suc k))

pub number_finite : (v : C64) → finite v ≡ all_finite (v ∷ [])
number_finite v = sym (all_finite_cons v [] ∙ ap (λ (b : Bool). finite v && b) all_finite_nil ∙ and-true (finite v))

-- the numbers vs that its rule gives, laid over its list
pub row_renewed : (l : FullLattice) (ch : Choice) (m : ℕ) (x : Fixed) (r : Row) (v u : Five) (b : Bool) (vs : List C64)
    → ((ends : List ℕ) → Structured l ch m (store_of ends x v) → numbers l ch m (get (store_of ends x v)) r ≡ vs)
    → ((ends : List ℕ) → store_of ends x u ≡ with_list (store_of ends x v) (kind_of l ch m r) (laid_numbers (list_of (store_of ends x v) (kind_of l ch m r)) (from l ch m r) vs))
    → ((ends : List ℕ) → 2 * (from l ch m r + count l ch m r) ≤ length (list_of (store_of ends x v) (kind_of l ch m r)))
    → b ≡ all_finite vs → RowRenewed l ch m x r v b u
row_renewed l ch m x r v u b vs are laid_at room fine_is =
    record {
      stepped = λ ends w.
          let s = store_of ends x v in
          laid_at ends
          ∙ ap (λ (ns : List C64). with_list s (kind_of l ch m r) (laid_numbers (list_of s (kind_of l ch m r)) (from l ch m r) ns)) (sym (are ends w))
          ∙ step_laid l ch m s r (room ends);
      tested = λ ends w. fine_is ∙ ap all_finite (sym (are ends w)) ∙ sym (row_fine_lem l ch m (store_of ends x v) r);
    }

-- what stands in the lists of words does not turn on the numbers
pub structured_with : (l : FullLattice) (ch : Choice) (m : ℕ) (ends : List ℕ) (x : Fixed) (v u : Five) → Structured l ch m (store_of ends x v) → Structured l ch m (store_of ends x u)
structured_with l ch m ends x v u w = record { ends_are = w.ends_are; forward_are = w.forward_are; turned_are = w.turned_are; operator_are = w.operator_are }

-- ---- THE LOOP over the rows of a part: v is what it began with, u what stands there after the first i rows

module _ (l : FullLattice) (ch : Choice) (m : ℕ) (x : Fixed) (row : ℕ → Row) (flags : List ℕ) (base : ℕ) where
  pub renewed_none : (v : Five) → Renewed l ch m x (flagged_to row flags base 0) v 0 v
  unfolding flagged_to
  renewed_none v = record { worked = λ ends w. worked_none (rules l ch m) lawful (store_of ends x v) }

  -- row i is not flagged
  pub renewed_skip : (i : ℕ) (v u : Five) → flag_at flags (base + i) ≡ false → Renewed l ch m x (flagged_to row flags base i) v 0 u → Renewed l ch m x (flagged_to row flags base (suc i)) v 0 u
  renewed_skip i v u e a = rw (flagged_no row flags base i e) a

  -- row i is flagged, and finite
  pub renewed_row : (i : ℕ) (v u t : Five) → flag_at flags (base + i) ≡ true → Renewed l ch m x (flagged_to row flags base i) v 0 u → RowRenewed l ch m x (row i) u true t
      → Renewed l ch m x (flagged_to row flags base (suc i)) v 0 t
  renewed_row i v u t e a b =
      rw (flagged_yes row flags base i e)
      (record {
        worked = λ ends w. let z = structured_with l ch m ends x v u w in
            worked_then (rules l ch m) lawful (flagged_to row flags base i) (row i ∷ []) (store_of ends x v) (store_of ends x u) (store_of ends x t) 0 (a.worked ends w)
            (worked_row (rules l ch m) lawful (row i) (store_of ends x u) (store_of ends x t) (b.stepped ends z) (sym (b.tested ends z)));
      })

  -- row i of n is flagged, and not finite: the rows behind it are not come to
  pub renewed_bad : (i n c : ℕ) (v u t : Five) → i < n → c ≡ suc (level l ch m (row i)) → flag_at flags (base + i) ≡ true → Renewed l ch m x (flagged_to row flags base i) v 0 u
      → RowRenewed l ch m x (row i) u false t → Renewed l ch m x (flagged_to row flags base n) v c t
  renewed_bad i n c v u t h k e a b =
      let z : n ≡ suc i + (n - suc i) = omega arith in
      rw k (subst (λ (rs : List Row). Renewed l ch m x rs v (suc (level l ch m (row i))) t)
      (sym (ap (flagged_to row flags base) z ∙ flagged_rest row flags base (suc i) (n - suc i) ∙ ap (λ (rs : List Row). rs ++ rest row flags base (suc i) (n - suc i)) (flagged_yes row flags base i e)))
      (record {
        worked = λ ends w. let y = structured_with l ch m ends x v u w in
            worked_stop (rules l ch m) lawful (flagged_to row flags base i ++ (row i ∷ [])) (rest row flags base (suc i) (n - suc i)) (store_of ends x v) (store_of ends x t) (suc (level l ch m (row i)))
            (λ q. omega (arith, q))
            (worked_then (rules l ch m) lawful (flagged_to row flags base i) (row i ∷ []) (store_of ends x v) (store_of ends x u) (store_of ends x t) (suc (level l ch m (row i))) (a.worked ends w)
            (worked_bad (rules l ch m) lawful (row i) (store_of ends x u) (store_of ends x t) (b.stepped ends y) (sym (b.tested ends y))));
      }))

  -- row i, if it is flagged
  pub renewed_go : (i : ℕ) (v u t : Five) → Renewed l ch m x (flagged_to row flags base i) v 0 u → RowTaken l ch m x flags (base + i) (row i) u true t
      → Renewed l ch m x (flagged_to row flags base (suc i)) v 0 t
  renewed_go i v u t a b =
      ⊎_elim
      (λ e. renewed_row i v u t e a (b.taken e))
      (λ e. renewed_skip i v t e (subst (λ (z : Five). Renewed l ch m x (flagged_to row flags base i) v 0 z) (sym (b.left e).1) a))
      (cases_Bool (flag_at flags (base + i)))

  pub renewed_stop : (i n c : ℕ) (v u t : Five) → i < n → c ≡ suc (level l ch m (row i)) → Renewed l ch m x (flagged_to row flags base i) v 0 u
      → RowTaken l ch m x flags (base + i) (row i) u false t → Renewed l ch m x (flagged_to row flags base n) v c t
  renewed_stop i n c v u t h k a b =
      ⊎_elim (λ e. renewed_bad i n c v u t h k e a (b.taken e)) (λ e. absurd (false≢true (b.left e).0)) (cases_Bool (flag_at flags (base + i)))
