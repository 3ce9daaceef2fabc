-- Levels that are not finite, as the phases count them and as refusal 7 names them.
-- Assumes nothing.
use Prim.Native.Nat.{ℕ, zero, suc, ◌+◌, ◌<◌, ◌≤◌}
use mathlib.Core.Path.{◌≡◌, refl, sym, ap, ◌∙◌}
use mathlib.Core.Bool.{Bool, true, false, cond, ◌&&◌, and-true, and_comm}
use native.Mathlib.Omega.{arith}
use native.Mathlib.Decide.{ℕ_discrete, dec_lt}
use borrow.Author.Tests.{eq-eqb, ne_eqb, lt-ltb, le-ltb}
use Rattle.numbers.specs.declared.C64.{C64}
use Rattle.numbers.specs.Lists.{tabulate, all_finite}
use Rattle.operators.specs.LevelLists.{edges_on}
use Rattle.operators.specs.Levels.{turned_at, volumes_at}
use Rattle.operators.specs.Volumes.{shares_finite}
use Rattle.numbers.proofs.Equations.{all_finite_nil}
use Rattle.lattice.specs.Check.{Verdict, accepted, refused, and_then}
use Rattle.lattice.specs.Lattice.{FullLattice}
use Rattle.store.specs.Setup.{all_to, eps_part, averaged_part, operator_numbers, forward_numbers, turned_numbers, transfer_fine, level_fine}
use Rattle.store.specs.Phases.{noted, first_of, lower_of, weights_fine, operator_fine, averaged_fine, scale_fine}
use Rattle.store.specs.declared.Choice.{Choice}
use Rattle.store.specs.declared.Choice.TheVariants.{Galerkin, Rediscretized}

-- ---- one level noted

pub noted_fine : (a n : ℕ) (x : Bool) → a ≡ 0 → x ≡ true → 0 ≡ noted a n x
noted_fine a n x e f = rw (eq-eqb a 0 e, f) refl

pub noted_here : (a n : ℕ) (x : Bool) → a ≡ 0 → x ≡ false → n + 1 ≡ noted a n x
noted_here a n x e f = rw (eq-eqb a 0 e, f) (omega arith)

pub noted_before : (a n : ℕ) (x : Bool) → (a ≡ 0 → ⊥) → a ≡ noted a n x
noted_before a n x e = rw (ne_eqb a 0 e) refl

-- ---- the first level that is not fine, of two kinds

lower_left : (a b : ℕ) → a ≡ 0 → lower_of a b ≡ b
lower_left a b e = rw (eq-eqb a 0 e) refl

pub lower_right : (a b : ℕ) → b ≡ 0 → lower_of a b ≡ a
lower_right a b e = elim (ℕ_discrete a 0) as (λ _. lower_of a b ≡ a) [ yes z ↦ rw (eq-eqb a 0 z) (e ∙ sym z) | no z ↦ rw (ne_eqb a 0 z, eq-eqb b 0 e) refl ]

pub lower_first : (a b : ℕ) → a ≡ 0 → b ≡ lower_of a b
lower_first a b e = sym (lower_left a b e)

pub lower_second : (a b : ℕ) → (a ≡ 0 → ⊥) → b ≡ 0 → a ≡ lower_of a b
lower_second a b n e = rw (ne_eqb a 0 n, eq-eqb b 0 e) refl

pub lower_less : (a b : ℕ) → (a ≡ 0 → ⊥) → (b ≡ 0 → ⊥) → a < b → a ≡ lower_of a b
lower_less a b n k h = rw (ne_eqb a 0 n, ne_eqb b 0 k, lt-ltb a b h) refl

pub lower_more : (a b : ℕ) → (a ≡ 0 → ⊥) → (b ≡ 0 → ⊥) → b ≤ a → b ≡ lower_of a b
lower_more a b n k h = rw (ne_eqb a 0 n, ne_eqb b 0 k, le-ltb a b h) refl

noted_low : (a n : ℕ) (x : Bool) → a ≤ n → noted a n x ≤ suc n
noted_low a n x h = go (ℕ_discrete a 0) x
  where
    go : Dec (a ≡ 0) → (x : Bool) → noted a n x ≤ suc n
    go (yes z) true = rw (sym (noted_fine a n true z refl)) (omega arith)
    go (yes z) false = rw (sym (noted_here a n false z refl)) (omega arith)
    go (no z) x = rw (sym (noted_before a n x z)) (omega arith)

pub first_low : (f : ℕ → Bool) (n : ℕ) → first_of f n ≤ n
unfolding first_of
first_low f zero = omega arith
first_low f (suc n) = noted_low (first_of f n) n (f n) (first_low f n)

-- one level more
lower_noted : (a b n : ℕ) (x y : Bool) → a ≤ n → b ≤ n → lower_of (noted a n x) (noted b n y) ≡ noted (lower_of a b) n (x && y)
lower_noted a b n x y h k = go (ℕ_discrete a 0) (ℕ_discrete b 0) x y
  where
    both : (A B : ℕ) (x y : Bool) → A ≡ noted a n x → B ≡ noted b n y → lower_of A B ≡ noted (lower_of a b) n (x && y) → lower_of (noted a n x) (noted b n y) ≡ noted (lower_of a b) n (x && y)
    both A B x y p q e = (λ i. lower_of (sym p i) (sym q i)) ∙ e

    -- a level is noted already
    kept : (v : ℕ) (z : Bool) → v ≡ lower_of a b → (v ≡ 0 → ⊥) → v ≡ noted (lower_of a b) n z
    kept v z e m = e ∙ noted_before (lower_of a b) n z (λ o. m (e ∙ o))

    later : (a ≡ 0 → ⊥) → (b ≡ 0 → ⊥) → Dec (a < b) → lower_of a b ≡ 0 → ⊥
    later p q (yes z) e = p (lower_less a b p q z ∙ e)
    later p q (no z) e = q (lower_more a b p q (omega arith) ∙ e)

    go : Dec (a ≡ 0) → Dec (b ≡ 0) → (x y : Bool) → lower_of (noted a n x) (noted b n y) ≡ noted (lower_of a b) n (x && y)
    go (yes p) (yes q) true true = both 0 0 true true (noted_fine a n true p refl) (noted_fine b n true q refl) (lower_left 0 0 refl ∙ noted_fine (lower_of a b) n true (lower_left a b p ∙ q) refl)
    go (yes p) (yes q) true false = both 0 (n + 1) true false (noted_fine a n true p refl) (noted_here b n false q refl) (lower_left 0 (n + 1) refl ∙ noted_here (lower_of a b) n false (lower_left a b p ∙ q) refl)
    go (yes p) (yes q) false true = both (n + 1) 0 false true (noted_here a n false p refl) (noted_fine b n true q refl) (lower_right (n + 1) 0 refl ∙ noted_here (lower_of a b) n false (lower_left a b p ∙ q) refl)
    go (yes p) (yes q) false false =
        both (n + 1) (n + 1) false false (noted_here a n false p refl) (noted_here b n false q refl)
        (sym (lower_more (n + 1) (n + 1) (λ z. omega arith) (λ z. omega arith) (omega arith)) ∙ noted_here (lower_of a b) n false (lower_left a b p ∙ q) refl)
    go (yes p) (no q) true y = both 0 b true y (noted_fine a n true p refl) (noted_before b n y q) (lower_left 0 b refl ∙ kept b (true && y) (lower_first a b p) q)
    go (yes p) (no q) false y =
        both (n + 1) b false y (noted_here a n false p refl) (noted_before b n y q) (sym (lower_more (n + 1) b (λ z. omega arith) q (omega arith)) ∙ kept b (false && y) (lower_first a b p) q)
    go (no p) (yes q) x true = both a 0 x true (noted_before a n x p) (noted_fine b n true q refl) (lower_right a 0 refl ∙ kept a (x && true) (lower_second a b p q) p)
    go (no p) (yes q) x false =
        both a (n + 1) x false (noted_before a n x p) (noted_here b n false q refl) (sym (lower_less a (n + 1) p (λ z. omega arith) (omega arith)) ∙ kept a (x && false) (lower_second a b p q) p)
    go (no p) (no q) x y = both a b x y (noted_before a n x p) (noted_before b n y q) (noted_before (lower_of a b) n (x && y) (later p q (dec_lt a b)))

pub first_both : (f g : ℕ → Bool) (n : ℕ) → lower_of (first_of f n) (first_of g n) ≡ first_of (λ i. f i && g i) n
unfolding first_of
first_both f g zero = refl
first_both f g (suc n) = lower_noted (first_of f n) (first_of g n) n (f n) (g n) (first_low f n) (first_low g n) ∙ ap (λ (k : ℕ). noted k n (f n && g n)) (first_both f g n)

-- ---- refusal 7

-- the first level as a verdict; a level that is noted is a coarse one
abbrev pub seven_of : ℕ → Verdict
seven_of zero = accepted 0
seven_of (suc k) = refused 7 (suc k)

seven_noted : (a n : ℕ) (x : Bool) → and_then (seven_of a) (cond x (accepted 0) (refused 7 (suc n))) ≡ seven_of (noted a n x)
seven_noted zero n true = refl
seven_noted zero n false = refl
seven_noted (suc a) n x = ap seven_of (noted_before (suc a) n x (λ z. omega arith))

-- where level 0 has no number of its own
pub seven_is : (fine : ℕ → Bool) (m : ℕ) → fine 0 ≡ true → all_to 7 fine (suc m) ≡ seven_of (first_of (λ L. fine (suc L)) m)
unfolding all_to first_of
seven_is fine zero e = rw e refl
seven_is fine (suc m) e =
    ap (λ (v : Verdict). and_then v (cond (fine (suc m)) (accepted 0) (refused 7 (suc m)))) (seven_is fine m e)
    ∙ seven_noted (first_of (λ L. fine (suc L)) m) m (fine (suc m))

pub first_same : (f g : ℕ → Bool) (m : ℕ) → ((L : ℕ) → f L ≡ g L) → first_of f m ≡ first_of g m
first_same f g m h = λ i. first_of (λ L. h L i) m

-- ---- a level's numbers by phases; turned numbers are finite where the forward ones are

module _ (l : FullLattice) (m : ℕ) (f : ℕ → C64) (turned : (L : ℕ) → all_finite (forward_numbers l f L) ≡ true → all_finite (turned_numbers l f L) ≡ true) where
  -- of forward numbers a and turned numbers b
  absorbed : (a b c : Bool) → (a ≡ true → b ≡ true) → (a && (b && c)) ≡ (a && c)
  absorbed true b c h = rw (h refl) refl
  absorbed false b c h = refl

  pub level_galerkin : (L : ℕ) → level_fine l Galerkin (suc m) f (suc L) ≡ (weights_fine l f L && operator_fine l Galerkin (suc m) f L)
  unfolding level_fine transfer_fine weights_fine operator_fine
  level_galerkin L = go (all_finite (eps_part l f (suc L))) (all_finite (forward_numbers l f L)) (all_finite (turned_numbers l f L)) (all_finite (operator_numbers l Galerkin (suc m) f (suc L))) (turned L)
    where
      go : (e a b o : Bool) → (a ≡ true → b ≡ true) → ((e && (true && (a && (b && true)))) && o) ≡ ((e && a) && o)
      go false a b o h = refl
      go true a b o h = ap (λ (x : Bool). x && o) (absorbed a b true h ∙ and-true a)

  pub level_rediscretized : (L : ℕ) → level_fine l Rediscretized (suc m) f (suc L) ≡ ((weights_fine l f L && averaged_fine l (suc m) f L) && scale_fine l f L)
  unfolding level_fine transfer_fine weights_fine averaged_fine operator_fine scale_fine
  level_rediscretized L =
      go (all_finite (eps_part l f (suc L))) (all_finite (averaged_part l f L)) (all_finite (forward_numbers l f L)) (all_finite (turned_numbers l f L))
      (all_finite (tabulate (volumes_at l L) (edges_on l L) 0) && shares_finite (turned_at l f L) (volumes_at l L) (edges_on l (suc L)))
      (all_finite (operator_numbers l Rediscretized (suc m) f (suc L))) (turned L)
    where
      go : (e v a b s o : Bool) → (a ≡ true → b ≡ true) → ((e && (v && (a && (b && s)))) && o) ≡ (((e && a) && (v && o)) && s)
      go false v a b s o h = refl
      go true false false b s o h = refl
      go true false true b s o h = refl
      go true true false b s o h = refl
      go true true true b s o h = rw (h refl) (and_comm s o)

  -- level 0's operator is not stored
  pub level_first : (ch : Choice) → level_fine l ch (suc m) f 0 ≡ true
  unfolding level_fine
  level_first ch = all_finite_nil
