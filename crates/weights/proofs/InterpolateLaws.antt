-- Laws for the code of interpolation: each branch gives what the definition says.
-- Assumes nothing.
use Prim.Native.Nat.{ℕ, suc, ◌+◌, ◌*◌, ◌<◌, ◌≤◌}
use native.Mathlib.Omega.{arith}
use mathlib.Core.Path.{◌≡◌, refl, sym, ap, ◌∙◌}
use mathlib.Core.Bool.{Bool, true, false, cond, ◌&&◌}
use mathlib.Core.List.{List, [], ◌∷◌, ◌++◌, map}
use borrow.Author.Tests.{ltb-false, lt-ltb, le-ltb}
use lib.Dec.{eqb, ltb}
use lib.IntN.{pos}
use lib.Ieee.{Float, binary64, of_int}
use lib.ListN.{length, get_or, get_or-eq_default}
use Rattle.numbers.specs.declared.C64.{C64}
use Rattle.numbers.specs.Complex.{zero_f, no_number}
use Rattle.numbers.specs.Places.{number_at}
use Rattle.lattice.specs.declared.lattice.Edges.{Edges}
use Rattle.lattice.specs.declared.lattice.Edges.TheVariants.{Pml, Bloch}
use Rattle.lattice.specs.declared.neighbours.Arrival.{Arrival}
use Rattle.std.specs.Prelude.{None, Some, Option, unwrap_or, position}
use Rattle.std.specs.List.{position_or_len}
use Rattle.std.proofs.lemmas.List.Sums.{position_or_len_is}
use Rattle.numbers.specs.Lists.{tabulate}
use Rattle.numbers.specs.Lists.{before}
use Rattle.numbers.proofs.ElementLaws.{before_most, before_below, before_reached}
use Rattle.numbers.proofs.TabulateLaws.{length_tabulate, tabulate_at_0}
use Rattle.weights.specs.declared.interpolate.Rule.{Rule}
use Rattle.weights.specs.declared.interpolate.Rule.TheVariants.{Coincides, Nearest, Between, Dropped}
use Rattle.weights.specs.declared.interpolate.Share.{Share}
use Rattle.weights.specs.Interpolate.{up_to, rule_of, low_side, high_side, side_places, rule_places, taken_places, whole, coordinate, ratio_at, two_sides, rule_terms, interpolated, share_place, share_term, side_shares, rule_shares, shares_in, kept_shares}
use Rattle.weights.specs.Product.{kept_places, kept_terms}
use Rattle.weights.specs.Tables.{map_point, map_in}

-- ---- how many lie at or before p

found_or : (m n : ℕ) → m ≤ n → unwrap_or (cond (ltb m n) (Some m) None) n ≡ m
found_or m n h = go (ltb m n) refl
  where
    go : (b : Bool) → ltb m n ≡ b → unwrap_or (cond b (Some m) None) n ≡ m
    go true e = refl
    go false e = omega (arith, ltb-false m n e)

-- as many as lie before the first that lies past it
pub up_to_first : (cs : List ℕ) (p : ℕ) → unwrap_or (position (λ x. ltb p x) cs) (length cs) ≡ up_to cs p
unfolding up_to
up_to_first cs p =
    let e : position_or_len (λ x. ltb p x) cs ≡ before (suc p) cs =
    position_or_len_is (λ x. ltb p x) cs (before (suc p) cs) 0 (before_most (suc p) cs)
    (λ k h. le-ltb p (get_or cs k 0) (omega (arith, before_below (suc p) cs k h)))
    (λ h. lt-ltb p (get_or cs (before (suc p) cs) 0) (omega (arith, before_reached (suc p) cs h))) in
    rw e (found_or (before (suc p) cs) (length cs) (before_most (suc p) cs))

pub up_to_most : (cs : List ℕ) (p : ℕ) → up_to cs p ≤ length cs
unfolding up_to
up_to_most cs p = before_most (suc p) cs

-- ---- what is taken, with which share

sides_places : (low high : Option Arrival) → map share_place (side_shares low high) ≡ side_places low ++ side_places high
sides_places None None = refl
sides_places None (Some b) = refl
sides_places (Some a) None = refl
sides_places (Some a) (Some b) = refl

sides_terms : (low high : Option Arrival) (t : C64) → map (share_term t) (side_shares low high) ≡ two_sides low high t
unfolding two_sides
sides_terms None None t = refl
sides_terms None (Some b) t = refl
sides_terms (Some a) None t = refl
sides_terms (Some a) (Some b) t = refl

pub rule_places_lem : (e : Edges) (n : ℕ) (by : Rule) → map share_place (rule_shares e n by) ≡ rule_places e n by
rule_places_lem e n (Coincides m) = refl
rule_places_lem e n (Nearest m) = refl
rule_places_lem e n (Between h) = sides_places (low_side e n h) (high_side e n h)
rule_places_lem e n (Dropped h) = sides_places (low_side e n h) (high_side e n h)

pub rule_terms_lem : (e : Edges) (n : ℕ) (t : C64) (by : Rule) → map (share_term t) (rule_shares e n by) ≡ rule_terms e n t by
rule_terms_lem e n t (Coincides m) = refl
rule_terms_lem e n t (Nearest m) = refl
rule_terms_lem e n t (Between h) = sides_terms (low_side e n h) (high_side e n h) t
rule_terms_lem e n t (Dropped h) = sides_terms (low_side e n h) (high_side e n h) t

-- one share before others, left out or not
kept_one : {A : Type 0} (f : Share → A) (s : Share) (ss : List Share) {ys : List A} (out : Bool) → map f ss ≡ ys → map f (cond out ss (s ∷ ss)) ≡ cond out ys (f s ∷ ys)
kept_one f s ss true e = e
kept_one f s ss false e = ap (λ ys. f s ∷ ys) e

first_kept : (s : Share) (ss ts us : List Share) (out : Bool) → ss ≡ ts ++ us → cond out ss (s ∷ ss) ≡ cond out ts (s ∷ ts) ++ us
first_kept s ss ts us true e = e
first_kept s ss ts us false e = ap (λ ss. s ∷ ss) e

-- without place 0 where it is fixed
pub kept_places_lem : (wall : Bool) (ss : List Share) → map share_place (kept_shares wall ss) ≡ kept_places wall (map share_place ss)
unfolding kept_shares kept_places
kept_places_lem wall [] = refl
kept_places_lem wall (s ∷ ss) = kept_one share_place s (kept_shares wall ss) (wall && eqb (share_place s) 0) (kept_places_lem wall ss)

pub kept_terms_lem : (wall : Bool) (t : C64) (ss : List Share) → map (share_term t) (kept_shares wall ss) ≡ kept_terms wall (map (share_term t) ss)
unfolding kept_shares kept_terms
kept_terms_lem wall t [] = refl
kept_terms_lem wall t (s ∷ ss) = kept_one (share_term t) s (kept_shares wall ss) (wall && eqb (share_place s) 0) (kept_terms_lem wall t ss)

-- a value that is there is kept or not, before others
pub kept_append : (wall : Bool) (ss ts : List Share) → kept_shares wall (ss ++ ts) ≡ kept_shares wall ss ++ kept_shares wall ts
unfolding kept_shares
kept_append wall [] ts = refl
kept_append wall (s ∷ ss) ts = first_kept s (kept_shares wall (ss ++ ts)) (kept_shares wall ss) (kept_shares wall ts) (wall && eqb (share_place s) 0) (kept_append wall ss ts)

-- what place p takes
pub places_taken : (wall : Bool) (e : Edges) (cs : List ℕ) (along : Bool) (p : ℕ) → map share_place (kept_shares wall (shares_in e cs along p)) ≡ kept_places wall (taken_places e cs along p)
unfolding shares_in taken_places
places_taken wall e cs along p = kept_places_lem wall (rule_shares e (length cs) (rule_of e cs along p)) ∙ ap (kept_places wall) (rule_places_lem e (length cs) (rule_of e cs along p))

pub terms_taken : (wall : Bool) (e : Edges) (x : List C64) (cs : List ℕ) (period : ℕ) (along : Bool) (p : ℕ)
    → map (share_term (ratio_at e x cs period p (up_to cs p))) (kept_shares wall (shares_in e cs along p)) ≡ kept_terms wall (interpolated e x cs period along p)
unfolding shares_in interpolated
terms_taken wall e x cs period along p =
    kept_terms_lem wall (ratio_at e x cs period p (up_to cs p)) (rule_shares e (length cs) (rule_of e cs along p))
    ∙ ap (kept_terms wall) (rule_terms_lem e (length cs) (ratio_at e x cs period p (up_to cs p)) (rule_of e cs along p))

-- ---- coordinates

map_at_lem : (xs : List Float) (b p : ℕ) → p < 129 → get_or (map_in xs b) p no_number ≡ number_at xs (129 * b + p)
unfolding map_in map_point
map_at_lem xs b p h = tabulate_at_0 (map_point xs b) 129 p no_number h

map_past : (xs : List Float) (b p : ℕ) → 129 ≤ p → get_or (map_in xs b) p no_number ≡ no_number
unfolding map_in
map_past xs b p h = get_or-eq_default (tabulate (map_point xs b) 129 0) no_number (omega (arith, length_tabulate (map_point xs b) 129 0))

module _ (xs : List Float) (b p : ℕ) {e : Edges} where
  pub coordinate_in : e ≡ Pml → p < 129 → number_at xs (129 * b + p) ≡ coordinate e (map_in xs b) p
  coordinate_in q h = rw q (sym (map_at_lem xs b p h))

  pub coordinate_past : e ≡ Pml → 129 ≤ p → no_number ≡ coordinate e (map_in xs b) p
  coordinate_past q h = rw q (sym (map_past xs b p h))

pub coordinate_place : (x : List C64) (p : ℕ) {e : Edges} {phase : C64} → e ≡ Bloch phase
    → record { re = of_int binary64 (pos p); im = zero_f } ≡ coordinate e x p
unfolding whole
coordinate_place x p q = rw q
