-- Refusals 1 to 4, for a list of permittivities in which one number was set. Assumes nothing.
use Prim.Native.Nat.{ℕ, zero, suc, ◌+◌, ◌-◌, ◌*◌, ◌≤◌, ◌<◌}
use mathlib.Core.Path.{◌≡◌, refl, sym, ap, ◌∙◌}
use mathlib.Core.Logic.{⊎_elim}
use mathlib.Core.Bool.{true, false, false≢true}
use mathlib.Core.List.{List, ◌∷◌, []}
use native.Mathlib.Omega.{arith}
use native.Mathlib.Decide.{ℕ_discrete, dec_lt}
use lib.ListN.{length}
use lib.Ieee.{Float}
use Rattle.std.proofs.lemmas.Bool.{cases_Bool}
use Rattle.numbers.specs.declared.C64.{C64}
use Rattle.numbers.specs.Places.{number_at, set_number}
use Rattle.numbers.proofs.Equations.{places_is}
use Rattle.numbers.proofs.Laws.{number_same, number_other, length_set_number}
use Rattle.lattice.specs.declared.lattice.Lattice.{Lattice}
use Rattle.lattice.specs.Check.{Verdict, accepted, entry_refused, and_then, is_sound, bad_number, Given, given, stretches, check_grid, check_scalars, check_lengths, first_bad, check_entries, check_of, check_stretches}
use Rattle.lattice.specs.Grid.{unknowns_of, Limits}
use Rattle.lattice.proofs.CheckLaws.{length_good, lengths_none, entry_bad, entry_good, entries_none, bad_turn, bad_stop, bad_end, stretches_by_check, all_by_check, all_sound}
use Rattle.lattice.proofs.CheckLaws.{and_sound, and_first, and_second}

-- ---- the first bad number of a list, from place k of n on

module _ (xs : List Float) (n : ℕ) where
  all_good : ((j : ℕ) → j < n → bad_number (number_at xs j) ≡ false) → (d k : ℕ) → k + d ≡ n → first_bad xs (n - k) k ≡ n
  all_good h zero k e = bad_end xs n k (omega arith) ∙ omega arith
  all_good h (suc d) k e = bad_turn xs n k (omega arith) (h k (omega arith)) ∙ all_good h d (k + 1) (omega arith)

  some_bad : (j : ℕ) → j < n → bad_number (number_at xs j) ≡ true → (d k : ℕ) → k + d ≡ n → k ≤ j → first_bad xs (n - k) k < n
  some_bad j b h zero k e a = absurd (omega arith)
  some_bad j b h (suc d) k e a =
      ⊎_elim (λ g. omega (arith, bad_stop xs n k (omega arith) g))
      (λ g. elim (ℕ_discrete j k) as (λ _. first_bad xs (n - k) k < n) [
        | yes z ↦ absurd (false≢true (sym g ∙ (rw z at h)))
        | no z ↦ omega (arith, bad_turn xs n k (omega arith) g, some_bad j b h d (k + 1) (omega arith) (omega arith))
      ])
      (cases_Bool (bad_number (number_at xs k)))

  pub none_bad : ((j : ℕ) → j < n → bad_number (number_at xs j) ≡ false) → first_bad xs n 0 ≡ n
  none_bad h = let z : n - 0 ≡ n = omega arith in rw z at (all_good h n 0 (omega arith))

  pub one_bad : (j : ℕ) → j < n → bad_number (number_at xs j) ≡ true → first_bad xs n 0 < n
  one_bad j b h = let z : n - 0 ≡ n = omega arith in rw z at (some_bad j b h n 0 (omega arith) (omega arith))

  good_all : n ≤ first_bad xs n 0 → (j : ℕ) → j < n → bad_number (number_at xs j) ≡ false
  good_all h j b = ⊎_elim (λ e. absurd (omega (arith, one_bad j b e))) (λ e. e) (cases_Bool (bad_number (number_at xs j)))

-- ---- an accepted list, and one with a number set

module _ (v : Lattice) (xn xh yn yh zn zh eps : List Float) (ok : is_sound (check_of v xn xh yn yh zn zh eps) ≡ true) where
  abbrev n : ℕ
  n = unknowns_of v.grid

  abbrev six : List Given
  six = stretches v.grid xn xh yn yh zn zh

  abbrev head : Verdict
  head = and_then (check_grid v.grid) (check_scalars v)

  abbrev from : ℕ
  from = 2 * v.grid.nx + 2 * v.grid.ny + 2 * v.grid.nz

  abbrev last : List Float → Verdict
  last xs = check_entries from (given n xs ∷ [])

  parts : (is_sound head ≡ true) × (is_sound (check_lengths 0 six) ≡ true) × (is_sound (check_entries 0 six) ≡ true) × (is_sound (last eps) ≡ true)
  parts =
      let d = and_then (check_entries 0 six) (last eps) in
      let c = and_then (check_lengths 6 (given n eps ∷ [])) d in
      let b = and_then (check_lengths 0 six) c in
      let e : is_sound (and_then head b) ≡ true = sym (ap is_sound (all_by_check v xn xh yn yh zn zh eps)) ∙ ok in
      let x = and_second head b e in
      let y = and_second (check_lengths 6 (given n eps ∷ [])) d (and_second (check_lengths 0 six) c x) in
      (and_first head b e, and_first (check_lengths 0 six) c x, and_first (check_entries 0 six) (last eps) y, and_second (check_entries 0 six) (last eps) y)

  pub list_long : length eps ≡ 2 * n
  list_long = (all_sound v xn xh yn yh zn zh eps ok).3

  pub limits_hold : Limits v.grid
  limits_hold = (all_sound v xn xh yn yh zn zh eps ok).0

  pub stretches_pass : is_sound (check_stretches v xn xh yn yh zn zh) ≡ true
  stretches_pass =
      ap is_sound (stretches_by_check v xn xh yn yh zn zh
      ∙ and_sound head (and_then (check_lengths 0 six) (check_entries 0 six)) parts.0 ∙ and_sound (check_lengths 0 six) (check_entries 0 six) parts.1)
      ∙ parts.2

  entries_good : (j : ℕ) → j < n → bad_number (number_at eps j) ≡ false
  entries_good =
      good_all eps n
      (elim (dec_lt (first_bad eps n 0) n) as (λ _. n ≤ first_bad eps n 0) [
        | yes b ↦ absurd (false≢true (sym (ap is_sound (entry_bad from n eps [] (first_bad eps n 0) refl b)) ∙ parts.3))
        | no b ↦ omega arith
      ])

  module _ (e : ℕ) (x : C64) (h : e < n) where
    abbrev copy : List Float
    copy = set_number eps e x

    -- all checks but the last pass as before
    copy_check : check_of v xn xh yn yh zn zh copy ≡ last copy
    copy_check =
        let len : check_lengths 6 (given n copy ∷ []) ≡ accepted 0 = length_good 6 n copy [] (length_set_number eps e x ∙ list_long) ∙ lengths_none 7 in
        let d = and_then (check_entries 0 six) (last copy) in
        let c = and_then (check_lengths 6 (given n copy ∷ [])) d in
        all_by_check v xn xh yn yh zn zh copy
        ∙ and_sound head (and_then (check_lengths 0 six) c) parts.0
        ∙ and_sound (check_lengths 0 six) c parts.1
        ∙ and_sound (check_lengths 6 (given n copy ∷ [])) d (ap is_sound len)
        ∙ and_sound (check_entries 0 six) (last copy) parts.2

    set_at : number_at copy e ≡ x
    set_at = number_same eps e x (omega (arith, places_is eps, list_long))

    pub copy_good : bad_number x ≡ false → is_sound (check_of v xn xh yn yh zn zh copy) ≡ true
    copy_good g =
        let good : (j : ℕ) → j < n → bad_number (number_at copy j) ≡ false =
        λ j b. elim (ℕ_discrete j e) as (λ _. bad_number (number_at copy j) ≡ false) [
          | yes z ↦ ap bad_number (ap (number_at copy) z ∙ set_at) ∙ g
          | no z ↦ ap bad_number (number_other eps e j x z) ∙ entries_good j b
        ] in
        let f = none_bad copy n good in
        ap is_sound (copy_check ∙ entry_good from n copy [] (first_bad copy n 0) refl (omega arith) ∙ entries_none (from + n))

    pub copy_bad : bad_number x ≡ true → (p : ℕ) × (check_of v xn xh yn yh zn zh copy ≡ entry_refused p)
    copy_bad g = (from + first_bad copy n 0, copy_check ∙ entry_bad from n copy [] (first_bad copy n 0) refl (one_bad copy n e h (ap bad_number set_at ∙ g)))
