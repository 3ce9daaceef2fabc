-- The checks of the setup's input: one check behind another, each way through a check, the checks of lists one behind the other, and what a
-- sound answer tells.
-- Assumes nothing.
use Prim.Native.Nat.{ℕ, zero, suc, ◌+◌, ◌-◌, ◌*◌, ◌<◌, ◌≤◌}
use mathlib.Core.Path.{◌≡◌, refl, sym, ◌∙◌, ap}
use mathlib.Core.Bool.{Bool, true, false, not, cond, false≢true}
use mathlib.Core.List.{List, [], ◌∷◌, ◌++◌}
use native.Mathlib.Omega.{arith}
use native.Mathlib.Decide.{dec_lt}
use native.Mathlib.Numerals.{add-one}
use native.Mathlib.Nat.{add-zero}
use borrow.Author.Tests.{eqb-true, eqb-false, ltb-false, eq-eqb, ne_eqb, lt-ltb, le-ltb}
use lib.Dec.{eqb, ltb}
use lib.ListN.{length, drop}
use lib.Ieee.{Float}
use Rattle.numbers.specs.Complex.{finite_double}
use Rattle.numbers.specs.Places.{number_at}
use Rattle.lattice.specs.Grid.{Limits, unknowns_of}
use Rattle.lattice.specs.Lattice.{Lengths}
use Rattle.lattice.specs.Check.{Verdict, accepted, refused, grid_refused, scalar_refused, length_refused, entry_refused, refusal_of, verdict_of, is_sound, and_then, bad_cells, check_grid, bad_length, bad_phase, check_scalars, bad_number, Given, given, stretches, check_lengths, first_bad, or_count, check_entries, check_all, check_of, check_stretches}
use Rattle.lattice.specs.declared.grid.Grid3d.{Grid3d}
use Rattle.lattice.specs.declared.lattice.Lattice.{Lattice}
use Rattle.lattice.specs.declared.check.Refusal.{Refusal}
use Rattle.lattice.specs.declared.check.Refusal.TheVariants.{Cells, Scalar, Length, Entry}
use Rattle.std.specs.Option.{MatchOption, IfSome}
use Rattle.std.specs.Prelude.{⊤, Option, None, Some, Result, Ok, Err}
use Rattle.std.proofs.lemmas.Bool.{or_parts}

-- ---- one check behind another

pub and_sound : (c d : Verdict) → is_sound c ≡ true → and_then c d ≡ d
and_sound (accepted n) d e = refl
and_sound (refused number place) d e = absurd (false≢true e)

pub and_first : (c d : Verdict) → is_sound (and_then c d) ≡ true → is_sound c ≡ true
and_first (accepted n) d e = refl
and_first (refused number place) d e = e

pub and_second : (c d : Verdict) → is_sound (and_then c d) ≡ true → is_sound d ≡ true
and_second c d e = rw (and_sound c d (and_first c d e)) at e

and_assoc : (c d e : Verdict) → and_then (and_then c d) e ≡ and_then c (and_then d e)
and_assoc (accepted n) d e = refl
and_assoc (refused number place) d e = refl

-- no check is asked behind a refusal
pub refused_on : (f : Refusal) (d : Verdict) → and_then (refusal_of f) d ≡ refusal_of f
refused_on (Cells place) d = refl
refused_on (Scalar place) d = refl
refused_on (Length place) d = refl
refused_on (Entry place) d = refl

pub refused_unsound : (f : Refusal) → is_sound (refusal_of f) ≡ false
refused_unsound (Cells place) = refl
refused_unsound (Scalar place) = refl
refused_unsound (Length place) = refl
refused_unsound (Entry place) = refl

-- in code, where a check's answer means x: a refusal is handed on, and else the next check decides
module _ {x : Verdict} where
  pub told : accepted 0 ≡ x → is_sound x ≡ true
  told e = ap is_sound (sym e)

  pub hands_on : (d : Verdict) (f : Refusal) → refusal_of f ≡ x → refusal_of f ≡ and_then x d
  hands_on d f e = sym (refused_on f d) ∙ ap (λ v. and_then v d) e

  pub goes_on : (d : Verdict) → accepted 0 ≡ x → and_then x d ≡ d
  goes_on d e = and_sound x d (told e)

-- ---- an answer is known by what it means

-- the refusal of a number and a place, and the answer that means a verdict
abbrev pub refusal_in : ℕ → ℕ → Refusal
refusal_in number place =
    cond (eqb number 1) (Cells place) (cond (eqb number 2) (Scalar place) (cond (eqb number 3) (Length place) (Entry place)))

abbrev pub checked_of : Verdict → Result ⊤ Refusal
checked_of (accepted n) = Ok tt
checked_of (refused number place) = Err (refusal_in number place)

checked_back : (c : Result ⊤ Refusal) → checked_of (verdict_of c) ≡ c
checked_back (Ok u) = refl
checked_back (Err (Cells place)) = refl
checked_back (Err (Scalar place)) = refl
checked_back (Err (Length place)) = refl
checked_back (Err (Entry place)) = refl

pub verdict_of_one : (c d : Result ⊤ Refusal) → verdict_of c ≡ verdict_of d → c ≡ d
verdict_of_one c d e = sym (checked_back c) ∙ (ap checked_of e ∙ checked_back d)

-- ---- the grid

pub cells_told : (n : ℕ) → bad_cells n ≡ false → (0 < n) × (n ≤ 64)
unfolding bad_cells
cells_told n e =
    let ne = eqb-false n 0 ((or_parts (eqb n 0) (ltb 64 n) e).0) in
    let h = ltb-false 64 n ((or_parts (eqb n 0) (ltb 64 n) e).1) in
    (omega arith, h)

-- a test that leads to a refusal was not met where the answer is sound
cond_sound : (b : Bool) (d c : Verdict) → is_sound d ≡ false → is_sound (cond b d c) ≡ true → (b ≡ false) × (is_sound c ≡ true)
cond_sound true d c h e = absurd (let z : true ≡ false = sym e ∙ h in let o : ◌≡◌ {A = ℕ} 0 1 = cc in omega arith)
cond_sound false d c h e = (refl, e)

pub limits_are : (g : Grid3d) → is_sound (check_grid g) ≡ true → Limits g
unfolding check_grid
limits_are g e =
    let d = cond (ltb 4096 (g.nx * g.ny * g.nz)) (grid_refused 3) (accepted 0) in
    let p = cond_sound (bad_cells g.nx) (grid_refused 0) (cond (bad_cells g.ny) (grid_refused 1) (cond (bad_cells g.nz) (grid_refused 2) d)) refl e in
    let q = cond_sound (bad_cells g.ny) (grid_refused 1) (cond (bad_cells g.nz) (grid_refused 2) d) refl p.1 in
    let r = cond_sound (bad_cells g.nz) (grid_refused 2) d refl q.1 in
    let s = cond_sound (ltb 4096 (g.nx * g.ny * g.nz)) (grid_refused 3) (accepted 0) refl r.1 in
    let x = cells_told g.nx p.0 in
    let y = cells_told g.ny q.0 in
    let z = cells_told g.nz r.0 in
    record {
      x_some = x.0;
      x_most = x.1;
      y_some = y.0;
      y_most = y.1;
      z_some = z.0;
      z_most = z.1;
      total = ltb-false 4096 (g.nx * g.ny * g.nz) s.0;
    }

-- ---- the scalars

-- tests, one behind the other: the first that is met refuses at its number
unfoldable pub first_met : ℕ → List Bool → Verdict
first_met i [] = accepted 0
first_met i (b ∷ bs) = cond b (scalar_refused i) (first_met (suc i) bs)

module _ (i : ℕ) (b : Bool) (bs : List Bool) where
  pub test_met : b ≡ true → first_met i (b ∷ bs) ≡ scalar_refused i
  unfolding first_met
  test_met e = rw e

  pub test_passed : b ≡ false → first_met i (b ∷ bs) ≡ first_met (suc i) bs
  unfolding first_met
  test_passed e = rw e

abbrev pub scalar_tests : Lattice → List Bool
scalar_tests v =
    bad_length v.grid.dx ∷ (bad_length v.grid.dy ∷ (bad_length v.grid.dz ∷ (bad_length v.k0 ∷ (not (finite_double v.shift)
    ∷ (bad_phase v.x ∷ (bad_phase v.y ∷ (bad_phase v.z ∷ [])))))))

-- the first i tests are passed
abbrev pub Passed : ℕ → Lattice → Type 0
Passed i v = check_scalars v ≡ first_met i (drop i (scalar_tests v))

pub scalars_by_test : (v : Lattice) → Passed 0 v
unfolding check_scalars first_met
scalars_by_test v = refl

-- ---- lengths of lists

module _ (i n : ℕ) (xs : List Float) (vs : List Given) where
  pub length_bad : (length xs ≡ 2 * n → ⊥) → check_lengths i (given n xs ∷ vs) ≡ length_refused i
  unfolding check_lengths
  length_bad h = rw (ne_eqb (length xs) (2 * n) h)

  pub length_good : length xs ≡ 2 * n → check_lengths i (given n xs ∷ vs) ≡ check_lengths (i + 1) vs
  unfolding check_lengths
  length_good h = rw (eq-eqb (length xs) (2 * n) h, add-one i)

  pub length_told : is_sound (check_lengths i (given n xs ∷ vs)) ≡ true → (length xs ≡ 2 * n) × (is_sound (check_lengths (i + 1) vs) ≡ true)
  unfolding check_lengths
  length_told e = go (eqb (length xs) (2 * n)) refl e
    where
      go : (b : Bool) → eqb (length xs) (2 * n) ≡ b → is_sound (cond b (check_lengths (suc i) vs) (length_refused i)) ≡ true
          → (length xs ≡ 2 * n) × (is_sound (check_lengths (i + 1) vs) ≡ true)
      go true q e = (eqb-true (length xs) (2 * n) q, rw (add-one i) e)
      go false q e = absurd (let o : ◌≡◌ {A = ℕ} 0 1 = cc in omega arith)

pub lengths_none : (i : ℕ) → check_lengths i [] ≡ accepted 0
unfolding check_lengths
lengths_none i = refl

pub lengths_append : (i : ℕ) (vs ws : List Given)
    → check_lengths i (vs ++ ws) ≡ and_then (check_lengths i vs) (check_lengths (i + length vs) ws)
unfolding check_lengths
lengths_append i [] ws = rw (add-zero i)
lengths_append i (v ∷ vs) ws =
    let e : suc i + length vs ≡ i + suc (length vs) = omega arith in
    rw (lengths_append (suc i) vs ws, e) (go (eqb (length v.list) (2 * v.count)))
  where
    go : (b : Bool)
        → cond b (and_then (check_lengths (suc i) vs) (check_lengths (i + suc (length vs)) ws)) (length_refused i)
        ≡ and_then (cond b (check_lengths (suc i) vs) (length_refused i)) (check_lengths (i + suc (length vs)) ws)
    go true = refl
    go false = refl

-- ---- entries of lists

-- the numbers that lists must have
unfoldable pub counts : List Given → ℕ
counts [] = 0
counts (v ∷ vs) = v.count + counts vs

module _ (position n : ℕ) (xs : List Float) (vs : List Given) (k : ℕ) (found : k ≡ first_bad xs n 0) where
  pub entry_bad : k < n → check_entries position (given n xs ∷ vs) ≡ entry_refused (position + k)
  unfolding check_entries
  entry_bad h = rw (← found, lt-ltb k n h)

  pub entry_good : n ≤ k → check_entries position (given n xs ∷ vs) ≡ check_entries (position + n) vs
  unfolding check_entries
  entry_good h = rw (← found, le-ltb k n h)

pub entries_none : (position : ℕ) → check_entries position [] ≡ accepted 0
unfolding check_entries
entries_none position = refl

pub entries_append : (position : ℕ) (vs ws : List Given)
    → check_entries position (vs ++ ws) ≡ and_then (check_entries position vs) (check_entries (position + counts vs) ws)
unfolding check_entries counts
entries_append position [] ws = rw (add-zero position)
entries_append position (v ∷ vs) ws =
    let e : position + v.count + counts vs ≡ position + (v.count + counts vs) = omega arith in
    rw (entries_append (position + v.count) vs ws, e) (go (ltb (first_bad v.list v.count 0) v.count))
  where
    go : (b : Bool)
        → cond b (entry_refused (position + first_bad v.list v.count 0)) (and_then (check_entries (position + v.count) vs) (check_entries (position + (v.count + counts vs)) ws))
        ≡ and_then (cond b (entry_refused (position + first_bad v.list v.count 0)) (check_entries (position + v.count) vs)) (check_entries (position + (v.count + counts vs)) ws)
    go true = refl
    go false = refl

-- the first bad number of those from place k on, by the next number
module _ (xs : List Float) (n k : ℕ) where
  pub bad_turn : k < n → bad_number (number_at xs k) ≡ false → first_bad xs (n - k) k ≡ first_bad xs (n - (k + 1)) (k + 1)
  unfolding first_bad
  bad_turn h t =
      let e : n - k ≡ suc (n - (k + 1)) = omega arith in
      rw (e, t, add-one k)

  pub bad_stop : k < n → bad_number (number_at xs k) ≡ true → first_bad xs (n - k) k ≡ k
  unfolding first_bad
  bad_stop h t =
      let e : n - k ≡ suc (n - (k + 1)) = omega arith in
      rw (e, t)

  pub bad_end : n ≤ k → first_bad xs (n - k) k ≡ k
  unfolding first_bad
  bad_end h =
      let e : n - k ≡ 0 = omega arith in
      rw e

-- the first bad number, where it is known, and where there is none: of those from place k on
bad_from : (xs : List Float) (n k i : ℕ) → k ≤ i → i ≤ k + n → ((j : ℕ) → k ≤ j → j < i → bad_number (number_at xs j) ≡ false) → (i < k + n → bad_number (number_at xs i) ≡ true)
    → i ≡ first_bad xs n k
unfolding first_bad
bad_from xs zero k i l h good bad = omega arith
bad_from xs (suc n) k i l h good bad = go (dec_lt k i) (λ p. bad_from xs n (suc k) i (omega arith) (omega arith) (λ j a b. good j (omega arith) b) (λ b. bad (omega arith)))
  where
    go : Dec (k < i) → (k < i → i ≡ first_bad xs n (suc k)) → i ≡ cond (bad_number (number_at xs k)) k (first_bad xs n (suc k))
    go (yes p) f = rw (good k (omega arith) p) (f p)
    go (no p) f =
        let e : i ≡ k = omega arith in
        let t : bad_number (number_at xs k) ≡ true = rw e at (bad (omega arith)) in
        rw t e

pub bad_is : (xs : List Float) (n : ℕ) (o : Option ℕ)
    → MatchOption o ((j : ℕ) → 0 ≤ j → j < n → bad_number (number_at xs j) ≡ false)
    (λ i. (0 ≤ i) × (i < n) × (bad_number (number_at xs i) ≡ true) × ((j : ℕ) → 0 ≤ j → j < i → bad_number (number_at xs j) ≡ false))
    → (or_count n o ≡ first_bad xs n 0) × IfSome o (λ k. k < n)
bad_is xs n None h = (bad_from xs n 0 n (omega arith) (omega arith) h (λ b. absurd (omega arith)), tt)
bad_is xs n (Some i) h = (bad_from xs n 0 i (omega arith) (omega arith) h.3 (λ b. h.2), h.1)

-- ---- the stretch lists, axis by axis, and the whole, check by check

abbrev pub pair : ℕ → List Float → List Float → List Given
pair n nodes halves = given n nodes ∷ (given n halves ∷ [])

module _ (g : Grid3d) (xn xh yn yh zn zh : List Float) where
  pub lengths_by_axis : check_lengths 0 (stretches g xn xh yn yh zn zh)
      ≡ and_then (check_lengths 0 (pair g.nx xn xh)) (and_then (check_lengths 2 (pair g.ny yn yh)) (check_lengths 4 (pair g.nz zn zh)))
  lengths_by_axis =
      lengths_append 0 (pair g.nx xn xh) (pair g.ny yn yh ++ pair g.nz zn zh)
      ∙ ap (and_then (check_lengths 0 (pair g.nx xn xh))) (lengths_append 2 (pair g.ny yn yh) (pair g.nz zn zh))

  pub entries_by_axis : check_entries 0 (stretches g xn xh yn yh zn zh)
      ≡ and_then (check_entries 0 (pair g.nx xn xh))
      (and_then (check_entries (2 * g.nx) (pair g.ny yn yh)) (check_entries (2 * g.nx + 2 * g.ny) (pair g.nz zn zh)))
  unfolding counts
  entries_by_axis =
      let p : 0 + (g.nx + (g.nx + 0)) ≡ 2 * g.nx = omega arith in
      let q : 2 * g.nx + (g.ny + (g.ny + 0)) ≡ 2 * g.nx + 2 * g.ny = omega arith in
      entries_append 0 (pair g.nx xn xh) (pair g.ny yn yh ++ pair g.nz zn zh)
      ∙ ap (λ (k : ℕ). and_then (check_entries 0 (pair g.nx xn xh)) (check_entries k (pair g.ny yn yh ++ pair g.nz zn zh))) p
      ∙ ap (and_then (check_entries 0 (pair g.nx xn xh))) (entries_append (2 * g.nx) (pair g.ny yn yh) (pair g.nz zn zh))
      ∙ ap (λ (k : ℕ). and_then (check_entries 0 (pair g.nx xn xh)) (and_then (check_entries (2 * g.nx) (pair g.ny yn yh)) (check_entries k (pair g.nz zn zh)))) q

  -- lists that have passed refusal 3 are as long as the axes ask
  pub lengths_are : is_sound (check_lengths 0 (stretches g xn xh yn yh zn zh)) ≡ true → Lengths g xn yn zn × Lengths g xh yh zh
  lengths_are e =
      let a = length_told 0 g.nx xn (given g.nx xh ∷ (pair g.ny yn yh ++ pair g.nz zn zh)) e in
      let b = length_told 1 g.nx xh (pair g.ny yn yh ++ pair g.nz zn zh) a.1 in
      let c = length_told 2 g.ny yn (given g.ny yh ∷ pair g.nz zn zh) b.1 in
      let d = length_told 3 g.ny yh (pair g.nz zn zh) c.1 in
      let f = length_told 4 g.nz zn (given g.nz zh ∷ []) d.1 in
      let h = length_told 5 g.nz zh [] f.1 in
      (record { x_long = a.0; y_long = c.0; z_long = f.0 }, record { x_long = b.0; y_long = d.0; z_long = h.0 })

pub grid_sound : (v : Lattice) → is_sound (and_then (check_grid v.grid) (check_scalars v)) ≡ true → Limits v.grid
grid_sound v e = limits_are v.grid (and_first (check_grid v.grid) (check_scalars v) e)

module _ (v : Lattice) (xn xh yn yh zn zh : List Float) where
  pub stretches_by_check : check_stretches v xn xh yn yh zn zh
      ≡ and_then (and_then (check_grid v.grid) (check_scalars v))
      (and_then (check_lengths 0 (stretches v.grid xn xh yn yh zn zh)) (check_entries 0 (stretches v.grid xn xh yn yh zn zh)))
  unfolding check_stretches check_all
  stretches_by_check = sym (and_assoc (check_grid v.grid) (check_scalars v) _)

  pub all_by_check : (eps : List Float) → check_of v xn xh yn yh zn zh eps
      ≡ and_then (and_then (check_grid v.grid) (check_scalars v))
      (and_then (check_lengths 0 (stretches v.grid xn xh yn yh zn zh))
      (and_then (check_lengths 6 (given (unknowns_of v.grid) eps ∷ []))
      (and_then (check_entries 0 (stretches v.grid xn xh yn yh zn zh))
      (check_entries (2 * v.grid.nx + 2 * v.grid.ny + 2 * v.grid.nz) (given (unknowns_of v.grid) eps ∷ [])))))
  unfolding check_of check_all counts
  all_by_check eps =
      let g = v.grid in
      let six = stretches g xn xh yn yh zn zh in
      let one = given (unknowns_of g) eps ∷ [] in
      let e : 0 + (g.nx + (g.nx + (g.ny + (g.ny + (g.nz + (g.nz + 0)))))) ≡ 2 * g.nx + 2 * g.ny + 2 * g.nz = omega arith in
      sym (and_assoc (check_grid g) (check_scalars v) (and_then (check_lengths 0 (six ++ one)) (check_entries 0 (six ++ one))))
      ∙ ap (λ (d : Verdict). and_then (and_then (check_grid g) (check_scalars v)) (and_then d (check_entries 0 (six ++ one)))) (lengths_append 0 six one)
      ∙ ap (and_then (and_then (check_grid g) (check_scalars v)))
      (and_assoc (check_lengths 0 six) (check_lengths 6 one) (check_entries 0 (six ++ one))
      ∙ ap (λ (d : Verdict). and_then (check_lengths 0 six) (and_then (check_lengths 6 one) d))
      (entries_append 0 six one ∙ ap (λ (k : ℕ). and_then (check_entries 0 six) (check_entries k one)) e))

  -- a sound input lies within the limits, and its lists are as long as the axes ask
  pub stretches_sound : is_sound (check_stretches v xn xh yn yh zn zh) ≡ true
      → Limits v.grid × Lengths v.grid xn yn zn × Lengths v.grid xh yh zh
  stretches_sound e =
      let six = stretches v.grid xn xh yn yh zn zh in
      let first = and_then (check_grid v.grid) (check_scalars v) in
      let second = and_then (check_lengths 0 six) (check_entries 0 six) in
      let h : is_sound (and_then first second) ≡ true = ap is_sound (sym stretches_by_check) ∙ e in
      let l = lengths_are v.grid xn xh yn yh zn zh (and_first (check_lengths 0 six) (check_entries 0 six) (and_second first second h)) in
      (grid_sound v (and_first first second h), l.0, l.1)

  pub all_sound : (eps : List Float) → is_sound (check_of v xn xh yn yh zn zh eps) ≡ true
      → Limits v.grid × Lengths v.grid xn yn zn × Lengths v.grid xh yh zh × (length eps ≡ 2 * unknowns_of v.grid)
  all_sound eps e =
      let g = v.grid in
      let six = stretches g xn xh yn yh zn zh in
      let one = given (unknowns_of g) eps ∷ [] in
      let a = and_then (check_grid g) (check_scalars v) in
      let d = and_then (check_entries 0 six) (check_entries (2 * g.nx + 2 * g.ny + 2 * g.nz) one) in
      let c = and_then (check_lengths 6 one) d in
      let b = and_then (check_lengths 0 six) c in
      let h : is_sound (and_then a b) ≡ true = ap is_sound (sym (all_by_check eps)) ∙ e in
      let k = and_second a b h in
      let l = lengths_are g xn xh yn yh zn zh (and_first (check_lengths 0 six) c k) in
      let m = length_told 6 (unknowns_of g) eps [] (and_first (check_lengths 6 one) d (and_second (check_lengths 0 six) c k)) in
      (grid_sound v (and_first a b h), l.0, l.1, m.0)
