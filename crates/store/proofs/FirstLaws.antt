-- 7: the first level with a number that is not finite, as the plan's run finds it, is the first level that is not fine. Assumes nothing.
use Prim.Native.Nat.{ℕ, zero, suc, ◌≤◌}
use mathlib.Core.Path.{◌≡◌, refl, sym, ap, ◌∙◌}
use mathlib.Core.Logic.{inl, inr, ⊎_elim}
use mathlib.Core.Bool.{Bool, true, false, ◌&&◌, cond, and-true, and_assoc}
use mathlib.Core.List.{List, ◌∷◌, [], ◌++◌}
use mathlib.Core.Option.{Option, none, some}
use native.Mathlib.Omega.{arith}
use lib.Dec.{ltb}
use lib.Ieee.{Float}
use borrow.Author.Tests.{lt-ltb, le-ltb}
use Rattle.numbers.specs.declared.C64.{C64}
use Rattle.numbers.specs.Complex.{finite}
use Rattle.numbers.specs.Places.{number_at}
use Rattle.numbers.specs.Lists.{tabulate, rows, all_finite, In}
use Rattle.numbers.specs.Terms.{Term, numbers_of}
use Rattle.numbers.proofs.Equations.{tabulate_zero, rows_zero, rows_suc, all_finite_nil, all_finite_cons}
use Rattle.numbers.proofs.GatheredLaws.{finite_append}
use Rattle.numbers.proofs.ListLaws.{through, tabulate_more}
use Rattle.numbers.proofs.MemberLaws.{in_append}
use Rattle.numbers.proofs.Tutorial.{numbers_rows}
use Rattle.numbers.proofs.TransposedLaws.{in_tabulate}
use Rattle.lattice.specs.Check.{Verdict, accepted, refused, and_then}
use Rattle.lattice.specs.Grid.{Limits}
use Rattle.lattice.specs.Lattice.{FullLattice}
use Rattle.operators.specs.LevelLists.{edges_on}
use Rattle.operators.specs.Levels.{eps_at, averaged_on, forward_at, turned_at, volumes_at, inverse_shares_at}
use Rattle.operators.specs.Volumes.{share_finite, shares_finite}
use Rattle.operators.proofs.ShareFine.{share_fine}
use Rattle.store.specs.Plan.{Rules, Rising, Laws, step, run, row_fine, first_bad}
use Rattle.store.specs.Store.{Store, sizes}
use Rattle.store.specs.Places.{space}
use Rattle.store.specs.Layout.{operator_at, first_stored, Enough}
use Rattle.store.specs.declared.Choice.{Choice}
use Rattle.store.specs.declared.Choice.TheVariants.{Galerkin, Rediscretized}
use Rattle.store.specs.Rows.{Row, coarse, averaged, forward, turned, volume, share, operator, level, only, group, groups, full, rules}
use Rattle.store.specs.Landed.{landed}
use Rattle.store.specs.Setup.{eps_part, averaged_part, forward_numbers, turned_numbers, operator_numbers, all_to, only_fine, transfer_fine, level_fine}
use Rattle.store.specs.Load.{load}
use Rattle.store.proofs.PlanLaws.{first_fine}
use Rattle.store.proofs.LandedLaws.{consistent_numbers, done_consistent, done_given, coarse_rows, averaged_rows, forward_rows, turned_rows_lem, volume_rows, share_rows, operator_rows, from_share, from_volume, from_turned, from_forward, from_averaged}
use Rattle.operators.proofs.Equations.{inverse_shares_at_is, shares_finite_zero, shares_finite_suc}
use Rattle.store.proofs.RangeLaws.{ranges}
use Rattle.store.proofs.RankLaws.{full_in}
use Rattle.store.proofs.SetupLaws.{load_sizes, load_given}
use Rattle.store.proofs.StoreLaws.{laws}
use Rattle.store.proofs.WorkLaws.{row_fine_lem}

-- ---- rows that pass a test: the level of the first that does not, and whether all do

unfoldable first_in : (Row → ℕ) → (Row → Bool) → List Row → Option ℕ
first_in v P [] = none
first_in v P (r ∷ rs) = cond (P r) (first_in v P rs) (some (v r))

unfoldable all_in_lem : (Row → Bool) → List Row → Bool
all_in_lem P [] = true
all_in_lem P (r ∷ rs) = P r && all_in_lem P rs

abbrev or_else : Option ℕ → Option ℕ → Option ℕ
or_else none y = y
or_else (some x) y = some x

first_append : (v : Row → ℕ) (P : Row → Bool) (xs ys : List Row) → first_in v P (xs ++ ys) ≡ or_else (first_in v P xs) (first_in v P ys)
unfolding first_in
first_append v P [] ys = refl
first_append v P (x ∷ xs) ys = go (P x) (first_append v P xs ys)
  where
    go : (b : Bool) → first_in v P (xs ++ ys) ≡ or_else (first_in v P xs) (first_in v P ys)
        → cond b (first_in v P (xs ++ ys)) (some (v x)) ≡ or_else (cond b (first_in v P xs) (some (v x))) (first_in v P ys)
    go true e = e
    go false e = refl

first_same : (v : Row → ℕ) (P Q : Row → Bool) (rs : List Row) → ((r : Row) → In r rs → P r ≡ Q r) → first_in v P rs ≡ first_in v Q rs
unfolding first_in
first_same v P Q [] h = refl
first_same v P Q (r ∷ rs) h = λ i. cond (h r (inl refl) i) (first_same v P Q rs (λ q j. h q (inr j)) i) (some (v r))

-- rows of one level
first_level_lem : (v : Row → ℕ) (P : Row → Bool) (k : ℕ) (rs : List Row) → ((r : Row) → In r rs → v r ≡ k) → first_in v P rs ≡ cond (all_in_lem P rs) none (some k)
unfolding first_in all_in_lem
first_level_lem v P k [] h = refl
first_level_lem v P k (r ∷ rs) h = go (P r) (first_level_lem v P k rs (λ q j. h q (inr j)))
  where
    go : (b : Bool) → first_in v P rs ≡ cond (all_in_lem P rs) none (some k) → cond b (first_in v P rs) (some (v r)) ≡ cond (b && all_in_lem P rs) none (some k)
    go true e = e
    go false e = ap (λ (n : ℕ). some n) (h r (inl refl))

all_append : (P : Row → Bool) (xs ys : List Row) → all_in_lem P (xs ++ ys) ≡ (all_in_lem P xs && all_in_lem P ys)
unfolding all_in_lem
all_append P [] ys = refl
all_append P (x ∷ xs) ys = ap (λ (b : Bool). P x && b) (all_append P xs ys) ∙ sym (and_assoc (P x) (all_in_lem P xs) (all_in_lem P ys))

-- rows before others: the last test stays apart
all_before : (P : Row → Bool) (xs ys : List Row) (a b c : Bool) → all_in_lem P xs ≡ a → all_in_lem P ys ≡ (b && c) → all_in_lem P (xs ++ ys) ≡ ((a && b) && c)
all_before P xs ys a b c e f = all_append P xs ys ∙ (λ i. e i && f i) ∙ sym (and_assoc a b c)

-- a test of n rows that goes row by row
module _ (P : Row → Bool) (f : ℕ → Row) (all test : ℕ → Bool) (start : all 0 ≡ true) (next : (n : ℕ) → all (suc n) ≡ (all n && test n)) (same : (r : ℕ) → P (f r) ≡ test r) where
  all_rows : (n : ℕ) → all_in_lem P (tabulate f n 0) ≡ all n
  unfolding all_in_lem
  all_rows zero = ap (all_in_lem P) (tabulate_zero f 0) ∙ sym start
  all_rows (suc n) =
      ap (all_in_lem P) (tabulate_more f n 0 n (omega arith)) ∙ all_append P (tabulate f n 0) (f n ∷ [])
      ∙ (λ i. all_rows n i && (P (f n) && true)) ∙ ap (λ (b : Bool). all n && b) (and-true (P (f n)) ∙ same n) ∙ sym (next n)

-- ---- as a row is worked out, or at the end: the same numbers

module _ (l : FullLattice) (ch : Choice) (m : ℕ) (limits : Limits l.grid) (b : Store) (enough : Enough l ch m (sizes b)) (eps : List Float) where
  abbrev R : Rules space
  R = rules l ch m

  abbrev w : Laws space R
  w = laws l ch m (ranges l limits)

  first_final : (rs : List Row) (s : Store) → Rising R rs → first_bad R rs s ≡ first_in (level l ch m) (row_fine R (run R rs s)) rs
  unfolding first_bad first_in run
  first_final [] s h = refl
  first_final (r ∷ rs) s h =
      let x : row_fine R s r ≡ row_fine R (run R (r ∷ rs) s) r = first_fine w r rs s h in
      let y = first_final rs (step R s r) h.2 in
      λ i. cond (x i) (y i) (some (level l ch m r))

  -- by the layers' rows
  by_landed : first_bad R (full l ch m) (load l ch m b eps) ≡ first_in (level l ch m) (λ r. all_finite (landed l ch (number_at eps) r)) (full l ch m)
  by_landed =
      let start = load l ch m b eps in
      let done = run R (full l ch m) start in
      let fits : Enough l ch m (sizes start) = rw (load_sizes l ch m b enough eps) enough in
      let given = load_given l ch m b enough eps in
      first_final (full l ch m) start w.rising
      ∙ first_same (level l ch m) (row_fine R done) (λ r. all_finite (landed l ch (number_at eps) r)) (full l ch m)
      (λ r i. row_fine_lem l ch m done r
      ∙ ap all_finite (consistent_numbers l ch m limits done (done_consistent l ch m limits start fits (number_at eps) given) (number_at eps) (done_given l ch m limits start fits (number_at eps) given) r (full_in l ch m r i)))

-- ---- level by level

-- where a verdict refuses
abbrev pub refused_at : Verdict → Option ℕ
refused_at (accepted n) = none
refused_at (refused n p) = some p

then_at : (c d : Verdict) → refused_at (and_then c d) ≡ or_else (refused_at c) (refused_at d)
then_at (accepted n) d = refl
then_at (refused n p) d = refl

test_at : (b : Bool) (n : ℕ) → refused_at (cond b (accepted 0) (refused 7 n)) ≡ cond b none (some n)
test_at true n = refl
test_at false n = refl

only_both : (ch : Choice) (a b : Bool) → (only_fine ch a && only_fine ch b) ≡ only_fine ch (a && b)
only_both Galerkin a b = refl
only_both Rediscretized a b = refl

module _ (l : FullLattice) (ch : Choice) (f : ℕ → C64) where
  abbrev P : Row → Bool
  P r = all_finite (landed l ch f r)

  -- rows of one number
  ones_fine : (row : ℕ → Row) (g : ℕ → C64) → ((r : ℕ) → P (row r) ≡ all_finite (g r ∷ [])) → (n : ℕ) → all_in_lem P (tabulate row n 0) ≡ all_finite (tabulate g n 0)
  ones_fine row g h n =
      all_rows P row (λ k. all_finite (tabulate g k 0)) (λ r. all_finite (g r ∷ [])) (ap all_finite (tabulate_zero g 0) ∙ all_finite_nil)
      (λ k. ap all_finite (tabulate_more g k 0 k (omega arith)) ∙ finite_append (tabulate g k 0) (g k ∷ [])) h n

  -- rows of terms
  terms_fine : (row : ℕ → Row) (ts : ℕ → List Term) → ((r : ℕ) → P (row r) ≡ all_finite (numbers_of (ts r))) → (n : ℕ) → all_in_lem P (tabulate row n 0) ≡ all_finite (numbers_of (rows ts n))
  terms_fine row ts h n =
      let vs = through numbers_of ts in
      all_rows P row (λ k. all_finite (rows vs k)) (λ r. all_finite (vs r)) (ap all_finite (rows_zero vs) ∙ all_finite_nil)
      (λ k. ap all_finite (rows_suc vs k) ∙ finite_append (rows vs k) (vs k)) h n
      ∙ ap all_finite (sym (numbers_rows ts n))

  -- a stored share is fine just where the share is too
  shares_fine : (L n : ℕ) → all_in_lem P (tabulate (share L) n 0) ≡ shares_finite (turned_at l f L) (volumes_at l L) n
  shares_fine L n =
      let R = turned_at l f L in
      let v = volumes_at l L in
      all_rows P (share L) (shares_finite R v) (share_finite R v) (shares_finite_zero R v) (shares_finite_suc R v)
      (λ c. all_finite_cons (inverse_shares_at l f L c) [] ∙ (λ i. finite (inverse_shares_at l f L c) && all_finite_nil i) ∙ and-true (finite (inverse_shares_at l f L c))
      ∙ ap (λ (g : ℕ → C64). finite (g c)) (inverse_shares_at_is l f L) ∙ sym (share_fine R v c)) n

  only_fine_lem : (c : Choice) (rs : List Row) → all_in_lem P (only c rs) ≡ only_fine c (all_in_lem P rs)
  unfolding all_in_lem
  only_fine_lem Galerkin rs = refl
  only_fine_lem Rediscretized rs = refl

  operator_fine_lem : (m L : ℕ) → first_stored m ≤ L → all_in_lem P (tabulate (operator L) (edges_on l L) 0) ≡ all_finite (operator_numbers l ch m f L)
  operator_fine_lem m L h =
      let z : ltb L (first_stored m) ≡ false = le-ltb L (first_stored m) h in
      let e : operator_numbers l ch m f L ≡ numbers_of (rows (operator_at l ch f L) (edges_on l L)) = rw z refl in
      terms_fine (operator L) (operator_at l ch f L) (λ r. refl) (edges_on l L) ∙ ap all_finite (sym e)

  -- the rows of a level
  group_fine : (m L : ℕ) → first_stored m ≤ suc L → all_in_lem P (group l ch L) ≡ level_fine l ch m f (suc L)
  unfolding level_fine transfer_fine
  group_fine m L h =
      let k = edges_on l (suc L) in
      let n = edges_on l L in
      let last = all_finite (operator_numbers l ch m f (suc L)) in
      let averages = all_finite (averaged_part l f L) in
      let volumes = all_finite (tabulate (volumes_at l L) n 0) in
      let shares = shares_finite (turned_at l f L) (volumes_at l L) k in
      let scales = only_fine ch (volumes && shares) in
      let turns = all_finite (turned_numbers l f L) && scales in
      let weights = all_finite (forward_numbers l f L) && turns in
      all_before P (coarse_rows l ch L) (from_averaged l ch L) (all_finite (eps_part l f (suc L))) (only_fine ch averages && weights) last (ones_fine (coarse L) (eps_at l f (suc L)) (λ r. refl) k)
      (all_before P (averaged_rows l ch L) (from_forward l ch L) (only_fine ch averages) weights last
      (only_fine_lem ch (tabulate (averaged L) k 0) ∙ ap (only_fine ch) (ones_fine (averaged L) (averaged_on l f (suc L)) (λ r. refl) k))
      (all_before P (forward_rows l ch L) (from_turned l ch L) (all_finite (forward_numbers l f L)) turns last (terms_fine (forward L) (forward_at l f L) (λ r. refl) n)
      (all_before P (turned_rows_lem l ch L) (from_volume l ch L) (all_finite (turned_numbers l f L)) scales last (terms_fine (turned L) (turned_at l f L) (λ r. refl) k)
      (all_before P (volume_rows l ch L) (from_share l ch L) (only_fine ch volumes) (only_fine ch shares) last
      (only_fine_lem ch (tabulate (volume L) n 0) ∙ ap (only_fine ch) (ones_fine (volume L) (volumes_at l L) (λ r. refl) n))
      (all_append P (share_rows l ch L) (operator_rows l ch L)
      ∙ (λ i. (only_fine_lem ch (tabulate (share L) k 0) ∙ ap (only_fine ch) (shares_fine L k)) i && operator_fine_lem m (suc L) h i))
      ∙ ap (λ (b : Bool). b && last) (only_both ch volumes shares)))))

  -- all rows of a group are of one level
  module _ (m : ℕ) where
    abbrev v : Row → ℕ
    v = level l ch m

    abbrev Of : ℕ → List Row → Type 0
    Of k rs = (r : Row) → In r rs → v r ≡ k

    part_level : (g : ℕ → Row) (k n : ℕ) → ((r : ℕ) → v (g r) ≡ k) → Of k (tabulate g n 0)
    part_level g k n h r i = let t = in_tabulate g n 0 r i in ap v t.3 ∙ h t.0

    only_level : (c : Choice) (k : ℕ) (rs : List Row) → Of k rs → Of k (only c rs)
    only_level Galerkin k rs h r i = absurd i
    only_level Rediscretized k rs h r i = h r i

    split : (xs ys : List Row) (k : ℕ) → Of k xs → Of k ys → Of k (xs ++ ys)
    split xs ys k a b r i = ⊎_elim (a r) (b r) (in_append r xs ys i)

    group_level : (L : ℕ) → Of (suc L) (group l ch L)
    group_level L =
        let k = edges_on l (suc L) in
        let n = edges_on l L in
        let K = suc L in
        split (coarse_rows l ch L) (from_averaged l ch L) K (part_level (coarse L) K k (λ r. refl))
        (split (averaged_rows l ch L) (from_forward l ch L) K (only_level ch K (tabulate (averaged L) k 0) (part_level (averaged L) K k (λ r. refl)))
        (split (forward_rows l ch L) (from_turned l ch L) K (part_level (forward L) K n (λ r. refl))
        (split (turned_rows_lem l ch L) (from_volume l ch L) K (part_level (turned L) K k (λ r. refl))
        (split (volume_rows l ch L) (from_share l ch L) K (only_level ch K (tabulate (volume L) n 0) (part_level (volume L) K n (λ r. refl)))
        (split (share_rows l ch L) (operator_rows l ch L) K (only_level ch K (tabulate (share L) k 0) (part_level (share L) K k (λ r. refl)))
        (part_level (operator (suc L)) K k (λ r. refl)))))))

    -- one level more
    level_next : (n : ℕ) → refused_at (all_to 7 (level_fine l ch m f) (suc n)) ≡ or_else (refused_at (all_to 7 (level_fine l ch m f) n)) (cond (level_fine l ch m f n) none (some n))
    unfolding all_to
    level_next n =
        then_at (all_to 7 (level_fine l ch m f) n) (cond (level_fine l ch m f n) (accepted 0) (refused 7 n))
        ∙ ap (or_else (refused_at (all_to 7 (level_fine l ch m f) n))) (test_at (level_fine l ch m f n) n)

    first_none : refused_at (all_to 7 (level_fine l ch m f) 1) ≡ cond (level_fine l ch m f 0) none (some 0)
    unfolding all_to
    first_none = level_next 0

    groups_first : 1 ≤ m → (n : ℕ) → first_in v P (groups l ch n) ≡ refused_at (all_to 7 (level_fine l ch m f) (suc n))
    unfolding groups first_in
    groups_first h zero = sym (first_none ∙ ap (λ (b : Bool). cond b none (some 0)) (zero_fine m h))
      where
        zero_fine : (m : ℕ) → 1 ≤ m → level_fine l ch m f 0 ≡ true
        zero_fine zero h = absurd (omega arith)
        zero_fine (suc m) h = unfold level_fine in let z : ltb 0 1 ≡ true = lt-ltb 0 1 (omega arith) in rw z all_finite_nil
    groups_first h (suc n) =
        first_append v P (groups l ch n) (group l ch n)
        ∙ (λ i. or_else (groups_first h n i) ((first_level_lem v P (suc n) (group l ch n) (group_level n) ∙ ap (λ (b : Bool). cond b none (some (suc n))) (group_fine m n (low m))) i))
        ∙ sym (level_next (suc n))
      where
        low : (m : ℕ) → first_stored m ≤ suc n
        low zero = omega arith
        low (suc m) = omega arith

  full_first : (m : ℕ) → first_in (level l ch m) P (full l ch m) ≡ refused_at (all_to 7 (level_fine l ch m f) (suc m))
  unfolding level_fine
  full_first zero =
      first_level_lem (level l ch 0) P 0 (full l ch 0) (part_level 0 (operator 0) 0 (edges_on l 0) (λ r. refl))
      ∙ ap (λ (b : Bool). cond b none (some 0)) (operator_fine_lem 0 0 (omega arith))
      ∙ sym (first_none 0)
  full_first (suc m) = groups_first (suc m) (omega arith) (suc m)

-- THE FIRST LEVEL THAT IS NOT FINITE
pub first_bad_is : (l : FullLattice) (ch : Choice) (m : ℕ) → Limits l.grid → (b : Store) → Enough l ch m (sizes b) → (eps : List Float)
    → first_bad (rules l ch m) (full l ch m) (load l ch m b eps) ≡ refused_at (all_to 7 (level_fine l ch m (number_at eps)) (suc m))
first_bad_is l ch m limits b enough eps = by_landed l ch m limits b enough eps ∙ full_first l ch (number_at eps) m
