-- THE SETUP IS THE PLAN'S RUN: `setup_of` in closed form answers and leaves what `planned_of` does. Assumes nothing.
use Prim.Native.Nat.{ℕ, zero, suc}
use mathlib.Core.Path.{◌≡◌, refl, sym, ap, ◌∙◌}
use mathlib.Core.Bool.{Bool, true, false, cond}
use mathlib.Core.List.{List}
use mathlib.Core.Option.{Option}
use lib.Ieee.{Float}
use Rattle.numbers.specs.Places.{number_at}
use Rattle.lattice.specs.Check.{Verdict, accepted, refused, and_then, is_sound, check_of}
use Rattle.store.specs.Plan.{run}
use Rattle.store.specs.Book.{settle, set_up}
use Rattle.store.specs.Store.{Store, sizes, zeroed}
use Rattle.store.specs.Places.{space}
use Rattle.store.specs.Rows.{full, rules}
use Rattle.store.specs.Changes.{Why}
use Rattle.store.specs.Setup.{Input, Result, result_of, unless, all_to, level_fine, structure_of, setup_of, full_of, transfers_of}
use Rattle.store.specs.Load.{load}
use Rattle.store.specs.Calls.{settled, planned_of}
use Rattle.store.proofs.CallLaws.{limits_of, enough_of}
use Rattle.store.proofs.FilledLaws.{filled_is_set_up}
use Rattle.store.proofs.FirstLaws.{refused_at, first_bad_is}

-- a test of levels accepts with 0, or refuses by its number
abbrev Tested : ℕ → Verdict → Type 0
Tested k (accepted n) = Unit {0}
Tested k (refused n p) = n ≡ k

then_tested : (k : ℕ) (c d : Verdict) → Tested k c → Tested k d → Tested k (and_then c d)
then_tested k (accepted n) d u w = w
then_tested k (refused n p) d u w = u

all_tested : (k : ℕ) (ok : ℕ → Bool) (n : ℕ) → Tested k (all_to k ok n)
unfolding all_to
all_tested k ok zero = tt
all_tested k ok (suc n) = then_tested k (all_to k ok n) (cond (ok n) (accepted 0) (refused k n)) (all_tested k ok n) (one (ok n))
  where
    one : (b : Bool) → Tested k (cond b (accepted 0) (refused k n))
    one true = tt
    one false = refl

-- past the test a refusal leaves z
settled_by : (v : Verdict) → Tested 7 v → (k : ℕ) (done start z : Store) → let o = settle {X = space} {Why = Why} (refused_at v) done start in
    unless v z (result_of (accepted k) done) ≡ settled k o.answer o.store 0 z
settled_by (accepted n) u k done start z = refl
settled_by (refused n p) u k done start z = ap (λ (q : ℕ). result_of (refused q p) z) u

-- calls agree where they agree once the checks have passed
unless_same : (v : Verdict) (s : Store) (x y : Result) → (is_sound v ≡ true → x ≡ y) → unless v s x ≡ unless v s y
unless_same (accepted n) s x y h = h refl
unless_same (refused n p) s x y h = refl

pub setup_planned : (i : Input) (eps : List Float) (s : Store) → setup_of i eps s ≡ planned_of i eps s
unfolding setup_of planned_of set_up
setup_planned i eps s =
    let L = full_of i in
    let c = i.choice in
    let k = transfers_of i in
    let v = all_to 7 (level_fine L c k (number_at eps)) (suc k) in
    unless_same (check_of i.lattice i.xn i.xh i.yn i.yh i.zn i.zh eps) s _ _ (λ x.
    unless_same (structure_of i (sizes s)) (zeroed s) _ _ (λ y.
    let limits = limits_of i s eps x in
    let enough = enough_of i s y in
    let start = load L c k s eps in
    ap (λ (t : Store). unless v (zeroed s) (result_of (accepted (suc k)) t)) (filled_is_set_up L c k s enough eps limits)
    ∙ settled_by v (all_tested 7 (level_fine L c k (number_at eps)) (suc k)) (suc k) (run (rules L c k) (full L c k) start) start (zeroed s)
    ∙ ap (λ (o : Option ℕ). let q = settle {X = space} {Why = Why} o (run (rules L c k) (full L c k) start) start in settled (suc k) q.answer q.store 0 (zeroed s))
    (sym (first_bad_is L c k limits s enough eps))))
