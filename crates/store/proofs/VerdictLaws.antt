-- Verdicts: what an accepted call says of its checks. Assumes nothing.
use Prim.Native.Nat.{ℕ, zero, suc, ◌*◌, ◌/◌, ◌≤◌, ◌<◌}
use mathlib.Core.Path.{◌≡◌, refl}
use mathlib.Core.Bool.{Bool, true, false, ◌&&◌, cond, false≢true}
use native.Mathlib.Omega.{arith}
use native.Mathlib.Decide.{ℕ_discrete}
use lib.Dec.{leb}
use borrow.Author.Tests.{leb-true}
use Rattle.std.proofs.lemmas.Bool.{and_parts}
use Rattle.lattice.specs.Check.{Verdict, accepted, refused, is_sound, and_then}
use Rattle.lattice.specs.Lattice.{FullLattice}
use Rattle.operators.specs.LevelLists.{edges_on}
use Rattle.store.specs.Store.{Store, Sizes}
use Rattle.store.specs.Layout.{next_edges, forward_off, turned_off, operator_off, starts_off, stored_starts, ends_off, eps_need, scale_need, Enough}
use Rattle.store.specs.declared.Choice.{Choice}
use Rattle.store.specs.Setup.{Result, unless, all_to, room_if, room_of, short_of}
use Rattle.lattice.proofs.CheckLaws.{and_first, and_second}

unless_first : (v : Verdict) (s : Store) (r : Result) → is_sound (unless v s r).verdict ≡ true → is_sound v ≡ true
unless_first (accepted n) s r e = refl
unless_first (refused n p) s r e = e

pub unless_sound : (v : Verdict) (s : Store) (r : Result) → is_sound v ≡ true → unless v s r ≡ r
unless_sound (accepted n) s r e = refl
unless_sound (refused n p) s r e = absurd (false≢true e)

pub unless_told : (v : Verdict) (s : Store) (r : Result) → is_sound (unless v s r).verdict ≡ true → (is_sound v ≡ true) × (is_sound r.verdict ≡ true)
unless_told v s r e = let f = unless_first v s r e in (f, rw (unless_sound v s r f) at e)

-- ---- a test of each level

test_told : (k n : ℕ) (b : Bool) → is_sound (cond b (accepted 0) (refused k n)) ≡ true → b ≡ true
test_told k n true e = refl
test_told k n false e = e

pub all_pass : (k : ℕ) (ok : ℕ → Bool) (n : ℕ) → ((L : ℕ) → L < n → ok L ≡ true) → all_to k ok n ≡ accepted 0
unfolding all_to
all_pass k ok zero h = refl
all_pass k ok (suc n) h = rw (all_pass k ok n (λ L b. h L (omega arith)), h n (omega arith)) refl

pub pass_all : (k : ℕ) (ok : ℕ → Bool) (n : ℕ) → is_sound (all_to k ok n) ≡ true → (L : ℕ) → L < n → ok L ≡ true
unfolding all_to
pass_all k ok zero h L b = absurd (omega arith)
pass_all k ok (suc n) h L b =
    let here = cond (ok n) (accepted 0) (refused k n) in
    elim (ℕ_discrete L n) as (λ _. ok L ≡ true) [
      | yes e ↦ rw e (test_told k n (ok n) (and_second (all_to k ok n) here h))
      | no e ↦ pass_all k ok n (and_first (all_to k ok n) here h) L (omega arith)
    ]

-- ---- 6: enough

three_told : (a n ss cs xs : ℕ) → room_of a n ss cs xs ≡ true → (a ≤ ss) × (n ≤ cs) × (2 * n ≤ xs)
three_told a n ss cs xs e =
    let y = (and_parts (leb a ss) (leb n cs && leb n (xs / 2)) e).1 in (
      leb-true a ss ((and_parts (leb a ss) (leb n cs && leb n (xs / 2)) e).0),
      leb-true n cs ((and_parts (leb n cs) (leb n (xs / 2)) y).0),
      omega (arith, leb-true n (xs / 2) ((and_parts (leb n cs) (leb n (xs / 2)) y).1)),
    )

pub enough_told : (l : FullLattice) (ch : Choice) (m : ℕ) (h : Sizes) → is_sound (short_of l ch m h) ≡ true → Enough l ch m h
unfolding short_of
enough_told l ch m h e =
    let x0 = leb (ends_off l (3 * suc m)) h.ends in
    let x1 = leb (eps_need l ch m) (h.permittivities / 2) in
    let x2 = room_of (starts_off (edges_on l) m) (forward_off l m) h.forward_starts h.forward_columns h.forward_values in
    let x3 = room_of (starts_off (next_edges l) m) (turned_off l m) h.turned_starts h.turned_columns h.turned_values in
    let x4 = room_of (stored_starts l m (suc m)) (operator_off l ch m (suc m)) h.operator_starts h.operator_columns h.operator_values in
    let x5 = leb (scale_need l ch m) (h.scaling / 2) in
    let v4 = and_then (room_if 4 x4) (room_if 5 x5) in
    let v3 = and_then (room_if 3 x3) v4 in
    let v2 = and_then (room_if 2 x2) v3 in
    let v1 = and_then (room_if 1 x1) v2 in
    let a = and_second (room_if 0 x0) v1 e in
    let b = and_second (room_if 1 x1) v2 a in
    let c = and_second (room_if 2 x2) v3 b in
    let d = and_second (room_if 3 x3) v4 c in
    let p = three_told (starts_off (edges_on l) m) (forward_off l m) h.forward_starts h.forward_columns h.forward_values (test_told 6 2 x2 (and_first (room_if 2 x2) v3 b)) in
    let q = three_told (starts_off (next_edges l) m) (turned_off l m) h.turned_starts h.turned_columns h.turned_values (test_told 6 3 x3 (and_first (room_if 3 x3) v4 c)) in
    let r = three_told (stored_starts l m (suc m)) (operator_off l ch m (suc m)) h.operator_starts h.operator_columns h.operator_values (test_told 6 4 x4 (and_first (room_if 4 x4) (room_if 5 x5) d)) in
    let y = leb-true (eps_need l ch m) (h.permittivities / 2) (test_told 6 1 x1 (and_first (room_if 1 x1) v2 a)) in
    let z = leb-true (scale_need l ch m) (h.scaling / 2) (test_told 6 5 x5 (and_second (room_if 4 x4) (room_if 5 x5) d)) in
    record {
      ends_room = leb-true (ends_off l (3 * suc m)) h.ends (test_told 6 0 x0 (and_first (room_if 0 x0) v1 e));
      eps_room = omega (arith, y);
      forward_starts_are = p.0;
      forward_columns_are = p.1;
      forward_values_are = p.2;
      turned_starts_are = q.0;
      turned_columns_lem = q.1;
      turned_values_are = q.2;
      operator_starts_are = r.0;
      operator_columns_are = r.1;
      operator_values_are = r.2;
      scaling_room = omega (arith, z);
    }
