-- Flagged rows behind others, and parts one behind another.
-- Assumes nothing.
use Prim.Native.Nat.{ℕ, zero, suc, ◌+◌}
use mathlib.Core.Path.{◌≡◌, sym}
use mathlib.Core.List.{List, [], ◌++◌, append_assoc, append-nil}
use native.Mathlib.Omega.{arith}
use Rattle.lattice.specs.Lattice.{FullLattice}
use Rattle.store.specs.Rows.{Row, rules}
use Rattle.store.specs.Renewed.{Fixed, Five, store_of, Renewed}
use Rattle.store.specs.Parts.{flagged_part, flagged_parts}
use Rattle.store.specs.RenewSteps.{flagged_some}
use Rattle.store.specs.declared.Choice.{Choice}
use Rattle.store.proofs.SpaceLaws.{lawful}
use Rattle.store.proofs.WorkedLaws.{worked_none, worked_then, worked_stop}
use Rattle.store.proofs.FlaggedLaws.{structured_with}

module _ (l : FullLattice) (ch : Choice) (m : ℕ) (x : Fixed) where
  -- ---- rows behind others

  pub renewed_empty : (v : Five) → Renewed l ch m x [] v 0 v
  renewed_empty v = record { worked = λ ends w. worked_none (rules l ch m) lawful (store_of ends x v) }

  pub renewed_then : (ps qs : List Row) (v t u : Five) (n : ℕ) → Renewed l ch m x ps v 0 t → Renewed l ch m x qs t n u → Renewed l ch m x (ps ++ qs) v n u
  renewed_then ps qs v t u n a b =
      record {
        worked = λ ends w.
            worked_then (rules l ch m) lawful ps qs (store_of ends x v) (store_of ends x t) (store_of ends x u) n (a.worked ends w) (b.worked ends (structured_with l ch m ends x v t w));
      }

  pub renewed_stop : (ps qs : List Row) (v u : Five) (n : ℕ) → (n ≡ 0 → ⊥) → Renewed l ch m x ps v n u → Renewed l ch m x (ps ++ qs) v n u
  renewed_stop ps qs v u n k a = record { worked = λ ends w. worked_stop (rules l ch m) lawful ps qs (store_of ends x v) (store_of ends x u) n k (a.worked ends w) }

  -- ---- parts one behind another

  module _ (flags : List ℕ) where
    some_append : (p j k : ℕ) → flagged_some l ch m flags p (j + k) ≡ flagged_some l ch m flags p j ++ flagged_some l ch m flags (p + j) k
    unfolding flagged_some
    some_append p j zero = let z : j + 0 ≡ j = omega arith in rw z (sym (append-nil (flagged_some l ch m flags p j)))
    some_append p j (suc k) =
        let z : j + suc k ≡ suc (j + k) = omega arith in
        let y : p + (j + k) ≡ p + j + k = omega arith in
        rw (z, some_append p j k, y) (append_assoc (flagged_some l ch m flags p j) (flagged_some l ch m flags (p + j) k) (flagged_part l ch m flags (p + j + k)))

    parts_append : (p k : ℕ) → flagged_parts l ch m flags (p + k) ≡ flagged_parts l ch m flags p ++ flagged_some l ch m flags p k
    unfolding flagged_some flagged_parts
    parts_append p zero = let z : p + 0 ≡ p = omega arith in rw z (sym (append-nil (flagged_parts l ch m flags p)))
    parts_append p (suc k) =
        let z : p + suc k ≡ suc (p + k) = omega arith in
        rw (z, parts_append p k) (append_assoc (flagged_parts l ch m flags p) (flagged_some l ch m flags p k) (flagged_part l ch m flags (p + k)))

    -- one part
    pub some_one : (p q : ℕ) (v u : Five) (n : ℕ) → q ≡ p → Renewed l ch m x (flagged_part l ch m flags q) v n u → Renewed l ch m x (flagged_some l ch m flags p 1) v n u
    unfolding flagged_some
    some_one p q v u n e a = let z : p + 0 ≡ q = omega arith in rw z a

    -- k parts behind j
    pub some_then : (p q j k n : ℕ) (v t u : Five) (c : ℕ) → q ≡ p + j → n ≡ j + k → Renewed l ch m x (flagged_some l ch m flags p j) v 0 t
        → Renewed l ch m x (flagged_some l ch m flags q k) t c u → Renewed l ch m x (flagged_some l ch m flags p n) v c u
    some_then p q j k n v t u c e d a b =
        rw (d, some_append p j k, ← e) (renewed_then (flagged_some l ch m flags p j) (flagged_some l ch m flags q k) v t u c a b)

    pub some_stop : (p j k n : ℕ) (v u : Five) (c : ℕ) → n ≡ j + k → (c ≡ 0 → ⊥) → Renewed l ch m x (flagged_some l ch m flags p j) v c u → Renewed l ch m x (flagged_some l ch m flags p n) v c u
    some_stop p j k n v u c d z a =
        rw (d, some_append p j k) (renewed_stop (flagged_some l ch m flags p j) (flagged_some l ch m flags (p + j) k) v u c z a)

    pub parts_then : (p k n : ℕ) (v t u : Five) (c : ℕ) → n ≡ p + k → Renewed l ch m x (flagged_parts l ch m flags p) v 0 t
        → Renewed l ch m x (flagged_some l ch m flags p k) t c u → Renewed l ch m x (flagged_parts l ch m flags n) v c u
    parts_then p k n v t u c d a b = rw (d, parts_append p k) (renewed_then (flagged_parts l ch m flags p) (flagged_some l ch m flags p k) v t u c a b)

    pub parts_stop : (p k n : ℕ) (v u : Five) (c : ℕ) → n ≡ p + k → (c ≡ 0 → ⊥) → Renewed l ch m x (flagged_parts l ch m flags p) v c u → Renewed l ch m x (flagged_parts l ch m flags n) v c u
    parts_stop p k n v u c d z a = rw (d, parts_append p k) (renewed_stop (flagged_parts l ch m flags p) (flagged_some l ch m flags p k) v u c z a)
