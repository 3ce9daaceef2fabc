-- The roles of a relation by its number, and a row's words are picked from the list of a level's relations.
-- Assumes nothing.
use Prim.Native.Nat.{ℕ, zero, suc, ◌+◌, ◌*◌, ◌/◌, ◌%◌, ◌<◌}
use mathlib.Core.Path.{◌≡◌, refl, ◌∙◌}
use mathlib.Core.List.{List}
use mathlib.Core.Bool.{Bool, true, false}
use native.Mathlib.Omega.{arith}
use lib.ListN.{get_or}
use lib.Dec.{eqb, lit<}
use Rattle.operators.specs.Relation.{Spot, Within}
use Rattle.operators.specs.Pattern.{row_role, column_role, name_of, Ladder, rel, box}
use Rattle.operators.specs.Bits.{bit_at}
use Rattle.operators.specs.Compose.{table}
use Rattle.operators.specs.Numbered.{name_no, role_no, column_no, no_of, word_of, picks_of, Right}
use Rattle.operators.proofs.ColumnWhole.{Picked}

pub row_no : (w : ℕ) → w < 6 → role_no (w % 2) ≡ row_role (name_no w)
row_no zero h = refl
row_no (suc zero) h = refl
row_no (suc (suc zero)) h = refl
row_no (suc (suc (suc zero))) h = refl
row_no (suc (suc (suc (suc zero)))) h = refl
row_no (suc (suc (suc (suc (suc zero))))) h = refl
row_no (suc (suc (suc (suc (suc (suc w)))))) h = absurd (omega arith)

pub column_no_is : (w : ℕ) → w < 6 → (role_no (column_no w) ≡ column_role (name_no w)) × (column_no w < 2)
unfolding column_no
column_no_is zero h = (refl, lit< tt)
column_no_is (suc zero) h = (refl, lit< tt)
column_no_is (suc (suc zero)) h = (refl, lit< tt)
column_no_is (suc (suc (suc zero))) h = (refl, lit< tt)
column_no_is (suc (suc (suc (suc zero)))) h = (refl, lit< tt)
column_no_is (suc (suc (suc (suc (suc zero))))) h = (refl, lit< tt)
column_no_is (suc (suc (suc (suc (suc (suc w)))))) h = absurd (omega arith)

name_no_lem : (p q s : Bool) → (name_no (no_of p q s) ≡ name_of p q s) × (no_of p q s < 6)
name_no_lem true true true = (refl, lit< tt)
name_no_lem true true false = (refl, lit< tt)
name_no_lem true false s = (refl, lit< tt)
name_no_lem false true s = (refl, lit< tt)
name_no_lem false false true = (refl, lit< tt)
name_no_lem false false false = (refl, lit< tt)

pub right_picked : (M : Ladder) (L : ℕ) (t : List ℕ) (a b : ℕ) (p : Spot) → Right M L t → Within (box M L) p → Picked M L a b p (picks_of t a b p.x p.y p.z)
unfolding picks_of word_of table
right_picked M L t a b p right inside =
    record {
      sx = λ i h. at 0 false p.x i (lit< tt) inside.x h;
      tx = λ i h. at 0 (eqb a b) p.x i (lit< tt) inside.x h;
      sy = λ i h. at 1 false p.y i (lit< tt) inside.y h;
      ty = λ i h. at 1 (eqb a b) p.y i (lit< tt) inside.y h;
      sz = λ i h. at 2 false p.z i (lit< tt) inside.z h;
      tz = λ i h. at 2 (eqb a b) p.z i (lit< tt) inside.z h;
    }
  where
    at : (d : ℕ) (s : Bool) (k i : ℕ) → d < 3 → k < M.cells L d → i < M.cells L d
        → bit_at (get_or t (64 * (6 * d + no_of (eqb d a) (eqb d b) s) + k) 0) i ≡ rel M L d (name_of (eqb d a) (eqb d b) s) k i
    at d s k i h u v =
        let w = no_of (eqb d a) (eqb d b) s in
        let o = name_no_lem (eqb d a) (eqb d b) s in
        let f : w < 6 = o.1 in
        let e : (6 * d + w) / 6 ≡ d = omega arith in
        let g : (6 * d + w) % 6 ≡ w = omega arith in
        right.is (6 * d + w) k i (omega arith) (rw e u) (rw e v) ∙ rw (e, g, o.0)
