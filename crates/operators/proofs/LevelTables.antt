-- The relations in lists are those of the lattice's ladder, level by level.
-- Assumes nothing.
use Prim.Native.Nat.{ℕ, zero, suc, ◌*◌, ◌/◌, ◌%◌, ◌<◌, ◌≤◌}
use mathlib.Core.Path.{◌≡◌, refl, sym, ap, ◌∙◌}
use mathlib.Core.Bool.{Bool, false, ◌&&◌}
use mathlib.Core.List.{List}
use native.Mathlib.Omega.{arith}
use borrow.Author.Tests.{ne_eqb, lt-ltb}
use lib.Dec.{eqb, ltb}
use lib.ListN.{length, get_or, length-replicate}
use Rattle.lattice.specs.Grid.{Limits}
use Rattle.lattice.specs.Lattice.{FullLattice}
use Rattle.lattice.specs.Levels.{cells_at}
use Rattle.lattice.proofs.GridLaws.{n_most}
use Rattle.numbers.proofs.TabulateLaws.{length_tabulate, tabulate_at_0}
use Rattle.weights.specs.Product.{free_places}
use Rattle.weights.specs.TwoLevels.{two_at, fine_cells, coarse_cells}
use Rattle.lattice.proofs.NestLaws.{cells_fewer}
use Rattle.operators.specs.Bits.{bit_at}
use Rattle.operators.specs.Compose.{table, words_at, bits_of, composed, composed_word}
use Rattle.operators.specs.Levels.{forward_rel, is_own, is_bloch, ladder_of, cell_list, kind_list, base_relations, forward_word, coarser_words, relations_below}
use Rattle.operators.specs.Numbered.{name_no, role_no, column_no, no_relations, Right}
use Rattle.operators.specs.Pattern.{Role, coarser, rel, row_role, column_role}
use Rattle.operators.specs.Relation.{after, turned}
use Rattle.lattice.proofs.ColumnLaws.{finest_cells}
use Rattle.weights.proofs.TakenLaws.{fine_cells_lem, coarse_cells_lem}
use Rattle.operators.proofs.LevelTableLaws.{cell_at, cell_most}
use Rattle.operators.proofs.RelationLaws.{after_below}
use Rattle.operators.proofs.BaseLaws.{base_bit}
use Rattle.operators.proofs.ComposeLaws.{bit_composed}
use Rattle.operators.proofs.TableLaws.{relation_at}
use Rattle.operators.proofs.WordLaws.{bit_set}
use Rattle.operators.proofs.TableLevels.{row_no, column_no_is}

-- ---- level 0

kind_at : (l : FullLattice) (d : ℕ) → d < 3 → get_or (kind_list l) d false ≡ is_bloch l d
kind_at l zero h = refl
kind_at l (suc zero) h = refl
kind_at l (suc (suc zero)) h = refl
kind_at l (suc (suc (suc d))) h = absurd (omega arith)

pub right_base : (l : FullLattice) → Limits l.grid → (t : List ℕ) → t ≡ base_relations l l.grid → Right (ladder_of l) 0 t
unfolding rel
right_base l limits t b =
    record {
      is = λ q i j h x y.
          let d : q / 6 < 3 = omega arith in
          let e : get_or (cell_list l.grid) (q / 6) 0 ≡ cells_at l (q / 6) 0 = cell_at l.grid (q / 6) d ∙ sym (finest_cells l (q / 6)) in
          ap (λ (u : List ℕ). table u (64 * q) i j) b
          ∙ base_bit (cell_list l.grid) (kind_list l) no_relations (cell_most limits) (length-replicate {A = ℕ} 1152 0) q i j h (rw e x)
          ∙ rw (e, kind_at l (q / 6) d, lt-ltb i (cells_at l (q / 6) 0) x, lt-ltb j (cells_at l (q / 6) 0) y);
    }

-- ---- one level down

own_no : (r : ℕ) → eqb r 0 ≡ is_own (role_no r)
own_no zero = refl
own_no (suc r) = ne_eqb (suc r) 0 (omega arith)

-- at a place of the level
forward_in_lem : (l : FullLattice) (L d : ℕ) (o : Bool) (r : Role) (k i : ℕ) → o ≡ is_own r → k < cells_at l d L
    → bit_at (forward_word (two_at l L) d o k) i ≡ (ltb k (cells_at l d L) && forward_rel (two_at l L) d (is_own r) k i)
unfolding forward_word forward_rel
forward_in_lem l L d o r k i e h = rw (e, lt-ltb k (cells_at l d L) h) (bit_set (free_places (two_at l L) d (is_own r) k) i)

-- word i of relation q
below_bit : (l : FullLattice) → Limits l.grid → (L : ℕ) (t : List ℕ) (q i j : ℕ) → q < 18 → i < cells_at l (q / 6) (suc L)
    → table (relations_below (two_at l L) t) (64 * q) i j
    ≡ composed (cells_at l (q / 6) L) (bits_of (forward_word (two_at l L) (q / 6) (eqb (q % 6 % 2) 0))) (table t (64 * q)) (bits_of (forward_word (two_at l L) (q / 6) (eqb (column_no (q % 6)) 0))) i j
unfolding table coarser_words
below_bit l limits L t q i j h a =
    let two = two_at l L in
    let d = q / 6 in
    let g : d < 3 = omega arith in
    let word : ℕ → ℕ → ℕ = λ p. composed_word (fine_cells two (p / 6)) (forward_word two (p / 6) (eqb (p % 6 % 2) 0)) (words_at t (64 * p)) (forward_word two (p / 6) (eqb (column_no (p % 6)) 0)) in
    let m : coarse_cells two d ≡ cells_at l d (suc L) = coarse_cells_lem l L d g in
    let b : i < coarse_cells two d = omega arith in
    ap (λ (w : ℕ). bit_at w j)
    (relation_at (coarser_words two t) 18 no_relations (λ p o. few p o) (omega (arith, length-replicate {A = ℕ} 1152 0)) q i h (rw (length_tabulate (word q) (coarse_cells two d) 0) b)
    ∙ tabulate_at_0 (word q) (coarse_cells two d) i 0 b)
    ∙ rw (← fine_cells_lem l L d g) (bit_composed (fine_cells two d) (forward_word two d (eqb (q % 6 % 2) 0)) (words_at t (64 * q)) (forward_word two d (eqb (column_no (q % 6)) 0)) i j)
  where
    few : (p : ℕ) → p < 18 → length (coarser_words (two_at l L) t p) ≤ 64
    few p o =
        let f = composed_word (fine_cells (two_at l L) (p / 6)) (forward_word (two_at l L) (p / 6) (eqb (p % 6 % 2) 0)) (words_at t (64 * p)) (forward_word (two_at l L) (p / 6) (eqb (column_no (p % 6)) 0)) in
        rw (length_tabulate f (coarse_cells (two_at l L) (p / 6)) 0, coarse_cells_lem l L (p / 6) (omega arith)) (omega (arith, cells_fewer l (p / 6) (suc L), n_most limits (p / 6)))

pub right_next : (l : FullLattice) → Limits l.grid → (L : ℕ) (t u : List ℕ) → Right (ladder_of l) L t → u ≡ relations_below (two_at l L) t → Right (ladder_of l) (suc L) u
unfolding rel coarser composed
right_next l limits L t u right down =
    record { is = λ q i j h a b. ap (λ (v : List ℕ). table v (64 * q) i j) down ∙ below_bit l limits L t q i j h a ∙ step q i j h }
  where
    step : (q i j : ℕ) → q < 18
        → composed (cells_at l (q / 6) L) (bits_of (forward_word (two_at l L) (q / 6) (eqb (q % 6 % 2) 0))) (table t (64 * q))
        (bits_of (forward_word (two_at l L) (q / 6) (eqb (column_no (q % 6)) 0))) i j
        ≡ rel (ladder_of l) (suc L) (q / 6) (name_no (q % 6)) i j
    step q i j h =
        let d = q / 6 in
        let w = q % 6 in
        let s : w < 6 = omega arith in
        let o = cells_at l d L in
        let own : eqb (w % 2) 0 ≡ is_own (row_role (name_no w)) = own_no (w % 2) ∙ ap is_own (row_no w s) in
        let other : eqb (column_no w) 0 ≡ is_own (column_role (name_no w)) = own_no (column_no w) ∙ ap is_own (column_no_is w s).0 in
        let tf = bits_of (forward_word (two_at l L) d (eqb (w % 2) 0)) in
        let tr = table t (64 * q) in
        let tg = bits_of (forward_word (two_at l L) d (eqb (column_no w) 0)) in
        let mf = (ladder_of l).forward L d (row_role (name_no w)) in
        let mr = rel (ladder_of l) L d (name_no w) in
        let mg = (ladder_of l).forward L d (column_role (name_no w)) in
        after_below o (after o (turned tf) tr) (after o (turned mf) mr) tg mg i j
        (λ m p. after_below o (turned tf) (turned mf) tr mr i m (λ k e. forward_in_lem l L d (eqb (w % 2) 0) (row_role (name_no w)) k i own e) (λ k e. right.is q k m h e p))
        (λ m p. forward_in_lem l L d (eqb (column_no w) 0) (column_role (name_no w)) m j other p)
