-- The relations of a level in their list, one behind another, and the columns of a row.
-- Assumes nothing.
use Prim.Native.Nat.{ℕ, zero, suc, ◌+◌, ◌*◌, ◌/◌, ◌%◌, ◌<◌, ◌≤◌}
use mathlib.Core.Path.{◌≡◌, refl, sym, ◌∙◌}
use mathlib.Core.List.{List, []}
use mathlib.Core.Bool.{Bool, true, false}
use native.Mathlib.Omega.{arith}
use native.Mathlib.Decide.{ℕ_discrete, dec_lt}
use native.Mathlib.Numerals.{add-one}
use lib.ListN.{length, get_or, set, take, drop, length-set}
use Rattle.lattice.specs.declared.grid.Grid3d.{Grid3d}
use Rattle.lattice.specs.declared.grid.Position.{Position}
use Rattle.numbers.specs.Lists.{tabulate, laid, entry_at}
use Rattle.numbers.proofs.TabulateLaws.{length_tabulate, tabulate_at_0}
use Rattle.numbers.proofs.RowLoops.{Spread, spread_start, spread_turn, spread_end}
use Rattle.numbers.proofs.ListLaws.{laid_length, laid_before, laid_at, laid_behind}
use Rattle.operators.specs.Columns.{keep, row, Listed}
use Rattle.operators.proofs.ComposeLaws.{composed_cut}
use Rattle.operators.specs.declared.columns.Picks.{Picks}
use Rattle.operators.specs.Compose.{words_at, composed_word}
use Rattle.operators.specs.Numbered.{column_no, picks_of, row_columns, relations_laid, words_below}

-- ---- a loop that fills n places of a list, m of them done

pub record Filling (f : ℕ → ℕ) (n : ℕ) (xs : List ℕ) (at m : ℕ) (ys : List ℕ) : Type 0 where
  pub long : length ys ≡ length xs
  pub spread : Spread set xs at (tabulate f n 0) m ys

module _ {f : ℕ → ℕ} {n : ℕ} {xs : List ℕ} {at : ℕ} where
  pub filling_start : Filling f n xs at 0 xs
  filling_start = record { long = refl; spread = spread_start }

  pub filling_turn : {m v : ℕ} {ys : List ℕ} → Filling f n xs at m ys → m < n → v ≡ f m → Filling f n xs at (m + 1) (set ys (at + m) v)
  filling_turn {m} {v} {ys} p h e =
      record {
        long = length-set ys (at + m) v ∙ p.long;
        spread = spread_turn 0 p.spread (rw (length_tabulate f n 0) h) (e ∙ sym (tabulate_at_0 f n m 0 h));
      }

  pub filling_end : {m : ℕ} {ys : List ℕ} → Filling f n xs at m ys → n ≤ m → ys ≡ laid xs at (tabulate f n 0)
  filling_end p h = spread_end p.spread (rw (length_tabulate f n 0) h)

-- ---- the relations of a level in their list

module _ (w : ℕ → List ℕ) where
  pub laid_none : (xs : List ℕ) → xs ≡ relations_laid w 0 xs
  unfolding relations_laid
  laid_none xs = refl

  pub laid_turn : {q : ℕ} {ys zs vs : List ℕ} (xs : List ℕ) → ys ≡ relations_laid w q xs → vs ≡ w q → zs ≡ laid ys (64 * q) vs → zs ≡ relations_laid w (q + 1) xs
  unfolding relations_laid
  laid_turn {q} xs e f h = rw (add-one q, ← e, ← f) h

  pub relations_length : (m : ℕ) (xs : List ℕ) → length (relations_laid w m xs) ≡ length xs
  unfolding relations_laid
  relations_length zero xs = refl
  relations_length (suc m) xs = laid_length (relations_laid w m xs) (64 * m) (w m) ∙ relations_length m xs

  -- relation q's words stand at their own places
  pub relation_at : (m : ℕ) (xs : List ℕ) → ((q : ℕ) → q < m → length (w q) ≤ 64) → 64 * m ≤ length xs → (q i : ℕ) → q < m → i < length (w q)
      → get_or (relations_laid w m xs) (64 * q + i) 0 ≡ get_or (w q) i 0
  unfolding relations_laid
  relation_at zero xs few room q i h b = absurd (omega arith)
  relation_at (suc m) xs few room q i h b = go (ℕ_discrete q m) (λ r. relation_at m xs (λ p o. few p (omega arith)) (omega arith) q i r b)
    where
      go : Dec (q ≡ m) → (q < m → get_or (relations_laid w m xs) (64 * q + i) 0 ≡ get_or (w q) i 0)
          → get_or (laid (relations_laid w m xs) (64 * m) (w m)) (64 * q + i) 0 ≡ get_or (w q) i 0
      go (yes e) before = rw e (laid_at (relations_laid w m xs) (64 * m) (w m) i (rw e at b) (omega (arith, relations_length m xs, few m (omega arith))))
      go (no e) before = laid_before (relations_laid w m xs) (64 * m) (w m) (64 * q + i) (omega (arith, few q h)) ∙ before (omega arith)

  -- behind them the list is as it was
  pub relation_rest : (m : ℕ) (xs : List ℕ) → ((q : ℕ) → q < m → length (w q) ≤ 64) → (q i : ℕ) → length (w q) ≤ i → i < 64
      → get_or (relations_laid w m xs) (64 * q + i) 0 ≡ get_or xs (64 * q + i) 0
  unfolding relations_laid
  relation_rest zero xs few q i b h = refl
  relation_rest (suc m) xs few q i b h = go (ℕ_discrete q m) (dec_lt q m) ∙ relation_rest m xs (λ p o. few p (omega arith)) q i b h
    where
      go : Dec (q ≡ m) → Dec (q < m) → get_or (laid (relations_laid w m xs) (64 * m) (w m)) (64 * q + i) 0 ≡ get_or (relations_laid w m xs) (64 * q + i) 0
      go (yes e) d = rw e (laid_behind (relations_laid w m xs) (64 * m) (w m) (64 * m + i) (let o : length (w m) ≤ i = rw e at b in omega arith))
      go (no e) (yes d) = laid_before (relations_laid w m xs) (64 * m) (w m) (64 * q + i) (omega arith)
      go (no e) (no d) = laid_behind (relations_laid w m xs) (64 * m) (w m) (64 * q + i) (omega (arith, few m (omega arith)))

  pub relations_agree : (v : ℕ → List ℕ) (m : ℕ) (xs : List ℕ) → ((q : ℕ) → q < m → w q ≡ v q) → relations_laid w m xs ≡ relations_laid v m xs
  unfolding relations_laid
  relations_agree v zero xs e = refl
  relations_agree v (suc m) xs e = rw (relations_agree v m xs (λ q h. e q (omega arith)), e m (omega arith))

-- the words of a relation one level down, as `coarsen` asks for them
pub below_words : {c : ℕ} (t f n m : List ℕ) (q : ℕ) → c ≡ column_no (q % 6)
    → tabulate (composed_word (get_or n (q / 6) 0) (words_at f (64 * (2 * (q / 6) + q % 6 % 2))) (words_at t (64 * q)) (words_at f (64 * (2 * (q / 6) + c)))) (get_or m (q / 6) 0) 0
    ≡ words_below t f n m q
unfolding words_below
below_words t f n m q e = rw e

-- the same where they are cut out of the lists
pub below_cut : {c u v w : ℕ} (t f n m : List ℕ) (q : ℕ) → c ≡ column_no (q % 6)
    → u ≡ get_or n (q / 6) 0 → v ≡ get_or n (q / 6) 0 → w ≡ get_or n (q / 6) 0
    → 64 * (2 * (q / 6) + q % 6 % 2) + get_or n (q / 6) 0 ≤ length f → 64 * q + get_or n (q / 6) 0 ≤ length t
    → 64 * (2 * (q / 6) + c) + get_or n (q / 6) 0 ≤ length f
    → tabulate (composed_word (length (take u (drop (64 * (2 * (q / 6) + q % 6 % 2)) f))) (entry_at (take u (drop (64 * (2 * (q / 6) + q % 6 % 2)) f)))
    (entry_at (take v (drop (64 * q) t))) (entry_at (take w (drop (64 * (2 * (q / 6) + c)) f)))) (get_or m (q / 6) 0) 0
    ≡ words_below t f n m q
below_cut t f n m q e eu ev ew hf ht hg =
    (λ i. tabulate (λ k. composed_cut f t f _ _ _ (get_or n (q / 6) 0) eu ev ew hf ht hg k i) (get_or m (q / 6) 0) 0) ∙ below_words t f n m q e

-- ---- the columns of a row

-- the columns of a row that is held fixed, and of another
pub own_listed : {xs ys : List ℕ} {at n : ℕ} {fixed : Bool} (t : List ℕ) (g : Grid3d) (r : ℕ) (p : Position)
    → fixed ≡ true → Listed xs at (keep true r []) ys n → Listed xs at (row_columns t g fixed r p) ys n
unfolding row_columns
own_listed t g r p e h = rw e h

pub picked_listed : {xs ys : List ℕ} {at n : ℕ} {fixed : Bool} {x y z : Picks} (t : List ℕ) (g : Grid3d) (r : ℕ) (p : Position)
    → fixed ≡ false
    → x ≡ picks_of t p.component 0 p.i p.j p.k
    → y ≡ picks_of t p.component 1 p.i p.j p.k
    → z ≡ picks_of t p.component 2 p.i p.j p.k
    → Listed xs at (row x y z g.nx g.ny g.nz) ys n
    → Listed xs at (row_columns t g fixed r p) ys n
unfolding row_columns
picked_listed t g r p e ex ey ez h = rw (e, ← ex, ← ey, ← ez) h

-- a row's number does not change how many columns it has
pub row_many : (t : List ℕ) (g : Grid3d) (fixed : Bool) (r s : ℕ) (p : Position)
    → length (row_columns t g fixed r p) ≡ length (row_columns t g fixed s p)
unfolding row_columns
row_many t g true r s p = refl
row_many t g false r s p = refl
