-- Volumes of a lattice's edges, the shares of a coarse level and their inverses, and what each of them reads.
-- Assumes nothing.
use Prim.Native.Nat.{ℕ, suc, ◌+◌, ◌-◌, ◌*◌, ◌<◌, ◌≤◌, ◌^◌}
use mathlib.Core.Path.{◌≡◌, refl, sym, ap, ◌∙◌}
use mathlib.Core.Bool.{Bool, true, false, ◌&&◌}
use mathlib.Core.List.Memᴰ.{head}
use mathlib.Core.List.Memᴰ.{tail}
use mathlib.Core.List.{List, [], ◌∷◌, Memᴰ as In}
use native.Mathlib.Omega.{arith}
use native.Mathlib.Numerals.{add-one}
use native.Mathlib.Decide.{ℕ_discrete}
use borrow.Author.Tests.{eq-eqb, ne_eqb}
use lib.ListN.{length, get_or}
use lib.Ieee.{Float}
use Rattle.numbers.specs.declared.C64.{C64}
use Rattle.numbers.specs.Complex.{one_f, zero_number, one_number, sum, product, real_over, real_times, finite, is_zero}
use Rattle.numbers.specs.Places.{number_at, set_number}
use Rattle.numbers.proofs.Laws.{and_true, and_false}
use Rattle.lattice.specs.declared.grid.Grid3d.{Grid3d}
use Rattle.lattice.specs.declared.grid.Position.{Position}
use Rattle.lattice.specs.Grid.{step_of, place_on, at_of, Limits, Inside}
use Rattle.lattice.specs.Lattice.{FullLattice, nodes_at, halves_at}
use Rattle.numbers.specs.Lists.{tabulate, rows, laid_numbers, all_finite, read_from}
use Rattle.numbers.specs.Terms.{Term, columns_of, terms_in, stored_row, Stored}
use Rattle.lattice.proofs.GridLaws.{n_most, place_inside}
use Rattle.numbers.proofs.TabulateLaws.{length_tabulate}
use Rattle.numbers.proofs.ListLaws.{laid_one, laid_numbers_before, laid_numbers_same, read_back, Laying, laying_start, laying_turn, laying_end}
use Rattle.numbers.proofs.TransposeLaws.{row_of}
use Rattle.numbers.proofs.Equations.{columns_of_cons, terms_in_zero, terms_in_suc, stored_row_is, read_from_is}
use Rattle.numbers.proofs.ElementLaws.{alone, rows_alone, terms_low}
use Rattle.operators.specs.Volumes.{side_of, volume_at, volume_of, weighted, share_of, inverse_of, inverse_share, share_finite, shares_finite, SharesRoom}

-- ---- the volume of an edge's cell

pub place_few : {g : Grid3d} {p : Position} {m : ℕ} → Limits g → Inside g p → (a : ℕ) → m ≡ place_on p a → m < 64
place_few h i a e = omega (arith, place_inside i a, n_most h a)

module _ (l : FullLattice) (p : Position) (a : ℕ) where
  pub side_along : {m : ℕ} {s : Float} {h v : C64} → a ≡ p.component → m ≡ place_on p a → s ≡ step_of l.grid a → h ≡ halves_at l a m → v ≡ real_times s h
      → v ≡ side_of l p a
  unfolding side_of
  side_along q e f o w = rw (eq-eqb a p.component q, ← e, ← f, ← o) w

  pub side_across : {m : ℕ} {s : Float} {n v : C64} → (a ≡ p.component → ⊥) → m ≡ place_on p a → s ≡ step_of l.grid a → n ≡ nodes_at l a m → v ≡ real_times s n
      → v ≡ side_of l p a
  unfolding side_of
  side_across q e f o w = rw (ne_eqb a p.component q, ← e, ← f, ← o) w

pub volume_is : (l : FullLattice) (r : ℕ) {p : Position} {one x y z u v w : C64} → p ≡ at_of l.grid r → one ≡ one_number → x ≡ side_of l p 0 → u ≡ product one x
    → y ≡ side_of l p 1 → v ≡ product u y → z ≡ side_of l p 2 → w ≡ product v z → w ≡ volume_of l r
unfolding volume_of volume_at
volume_is l r e o x u y v z w = rw (← e, ← o, ← x, ← u, ← y, ← v, ← z) w

-- a volume reads the grid, the stretch half a step after the edge's node along its component, and the stretch at that node across it: no permittivity
side_local : (l k : FullLattice) (p : Position) (a : ℕ) → l.grid ≡ k.grid → (a ≡ p.component → halves_at l a (place_on p a) ≡ halves_at k a (place_on p a))
    → ((a ≡ p.component → ⊥) → nodes_at l a (place_on p a) ≡ nodes_at k a (place_on p a)) → side_of l p a ≡ side_of k p a
unfolding side_of
side_local l k p a e h n = go (ℕ_discrete a p.component)
  where
    go : Dec (a ≡ p.component) → side_of l p a ≡ side_of k p a
    go (yes q) = rw (eq-eqb a p.component q, h q, e)
    go (no q) = rw (ne_eqb a p.component q, n q, e)

pub volume_local : (l k : FullLattice) (r : ℕ) → l.grid ≡ k.grid
    → ((a : ℕ) → a ≡ (at_of l.grid r).component → halves_at l a (place_on (at_of l.grid r) a) ≡ halves_at k a (place_on (at_of l.grid r) a))
    → ((a : ℕ) → a < 3 → (a ≡ (at_of l.grid r).component → ⊥) → nodes_at l a (place_on (at_of l.grid r) a) ≡ nodes_at k a (place_on (at_of l.grid r) a))
    → volume_of l r ≡ volume_of k r
unfolding volume_of volume_at
volume_local l k r e h n =
    let p : Position = at_of l.grid r in
    let side : (a : ℕ) → a < 3 → side_of l p a ≡ side_of k p a = λ a b. side_local l k p a e (h a) (n a b) in
    (λ i. product (product (product one_number (side 0 (omega arith) i)) (side 1 (omega arith) i)) (side 2 (omega arith) i))
    ∙ ap (λ (g : Grid3d). volume_at k (at_of g r)) e

-- ---- numbers laid over a list, one at each turn

-- m of n numbers laid from place k on
pub record Placing (f : ℕ → C64) (n k : ℕ) (xs ys : List Float) (m : ℕ) : Type 0 where
  pub laying : Laying set_number (alone f) n k xs ys (k + m) m

module _ {f : ℕ → C64} {n k : ℕ} {xs : List Float} where
  pub placing_start : Placing f n k xs xs 0
  placing_start = let e : k + 0 ≡ k = omega arith in record { laying = rw e laying_start }

  pub placing_turn : {m : ℕ} {ys zs : List Float} {v : C64} → Placing f n k xs ys m → m < n → v ≡ f m → zs ≡ set_number ys (k + m) v → Placing f n k xs zs (m + 1)
  placing_turn {m} {ys} {zs} {v} p h e q =
      record { laying = laying_turn p.laying h (laid_one (q ∙ ap (set_number ys (k + m)) e) (omega arith)) }

  pub placing_long : {m : ℕ} {ys : List Float} → Placing f n k xs ys m → length ys ≡ length xs
  placing_long p = laid_numbers_same p.laying.wrote

  -- what stands before place k is as it was
  placing_before : {m : ℕ} {ys : List Float} → Placing f n k xs ys m → (j : ℕ) → j < k → number_at ys j ≡ number_at xs j
  placing_before {m} {ys} p j h =
      ap (λ (zs : List Float). number_at zs j) p.laying.wrote.list ∙ laid_numbers_before xs k (rows (alone f) m) j h

  pub placing_end : {m : ℕ} {ys : List Float} → Placing f n k xs ys m → n ≤ m → ys ≡ laid_numbers xs k (tabulate f n 0)
  placing_end p h = (laying_end p.laying h).list ∙ ap (laid_numbers xs k) (rows_alone f n)

  -- and they are read back
  pub placing_finite : {m : ℕ} {ys : List Float} {b : Bool} → Placing f n k xs ys m → n ≤ m → 2 * (k + n) ≤ length xs → b ≡ all_finite (tabulate (number_at ys) n k)
      → b ≡ all_finite (tabulate f n 0)
  placing_finite {m} {ys} {b} p h r e =
      let o : length (tabulate f n 0) ≡ n = length_tabulate f n 0 in
      let u : tabulate (number_at ys) n k ≡ tabulate f n 0 =
      (λ i. tabulate (number_at (placing_end p h i)) (sym o i) k) ∙ read_back xs k (tabulate f n 0) (omega arith) in
      e ∙ ap all_finite u

-- ---- the share of a row of terms

pub record Weighing (v : ℕ → C64) (cs : List ℕ) (xs : List Float) (first last q : ℕ) (s : C64) : Type 0 where
  pub low : first ≤ q
  pub same : weighted v s (terms_in cs xs q (last - q)) ≡ weighted v zero_number (terms_in cs xs first (last - first))

module _ {v : ℕ → C64} {cs : List ℕ} {xs : List Float} {first last : ℕ} where
  pub weighing_start : {s : C64} → s ≡ zero_number → Weighing v cs xs first last first s
  weighing_start e = record { low = omega arith; same = ap (λ (t : C64). weighted v t (terms_in cs xs first (last - first))) e }

  pub weighing_turn : {q : ℕ} {s t x y z : C64} → Weighing v cs xs first last q s → q < last → x ≡ v (get_or cs q 0) → y ≡ number_at xs q → z ≡ product y x
      → t ≡ sum s z → Weighing v cs xs first last (q + 1) t
  unfolding weighted
  weighing_turn {q} {s} {t} {x} {y} {z} w h a b c d =
      let e : last - q ≡ suc (last - (q + 1)) = omega arith in
      record { low = omega (arith, w.low); same = rw (d, c, b, a, add-one q) (rw (e, terms_in_suc cs xs q (last - (q + 1)), add-one q) at w.same) }

  pub weighing_end : {q : ℕ} {s : C64} → Weighing v cs xs first last q s → last ≤ q → s ≡ weighted v zero_number (terms_in cs xs first (last - first))
  unfolding weighted
  weighing_end {q} {s} w h = let e : last - q ≡ 0 = omega arith in rw (e, terms_in_zero cs xs q) at w.same

module _ (x : C64) {r : C64} {b : Bool} (e : b ≡ is_zero x) where
  pub inverse_none : b ≡ true → r ≡ one_number → r ≡ inverse_of x
  unfolding inverse_of
  inverse_none h q = rw (← e, h) q

  pub inverse_some : b ≡ false → r ≡ real_over one_f x → r ≡ inverse_of x
  unfolding inverse_of
  inverse_some h q = rw (← e, h) q

-- ---- rows that stand in lists

module _ {starts : List ℕ} {s : ℕ} {cs : List ℕ} {xs : List Float} {k m n c : ℕ} (u : Stored starts s cs xs k m n) (h : c < m) where
  pub row_most : get_or starts (s + c + 1) 0 ≤ get_or starts (s + m) 0
  row_most = (row_of u c h).most

  -- each column of the row is below n
  row_low : (q : ℕ) → k + get_or starts (s + c) 0 ≤ q → q < k + get_or starts (s + c + 1) 0 → get_or cs q 0 < n
  row_low q a b =
      let e : k + (q - k) ≡ q = omega arith in
      rw e at (u.columns_low (q - k) (omega (arith, row_most)))

  pub row_room : (ys : List Float) (j : ℕ) → j ≤ 2 ^ 32 → 2 * (j + n) ≤ length ys
      → SharesRoom cs (k + get_or starts (s + c) 0) (k + get_or starts (s + c + 1) 0) ys j
  row_room ys j l r =
      record {
        column_in_is = λ q a b. omega (arith, row_low q a b);
        column_low = λ q a b. omega (arith, row_low q a b, u.columns_few);
        low = l;
      }

  pub row_share : (v : ℕ → C64) {x : C64}
      → x
      ≡ weighted v zero_number
      (terms_in cs xs (k + get_or starts (s + c) 0) (k + get_or starts (s + c + 1) 0 - (k + get_or starts (s + c) 0)))
      → x ≡ share_of (stored_row starts s cs xs k) v c
  unfolding share_of
  row_share v e =
      let d : k + get_or starts (s + c + 1) 0 - (k + get_or starts (s + c) 0) ≡ get_or starts (s + c + 1) 0 - get_or starts (s + c) 0 = omega arith in
      rw (stored_row_is starts s cs xs k c) (rw d at e)

-- the share and its inverse, and whether both are finite
module _ (R : ℕ → List Term) (v : ℕ → C64) (c : ℕ) {x y : C64} (e : x ≡ share_of R v c) (o : y ≡ inverse_of x) where
  pub inverse_is : y ≡ inverse_share R v c
  unfolding inverse_share
  inverse_is = o ∙ ap inverse_of e

  module _ {p : Bool} (d : p ≡ finite x) where
    pub finite_both : {q : Bool} → p ≡ true → q ≡ finite y → q ≡ share_finite R v c
    unfolding share_finite
    finite_both t i = rw (← e, ← inverse_is) (i ∙ sym (and_true (finite x) (finite y) (sym d ∙ t)))

    pub finite_first : p ≡ false → p ≡ share_finite R v c
    unfolding share_finite
    finite_first t = rw (← e, ← inverse_is) (d ∙ sym (and_false (finite x) (finite y) (sym d ∙ t)))

-- ---- what shares read

weighted_local : (v w : ℕ → C64) (ts : List Term) (s : C64) → ((c : ℕ) → In c (columns_of ts) → v c ≡ w c) → weighted v s ts ≡ weighted w s ts
unfolding weighted
weighted_local v w [] s h = refl
weighted_local v w (t ∷ ts) s h =
    rw (h t.column (rw (columns_of_cons t ts) (head refl)))
    (weighted_local v w ts (sum s (product t.number (w t.column))) (λ c m. h c (rw (columns_of_cons t ts) (tail m))))

-- a share sees its row, and of the volumes those at the row's columns
module _ (R R' : ℕ → List Term) (v w : ℕ → C64) (c : ℕ) (e : R c ≡ R' c) (h : (d : ℕ) → In d (columns_of (R c)) → v d ≡ w d) where
  pub share_local : share_of R v c ≡ share_of R' w c
  unfolding share_of
  share_local = weighted_local v w (R c) zero_number h ∙ ap (weighted w zero_number) e

  pub inverse_local : inverse_share R v c ≡ inverse_share R' w c
  unfolding inverse_share
  inverse_local = ap inverse_of share_local

-- ---- the inverse shares, c of m laid behind the volumes

pub record Sharing (R : ℕ → List Term) (v : ℕ → C64) (m to : ℕ) (xs ys : List Float) (c : ℕ) (b : Bool) : Type 0 where
  pub placed : Placing (inverse_share R v) m to xs ys c
  pub seen : b ≡ shares_finite R v c

pub sharing_start : {R : ℕ → List Term} {v : ℕ → C64} {m to : ℕ} {xs : List Float} → Sharing R v m to xs xs 0 true
unfolding shares_finite
sharing_start = record { placed = placing_start; seen = refl }

-- a share is worked out while the volumes still stand
module _ {starts : List ℕ} {s : ℕ} {cs : List ℕ} {ws : List Float} {p m n to c : ℕ} {xs ys : List Float} {b : Bool} (k : ℕ)
    (u : Stored starts s cs ws p m n) (apart : k + n ≤ to) (t : Sharing (stored_row starts s cs ws p) (read_from xs k) m to xs ys c b) (h : c < m) where
  volume_kept : (d : ℕ) → In d (columns_of (stored_row starts s cs ws p c)) → read_from ys k d ≡ read_from xs k d
  volume_kept d i =
      let l : d < n =
      terms_low cs ws (p + get_or starts (s + c) 0) (get_or starts (s + c + 1) 0 - get_or starts (s + c) 0) n
      (λ q f g. row_low u h q f (omega (arith, u.rise c h))) d (rw (stored_row_is starts s cs ws p c) at i) in
      rw (read_from_is ys k d, read_from_is xs k d) (placing_before t.placed (k + d) (omega arith))

  share_kept : share_of (stored_row starts s cs ws p) (read_from ys k) c ≡ share_of (stored_row starts s cs ws p) (read_from xs k) c
  share_kept = share_local (stored_row starts s cs ws p) (stored_row starts s cs ws p) (read_from ys k) (read_from xs k) c refl volume_kept

  inverse_kept : inverse_share (stored_row starts s cs ws p) (read_from ys k) c ≡ inverse_share (stored_row starts s cs ws p) (read_from xs k) c
  unfolding inverse_share
  inverse_kept = ap inverse_of share_kept

  finite_kept : share_finite (stored_row starts s cs ws p) (read_from ys k) c ≡ share_finite (stored_row starts s cs ws p) (read_from xs k) c
  unfolding share_finite
  finite_kept = rw (share_kept, inverse_kept)

  pub sharing_turn : {zs : List Float} {f g : Bool} → zs ≡ set_number ys (to + c) (inverse_share (stored_row starts s cs ws p) (read_from ys k) c)
      → f ≡ share_finite (stored_row starts s cs ws p) (read_from ys k) c → g ≡ (b && f)
      → Sharing (stored_row starts s cs ws p) (read_from xs k) m to xs zs (c + 1) g
  unfolding shares_finite
  sharing_turn z e o =
      record {
        placed = placing_turn t.placed h inverse_kept z;
        seen = rw (add-one c, ← t.seen, ← finite_kept, ← e) o;
      }

pub sharing_end : {R : ℕ → List Term} {v : ℕ → C64} {m to c : ℕ} {xs ys : List Float} {b : Bool} → Sharing R v m to xs ys c b → m ≤ c
    → (ys ≡ laid_numbers xs to (tabulate (inverse_share R v) m 0)) × (b ≡ shares_finite R v m)
sharing_end {R} {v} {m} {to} {c} {xs} {ys} {b} t h =
    let e : c ≡ m = omega (arith, t.placed.laying.high) in
    (placing_end t.placed h, rw e at t.seen)
