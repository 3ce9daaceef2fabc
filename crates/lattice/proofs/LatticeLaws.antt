-- The lists of a lattice record: each place of the stretches, by the axis that it belongs to.
-- Assumes nothing.
use Prim.Native.Nat.{ℕ, ◌+◌, ◌*◌, ◌<◌}
use mathlib.Core.Path.{◌≡◌, refl, sym, ◌∙◌, ap, subst}
use mathlib.Core.List.{List}
use native.Mathlib.Omega.{arith}
use native.Mathlib.Decide.{ℕ_discrete}
use native.Mathlib.Nat.{not-suc-le-zero}
use lib.ListN.{length, replicate}
use lib.Ieee.{Float}
use Rattle.numbers.specs.declared.C64.{C64}
use Rattle.numbers.specs.Complex.{no_number}
use Rattle.numbers.specs.Places.{places, number_at, set_number, found_at}
use Rattle.numbers.proofs.Laws.{length_set_number, number_same, number_other, found_held}
use Rattle.lattice.specs.Grid.{axis3, n_of}
use Rattle.lattice.specs.Lattice.{full_lattice, nodes_at, halves_at, half_no, stretch_at, lattice_of, Lengths, LaidStretches}
use Rattle.lattice.specs.declared.lattice.Lattice.{Lattice}
use Rattle.lattice.specs.declared.grid.Grid3d.{Grid3d}
use Rattle.lattice.proofs.GridLaws.{axis_both}
use Rattle.numbers.proofs.TabulateLaws.{tabulate_at_0, tabulate_agree, Filled, filled_start}
use Rattle.numbers.proofs.Equations.{places_is}

-- the list of an axis has the numbers below the axis's cells
pub axis_room : {g : Grid3d} {xs ys zs : List Float} → Lengths g xs ys zs → (a m : ℕ) → m < n_of g a → 2 * m + 1 < length (axis3 a xs ys zs)
unfolding n_of
axis_room l a m =
    axis_both (λ (n : ℕ) (l : List Float). m < n → 2 * m + 1 < length l) a
    (λ h. omega (arith, l.x_long, h)) (λ h. omega (arith, l.y_long, h)) (λ h. omega (arith, l.z_long, h))

-- an array is made of n times a value that a call gave
pub filled_first : {A : Type 0} {f : ℕ → A} {z d y : A} {n : ℕ} → y ≡ z → Filled f z d n 0 (replicate n y)
filled_first {A} {f} {z} {d} {y} {n} e = subst (λ (x : A). Filled f z d n 0 (replicate n x)) (sym e) filled_start

-- ---- the list of stretches

-- the record's stretches are those of the list
pub node_is : (l : Lattice) (st : List Float) (a m : ℕ) → a < 3 → m < 64 → found_at st (64 * a + m) ≡ nodes_at (full_lattice l st) a m
unfolding nodes_at
node_is l st a m h b = sym (tabulate_at_0 (found_at st) 192 (64 * a + m) no_number (omega arith))

pub half_is : (l : Lattice) (st : List Float) (a m : ℕ) → a < 3 → m < 64 → found_at st (192 + 64 * a + m) ≡ halves_at (full_lattice l st) a m
unfolding halves_at
half_is l st a m h b =
    let e : 192 + 64 * a + m ≡ 192 + (64 * a + m) = omega arith in
    ap (found_at st) e ∙ sym (tabulate_at_0 (half_no st) 192 (64 * a + m) no_number (omega arith))

pub laid_start : (f : ℕ → C64) (from : ℕ) (xs : List Float) → LaidStretches f from 0 xs xs
laid_start f from xs =
    record { long = refl; inside = λ k h b. absurd (not-suc-le-zero h); before = λ k h. refl; behind = λ k h. refl }

pub laid_turn : {f : ℕ → C64} {from q : ℕ} {xs ys : List Float} {v : C64} → LaidStretches f from q xs ys → v ≡ f q
    → LaidStretches f from (q + 1) xs (set_number ys (from + q) v)
laid_turn {f} {from} {q} {xs} {ys} {v} l e =
    record {
      long = length_set_number ys (from + q) v ∙ l.long;
      inside = λ k h b. go k h b (ℕ_discrete k q);
      before = λ k h. number_other ys (from + q) k v (omega arith) ∙ l.before k h;
      behind = λ k h. number_other ys (from + q) k v (omega arith) ∙ l.behind k (omega arith);
    }
  where
    go : (k : ℕ) → k < q + 1 → from + k < places xs → Dec (k ≡ q) → number_at (set_number ys (from + q) v) (from + k) ≡ f k
    go k h b (yes o) =
        subst (λ (j : ℕ). number_at (set_number ys (from + q) v) (from + j) ≡ f j) (sym o)
        (number_same ys (from + q) v (omega (arith, l.long, places_is xs, places_is ys)) ∙ e)
    go k h b (no n) = number_other ys (from + q) (from + k) v (omega arith) ∙ l.inside k (omega arith) b

-- both halves of the list make the record of the six lists
module _ (v : Lattice) (xn xh yn yh zn zh : List Float) where
  pub full_lattice_is : {xs ys zs : List Float} → length xs ≡ 768 → LaidStretches (stretch_at v.grid xn yn zn) 0 192 xs ys
      → LaidStretches (stretch_at v.grid xh yh zh) 192 192 ys zs → (length zs ≡ 768) × (full_lattice v zs ≡ lattice_of v xn xh yn yh zn zh)
  unfolding lattice_of
  full_lattice_is {xs} {ys} {zs} e a b = (
    long,
    λ i.
        record {
          grid = v.grid;
          x = v.x;
          y = v.y;
          z = v.z;
          k0 = v.k0;
          shift = v.shift;
          nodes = tabulate_agree (found_at zs) (stretch_at v.grid xn yn zn) 192 no_number low i;
          halves = tabulate_agree (half_no zs) (stretch_at v.grid xh yh zh) 192 no_number high i;
        },
  )
    where
      long : length zs ≡ 768
      long = b.long ∙ a.long ∙ e

      low : (k : ℕ) → k < 192 → found_at zs k ≡ stretch_at v.grid xn yn zn k
      low k h = sym (found_held zs k (omega (arith, long))) ∙ b.before k h ∙ first k h
        where
          first : (k : ℕ) → k < 192 → number_at ys k ≡ stretch_at v.grid xn yn zn k
          first k h =
              let o : 0 + k ≡ k = omega arith in
              subst (λ (j : ℕ). number_at ys j ≡ stretch_at v.grid xn yn zn k) o (a.inside k h (omega (arith, e, places_is xs)))

      high : (k : ℕ) → k < 192 → half_no zs k ≡ stretch_at v.grid xh yh zh k
      high k h = sym (found_held zs (192 + k) (omega (arith, long))) ∙ b.inside k h (omega (arith, a.long, e, places_is ys))

-- the cells are the record's
pub lattice_grid : (v : Lattice) (xn xh yn yh zn zh : List Float) → (lattice_of v xn xh yn yh zn zh).grid ≡ v.grid
unfolding lattice_of
lattice_grid v xn xh yn yh zn zh = refl
