-- The numbers of one row of the prolongation, from the lists of slots: how many there are, and that they are laid and can be read back.
-- Assumes nothing.
use Prim.Native.Nat.{ℕ, ◌+◌, ◌-◌, ◌*◌, ◌<◌, ◌≤◌, ◌^◌}
use mathlib.Core.Path.{◌≡◌, refl, sym, ap, ◌∙◌}
use mathlib.Core.List.{List}
use native.Mathlib.Omega.{arith}
use native.Mathlib.Nat.{mul_assoc}
use lib.ListN.{length, get_or}
use lib.Ieee.{Float}
use Rattle.numbers.specs.declared.C64.{C64}
use Rattle.numbers.specs.Places.{number_at, set_number}
use Rattle.numbers.specs.Lists.{tabulate, Laid, laid_numbers, all_finite}
use Rattle.numbers.proofs.TabulateLaws.{length_tabulate}
use Rattle.numbers.proofs.EachLaws.{each_count}
use Rattle.lattice.specs.declared.grid.Grid3d.{Grid3d}
use Rattle.lattice.specs.declared.grid.Position.{Position}
use Rattle.lattice.specs.Grid.{at_of, unknowns_of, Limits}
use Rattle.lattice.proofs.GridLaws.{at_inside}
use Rattle.weights.specs.Tables.{slot_on, pull_in, pulls_in, number_in, numbers_in_z, numbers_in_y, numbers_in, PlacesOf, numbers_row, count_in}
use Rattle.weights.proofs.MeaningLaws.{read_room, read_same}
use Rattle.weights.proofs.RepeatLaws.{count_few}

-- ---- how many numbers a row has

module _ (gf gc : Grid3d) (f g : ℕ → C64) (ps ds ns : List ℕ) (xs : List Float) (p : Position) where
  pub numbers_long : length (numbers_in gf gc f g ps ds ns xs p) ≡ count_in ns p
  unfolding numbers_in numbers_in_y numbers_in_z number_in count_in
  numbers_long =
      let x = get_or ns (slot_on p 0 p.i) 0 in
      let y = get_or ns (slot_on p 1 p.j) 0 in
      let z = get_or ns (slot_on p 2 p.k) 0 in
      let lx : length (pulls_in ps ds xs (2 * slot_on p 0 p.i) x) ≡ x = length_tabulate (pull_in ps ds xs) x (2 * slot_on p 0 p.i) in
      let ly : length (pulls_in ps ds xs (2 * slot_on p 1 p.j) y) ≡ y = length_tabulate (pull_in ps ds xs) y (2 * slot_on p 1 p.j) in
      let lz : length (pulls_in ps ds xs (2 * slot_on p 2 p.k) z) ≡ z = length_tabulate (pull_in ps ds xs) z (2 * slot_on p 2 p.k) in
      let one : z * 1 ≡ z = omega arith in
      let e : length (numbers_in gf gc f g ps ds ns xs p) ≡ x * (y * (z * 1)) =
      each_count (numbers_in_y gf gc f g ps ds ns xs p) (y * (z * 1))
      (λ u. each_count (numbers_in_z gf gc f g ps ds ns xs p u) (z * 1)
      (λ v. each_count (number_in gf gc f g p u v) 1 (λ w. refl) (pulls_in ps ds xs (2 * slot_on p 2 p.k) z) ∙ ap (λ (m : ℕ). m * 1) lz)
      (pulls_in ps ds xs (2 * slot_on p 1 p.j) y)
      ∙ ap (λ (m : ℕ). m * (z * 1)) ly)
      (pulls_in ps ds xs (2 * slot_on p 0 p.i) x)
      ∙ ap (λ (m : ℕ). m * (y * (z * 1))) lx in
      e ∙ rw one (sym (mul_assoc x y z))

-- ---- the numbers of a row, laid

pub row_few : {gf gc : Grid3d} {ps ns : List ℕ} {r : ℕ} → Limits gf → PlacesOf gc ps ns → r < unknowns_of gf → count_in ns (at_of gf r) ≤ 8
row_few {gf} {gc} {ps} {ns} {r} l u h = count_few l (at_inside l r h) (record { long = u.counts_long; few = u.few })

-- they can be read back, and the test is of them
module _ (gf gc : Grid3d) (f g : ℕ → C64) (ps ds ns : List ℕ) (xs : List Float) (r : ℕ) {p : Position} (e : p ≡ at_of gf r) where
  row_laid_lem : {ys zs : List Float} {k last : ℕ} → Laid set_number ys k (numbers_in gf gc f g ps ds ns xs p) zs last → Laid set_number ys k (numbers_row gf gc f g ps ds ns xs r) zs last
  unfolding numbers_row
  row_laid_lem w = rw e at w

  row_long : length (numbers_row gf gc f g ps ds ns xs r) ≡ count_in ns (at_of gf r)
  unfolding numbers_row
  row_long = numbers_long gf gc f g ps ds ns xs (at_of gf r)

  module _ {ys zs : List Float} {k last : ℕ} (w : Laid set_number ys k (numbers_in gf gc f g ps ds ns xs p) zs last) where
    pub row_is : zs ≡ laid_numbers ys k (numbers_row gf gc f g ps ds ns xs r)
    row_is = (row_laid_lem w).list

    pub row_room : count_in ns (at_of gf r) ≤ 8 → k ≤ 2 ^ 32 → 2 * (k + count_in ns (at_of gf r)) ≤ length ys → (k + (last - k) < 2 ^ 40) × (2 * (k + (last - k)) ≤ length zs)
    row_room few low room = read_room (row_laid_lem w) row_long (omega arith) low room

    pub row_finite : 2 * (k + count_in ns (at_of gf r)) ≤ length ys → all_finite (tabulate (number_at zs) (last - k) k) ≡ all_finite (numbers_row gf gc f g ps ds ns xs r)
    row_finite room = read_same (row_laid_lem w) row_long room
