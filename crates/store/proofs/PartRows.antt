-- The parts one behind another are all rows; and the rows whose flag is set, where the flags tell the rows that a change reaches, are the reached rows.
-- Assumes nothing.
use Prim.Native.Nat.{ℕ, zero, suc, ◌+◌, ◌*◌, ◌/◌, ◌%◌, ◌≤◌, ◌<◌}
use mathlib.Core.Path.{◌≡◌, refl, sym, ap, ◌∙◌}
use mathlib.Core.List.{List, [], ◌∷◌, ◌++◌, append_assoc}
use mathlib.Core.Bool.{Bool, cond}
use native.Mathlib.Omega.{arith}
use Rattle.lattice.specs.Grid.{Limits}
use Rattle.lattice.specs.Lattice.{FullLattice}
use Rattle.operators.specs.LevelLists.{edges_on}
use Rattle.numbers.specs.Lists.{tabulate}
use Rattle.numbers.proofs.Equations.{tabulate_zero}
use Rattle.numbers.proofs.ListLaws.{tabulate_more}
use Rattle.store.specs.FillSteps.{only_count}
use Rattle.store.specs.Plan.{reached}
use Rattle.store.specs.Spots.{permittivity, spot, cells}
use Rattle.store.specs.Rows.{Row, coarse, averaged, forward, turned, volume, share, operator, only, group, groups, full, rules}
use Rattle.store.specs.Reach.{hit}
use Rattle.store.specs.Parts.{row_by, size_by, part_size, part_row, part_off, part_count, flag_at, flagged_to, flagged_parts, flagged_rows, FlagsOf}
use Rattle.store.specs.declared.Choice.{Choice}
use Rattle.store.specs.declared.Choice.TheVariants.{Galerkin, Rediscretized}
use Rattle.store.proofs.PlanWork.{picked, picked_append}
use Rattle.store.proofs.ReachLaws.{flags_reached}

only_tabulated : (ch : Choice) (f : ℕ → Row) (n : ℕ) → tabulate f (only_count ch n) 0 ≡ only ch (tabulate f n 0)
only_tabulated Galerkin f n = tabulate_zero f 0
only_tabulated Rediscretized f n = refl

module _ (l : FullLattice) (ch : Choice) (m : ℕ) where
  abbrev part_rows : ℕ → List Row
  part_rows p = tabulate (part_row p) (part_size l ch m p) 0

  -- the rows of the first n parts
  unfoldable parts_to : ℕ → List Row
  parts_to zero = []
  parts_to (suc n) = parts_to n ++ part_rows n

  -- part k of the transfer from level L + 1 to L
  part_by : (L k p : ℕ) → k < 7 → p ≡ suc (7 * L + k) → part_rows p ≡ tabulate (row_by k L) (size_by l ch k L) 0
  unfolding part_row part_size
  part_by L k p h e =
      let r : (7 * L + k) % 7 ≡ k = omega arith in
      let d : (7 * L + k) / 7 ≡ L = omega arith in
      rw e (λ i. tabulate (row_by (r i) (d i)) (size_by l ch (r i) (d i)) 0)

  seven : (L : ℕ) → parts_to (suc (7 * suc L)) ≡ parts_to (suc (7 * L)) ++ group l ch L
  unfolding parts_to row_by size_by
  seven L =
      let e : suc (7 * suc L) ≡ suc (suc (suc (suc (suc (suc (suc (suc (7 * L)))))))) = omega arith in
      let a : List Row = parts_to (suc (7 * L)) in
      let p0 = tabulate (coarse L) (edges_on l (suc L)) 0 in
      let p1 = only ch (tabulate (averaged L) (edges_on l (suc L)) 0) in
      let p2 = tabulate (forward L) (edges_on l L) 0 in
      let p3 = tabulate (turned L) (edges_on l (suc L)) 0 in
      let p4 = only ch (tabulate (volume L) (edges_on l L) 0) in
      let p5 = only ch (tabulate (share L) (edges_on l (suc L)) 0) in
      let p6 = tabulate (operator (suc L)) (edges_on l (suc L)) 0 in
      ap parts_to e
      ∙ (λ i. ((((((a ++ part_by L 0 (suc (7 * L)) (omega arith) (omega arith) i) ++ (part_by L 1 (suc (suc (7 * L))) (omega arith) (omega arith) ∙ only_tabulated ch (averaged L) (edges_on l (suc L))) i)
      ++ part_by L 2 (suc (suc (suc (7 * L)))) (omega arith) (omega arith) i) ++ part_by L 3 (suc (suc (suc (suc (7 * L))))) (omega arith) (omega arith) i) ++ (part_by L 4 (suc (suc (suc (suc (suc (7 * L)))))) (omega arith) (omega arith) ∙ only_tabulated ch (volume L) (edges_on l L)) i)
      ++ (part_by L 5 (suc (suc (suc (suc (suc (suc (7 * L))))))) (omega arith) (omega arith) ∙ only_tabulated ch (share L) (edges_on l (suc L))) i) ++ part_by L 6 (suc (suc (suc (suc (suc (suc (suc (7 * L)))))))) (omega arith) (omega arith) i)
      ∙ append_assoc (((((a ++ p0) ++ p1) ++ p2) ++ p3) ++ p4) p5 p6
      ∙ append_assoc ((((a ++ p0) ++ p1) ++ p2) ++ p3) p4 (p5 ++ p6)
      ∙ append_assoc (((a ++ p0) ++ p1) ++ p2) p3 (p4 ++ (p5 ++ p6))
      ∙ append_assoc ((a ++ p0) ++ p1) p2 (p3 ++ (p4 ++ (p5 ++ p6)))
      ∙ append_assoc (a ++ p0) p1 (p2 ++ (p3 ++ (p4 ++ (p5 ++ p6))))
      ∙ append_assoc a p0 (p1 ++ (p2 ++ (p3 ++ (p4 ++ (p5 ++ p6)))))

  first_part : parts_to 1 ≡ part_rows 0
  unfolding parts_to
  first_part = refl

  parts_groups : part_rows 0 ≡ [] → (L : ℕ) → parts_to (suc (7 * L)) ≡ groups l ch L
  unfolding groups
  parts_groups h zero = first_part ∙ h
  parts_groups h (suc L) = seven L ∙ ap (λ (rs : List Row). rs ++ group l ch L) (parts_groups h L)

  module _ (test : Row → Bool) where
    one_picked : (r : Row) → cond (test r) (r ∷ []) [] ≡ picked (rules l ch m) test (r ∷ [])
    unfolding picked
    one_picked r = refl

    none_picked : picked (rules l ch m) test [] ≡ []
    unfolding picked
    none_picked = refl

    flagged_picked : (row : ℕ → Row) (flags : List ℕ) (base n : ℕ) → ((i : ℕ) → i < n → flag_at flags (base + i) ≡ test (row i))
        → flagged_to row flags base n ≡ picked (rules l ch m) test (tabulate row n 0)
    unfolding flagged_to
    flagged_picked row flags base zero h = sym (ap (picked (rules l ch m) test) (tabulate_zero row 0) ∙ none_picked)
    flagged_picked row flags base (suc n) h =
        (λ i. flagged_picked row flags base n (λ j b. h j (omega arith)) i ++ cond (h n (omega arith) i) (row n ∷ []) [])
        ∙ (λ i. picked (rules l ch m) test (tabulate row n 0) ++ one_picked (row n) i)
        ∙ sym (picked_append (rules l ch m) test (tabulate row n 0) (row n ∷ []))
        ∙ ap (picked (rules l ch m) test) (sym (tabulate_more row n 0 n (omega arith)))

    flagged_parts_lem : (flags : List ℕ) → FlagsOf l ch m test flags → (n : ℕ) → n ≤ part_count m → flagged_parts l ch m flags n ≡ picked (rules l ch m) test (parts_to n)
    unfolding flagged_parts parts_to
    flagged_parts_lem flags w zero h = sym none_picked
    flagged_parts_lem flags w (suc n) h =
        (λ i. flagged_parts_lem flags w n (omega arith) i
        ++ flagged_picked (part_row n) flags (part_off l ch m n) (part_size l ch m n) (λ j b. w.each_is n j (omega arith) b) i)
        ∙ sym (picked_append (rules l ch m) test (parts_to n) (part_rows n))

sole_rows : (l : FullLattice) (ch : Choice) → parts_to l ch 0 (part_count 0) ≡ full l ch 0
unfolding part_row part_size
sole_rows l ch = first_part l ch 0

full_parts : (l : FullLattice) (ch : Choice) (m : ℕ) → parts_to l ch m (part_count m) ≡ full l ch m
full_parts l ch zero = sole_rows l ch
full_parts l ch (suc m) = parts_groups l ch (suc m) (unfold part_size in tabulate_zero (part_row 0) 0) (suc m)

-- the flags that `hit` tells are set for the rows that a change reaches, in the plan's order
pub flagged_reached : (l : FullLattice) → Limits l.grid → (ch : Choice) (m e : ℕ) → e < edges_on l 0 → (flags : List ℕ) → FlagsOf l ch m (hit l e ch) flags
    → flagged_rows l ch m flags ≡ reached (rules l ch m) (cells (spot permittivity e))
flagged_reached l limits ch m e base flags w =
    flagged_parts_lem l ch m (hit l e ch) flags w (part_count m) (omega arith)
    ∙ ap (picked (rules l ch m) (hit l e ch)) (full_parts l ch m)
    ∙ flags_reached l limits m e base ch
