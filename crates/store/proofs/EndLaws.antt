-- The ends of all lines, one behind another in a list.
-- Assumes nothing.
use Prim.Native.Nat.{ℕ, suc, ◌+◌, ◌-◌, ◌*◌, ◌/◌, ◌%◌, ◌≤◌, ◌<◌, ◌^◌}
use mathlib.Core.Path.{◌≡◌, ap, ◌∙◌}
use mathlib.Core.List.{List, ◌++◌}
use native.Mathlib.Omega.{arith}
use lib.ListN.{length, get_or, set, replicate, get_or-append}
use Rattle.numbers.specs.Lists.{rows, laid, places_in, entry_at}
use Rattle.numbers.proofs.ListLaws.{Laying, laying_end, laying_most, rows_agree}
use Rattle.numbers.proofs.TabulateLaws.{length_tabulate}
use Rattle.numbers.proofs.TurnedLaws.{places_read}
use Rattle.lattice.specs.declared.line.Line.{Line}
use Rattle.lattice.specs.Grid.{Limits}
use Rattle.lattice.specs.Lattice.{FullLattice}
use Rattle.lattice.proofs.Equations.{packed_is}
use Rattle.lattice.proofs.LevelLaws.{line_over}
use Rattle.operators.specs.LevelLists.{edges_on}
use Rattle.store.specs.Setup.{ends_part}
use Rattle.store.specs.Phases.{blank_line, HasLines}
use Rattle.store.specs.PhaseSteps.{held_by, FewCells, EndsLaid}

-- the edges of the next level, as the code counts levels
pub edges_next : (l : FullLattice) (L : ℕ) {n : ℕ} → n ≡ edges_on l (L + 1) → n ≡ edges_on l (suc L)
edges_next l L e = let z : L + 1 ≡ suc L = omega arith in e ∙ ap (edges_on l) z

-- ---- line ends

module _ {l : FullLattice} {m : ℕ} {lines : List Line} (has : HasLines l m lines) (limits : Limits l.grid) where
  pub few_cells : FewCells lines m
  few_cells =
      record {
        few = λ q h.
            let o = line_over l limits (q % 3) (q / 3) in
            let e = has.line_is q h ∙ packed_is (ends_part l q) in
            omega (arith, ap (λ (f : Line). f.cells) e, o.most);
      }

  pub held_ends : (q : ℕ) → q < 3 * suc m → held_by (get_or lines q blank_line) ≡ ends_part l q
  held_ends q h =
      let es = ends_part l q in
      let o = line_over l limits (q % 3) (q / 3) in
      let e = has.line_is q h ∙ packed_is es in
      let ends = es ++ replicate (65 - length es) 0 in
      let n : length es - 1 + 1 ≡ length es = omega (arith, o.some) in
      ap held_by e
      ∙ ap (places_in ends 0) n
      ∙ places_read ends es 0 (λ i j p b. let z : j ≡ i = omega arith in rw z (get_or-append es (replicate (65 - length es) 0) 0 i b))

module _ {lines : List Line} {m : ℕ} (few : FewCells lines m) {es₀ es : List ℕ} {k q : ℕ}
    (u : Laying set (λ q. held_by (get_or lines q blank_line)) (3 * (m + 1)) 0 es₀ es k q) where
  pub ends_low : m ≤ 11 → q < 3 * (m + 1) → ((get_or lines q blank_line).cells ≤ 64) × (k ≤ 2 ^ 32)
  ends_low deep h =
      let most : (r : ℕ) → r < 3 * (m + 1) → length (held_by (get_or lines r blank_line)) ≤ 65 =
      λ r b. omega (arith, length_tabulate (entry_at (get_or lines r blank_line).ends) ((get_or lines r blank_line).cells + 1) 0, few.few r (omega arith)) in
      (few.few q (omega arith), omega (arith, laying_most 65 u most))

  pub ends_left_lem : 3 * (m + 1) ≤ q → EndsLaid lines m es₀ es
  ends_left_lem h =
      let z : 3 * (m + 1) ≡ 3 * suc m = omega arith in
      record {
        ends_are = λ l limits has.
            (laying_end u h).list
            ∙ ap (λ (n : ℕ). laid es₀ 0 (rows (λ q. held_by (get_or lines q blank_line)) n)) z
            ∙ ap (laid es₀ 0) (rows_agree (λ q. held_by (get_or lines q blank_line)) (ends_part l) (3 * suc m) (held_ends has limits));
      }
