-- Each value of a coarse line is taken by a place of the next finer one: across the axis by the same node, along it by the first cell inside.
-- Assumes nothing.
use Prim.Native.Nat.{ℕ, suc, ◌+◌, ◌-◌, ◌<◌, ◌≤◌}
use mathlib.Core.Path.{◌≡◌, sym, ap, ◌∙◌}
use mathlib.Core.Bool.{Bool, true, false}
use mathlib.Core.List.{List}
use native.Mathlib.Decide.{dec_lt}
use native.Mathlib.Omega.{arith}
use lib.ListN.{length, get_or}
use lib.Ieee.{Float}
use Rattle.numbers.specs.declared.C64.{C64}
use Rattle.lattice.specs.declared.lattice.Edges.{Edges}
use Rattle.lattice.specs.Line.{place_of, coarser_ends, nodes_of, LineOver}
use Rattle.numbers.proofs.ListLaws.{rises_below}
use Rattle.numbers.specs.Lists.{In}
use Rattle.weights.specs.Interpolate.{value_places, taken_places}
use Rattle.weights.proofs.PairLaws.{node_end, node_low, node_below}
use Rattle.lattice.proofs.CurlLaws.{place_across, place_along, rises_most}
use Rattle.weights.proofs.TakenLaws.{value_at_lem, values_long, at_taken, cell_taken}

-- ---- a line and the next coarser one

-- one of n places takes value i, and it is not the first place unless value i is the first
pub record Taken (places : ℕ → List ℕ) (n i : ℕ) : Type 0 where
  pub by : ℕ
  pub low : by < n
  pub free : (i ≡ 0 → ⊥) → by ≡ 0 → ⊥
  pub takes : In i (places by)

module _ (x : List C64) (t : Float) (n : ℕ) (es : List ℕ) (fine : LineOver n es) (coarse : LineOver n (coarser_ends x t es)) (e : Edges) (i : ℕ)
    (h : i < length (coarser_ends x t es) - 1) where
  -- the coarse line, and the fine node where the coarse cell begins
  abbrev cs : List ℕ
  cs = coarser_ends x t es

  abbrev first_in : ℕ
  first_in = get_or (nodes_of es cs) i 0

  first_at : get_or es first_in 0 ≡ get_or cs i 0
  first_at = node_end x t n es fine coarse i (omega arith)

  -- it is not the first of all, unless the coarse one is
  first_free : (i ≡ 0 → ⊥) → first_in ≡ 0 → ⊥
  first_free o z =
      let up : get_or cs 0 0 < get_or cs i 0 = rises_below cs coarse.rises 0 i (omega arith) (omega arith) in
      let same : get_or es 0 0 ≡ get_or cs i 0 = sym (ap (λ (k : ℕ). get_or es k 0) z) ∙ first_at in
      omega (arith, fine.first, coarse.first)

  node_value : (m : ℕ) → m < length cs - 1 → get_or (value_places cs false) m 0 ≡ get_or cs m 0
  node_value m b = value_at_lem cs false m b ∙ place_across cs m

  across_taken : In i (taken_places e (value_places cs false) false (place_of es first_in false))
  across_taken =
      let l : length (value_places cs false) ≡ length cs - 1 = values_long cs false in
      rw (place_across, first_at)
      (at_taken e (value_places cs false) (get_or cs i 0) i (omega arith)
      (λ m b. rw (node_value m (omega arith)) (rises_below cs coarse.rises m i b (omega arith)))
      false (node_value i h)
      (λ b. rw (node_value (suc i) (omega arith)) (rises_below cs coarse.rises i (suc i) (omega arith) (omega arith))))

  -- the fine cell ends inside the coarse one
  ends_inside : get_or es (first_in + 1) 0 ≤ get_or cs (i + 1) 0
  ends_inside = go (dec_lt first_in last)
    where
      last : ℕ
      last = get_or (nodes_of es cs) (i + 1) 0

      last_at : get_or es last 0 ≡ get_or cs (i + 1) 0
      last_at = node_end x t n es fine coarse (i + 1) (omega arith)

      up : get_or cs i 0 < get_or cs (i + 1) 0
      up = rises_below cs coarse.rises i (i + 1) (omega arith) (omega arith)

      go : Dec (first_in < last) → get_or es (first_in + 1) 0 ≤ get_or cs (i + 1) 0
      go (yes b) =
          let w : get_or es (first_in + 1) 0 ≤ get_or es last 0 = rises_most es fine.rises (first_in + 1) last (omega arith) (node_low x t n es fine coarse (i + 1) (omega arith)) in
          omega (arith, last_at)
      go (no b) =
          let w : get_or es last 0 ≤ get_or es first_in 0 = rises_most es fine.rises last first_in (omega arith) (node_low x t n es fine coarse i (omega arith)) in
          absurd (omega (arith, last_at, first_at, up))

  -- so it takes the coarse cell's value
  along_taken : In i (taken_places e (value_places cs true) true (place_of es first_in true))
  along_taken =
      let b : first_in < length es - 1 = node_below x t n es fine coarse i h in
      let up : get_or es first_in 0 < get_or es (first_in + 1) 0 = rises_below es fine.rises first_in (first_in + 1) (omega arith) (omega arith) in
      rw place_along (cell_taken cs coarse.rises i h (get_or es first_in 0) (get_or es (first_in + 1) 0) up (omega (arith, first_at)) ends_inside e)

  pub value_taken : (along : Bool) → Taken (λ k. taken_places e (value_places cs along) along (place_of es k along)) (length es - 1) i
  value_taken true = record { by = first_in; low = node_below x t n es fine coarse i h; free = first_free; takes = along_taken }
  value_taken false = record { by = first_in; low = node_below x t n es fine coarse i h; free = first_free; takes = across_taken }
