-- The loop that fills the map of an axis: at half-step p the map has been filled up to p, and `here` is the map's value there.
-- Assumes nothing.
use Prim.Native.Nat.{ℕ, ◌+◌, ◌*◌, ◌<◌, ◌≤◌}
use native.Mathlib.Numerals.{add-one}
use native.Mathlib.Omega.{arith}
use mathlib.Core.Path.{◌≡◌, refl, sym, ◌∙◌, subst}
use mathlib.Core.List.{List}
use native.Mathlib.Decide.{dec_lt}
use borrow.Author.Tests.{le-leb, lt-leb}
use lib.ListN.{get_or, set, replicate}
use Rattle.numbers.specs.declared.C64.{C64}
use Rattle.numbers.specs.Complex.{zero_number, no_number, sum, real_times}
use Rattle.lattice.specs.Stretched.{half_f, map_at, map_entry, map_list}
use Rattle.numbers.proofs.TabulateLaws.{is_tabulate, Filled, filled_start, filled_same, filled_turn}

pub record Mapping (s : ℕ → C64) (p : ℕ) (x : List C64) (here : C64) : Type 0 where
  pub at : here ≡ map_at s p
  pub filled : Filled (map_at s) zero_number no_number 129 (p + 1) x

-- one half-step more
step : {s : ℕ → C64} {p : ℕ} {x : List C64} {here half next : C64} → Mapping s p x here → half ≡ real_times half_f (s p) → next ≡ sum here half
    → next ≡ map_at s (p + 1)
unfolding map_at
step {s} {p} m e f = rw (add-one p) (f ∙ (λ i. sum (m.at i) (e i)))

pub mapping_start : {s : ℕ → C64} {z here : C64} → z ≡ zero_number → here ≡ zero_number → Mapping s 0 (replicate 129 z) here
unfolding map_at
mapping_start {s} {z} {here} e h =
    record {
      at = h;
      filled =
          subst (λ (y : C64). Filled (map_at s) zero_number no_number 129 1 (replicate 129 y)) (sym e)
          (filled_same filled_start (omega arith) refl);
    }

-- a turn: half of the stretch behind half-step p is added, and stored at p + 1
pub mapping_turn : {s : ℕ → C64} {p : ℕ} {x : List C64} {here half next : C64} → Mapping s p x here → p < 128 → half ≡ real_times half_f (s p)
    → next ≡ sum here half → Mapping s (p + 1) (set x (p + 1) next) next
mapping_turn {s} {p} {x} {here} {half} {next} m h e f =
    let k : next ≡ map_at s (p + 1) = step m e f in
    record { at = k; filled = filled_turn m.filled (omega arith) k }

-- the end, of an axis of n cells
pub mapping_end : {s : ℕ → C64} {n p : ℕ} {x : List C64} {here : C64} → Mapping s p x here → p ≡ 2 * n → n ≤ 64 → x ≡ map_list s n
unfolding map_list map_entry
mapping_end {s} {n} {p} {x} {here} m e h = is_tabulate (map_entry s n) 129 no_number x m.filled.long (λ i b. go i b (dec_lt i (p + 1)))
  where
    go : (i : ℕ) → i < 129 → Dec (i < p + 1) → get_or x i no_number ≡ map_entry s n i
    go i b (yes c) = rw (le-leb i (2 * n) (omega arith)) (m.filled.done i c)
    go i b (no c) = rw (lt-leb i (2 * n) (omega arith)) (m.filled.bare i (omega arith) b)
