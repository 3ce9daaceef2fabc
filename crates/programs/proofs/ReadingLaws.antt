-- The reading of a file: kinds by their bytes, a part of a list, the double of a pattern and the grid's refusals, over plain values.
-- Assumes nothing.
use Prim.Native.Nat.{ℕ, ◌+◌, ◌-◌, ◌*◌, ◌<◌, ◌≤◌, ◌%◌, ◌/◌, ◌^◌}
use mathlib.Core.Path.{◌≡◌, refl, sym, ap, ◌∙◌}
use mathlib.Core.List.{List, []}
use mathlib.Core.Bool.{Bool, true, false, not, ◌&&◌, ◌||◌, cond, false≢true}
use native.Mathlib.Nat.{add-sub_cancel_left}
use native.Mathlib.Omega.{arith}
use borrow.Author.Tests.{eq-eqb, ne_eqb, eqb-true, not-true, lt-ltb, le-ltb, le-leb, lt-leb}
use lib.Dec.{eqb, ltb}
use lib.ListN.{length, take, drop}
use lib.Ieee.{Float, binary64, nan_bits, of_bits, of_fields}
use mathlib.Core.Logic.{◌⊎◌}
use Rattle.std.specs.Prelude.{min, Option, Some, None, Ok, MatchOption, unwrap_or, slice_range}
use Rattle.std.proofs.Common.{Bor}
use Rattle.lattice.specs.Check.{Verdict, accepted, refused, refusal_of, check_grid}
use Rattle.lattice.specs.declared.check.Refusal.{Refusal}
use Rattle.lattice.proofs.CheckLaws.{hands_on, goes_on}
use Rattle.programs.specs.Bytes.{double_of}
use Rattle.programs.specs.Records.{byte_of, has_byte, grid_of, cell_count, stretch_count, edge_count, cut_of}
use Rattle.programs.specs.Reading.{told, told_by, whole, grid_verdict}
use Rattle.programs.specs.declared.kinds.Kind.{Kind}
use Rattle.programs.specs.declared.kinds.Kind.TheVariants.{Grid, Wall, Bloch, Stretch, Permittivity, Choice, Change, End}
use Rattle.programs.specs.declared.reader.Begun.{Begun}
use Rattle.programs.specs.declared.reader.Reader.{Reader}

-- ---- kinds by their bytes

-- a kind back from its byte
abbrev kind_at : ℕ → Kind
kind_at b =
    cond (eqb b 1) Grid
    (cond (eqb b 2) Wall
    (cond (eqb b 3) Bloch (cond (eqb b 4) Stretch (cond (eqb b 5) Permittivity (cond (eqb b 6) Choice (cond (eqb b 7) Change End))))))

kind_back : (k : Kind) → kind_at (byte_of k) ≡ k
kind_back Grid = refl
kind_back Wall = refl
kind_back Bloch = refl
kind_back Stretch = refl
kind_back Permittivity = refl
kind_back Choice = refl
kind_back Change = refl
kind_back End = refl

pub same_kind : (j k : Kind) → byte_of j ≡ byte_of k → j ≡ k
same_kind j k e = sym (kind_back j) ∙ (ap kind_at e ∙ kind_back k)

-- of the kinds that there are, k alone has its byte b
module _ (b : ℕ) (k : Kind) (e : byte_of k ≡ b) where
  pub byte_there : (o : Option Kind) → o ≡ Some k → has_byte o b ≡ true
  byte_there o p = rw p (eq-eqb b (byte_of k) (sym e))

  pub byte_elsewhere : (o : Option Kind) → (o ≡ Some k → ⊥) → has_byte o b ≡ false
  byte_elsewhere None n = refl
  byte_elsewhere (Some j) n = ne_eqb b (byte_of j) (λ q. n (ap (λ (i : Kind). Some i) (same_kind j k (sym (e ∙ q)))))

-- no kind has it
pub byte_nowhere : (b : ℕ) → ((k : Kind) → byte_of k ≡ b → ⊥) → (o : Option Kind) → has_byte o b ≡ false
byte_nowhere b n None = refl
byte_nowhere b n (Some j) = ne_eqb b (byte_of j) (λ q. n j (sym q))

-- ---- a part of the numbers held, as the code finds it: up to from + n, or the last number of the machine

module _ (xs : List Float) (from n : ℕ) where
  cut_none : length xs < from + n → [] ≡ cut_of xs from n
  unfolding cut_of
  cut_none h = rw (lt-leb (from + n) (length xs) h) refl

  cut_some : from + n ≤ length xs → take (from + n - from) (drop from xs) ≡ cut_of xs from n
  unfolding cut_of
  cut_some h = rw (le-leb (from + n) (length xs) h, add-sub_cancel_left from n) refl

  pub cut_got : {last end : ℕ} → end ≡ min (from + n) last → length xs < last → (o : Option (Bor (List Float))) (d : Bor (List Float))
      → MatchOption o ((end < from) ⊎ (length xs < end)) (λ x. (from ≤ end) × (end ≤ length xs) × (x.now ≡ slice_range xs from end) × (length x.now + from ≡ end))
      → (d.now ≡ []) → (unwrap_or o d).now ≡ cut_of xs from n
  cut_got e h None d g z = z ∙ cut_none (omega (arith, e, h, g))
  cut_got {end = end} e h (Some x) d g z =
      let all : end ≡ from + n = omega (arith, e, h, g.1) in
      g.2 ∙ (ap (λ k. slice_range xs from k) all ∙ cut_some (omega (arith, all, g.1)))

both_true : (a b : Bool) → (a && b) ≡ true → (a ≡ true) × (b ≡ true)
both_true true b e = (refl, e)
both_true false b e = absurd (false≢true e)

-- ---- the double of a pattern: `of_bits` too makes the NaN of each pattern of one

pub double_is : (b : ℕ) → of_bits binary64 b ≡ double_of b
unfolding double_of of_bits of_fields nan_bits
double_is b = go (nan_bits binary64 b) refl
  where
    go : (n : Bool) → nan_bits binary64 b ≡ n → of_bits binary64 b ≡ double_of b
    go false e = rw e refl
    go true e =
        let p = both_true (eqb (b % 2 ^ 63 / 2 ^ 52) 2047) (not (eqb (b % 2 ^ 52) 0)) e in
        rw (e, eqb-true (b % 2 ^ 63 / 2 ^ 52) 2047 p.0, not-true (eqb (b % 2 ^ 52) 0) p.1) refl

-- ---- the body is whole: not where nothing of it is read

module _ (r : Reader) {n : ℕ} (e : r.answer ≡ Ok n) {o : Begun} (i : r.begun ≡ Some o) where
  pub whole_none : o.filled ≡ 0 → None ≡ whole r
  unfolding whole
  whole_none z = rw (e, i, le-ltb 0 o.filled (omega arith)) refl

-- ---- the grid

module _ (limit room : ℕ) (b : List ℕ) where
  pub grid_unsound : (c : Refusal) → refusal_of c ≡ check_grid (grid_of b) → told_by (refusal_of c) ≡ told_by (grid_verdict limit room b)
  unfolding grid_verdict
  grid_unsound c e = ap told_by (hands_on _ c e)

  -- behind the grid's check: 13
  abbrev grid_rest : Verdict
  grid_rest = cond (ltb limit (cell_count b) || ltb room (2 * (stretch_count b + edge_count b))) (refused 13 (cell_count b)) (accepted 0)

  module _ (e : accepted 0 ≡ check_grid (grid_of b)) where
    grid_sound : told_by grid_rest ≡ told_by (grid_verdict limit room b)
    unfolding grid_verdict
    grid_sound = ap told_by (sym (goes_on grid_rest e))

    pub grid_cells : limit < cell_count b → told 13 (cell_count b) ≡ told_by (grid_verdict limit room b)
    grid_cells h = rw (← grid_sound, lt-ltb limit (cell_count b) h) refl

    pub grid_room : cell_count b ≤ limit → room < 2 * (stretch_count b + edge_count b) → told 13 (cell_count b) ≡ told_by (grid_verdict limit room b)
    grid_room g h = rw (← grid_sound, le-ltb limit (cell_count b) g, lt-ltb room (2 * (stretch_count b + edge_count b)) h) refl

    pub grid_taken : cell_count b ≤ limit → 2 * (stretch_count b + edge_count b) ≤ room → told 0 0 ≡ told_by (grid_verdict limit room b)
    grid_taken g h = rw (← grid_sound, le-ltb limit (cell_count b) g, le-ltb room (2 * (stretch_count b + edge_count b)) h) refl
