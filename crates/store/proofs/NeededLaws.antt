-- What a setup needs: the cells of the levels, and the verdict behind the checks and with them.
-- Assumes nothing.
use Prim.Native.Nat.{ℕ, suc, ◌+◌, ◌-◌, ◌*◌, ◌/◌, ◌%◌, ◌<◌}
use native.Mathlib.Omega.{arith}
use mathlib.Core.Path.{◌≡◌, refl, sym, ap, ◌∙◌}
use mathlib.Core.Bool.{Bool, true, false, false≢true, cond}
use mathlib.Core.List.{List}
use borrow.Author.Tests.{lt-ltb}
use lib.Dec.{ltb}
use lib.ListN.{length, get_or}
use Rattle.std.specs.Prelude.{Option, Some, None, Ok, Err, Result as Answer}
use Rattle.numbers.specs.Lists.{tabulate}
use Rattle.numbers.proofs.TabulateLaws.{tabulate_at_0, tabulate_agree}
use Rattle.lattice.specs.declared.line.Line.{Line}
use Rattle.lattice.specs.declared.levels.Lines.{Lines}
use Rattle.store.proofs.LineLaws.{lines_to_lem}
use Rattle.lattice.specs.Check.{Verdict, accepted, refused, and_then, is_sound, check_stretches}
use Rattle.lattice.specs.Grid.{Limits}
use Rattle.lattice.specs.Lattice.{FullLattice}
use Rattle.lattice.specs.Levels.{Joined, line_at, cells_at, line_no, lines_to, no_line, depth_of, depth_verdict, count_of}
use Rattle.lattice.specs.Line.{packed}
use Rattle.lattice.proofs.Equations.{lines_to_is, line_no_is, no_line_is, packed_is, cells_at_is}
use Rattle.store.specs.Setup.{Input, full_of, transfers_of, all_to, names_once}
use Rattle.store.specs.Phases.{blank_line}
use Rattle.store.specs.FillSteps.{needs_of}
use Rattle.store.specs.Handed.{CellsOf}
use Rattle.store.specs.Needed.{cells_on, cells_of, line_cells, NeededOf, needed_verdict, levels_verdict}
use Rattle.store.specs.Steps.{answer_of}
use Rattle.store.specs.declared.Choice.{Choice}
use Rattle.store.specs.declared.needs.Needs.{Needs}
use Rattle.store.specs.declared.needed.Needed.{Needed}
use Rattle.store.specs.declared.setup.Refusal.{Refusal}
use Rattle.store.specs.declared.setup.Refusal.TheVariants.{TooMany}
use Rattle.store.proofs.SettleLaws.{none_twice, err_refused}

-- ---- the cells of the lines that the level loop found

pub cells_found : (l : FullLattice) (m : ℕ) {lines : List Line} → lines ≡ lines_to l (suc m) → tabulate (line_cells lines) 36 0 ≡ tabulate (cells_on l m) 36 0
unfolding cells_on
cells_found l m {lines} e =
    tabulate_agree (line_cells lines) (cells_on l m) 36 0 (λ q h.
    ap (λ (vs : List Line). (get_or vs q blank_line).cells) (e ∙ lines_to_is l (suc m))
    ∙ ap (λ (f : Line). f.cells) (tabulate_at_0 (line_no l (suc m)) 36 q blank_line h ∙ line_no_is l (suc m) q)
    ∙ go (ltb (q / 3) (suc m)) (line_at l (q % 3) (q / 3)) (cells_at l (q % 3) (q / 3)) (cells_at_is l (q % 3) (q / 3)))
  where
    go : (b : Bool) (es : List ℕ) (n : ℕ) → n ≡ length es - 1 → (cond b (packed es) no_line).cells ≡ cond b n 0
    go true es n e = ap (λ (f : Line). f.cells) (packed_is es) ∙ sym e
    go false es n e = ap (λ (f : Line). f.cells) no_line_is

-- each level's own
pub cells_own : (l : FullLattice) (m : ℕ) → m < 12 → CellsOf l m (cells_of l m)
unfolding cells_on
cells_own l m few =
    record {
      levels_are = omega arith;
      few = few;
      cells_are =
          λ L a h b.
          let q = 3 * L + a in
          let d : q / 3 ≡ L = omega arith in
          let r : q % 3 ≡ a = omega arith in
          tabulate_at_0 (cells_on l m) 36 q 0 (omega arith) ∙ rw (d, r, lt-ltb L (suc m) (omega arith)) refl;
    }

-- they are those of the levels
pub lines_are_to : {l : FullLattice} {coarsest n : ℕ} {r : Lines} → Joined l coarsest r → r.depth ≡ Some n → 0 < n → r.lines ≡ lines_to l (suc (n - 1))
lines_are_to {l} {coarsest} {n} j e h =
    let z : suc (n - 1) ≡ n = omega arith in
    lines_to_lem l coarsest (n - 1) j (sym j.depth_is ∙ ap depth_verdict e ∙ ap accepted (sym z))

-- ---- behind the checks

module _ (l : FullLattice) (ch : Choice) (m : ℕ) where
  -- refused: there are no needs
  pub needed_none : {v : Verdict} {e : Refusal} → answer_of (Err e) ≡ v → NeededOf l ch m v (Err e)
  needed_none e = record { answer_is = e; needs_are = tt; cells_are = tt }

  pub needed_all : Limits l.grid → {lines : List Line} {n : Needs} {vs : List ℕ} → lines ≡ lines_to l (suc m) → n ≡ needs_of l ch m → vs ≡ tabulate (line_cells lines) 36 0
      → NeededOf l ch m (and_then (all_to 8 (names_once l) m) (accepted (suc m))) (Ok (record { needs = n; cells = record { levels = m + 1; cells = vs } }))
  needed_all limits s p q =
      let z : m + 1 ≡ suc m = omega arith in
      record {
        answer_is = ap accepted z ∙ none_twice l limits m (accepted (suc m));
        needs_are = p;
        cells_are = λ i. record { levels = z i; cells = (q ∙ cells_found l m s) i };
      }

module _ (l : FullLattice) (ch : Choice) {d : Verdict} where
  pub behind_levels : {n : ℕ} {depth : Option ℕ} {r : Answer Needed Refusal} → depth_verdict depth ≡ d → depth ≡ Some n
      → NeededOf l ch (n - 1) (and_then (all_to 8 (names_once l) (n - 1)) (accepted (suc (n - 1)))) r → NeededOf l ch (count_of d - 1) (levels_verdict l d) r
  unfolding levels_verdict
  behind_levels {n} {depth} {r} e q w =
      let k : d ≡ accepted n = sym e ∙ ap depth_verdict q in
      rw k w

  pub behind_none : {depth : Option ℕ} → depth_verdict depth ≡ d → depth ≡ None → NeededOf l ch (count_of d - 1) (levels_verdict l d) (Err TooMany)
  unfolding levels_verdict
  behind_none e q =
      let k : d ≡ depth_verdict None = sym e ∙ ap depth_verdict q in
      rw k (needed_none l ch 0 refl)

-- ---- with the checks

module _ (i : Input) {w : Verdict} (checked : w ≡ check_stretches i.lattice i.xn i.xh i.yn i.yh i.zn i.zh) where
  pub needs_refused : {e : Refusal} → answer_of (Err e) ≡ w → NeededOf (full_of i) i.choice (transfers_of i) (needed_verdict i) (Err e)
  unfolding needed_verdict
  needs_refused {e} d =
      let rest = and_then (and_then (depth_of (full_of i) i.coarsest) (all_to 8 (names_once (full_of i)) (transfers_of i))) (accepted (suc (transfers_of i))) in
      let f : is_sound w ≡ false = ap is_sound (sym d) ∙ err_refused e in
      needed_none (full_of i) i.choice (transfers_of i) (d ∙ sym (first w rest f) ∙ ap (λ (u : Verdict). and_then u rest) checked)
    where
      first : (u r : Verdict) → is_sound u ≡ false → and_then u r ≡ u
      first (accepted n) r f = absurd (false≢true (sym f))
      first (refused n p) r f = refl

  pub needs_behind : {l : FullLattice} {r : Answer Needed Refusal} → is_sound w ≡ true → l ≡ full_of i
      → NeededOf l i.choice (count_of (depth_of l i.coarsest) - 1) (levels_verdict l (depth_of l i.coarsest)) r → NeededOf (full_of i) i.choice (transfers_of i) (needed_verdict i) r
  unfolding needed_verdict levels_verdict
  needs_behind {l} {r} f e q =
      let k = second w (and_then (and_then (depth_of (full_of i) i.coarsest) (all_to 8 (names_once (full_of i)) (transfers_of i))) (accepted (suc (transfers_of i)))) f in
      let v = sym k ∙ ap (λ (u : Verdict). and_then u (and_then (and_then (depth_of (full_of i) i.coarsest) (all_to 8 (names_once (full_of i)) (transfers_of i))) (accepted (suc (transfers_of i))))) checked in
      rw (← v) (rw e at q)
    where
      second : (u r : Verdict) → is_sound u ≡ true → and_then u r ≡ r
      second (accepted n) r f = refl
      second (refused n p) r f = absurd (false≢true f)
