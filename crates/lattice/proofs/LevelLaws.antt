-- The level loop: a level's lines and what they tell, the next level, when the loop stops, and the lines that it has stored.
-- Assumes nothing.
use Prim.Native.Nat.{ℕ, zero, suc, ◌+◌, ◌-◌, ◌*◌, ◌/◌, ◌%◌, ◌^◌, ◌<◌, ◌≤◌}
use mathlib.Core.Path.{◌≡◌, refl, sym, ◌∙◌, ap, subst}
use mathlib.Core.Bool.{Bool, true, false, cond, false≢true}
use mathlib.Core.List.{List}
use native.Mathlib.Omega.{arith}
use native.Mathlib.Numerals.{add-one}
use native.Mathlib.Nat.{pow-suc, pow-le-pow_right}
use native.Mathlib.Decide.{dec_lt}
use borrow.Author.Tests.{lt-ltb, le-ltb, le-leb, lt-leb}
use lib.Dec.{T, leb, eqb}
use lib.ListN.{get_or, set, replicate, length-replicate, get_or-replicate}
use lib.IntN.{pos}
use lib.Ieee.{Float, binary64, in_float}
use Rattle.lattice.specs.Grid.{n_of, Limits}
use Rattle.lattice.specs.Check.{Verdict, accepted, refused, refusal_of, is_sound, and_then, check_stretches}
use Rattle.lattice.specs.Lattice.{lattice_of, FullLattice}
use Rattle.lattice.specs.Stretched.{across_map}
use Rattle.lattice.specs.Line.{packed, ends_of, coarser_ends, LineOver, Held}
use Rattle.lattice.specs.Levels.{target, line_at, cells_at, edges_at, same, stops, levels_refused, depth_from, depth_of, depth_verdict, verdict, no_line, line_no, lines_to, count_of, Joined, maps_of, three_at, coarser_three, three_edges, same_cells, levels_of, level_lines_of, Answered}
use Rattle.lattice.specs.declared.line.Line.{Line}
use Rattle.lattice.specs.declared.levels.Three.{Three}
use Rattle.lattice.specs.declared.levels.Maps.{Maps}
use Rattle.lattice.specs.declared.levels.Lines.{Lines}
use Rattle.lattice.specs.declared.levels.Refusal.TheVariants.{Input, TooMany}
use Rattle.lattice.specs.declared.levels.Refusal as Levels
use Rattle.std.specs.Prelude.{Option, None, Some, Result, Ok, Err, ok_or}
use Rattle.lattice.specs.declared.lattice.Lattice.{Lattice}
use Rattle.lattice.specs.declared.check.Refusal.{Refusal}
use Rattle.lattice.specs.declared.check.Refusal.TheVariants.{Cells, Scalar, Length, Entry}
use Rattle.lattice.proofs.GridLaws.{n_some, n_most}
use Rattle.numbers.proofs.Laws.{or_true, or_false}
use Rattle.lattice.proofs.CheckLaws.{hands_on, goes_on, refused_unsound, refusal_in}
use Rattle.numbers.proofs.TabulateLaws.{tabulate_at_0, is_tabulate, Filled, filled_turn}
use Rattle.lattice.proofs.LatticeLaws.{filled_first}
use Rattle.lattice.proofs.LineLaws.{ends_packed, finest_over, coarser_over, over_held}

-- ---- T on a level

pub power_most : (k : ℕ) → k < 12 → 2 ^ (k + 1) ≤ 4096
power_most k h = pow-le-pow_right {n = 2} (omega arith) {i = k + 1} {j = 12} (omega arith)

-- 2 shifted by k places
pub power_shifted : (k : ℕ) → k < 12 → 2 * 2 ^ k % 18446744073709551616 ≡ 2 ^ (k + 1)
power_shifted k h =
    let e : 2 ^ (k + 1) ≡ 2 ^ k * 2 = rw (add-one k, pow-suc) in
    omega (arith, e, power_most k h)

-- a whole number of this size is a double
pub in_double : (p : ℕ) → p ≤ 4096 → T (in_float binary64 (pos p))
unfolding in_float
in_double p h = let e : leb p 9007199254740992 ≡ true = le-leb p 9007199254740992 (omega arith) in rw e tt

-- ---- a level

-- each axis's line on each level is a line over the axis's cells
pub line_over : (l : FullLattice) → Limits l.grid → (a L : ℕ) → LineOver (n_of l.grid a) (line_at l a L)
unfolding line_at
line_over l h a zero = finest_over (n_of l.grid a) (n_some h a) (n_most h a)
line_over l h a (suc L) = coarser_over (across_map l a) (target L) (n_of l.grid a) (line_at l a L) (line_over l h a L)

line_held : (l : FullLattice) → Limits l.grid → (a L : ℕ) → Held (packed (line_at l a L))
line_held l h a L = over_held (n_of l.grid a) (line_at l a L) (n_most h a) (line_over l h a L)

pub three_held : (l : FullLattice) → Limits l.grid → (L : ℕ) → Held (three_at l L).x × Held (three_at l L).y × Held (three_at l L).z
unfolding three_at
three_held l h L = (line_held l h 0 L, line_held l h 1 L, line_held l h 2 L)

-- a held line's ends are those that were packed
line_ends : (l : FullLattice) → Limits l.grid → (a L : ℕ) → ends_of (packed (line_at l a L)) ≡ line_at l a L
line_ends l h a L = let o = line_over l h a L in ends_packed (line_at l a L) (omega (arith, o.some)) o.most

pub three_next : (l : FullLattice) → Limits l.grid → (L : ℕ) → coarser_three (three_at l L) (maps_of l) (target L) ≡ three_at l (suc L)
unfolding coarser_three three_at maps_of line_at
three_next l h L =
    λ i.
    record {
      x = packed (coarser_ends (across_map l 0) (target L) (line_ends l h 0 L i));
      y = packed (coarser_ends (across_map l 1) (target L) (line_ends l h 1 L i));
      z = packed (coarser_ends (across_map l 2) (target L) (line_ends l h 2 L i));
    }

three_edges_lem : (l : FullLattice) (L : ℕ) → three_edges (three_at l L) ≡ edges_at l L
unfolding three_edges three_at edges_at cells_at packed
three_edges_lem l L = refl

three_same : (l : FullLattice) (L : ℕ) → same_cells (three_at l (suc L)) (three_at l L) ≡ same l L
unfolding same_cells three_at same cells_at packed
three_same l L = refl

-- ---- the depth from a level on

module _ (l : FullLattice) (coarsest L : ℕ) (h : L < 12) where
  depth_stop : stops l coarsest L ≡ true → depth_from l coarsest (12 - L) L ≡ accepted (L + 1)
  unfolding depth_from
  depth_stop e =
      let n : 12 - L ≡ suc (12 - (L + 1)) = omega arith in
      rw (n, e, add-one L)

  depth_turn : stops l coarsest L ≡ false → depth_from l coarsest (12 - L) L ≡ depth_from l coarsest (12 - (L + 1)) (L + 1)
  unfolding depth_from
  depth_turn e =
      let n : 12 - L ≡ suc (12 - (L + 1)) = omega arith in
      rw (n, e, add-one L)

-- ---- the loop

-- line q, on a level that the loop has reached
unfoldable pub line_on : FullLattice → ℕ → Line
line_on l q = packed (line_at l (q % 3) (q / 3))

-- the loop at level L: the level's lines, the lines of the levels before it, and the depth that is left to find
pub record Stored (l : FullLattice) (coarsest L : ℕ) (lines : List Line) (t : Three) : Type 0 where
  pub here : t ≡ three_at l L
  pub filled : Filled (line_on l) no_line no_line 36 (3 * L) lines
  pub rest : depth_from l coarsest (12 - L) L ≡ depth_of l coarsest

-- the lines with those of level L
abbrev pub with_level : List Line → ℕ → Three → List Line
with_level lines L t = set (set (set lines (3 * L) t.x) (3 * L + 1) t.y) (3 * L + 2) t.z

line_on_lem : (l : FullLattice) (q a L : ℕ) → q ≡ 3 * L + a → a < 3 → packed (line_at l a L) ≡ line_on l q
unfolding line_on
line_on_lem l q a L e h =
    let m : q % 3 ≡ a = omega arith in
    let d : q / 3 ≡ L = omega arith in
    rw (m, d)

module _ {l : FullLattice} {coarsest L : ℕ} {lines : List Line} {t : Three} (s : Stored l coarsest L lines t) (h : L < 12) where
  with_level_lem : Filled (line_on l) no_line no_line 36 (3 * (L + 1)) (with_level lines L t)
  unfolding three_at
  with_level_lem =
      let e : 3 * L + 1 + 1 ≡ 3 * L + 2 = omega arith in
      let f : 3 * L + 2 + 1 ≡ 3 * (L + 1) = omega arith in
      let x : t.x ≡ line_on l (3 * L) = ap (λ (u : Three). u.x) s.here ∙ line_on_lem l (3 * L) 0 L (omega arith) (omega arith) in
      let y : t.y ≡ line_on l (3 * L + 1) = ap (λ (u : Three). u.y) s.here ∙ line_on_lem l (3 * L + 1) 1 L (omega arith) (omega arith) in
      let z : t.z ≡ line_on l (3 * L + 2) = ap (λ (u : Three). u.z) s.here ∙ line_on_lem l (3 * L + 2) 2 L (omega arith) (omega arith) in
      let two = filled_turn (filled_turn s.filled (omega arith) x) (omega arith) y in
      rw f at (filled_turn (rw e at two) (omega arith) z)

  -- the level is the last: its lines are stored, and none behind them
  stop_lines : (n : ℕ) → n ≡ L + 1 → with_level lines L t ≡ lines_to l n
  unfolding lines_to line_no line_on
  stop_lines n e = is_tabulate (line_no l n) 36 no_line (with_level lines L t) with_level_lem.long each
    where
      each : (q : ℕ) → q < 36 → get_or (with_level lines L t) q no_line ≡ line_no l n q
      each q b = go (dec_lt q (3 * (L + 1)))
        where
          go : Dec (q < 3 * (L + 1)) → get_or (with_level lines L t) q no_line ≡ line_no l n q
          go (yes y) = with_level_lem.done q y ∙ rw (lt-ltb (q / 3) n (omega arith))
          go (no y) = with_level_lem.bare q (omega arith) b ∙ rw (le-ltb (q / 3) n (omega arith))

  stopped : stops l coarsest L ≡ true → Joined l coarsest (record { depth = Some (L + 1); lines = with_level lines L t })
  stopped e =
      let d : depth_of l coarsest ≡ accepted (L + 1) = sym s.rest ∙ depth_stop l coarsest L h e in
      record { depth_is = sym d; lines_are = stop_lines (count_of (depth_of l coarsest)) (ap count_of d) }

  edges_here : {e : ℕ} → e ≡ three_edges t → e ≡ edges_at l L
  edges_here p = p ∙ (ap three_edges s.here ∙ three_edges_lem l L)

  -- few enough edges
  pub stored_few : {e : ℕ} → e ≡ three_edges t → e ≤ coarsest → Joined l coarsest (record { depth = Some (L + 1); lines = with_level lines L t })
  unfolding stops
  stored_few p q = stopped (or_true (leb (edges_at l L) coarsest) (same l L) r ∙ r)
    where
      r : leb (edges_at l L) coarsest ≡ true
      r = le-leb (edges_at l L) coarsest (omega (arith, edges_here p))

  -- more edges: the next level's lines decide
  module _ {m : Maps} {e : ℕ} {f : Float} {next : Three} {b : Bool}
      (limits : Limits l.grid) (maps : m ≡ maps_of l) (edges : e ≡ three_edges t) (many : coarsest < e)
      (bound : f ≡ target L) (coarse : next ≡ coarser_three t m f) (cells : b ≡ same_cells next t) where
    next_is : next ≡ three_at l (suc L)
    next_is = coarse ∙ ((λ i. coarser_three (s.here i) (maps i) (bound i)) ∙ three_next l limits L)

    same_stops : b ≡ stops l coarsest L
    unfolding stops
    same_stops =
        cells
        ∙ ((λ i. same_cells (next_is i) (s.here i))
        ∙ (three_same l L ∙ sym (or_false (leb (edges_at l L) coarsest) (same l L) (lt-leb (edges_at l L) coarsest (omega (arith, edges_here edges))))))

    pub stored_same : b ≡ true → Joined l coarsest (record { depth = Some (L + 1); lines = with_level lines L t })
    stored_same q = stopped (sym same_stops ∙ q)

    pub stored_turn : b ≡ false → Stored l coarsest (L + 1) (with_level lines L t) next
    stored_turn q =
        record {
          here = next_is ∙ ap (three_at l) (sym (add-one L));
          filled = with_level_lem;
          rest = sym (depth_turn l coarsest L h (sym same_stops ∙ q)) ∙ s.rest;
        }

pub stored_start : {l : FullLattice} {coarsest : ℕ} {none : Line} {t : Three} → none ≡ no_line → t ≡ three_at l 0 → Stored l coarsest 0 (replicate 36 none) t
unfolding depth_of
stored_start e p = record { here = p; filled = filled_first e; rest = refl }

no_lines : (l : FullLattice) (none : Line) (n : ℕ) → n ≡ 0 → none ≡ no_line → replicate 36 none ≡ lines_to l n
unfolding lines_to line_no
no_lines l none n e p =
    is_tabulate (line_no l n) 36 no_line (replicate 36 none) (length-replicate 36 none)
    (λ q b. get_or-replicate 36 q none no_line b ∙ (p ∙ rw (le-ltb (q / 3) n (omega arith))))

-- no level of the 12 is the last
pub stored_end : {l : FullLattice} {coarsest L : ℕ} {lines : List Line} {t : Three} {none : Line} → Stored l coarsest L lines t → L ≡ 12 → none ≡ no_line
    → Joined l coarsest (record { depth = None; lines = replicate 36 none })
unfolding depth_from
stored_end {l} {coarsest} {none = none} s e p =
    let d : depth_of l coarsest ≡ levels_refused = sym s.rest ∙ rw e in
    record { depth_is = sym d; lines_are = no_lines l none (count_of (depth_of l coarsest)) (ap count_of d) p }

-- the line of axis a on a level that the lattice has
pub lines_at : (l : FullLattice) (n L a q : ℕ) (d : Line) → L < n → L < 12 → a < 3 → q ≡ 3 * L + a → get_or (lines_to l n) q d ≡ packed (line_at l a L)
unfolding lines_to line_no
lines_at l n L a q d h b p r =
    let u : q / 3 ≡ L = omega arith in
    let v : q % 3 ≡ a = omega arith in
    tabulate_at_0 (line_no l n) 36 q d (omega arith) ∙ rw (u, v, lt-ltb L n h)

-- ---- the call of a user

pub lattice_limits : (v : Lattice) (xn xh yn yh zn zh : List Float) {l : FullLattice} → l ≡ lattice_of v xn xh yn yh zn zh → Limits v.grid → Limits l.grid
unfolding lattice_of
lattice_limits v xn xh yn yh zn zh e h = subst (λ (k : FullLattice). Limits k.grid) (sym e) h

count_refused : (w : Verdict) → is_sound w ≡ false → count_of w ≡ 0
count_refused (accepted n) e = absurd (false≢true (sym e))
count_refused (refused number place) e = refl

-- the level loop's answer, handed on
depth_answer : (d : Option ℕ) → verdict (ok_or d TooMany) ≡ depth_verdict d
depth_answer (Some n) = refl
depth_answer None = refl

-- in code, where the checks of the input have answered
module _ (v : Lattice) (xn xh yn yh zn zh : List Float) (coarsest : ℕ) where
  -- a refusal is handed on, with lines of no cells
  pub answered_refused : {none : Line} (f : Refusal) → refusal_of f ≡ check_stretches v xn xh yn yh zn zh → none ≡ no_line
      → Answered v xn xh yn yh zn zh coarsest (record { answer = Err (Input f); lines = replicate 36 none })
  unfolding levels_of level_lines_of
  answered_refused {none} f e n =
      let l = lattice_of v xn xh yn yh zn zh in
      let h : refusal_of f ≡ and_then (check_stretches v xn xh yn yh zn zh) (depth_of l coarsest) = hands_on (depth_of l coarsest) f e in
      record { answer_is = h; lines_are = no_lines l none _ (ap count_of (sym h) ∙ count_refused (refusal_of f) (refused_unsound f)) n }

  -- the lines of a sound lattice, with the level loop's answer
  pub answered_found : {k : FullLattice} (f : Lines) {b : Result ℕ Levels.Refusal} → accepted 0 ≡ check_stretches v xn xh yn yh zn zh
      → k ≡ lattice_of v xn xh yn yh zn zh → Joined k coarsest f
      → b ≡ ok_or f.depth TooMany → Answered v xn xh yn yh zn zh coarsest (record { answer = b; lines = f.lines })
  unfolding levels_of level_lines_of
  answered_found f e g j s =
      let l = lattice_of v xn xh yn yh zn zh in
      let h : and_then (check_stretches v xn xh yn yh zn zh) (depth_of l coarsest) ≡ depth_of l coarsest = goes_on (depth_of l coarsest) e in
      record {
        answer_is = ap verdict s ∙ (depth_answer f.depth ∙ (j.depth_is ∙ (ap (λ m. depth_of m coarsest) g ∙ sym h)));
        lines_are =
            j.lines_are ∙ ((λ i. lines_to (g i) (count_of (depth_of (g i) coarsest))) ∙ ap (λ w. lines_to l (count_of w)) (sym h));
      }

-- ---- an answer is known by what it means

-- the refusal that means a verdict
abbrev answer_in : Verdict → Result ℕ Levels.Refusal
answer_in (accepted n) = Ok n
answer_in (refused number place) = cond (eqb number 5) (Err TooMany) (Err (Input (refusal_in number place)))

answer_back : (a : Result ℕ Levels.Refusal) → answer_in (verdict a) ≡ a
answer_back (Ok n) = refl
answer_back (Err (Input (Cells place))) = refl
answer_back (Err (Input (Scalar place))) = refl
answer_back (Err (Input (Length place))) = refl
answer_back (Err (Input (Entry place))) = refl
answer_back (Err TooMany) = refl

-- two answers
pub verdict_one : (a b : Result ℕ Levels.Refusal) → verdict a ≡ verdict b → a ≡ b
verdict_one a b e = sym (answer_back a) ∙ (ap answer_in e ∙ answer_back b)

refused_not : {number place n : ℕ} → refused number place ≡ accepted n → ⊥
refused_not e = let z : ◌≡◌ {A = ℕ} 0 1 = cc in omega arith

depth_some : (l : FullLattice) (coarsest n L : ℕ) → depth_from l coarsest n L ≡ accepted 0 → ⊥
unfolding depth_from
depth_some l coarsest zero L e = refused_not e
depth_some l coarsest (suc n) L e = go (stops l coarsest L) e (depth_some l coarsest n (suc L))
  where
    go : (b : Bool) → cond b (accepted (suc L)) (depth_from l coarsest n (suc L)) ≡ accepted 0 → (depth_from l coarsest n (suc L) ≡ accepted 0 → ⊥) → ⊥
    go true e r = let z : suc L ≡ 0 = cc in omega arith
    go false e r = r e

pub levels_some : (v : Lattice) (xn xh yn yh zn zh : List Float) (coarsest : ℕ) → levels_of v xn xh yn yh zn zh coarsest ≡ accepted 0 → ⊥
unfolding levels_of depth_of
levels_some v xn xh yn yh zn zh coarsest = go (check_stretches v xn xh yn yh zn zh)
  where
    go : (c : Verdict) → and_then c (depth_from (lattice_of v xn xh yn yh zn zh) coarsest 12 0) ≡ accepted 0 → ⊥
    go (accepted n) e = depth_some (lattice_of v xn xh yn yh zn zh) coarsest 12 0 e
    go (refused number place) e = refused_not e

-- ---- there are at most 12 levels

depth_from_lem : (l : FullLattice) (coarsest n L k : ℕ) → depth_from l coarsest n L ≡ accepted k → k ≤ L + n
unfolding depth_from
depth_from_lem l coarsest zero L k e = absurd (let z : ◌≡◌ {A = ℕ} 0 1 = cc in omega arith)
depth_from_lem l coarsest (suc n) L k e = go (stops l coarsest L) e (depth_from_lem l coarsest n (suc L) k)
  where
    go : (b : Bool) → cond b (accepted (suc L)) (depth_from l coarsest n (suc L)) ≡ accepted k → (depth_from l coarsest n (suc L) ≡ accepted k → k ≤ suc L + n) → k ≤ L + suc n
    go true e r = let z : suc L ≡ k = cc in omega arith
    go false e r = omega (arith, r e)

pub depth_most : (l : FullLattice) (coarsest k : ℕ) → depth_of l coarsest ≡ accepted k → k ≤ 12
unfolding depth_of
depth_most l coarsest k e = omega (arith, depth_from_lem l coarsest 12 0 k e)

pub depth_none : (l : FullLattice) (coarsest : ℕ) → depth_of l coarsest ≡ accepted 0 → ⊥
unfolding depth_of
depth_none l coarsest e = depth_some l coarsest 12 0 e
