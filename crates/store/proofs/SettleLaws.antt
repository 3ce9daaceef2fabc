-- The steps of a setup put together: structure, fill, zero. `settled_of` behind the checks, and `setup_of` with them.
-- Assumes nothing.
use Prim.Native.Nat.{ℕ, zero, suc, ◌+◌, ◌-◌, ◌*◌, ◌≤◌, ◌<◌}
use native.Mathlib.Omega.{arith}
use mathlib.Core.Path.{◌≡◌, refl, sym, ap, ◌∙◌}
use mathlib.Core.Bool.{Bool, true, false, false≢true, cond}
use mathlib.Core.List.{List}
use lib.Dec.{eqb}
use lib.ListN.{length, replicate}
use lib.Ieee.{Float}
use borrow.Author.Tests.{eq-eqb, ne_eqb}
use Rattle.std.specs.Prelude.{Option, Some, None, unwrap_or, Ok, Err, is_ok, Result as Answer}
use Rattle.numbers.specs.declared.C64.{C64}
use Rattle.numbers.specs.Complex.{zero_f}
use Rattle.numbers.specs.Lists.{rows, laid_numbers}
use Rattle.numbers.proofs.ListLaws.{laid_length, laid_numbers_length}
use Rattle.lattice.specs.Check.{Verdict, accepted, refused, and_then, is_sound, check_of}
use Rattle.lattice.specs.Grid.{Limits, unknowns_of}
use Rattle.lattice.specs.Lattice.{FullLattice, Lengths}
use Rattle.lattice.proofs.CheckLaws.{all_sound, refused_unsound}
use Rattle.operators.proofs.LevelListLaws.{first_edges}
use Rattle.numbers.specs.Places.{number_at}
use Rattle.lattice.specs.Levels.{depth_of, count_of, depth_verdict, levels_refused, Joined}
use Rattle.lattice.specs.declared.levels.Lines.{Lines}
use Rattle.lattice.proofs.LevelLaws.{depth_none}
use Rattle.lattice.specs.declared.line.Line.{Line}
use Rattle.operators.specs.LevelLists.{edges_on}
use Rattle.store.specs.Store.{Store, Sizes, sizes, zeroed}
use Rattle.store.specs.Layout.{Enough, eps_off}
use Rattle.store.specs.Setup.{Input, full_of, setup_of, Result, result_of, unless, filled, all_to, names_once, short_of, level_fine, ends_part, eps_part, averaged_part, forward_starts_of, forward_cols_of, forward_numbers, turned_starts_of, turned_cols_of, turned_numbers, operator_starts_of, operator_cols_of, operator_numbers, scale_part, only_numbers}
use Rattle.store.specs.Phases.{HasLines}
use Rattle.store.specs.FillSteps.{numbered}
use Rattle.store.proofs.VerdictLaws.{enough_told}
use Rattle.store.proofs.LineLaws.{has_lines}
use Rattle.store.proofs.NeedLaws.{never_twice}
use Rattle.lattice.proofs.LatticeLaws.{lattice_grid}
use Rattle.store.specs.Steps.{answer_of, filling, code_of, fill_of, LinesFound, m_of, structure_by, settled_of}
use Rattle.store.specs.declared.Choice.{Choice}
use Rattle.store.specs.ChangeSteps.{changed_of}
use Rattle.store.specs.declared.change.Refusal.{Refusal as ChangeRefusal}
use Rattle.store.specs.declared.change.Refusal.TheVariants.{Setup, NoEdge, BadValue, Differs}
use Rattle.store.specs.declared.setup.Refusal.{Refusal}
use Rattle.store.specs.declared.setup.Refusal.TheVariants.{Input as OfInput, TooMany, Twice, Short, NotFinite}

-- ---- the lines that the level loop found

pub lines_found : {l : FullLattice} {coarsest : ℕ} {r : Lines} → Joined l coarsest r → LinesFound l r.depth r.lines
lines_found {l} {coarsest} {r} j =
    record {
      held = λ n e.
          let d : depth_of l coarsest ≡ accepted n = sym j.depth_is ∙ ap depth_verdict e in
          let some : 0 < n = more n (λ z. depth_none l coarsest (d ∙ ap accepted z)) in
          let z : suc (n - 1) ≡ n = omega arith in
          let h = has_lines l coarsest (n - 1) j (d ∙ ap accepted (sym z)) in
          (some, omega (arith, h.1), h.0);
    }
  where
    more : (n : ℕ) → (n ≡ 0 → ⊥) → 0 < n
    more zero h = absurd (h refl)
    more (suc n) h = omega arith

-- ---- 8 and 6

pub none_twice : (l : FullLattice) → Limits l.grid → (m : ℕ) (rest : Verdict) → rest ≡ and_then (all_to 8 (names_once l) m) rest
none_twice l limits m rest = sym (ap (λ (v : Verdict). and_then v rest) (never_twice l limits m))

module _ {v : Verdict} {s : ℕ} (short : v ≡ numbered s) (rest : Verdict) where
  pub short_is : (s ≡ 6 → ⊥) → refused 6 s ≡ and_then v rest
  short_is h = sym (ap (λ (w : Verdict). and_then w rest) (short ∙ ap (λ (b : Bool). cond b (accepted 0) (refused 6 s)) (ne_eqb s 6 h)))

  pub none_short : s ≡ 6 → rest ≡ and_then v rest
  none_short h = sym (ap (λ (w : Verdict). and_then w rest) (short ∙ ap (λ (b : Bool). cond b (accepted 0) (refused 6 s)) (eq-eqb s 6 h)))

-- ---- verdicts

-- what was refused before the level count is refused without it
pub and_last : (x y : Verdict) (n : ℕ) → is_sound (and_then x (and_then y (accepted n))) ≡ false → and_then x y ≡ and_then x (and_then y (accepted n))
and_last (accepted a) (accepted b) n e = absurd (false≢true (sym e))
and_last (accepted a) (refused b p) n e = refl
and_last (refused a p) y n e = refl

pub unless_refused : (v : Verdict) (s : Store) (r : Result) → is_sound v ≡ false → result_of v s ≡ unless v s r
unless_refused (accepted n) s r e = absurd (false≢true (sym e))
unless_refused (refused n p) s r e = refl

-- what was not refused
pub and_sound : (x y : Verdict) (n : ℕ) (s : Store) (r : Result) → is_sound (and_then x (and_then y (accepted n))) ≡ true → (unless (and_then x y) s r ≡ r) × (and_then x (and_then y (accepted n)) ≡ accepted n)
and_sound (accepted a) (accepted b) n s r e = (refl, refl)
and_sound (accepted a) (refused b p) n s r e = absurd (false≢true e)
and_sound (refused a p) y n s r e = absurd (false≢true e)

-- ---- zero in every place: of two stores of the same sizes

blank : Sizes → Store
blank h =
    record {
      ends = replicate h.ends 0;
      permittivities = replicate h.permittivities zero_f;
      forward_starts = replicate h.forward_starts 0;
      forward_columns = replicate h.forward_columns 0;
      forward_values = replicate h.forward_values zero_f;
      turned_starts = replicate h.turned_starts 0;
      turned_columns = replicate h.turned_columns 0;
      turned_values = replicate h.turned_values zero_f;
      operator_starts = replicate h.operator_starts 0;
      operator_columns = replicate h.operator_columns 0;
      operator_values = replicate h.operator_values zero_f;
      scaling = replicate h.scaling zero_f;
    }

filled_sizes : (l : FullLattice) (ch : Choice) (m : ℕ) (f : ℕ → C64) (b : Store) → sizes (filled l ch m f b) ≡ sizes b
unfolding filled
filled_sizes l ch m f b =
    λ i.
    record {
      ends = laid_length b.ends 0 (rows (ends_part l) (3 * suc m)) i;
      permittivities =
          (laid_numbers_length (laid_numbers b.permittivities 0 (rows (eps_part l f) (suc m))) (eps_off l (suc m)) (only_numbers ch (rows (averaged_part l f) m))
          ∙ laid_numbers_length b.permittivities 0 (rows (eps_part l f) (suc m))) i;
      forward_starts = laid_length b.forward_starts 0 (rows (forward_starts_of l) m) i;
      forward_columns = laid_length b.forward_columns 0 (rows (forward_cols_of l) m) i;
      forward_values = laid_numbers_length b.forward_values 0 (rows (forward_numbers l f) m) i;
      turned_starts = laid_length b.turned_starts 0 (rows (turned_starts_of l) m) i;
      turned_columns = laid_length b.turned_columns 0 (rows (turned_cols_of l) m) i;
      turned_values = laid_numbers_length b.turned_values 0 (rows (turned_numbers l f) m) i;
      operator_starts = laid_length b.operator_starts 0 (rows (operator_starts_of l ch m) (suc m)) i;
      operator_columns = laid_length b.operator_columns 0 (rows (operator_cols_of l ch m) (suc m)) i;
      operator_values = laid_numbers_length b.operator_values 0 (rows (operator_numbers l ch m f) (suc m)) i;
      scaling = laid_numbers_length b.scaling 0 (only_numbers ch (rows (scale_part l f) m)) i;
    }

filled_zeroed : (l : FullLattice) (ch : Choice) (m : ℕ) (f : ℕ → C64) (b : Store) → zeroed (filled l ch m f b) ≡ zeroed b
unfolding blank
filled_zeroed l ch m f b = ap blank (filled_sizes l ch m f b)

-- ---- 7 as a code

code_seven : (ok : ℕ → Bool) (n : ℕ) → all_to 7 ok n ≡ cond (eqb (code_of (all_to 7 ok n)) 0) (accepted 0) (refused 7 (code_of (all_to 7 ok n) - 1))
unfolding all_to
code_seven ok zero = refl
code_seven ok (suc n) = go (all_to 7 ok n) (ok n) (code_seven ok n)
  where
    go : (v : Verdict) (b : Bool) → v ≡ cond (eqb (code_of v) 0) (accepted 0) (refused 7 (code_of v - 1))
        → and_then v (cond b (accepted 0) (refused 7 n)) ≡ cond (eqb (code_of (and_then v (cond b (accepted 0) (refused 7 n)))) 0) (accepted 0) (refused 7 (code_of (and_then v (cond b (accepted 0) (refused 7 n))) - 1))
    go (accepted a) true e = refl
    go (accepted a) false e = let z : suc n - 1 ≡ n = omega arith in sym (ap (λ (b : Bool). cond b (accepted 0) (refused 7 (suc n - 1))) (ne_eqb (suc n) 0 (λ x. omega arith)) ∙ ap (refused 7) z)
    go (refused a p) b e = e

-- ---- behind the checks

module _ (l : FullLattice) (ch : Choice) (coarsest : ℕ) (f : ℕ → C64) (b : Store) {d : Verdict} (depth : d ≡ depth_of l coarsest) {v : Verdict} (found : v ≡ structure_by l ch d (sizes b)) where
  pub settled_refused : {t : Store} → is_sound v ≡ false → t ≡ zeroed b → result_of v t ≡ settled_of l ch coarsest f b
  unfolding settled_of structure_by
  settled_refused {t} e z =
      let x = and_then (depth_of l coarsest) (all_to 8 (names_once l) (m_of l coarsest)) in
      let y = short_of l ch (m_of l coarsest) (sizes b) in
      let w : v ≡ and_then x (and_then y (accepted (suc (m_of l coarsest)))) = found ∙ ap (λ (u : Verdict). and_then (and_then u (all_to 8 (names_once l) (count_of u - 1))) (and_then (short_of l ch (count_of u - 1) (sizes b)) (accepted (suc (count_of u - 1))))) depth in
      let q : v ≡ and_then x y = w ∙ sym (and_last x y (suc (m_of l coarsest)) (ap is_sound (sym w) ∙ e)) in
      (λ i. result_of (q i) (z i)) ∙ unless_refused (and_then x y) (zeroed b) _ (ap is_sound (sym q) ∙ e)

  pub settled_none : (r : Result) → is_sound v ≡ false → unless v (zeroed b) r ≡ settled_of l ch coarsest f b
  settled_none r e = sym (unless_refused v (zeroed b) r e) ∙ settled_refused e refl

  module _ (e : is_sound v ≡ true) {bad : ℕ} {t : Store} (done : filling bad t ≡ fill_of l ch (m_of l coarsest) f b) where
    goes : (settled_of l ch coarsest f b ≡ unless (all_to 7 (level_fine l ch (m_of l coarsest) f) (suc (m_of l coarsest))) (zeroed b) (result_of (accepted (suc (m_of l coarsest))) (filled l ch (m_of l coarsest) f b)))
        × (v ≡ accepted (suc (m_of l coarsest)))
    unfolding settled_of structure_by
    goes =
        let x = and_then (depth_of l coarsest) (all_to 8 (names_once l) (m_of l coarsest)) in
        let y = short_of l ch (m_of l coarsest) (sizes b) in
        let w : v ≡ and_then x (and_then y (accepted (suc (m_of l coarsest)))) = found ∙ ap (λ (u : Verdict). and_then (and_then u (all_to 8 (names_once l) (count_of u - 1))) (and_then (short_of l ch (count_of u - 1) (sizes b)) (accepted (suc (count_of u - 1))))) depth in
        let k = and_sound x y (suc (m_of l coarsest)) (zeroed b) (unless (all_to 7 (level_fine l ch (m_of l coarsest) f) (suc (m_of l coarsest))) (zeroed b) (result_of (accepted (suc (m_of l coarsest))) (filled l ch (m_of l coarsest) f b))) (ap is_sound (sym w) ∙ e) in
        (k.0, w ∙ k.1)

    abbrev seven : Verdict
    seven = all_to 7 (level_fine l ch (m_of l coarsest) f) (suc (m_of l coarsest))

    bad_is : bad ≡ code_of seven
    unfolding fill_of
    bad_is = ap (λ (q : Rattle.store.specs.Steps.Filling). q.bad) done

    store_is : t ≡ filled l ch (m_of l coarsest) f b
    unfolding fill_of
    store_is = ap (λ (q : Rattle.store.specs.Steps.Filling). q.store) done

    seven_is : seven ≡ cond (eqb bad 0) (accepted 0) (refused 7 (bad - 1))
    seven_is = code_seven (level_fine l ch (m_of l coarsest) f) (suc (m_of l coarsest)) ∙ ap (λ (k : ℕ). cond (eqb k 0) (accepted 0) (refused 7 (k - 1))) (sym bad_is)

    pub settled_done : bad ≡ 0 → result_of v t ≡ settled_of l ch coarsest f b
    settled_done z =
        let q : seven ≡ accepted 0 = seven_is ∙ ap (λ (x : Bool). cond x (accepted 0) (refused 7 (bad - 1))) (eq-eqb bad 0 z) in
        (λ i. result_of (goes.1 i) (store_is i))
        ∙ sym (goes.0 ∙ ap (λ (u : Verdict). unless u (zeroed b) (result_of (accepted (suc (m_of l coarsest))) (filled l ch (m_of l coarsest) f b))) q)

    pub settled_bad : {level : ℕ} → bad ≡ suc level → {t' : Store} → t' ≡ zeroed t → result_of (refused 7 level) t' ≡ settled_of l ch coarsest f b
    settled_bad {level} n z =
        let p : bad - 1 ≡ level = omega arith in
        let q : seven ≡ refused 7 level = seven_is ∙ ap (λ (x : Bool). cond x (accepted 0) (refused 7 (bad - 1))) (ne_eqb bad 0 (λ o. omega arith)) ∙ ap (refused 7) p in
        ap (result_of (refused 7 level)) (z ∙ ap zeroed store_is ∙ filled_zeroed l ch (m_of l coarsest) f b)
        ∙ sym (goes.0 ∙ ap (λ (u : Verdict). unless u (zeroed b) (result_of (accepted (suc (m_of l coarsest))) (filled l ch (m_of l coarsest) f b))) q)

-- of the store whose lists are so long
pub sized : (l : FullLattice) (ch : Choice) (d : Verdict) {v : Verdict} {h k : Sizes} → v ≡ structure_by l ch d h → h ≡ k → v ≡ structure_by l ch d k
sized l ch d found e = found ∙ ap (structure_by l ch d) e

-- a refusal is none
pub err_refused : (e : Refusal) → is_sound (answer_of (Err e)) ≡ false
err_refused (OfInput c) = refused_unsound c
err_refused TooMany = refl
err_refused (Twice level) = refl
err_refused (Short list) = refl
err_refused (NotFinite level) = refl

pub change_refused : (e : ChangeRefusal) → is_sound (changed_of (Err e)) ≡ false
change_refused (Setup r) = err_refused r
change_refused (NoEdge edge) = refl
change_refused (BadValue edge) = refl
change_refused (Differs level) = refl

pub sound_ok : (a : Answer ℕ Refusal) → is_ok a ≡ is_sound (answer_of a)
sound_ok (Ok n) = refl
sound_ok (Err e) = sym (err_refused e)

-- what is left after a refusal, and else
pub settled_err : (a : Answer ℕ Refusal) (s : Store) {t : Store} {r : Result} → is_ok a ≡ false → unless (answer_of a) (zeroed s) (result_of (answer_of a) s) ≡ r → t ≡ zeroed s → result_of (answer_of a) t ≡ r
settled_err (Ok n) s e u z = absurd (false≢true (sym e))
settled_err (Err w) s e u z = ap (result_of (answer_of (Err w))) z ∙ unless_refused (answer_of (Err w)) (zeroed s) _ (err_refused w) ∙ u

pub settled_ok : (a : Answer ℕ Refusal) (s : Store) {r : Result} → is_ok a ≡ true → unless (answer_of a) (zeroed s) (result_of (answer_of a) s) ≡ r → result_of (answer_of a) s ≡ r
settled_ok (Ok n) s e u = u
settled_ok (Err w) s e u = absurd (false≢true e)

-- ---- 5, 8 and 6 as the code finds them

module _ (l : FullLattice) (limits : Limits l.grid) (m : ℕ) {v : Verdict} {s : ℕ} (short : v ≡ numbered s) where
  pub structure_short : (s ≡ 6 → ⊥) → refused 6 s ≡ and_then (all_to 8 (names_once l) m) (and_then v (accepted (suc m)))
  structure_short n = short_is short (accepted (suc m)) n ∙ none_twice l limits m (and_then v (accepted (suc m)))

  pub structure_levels : s ≡ 6 → accepted (m + 1) ≡ and_then (all_to 8 (names_once l) m) (and_then v (accepted (suc m)))
  structure_levels e =
      let z : m + 1 ≡ suc m = omega arith in
      ap accepted z ∙ none_short short (accepted (suc m)) e ∙ none_twice l limits m (and_then v (accepted (suc m)))

module _ (l : FullLattice) (ch : Choice) {depth : Option ℕ} (h : Sizes) where
  pub structure_found : {n : ℕ} {v : Verdict} → depth ≡ Some n
      → v ≡ and_then (all_to 8 (names_once l) (n - 1)) (and_then (short_of l ch (n - 1) h) (accepted (suc (n - 1)))) → v ≡ structure_by l ch (depth_verdict depth) h
  unfolding structure_by
  structure_found e q = rw e q

  pub structure_none : depth ≡ None → levels_refused ≡ structure_by l ch (depth_verdict depth) h
  unfolding structure_by
  structure_none e = rw e refl

pub transfers_are : (depth : Option ℕ) → unwrap_or depth 0 - 1 ≡ count_of (depth_verdict depth) - 1
transfers_are None = refl
transfers_are (Some n) = refl

-- ---- what the fill asks for, and its m

and_short : (x y : Verdict) (n : ℕ) → is_sound (and_then x (and_then y (accepted n))) ≡ true → is_sound y ≡ true
and_short (accepted a) (accepted b) n e = refl
and_short (accepted a) (refused b p) n e = e
and_short (refused a p) y n e = absurd (false≢true e)

module _ {l : FullLattice} {ch : Choice} {depth : Option ℕ} {lines : List Line} {m : ℕ} {h : Sizes} {v : Verdict} (held : LinesFound l depth lines)
    (count : m ≡ count_of (depth_verdict depth) - 1) (found : v ≡ structure_by l ch (depth_verdict depth) h) (e : is_sound v ≡ true) where
  pub fill_asked : (m ≤ 11) × HasLines l m lines × Enough l ch m h
  unfolding structure_by
  fill_asked = go depth refl
    where
      go : (d : Option ℕ) → depth ≡ d → (m ≤ 11) × HasLines l m lines × Enough l ch m h
      go (Some n) q =
          let k = held.held n q in
          let z : m ≡ n - 1 = count ∙ ap (λ (d : Option ℕ). count_of (depth_verdict d) - 1) q in
          let s : is_sound (structure_by l ch (accepted n) h) ≡ true = ap is_sound (sym (found ∙ ap (λ (d : Option ℕ). structure_by l ch (depth_verdict d) h) q)) ∙ e in
          (omega (arith, k.1), rw z k.2, rw z (enough_told l ch (n - 1) h (and_short (all_to 8 (names_once l) (n - 1)) (short_of l ch (n - 1) h) (suc (n - 1)) s)))
      go None q = absurd (false≢true (ap is_sound (sym (found ∙ ap (λ (d : Option ℕ). structure_by l ch (depth_verdict d) h) q)) ∙ e))

pub fill_at : (l : FullLattice) (ch : Choice) (coarsest : ℕ) (f : ℕ → C64) (b : Store) {m bad : ℕ} {t : Store} {d : Verdict} → d ≡ depth_of l coarsest → m ≡ count_of d - 1
    → filling bad t ≡ fill_of l ch m f b → filling bad t ≡ fill_of l ch (m_of l coarsest) f b
fill_at l ch coarsest f b depth count done = done ∙ ap (λ (k : ℕ). fill_of l ch k f b) (count ∙ ap (λ (u : Verdict). count_of u - 1) depth)

-- ---- with the checks

module _ (i : Input) (eps : List Float) (b : Store) {w : Verdict}
    (checked : w ≡ check_of i.lattice i.xn i.xh i.yn i.yh i.zn i.zh eps) where
  pub setup_refused : is_sound w ≡ false → result_of w b ≡ setup_of i eps b
  unfolding setup_of
  setup_refused e = ap (λ (u : Verdict). result_of u b) checked ∙ unless_refused (check_of i.lattice i.xn i.xh i.yn i.yh i.zn i.zh eps) b _ (ap is_sound (sym checked) ∙ e)

  module _ (e : is_sound w ≡ true) where
    pub setup_sound : Limits i.lattice.grid × Lengths i.lattice.grid i.xn i.yn i.zn × Lengths i.lattice.grid i.xh i.yh i.zh
        × (length eps ≡ 2 * unknowns_of i.lattice.grid)
    setup_sound = all_sound i.lattice i.xn i.xh i.yn i.yh i.zn i.zh eps (ap is_sound (sym checked) ∙ e)

    passed : (u : Verdict) (s : Store) (r : Result) → is_sound u ≡ true → unless u s r ≡ r
    passed (accepted n) s r h = refl
    passed (refused n p) s r h = absurd (false≢true h)

    module _ {l : FullLattice} (full : l ≡ full_of i) where
      pub setup_given : 2 * edges_on l 0 ≤ length eps
      setup_given = let z : unknowns_of i.lattice.grid ≡ edges_on (full_of i) 0 = ap unknowns_of (sym (lattice_grid i.lattice i.xn i.xh i.yn i.yh i.zn i.zh)) ∙ first_edges (full_of i) in rw full (omega (arith, setup_sound.3, z))

      pub setup_settled : {r : Result} → r ≡ settled_of l i.choice i.coarsest (number_at eps) b → r ≡ setup_of i eps b
      unfolding setup_of settled_of
      setup_settled q =
          q ∙ ap (λ (k : FullLattice). settled_of k i.choice i.coarsest (number_at eps) b) full
          ∙ sym (passed (check_of i.lattice i.xn i.xh i.yn i.yh i.zn i.zh eps) b _ (ap is_sound (sym checked) ∙ e))
