-- The lattice of a rediscretized level: steps, widths, the list of stretches laid axis by axis, and the lines of the levels.
-- Assumes nothing.
use Prim.Native.Nat.{ℕ, ◌+◌, ◌-◌, ◌*◌, ◌/◌, ◌%◌, ◌<◌, ◌≤◌}
use mathlib.Core.Path.{◌≡◌, refl, sym, ap, subst, ◌∙◌}
use mathlib.Core.Logic.{◌⊎◌, inl, inr}
use mathlib.Core.Bool.{true, cond}
use lib.Dec.{ltb}
use mathlib.Core.List.{List}
use native.Mathlib.Omega.{arith}
use native.Mathlib.Decide.{ℕ_discrete, dec_lt}
use borrow.Author.Tests.{lt-ltb, le-ltb, eq-eqb, ne_eqb}
use lib.ListN.{length, get_or, replicate, length-replicate}
use lib.IntN.{pos}
use lib.Ieee.{Float, binary64, of_int}
use Rattle.numbers.specs.declared.C64.{C64}
use Rattle.numbers.specs.Complex.{mul_f, div_f, zero_f, zero_number, no_number, difference, real_times}
use Rattle.numbers.specs.Places.{number_at, set_number, found_at}
use Rattle.numbers.proofs.Laws.{length_set_number, number_same, number_other, found_held}
use Rattle.lattice.specs.declared.grid.Grid3d.{Grid3d}
use Rattle.lattice.specs.declared.lattice.Edges.{Edges}
use Rattle.lattice.specs.declared.lattice.Edges.TheVariants.{Pml, Bloch}
use Rattle.lattice.specs.declared.lattice.Lattice.{Lattice}
use Rattle.lattice.specs.declared.levels.Three.{Three}
use Rattle.lattice.specs.declared.line.Line.{Line}
use Rattle.lattice.specs.Grid.{n_of, step_of, Limits}
use Rattle.lattice.specs.Lattice.{FullLattice, full_lattice, half_no, edges_of}
use Rattle.lattice.specs.Levels.{line_at, three_at}
use Rattle.lattice.specs.Line.{packed, ends_of, place_of, LineOver, Held}
use Rattle.numbers.specs.Lists.{Rises}
use Rattle.lattice.specs.Stretched.{across_map, along_map}
use Rattle.lattice.proofs.GridLaws.{n_most}
use Rattle.lattice.proofs.LevelLaws.{line_over}
use Rattle.lattice.proofs.LineLaws.{ends_packed, length_ends, ends_at, over_held}
use Rattle.numbers.proofs.ListLaws.{rises_below}
use Rattle.numbers.proofs.TabulateLaws.{tabulate_agree}
use Rattle.weights.specs.Tables.{lines_in, HeldThree}
use Rattle.numbers.proofs.Equations.{places_is}
use Rattle.lattice.proofs.Equations.{edges_of_0, edges_of_1, edges_of_2, place_of_is, three_at_is}
use Rattle.weights.proofs.Equations.{whole_is, lines_in_0, lines_in_1, lines_in_2}
use Rattle.numbers.proofs.ElementLaws.{zeros_at}
use Rattle.operators.specs.Rediscretized.{two_f, cells_on, coarse_step, unit_of, mapped, centre, cell_length, first_width, node_width, half_on, node_on, half_stretch, node_stretch, rediscretized_grid, rediscretized_lattice, lattice_on, AxisLaid, Tame}

-- ---- steps

module _ (g : Grid3d) (a n : ℕ) where
  pub step_is : {cells : ℕ} {s : Float} → cells ≡ n_of g a → s ≡ step_of g a
      → div_f (mul_f s (of_int binary64 (pos cells))) (of_int binary64 (pos n)) ≡ coarse_step g a n
  unfolding coarse_step
  step_is e p = rw (whole_is (n_of g a), whole_is n) (λ i. div_f (mul_f (p i) (of_int binary64 (pos (e i)))) (of_int binary64 (pos n)))

  pub unit_is : {s t : Float} → s ≡ step_of g a → t ≡ coarse_step g a n → div_f s t ≡ unit_of g a n
  unfolding unit_of
  unit_is p q = λ i. div_f (p i) (q i)

-- ---- lengths and widths, as the code reads them from a held line

pub cells_on_lem : (f : Line) → Held f → cells_on (ends_of f) ≡ f.cells
unfolding cells_on
cells_on_lem f h = omega (arith, length_ends f h)

module _ (x : List C64) (f : Line) where
  pub length_is : {r : C64} (m : ℕ) → m < f.cells
      → r ≡ difference (get_or x (get_or f.ends (m + 1) 0) no_number) (get_or x (get_or f.ends m 0) no_number) → r ≡ cell_length x (ends_of f) m
  unfolding cell_length mapped
  length_is m h e = rw (ends_at f m (omega arith), ends_at f (m + 1) (omega arith)) e

module _ {e : Edges} (x : List C64) where
  pub first_wall : (es : List ℕ) {first : ℕ} {d r : C64} → e ≡ Pml → first ≡ place_of es 0 true
      → d ≡ difference (get_or x first no_number) (get_or x 0 no_number) → r ≡ real_times two_f d → r ≡ first_width e x es
  unfolding mapped centre
  first_wall es p o q s = rw (p, ← o, ← q) s

  pub first_period : (f : Line) {first last : ℕ} {phase : C64} → Held f → e ≡ Bloch phase → first ≡ place_of (ends_of f) 0 true
      → last ≡ place_of (ends_of f) (f.cells - 1) true
      → ◌≡◌ {A = C64} (record { re = div_f (of_int binary64 (pos (first + get_or f.ends f.cells 0 - last))) two_f; im = zero_f }) (first_width e x (ends_of f))
  unfolding centre
  first_period f h p o q = rw (p, cells_on_lem f h, ends_at f f.cells (omega arith), ← o, ← q, whole_is)

module _ (e : Edges) (x : List C64) (es : List ℕ) (m : ℕ) where
  pub width_first : m ≡ 0 → first_width e x es ≡ node_width e x es m
  unfolding node_width
  width_first h = rw (eq-eqb m 0 h)

  pub width_next : {here before : ℕ} {r : C64} → (m ≡ 0 → ⊥) → before ≡ place_of es (m - 1) true → here ≡ place_of es m true
      → r ≡ difference (get_or x here no_number) (get_or x before no_number) → r ≡ node_width e x es m
  unfolding node_width mapped centre
  width_next h p q s = rw (ne_eqb m 0 h, ← p, ← q) s

-- ---- the stretches of one axis, m of them laid

-- the stretches by a step's unit
abbrev pub node_by : Float → Edges → List C64 → List ℕ → ℕ → C64
node_by u e x es m = real_times u (node_width e x es m)

abbrev pub half_by : Float → List C64 → List ℕ → ℕ → C64
half_by u x es m = real_times u (cell_length x es m)

pub axis_start : {node half : ℕ → C64} {a : ℕ} {xs : List Float} → AxisLaid node half a 0 xs xs
axis_start =
    record {
      long = refl;
      nodes_are = λ m h. absurd (omega arith);
      halves_are = λ m h. absurd (omega arith);
      nodes_kept = λ k h o. refl;
      halves_kept = λ k h o. refl;
    }

module _ {node half : ℕ → C64} {a m : ℕ} {xs ys zs ws : List Float} {v w : C64} (l : AxisLaid node half a m xs ys) (b : a < 3) (h : m < 64) (e : length xs ≡ 768)
    (p : v ≡ node m) (z : zs ≡ set_number ys (64 * a + m) v) (q : w ≡ half m) (o : ws ≡ set_number zs (192 + 64 * a + m) w) where
  length_both : length zs ≡ 768
  length_both = ap length z ∙ length_set_number ys (64 * a + m) v ∙ l.long ∙ e

  other : (k : ℕ) → (k ≡ 64 * a + m → ⊥) → (k ≡ 192 + 64 * a + m → ⊥) → number_at ws k ≡ number_at ys k
  other k n s =
      ap (λ (us : List Float). number_at us k) o
      ∙ number_other zs (192 + 64 * a + m) k w s
      ∙ ap (λ (us : List Float). number_at us k) z
      ∙ number_other ys (64 * a + m) k v n

  node_here : number_at ws (64 * a + m) ≡ node m
  node_here =
      ap (λ (us : List Float). number_at us (64 * a + m)) o
      ∙ number_other zs (192 + 64 * a + m) (64 * a + m) w (omega arith)
      ∙ ap (λ (us : List Float). number_at us (64 * a + m)) z
      ∙ number_same ys (64 * a + m) v (omega (arith, l.long, places_is ys))
      ∙ p

  half_here : number_at ws (192 + 64 * a + m) ≡ half m
  half_here =
      ap (λ (us : List Float). number_at us (192 + 64 * a + m)) o
      ∙ number_same zs (192 + 64 * a + m) w (omega (arith, length_both, places_is zs))
      ∙ q

  -- a turn: the stretch at node m and the one behind it
  pub axis_turn : AxisLaid node half a (m + 1) xs ws
  axis_turn =
      record {
        long = ap length o ∙ length_set_number zs (192 + 64 * a + m) w ∙ length_both ∙ sym e;
        nodes_are = λ k c. nodes k c (ℕ_discrete k m);
        halves_are = λ k c. halves k c (ℕ_discrete k m);
        nodes_kept = λ k c s. other k (apart k s) (omega arith) ∙ l.nodes_kept k c (before k s);
        halves_kept = λ k c s. other (192 + k) (omega arith) (apart_half k s) ∙ l.halves_kept k c (before k s);
      }
    where
      nodes : (k : ℕ) → k < m + 1 → Dec (k ≡ m) → number_at ws (64 * a + k) ≡ node k
      nodes k c (yes d) = rw d node_here
      nodes k c (no d) = other (64 * a + k) (omega arith) (omega arith) ∙ l.nodes_are k (omega arith)

      halves : (k : ℕ) → k < m + 1 → Dec (k ≡ m) → number_at ws (192 + 64 * a + k) ≡ half k
      halves k c (yes d) = rw d half_here
      halves k c (no d) = other (192 + 64 * a + k) (omega arith) (omega arith) ∙ l.halves_are k (omega arith)

      apart : (k : ℕ) → k < 64 * a ⊎ 64 * a + (m + 1) ≤ k → k ≡ 64 * a + m → ⊥
      apart k (inl c) d = omega arith
      apart k (inr c) d = omega arith

      apart_half : (k : ℕ) → k < 64 * a ⊎ 64 * a + (m + 1) ≤ k → 192 + k ≡ 192 + 64 * a + m → ⊥
      apart_half k (inl c) d = omega arith
      apart_half k (inr c) d = omega arith

      before : (k : ℕ) → k < 64 * a ⊎ 64 * a + (m + 1) ≤ k → k < 64 * a ⊎ 64 * a + m ≤ k
      before k (inl c) = inl c
      before k (inr c) = inr (omega arith)

-- the end: the unit is the level's
pub axis_end : (g : Grid3d) (e : Edges) (across along : List C64) {f : Line} {a m : ℕ} {u : Float} {xs ys : List Float} → Held f → u ≡ unit_of g a f.cells
    → AxisLaid (node_by u e along (ends_of f)) (half_by u across (ends_of f)) a m xs ys → m ≤ f.cells → f.cells ≤ m
    → AxisLaid (node_on g e along (ends_of f) a) (half_on g across (ends_of f) a) a f.cells xs ys
unfolding node_on half_on
axis_end g e across along {f} {a} {m} {u} {xs} {ys} h q l b c =
    let d : m ≡ f.cells = omega arith in
    let o : u ≡ unit_of g a (cells_on (ends_of f)) = q ∙ ap (unit_of g a) (sym (cells_on_lem f h)) in
    subst (λ (v : Float). AxisLaid (node_by v e along (ends_of f)) (half_by v across (ends_of f)) a f.cells xs ys) o (rw d at l)

-- ---- the stretches of all axes, those of the first A laid

pub record Stretching (N H : ℕ → C64) (A : ℕ) (xs : List Float) : Type 0 where
  pub long : length xs ≡ 768
  pub nodes_done : (k : ℕ) → k < 64 * A → k < 192 → number_at xs k ≡ N k
  pub nodes_bare : (k : ℕ) → 64 * A ≤ k → k < 192 → number_at xs k ≡ zero_number
  pub halves_done : (k : ℕ) → k < 64 * A → k < 192 → number_at xs (192 + k) ≡ H k
  pub halves_bare : (k : ℕ) → 64 * A ≤ k → k < 192 → number_at xs (192 + k) ≡ zero_number

pub stretching_start : {N H : ℕ → C64} → Stretching N H 0 (replicate 768 zero_f)
stretching_start =
    record {
      long = length-replicate 768 zero_f;
      nodes_done = λ k h b. absurd (omega arith);
      nodes_bare = λ k h b. zeros_at 768 k (omega arith);
      halves_done = λ k h b. absurd (omega arith);
      halves_bare = λ k h b. zeros_at 768 (192 + k) (omega arith);
    }

-- the numbers of axis a in a list of all axes: n of f, and zero up to 64
pub record Axis (f F : ℕ → C64) (a n : ℕ) : Type 0 where
  pub inside : (m : ℕ) → m < n → f m ≡ F (64 * a + m)
  pub beyond : (m : ℕ) → n ≤ m → m < 64 → zero_number ≡ F (64 * a + m)

-- one axis more
pub stretching_turn : {N H node half : ℕ → C64} {a n : ℕ} {xs ys : List Float} → Stretching N H a xs → AxisLaid node half a n xs ys → n ≤ 64
    → Axis node N a n → Axis half H a n → Stretching N H (a + 1) ys
stretching_turn {N} {H} {node} {half} {a} {n} {xs} {ys} s l h p q =
    record {
      long = l.long ∙ s.long;
      nodes_done = λ k b c. nodes k b c (dec_lt k (64 * a)) (dec_lt k (64 * a + n));
      nodes_bare = λ k b c. l.nodes_kept k c (inr (omega arith)) ∙ s.nodes_bare k (omega arith) c;
      halves_done = λ k b c. halves k b c (dec_lt k (64 * a)) (dec_lt k (64 * a + n));
      halves_bare = λ k b c. l.halves_kept k c (inr (omega arith)) ∙ s.halves_bare k (omega arith) c;
    }
  where
    nodes : (k : ℕ) → k < 64 * (a + 1) → k < 192 → Dec (k < 64 * a) → Dec (k < 64 * a + n) → number_at ys k ≡ N k
    nodes k b c (yes d) o = l.nodes_kept k c (inl d) ∙ s.nodes_done k d c
    nodes k b c (no d) (yes o) =
        let e : 64 * a + (k - 64 * a) ≡ k = omega arith in
        ap (number_at ys) (sym e) ∙ l.nodes_are (k - 64 * a) (omega arith) ∙ p.inside (k - 64 * a) (omega arith) ∙ ap N e
    nodes k b c (no d) (no o) =
        let e : 64 * a + (k - 64 * a) ≡ k = omega arith in
        l.nodes_kept k c (inr (omega arith)) ∙ s.nodes_bare k (omega arith) c ∙ p.beyond (k - 64 * a) (omega arith) (omega arith) ∙ ap N e

    halves : (k : ℕ) → k < 64 * (a + 1) → k < 192 → Dec (k < 64 * a) → Dec (k < 64 * a + n) → number_at ys (192 + k) ≡ H k
    halves k b c (yes d) o = l.halves_kept k c (inl d) ∙ s.halves_done k d c
    halves k b c (no d) (yes o) =
        let e : 64 * a + (k - 64 * a) ≡ k = omega arith in
        let f : 192 + k ≡ 192 + 64 * a + (k - 64 * a) = omega arith in
        ap (number_at ys) f ∙ l.halves_are (k - 64 * a) (omega arith) ∙ q.inside (k - 64 * a) (omega arith) ∙ ap H e
    halves k b c (no d) (no o) =
        let e : 64 * a + (k - 64 * a) ≡ k = omega arith in
        l.halves_kept k c (inr (omega arith)) ∙ s.halves_bare k (omega arith) c ∙ q.beyond (k - 64 * a) (omega arith) (omega arith) ∙ ap H e

-- ---- the lattice of the level

-- the lists of a record: number q % 64 of axis q / 64, and zero beyond its cells
axis_of : (f : ℕ → ℕ → C64) (line : ℕ → List ℕ) (a : ℕ) → cells_on (line a) ≤ 64
    → Axis (f a) (λ (q : ℕ). cond (ltb (q % 64) (cells_on (line (q / 64)))) (f (q / 64) (q % 64)) zero_number) a (cells_on (line a))
axis_of f line a few = record { inside = inside; beyond = beyond }
  where
    inside : (m : ℕ) → m < cells_on (line a)
        → f a m ≡ cond (ltb ((64 * a + m) % 64) (cells_on (line ((64 * a + m) / 64)))) (f ((64 * a + m) / 64) ((64 * a + m) % 64)) zero_number
    inside m h =
        let d : (64 * a + m) / 64 ≡ a = omega arith in
        let r : (64 * a + m) % 64 ≡ m = omega arith in
        rw (d, r, lt-ltb m (cells_on (line a)) h)

    beyond : (m : ℕ) → cells_on (line a) ≤ m → m < 64
        → zero_number ≡ cond (ltb ((64 * a + m) % 64) (cells_on (line ((64 * a + m) / 64)))) (f ((64 * a + m) / 64) ((64 * a + m) % 64)) zero_number
    beyond m h b =
        let d : (64 * a + m) / 64 ≡ a = omega arith in
        let r : (64 * a + m) % 64 ≡ m = omega arith in
        rw (d, r, le-ltb m (cells_on (line a)) h)

module _ (l : FullLattice) (line : ℕ → List ℕ) (a : ℕ) (few : cells_on (line a) ≤ 64) where
  node_axis : Axis (node_on l.grid (edges_of l a) (along_map l a) (line a) a) (node_stretch l line) a (cells_on (line a))
  unfolding node_stretch
  node_axis = axis_of (λ (b m : ℕ). node_on l.grid (edges_of l b) (along_map l b) (line b) b m) line a few

  half_axis : Axis (half_on l.grid (across_map l a) (line a) a) (half_stretch l line) a (cells_on (line a))
  unfolding half_stretch
  half_axis = axis_of (λ (b m : ℕ). half_on l.grid (across_map l b) (line b) b m) line a few

-- all three axes have been laid over zeros
module _ (l : Lattice) (st : List Float) (s : Three) (held : HeldThree s) where
  abbrev below : FullLattice
  below = full_lattice l st

  abbrev Laid : ℕ → List Float → Type 0
  Laid A xs = Stretching (node_stretch below (lines_in s)) (half_stretch below (lines_in s)) A xs

  laid_axis : (a : ℕ) {f : Line} {e : Edges} (across along : List C64) {xs ys : List Float} → Held f → lines_in s a ≡ ends_of f → e ≡ edges_of below a
      → across ≡ across_map below a → along ≡ along_map below a
      → AxisLaid (node_on l.grid e along (ends_of f) a) (half_on l.grid across (ends_of f) a) a f.cells xs ys → Laid a xs → Laid (a + 1) ys
  laid_axis a {f} {e} across along {xs} {ys} h q p c d x t =
      let n : cells_on (lines_in s a) ≡ f.cells = ap cells_on q ∙ cells_on_lem f h in
      let k : cells_on (lines_in s a) ≤ 64 = omega (arith, h.most) in
      let y : AxisLaid (node_on l.grid (edges_of below a) (along_map below a) (lines_in s a) a) (half_on l.grid (across_map below a) (lines_in s a) a) a (cells_on (lines_in s a)) xs ys =
      rw (← p, ← c, ← d, n, q) x in
      stretching_turn t y k (node_axis below (lines_in s) a k) (half_axis below (lines_in s) a k)

  laid_full_lattice : {xs : List Float} → Laid 3 xs → full_lattice (lattice_on l s) xs ≡ rediscretized_lattice below (lines_in s)
  unfolding lattice_on rediscretized_lattice
  laid_full_lattice {xs} t =
      λ i.
      record {
        grid = rediscretized_grid l.grid (lines_in s);
        x = l.x;
        y = l.y;
        z = l.z;
        k0 = l.k0;
        shift = l.shift;
        nodes = tabulate_agree (found_at xs) (node_stretch below (lines_in s)) 192 no_number nodes i;
        halves = tabulate_agree (half_no xs) (half_stretch below (lines_in s)) 192 no_number halves i;
      }
    where
      nodes : (k : ℕ) → k < 192 → found_at xs k ≡ node_stretch below (lines_in s) k
      nodes k h = sym (found_held xs k (omega (arith, t.long))) ∙ t.nodes_done k (omega arith) h

      halves : (k : ℕ) → k < 192 → half_no xs k ≡ half_stretch below (lines_in s) k
      halves k h = sym (found_held xs (192 + k) (omega (arith, t.long))) ∙ t.halves_done k (omega arith) h

  pub stretches_are : (acrossx alongx acrossy alongy acrossz alongz : List C64) {xs ys zs : List Float}
      → acrossx ≡ across_map below 0 → alongx ≡ along_map below 0
      → AxisLaid (node_on l.grid l.x alongx (ends_of s.x) 0) (half_on l.grid acrossx (ends_of s.x) 0) 0 s.x.cells (replicate 768 zero_f) xs
      → acrossy ≡ across_map below 1 → alongy ≡ along_map below 1
      → AxisLaid (node_on l.grid l.y alongy (ends_of s.y) 1) (half_on l.grid acrossy (ends_of s.y) 1) 1 s.y.cells xs ys
      → acrossz ≡ across_map below 2 → alongz ≡ along_map below 2
      → AxisLaid (node_on l.grid l.z alongz (ends_of s.z) 2) (half_on l.grid acrossz (ends_of s.z) 2) 2 s.z.cells ys zs
      → (length zs ≡ 768) × (full_lattice (lattice_on l s) zs ≡ rediscretized_lattice below (lines_in s))
  stretches_are ax bx ay by az bz a b x c d y e f z =
      let one : Laid 1 _ = laid_axis 0 ax bx held.x_held (lines_in_0 s) (sym (edges_of_0 below)) a b x stretching_start in
      let two : Laid 2 _ = laid_axis 1 ay by held.y_held (lines_in_1 s) (sym (edges_of_1 below)) c d y one in
      let all : Laid 3 _ = laid_axis 2 az bz held.z_held (lines_in_2 s) (sym (edges_of_2 below)) e f z two in
      (all.long, laid_full_lattice all)

-- the record itself
pub lattice_is : (l : Lattice) (s : Three) {dx dy dz : Float} → HeldThree s → dx ≡ coarse_step l.grid 0 s.x.cells → dy ≡ coarse_step l.grid 1 s.y.cells
    → dz ≡ coarse_step l.grid 2 s.z.cells
    → ◌≡◌ {A = Lattice}
    (record {
      grid = record { nx = s.x.cells; ny = s.y.cells; nz = s.z.cells; dx = dx; dy = dy; dz = dz };
      x = l.x;
      y = l.y;
      z = l.z;
      k0 = l.k0;
      shift = l.shift;
    })
    (lattice_on l s)
unfolding lattice_on rediscretized_grid
lattice_is l s h p q r =
    rw (lines_in_0 s, lines_in_1 s, lines_in_2 s, p, q, r, cells_on_lem s.x h.x_held, cells_on_lem s.y h.y_held, cells_on_lem s.z h.z_held)

-- ---- the lines of the levels

pub tame_held : (f : Line) → Held f → Rises (ends_of f) → Tame f
tame_held f h r =
    record {
      back =
          let e : f.cells - 1 + 1 ≡ f.cells = omega (arith, h.some) in
          let l : get_or (ends_of f) (f.cells - 1 + 1) 0 ≡ get_or f.ends f.cells 0 =
          ap (λ (i : ℕ). get_or (ends_of f) i 0) e ∙ ends_at f f.cells (omega arith) in
          omega (
            arith,
            place_of_is (ends_of f) (f.cells - 1) true,
            place_of_is (ends_of f) 0 true,
            rises_below (ends_of f) r (f.cells - 1) (f.cells - 1 + 1) (omega arith) (omega (arith, length_ends f h)),
          );
      centres = λ m b.
          omega (
            arith,
            place_of_is (ends_of f) m true,
            ends_at f m (omega arith),
            ends_at f (m + 1) (omega arith),
            h.low m (omega arith),
            h.low (m + 1) (omega arith),
          );
    }

tame_over : (n : ℕ) (es : List ℕ) → n ≤ 64 → LineOver n es → Tame (packed es)
tame_over n es h p =
    let e : ends_of (packed es) ≡ es = ends_packed es (omega (arith, p.some)) p.most in
    tame_held (packed es) (over_held n es h p) (rw e p.rises)

pub tame_at : (l : FullLattice) → Limits l.grid → (L : ℕ) → (Tame (three_at l L).x) × (Tame (three_at l L).y) × (Tame (three_at l L).z)
tame_at l h L = rw (three_at_is l L) (tame 0, tame 1, tame 2)
  where
    tame : (a : ℕ) → Tame (packed (line_at l a L))
    tame a = tame_over (n_of l.grid a) (line_at l a L) (n_most h a) (line_over l h a L)
