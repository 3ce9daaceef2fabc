-- One averaged permittivity alone: the hats around its edge's node on the two axes across it, the mean, and whether an edge that it reads is flagged.
-- Assumes nothing.
use Prim.Native.Nat.{ℕ, ◌+◌, ◌-◌, ◌*◌, ◌<◌, ◌≤◌}
use native.Mathlib.Omega.{arith}
use mathlib.Core.Path.{◌≡◌, refl, sym, ap, ◌∙◌}
use mathlib.Core.Bool.{Bool, true, false, ◌||◌}
use mathlib.Core.List.{List}
use lib.ListN.{length, get_or, take, drop}
use Rattle.numbers.specs.declared.C64.{C64}
use Rattle.numbers.specs.Lists.{tabulate, each, any_flag}
use Rattle.numbers.proofs.ListLaws.{long_as}
use Rattle.lattice.specs.declared.grid.Grid3d.{Grid3d}
use Rattle.lattice.specs.declared.grid.Position.{Position}
use Rattle.lattice.specs.declared.lattice.Edges.{Edges}
use Rattle.lattice.specs.declared.levels.Three.{Three}
use Rattle.lattice.specs.declared.line.Line.{Line}
use Rattle.lattice.specs.Grid.{axis3, n_of, next_axis, last_axis, place_on, moved_to, index_of, at_of, unknowns_of, Limits, Inside}
use Rattle.lattice.specs.Lattice.{FullLattice, edges_of, is_wall}
use Rattle.lattice.specs.Line.{ends_of, nodes_of}
use Rattle.lattice.proofs.GridLaws.{axis_both, place_inside, at_inside}
use Rattle.weights.specs.CoarseEps.{edge_along}
use Rattle.weights.specs.Tables.{node_no, NestedIn, cell_first, cell_last}
use Rattle.weights.specs.TwoLevels.{TwoLevels, fine_line, coarse_line, fine_cells, coarse_cells, fine_grid, coarse_grid, grid_with, two_of}
use Rattle.weights.proofs.EpsLaws.{nodes_nested}
use Rattle.weights.proofs.Equations.{coarse_cells_is, fine_cells_is, edge_along_is}
use Rattle.weights.proofs.TwoLevelLaws.{fine_n, coarse_n, node_at, fine_grid_lem, coarse_grid_lem}
use Rattle.operators.specs.declared.averaged.Cell.{Cell}
use Rattle.operators.specs.declared.averaged.Counts.{Counts}
use Rattle.operators.specs.declared.averaged.Hat.{Hat}
use Rattle.operators.specs.Averaged.{node_in, around, hats_around, hats_on, hat_edges, hat_lines, cell_start, cell_count, weigh_all, nothing, mean_of, averaged_at, averaged_eps, averaged_reads, HatsLaid, NodesFrom, no_hat, hat_at, hats_in, NodesBelow, CellReady, cell_in, HatsFit, HatsAcross, LinePair, PairedLines}
use Rattle.operators.proofs.AverageLaws.{first_same, count_same, fit_below, hats_cut, cell_ready}
use Rattle.numbers.proofs.FlagLaws.{any_flag_one, any_flag_append}
use Rattle.numbers.proofs.ElementLaws.{single}
use Rattle.numbers.proofs.Laws.{or_true, or_false}
use Rattle.std.proofs.lemmas.List.{at_drop_more, at_drop_all}
use Rattle.weights.proofs.LevelLines.{two_base, two_fine, two_coarse, lines_on, node_is}
use Rattle.operators.proofs.HatLaws.{Below, below_in, hats_as, hats_same, around_most, around_below, ends_cells, block_read}

-- ---- the hats around a node of an axis of two levels

module _ {l : FullLattice} {fine coarse : Three} (q : PairedLines l fine coarse) (a : ℕ) where
  abbrev t : TwoLevels
  t = two_of l fine coarse

  module _ {f c : Line} (e : f ≡ axis3 a fine.x fine.y fine.z) (d : c ≡ axis3 a coarse.x coarse.y coarse.z) where
    pub pair_on : LinePair f c
    pair_on = rw (e, d) (axis_both LinePair a q.x_pair q.y_pair q.z_pair)

    fine_on : ends_of f ≡ fine_line t a
    fine_on = ap ends_of e ∙ lines_on fine a ∙ sym (two_fine l fine coarse a)

    coarse_on : ends_of c ≡ coarse_line t a
    coarse_on = ap ends_of d ∙ lines_on coarse a ∙ sym (two_coarse l fine coarse a)

    pub cells_on_lem : coarse_cells t a ≡ c.cells
    cells_on_lem = coarse_cells_is t a ∙ ap (λ (es : List ℕ). length es - 1) (sym coarse_on) ∙ ends_cells pair_on.coarse_held

    pub nodes_on : {nn : List ℕ} → nn ≡ tabulate (node_no t) 195 0 → a < 3 → NodesFrom (ends_of f) (ends_of c) c.cells nn (65 * a)
    unfolding node_in
    nodes_on n h =
        let few : c.cells ≤ 64 = pair_on.coarse_held.most in
        record {
          room = omega (arith, long_as (node_no t) 195 n);
          each_is = λ m b. node_at t n a m h (omega arith) ∙ node_is t a m ∙ (λ i. get_or (nodes_of (sym fine_on i) (sym coarse_on i)) m 0);
        }

    around_is : {b : Edges} {wall : Bool} (m : ℕ) → b ≡ edges_of l a → wall ≡ is_wall b → around wall (ends_of f) (ends_of c) m ≡ hats_around t a m
    unfolding hats_around
    around_is {b} {wall} m o w =
        let v : wall ≡ is_wall (edges_of t.base a) = w ∙ ap is_wall o ∙ ap (λ (k : FullLattice). is_wall (edges_of k a)) (sym (two_base l fine coarse)) in
        λ i. around (v i) (fine_on i) (coarse_on i) m

    pub around_on : {b : Edges} {wall : Bool} (m : ℕ) {xs ys : List Hat} {from r : ℕ} → b ≡ edges_of l a → wall ≡ is_wall b
        → HatsLaid xs from (around wall (ends_of f) (ends_of c) m) ys r → HatsLaid xs from (hats_around t a m) ys r
    around_on m o w p = hats_as p (around_is m o w)

  -- at most 127, each on the line
  around_few : (m : ℕ) → m < coarse_cells t a → length (hats_around t a m) ≤ 127
  around_few m h =
      rw (← around_is refl refl m refl refl)
      (around_most (pair_on refl refl) (is_wall (edges_of l a)) m (rw (cells_on_lem refl refl) at h))

  around_in : (m : ℕ) → m < coarse_cells t a → Below (fine_cells t a) (hats_around t a m)
  around_in m h =
      rw (fine_cells_is t a, ← fine_on refl refl, ← around_is refl refl m refl refl)
      (around_below (pair_on refl refl) (is_wall (edges_of l a)) m (rw (cells_on_lem refl refl) at h))

-- hats laid from a list's start on, read back
first_read : {xs ys hs : List Hat} {n : ℕ} → HatsLaid xs 0 hs ys n → length hs ≤ 127 → length xs ≡ 128 → hats_in ys 0 n ≡ hs
first_read {hs = hs} {n} p few long = let e : n ≡ length hs = omega (arith, p.next) in rw e (block_read 0 p few (omega arith))

first_fit : {u n : ℕ} {xs ys hs : List Hat} → HatsLaid xs 0 hs ys n → Below u hs → length hs ≤ 127 → length xs ≡ 128 → HatsFit u 0 n ys
first_fit {u} {n} {ys = ys} p b few long =
    record {
      room = omega (arith, p.next, hats_same p);
      nodes_in = λ q h. below_in u ys 0 n (rw (first_read p few long) b) (0 + q) q refl h;
    }

-- ---- those around an edge's node on the axes across it

module _ {l : FullLattice} {fine coarse : Three} (q : PairedLines l fine coarse) {p : Position} (inside : Inside (coarse_grid (two_of l fine coarse)) p) where
  pub place_there : (a : ℕ) {m : ℕ} → m ≡ place_on p a → m < coarse_cells (two_of l fine coarse) a
  place_there a o = rw o (omega (arith, place_inside inside a, coarse_n (two_of l fine coarse) a))

  pub across_are : {b c i j x y : ℕ} {xs xs' ys ys' : List Hat} → b ≡ next_axis p.component → c ≡ last_axis p.component
      → i ≡ place_on p b → j ≡ place_on p c → (length xs ≡ 128) × (length ys ≡ 128)
      → HatsLaid xs 0 (hats_around (two_of l fine coarse) b i) xs' x
      → HatsLaid ys 0 (hats_around (two_of l fine coarse) c j) ys' y
      → HatsAcross (two_of l fine coarse) p xs' ys' (record { next = x; last = y })
  unfolding hats_on
  across_are {b} {c} {i} {j} eb ec ei ej long u v =
      let s : TwoLevels = two_of l fine coarse in
      let few : length (hats_around s b i) ≤ 127 = around_few q b i (place_there b ei) in
      let few' : length (hats_around s c j) ≤ 127 = around_few q c j (place_there c ej) in
      record {
        next_are = rw (← eb, ← ei) (first_read u few long.0);
        last_are = rw (← ec, ← ej) (first_read v few' long.1);
        next_fit = rw (fine_n s (next_axis p.component), ← eb) (first_fit u (around_in q b i (place_there b ei)) few long.0);
        last_fit = rw (fine_n s (last_axis p.component), ← ec) (first_fit v (around_in q c j (place_there c ej)) few' long.1);
      }

-- ---- one edge: the code's grid, node numbers and position are those of the levels

pub record Edge (l : FullLattice) (fine coarse : Three) (gf : Grid3d) (nn : List ℕ) (p : Position) (r : ℕ) : Type 0 where
  pub lines : PairedLines l fine coarse
  pub node_list : nn ≡ tabulate (node_no (two_of l fine coarse)) 195 0
  pub grid : gf ≡ fine_grid (two_of l fine coarse)
  pub at : p ≡ at_of (coarse_grid (two_of l fine coarse)) r
  pub low : r < unknowns_of (coarse_grid (two_of l fine coarse))

module _ {l : FullLattice} {fine coarse : Three} (q : PairedLines l fine coarse) {gc : Grid3d} (o : gc ≡ grid_with l.grid coarse.x.cells coarse.y.cells coarse.z.cells) where
  coarse_is : gc ≡ coarse_grid (two_of l fine coarse)
  coarse_is = o ∙ coarse_grid_lem l fine coarse q.paired.coarse_held

  pub coarse_limits : Limits gc
  coarse_limits = rw coarse_is q.paired.coarse_limits

  pub edge : {gf : Grid3d} {nn : List ℕ} {p : Position} {r : ℕ} → nn ≡ tabulate (node_no (two_of l fine coarse)) 195 0
      → gf ≡ grid_with l.grid fine.x.cells fine.y.cells fine.z.cells → p ≡ at_of gc r
      → r < unknowns_of (coarse_grid (two_of l fine coarse)) → Edge l fine coarse gf nn p r
  edge {r = r} n g e h =
      record {
        lines = q;
        node_list = n;
        grid = g ∙ fine_grid_lem l fine coarse q.paired.fine_held;
        at = e ∙ ap (λ (k : Grid3d). at_of k r) coarse_is;
        low = h;
      }

module _ {l : FullLattice} {fine coarse : Three} {gf : Grid3d} {nn : List ℕ} {p : Position} {r : ℕ} (e : Edge l fine coarse gf nn p r) where
  pub edge_inside : Inside (coarse_grid (two_of l fine coarse)) p
  edge_inside = rw e.at (at_inside e.lines.paired.coarse_limits r e.low)

  nested : NestedIn (fine_grid (two_of l fine coarse)) (coarse_grid (two_of l fine coarse)) nn
  nested = rw e.node_list (nodes_nested e.lines.paired)

  pub edge_unknowns : unknowns_of gf ≡ unknowns_of (fine_grid (two_of l fine coarse))
  edge_unknowns = ap unknowns_of e.grid

  pub edge_ready : CellReady gf p nn
  edge_ready = rw e.grid (cell_ready e.lines.paired.fine_limits e.lines.paired.coarse_limits nested edge_inside)

  first_is : cell_first nn p ≡ cell_start (two_of l fine coarse) p
  first_is = first_same (two_of l fine coarse) e.lines.paired.coarse_limits e.node_list edge_inside

  count_is : cell_last nn p - cell_first nn p ≡ cell_count (two_of l fine coarse) p
  count_is = count_same (two_of l fine coarse) e.lines.paired.coarse_limits e.node_list edge_inside

  module _ {c : Cell} (o : c ≡ cell_in gf nn p) where
    pub cell_unknowns : unknowns_of c.grid ≡ unknowns_of (fine_grid (two_of l fine coarse))
    unfolding cell_in
    cell_unknowns = ap (λ (x : Cell). unknowns_of x.grid) o ∙ edge_unknowns

    module _ {xs ys : List Hat} {k : Counts} (h : HatsAcross (two_of l fine coarse) p xs ys k) where
      -- the hats that the code cuts out of the lists
      abbrev pub nexts : List Hat
      nexts = take k.next xs

      abbrev pub lasts : List Hat
      lasts = take k.last ys

      next_cut : nexts ≡ hats_in xs 0 k.next
      next_cut = hats_cut xs 0 k.next h.next_fit.room

      last_cut : lasts ≡ hats_in ys 0 k.last
      last_cut = hats_cut ys 0 k.last h.last_fit.room

      pub next_below : NodesBelow (n_of c.grid (next_axis c.p.component)) nexts
      unfolding cell_in
      next_below = rw (o, e.grid) (fit_below h.next_fit next_cut)

      pub last_below : NodesBelow (n_of c.grid (last_axis c.p.component)) lasts
      unfolding cell_in
      last_below = rw (o, e.grid) (fit_below h.last_fit last_cut)

      pub edge_average : (f : ℕ → C64) {v : C64}
          → v ≡ mean_of (weigh_all c.grid f c.p c.first (c.last - c.first) lasts nothing nexts)
          → v ≡ averaged_eps (two_of l fine coarse) f r
      unfolding averaged_eps averaged_at cell_in
      edge_average f v =
          v
          ∙ (λ i. mean_of (weigh_all (o i).grid f (o i).p (o i).first ((o i).last - (o i).first) (last_cut i) nothing (next_cut i)))
          ∙ (λ i. mean_of (weigh_all (e.grid i) f p (first_is i) (count_is i) (h.last_are i) nothing (h.next_are i)))
          ∙ ap (λ (x : Position). averaged_at (two_of l fine coarse) f x) e.at

      pub edge_flagged : (fs : List Bool) {b : Bool}
          → b ≡ any_flag fs (each (hat_edges c.grid c.p c.first (c.last - c.first) lasts) nexts)
          → b ≡ any_flag fs (averaged_reads (two_of l fine coarse) r)
      unfolding averaged_reads hat_lines cell_in
      edge_flagged fs v =
          v
          ∙ (λ i. any_flag fs (each (hat_edges (o i).grid (o i).p (o i).first ((o i).last - (o i).first) (last_cut i)) (next_cut i)))
          ∙ (λ i. any_flag fs (each (hat_edges (e.grid i) p (first_is i) (count_is i) (h.last_are i)) (h.next_are i)))
          ∙ ap (λ (x : Position). any_flag fs (each (hat_lines (two_of l fine coarse) x) (hats_on (two_of l fine coarse) x (next_axis x.component)))) e.at

-- the flag of one edge
pub flag_at_lem : (fs : List Bool) (g : Grid3d) (q : Position) (m : ℕ) {c : ℕ} {o : Position} → o ≡ moved_to q q.component m → c ≡ index_of g o
    → get_or fs c false ≡ any_flag fs (single (edge_along g q m))
flag_at_lem fs g q m e d = rw (any_flag_one fs (edge_along g q m), edge_along_is g q m, ← e, ← d)

-- ---- whether an edge of the lines through hats is flagged: what the rest, from hat i on, comes to

module _ (fs : List Bool) (F : Hat → List ℕ) (hs : List Hat) (i : ℕ) {t : Bool} (p : any_flag fs (each F (drop i hs)) ≡ t) where
  seek_next : i < length hs → (any_flag fs (F (hat_at hs i)) || any_flag fs (each F (drop (i + 1) hs))) ≡ t
  unfolding each
  seek_next h =
      sym (any_flag_append fs (F (hat_at hs i)) (each F (drop (i + 1) hs)))
      ∙ sym (at_drop_more (λ (ks : List Hat). any_flag fs (each F ks)) hs i no_hat h) ∙ p

  pub seek_turn : {b : Bool} → i < length hs → b ≡ any_flag fs (F (hat_at hs i)) → b ≡ false → any_flag fs (each F (drop (i + 1) hs)) ≡ t
  seek_turn h o n = sym (or_false (any_flag fs (F (hat_at hs i))) _ (sym o ∙ n)) ∙ seek_next h

  pub seek_found : {b : Bool} → i < length hs → b ≡ any_flag fs (F (hat_at hs i)) → b ≡ true → b ≡ t
  seek_found h o n = o ∙ sym (or_true (any_flag fs (F (hat_at hs i))) _ (sym o ∙ n)) ∙ seek_next h

  pub seek_end : length hs ≤ i → false ≡ t
  unfolding each any_flag
  seek_end h = sym (at_drop_all (λ (ks : List Hat). any_flag fs (each F ks)) hs i h) ∙ p
