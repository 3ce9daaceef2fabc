-- Laws of the coarse permittivities: the edges of a coarse edge's cell, by the nodes in a list; the loops over a cell and over a level; that the list of
-- nodes gives what the two levels do.
-- Assumes nothing.
use Prim.Native.Nat.{ℕ, ◌+◌, ◌-◌, ◌*◌, ◌<◌, ◌≤◌, ◌^◌}
use native.Mathlib.Omega.{arith}
use mathlib.Core.Path.{◌≡◌, refl, sym, ap, ◌∙◌}
use mathlib.Core.Bool.{Bool}
use mathlib.Core.List.{List}
use lib.Dec.{T}
use lib.IntN.{pos}
use lib.ListN.{length, get_or}
use lib.Ieee.{Float, binary64, of_int, in_float}
use Rattle.numbers.specs.declared.C64.{C64}
use Rattle.numbers.specs.Complex.{no_number, one_f, zero_number, sum, real_over}
use Rattle.numbers.specs.Places.{number_at, set_number}
use Rattle.numbers.proofs.Laws.{length_set_number, number_other}
use Rattle.lattice.specs.declared.grid.Grid3d.{Grid3d}
use Rattle.lattice.specs.declared.grid.Position.{Position}
use Rattle.lattice.specs.declared.levels.Three.{Three}
use Rattle.lattice.specs.Grid.{n_of, index_of, at_of, unknowns_of, place_on, moved_to, Limits, Inside}
use Rattle.lattice.specs.Lattice.{FullLattice}
use Rattle.numbers.specs.Lists.{tabulate, before, Rises, summed, laid_numbers, all_finite, read_from}
use Rattle.lattice.proofs.GridLaws.{axis_each, n_most, place_inside, moved_inside, index_below, at_inside, unknowns_most}
use Rattle.lattice.proofs.LineLaws.{nodes_at_lem}
use Rattle.numbers.proofs.ListLaws.{rises_below, laid_numbers_length, read_back}
use Rattle.lattice.proofs.RowLaws.{small_float}
use Rattle.numbers.proofs.TabulateLaws.{tabulate_at_0, length_tabulate, tabulate_agree}
use Rattle.numbers.proofs.Equations.{read_from_is, summed_nil, summed_cons}
use Rattle.lattice.proofs.Equations.{n_of_0, n_of_1, n_of_2}
use Rattle.numbers.proofs.RowLoops.{Spread, spread_start, spread_turn, spread_end}
use Rattle.numbers.proofs.LoopLaws.{tabulate_left, tabulate_done, tabulate_member, before_more}
use Rattle.weights.proofs.RowTheorems.{harmonic_local}
use Rattle.weights.proofs.TwoLevelLaws.{fine_grid_lem, coarse_grid_lem, fine_n, coarse_n, node_at}
use Rattle.weights.specs.TwoLevels.{TwoLevels, fine_line, coarse_line, coarse_cells, node_on, grid_with, fine_grid, coarse_grid, two_of}
use Rattle.weights.specs.Interpolate.{whole}
use Rattle.weights.specs.CoarseEps.{on_fine, edge_along, edges_along, cell_edges, eps_reads, inverted, harmonic, coarse_eps}
use Rattle.weights.specs.Tables.{node_no, Paired, on_fine_in, cell_first, cell_last, coarse_eps_in, LineInside, NestedIn, ChainRoom}

-- ---- a loop over a cell: the sum of the rest, from place m on, comes to the whole

pub record Adding (g : Grid3d) (xs : List Float) (from : ℕ) (p : Position) (first last m : ℕ) (s : C64) : Type 0 where
  pub same : summed (inverted (read_from xs from)) s (edges_along g p m (last - m))
      ≡ summed (inverted (read_from xs from)) zero_number (edges_along g p first (last - first))

pub adding_start : {g : Grid3d} {xs : List Float} {from : ℕ} {p : Position} {first last : ℕ} {s : C64} → s ≡ zero_number → Adding g xs from p first last first s
adding_start e = record { same = rw e }

module _ {g : Grid3d} {xs : List Float} {from : ℕ} {p : Position} {first last m : ℕ} {s : C64} (a : Adding g xs from p first last m s) where
  pub adding_turn : {q : Position} {c : ℕ} {v w s' : C64} → m < last → q ≡ moved_to p p.component m → c ≡ index_of g q
      → v ≡ number_at xs (from + c) → w ≡ real_over one_f v → s' ≡ sum s w → Adding g xs from p first last (m + 1) s'
  unfolding edges_along inverted edge_along
  adding_turn {q} {c} {v} {w} {s'} h e₁ e₂ e₃ e₄ e₅ =
      record { same = rw (e₅, e₄, e₃, ← read_from_is, e₂, e₁) (rw (tabulate_left (edge_along g p) last m h, summed_cons) at a.same) }

  pub adding_end : last ≤ m → s ≡ summed (inverted (read_from xs from)) zero_number (edges_along g p first (last - first))
  unfolding edges_along
  adding_end h = rw (tabulate_done (edge_along g p) last m h, summed_nil) at a.same

-- the position of place m along, and the number of its edge
pub along_inside : {g : Grid3d} {p q : Position} {last m : ℕ} → LineInside g p last → m < last → q ≡ moved_to p p.component m → Inside g q
along_inside {g} {p} {q} {last} {m} h b e = rw e (h.each_in m b)

pub along_low : {g : Grid3d} {p q : Position} {last m c : ℕ} → Limits g → LineInside g p last → m < last → q ≡ moved_to p p.component m
    → c ≡ index_of g q → c < unknowns_of g
along_low l h b e d = rw d (index_below l (along_inside h b e))

-- ---- the cell of a coarse edge, by the nodes in a list

module _ {gf gc : Grid3d} {nn : List ℕ} {p : Position} (d : NestedIn gf gc nn) (h : Inside gc p) where
  pub fine_inside : Inside gf (on_fine_in nn p)
  unfolding on_fine_in
  fine_inside =
      let x : 65 * 0 + p.i ≡ p.i = omega arith in
      record {
        c_in = h.c_in;
        i_in = rw (x, n_of_0) at (d.inside 0 p.i (omega arith) (rw n_of_0 h.i_in));
        j_in = rw n_of_1 at (d.inside 1 p.j (omega arith) (rw n_of_1 h.j_in));
        k_in = rw n_of_2 at (d.inside 2 p.k (omega arith) (rw n_of_2 h.k_in));
      }

  pub cell_most : cell_last nn p ≤ n_of gf p.component
  unfolding cell_last
  cell_most = d.ends_in p.component (place_on p p.component) h.c_in (place_inside h p.component)

  pub cell_rises : cell_first nn p ≤ cell_last nn p
  unfolding cell_first cell_last
  cell_rises = d.rise p.component (place_on p p.component) h.c_in (place_inside h p.component)

  pub cell_inside : LineInside gf (on_fine_in nn p) (cell_last nn p)
  unfolding on_fine_in
  cell_inside =
      record {
        c_in = h.c_in;
        each_in = λ m b. moved_inside fine_inside p.component m (omega (arith, cell_most));
      }

-- what the code knows of a coarse edge: its position p, and the place m along its component
pub record Cell (gf gc : Grid3d) (nn : List ℕ) (p : Position) (m : ℕ) : Type 0 where
  pub fine_limits : Limits gf
  pub coarse_limits : Limits gc
  pub nested : NestedIn gf gc nn
  pub inside : Inside gc p
  pub place : m ≡ place_on p p.component

length_cell : (g : Grid3d) (p : Position) (first n : ℕ) → length (edges_along g p first n) ≡ n
unfolding edges_along
length_cell g p first n = length_tabulate (edge_along g p) n first

-- the cell's two nodes
module _ {gf gc : Grid3d} {nn : List ℕ} {p : Position} {m : ℕ} (c : Cell gf gc nn p m) where
  first_is : get_or nn (65 * p.component + m) 0 ≡ cell_first nn p
  unfolding cell_first
  first_is = rw c.place

  last_is : get_or nn (65 * p.component + m + 1) 0 ≡ cell_last nn p
  unfolding cell_last
  last_is = rw c.place

  pub line_inside : {q : Position} → q ≡ on_fine_in nn p → LineInside gf q (get_or nn (65 * p.component + m + 1) 0)
  line_inside o = rw (o, last_is) (cell_inside c.nested c.inside)

  pub count_float : T (in_float binary64 (pos (get_or nn (65 * p.component + m + 1) 0 - get_or nn (65 * p.component + m) 0)))
  count_float =
      small_float (get_or nn (65 * p.component + m + 1) 0 - get_or nn (65 * p.component + m) 0)
      (omega (arith, last_is, cell_most c.nested c.inside, n_most c.fine_limits p.component))

  pub eps_is : (xs : List Float) (from r : ℕ) {q : Position} {s v : C64} → p ≡ at_of gc r → q ≡ on_fine_in nn p
      → s
      ≡ summed (inverted (read_from xs from)) zero_number
      (edges_along gf q (get_or nn (65 * p.component + m) 0) (get_or nn (65 * p.component + m + 1) 0 - get_or nn (65 * p.component + m) 0))
      → v ≡ real_over (of_int binary64 (pos (get_or nn (65 * p.component + m + 1) 0 - get_or nn (65 * p.component + m) 0))) s
      → v ≡ coarse_eps_in gf gc nn (read_from xs from) r
  unfolding coarse_eps_in harmonic whole
  eps_is xs from r {q} {s} {v} o u w x =
      let first : ℕ = get_or nn (65 * p.component + m) 0 in
      let last : ℕ = get_or nn (65 * p.component + m + 1) 0 in
      let l : length (edges_along gf q first (last - first)) ≡ last - first = length_cell gf q first (last - first) in
      let k : v ≡ harmonic (read_from xs from) (edges_along gf q first (last - first)) = rw (l, ← w) x in
      rw (← o, ← first_is, ← last_is, ← u) k

-- ---- what is read: the edges of the fine grid alone

module _ (f g : ℕ → C64) where
  eps_agree : {gf gc : Grid3d} {nn : List ℕ} → Limits gf → Limits gc → NestedIn gf gc nn → ((c : ℕ) → c < unknowns_of gf → f c ≡ g c)
      → (r : ℕ) → r < unknowns_of gc → coarse_eps_in gf gc nn f r ≡ coarse_eps_in gf gc nn g r
  unfolding coarse_eps_in edges_along edge_along
  eps_agree {gf} {gc} {nn} lf lc d h r b =
      let p : Position = at_of gc r in
      let i : Inside gc p = at_inside lc r b in
      let k : LineInside gf (on_fine_in nn p) (cell_last nn p) = cell_inside d i in
      harmonic_local f g (edges_along gf (on_fine_in nn p) (cell_first nn p) (cell_last nn p - cell_first nn p))
      (λ c m.
      let w = tabulate_member (edge_along gf (on_fine_in nn p)) (cell_last nn p - cell_first nn p) (cell_first nn p) m in
      h c (rw w.3 (index_below lf (k.each_in w.0 (omega (arith, w.1, w.2, cell_rises d i))))))

-- ---- a loop over a level: f 0, .., f (n - 1) are laid from place `to` on, r of them done. The rest comes to the whole, and before `to` all is as it was.

pub record Chaining (f : ℕ → C64) (n to : ℕ) (xs ys : List Float) (r : ℕ) : Type 0 where
  pub high : r ≤ n
  pub rest : Spread set_number xs to (tabulate f n 0) r ys
  pub long : length ys ≡ length xs
  pub left : (j : ℕ) → j < to → number_at ys j ≡ number_at xs j

pub chaining_start : {f : ℕ → C64} {n to : ℕ} {xs : List Float} → Chaining f n to xs xs 0
chaining_start = record { high = omega arith; rest = spread_start; long = refl; left = λ j h. refl }

pub chaining_one : {f : ℕ → C64} {n to : ℕ} {xs ys zs : List Float} {r : ℕ} {v : C64} → Chaining f n to xs ys r → r < n → v ≡ f r
    → zs ≡ set_number ys (to + r) v → Chaining f n to xs zs (r + 1)
chaining_one {f} {n} {to} {xs} {ys} {zs} {r} {v} p h e q =
    record {
      high = omega arith;
      rest = rw q (spread_turn no_number p.rest (rw (length_tabulate f n 0) h) (e ∙ sym (tabulate_at_0 f n r no_number h)));
      long = ap length q ∙ length_set_number ys (to + r) v ∙ p.long;
      left = λ j k. ap (λ (ws : List Float). number_at ws j) q ∙ number_other ys (to + r) j v (omega arith) ∙ p.left j k;
    }

-- a turn: what the next one reads is before `to`
pub chaining_turn : {gf gc : Grid3d} {nn : List ℕ} {n from to r : ℕ} {xs ys zs : List Float} {v : C64} → Limits gf → Limits gc → NestedIn gf gc nn
    → ChainRoom (unknowns_of gf) (unknowns_of gc) from to xs → Chaining (coarse_eps_in gf gc nn (read_from xs from)) n to xs ys r
    → r < n → n ≡ unknowns_of gc → v ≡ coarse_eps_in gf gc nn (read_from ys from) r → zs ≡ set_number ys (to + r) v
    → Chaining (coarse_eps_in gf gc nn (read_from xs from)) n to xs zs (r + 1)
chaining_turn {gf} {gc} {nn} {n} {from} {to} {r} {xs} {ys} lf lc d m p h e q z =
    chaining_one p h
    (q ∙ eps_agree (read_from ys from) (read_from xs from) lf lc d (λ c b. rw (read_from_is, read_from_is) (p.left (from + c) (omega (arith, m.apart)))) r (omega arith))
    z

pub chaining_end : {f : ℕ → C64} {n m to : ℕ} {xs ys : List Float} {r : ℕ} → Chaining f n to xs ys r → n ≤ r → n ≡ m
    → ys ≡ laid_numbers xs to (tabulate f m 0)
chaining_end {f} {n} p h e = rw e at (spread_end p.rest (rw (length_tabulate f n 0) h))

-- ---- from the levels

-- the nodes of a rising line rise
nodes_rise : (t : TwoLevels) (a m : ℕ) → Rises (coarse_line t a) → m < coarse_cells t a → node_on t a m ≤ node_on t a (m + 1)
unfolding node_on coarse_cells
nodes_rise t a m r h =
    let es = coarse_line t a in
    let fs = fine_line t a in
    let u : get_or es m 0 < get_or es (m + 1) 0 = rises_below es r m (m + 1) (omega arith) (omega arith) in
    let v : before (get_or es m 0) fs ≤ before (get_or es (m + 1) 0) fs = before_more (get_or es m 0) (get_or es (m + 1) 0) (omega arith) fs in
    omega (arith, nodes_at_lem fs es m (omega arith), nodes_at_lem fs es (m + 1) (omega arith))

module _ {l : FullLattice} {fine coarse : Three} (p : Paired l fine coarse) where
  line_rises : (a : ℕ) → Rises (coarse_line (two_of l fine coarse) a)
  unfolding coarse_line two_of
  line_rises a = axis_each Rises a p.x_rises p.y_rises p.z_rises

  pub nodes_nested : NestedIn (fine_grid (two_of l fine coarse)) (coarse_grid (two_of l fine coarse)) (tabulate (node_no (two_of l fine coarse)) 195 0)
  nodes_nested =
      let s : TwoLevels = two_of l fine coarse in
      let few : (a : ℕ) → n_of (coarse_grid s) a ≤ 64 = n_most p.coarse_limits in
      record {
        long = length_tabulate (node_no s) 195 0;
        inside = λ a m b h.
            rw (node_at s refl a m b (omega (arith, few a)), fine_n s a) (p.nested a m (omega (arith, coarse_n s a)));
        ends_in = λ a m b h.
            let e : 65 * a + m + 1 ≡ 65 * a + (m + 1) = omega arith in
            rw (e, node_at s refl a (m + 1) b (omega (arith, few a)), fine_n s a) (p.ended a (m + 1) (omega (arith, coarse_n s a)));
        rise = λ a m b h.
            let e : 65 * a + m + 1 ≡ 65 * a + (m + 1) = omega arith in
            rw (e, node_at s refl a (m + 1) b (omega (arith, few a)), node_at s refl a m b (omega (arith, few a)))
            (nodes_rise s a m (line_rises a) (omega (arith, coarse_n s a)));
      }

-- the nodes of a position, and its permittivity
module _ (t : TwoLevels) (lc : Limits (coarse_grid t)) where
  on_fine_is : {p : Position} → Inside (coarse_grid t) p → on_fine_in (tabulate (node_no t) 195 0) p ≡ on_fine t p
  unfolding on_fine_in on_fine
  on_fine_is {p} h =
      let a : get_or (tabulate (node_no t) 195 0) (65 * 0 + p.i) 0 ≡ node_on t 0 p.i = node_at t refl 0 p.i (omega arith) (omega (arith, h.i_in, lc.x_most)) in
      let e : 65 * 0 + p.i ≡ p.i = omega arith in
      let x : get_or (tabulate (node_no t) 195 0) p.i 0 ≡ node_on t 0 p.i = rw e at a in
      let y : get_or (tabulate (node_no t) 195 0) (65 + p.j) 0 ≡ node_on t 1 p.j = node_at t refl 1 p.j (omega arith) (omega (arith, h.j_in, lc.y_most)) in
      let z : get_or (tabulate (node_no t) 195 0) (130 + p.k) 0 ≡ node_on t 2 p.k = node_at t refl 2 p.k (omega arith) (omega (arith, h.k_in, lc.z_most)) in
      λ i. record { component = p.component; i = x i; j = y i; k = z i }

  pub cell_is : {p : Position} → Inside (coarse_grid t) p
      → let nn = tabulate (node_no t) 195 0 in edges_along (fine_grid t) (on_fine_in nn p) (cell_first nn p) (cell_last nn p - cell_first nn p) ≡ cell_edges t p
  unfolding edges_along cell_edges cell_first cell_last edge_along on_fine
  cell_is {p} h =
      let c : ℕ = p.component in
      let m : ℕ = place_on p c in
      let b : m < 64 = omega (arith, place_inside h c, n_most lc c) in
      let e : 65 * c + m + 1 ≡ 65 * c + (m + 1) = omega arith in
      rw (e, node_at t refl c m h.c_in (omega arith), node_at t refl c (m + 1) h.c_in (omega arith), on_fine_is h)

  -- coarse edge r from the list of nodes has the permittivity of the levels
  pub eps_same : (f : ℕ → C64) (r : ℕ) → r < unknowns_of (coarse_grid t) → coarse_eps_in (fine_grid t) (coarse_grid t) (tabulate (node_no t) 195 0) f r ≡ coarse_eps t f r
  unfolding coarse_eps_in coarse_eps eps_reads
  eps_same f r h = ap (harmonic f) (cell_is (at_inside lc r h))

  -- those of the whole level
  level_same : (f : ℕ → C64)
      → tabulate (coarse_eps_in (fine_grid t) (coarse_grid t) (tabulate (node_no t) 195 0) f) (unknowns_of (coarse_grid t)) 0
      ≡ tabulate (coarse_eps t f) (unknowns_of (coarse_grid t)) 0
  level_same f =
      tabulate_agree (coarse_eps_in (fine_grid t) (coarse_grid t) (tabulate (node_no t) 195 0) f) (coarse_eps t f) (unknowns_of (coarse_grid t)) zero_number (eps_same f)

-- ---- the whole: the code's grids and nodes are those of the levels, and the list has room

pub record Chain (l : FullLattice) (fine coarse : Three) (gf gc : Grid3d) (nn : List ℕ) (from to : ℕ) (xs : List Float) : Type 0 where
  pub paired : Paired l fine coarse
  pub room : ChainRoom (unknowns_of (fine_grid (two_of l fine coarse))) (unknowns_of (coarse_grid (two_of l fine coarse))) from to xs
  pub fine_grid_lem : gf ≡ fine_grid (two_of l fine coarse)
  pub coarse_grid_lem : gc ≡ coarse_grid (two_of l fine coarse)
  pub node_list : nn ≡ tabulate (node_no (two_of l fine coarse)) 195 0

pub chain : {l : FullLattice} {fine coarse : Three} {gf gc : Grid3d} {nn : List ℕ} {from to : ℕ} {xs : List Float} → Paired l fine coarse
    → ChainRoom (unknowns_of (fine_grid (two_of l fine coarse))) (unknowns_of (coarse_grid (two_of l fine coarse))) from to xs
    → gf ≡ grid_with l.grid fine.x.cells fine.y.cells fine.z.cells
    → gc ≡ grid_with l.grid coarse.x.cells coarse.y.cells coarse.z.cells
    → nn ≡ tabulate (node_no (two_of l fine coarse)) 195 0 → Chain l fine coarse gf gc nn from to xs
chain {l} {fine} {coarse} p m a b c =
    record {
      paired = p;
      room = m;
      fine_grid_lem = a ∙ fine_grid_lem l fine coarse p.fine_held;
      coarse_grid_lem = b ∙ coarse_grid_lem l fine coarse p.coarse_held;
      node_list = c;
    }

module _ {l : FullLattice} {fine coarse : Three} {gf gc : Grid3d} {nn : List ℕ} {from to : ℕ} {xs : List Float} (q : Chain l fine coarse gf gc nn from to xs) where
  pub fine_in : Limits gf
  fine_in = rw q.fine_grid_lem q.paired.fine_limits

  pub coarse_in : Limits gc
  coarse_in = rw q.coarse_grid_lem q.paired.coarse_limits

  pub nested_in : NestedIn gf gc nn
  nested_in = rw (q.fine_grid_lem, q.coarse_grid_lem, q.node_list) (nodes_nested q.paired)

  pub chain_room : ChainRoom (unknowns_of gf) (unknowns_of gc) from to xs
  chain_room = rw (q.fine_grid_lem, q.coarse_grid_lem) q.room

  -- what the code lays, and how many
  laid_eps : tabulate (coarse_eps_in gf gc nn (read_from xs from)) (unknowns_of gc) 0
      ≡ tabulate (coarse_eps (two_of l fine coarse) (read_from xs from)) (unknowns_of (coarse_grid (two_of l fine coarse))) 0
  laid_eps =
      rw (q.fine_grid_lem, q.coarse_grid_lem, q.node_list) (level_same (two_of l fine coarse) q.paired.coarse_limits (read_from xs from))

  -- the list once all are laid
  module _ {ys : List Float} (e : ys ≡ laid_numbers xs to (tabulate (coarse_eps_in gf gc nn (read_from xs from)) (unknowns_of gc) 0)) where
    pub eps_laid : ys ≡ laid_numbers xs to (tabulate (coarse_eps (two_of l fine coarse) (read_from xs from)) (unknowns_of (coarse_grid (two_of l fine coarse))) 0)
    eps_laid = e ∙ ap (laid_numbers xs to) laid_eps

    pub eps_room : {n : ℕ} → n ≡ unknowns_of gc → (to + n < 2 ^ 40) × (2 * (to + n) ≤ length ys)
    eps_room d =
        let k : length ys ≡ length xs = ap length e ∙ laid_numbers_length xs to (tabulate (coarse_eps_in gf gc nn (read_from xs from)) (unknowns_of gc) 0) in
        (omega (arith, chain_room.low, unknowns_most coarse_in), omega (arith, chain_room.room))

    pub eps_finite : {n : ℕ} {b : Bool} → n ≡ unknowns_of gc → b ≡ all_finite (tabulate (number_at ys) n to)
        → b ≡ all_finite (tabulate (coarse_eps (two_of l fine coarse) (read_from xs from)) (unknowns_of (coarse_grid (two_of l fine coarse))) 0)
    eps_finite {n} {b} d f =
        let vs : List C64 = tabulate (coarse_eps_in gf gc nn (read_from xs from)) (unknowns_of gc) 0 in
        let o : n ≡ length vs = d ∙ sym (length_tabulate (coarse_eps_in gf gc nn (read_from xs from)) (unknowns_of gc) 0) in
        let u : tabulate (number_at ys) n to ≡ vs = (λ i. tabulate (number_at (e i)) (o i) to) ∙ read_back xs to vs (omega (arith, chain_room.room)) in
        f ∙ ap all_finite (u ∙ laid_eps)
