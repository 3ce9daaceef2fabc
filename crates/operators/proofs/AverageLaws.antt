-- Laws of the averaged permittivities: the line through two hats, the sums over the hats, what is read, that the lists of nodes and of hats give what
-- the two levels do, and the whole level.
-- Assumes nothing.
use Prim.Native.Nat.{ℕ, zero, suc, ◌+◌, ◌-◌, ◌*◌, ◌<◌, ◌≤◌, ◌^◌}
use native.Mathlib.Omega.{arith}
use mathlib.Core.Path.{◌≡◌, refl, sym, ap, ◌∙◌}
use mathlib.Core.Bool.{Bool}
use mathlib.Core.List.{List, [], ◌∷◌, Memᴰ as In}
use lib.Dec.{T}
use lib.IntN.{pos}
use lib.ListN.{length, get_or, take, drop}
use lib.Ieee.{Float, binary64, of_int, in_float}
use lib.Seq.{drop-cons}
use Rattle.std.proofs.lemmas.List.{at_drop_more, at_drop_all}
use Rattle.numbers.specs.declared.C64.{C64}
use Rattle.numbers.specs.Complex.{add_f, mul_f, zero_f, zero_number, sum, real_over}
use Rattle.numbers.specs.Places.{number_at, set_number}
use Rattle.lattice.specs.declared.grid.Grid3d.{Grid3d}
use Rattle.lattice.specs.declared.grid.Position.{Position}
use Rattle.lattice.specs.declared.levels.Three.{Three}
use Rattle.lattice.specs.Grid.{n_of, next_axis, last_axis, place_on, moved_to, at_of, unknowns_of, Limits, Inside}
use Rattle.lattice.specs.Lattice.{FullLattice}
use Rattle.numbers.specs.Lists.{tabulate, summed, each, laid_numbers, all_finite, read_from}
use Rattle.lattice.proofs.GridLaws.{next_low, last_low, n_most, place_inside, index_below, at_inside, unknowns_most}
use Rattle.lattice.proofs.RowLaws.{small_float}
use Rattle.numbers.proofs.TabulateLaws.{length_tabulate, tabulate_at, tabulate_agree}
use Rattle.weights.specs.TwoLevels.{TwoLevels, coarse_cells, node_on, fine_grid, coarse_grid, two_of}
use Rattle.weights.specs.CoarseEps.{edge_along, edges_along, inverted}
use Rattle.weights.specs.Tables.{node_no, cell_first, cell_last, LineInside, NestedIn, ChainRoom}
use Rattle.numbers.proofs.EachLaws.{All, all_each}
use Rattle.weights.proofs.EpsLaws.{cell_most, cell_rises, Chaining, Chain, coarse_in, nested_in, chain_room, chaining_one}
use Rattle.numbers.proofs.ListLaws.{laid_numbers_length, read_back}
use Rattle.weights.proofs.RowTheorems.{Agree, inverted_local}
use Rattle.weights.proofs.TwoLevelLaws.{fine_n, coarse_n, node_at}
use Rattle.weights.proofs.WholeLaws.{all_in}
use Rattle.numbers.proofs.Equations.{tabulate_zero, tabulate_suc, read_from_is}
use Rattle.weights.proofs.Equations.{edge_along_is, edges_along_is, whole_is, cell_first_is, cell_last_is}
use Rattle.numbers.proofs.ElementLaws.{all_tabulate, each_first, each_later}
use Rattle.lattice.proofs.PlaceLaws.{moved_across, moved_across_lem}
use Rattle.operators.specs.declared.averaged.Cell.{Cell}
use Rattle.operators.specs.declared.averaged.Hat.{Hat}
use Rattle.operators.specs.declared.averaged.Weighed.{Weighed}
use Rattle.operators.specs.Averaged.{
  line_edges,
  hat_edges,
  line_mean,
  weigh_line,
  weigh_lines,
  weigh_all,
  nothing,
  mean_of,
  hats_on,
  cell_start,
  cell_count,
  averaged_at,
  averaged_eps,
  hat_lines,
  averaged_reads,
  no_hat,
  hat_at,
  hats_in,
  Hats,
  NodesBelow,
  HatsFit,
  CellReady,
  CellFits,
  cell_in,
  hats_by,
  averaged_in,
  averaged_no,
  AverageReady,
  AveragesReady,
}

-- ---- the line through two nodes

-- p moved to two nodes across its component
pub record Moved (p : Position) (x y : ℕ) (q : Position) : Type 0 where
  pub is : q ≡ moved_across p x y

pub line_inside : {g : Grid3d} {p q : Position} {x y last : ℕ} → Moved p x y q → p.component < 3
    → (x < n_of g (next_axis p.component)) × (y < n_of g (last_axis p.component)) → last ≤ n_of g p.component → LineInside g q last
line_inside {g} {p} {q} {x} {y} {last} m c h e =
    let i : ((moved_across p x y).component < 3) × ((n : ℕ) → n < n_of g p.component → Inside g (moved_to (moved_across p x y) (moved_across p x y).component n)) =
    moved_across_lem g p x y c h.0 h.1 in
    rw m.is (record { c_in = i.0; each_in = λ n b. i.1 n (omega arith) })

pub count_float : {g : Grid3d} (a first last : ℕ) → Limits g → last ≤ n_of g a → T (in_float binary64 (pos (last - first)))
count_float a first last l h = small_float (last - first) (omega (arith, n_most l a))

-- one line more
pub line_is : (g : Grid3d) (f : ℕ → C64) {p q : Position} (first last : ℕ) (h k : Hat) (s : Weighed) {u v w : C64} → Moved p h.node k.node q
    → u ≡ summed (inverted f) zero_number (edges_along g q first (last - first))
    → v ≡ real_over (mul_f (mul_f h.weight k.weight) (of_int binary64 (pos (last - first)))) u → w ≡ sum s.total v
    → ◌≡◌ {A = Weighed} (record { total = w; weight = add_f s.weight (mul_f h.weight k.weight) }) (weigh_line g f p first (last - first) h s k)
unfolding weigh_line line_mean line_edges
line_is g f {p} {q} first last h k s {u} {v} {w} m a b c =
    let n : ℕ = last - first in
    rw (c, b, a, ← m.is, whole_is, edges_along_is g q first n, length_tabulate (edge_along g q) n first)

-- ---- sums over hats: what the rest, from hat i on, comes to

module _ (g : Grid3d) (f : ℕ → C64) (p : Position) (first n : ℕ) where
  module _ (h : Hat) (ks : List Hat) (i : ℕ) (s : Weighed) {t : Weighed} (u : weigh_lines g f p first n h s (drop i ks) ≡ t) where
    pub lines_turn : {s' : Weighed} → i < length ks → s' ≡ weigh_line g f p first n h s (hat_at ks i) → weigh_lines g f p first n h s' (drop (i + 1) ks) ≡ t
    unfolding weigh_lines
    lines_turn l e = rw e (sym (at_drop_more (weigh_lines g f p first n h s) ks i no_hat l) ∙ u)

    pub lines_end : length ks ≤ i → s ≡ t
    unfolding weigh_lines
    lines_end l = sym (at_drop_all (weigh_lines g f p first n h s) ks i l) ∙ u

  module _ (ks hs : List Hat) (i : ℕ) (s : Weighed) {t : Weighed} (u : weigh_all g f p first n ks s (drop i hs) ≡ t) where
    pub all_turn : {s' : Weighed} → i < length hs → s' ≡ weigh_lines g f p first n (hat_at hs i) s ks → weigh_all g f p first n ks s' (drop (i + 1) hs) ≡ t
    unfolding weigh_all
    all_turn l e = rw e (sym (at_drop_more (weigh_all g f p first n ks s) hs i no_hat l) ∙ u)

    pub all_end : length hs ≤ i → s ≡ t
    unfolding weigh_all
    all_end l = sym (at_drop_all (weigh_all g f p first n ks s) hs i l) ∙ u

pub nothing_is : {z : C64} → z ≡ zero_number → ◌≡◌ {A = Weighed} (record { total = z; weight = zero_f }) nothing
unfolding nothing
nothing_is e = λ i. record { total = e i; weight = zero_f }

-- ---- what is read

module _ (f f' : ℕ → C64) where
  module _ (g : Grid3d) (p : Position) (first n : ℕ) where
    line_local : (h : Hat) (s : Weighed) (k : Hat) → Agree f f' (line_edges g p first n h k) → weigh_line g f p first n h s k ≡ weigh_line g f' p first n h s k
    unfolding weigh_line line_mean
    line_local h s k a = rw (inverted_local f f' (line_edges g p first n h k) zero_number a)

    lines_local : (h : Hat) (ks : List Hat) (s : Weighed) → Agree f f' (each (line_edges g p first n h) ks) → weigh_lines g f p first n h s ks ≡ weigh_lines g f' p first n h s ks
    unfolding weigh_lines
    lines_local h [] s a = refl
    lines_local h (k ∷ ks) s a =
        rw (line_local h s k (λ c m. a c (each_first (line_edges g p first n h) k ks m)))
        (lines_local h ks (weigh_line g f' p first n h s k) (λ c m. a c (each_later (line_edges g p first n h) k ks m)))

    all_local : (ks hs : List Hat) (s : Weighed) → Agree f f' (each (hat_edges g p first n ks) hs) → weigh_all g f p first n ks s hs ≡ weigh_all g f' p first n ks s hs
    unfolding weigh_all
    all_local ks [] s a = refl
    all_local ks (h ∷ hs) s a =
        rw (lines_local h ks s (λ c m. a c (each_first (hat_edges g p first n ks) h hs m)))
        (all_local ks hs (weigh_lines g f' p first n h s ks) (λ c m. a c (each_later (hat_edges g p first n ks) h hs m)))

-- the permittivity of a coarse edge sees only what stands at the edges that it reads
pub averaged_local : (t : TwoLevels) (f f' : ℕ → C64) (r : ℕ) → ((c : ℕ) → In c (averaged_reads t r) → f c ≡ f' c) → averaged_eps t f r ≡ averaged_eps t f' r
unfolding averaged_eps averaged_at averaged_reads hat_lines
averaged_local t f f' r h =
    let p : Position = at_of (coarse_grid t) r in
    ap mean_of
    (all_local f f' (fine_grid t) p (cell_start t p) (cell_count t p) (hats_on t p (last_axis p.component)) (hats_on t p (next_axis p.component)) nothing h)

-- ---- the edges that are read are edges of the fine grid

abbrev NodeBelow : ℕ → Hat → Type 0
NodeBelow b h = h.node < b

module _ {b j n : ℕ} {xs : List Hat} (d : HatsFit b j n xs) where
  hats_below : All (NodeBelow b) (hats_in xs j n)
  unfolding hats_in
  hats_below = all_tabulate (hat_at xs) n j (λ q a c. let e : q ≡ j + (q - j) = omega arith in rw e (d.nodes_in (q - j) (omega arith)))

  pub fit_below : {hs : List Hat} → hs ≡ hats_in xs j n → NodesBelow b hs
  unfolding hats_in
  fit_below e =
      let l : length (tabulate (hat_at xs) n j) ≡ n = length_tabulate (hat_at xs) n j in
      rw e (record { below = λ q h. let k : q < n = omega arith in rw (tabulate_at (hat_at xs) n j q no_hat k) (d.nodes_in q k) })

abbrev EdgeOf : Grid3d → ℕ → Type 0
EdgeOf g c = c < unknowns_of g

module _ {g : Grid3d} (l : Limits g) (p : Position) (first n : ℕ) (c : p.component < 3) (b : first + n ≤ n_of g p.component) where
  line_low : (h k : Hat) → NodeBelow (n_of g (next_axis p.component)) h → NodeBelow (n_of g (last_axis p.component)) k
      → All (EdgeOf g) (line_edges g p first n h k)
  unfolding line_edges
  line_low h k u v =
      let q : Position = moved_to (moved_to p (next_axis p.component) h.node) (last_axis p.component) k.node in
      let i : LineInside g q (first + n) = line_inside (record { is = refl }) c (u, v) b in
      rw (edges_along_is g q first n) (all_tabulate (edge_along g q) n first (λ m a o. rw (edge_along_is g q m) (index_below l (i.each_in m o))))

  pub all_low : (ks hs : List Hat) → All (NodeBelow (n_of g (last_axis p.component))) ks → All (NodeBelow (n_of g (next_axis p.component))) hs
      → All (EdgeOf g) (each (hat_edges g p first n ks) hs)
  all_low ks hs v = all_each (hat_edges g p first n ks) (λ h u. all_each (line_edges g p first n h) (λ k w. line_low h k u w) v)

-- readers that agree on the edges of the grid
module _ (f f' : ℕ → C64) where
  averaged_agree : {g : Grid3d} {p : Position} {nn : List ℕ} {xs : List Hat} {cs : List ℕ} → AverageReady g p nn xs cs
      → ((c : ℕ) → c < unknowns_of g → f c ≡ f' c) → averaged_in g nn xs cs f p ≡ averaged_in g nn xs cs f' p
  unfolding averaged_in hats_by
  averaged_agree {g} {p} {nn} {xs} {cs} d h =
      let first : ℕ = cell_first nn p in
      let n : ℕ = cell_last nn p - first in
      let ks : List Hat = hats_by xs cs p (last_axis p.component) in
      let hs : List Hat = hats_by xs cs p (next_axis p.component) in
      let low : All (EdgeOf g) (each (hat_edges g p first n ks) hs) =
      all_low d.cell.limits p first n d.cell.c_in (omega (arith, d.cell.rises, d.cell.inside)) ks hs (hats_below (d.hats_fit (last_axis p.component) (last_low p.component)))
      (hats_below (d.hats_fit (next_axis p.component) (next_low p.component))) in
      ap mean_of (all_local f f' g p first n ks hs nothing (λ c m. h c (all_in low c m)))

-- ---- the mean of one edge, as the code works it out

-- an edge's cell
module _ {g : Grid3d} {p : Position} {nn : List ℕ} (d : CellReady g p nn) {y : ℕ} (e : y ≡ place_on p p.component) where
  pub node_low : 65 * p.component + y + 1 < 195
  node_low = omega (arith, d.c_in, d.place_in)

  abbrev pub cell : Cell
  cell = record { grid = g; p = p; first = get_or nn (65 * p.component + y) 0; last = get_or nn (65 * p.component + y + 1) 0 }

  pub cell_is : cell ≡ cell_in g nn p
  unfolding cell_in
  cell_is = rw (e, cell_first_is nn p, cell_last_is nn p) refl

  pub cell_fits : CellFits cell
  cell_fits =
      record {
        limits = d.limits;
        c_in = d.c_in;
        rises = rw (e, ← cell_first_is nn p, ← cell_last_is nn p) d.rises;
        inside = rw (e, ← cell_last_is nn p) d.inside;
      }

-- hats that stand in a list, cut out of it
pub hats_cut : (xs : List Hat) (j n : ℕ) → j + n ≤ length xs → take n (drop j xs) ≡ hats_in xs j n
unfolding hats_in
hats_cut xs j zero h = rw (tabulate_zero (hat_at xs) j) refl
hats_cut xs j (suc n) h =
    let l : j < length xs = omega arith in
    rw (drop-cons xs j no_hat l, tabulate_suc (hat_at xs) n j) (ap (λ (hs : List Hat). hat_at xs j ∷ hs) (hats_cut xs (suc j) n (omega arith)))

pub axis_cut : (p : Position) (xs : List Hat) (cs : List ℕ) (a : ℕ) {y : ℕ} → y ≡ place_on p a → 128 * (64 * a + place_on p a) + get_or cs (64 * a + place_on p a) 0 ≤ length xs
    → take (128 * (64 * a + y) + get_or cs (64 * a + y) 0 - 128 * (64 * a + y)) (drop (128 * (64 * a + y)) xs) ≡ hats_by xs cs p a
unfolding hats_by
axis_cut p xs cs a {y} e h =
    let n : ℕ = get_or cs (64 * a + y) 0 in
    let d : 128 * (64 * a + y) + n - 128 * (64 * a + y) ≡ n = omega arith in
    rw (d, ← e) (hats_cut xs (128 * (64 * a + y)) n (rw e h))

-- the cell's part of what the mean asks for
module _ (g : Grid3d) (p : Position) (nn : List ℕ) {c : Cell} (e : c ≡ cell_in g nn p) where
  pub cell_room : {from n : ℕ} → (from ≤ 2 ^ 32) × (2 * (from + unknowns_of g) ≤ n) → (from ≤ 2 ^ 32) × (2 * (from + unknowns_of c.grid) ≤ n)
  unfolding cell_in
  cell_room h = rw e h

  pub cell_next : {hs : List Hat} → NodesBelow (n_of g (next_axis p.component)) hs → NodesBelow (n_of c.grid (next_axis c.p.component)) hs
  unfolding cell_in
  cell_next h = rw e h

  pub cell_last_axis : {hs : List Hat} → NodesBelow (n_of g (last_axis p.component)) hs → NodesBelow (n_of c.grid (last_axis c.p.component)) hs
  unfolding cell_in
  cell_last_axis h = rw e h

-- the hats around the node of p on an axis, by the axis's number in the code
module _ {g : Grid3d} {p : Position} {nn : List ℕ} {xs : List Hat} {cs : List ℕ} (d : AverageReady g p nn xs cs) {a b : ℕ} (e : b ≡ a) (h : a < 3) where
  pub axis_ready : (b < 3) × (place_on p b < 64) × (length cs ≡ 192)
  axis_ready = (rw e h, d.places b, d.counts_long)

  pub axis_room : 128 * (64 * b + place_on p b) + get_or cs (64 * b + place_on p b) 0 ≤ length xs
  axis_room = rw e (d.hats_fit a h).room

  module _ {hs : List Hat} (o : hs ≡ hats_by xs cs p b) where
    pub axis_hats_are : hs ≡ hats_by xs cs p a
    axis_hats_are = rw e at o

    pub axis_below : NodesBelow (n_of g a) hs
    unfolding hats_by
    axis_below = fit_below (d.hats_fit a h) axis_hats_are

pub average_is : (g : Grid3d) (f : ℕ → C64) (p : Position) (nn : List ℕ) (xs : List Hat) (cs : List ℕ) {c : Cell} {hs ks : List Hat} {v : C64}
    → c ≡ cell_in g nn p → hs ≡ hats_by xs cs p (next_axis p.component) → ks ≡ hats_by xs cs p (last_axis p.component)
    → v ≡ mean_of (weigh_all c.grid f c.p c.first (c.last - c.first) ks nothing hs) → v ≡ averaged_in g nn xs cs f p
unfolding averaged_in cell_in
average_is g f p nn xs cs e x z v = v ∙ (λ i. mean_of (weigh_all (e i).grid f (e i).p (e i).first ((e i).last - (e i).first) (z i) nothing (x i)))

-- ---- a loop over a level

-- a turn: what the next one reads is before `to`
pub averaging_turn : {gf gc : Grid3d} {nn : List ℕ} {hs : List Hat} {cs : List ℕ} {n from to r : ℕ} {xs ys zs : List Float} {p : Position} {v : C64}
    → Limits gc → AveragesReady gf gc nn hs cs
    → ChainRoom (unknowns_of gf) (unknowns_of gc) from to xs → Chaining (averaged_no gf gc nn hs cs (read_from xs from)) n to xs ys r
    → r < n → n ≡ unknowns_of gc → p ≡ at_of gc r → v ≡ averaged_in gf nn hs cs (read_from ys from) p → zs ≡ set_number ys (to + r) v
    → Chaining (averaged_no gf gc nn hs cs (read_from xs from)) n to xs zs (r + 1)
unfolding averaged_no
averaging_turn {gf} {gc} {nn} {hs} {cs} {n} {from} {to} {r} {xs} {ys} {zs} {p} {v} lc d m c h e o q z =
    let i : Inside gc (at_of gc r) = at_inside lc r (omega arith) in
    chaining_one c h
    (q ∙ ap (averaged_in gf nn hs cs (read_from ys from)) o
    ∙ averaged_agree (read_from ys from) (read_from xs from) (d.each_ready (at_of gc r) i) (λ c' b. rw (read_from_is ys from c', read_from_is xs from c') (c.left (from + c') (omega (arith, m.apart)))))
    z

pub ready_at : {gf gc : Grid3d} {nn : List ℕ} {xs : List Hat} {cs : List ℕ} {n r : ℕ} {p : Position} → Limits gc → AveragesReady gf gc nn xs cs → r < n
    → n ≡ unknowns_of gc → p ≡ at_of gc r → AverageReady gf p nn xs cs
ready_at {r = r} {p = p} l d h e o = d.each_ready p (rw o (at_inside l r (omega arith)))

-- ---- from the levels

-- the fine places in an edge's cell
module _ (t : TwoLevels) (lc : Limits (coarse_grid t)) {nn : List ℕ} (o : nn ≡ tabulate (node_no t) 195 0) {p : Position} (h : Inside (coarse_grid t) p) where
  place_low : place_on p p.component < 64
  place_low = omega (arith, place_inside h p.component, n_most lc p.component)

  pub first_same : cell_first nn p ≡ cell_start t p
  unfolding cell_start
  first_same = cell_first_is nn p ∙ node_at t o p.component (place_on p p.component) h.c_in (omega (arith, place_low))

  last_same : cell_last nn p ≡ node_on t p.component (place_on p p.component + 1)
  last_same =
      let e : 65 * p.component + place_on p p.component + 1 ≡ 65 * p.component + (place_on p p.component + 1) = omega arith in
      rw (cell_last_is nn p, e) (node_at t o p.component (place_on p p.component + 1) h.c_in (omega (arith, place_low)))

  pub count_same : cell_last nn p - cell_first nn p ≡ cell_count t p
  unfolding cell_count
  count_same = rw (first_same, last_same)

pub cell_ready : {gf gc : Grid3d} {nn : List ℕ} {p : Position} → Limits gf → Limits gc → NestedIn gf gc nn → Inside gc p → CellReady gf p nn
cell_ready {p = p} lf lc v h =
    record {
      limits = lf;
      c_in = h.c_in;
      place_in = omega (arith, place_inside h p.component, n_most lc p.component);
      nodes_long = v.long;
      rises = cell_rises v h;
      inside = cell_most v h;
    }

module _ {t : TwoLevels} (lc : Limits (coarse_grid t)) {nn : List ℕ} {xs : List Hat} {cs : List ℕ} (o : nn ≡ tabulate (node_no t) 195 0) (d : Hats t xs cs) where
  hats_same : {p : Position} → Inside (coarse_grid t) p → (a : ℕ) → a < 3 → hats_by xs cs p a ≡ hats_on t p a
  unfolding hats_by hats_on
  hats_same {p} h a b = d.hats_are a (place_on p a) b (omega (arith, place_inside h a, coarse_n t a))

  module _ {p : Position} (h : Inside (coarse_grid t) p) where
    -- the mean from the lists is the mean of the two levels
    pub averaged_is : (f : ℕ → C64) → averaged_in (fine_grid t) nn xs cs f p ≡ averaged_at t f p
    unfolding averaged_in averaged_at
    averaged_is f =
        rw (count_same t lc o h, first_same t lc o h, hats_same h (last_axis p.component) (last_low p.component), hats_same h (next_axis p.component) (next_low p.component))

  -- those of the whole level
  level_same : (f : ℕ → C64)
      → tabulate (averaged_no (fine_grid t) (coarse_grid t) nn xs cs f) (unknowns_of (coarse_grid t)) 0 ≡ tabulate (averaged_eps t f) (unknowns_of (coarse_grid t)) 0
  unfolding averaged_no averaged_eps
  level_same f =
      tabulate_agree (averaged_no (fine_grid t) (coarse_grid t) nn xs cs f) (averaged_eps t f) (unknowns_of (coarse_grid t)) zero_number
      (λ r b. averaged_is (at_inside lc r b) f)

  hats_in_lem : (a m : ℕ) → a < 3 → m < coarse_cells t a → m < 64 → HatsFit (n_of (fine_grid t) a) (128 * (64 * a + m)) (get_or cs (64 * a + m) 0) xs
  hats_in_lem a m b h i =
      record {
        room = omega (arith, d.hats_long, d.counts_few a m b h);
        nodes_in = λ q k. rw (fine_n t a) (d.nodes_in a m q b h k);
      }

  pub levels_ready : Limits (fine_grid t) → NestedIn (fine_grid t) (coarse_grid t) nn → AveragesReady (fine_grid t) (coarse_grid t) nn xs cs
  levels_ready lf v =
      record {
        each_ready = λ p h.
            record {
              cell = cell_ready lf lc v h;
              places = λ a. omega (arith, place_inside h a, n_most lc a);
              counts_long = d.counts_long;
              hats_fit = λ a b.
                  hats_in_lem a (place_on p a) b (omega (arith, place_inside h a, coarse_n t a)) (omega (arith, place_inside h a, n_most lc a));
            };
      }

-- ---- the whole: the code's grids and nodes are those of the levels, and so are the hats

module _ {l : FullLattice} {fine coarse : Three} {gf gc : Grid3d} {nn : List ℕ} {from to : ℕ} {xs : List Float} (q : Chain l fine coarse gf gc nn from to xs)
    {hs : List Hat} {cs : List ℕ} (d : Hats (two_of l fine coarse) hs cs) where
  pub averages_ready : AveragesReady gf gc nn hs cs
  averages_ready =
      rw (q.fine_grid_lem, q.coarse_grid_lem) (levels_ready q.paired.coarse_limits q.node_list d q.paired.fine_limits (rw (q.fine_grid_lem, q.coarse_grid_lem) at (nested_in q)))

  -- what the code lays, and how many
  laid_averages : tabulate (averaged_no gf gc nn hs cs (read_from xs from)) (unknowns_of gc) 0
      ≡ tabulate (averaged_eps (two_of l fine coarse) (read_from xs from)) (unknowns_of (coarse_grid (two_of l fine coarse))) 0
  laid_averages = rw (q.fine_grid_lem, q.coarse_grid_lem) (level_same q.paired.coarse_limits q.node_list d (read_from xs from))

  -- the list once all are laid
  module _ {ys : List Float} (e : ys ≡ laid_numbers xs to (tabulate (averaged_no gf gc nn hs cs (read_from xs from)) (unknowns_of gc) 0)) where
    pub averages_laid : ys
        ≡ laid_numbers xs to (tabulate (averaged_eps (two_of l fine coarse) (read_from xs from)) (unknowns_of (coarse_grid (two_of l fine coarse))) 0)
    averages_laid = e ∙ ap (laid_numbers xs to) laid_averages

    pub averages_room : {n : ℕ} → n ≡ unknowns_of gc → (to + n < 2 ^ 40) × (2 * (to + n) ≤ length ys)
    averages_room o =
        let k : length ys ≡ length xs =
        ap length e ∙ laid_numbers_length xs to (tabulate (averaged_no gf gc nn hs cs (read_from xs from)) (unknowns_of gc) 0) in
        (omega (arith, (chain_room q).low, unknowns_most (coarse_in q)), omega (arith, (chain_room q).room))

    pub averages_finite : {n : ℕ} {b : Bool} → n ≡ unknowns_of gc → b ≡ all_finite (tabulate (number_at ys) n to)
        → b ≡ all_finite (tabulate (averaged_eps (two_of l fine coarse) (read_from xs from)) (unknowns_of (coarse_grid (two_of l fine coarse))) 0)
    averages_finite {n} {b} c u =
        let vs : List C64 = tabulate (averaged_no gf gc nn hs cs (read_from xs from)) (unknowns_of gc) 0 in
        let o : n ≡ length vs = c ∙ sym (length_tabulate (averaged_no gf gc nn hs cs (read_from xs from)) (unknowns_of gc) 0) in
        let w : tabulate (number_at ys) n to ≡ vs = (λ i. tabulate (number_at (e i)) (o i) to) ∙ read_back xs to vs (omega (arith, (chain_room q).room)) in
        u ∙ ap all_finite (w ∙ laid_averages)
