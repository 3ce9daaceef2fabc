-- The permittivity of a rediscretized level (docs/SPECIFICATION.md, 10): a mean over lines of fine edges, each line
-- entering by its harmonic mean and by how near it lies. Places are whole half-steps, never maps.
-- Assumes nothing.
use Rattle.std.specs.Prelude.{ℕ, zero, suc, ◌+◌, ◌-◌, ◌*◌, ◌%◌, ◌<◌, ◌≤◌, min, ◌≡◌, Bool, ◌&&◌, cond, ◌⊎◌, List, [], ◌∷◌, ◌++◌, eqb, ltb, length, get_or, set, Float}
use Rattle.std.specs.Float.{nan}
use Rattle.numbers.specs.declared.C64.{C64}
use Rattle.numbers.specs.Complex.{add_f, sub_f, mul_f, div_f, zero_f, one_f, zero_number, sum, real_over, over_real}
use Rattle.lattice.specs.declared.grid.Grid3d.{Grid3d}
use Rattle.lattice.specs.declared.grid.Position.{Position}
use Rattle.lattice.specs.Grid.{n_of, next_axis, last_axis, place_on, moved_to, at_of, Limits, Inside}
use Rattle.lattice.specs.Lattice.{FullLattice, edges_of, is_wall}
use Rattle.numbers.specs.Lists.{tabulate, Rises, summed, each, Laid}
use Rattle.lattice.specs.declared.levels.Three.{Three}
use Rattle.lattice.specs.declared.line.Line.{Line}
use Rattle.lattice.specs.Line.{ends_of, nodes_of, Held}
use Rattle.weights.specs.TwoLevels.{TwoLevels, fine_line, coarse_line, fine_cells, coarse_cells, node_on, fine_grid, coarse_grid}
use Rattle.weights.specs.Interpolate.{whole}
use Rattle.weights.specs.Tables.{cell_first, cell_last, Paired, node_count}
use Rattle.weights.specs.CoarseEps.{edges_along, inverted}
use Rattle.operators.specs.declared.averaged.Cell.{Cell}
use Rattle.operators.specs.declared.averaged.Counts.{Counts}
use Rattle.operators.specs.declared.averaged.Hat.{Hat}
use Rattle.operators.specs.declared.averaged.Weighed.{Weighed}

-- 128 places for the hats of each node of each axis, and their counts
abbrev pub hat_places : ℕ
hat_places = 24576

abbrev pub hat_counts : ℕ
hat_counts = 192

-- Hat: a fine node around a coarse one, and its weight. Weighed: the sum so far and the weights so far.

-- 1 less the distance over the width
unfoldable pub hat_weight : ℕ → ℕ → Float
hat_weight distance width = sub_f one_f (div_f (whole distance) (whole width))

-- where node q of a line lies, counted on past its last node: a period further
unfoldable pub wrapped_place : List ℕ → ℕ → ℕ
wrapped_place es q =
    cond (ltb q (length es - 1)) (get_or es q 0) (get_or es (length es - 1) 0 + get_or es (q % (length es - 1)) 0)

-- the walk over lower neighbours: from node q on, each node that lies below the place `at`; it stops at the first that does not.
-- At most n nodes.
unfoldable pub walk : List ℕ → ℕ → ℕ → ℕ → ℕ → List Hat
walk es at width zero q = []
walk es at width (suc n) q =
    cond (ltb (wrapped_place es q) at)
    (record { node = q % (length es - 1); weight = hat_weight (at - wrapped_place es q) width } ∷ walk es at width n (suc q))
    []

-- the node of a fine line that is node m of a coarse one
unfoldable pub node_in : List ℕ → List ℕ → ℕ → ℕ
node_in es cs m = get_or (nodes_of es cs) m 0

-- the place of coarse node m, and the coarse node before it; around node 0 of a Bloch axis places count a period further on
unfoldable pub hat_place : List ℕ → ℕ → ℕ
hat_place cs m = get_or cs (cond (eqb m 0) (length cs - 1) m) 0

unfoldable pub node_before : List ℕ → ℕ → ℕ
node_before cs m = cond (eqb m 0) (length cs - 1 - 1) (m - 1)

-- the fine nodes between coarse node m and its lower neighbour; at a wall node 0 has none. es is the fine line, cs the coarse one
unfoldable pub lower_hats : Bool → List ℕ → List ℕ → ℕ → List Hat
lower_hats wall es cs m =
    cond (eqb m 0 && wall)
    []
    (walk es (hat_place cs m) (hat_place cs m - get_or cs (node_before cs m) 0) (length es - 1) (node_in es cs (node_before cs m) + 1))

-- node q above the place `at`
unfoldable pub hat_above : List ℕ → ℕ → ℕ → ℕ → Hat
hat_above es at width q = record { node = q; weight = hat_weight (get_or es q 0 - at) width }

-- those between it and its upper neighbour
unfoldable pub upper_hats : List ℕ → List ℕ → ℕ → List Hat
upper_hats es cs m =
    tabulate (hat_above es (get_or cs m 0) (get_or cs (m + 1) 0 - get_or cs m 0)) (min (node_in es cs (m + 1)) (length es - 1) - (node_in es cs m + 1))
    (node_in es cs m + 1)

-- the fine nodes around coarse node m, each with its weight
unfoldable pub around : Bool → List ℕ → List ℕ → ℕ → List Hat
around wall es cs m = lower_hats wall es cs m ++ (record { node = node_in es cs m; weight = one_f } ∷ upper_hats es cs m)

-- ---- the mean over the lines of fine edges, one for each pair of nodes

-- the n fine edges along the component of p from place `first` on, on the line through a node of each axis across
unfoldable pub line_edges : Grid3d → Position → ℕ → ℕ → Hat → Hat → List ℕ
line_edges g p first n h k =
    edges_along g (moved_to (moved_to p (next_axis p.component) h.node) (last_axis p.component) k.node) first n

-- those on the lines through one hat and each of a list
abbrev pub hat_edges : Grid3d → Position → ℕ → ℕ → List Hat → Hat → List ℕ
hat_edges g p first n ks h = each (line_edges g p first n h) ks

-- weight times count over the sum of inverses
unfoldable pub line_mean : (ℕ → C64) → Float → List ℕ → C64
line_mean f w cs = real_over (mul_f w (whole (length cs))) (summed (inverted f) zero_number cs)

-- one line more: the sum so far and the weights so far
unfoldable pub weigh_line : Grid3d → (ℕ → C64) → Position → ℕ → ℕ → Hat → Weighed → Hat → Weighed
weigh_line g f p first n h s k =
    record {
      total = sum s.total (line_mean f (mul_f h.weight k.weight) (line_edges g p first n h k));
      weight = add_f s.weight (mul_f h.weight k.weight);
    }

unfoldable pub weigh_lines : Grid3d → (ℕ → C64) → Position → ℕ → ℕ → Hat → Weighed → List Hat → Weighed
weigh_lines g f p first n h s [] = s
weigh_lines g f p first n h s (k ∷ ks) = weigh_lines g f p first n h (weigh_line g f p first n h s k) ks

unfoldable pub weigh_all : Grid3d → (ℕ → C64) → Position → ℕ → ℕ → List Hat → Weighed → List Hat → Weighed
weigh_all g f p first n ks s [] = s
weigh_all g f p first n ks s (h ∷ hs) = weigh_all g f p first n ks (weigh_lines g f p first n h s ks) hs

unfoldable pub nothing : Weighed
nothing = record { total = zero_number; weight = zero_f }

unfoldable pub mean_of : Weighed → C64
mean_of s = over_real s.total s.weight

-- the nodes around coarse node m of axis a
unfoldable pub hats_around : TwoLevels → ℕ → ℕ → List Hat
hats_around t a m = around (is_wall (edges_of t.base a)) (fine_line t a) (coarse_line t a) m

-- those around the node of p on an axis
unfoldable pub hats_on : TwoLevels → Position → ℕ → List Hat
hats_on t p a = hats_around t a (place_on p a)

-- the first fine place in the cell of p, and how many there are
unfoldable pub cell_start : TwoLevels → Position → ℕ
cell_start t p = node_on t p.component (place_on p p.component)

unfoldable pub cell_count : TwoLevels → Position → ℕ
cell_count t p = node_on t p.component (place_on p p.component + 1) - cell_start t p

unfoldable pub averaged_at : TwoLevels → (ℕ → C64) → Position → C64
averaged_at t f p =
    mean_of (weigh_all (fine_grid t) f p (cell_start t p) (cell_count t p) (hats_on t p (last_axis p.component)) nothing
    (hats_on t p (next_axis p.component)))

unfoldable pub averaged_eps : TwoLevels → (ℕ → C64) → ℕ → C64
averaged_eps t f r = averaged_at t f (at_of (coarse_grid t) r)

-- the edges whose permittivities it reads
unfoldable pub hat_lines : TwoLevels → Position → Hat → List ℕ
hat_lines t p h = hat_edges (fine_grid t) p (cell_start t p) (cell_count t p) (hats_on t p (last_axis p.component)) h

unfoldable pub averaged_reads : TwoLevels → ℕ → List ℕ
averaged_reads t r =
    each (hat_lines t (at_of (coarse_grid t) r)) (hats_on t (at_of (coarse_grid t) r) (next_axis (at_of (coarse_grid t) r).component))

-- ---- hats in a list

-- the nodes and the weights of some hats
unfoldable pub hat_nodes : List Hat → List ℕ
hat_nodes [] = []
hat_nodes (h ∷ hs) = h.node ∷ hat_nodes hs

unfoldable pub hat_weights : List Hat → List Float
hat_weights [] = []
hat_weights (h ∷ hs) = h.weight ∷ hat_weights hs

-- hats have been laid over a list from place k on, and r is the place behind them
abbrev pub HatsLaid : List Hat → ℕ → List Hat → List Hat → ℕ → Type 0
HatsLaid = Laid set

-- what stands at a place; past the list's end no hat
abbrev pub no_hat : Hat
no_hat = record { node = 0; weight = nan }

abbrev pub hat_at : List Hat → ℕ → Hat
hat_at xs k = get_or xs k no_hat

-- the n hats that stand in a list from place k on
unfoldable pub hats_in : List Hat → ℕ → ℕ → List Hat
hats_in xs k n = tabulate (hat_at xs) n k

-- the hats around node m of axis a have 128 places from 128 (64 a + m) on; cs has their counts
pub record Hats (t : TwoLevels) (xs : List Hat) (cs : List ℕ) : Type 0 where
  pub hats_long : length xs ≡ hat_places
  pub counts_long : length cs ≡ hat_counts
  pub counts_few : (a m : ℕ) → a < 3 → m < coarse_cells t a → get_or cs (64 * a + m) 0 ≤ 127
  pub hats_are : (a m : ℕ) → a < 3 → m < coarse_cells t a
      → hats_in xs (128 * (64 * a + m)) (get_or cs (64 * a + m) 0) ≡ hats_around t a m
  pub nodes_in : (a m q : ℕ) → a < 3 → m < coarse_cells t a → q < get_or cs (64 * a + m) 0
      → (hat_at xs (128 * (64 * a + m) + q)).node < fine_cells t a

-- those of the first n nodes of one axis have been laid, and the other axes' are as they were
pub record AxisHats (wall : Bool) (es cs : List ℕ) (a n : ℕ) (xs : List Hat) (ks : List ℕ) (xs' : List Hat) (ks' : List ℕ) : Type 0 where
  pub hats_long : length xs' ≡ length xs
  pub counts_long : length ks' ≡ length ks
  pub few : (m : ℕ) → m < n → get_or ks' (64 * a + m) 0 ≤ 127
  pub hats_are : (m : ℕ) → m < n → hats_in xs' (128 * (64 * a + m)) (get_or ks' (64 * a + m) 0) ≡ around wall es cs m
  pub nodes_in : (m q : ℕ) → m < n → q < get_or ks' (64 * a + m) 0 → (hat_at xs' (128 * (64 * a + m) + q)).node < length es - 1
  pub others : (b : ℕ) → b < 64 * a ⊎ 64 * a + n ≤ b → get_or ks' b 0 ≡ get_or ks b 0
  pub others_hat : (b q : ℕ) → b < 64 * a ⊎ 64 * a + n ≤ b → q < 128 → hat_at xs' (128 * b + q) ≡ hat_at xs (128 * b + q)

-- a fine line and a coarse one whose nodes are nodes of it
pub record LinePair (f c : Line) : Type 0 where
  pub fine_held : Held f
  pub coarse_held : Held c
  pub fine_rises : Rises (ends_of f)
  pub coarse_rises : Rises (ends_of c)
  pub nested : (m : ℕ) → m < c.cells → node_in (ends_of f) (ends_of c) m < f.cells
  pub ended : (m : ℕ) → m ≤ c.cells → node_in (ends_of f) (ends_of c) m ≤ f.cells
  pub last : get_or c.ends c.cells 0 ≤ get_or f.ends f.cells 0

-- the numbers on a fine line of the nodes of a coarse line of n cells stand in a list from place o on
pub record NodesFrom (es cs : List ℕ) (n : ℕ) (nn : List ℕ) (o : ℕ) : Type 0 where
  pub room : o + n < length nn
  pub each_is : (m : ℕ) → m ≤ n → get_or nn (o + m) 0 ≡ node_in es cs m

-- the lines of two levels, whose nodes are nested
pub record PairedLines (l : FullLattice) (fine coarse : Three) : Type 0 where
  pub paired : Paired l fine coarse
  pub x_pair : LinePair fine.x coarse.x
  pub y_pair : LinePair fine.y coarse.y
  pub z_pair : LinePair fine.z coarse.z

-- a coarse edge's cell on the fine grid, from the nodes nn, 65 for each axis; and what such a cell holds
unfoldable pub cell_in : Grid3d → List ℕ → Position → Cell
cell_in g nn p = record { grid = g; p = p; first = cell_first nn p; last = cell_last nn p }

pub record CellReady (g : Grid3d) (p : Position) (nn : List ℕ) : Type 0 where
  pub limits : Limits g
  pub c_in : p.component < 3
  pub place_in : place_on p p.component < 64
  pub nodes_long : length nn ≡ node_count
  pub rises : cell_first nn p ≤ cell_last nn p
  pub inside : cell_last nn p ≤ n_of g p.component

pub record CellFits (c : Cell) : Type 0 where
  pub limits : Limits c.grid
  pub c_in : c.p.component < 3
  pub rises : c.first ≤ c.last
  pub inside : c.last ≤ n_of c.grid c.p.component

-- the nodes of some hats are below b
pub record NodesBelow (b : ℕ) (hs : List Hat) : Type 0 where
  pub below : (q : ℕ) → q < length hs → (hat_at hs q).node < b

-- the n hats from place j on stand in the list, their nodes below b
pub record HatsFit (b j n : ℕ) (xs : List Hat) : Type 0 where
  pub room : j + n ≤ length xs
  pub nodes_in : (q : ℕ) → q < n → (hat_at xs (j + q)).node < b

-- the hats around the node of p on the axes across its component, those of the next axis in one list, those of the last in another
pub record HatsAcross (t : TwoLevels) (p : Position) (xs ys : List Hat) (k : Counts) : Type 0 where
  pub next_are : hats_in xs 0 k.next ≡ hats_on t p (next_axis p.component)
  pub last_are : hats_in ys 0 k.last ≡ hats_on t p (last_axis p.component)
  pub next_fit : HatsFit (n_of (fine_grid t) (next_axis p.component)) 0 k.next xs
  pub last_fit : HatsFit (n_of (fine_grid t) (last_axis p.component)) 0 k.last ys

-- the mean from the lists: the nodes nn, 65 for each axis, and the hats
unfoldable pub hats_by : List Hat → List ℕ → Position → ℕ → List Hat
hats_by xs cs p a = hats_in xs (128 * (64 * a + place_on p a)) (get_or cs (64 * a + place_on p a) 0)

unfoldable pub averaged_in : Grid3d → List ℕ → List Hat → List ℕ → (ℕ → C64) → Position → C64
averaged_in g nn xs cs f p =
    mean_of (weigh_all g f p (cell_first nn p) (cell_last nn p - cell_first nn p) (hats_by xs cs p (last_axis p.component)) nothing
    (hats_by xs cs p (next_axis p.component)))

unfoldable pub averaged_no : Grid3d → Grid3d → List ℕ → List Hat → List ℕ → (ℕ → C64) → ℕ → C64
averaged_no gf gc nn xs cs f r = averaged_in gf nn xs cs f (at_of gc r)

-- all that the mean of one edge is worked out from is there
pub record AverageReady (g : Grid3d) (p : Position) (nn : List ℕ) (xs : List Hat) (cs : List ℕ) : Type 0 where
  pub cell : CellReady g p nn
  pub places : (a : ℕ) → place_on p a < 64
  pub counts_long : length cs ≡ hat_counts
  pub hats_fit : (a : ℕ) → a < 3 → HatsFit (n_of g a) (128 * (64 * a + place_on p a)) (get_or cs (64 * a + place_on p a) 0) xs

pub record AveragesReady (gf gc : Grid3d) (nn : List ℕ) (xs : List Hat) (cs : List ℕ) : Type 0 where
  pub each_ready : (p : Position) → Inside gc p → AverageReady gf p nn xs cs
