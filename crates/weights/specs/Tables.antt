-- How the weights of the axes are held while a transfer is worked out (docs/SPECIFICATION.md, 7): in lists, a slot for each axis, role and place.
-- Slot q is that of axis q / 128, along it if q / 64 is odd and else across it, place q % 64. A slot has at most two entries, 2 q and 2 q + 1.
-- Assumes nothing.
use Rattle.std.specs.Prelude.{ℕ, zero, suc, ◌+◌, ◌-◌, ◌*◌, ◌/◌, ◌%◌, ◌<◌, ◌≤◌, ◌^◌, ◌≡◌, Bool, ◌&&◌, cond, List, [], ◌∷◌, eqb, ltb, length, get_or, take, drop, Float}
use Rattle.std.specs.Coded.{×_prop, Unit-prop, le_prop}
use Rattle.numbers.specs.declared.C64.{C64}
use Rattle.numbers.specs.Complex.{zero_number, no_number, product, quotient}
use Rattle.numbers.specs.Places.{number_at}
use Rattle.lattice.specs.declared.grid.Grid3d.{Grid3d}
use Rattle.lattice.specs.declared.grid.Position.{Position}
use Rattle.lattice.specs.declared.levels.Three.{Three}
use Rattle.lattice.specs.Grid.{axis3, n_of, index_of, at_of, unknowns_of, place_on, moved_to, Limits, Inside}
use Rattle.lattice.specs.Line.{ends_of, place_of, Held}
use Rattle.numbers.specs.Lists.{Rises, Numbers, tabulate, each, laid_numbers, all_finite, places_in, read_from, sum_to}
use Rattle.lattice.specs.Stretched.{across_map, along_map, map_points}
use Rattle.lattice.specs.Lattice.{FullLattice, edges_of}
use Rattle.numbers.specs.Terms.{Term, numbers_of}
use Rattle.weights.specs.TwoLevels.{TwoLevels, grid_with, fine_cells, coarse_cells, node_on, two_of, fine_grid, coarse_grid}
use Rattle.weights.specs.Prolongation.{is_along, edge_at}
use Rattle.weights.specs.CoarseEps.{edges_along, harmonic}
use Rattle.weights.specs.Interpolate.{taken_places, interpolated, up_to, ratio_at, shares_in, kept_shares}
use Rattle.weights.specs.Product.{walled, column_in, kept_places, kept_terms, free_places, free_terms}
use Rattle.weights.specs.declared.interpolate.Share.{Share}
use Rattle.weights.specs.declared.eps.Along.{Along}
use Rattle.weights.specs.declared.rows.Pull.{Pull}
use Rattle.weights.specs.declared.rows.Span.{Span}

-- slots, entries, the doubles of the entries' weights, and nodes, 65 for each axis
abbrev pub all_slots : ℕ
all_slots = 384

abbrev pub entry_count : ℕ
entry_count = 768

abbrev pub entry_doubles : ℕ
entry_doubles = 1536

abbrev pub node_count : ℕ
node_count = 195

-- ---- slots

unfoldable pub slot_axis : ℕ → ℕ
slot_axis q = q / 128

unfoldable pub slot_along : ℕ → Bool
slot_along q = eqb (q / 64 % 2) 1

unfoldable pub slot_place : ℕ → ℕ
slot_place q = q % 64

unfoldable pub slot_of : ℕ → Bool → ℕ → ℕ
slot_of a along i = 128 * a + cond along 64 0 + i

-- ---- what each slot and each entry holds; nothing, and zero, past the fine line's values

unfoldable pub slot_places : TwoLevels → ℕ → List ℕ
slot_places t q = cond (ltb (slot_place q) (fine_cells t (slot_axis q))) (free_places t (slot_axis q) (slot_along q) (slot_place q)) []

unfoldable pub slot_terms : TwoLevels → ℕ → List Term
slot_terms t q = cond (ltb (slot_place q) (fine_cells t (slot_axis q))) (free_terms t (slot_axis q) (slot_along q) (slot_place q)) []

-- the count of a slot's entries
unfoldable pub count_entry : TwoLevels → ℕ → ℕ
count_entry t q = length (slot_places t q)

-- the coarse place of an entry
unfoldable pub place_entry : TwoLevels → ℕ → ℕ
place_entry t e = get_or (slot_places t (e / 2)) (e % 2) 0

-- the fine place where its permittivity is read: the slot's own along the axis, the coarse node's across it
unfoldable pub node_entry : TwoLevels → ℕ → ℕ
node_entry t e = cond (slot_along (e / 2)) (slot_place (e / 2)) (node_on t (slot_axis (e / 2)) (place_entry t e))

-- the weight of an entry
unfoldable pub pull_entry : TwoLevels → ℕ → C64
pull_entry t e = get_or (numbers_of (slot_terms t (e / 2))) (e % 2) zero_number

-- the place of the value of a slot on lines given by axis
unfoldable pub value_entry : (ℕ → List ℕ) → ℕ → ℕ
value_entry line q =
    cond (ltb (slot_place q) (length (line (slot_axis q)) - 1)) (place_of (line (slot_axis q)) (slot_place q) (slot_along q)) 0

unfoldable pub lines_in : Three → ℕ → List ℕ
lines_in s a = axis3 a (ends_of s.x) (ends_of s.y) (ends_of s.z)

-- node m of axis a of the coarse level has the number at 65 a + m
unfoldable pub node_no : TwoLevels → ℕ → ℕ
node_no t q = node_on t (q / 65) (q % 65)

-- point p of the map that slots q / 64 use, at 129 (q / 64) + p
unfoldable pub map_no : FullLattice → ℕ → C64
map_no l k = get_or (cond (eqb (k / map_points % 2) 1) (along_map l (k / map_points / 2)) (across_map l (k / map_points / 2))) (k % map_points) no_number

-- the map of block b of such a list
unfoldable pub map_point : List Float → ℕ → ℕ → C64
map_point xs b p = number_at xs (map_points * b + p)

unfoldable pub map_in : List Float → ℕ → List C64
map_in xs b = tabulate (map_point xs b) map_points 0

-- ---- the lines that a transfer is worked out from, as the levels have them

pub record HeldThree (s : Three) : Type 0 where
  pub x_held : Held s.x
  pub y_held : Held s.y
  pub z_held : Held s.z

-- a proof that a list rises is the only one, as a field of a struct that holds it needs
pub rises_prop : (es : List ℕ) → IsProp (Rises es)
unfolding Rises
rises_prop [] = Unit-prop
rises_prop (a ∷ []) = Unit-prop
rises_prop (a ∷ (b ∷ es)) = ×_prop le_prop (rises_prop (b ∷ es))

pub record Paired (l : FullLattice) (fine coarse : Three) : Type 0 where
  pub base_limits : Limits l.grid
  pub fine_held : HeldThree fine
  pub coarse_held : HeldThree coarse
  pub x_rises : Rises (ends_of coarse.x)
  pub y_rises : Rises (ends_of coarse.y)
  pub z_rises : Rises (ends_of coarse.z)
  pub fine_limits : Limits (fine_grid (two_of l fine coarse))
  pub coarse_limits : Limits (coarse_grid (two_of l fine coarse))
  -- a coarse node is a fine node
  pub nested : (a m : ℕ) → m < coarse_cells (two_of l fine coarse) a → node_on (two_of l fine coarse) a m < fine_cells (two_of l fine coarse) a
  pub ended : (a m : ℕ) → m ≤ coarse_cells (two_of l fine coarse) a → node_on (two_of l fine coarse) a m ≤ fine_cells (two_of l fine coarse) a

-- ---- rows from the lists: places ps, fine places ds, counts ns, weights xs

abbrev pub pull_in : List ℕ → List ℕ → List Float → ℕ → Pull
pull_in ps ds xs e = record { place = get_or ps e 0; node = get_or ds e 0; weight = number_at xs e }

abbrev pub pulls_in : List ℕ → List ℕ → List Float → ℕ → ℕ → List Pull
pulls_in ps ds xs e n = tabulate (pull_in ps ds xs) n e

-- the slot of a position on an axis
unfoldable pub slot_on : Position → ℕ → ℕ → ℕ
slot_on p a i = slot_of a (is_along p a) i

unfoldable pub columns_in_z : Grid3d → List ℕ → List ℕ → Position → ℕ → ℕ → List ℕ
columns_in_z g ps ns p i j = each (column_in g p i j) (places_in ps (2 * slot_on p 2 p.k) (get_or ns (slot_on p 2 p.k) 0))

unfoldable pub columns_in_y : Grid3d → List ℕ → List ℕ → Position → ℕ → List ℕ
columns_in_y g ps ns p i = each (columns_in_z g ps ns p i) (places_in ps (2 * slot_on p 1 p.j) (get_or ns (slot_on p 1 p.j) 0))

unfoldable pub columns_in : Grid3d → List ℕ → List ℕ → Position → List ℕ
columns_in g ps ns p = each (columns_in_y g ps ns p) (places_in ps (2 * slot_on p 0 p.i) (get_or ns (slot_on p 0 p.i) 0))

unfoldable pub weight_in : Grid3d → Grid3d → (ℕ → C64) → (ℕ → C64) → Position → Pull → Pull → Pull → C64
weight_in gf gc f g p x y z =
    product (product (product x.weight y.weight) z.weight)
    (quotient
    (g (index_of gc (edge_at p x.place y.place z.place)))
    (f (index_of gf (edge_at p x.node y.node z.node))))

unfoldable pub number_in : Grid3d → Grid3d → (ℕ → C64) → (ℕ → C64) → Position → Pull → Pull → Pull → List C64
number_in gf gc f g p x y z = weight_in gf gc f g p x y z ∷ []

unfoldable pub numbers_in_z : Grid3d → Grid3d → (ℕ → C64) → (ℕ → C64) → List ℕ → List ℕ → List ℕ → List Float → Position → Pull → Pull → List C64
numbers_in_z gf gc f g ps ds ns xs p x y =
    each (number_in gf gc f g p x y) (pulls_in ps ds xs (2 * slot_on p 2 p.k) (get_or ns (slot_on p 2 p.k) 0))

unfoldable pub numbers_in_y : Grid3d → Grid3d → (ℕ → C64) → (ℕ → C64) → List ℕ → List ℕ → List ℕ → List Float → Position → Pull → List C64
numbers_in_y gf gc f g ps ds ns xs p x =
    each (numbers_in_z gf gc f g ps ds ns xs p x) (pulls_in ps ds xs (2 * slot_on p 1 p.j) (get_or ns (slot_on p 1 p.j) 0))

unfoldable pub numbers_in : Grid3d → Grid3d → (ℕ → C64) → (ℕ → C64) → List ℕ → List ℕ → List ℕ → List Float → Position → List C64
numbers_in gf gc f g ps ds ns xs p =
    each (numbers_in_y gf gc f g ps ds ns xs p) (pulls_in ps ds xs (2 * slot_on p 0 p.i) (get_or ns (slot_on p 0 p.i) 0))

-- every slot has at most two entries, each a place of the coarse grid
pub record PlacesOf (g : Grid3d) (ps ns : List ℕ) : Type 0 where
  pub places_long : length ps ≡ entry_count
  pub counts_long : length ns ≡ all_slots
  pub few : (q : ℕ) → q < all_slots → get_or ns q 0 ≤ 2
  pub place_in : (q d : ℕ) → q < all_slots → d < get_or ns q 0 → get_or ps (2 * q + d) 0 < n_of g (q / 128)

-- the fine places of the entries are places of the fine grid
pub record NodesOf (g : Grid3d) (ds ns : List ℕ) : Type 0 where
  pub nodes_long : length ds ≡ entry_count
  pub node_in_is : (q d : ℕ) → q < all_slots → d < get_or ns q 0 → get_or ds (2 * q + d) 0 < n_of g (q / 128)

-- the list has the permittivities of both levels
pub record RoomOf (s : Span) (eps : List Float) : Type 0 where
  pub fine_room : 2 * (s.feps + unknowns_of s.fine) ≤ length eps
  pub coarse_room : 2 * (s.ceps + unknowns_of s.coarse) ≤ length eps
  pub fine_low : s.feps ≤ 2 ^ 32
  pub coarse_low : s.ceps ≤ 2 ^ 32

-- all that the numbers of a row are worked out from
pub record SpanOf (s : Span) (ps ds ns : List ℕ) (xs eps : List Float) : Type 0 where
  pub fine_in : Limits s.fine
  pub coarse_in : Limits s.coarse
  pub places : PlacesOf s.coarse ps ns
  pub nodes : NodesOf s.fine ds ns
  pub pulls_long : length xs ≡ entry_doubles
  pub room : RoomOf s eps

-- the rows of a transfer from the lists, by number
unfoldable pub columns_row : Grid3d → Grid3d → List ℕ → List ℕ → ℕ → List ℕ
columns_row gf gc ps ns r = columns_in gc ps ns (at_of gf r)

unfoldable pub numbers_row : Grid3d → Grid3d → (ℕ → C64) → (ℕ → C64) → List ℕ → List ℕ → List ℕ → List Float → ℕ → List C64
numbers_row gf gc f g ps ds ns xs r = numbers_in gf gc f g ps ds ns xs (at_of gf r)

-- the numbers of row r have been laid from place `at` on; b tells whether they are finite
pub record RowLaid (s : Span) (ps ds ns : List ℕ) (xs eps values : List Float) (at r : ℕ) (b : Bool) (values' : List Float) : Type 0 where
  pub numbers_are : values' ≡ laid_numbers values at (numbers_row s.fine s.coarse (read_from eps s.feps) (read_from eps s.ceps) ps ds ns xs r)
  pub finite : b ≡ all_finite (numbers_row s.fine s.coarse (read_from eps s.feps) (read_from eps s.ceps) ps ds ns xs r)

-- each place of a position has a slot
pub record HasSlots (p : Position) : Type 0 where
  pub c_low : p.component < 3
  pub i_low : p.i < 64
  pub j_low : p.j < 64
  pub k_low : p.k < 64

-- how many weights a row has, from the counts
unfoldable pub count_in : List ℕ → Position → ℕ
count_in ns p = get_or ns (slot_on p 0 p.i) 0 * get_or ns (slot_on p 1 p.j) 0 * get_or ns (slot_on p 2 p.k) 0

-- ---- slots worked out from the lists: the values' places on the fine lines fs and on the coarse ones cs, the maps xs and the coarse ends es

-- a component across a wall axis is fixed at place 0
unfoldable pub slot_wall : FullLattice → ℕ → Bool
slot_wall l q = walled l (slot_axis q) (slot_along q)

-- the coarse values' places of a slot's axis and role
unfoldable pub slot_block : Grid3d → List ℕ → ℕ → List ℕ
slot_block gc cs q = places_in cs (q - slot_place q) (n_of gc (slot_axis q))

unfoldable pub slot_taken : FullLattice → Grid3d → Grid3d → List ℕ → List ℕ → ℕ → List ℕ
slot_taken l gf gc fs cs q =
    cond (ltb (slot_place q) (n_of gf (slot_axis q)))
    (cond (slot_wall l q && eqb (slot_place q) 0)
    []
    (kept_places (slot_wall l q) (taken_places (edges_of l (slot_axis q)) (slot_block gc cs q) (slot_along q) (get_or fs q 0))))
    []

unfoldable pub slot_pulled : FullLattice → Grid3d → Grid3d → List ℕ → List ℕ → List Float → List ℕ → ℕ → List Term
slot_pulled l gf gc fs cs xs es q =
    cond (ltb (slot_place q) (n_of gf (slot_axis q)))
    (cond (slot_wall l q && eqb (slot_place q) 0)
    []
    (kept_terms (slot_wall l q)
    (interpolated (edges_of l (slot_axis q)) (map_in xs (q / 64)) (slot_block gc cs q) (get_or es (slot_axis q) 0) (slot_along q) (get_or fs q 0))))
    []

-- the same in one: which values it takes, and with which share
unfoldable pub slot_shares : FullLattice → Grid3d → Grid3d → List ℕ → List ℕ → ℕ → List Share
slot_shares l gf gc fs cs q =
    cond (ltb (slot_place q) (n_of gf (slot_axis q)))
    (cond (slot_wall l q && eqb (slot_place q) 0)
    []
    (kept_shares (slot_wall l q) (shares_in (edges_of l (slot_axis q)) (slot_block gc cs q) (slot_along q) (get_or fs q 0))))
    []

-- entry e, if its slot has it
unfoldable pub entry_share : FullLattice → Grid3d → Grid3d → List ℕ → List ℕ → ℕ → List Share
entry_share l gf gc fs cs e = take 1 (drop (e % 2) (slot_shares l gf gc fs cs (e / 2)))

-- how far its place lies from the low neighbour to the high one
unfoldable pub slot_ratio : FullLattice → Grid3d → List ℕ → List ℕ → List Float → List ℕ → ℕ → C64
slot_ratio l gc fs cs xs es q =
    ratio_at (edges_of l (slot_axis q)) (map_in xs (q / 64)) (slot_block gc cs q) (get_or es (slot_axis q) 0) (get_or fs q 0) (up_to (slot_block gc cs q) (get_or fs q 0))

unfoldable pub count_from : FullLattice → Grid3d → Grid3d → List ℕ → List ℕ → ℕ → ℕ
count_from l gf gc fs cs q = length (slot_taken l gf gc fs cs q)

unfoldable pub place_from : FullLattice → Grid3d → Grid3d → List ℕ → List ℕ → ℕ → ℕ
place_from l gf gc fs cs e = get_or (slot_taken l gf gc fs cs (e / 2)) (e % 2) 0

-- nodes nn (65 for each axis) and places ps
unfoldable pub node_from : List ℕ → List ℕ → ℕ → ℕ
node_from nn ps e = cond (slot_along (e / 2)) (slot_place (e / 2)) (get_or nn (65 * slot_axis (e / 2) + get_or ps e 0) 0)

unfoldable pub pull_from : FullLattice → Grid3d → Grid3d → List ℕ → List ℕ → List Float → List ℕ → ℕ → C64
pull_from l gf gc fs cs xs es e = get_or (numbers_of (slot_pulled l gf gc fs cs xs es (e / 2))) (e % 2) zero_number

-- the last end of each axis's line
unfoldable pub end_no : (ℕ → List ℕ) → ℕ → ℕ
end_no line a = get_or (line a) (length (line a) - 1) 0

-- what the slots are worked out from: as many values as slots, each place below 129
pub record ValuesOf (fs cs : List ℕ) : Type 0 where
  pub fine_long : length fs ≡ all_slots
  pub coarse_long : length cs ≡ all_slots
  pub fine_low : (q : ℕ) → q < all_slots → get_or fs q 0 < map_points
  pub low : (q : ℕ) → q < all_slots → get_or cs q 0 < map_points

pub record EndsOf (es : List ℕ) : Type 0 where
  pub ends_long : length es ≡ 3
  pub end_low : (a : ℕ) → a < 3 → get_or es a 0 < map_points

-- ---- what the tables of two levels hold

-- the grids, and the places of the values
pub record Worked (l : FullLattice) (fine coarse : Three) (gf gc : Grid3d) (fs cs : List ℕ) : Type 0 where
  pub paired : Paired l fine coarse
  pub fine_is : gf ≡ grid_with l.grid fine.x.cells fine.y.cells fine.z.cells
  pub coarse_is : gc ≡ grid_with l.grid coarse.x.cells coarse.y.cells coarse.z.cells
  pub values_fine : fs ≡ tabulate (value_entry (lines_in fine)) 384 0
  pub values_coarse : cs ≡ tabulate (value_entry (lines_in coarse)) 384 0

-- the places and the counts of the slots
pub record Slotted (l : FullLattice) (fine coarse : Three) (gf gc : Grid3d) (ps ns : List ℕ) : Type 0 where
  pub paired : Paired l fine coarse
  pub fine_is : gf ≡ fine_grid (two_of l fine coarse)
  pub coarse_is : gc ≡ coarse_grid (two_of l fine coarse)
  pub counts : ns ≡ tabulate (count_entry (two_of l fine coarse)) 384 0
  pub places : ps ≡ tabulate (place_entry (two_of l fine coarse)) 768 0

-- the fine places and the weights besides
pub record Pulled (l : FullLattice) (fine coarse : Three) (gf gc : Grid3d) (ps ns ds : List ℕ) (xs : List Float) : Type 0 where
  pub slots : Slotted l fine coarse gf gc ps ns
  pub nodes : ds ≡ tabulate (node_entry (two_of l fine coarse)) 768 0
  pub pulls : Numbers (pull_entry (two_of l fine coarse)) 768 xs

-- ---- coarse permittivities from the lists: the nodes nn, 65 for each axis

unfoldable pub on_fine_in : List ℕ → Position → Position
on_fine_in nn p = record { component = p.component; i = get_or nn p.i 0; j = get_or nn (65 + p.j) 0; k = get_or nn (130 + p.k) 0 }

-- the nodes at the two ends of the cell of a position
unfoldable pub cell_first : List ℕ → Position → ℕ
cell_first nn p = get_or nn (65 * p.component + place_on p p.component) 0

unfoldable pub cell_last : List ℕ → Position → ℕ
cell_last nn p = get_or nn (65 * p.component + place_on p p.component + 1) 0

unfoldable pub coarse_eps_in : Grid3d → Grid3d → List ℕ → (ℕ → C64) → ℕ → C64
coarse_eps_in gf gc nn f r =
    harmonic f (edges_along gf (on_fine_in nn (at_of gc r)) (cell_first nn (at_of gc r)) (cell_last nn (at_of gc r) - cell_first nn (at_of gc r)))

-- the edges that it reads
unfoldable pub eps_reads_in : Grid3d → Grid3d → List ℕ → ℕ → List ℕ
eps_reads_in gf gc nn r = edges_along gf (on_fine_in nn (at_of gc r)) (cell_first nn (at_of gc r)) (cell_last nn (at_of gc r) - cell_first nn (at_of gc r))

-- they are those at places first to last - 1 along the component of a node
pub record CellAt (gc : Grid3d) (nn : List ℕ) (r : ℕ) (c : Along) : Type 0 where
  pub node_is : c.node ≡ on_fine_in nn (at_of gc r)
  pub first_is : c.first ≡ cell_first nn (at_of gc r)
  pub last_is : c.last ≡ cell_last nn (at_of gc r)

-- the places up to `last` along the component of p, and p itself across it, lie in the grid
pub record LineInside (g : Grid3d) (p : Position) (last : ℕ) : Type 0 where
  pub c_in : p.component < 3
  pub each_in : (m : ℕ) → m < last → Inside g (moved_to p p.component m)

-- the coarse nodes are nodes of the fine grid, and a cell's nodes rise
pub record NestedIn (gf gc : Grid3d) (nn : List ℕ) : Type 0 where
  pub long : length nn ≡ node_count
  pub inside : (a m : ℕ) → a < 3 → m < n_of gc a → get_or nn (65 * a + m) 0 < n_of gf a
  pub ends_in : (a m : ℕ) → a < 3 → m < n_of gc a → get_or nn (65 * a + m + 1) 0 ≤ n_of gf a
  pub rise : (a m : ℕ) → a < 3 → m < n_of gc a → get_or nn (65 * a + m) 0 ≤ get_or nn (65 * a + m + 1) 0

-- n numbers stand in the list from place `from` on, and m have room behind them from place `to` on
pub record ChainRoom (n m from to : ℕ) (eps : List Float) : Type 0 where
  pub apart : from + n ≤ to
  pub room : 2 * (to + m) ≤ length eps
  pub low : to ≤ 2 ^ 32

-- the same for the levels themselves
pub record RoomFor (t : TwoLevels) (feps ceps : ℕ) (eps : List Float) : Type 0 where
  pub fine_room : 2 * (feps + unknowns_of (fine_grid t)) ≤ length eps
  pub coarse_room : 2 * (ceps + unknowns_of (coarse_grid t)) ≤ length eps
  pub fine_low : feps ≤ 2 ^ 32
  pub coarse_low : ceps ≤ 2 ^ 32

-- ---- counting

pub record CountsOf (ns : List ℕ) : Type 0 where
  pub long : length ns ≡ all_slots
  pub few : (q : ℕ) → q < all_slots → get_or ns q 0 ≤ 2

-- the weights of the first n rows
unfoldable pub counted_to : Grid3d → List ℕ → ℕ → ℕ
counted_to gf ns zero = 0
counted_to gf ns (suc n) = counted_to gf ns n + count_in ns (at_of gf n)

-- the count of place i of axis a for component c
unfoldable pub slot_count : List ℕ → ℕ → ℕ → ℕ → ℕ
slot_count ns c a i = get_or ns (slot_of a (eqb a c) i) 0

-- the counts of the n places of axis a for component c, added; the weights of the component's rows
unfoldable pub axis_count : List ℕ → ℕ → ℕ → ℕ → ℕ
axis_count ns c a n = sum_to (slot_count ns c a) n

unfoldable pub component_count : Grid3d → List ℕ → ℕ → ℕ
component_count gf ns c = axis_count ns c 0 gf.nx * axis_count ns c 1 gf.ny * axis_count ns c 2 gf.nz
