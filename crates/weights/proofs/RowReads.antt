-- What a row of the prolongation reads of the fine level is read by the permittivity of one of its columns: along its component a fine edge takes, among others,
-- the coarse edge that it lies in.
-- Assumes nothing.
use Prim.Native.Nat.{ℕ, zero, suc, ◌+◌, ◌-◌, ◌<◌, ◌≤◌}
use native.Mathlib.Decide.{dec_lt}
use native.Mathlib.Omega.{arith}
use mathlib.Core.Path.{◌≡◌, refl, sym, ap, subst, ◌∙◌}
use mathlib.Core.Logic.{⊎_elim}
use mathlib.Core.Bool.{Bool, true, false, cond, ◌||◌}
use mathlib.Core.List.{List, [], ◌∷◌}
use borrow.Author.Tests.{eqb-true}
use lib.Dec.{eqb}
use lib.ListN.{length, get_or}
use Rattle.numbers.specs.Lists.{In, each}
use Rattle.numbers.proofs.EachLaws.{product_sieved}
use Rattle.numbers.proofs.ListLaws.{rises_below}
use Rattle.numbers.proofs.MemberLaws.{all_in, each_in}
use Rattle.numbers.proofs.TransposedLaws.{tabulate_in}
use Rattle.lattice.specs.declared.grid.Position.{Position}
use Rattle.lattice.specs.declared.lattice.Edges.{Edges}
use Rattle.lattice.specs.Grid.{axis3, place_on, moved_to, index_of, at_of, unknowns_of, Limits, Inside}
use Rattle.lattice.specs.Lattice.{FullLattice, edges_of}
use Rattle.lattice.specs.Line.{place_of, nodes_of, LineOver}
use Rattle.lattice.proofs.CurlLaws.{place_along, rises_most}
use Rattle.lattice.proofs.Equations.{place_on_is, place_on_0, place_on_1, place_on_2, moved_to_0, moved_to_1, moved_to_2}
use Rattle.lattice.proofs.GridLaws.{n_some, place_inside, at_inside, at_index}
use Rattle.lattice.proofs.LevelLaws.{line_over}
use Rattle.lattice.proofs.NestLaws.{axis3_0, axis3_1, axis3_2, EndsAmong, nodes_end, nodes_low, line_among}
use Rattle.weights.specs.CoarseEps.{on_fine, edge_along, edges_along, cell_edges, eps_reads}
use Rattle.weights.specs.Interpolate.{value_places, taken_places}
use Rattle.weights.specs.Product.{walled, free_places}
use Rattle.weights.specs.Prolongation.{is_along, edge_at, read_place, read_edge, read_at, nest_z, nest_y, nest, weight_columns, weight_reads}
use Rattle.weights.specs.TwoLevels.{TwoLevels, fine_line, coarse_line, fine_cells, coarse_cells, node_on, grid_with, fine_grid, coarse_grid, two_at}
use Rattle.weights.proofs.LevelLines.{node_is}
use Rattle.weights.proofs.PairLaws.{both_lines, fine_limits, coarse_limits}
use Rattle.weights.proofs.ProductLaws.{barred_on, fixed_coarse, fixed_fine, free_places_lem, free_all, columns_product}
use Rattle.weights.proofs.TakenLaws.{cell_taken, in_free, axis_places_at, Named, named_columns}
use Rattle.weights.proofs.TwoLevelLaws.{fine_n, coarse_n}

-- ---- the edges that a row reads, as a product over the axes

unfoldable read_in : TwoLevels → Position → ℕ → ℕ → ℕ → List ℕ
read_in t p i j k = read_edge t p i j k ∷ []

unfoldable reads_z : TwoLevels → Position → ℕ → ℕ → List ℕ
reads_z t p i j = each (read_in t p i j) (free_places t 2 (is_along p 2) p.k)

unfoldable reads_y : TwoLevels → Position → ℕ → List ℕ
reads_y t p i = each (reads_z t p i) (free_places t 1 (is_along p 1) p.j)

unfoldable product_reads : TwoLevels → Position → List ℕ
product_reads t p = each (reads_y t p) (free_places t 0 (is_along p 0) p.i)

tested_read : (t : TwoLevels) (p : Position) (i j k : ℕ) → read_at t p i j k ≡ cond (barred_on t p 0 i || (barred_on t p 1 j || barred_on t p 2 k)) [] (read_in t p i j k)
unfolding read_at read_in
tested_read t p i j k = rw (fixed_coarse t p i j k)

reads_product : (t : TwoLevels) (r : ℕ) → weight_reads t r ≡ product_reads t (at_of (fine_grid t) r)
unfolding weight_reads nest nest_y nest_z product_reads reads_y reads_z
reads_product t r =
    let p = at_of (fine_grid t) r in
    product_sieved (barred_on t p 0) (barred_on t p 1) (barred_on t p 2) (read_at t p) (read_in t p) (tested_read t p)
    (fixed_fine t p) (free_places_lem t 0 (is_along p 0) p.i) (free_places_lem t 1 (is_along p 1) p.j) (free_places_lem t 2 (is_along p 2) p.k)

-- edge d is read for the column at three places
record ReadFor (t : TwoLevels) (p : Position) (d : ℕ) : Type 0 where
  i : ℕ
  j : ℕ
  k : ℕ
  x : In i (free_places t 0 (is_along p 0) p.i)
  y : In j (free_places t 1 (is_along p 1) p.j)
  z : In k (free_places t 2 (is_along p 2) p.k)
  is : d ≡ read_edge t p i j k

read_for : (t : TwoLevels) (p : Position) (d : ℕ) → In d (product_reads t p) → ReadFor t p d
unfolding product_reads reads_y reads_z read_in
read_for t p d h =
    let x = each_in (reads_y t p) (free_places t 0 (is_along p 0) p.i) d h in
    let y = each_in (reads_z t p x.by) (free_places t 1 (is_along p 1) p.j) d x.gives in
    let z = each_in (read_in t p x.by y.by) (free_places t 2 (is_along p 2) p.k) d y.gives in
    record { i = x.by; j = y.by; k = z.by; x = x.there; y = y.there; z = z.there; is = ⊎_elim (λ e. e) (λ n. absurd n) z.gives }

-- ---- a line and the next coarser one: fine cell i lies between two neighbouring coarse nodes, and takes the value of that coarse cell

record Owner (es cs : List ℕ) (e : Edges) (i : ℕ) : Type 0 where
  cell : ℕ
  low : cell < length cs - 1
  begins : get_or (nodes_of es cs) cell 0 ≤ i
  ends : i < get_or (nodes_of es cs) (cell + 1) 0
  takes : In cell (taken_places e (value_places cs true) true (place_of es i true))

module _ {n : ℕ} {es cs : List ℕ} (fine : LineOver n es) (coarse : LineOver n cs) (kept : EndsAmong cs es) (i : ℕ) (h : i < length es - 1) where
  -- the coarse cell whose ends enclose the fine cell's first end, below coarse node k
  enclosing : (k : ℕ) → k < length cs → get_or es i 0 < get_or cs k 0 → (m : ℕ) × (m < length cs - 1) × (get_or cs m 0 ≤ get_or es i 0) × (get_or es i 0 < get_or cs (m + 1) 0)
  enclosing zero b u = absurd (omega (arith, coarse.first))
  enclosing (suc k) b u = go (dec_lt (get_or es i 0) (get_or cs k 0)) (enclosing k (omega arith))
    where
      go : Dec (get_or es i 0 < get_or cs k 0) → (get_or es i 0 < get_or cs k 0 → (m : ℕ) × (m < length cs - 1) × (get_or cs m 0 ≤ get_or es i 0) × (get_or es i 0 < get_or cs (m + 1) 0))
          → (m : ℕ) × (m < length cs - 1) × (get_or cs m 0 ≤ get_or es i 0) × (get_or es i 0 < get_or cs (m + 1) 0)
      go (yes c) before = before c
      go (no c) before = let e : k + 1 ≡ suc k = omega arith in (k, omega arith, omega arith, rw e u)

  module _ (m : ℕ) (low : m < length cs - 1) (from : get_or cs m 0 ≤ get_or es i 0) (to : get_or es i 0 < get_or cs (m + 1) 0) where
    abbrev first : ℕ
    first = get_or (nodes_of es cs) m 0

    abbrev last : ℕ
    last = get_or (nodes_of es cs) (m + 1) 0

    begins : first ≤ i
    begins = go (dec_lt i first)
      where
        go : Dec (i < first) → first ≤ i
        go (yes c) =
            let u : get_or es i 0 < get_or es first 0 = rises_below es fine.rises i first c (nodes_low fine coarse kept m (omega arith)) in
            absurd (omega (arith, nodes_end fine coarse kept m (omega arith)))
        go (no c) = omega arith

    ends : i < last
    ends = go (dec_lt i last)
      where
        go : Dec (i < last) → i < last
        go (yes c) = c
        go (no c) =
            let u : get_or es last 0 ≤ get_or es i 0 = rises_most es fine.rises last i (omega arith) (omega arith) in
            absurd (omega (arith, nodes_end fine coarse kept (m + 1) (omega arith)))

    takes : (e : Edges) → In m (taken_places e (value_places cs true) true (place_of es i true))
    takes e =
        let up : get_or es i 0 < get_or es (i + 1) 0 = rises_below es fine.rises i (i + 1) (omega arith) (omega arith) in
        let in_last : get_or es (i + 1) 0 ≤ get_or es last 0 = rises_most es fine.rises (i + 1) last (omega (arith, ends)) (nodes_low fine coarse kept (m + 1) (omega arith)) in
        rw place_along
        (cell_taken cs coarse.rises m low (get_or es i 0) (get_or es (i + 1) 0) up from (omega (arith, nodes_end fine coarse kept (m + 1) (omega arith))) e)

  owner : (e : Edges) → Owner es cs e i
  owner e =
      let u : get_or es i 0 < get_or es (length es - 1) 0 = rises_below es fine.rises i (length es - 1) h (omega arith) in
      let t = enclosing (length cs - 1) (omega (arith, coarse.some)) (omega (arith, fine.last, coarse.last)) in
      record {
        cell = t.0;
        low = t.1;
        begins = begins t.0 t.1 t.2 t.3;
        ends = ends t.0 t.1 t.2 t.3;
        takes = takes t.0 t.1 t.2 t.3 e;
      }

-- ---- a column with its place along component c set to m

along_own : (c m i j k : ℕ) → c < 3 → axis3 c (cond (eqb 0 c) m i) (cond (eqb 1 c) m j) (cond (eqb 2 c) m k) ≡ m
along_own zero m i j k h = axis3_0 m j k
along_own (suc zero) m i j k h = axis3_1 i m k
along_own (suc (suc zero)) m i j k h = axis3_2 i j m
along_own (suc (suc (suc c))) m i j k h = absurd (omega arith)

-- the node of that column, moved along the component to the place of position p, is where the column before reads
moved_own : (f : ℕ → ℕ → ℕ) (p : Position) (c m i j k : ℕ) → c < 3
    → moved_to (record { component = c; i = f 0 (cond (eqb 0 c) m i); j = f 1 (cond (eqb 1 c) m j); k = f 2 (cond (eqb 2 c) m k) }) c (place_on p c)
    ≡ record { component = c; i = cond (eqb 0 c) (place_on p 0) (f 0 i); j = cond (eqb 1 c) (place_on p 1) (f 1 j); k = cond (eqb 2 c) (place_on p 2) (f 2 k) }
moved_own f p zero m i j k h = moved_to_0 (record { component = 0; i = f 0 m; j = f 1 j; k = f 2 k }) (place_on p 0)
moved_own f p (suc zero) m i j k h = moved_to_1 (record { component = 1; i = f 0 i; j = f 1 m; k = f 2 k }) (place_on p 1)
moved_own f p (suc (suc zero)) m i j k h = moved_to_2 (record { component = 2; i = f 0 i; j = f 1 j; k = f 2 m }) (place_on p 2)
moved_own f p (suc (suc (suc c))) m i j k h = absurd (omega arith)

-- ---- the levels of a lattice

module _ (l : FullLattice) (limits : Limits l.grid) (L : ℕ) where
  abbrev two : TwoLevels
  two = two_at l L

  owner_at : (a i : ℕ) → i < fine_cells two a → Owner (fine_line two a) (coarse_line two a) (edges_of l a) i
  unfolding fine_cells
  owner_at a i =
      both_lines l L a (λ es cs. i < length es - 1 → Owner es cs (edges_of l a) i)
      (λ b h. owner (line_over l limits b L) (line_over l limits b (suc L)) (line_among l b L) i h (edges_of l a))

  free_low : (a : ℕ) (along : Bool) (i m : ℕ) → In m (free_places two a along i) → m < coarse_cells two a
  free_low a along i m h = (all_in (free_all two a along i (omega (arith, n_some (coarse_limits l limits L) a, coarse_n two a))) m h).low

  module _ (p : Position) (inside : Inside (fine_grid two) p) where
    abbrev c : ℕ
    c = p.component

    own : Owner (fine_line two c) (coarse_line two c) (edges_of l c) (place_on p c)
    own = owner_at c (place_on p c) (omega (arith, place_inside inside c, fine_n two c))

    -- the place m of a column on axis a; along the component, the cell that p lies in
    abbrev placed : ℕ → ℕ → ℕ
    placed a m = cond (is_along p a) own.cell m

    placed_free : (a i m : ℕ) → place_on p a ≡ i → In m (free_places two a (is_along p a) i) → In (placed a m) (free_places two a (is_along p a) i)
    unfolding is_along walled
    placed_free a i m e = go (eqb a c) (eqb-true a c)
      where
        there : a ≡ c → In own.cell (free_places two a true i)
        there q =
            rw (q, ← e, q) (in_free two c true (place_on p c) own.cell refl refl (rw (axis_places_at l L c true (place_on p c)) own.takes))

        go : (b : Bool) → (b ≡ true → a ≡ c) → In m (free_places two a b i) → In (cond b own.cell m) (free_places two a b i)
        go true q h = there (q refl)
        go false q h = h

    module _ (d : ℕ) (r : ReadFor two p d) where
      abbrev column : Position
      column = edge_at p (placed 0 r.i) (placed 1 r.j) (placed 2 r.k)

      named : Named two p (index_of (coarse_grid two) column)
      named =
          record {
            i = placed 0 r.i;
            j = placed 1 r.j;
            k = placed 2 r.k;
            x = placed_free 0 p.i r.i (place_on_0 p) r.x;
            y = placed_free 1 p.j r.j (place_on_1 p) r.y;
            z = placed_free 2 p.k r.k (place_on_2 p) r.z;
            is = refl;
          }

      column_inside : Inside (coarse_grid two) column
      unfolding coarse_grid grid_with edge_at named
      column_inside =
          record {
            c_in = inside.c_in;
            i_in = free_low 0 (is_along p 0) p.i named.i named.x;
            j_in = free_low 1 (is_along p 1) p.j named.j named.y;
            k_in = free_low 2 (is_along p 2) p.k named.k named.z;
          }

      column_place : place_on column c ≡ own.cell
      unfolding edge_at is_along
      column_place = place_on_is column c ∙ along_own c own.cell r.i r.j r.k inside.c_in

      read_is : edge_along (fine_grid two) (on_fine two column) (place_on p c) ≡ d
      unfolding edge_along on_fine edge_at read_edge read_place is_along
      read_is = ap (index_of (fine_grid two)) (moved_own (node_on two) p c own.cell r.i r.j r.k inside.c_in) ∙ sym r.is

      in_cell : In d (cell_edges two column)
      unfolding cell_edges edges_along edge_at
      in_cell =
          let first : node_on two c (place_on column c) ≤ place_on p c = rw (column_place, node_is two c own.cell) own.begins in
          let last : place_on p c < node_on two c (place_on column c + 1) = rw (column_place, node_is two c (own.cell + 1)) own.ends in
          subst (λ (v : ℕ). In v (cell_edges two column)) read_is
          (tabulate_in (edge_along (fine_grid two) (on_fine two column)) (node_on two c (place_on column c + 1) - node_on two c (place_on column c)) (node_on two c (place_on column c))
          (place_on p c) first (omega arith))

  -- what row r reads of the fine level, the permittivity of one of its columns reads
  pub reads_named : (r d : ℕ) → r < unknowns_of (fine_grid two) → In d (weight_reads two r) → (c : ℕ) × In c (weight_columns two r) × In d (eps_reads two c)
  unfolding eps_reads
  reads_named r d b h =
      let p = at_of (fine_grid two) r in
      let i : Inside (fine_grid two) p = at_inside (fine_limits l limits L) r b in
      let w : ReadFor two p d = read_for two p d (subst (In d) (reads_product two r) h) in
      let q : Position = column p i d w in
      let c : ℕ = index_of (coarse_grid two) q in (
        c,
        subst (In c) (sym (columns_product two r)) (named_columns two p c (named p i d w)),
        subst (In d) (ap (cell_edges two) (sym (at_index (coarse_limits l limits L) (column_inside p i d w)))) (in_cell p i d w),
      )
