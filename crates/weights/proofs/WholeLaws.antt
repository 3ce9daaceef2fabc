-- A whole transfer in lists: what its parts leave together.
-- Assumes nothing.
use Prim.Native.Nat.{ℕ, suc, ◌+◌, ◌*◌, ◌<◌, ◌≤◌, ◌^◌}
use native.Mathlib.Omega.{arith}
use mathlib.Core.Path.{◌≡◌, refl, sym, ap, ◌∙◌, subst}
use mathlib.Core.Bool.{Bool, true, false, cond}
use mathlib.Core.List.Memᴰ.{head}
use mathlib.Core.List.Memᴰ.{tail}
use mathlib.Core.List.{List, [], ◌∷◌, Memᴰ as In}
use lib.ListN.{length, get_or, set}
use lib.Ieee.{Float}
use Rattle.numbers.specs.declared.C64.{C64}
use Rattle.numbers.specs.Complex.{no_number}
use Rattle.numbers.proofs.Laws.{and_true, and_false}
use Rattle.lattice.specs.declared.grid.Position.{Position}
use Rattle.lattice.specs.Grid.{at_of, unknowns_of, Limits, Inside}
use Rattle.lattice.specs.Lattice.{FullLattice}
use Rattle.lattice.specs.Neighbours.{fixed_at}
use Rattle.numbers.specs.Terms.{Term, columns_of, numbers_of, stored_row, Stored, Room, LaidRows}
use Rattle.lattice.specs.declared.levels.Three.{Three}
use Rattle.lattice.specs.declared.grid.Grid3d.{Grid3d}
use Rattle.lattice.proofs.GridLaws.{index_below, at_inside, unknowns_most}
use Rattle.numbers.proofs.TabulateLaws.{length_tabulate, tabulate_at_0}
use Rattle.numbers.specs.Lists.{rows, laid, laid_numbers, Laid, all_finite, start_of, starts_of, read_from}
use Rattle.weights.specs.TwoLevels.{TwoLevels, grid_with, fine_grid, coarse_grid, fine_cells, coarse_cells, node_on, fine_lattice, coarse_lattice, two_of}
use Rattle.weights.specs.CoarseEps.{coarse_eps}
use Rattle.weights.specs.Prolongation.{is_along, edge_at, read_place, read_edge, nest_z, nest_y, nest, read_at, weight_reads, weight_columns, weight_numbers, prolongation_row}
use Rattle.numbers.specs.Transpose.{turned_row}
use Rattle.weights.specs.Tables.{Paired, RoomFor}
use Rattle.weights.specs.Whole.{fine_edges, coarse_edges, weights_in, eps_of, all_weights, WholeRoom, WholeLeft, whole_finite}
use Rattle.numbers.specs.declared.terms.Part.{Part}
use Rattle.numbers.proofs.EachLaws.{All, none, more, all_at, all_each}
use Rattle.numbers.proofs.ListLaws.{through, laid_length, laid_at, laid_numbers_length, laid_numbers_before, laid_numbers_at, rows_agree, start_agree, starts_agree, starts_laid_lem}
use Rattle.numbers.proofs.Equations.{start_of_is, read_from_is}
use Rattle.lattice.proofs.Equations.{place_on_0, place_on_1, place_on_2}
use Rattle.numbers.proofs.LoopLaws.{either_below, all_rows, start_zero, start_suc}
use Rattle.weights.proofs.TwoLevelLaws.{fine_grid_lem, coarse_grid_lem}
use Rattle.weights.proofs.ProductLaws.{axis_inside, terms_columns, starts_few}
use Rattle.weights.proofs.RowTheorems.{FreeEdge, columns_free, row_local}
use Rattle.numbers.proofs.Tutorial.{columns_rows, numbers_rows, start_columns, turned_local, stored_is}

-- ---- what a row reads lies in its levels

-- an element of a list has what all its elements have
pub all_in : {P : ℕ → Type 0} {cs : List ℕ} → All P cs → (c : ℕ) → In c cs → P c
all_in {P = P} none c x3 = elim x3 [ ]
all_in {P} (more {x = x} p u) c (head e) = subst P (sym e) p
all_in (more p u) c (tail m) = all_in u c m

module _ (t : TwoLevels) (fl : Limits (fine_grid t)) (cl : Limits (coarse_grid t)) (nested : (a m : ℕ) → m < coarse_cells t a → node_on t a m < fine_cells t a) where
  abbrev Low : ℕ → Type 0
  Low c = c < unknowns_of (fine_grid t)

  module _ (p : Position) (h : Inside (fine_grid t) p) where
    read_low : (i j k : ℕ) → i < coarse_cells t 0 → j < coarse_cells t 1 → k < coarse_cells t 2 → Low (read_edge t p i j k)
    unfolding read_edge read_place edge_at fine_grid grid_with
    read_low i j k x y z =
        index_below fl
        (record {
          c_in = h.c_in;
          i_in = either_below (is_along p 0) (rw place_on_0 h.i_in) (nested 0 i x);
          j_in = either_below (is_along p 1) (rw place_on_1 h.j_in) (nested 1 j y);
          k_in = either_below (is_along p 2) (rw place_on_2 h.k_in) (nested 2 k z);
        })

    one_low : (b : Bool) (c : ℕ) → Low c → All Low (cond b [] (c ∷ []))
    one_low true c q = none
    one_low false c q = more q none

    all_low : All Low (nest t p (read_at t p))
    unfolding nest nest_y nest_z read_at coarse_grid grid_with
    all_low =
        all_each (nest_y t p (read_at t p))
        (λ i x. all_each (nest_z t p (read_at t p) i)
        (λ j y. all_each (read_at t p i j)
        (λ k z. one_low (fixed_at (coarse_lattice t) (edge_at p i j k)) (read_edge t p i j k) (read_low i j k x y z))
        (axis_inside t 2 (is_along p 2) p.k cl.z_some))
        (axis_inside t 1 (is_along p 1) p.j cl.y_some))
        (axis_inside t 0 (is_along p 0) p.i cl.x_some)

  -- the permittivities of the fine level that row r reads are there
  pub reads_inside : (r : ℕ) → r < unknowns_of (fine_grid t) → All Low (weight_reads t r)
  unfolding weight_reads
  reads_inside r b = go (fixed_at (fine_lattice t) (at_of (fine_grid t) r))
    where
      go : (b : Bool) → All Low (cond b [] (nest t (at_of (fine_grid t) r) (read_at t (at_of (fine_grid t) r))))
      go true = none
      go false = all_low (at_of (fine_grid t) r) (at_inside fl r b)

  -- all columns of the first n rows are edges of the coarse level
  pub rows_free : (n : ℕ) → n ≤ unknowns_of (fine_grid t) → All (FreeEdge t) (rows (weight_columns t) n)
  rows_free n h = all_rows (weight_columns t) n (λ r b. columns_free t r cl (at_inside fl r (omega arith)).c_in)

  -- ---- the readers after the coarse permittivities are laid behind the fine ones

  module _ (eps : List Float) (feps ceps : ℕ) (apart : feps + fine_edges t ≤ ceps) (room : 2 * (ceps + coarse_edges t) ≤ length eps) where
    abbrev eps' : List Float
    eps' = laid_numbers eps ceps (eps_of t (read_from eps feps))

    fine_same : (c : ℕ) → Low c → read_from eps' feps c ≡ read_from eps feps c
    fine_same c h = rw (read_from_is eps feps c, read_from_is eps' feps c) (laid_numbers_before eps ceps (eps_of t (read_from eps feps)) (feps + c) (omega arith))

    coarse_same : (c : ℕ) → c < coarse_edges t → read_from eps' ceps c ≡ coarse_eps t (read_from eps feps) c
    coarse_same c h =
        let n : length (eps_of t (read_from eps feps)) ≡ coarse_edges t = length_tabulate (coarse_eps t (read_from eps feps)) (coarse_edges t) 0 in
        read_from_is eps' ceps c
        ∙ laid_numbers_at eps ceps (eps_of t (read_from eps feps)) c no_number (omega (arith, n)) (omega (arith, n))
        ∙ tabulate_at_0 (coarse_eps t (read_from eps feps)) (coarse_edges t) c no_number h

    row_same : (r : ℕ) → r < fine_edges t
        → prolongation_row t (read_from eps' feps) (read_from eps' ceps) r ≡ prolongation_row t (read_from eps feps) (coarse_eps t (read_from eps feps)) r
    row_same r h =
        row_local t (read_from eps' feps) (read_from eps feps) (read_from eps' ceps) (coarse_eps t (read_from eps feps)) r
        (λ c m. fine_same c (all_in (reads_inside r h) c m))
        (λ c m. coarse_same c (all_in (columns_free t r cl (at_inside fl r h).c_in) c m).low)

    -- the weights by what then stands in the list
    pub weights_same : rows (weight_numbers t (read_from eps' feps) (read_from eps' ceps)) (fine_edges t) ≡ all_weights t (read_from eps feps) (coarse_eps t (read_from eps feps))
    unfolding weight_numbers
    weights_same =
        rows_agree (weight_numbers t (read_from eps' feps) (read_from eps' ceps)) (weight_numbers t (read_from eps feps) (coarse_eps t (read_from eps feps))) (fine_edges t)
        (λ r h. ap numbers_of (row_same r h))

  -- ---- the forward part in the lists

  module _ (ss cs : List ℕ) {ss' cs' : List ℕ} (xs' : List Float) (s k : ℕ) (se : ss' ≡ laid ss s (starts_of (weight_columns t) (fine_edges t)))
      (ce : cs' ≡ laid cs k (rows (weight_columns t) (fine_edges t))) (sr : s + fine_edges t < length ss) (cr : k + weights_in t ≤ length cs)
      (xr : 2 * (k + weights_in t) ≤ length xs') (sl : s ≤ 2 ^ 32) (kl : k ≤ 2 ^ 32) where
    pub stored : Stored ss' s cs' xs' k (fine_edges t) (coarse_edges t)
    stored =
        let a : weights_in t ≡ length (rows (weight_columns t) (fine_edges t)) = start_of_is (weight_columns t) (fine_edges t) in
        let z : s + 0 ≡ s = omega arith in
        let e : get_or ss' (s + fine_edges t) 0 ≡ weights_in t = starts_laid_lem (weight_columns t) (fine_edges t) ss s se sr (fine_edges t) (omega arith) in
        let m : fine_edges t ≤ 12288 = unknowns_most fl in
        let b : ss' ≡ laid ss s (starts_of (weight_columns t) (fine_edges t)) = se in
        record {
          first = ap (λ (i : ℕ). get_or ss' i 0) (sym z) ∙ starts_laid_lem (weight_columns t) (fine_edges t) ss s se sr 0 (omega arith) ∙ start_zero (weight_columns t);
          rise = λ r h.
              let q : s + r + 1 ≡ s + suc r = omega arith in
              omega (arith, starts_laid_lem (weight_columns t) (fine_edges t) ss s se sr r (omega arith), ap (λ (i : ℕ). get_or ss' i 0) q, starts_laid_lem (weight_columns t) (fine_edges t) ss s se sr (suc r) (omega arith), start_suc (weight_columns t) r);
          starts_room = omega (arith, ap length se, laid_length ss s (starts_of (weight_columns t) (fine_edges t)));
          columns_room = omega (arith, e, ap length ce, laid_length cs k (rows (weight_columns t) (fine_edges t)));
          numbers_room = omega (arith, e);
          columns_low = λ q h.
              let w : q < length (rows (weight_columns t) (fine_edges t)) = omega (arith, h, e) in
              subst (λ (c : ℕ). c < coarse_edges t)
              (sym (ap (λ (l : List ℕ). get_or l (k + q) 0) ce ∙ laid_at cs k (rows (weight_columns t) (fine_edges t)) q w (omega arith)))
              (all_at (rows_free (fine_edges t) (omega arith)) q 0 w).low;
          rows_few = m;
          columns_few = unknowns_most cl;
          all_few = omega (arith, e, starts_few t (fine_edges t));
          starts_low = sl;
          low = kl;
        }

-- ---- the turned part

-- a transfer by other rows that are the same
pub turned_as : (f g : ℕ → List Term) (m : ℕ) → ((c : ℕ) → c < m → f c ≡ g c) → {ss cs ss' cs' : List ℕ} {xs xs' : List Float} {s k : ℕ}
    → LaidRows f m ss s cs xs k ss' cs' xs' → LaidRows g m ss s cs xs k ss' cs' xs'
turned_as f g m h {ss} {cs} {ss'} {cs'} {xs} {xs'} {s} {k} t =
    let e : rows f m ≡ rows g m = rows_agree f g m h in
    record {
      starts_are = t.starts_are ∙ ap (λ (l : List ℕ). laid ss s l) (starts_agree f g m (start_agree f g m h));
      columns_are = t.columns_are ∙ ap (λ (l : List Term). laid cs k (columns_of l)) e;
      numbers_are = t.numbers_are ∙ ap (λ (l : List Term). laid_numbers xs k (numbers_of l)) e;
    }

module _ (t : TwoLevels) (f g : ℕ → C64) where
  abbrev row : ℕ → List Term
  row = prolongation_row t f g

  column_rows : (n : ℕ) → rows (weight_columns t) n ≡ columns_of (rows row n)
  column_rows n = rows_agree (weight_columns t) (through columns_of row) n (λ r h. sym (terms_columns t f g r)) ∙ sym (columns_rows row n)

  pub column_starts : (r : ℕ) → start_of (weight_columns t) r ≡ start_of row r
  column_starts r = start_agree (weight_columns t) (through columns_of row) r (λ q h. sym (terms_columns t f g q)) r (omega arith) ∙ start_columns row r

  number_rows : (n : ℕ) → rows (weight_numbers t f g) n ≡ numbers_of (rows row n)
  unfolding weight_numbers
  number_rows n = rows_agree (weight_numbers t f g) (through numbers_of row) n (λ r h. refl) ∙ sym (numbers_rows row n)

  -- the forward part as rows of terms
  pub forward : {ss cs ss' cs' : List ℕ} {xs xs' : List Float} {s k : ℕ} → ss' ≡ laid ss s (starts_of (weight_columns t) (fine_edges t))
      → cs' ≡ laid cs k (rows (weight_columns t) (fine_edges t)) → xs' ≡ laid_numbers xs k (rows (weight_numbers t f g) (fine_edges t))
      → LaidRows row (fine_edges t) ss s cs xs k ss' cs' xs'
  forward {ss} {cs} {ss'} {cs'} {xs} {xs'} {s} {k} a b c =
      record {
        starts_are = a ∙ ap (λ (l : List ℕ). laid ss s l) (starts_agree (weight_columns t) row (fine_edges t) (λ r h. column_starts r));
        columns_are = b ∙ ap (λ (l : List ℕ). laid cs k l) (column_rows (fine_edges t));
        numbers_are = c ∙ ap (λ (l : List C64). laid_numbers xs k l) (number_rows (fine_edges t));
      }

  -- the transpose of what stands in the lists is that of the rows
  pub turned_whole : (ss cs : List ℕ) (xs : List Float) {ss' cs' : List ℕ} {xs' : List Float} (s k : ℕ) {m u v : ℕ} {ts us ts' us' : List ℕ} {ys ys' : List Float}
      → ss' ≡ laid ss s (starts_of (weight_columns t) (fine_edges t))
      → cs' ≡ laid cs k (rows (weight_columns t) (fine_edges t))
      → xs' ≡ laid_numbers xs k (rows (weight_numbers t f g) (fine_edges t))
      → s + fine_edges t < length ss
      → k + weights_in t ≤ length cs
      → 2 * (k + weights_in t) ≤ length xs
      → LaidRows (turned_row (stored_row ss' s cs' xs' k) (fine_edges t)) m ts u us ys v ts' us' ys'
      → LaidRows (turned_row row (fine_edges t)) m ts u us ys v ts' us' ys'
  turned_whole ss cs xs {ss'} {cs'} {xs'} s k {m} a b c p q o w =
      let e : start_of (weight_columns t) (fine_edges t) ≡ start_of row (fine_edges t) = column_starts (fine_edges t) in
      let z : (r : ℕ) → r < fine_edges t → stored_row ss' s cs' xs' k r ≡ row r = stored_is (forward a b c) p (omega (arith, e)) (omega (arith, e)) in
      turned_as (turned_row (stored_row ss' s cs' xs' k) (fine_edges t)) (turned_row row (fine_edges t)) m
      (λ i h. turned_local (stored_row ss' s cs' xs' k) row (fine_edges t) i z) w

-- ---- all parts together

module _ {l : FullLattice} {fine coarse : Three} (d : Paired l fine coarse) where
  abbrev two : TwoLevels
  two = two_of l fine coarse

  -- the grids by the lines' cells
  pub fine_limited : {g : Grid3d} → g ≡ grid_with l.grid fine.x.cells fine.y.cells fine.z.cells → Limits g
  fine_limited e = subst Limits (sym (e ∙ fine_grid_lem l fine coarse d.fine_held)) d.fine_limits

  pub coarse_limited : {g : Grid3d} → g ≡ grid_with l.grid coarse.x.cells coarse.y.cells coarse.z.cells → Limits g
  coarse_limited e = subst Limits (sym (e ∙ coarse_grid_lem l fine coarse d.coarse_held)) d.coarse_limits

  module _ {feps ceps : ℕ} {forward turned : Part} {eps xs ys : List Float} {ss cs ts us : List ℕ} (room : WholeRoom two feps ceps forward turned eps ss cs xs ts us ys) where
    -- the permittivities of both levels are there
    pub room_for : {eps' : List Float} (vs : List C64) → eps' ≡ laid_numbers eps ceps vs → RoomFor two feps ceps eps'
    room_for vs e =
        let n : length (laid_numbers eps ceps vs) ≡ length eps = laid_numbers_length eps ceps vs in
        record {
          fine_room = omega (arith, ap length e, n, room.apart, room.eps_room);
          coarse_room = omega (arith, ap length e, n, room.eps_room);
          fine_low = omega (arith, room.apart, room.ceps_low);
          coarse_low = room.ceps_low;
        }

    -- the weights by what stands in the list once the coarse permittivities do
    weights_then : {eps' : List Float} → eps' ≡ laid_numbers eps ceps (eps_of two (read_from eps feps))
        → rows (weight_numbers two (read_from eps' feps) (read_from eps' ceps)) (fine_edges two)
        ≡ all_weights two (read_from eps feps) (coarse_eps two (read_from eps feps))
    weights_then ee =
        let f = read_from eps feps in
        subst
        (λ (ls : List Float). rows (weight_numbers two (read_from ls feps) (read_from ls ceps)) (fine_edges two) ≡ all_weights two f (coarse_eps two f))
        (sym ee)
        (weights_same two d.fine_limits d.coarse_limits d.nested eps feps ceps room.apart room.eps_room)

    pub weights_room : (forward.k ≤ 2 ^ 32) × (2 * (forward.k + weights_in two) ≤ length xs)
    weights_room = (room.k_low, room.values_room)

    module _ {ss' cs' : List ℕ} {xs' : List Float} {q n m : ℕ} (se : ss' ≡ laid ss forward.s (starts_of (weight_columns two) (fine_edges two)))
        (ce : Laid set cs forward.k (rows (weight_columns two) (fine_edges two)) cs' q) (en : n ≡ fine_edges two) (em : m ≡ coarse_edges two) where
      -- the rows are there to be turned
      pub turn_ready : (vs : List C64) → xs' ≡ laid_numbers xs forward.k vs
          → (Stored ss' forward.s cs' xs' forward.k n m) × (Room ts turned.s us ys turned.k (get_or ss' (forward.s + n) 0) m)
      turn_ready vs e =
          let z : length (laid_numbers xs forward.k vs) ≡ length xs = laid_numbers_length xs forward.k vs in
          let b : get_or ss' (forward.s + fine_edges two) 0 ≡ weights_in two =
          starts_laid_lem (weight_columns two) (fine_edges two) ss forward.s se room.starts_room (fine_edges two) (omega arith) in
          let w : Stored ss' forward.s cs' xs' forward.k (fine_edges two) (coarse_edges two) =
          stored two d.fine_limits d.coarse_limits d.nested ss cs xs' forward.s forward.k se ce.list room.starts_room room.columns_room
          (omega (arith, ap length e, z, room.values_room)) room.s_low room.k_low in
          let r : Room ts turned.s us ys turned.k (get_or ss' (forward.s + fine_edges two) 0) (coarse_edges two) =
          record {
            starts_room = room.tstarts_room;
            columns_room = omega (arith, b, room.tcolumns_room);
            numbers_room = omega (arith, b, room.tvalues_room);
            starts_low = room.ts_low;
            low = room.tk_low;
          } in
          rw (en, em) (w, r)

      -- what is left in the lists
      pub whole_left : {eps' ys' : List Float} {ts' us' : List ℕ} → eps' ≡ laid_numbers eps ceps (eps_of two (read_from eps feps))
          → xs' ≡ laid_numbers xs forward.k (rows (weight_numbers two (read_from eps' feps) (read_from eps' ceps)) (fine_edges two))
          → LaidRows (turned_row (stored_row ss' forward.s cs' xs' forward.k) n) m ts turned.s us ys turned.k ts' us' ys'
          → WholeLeft two feps ceps forward turned eps ss cs xs ts us ys eps' ss' cs' xs' ts' us' ys'
      whole_left {eps'} {ys'} {ts'} {us'} ee xe tw =
          let f = read_from eps feps in
          let x : xs' ≡ laid_numbers xs forward.k (all_weights two f (coarse_eps two f)) = xe ∙ ap (λ (vs : List C64). laid_numbers xs forward.k vs) (weights_then ee) in
          let u : LaidRows (turned_row (stored_row ss' forward.s cs' xs' forward.k) (fine_edges two)) (coarse_edges two) ts turned.s us ys turned.k ts' us' ys' =
          rw (en, em) at tw in
          record {
            eps_are = ee;
            starts_are = se;
            columns_are = ce.list;
            values_are = x;
            turned_are = turned_whole two f (coarse_eps two f) ss cs xs forward.s forward.k se ce.list x room.starts_room room.columns_room room.values_room u;
          }

    -- whether all is finite
    module _ {eps' : List Float} {a : Bool} (ee : eps' ≡ laid_numbers eps ceps (eps_of two (read_from eps feps)))
        (ea : a ≡ all_finite (eps_of two (read_from eps feps))) where
      pub finite_both : {b : Bool} → b ≡ all_finite (rows (weight_numbers two (read_from eps' feps) (read_from eps' ceps)) (fine_edges two)) → a ≡ true
          → b ≡ whole_finite two (read_from eps feps)
      unfolding whole_finite
      finite_both {b} eb h =
          let f = read_from eps feps in
          let e : b ≡ all_finite (all_weights two f (coarse_eps two f)) = eb ∙ ap all_finite (weights_then ee) in
          e ∙ sym (and_true (all_finite (eps_of two f)) (all_finite (all_weights two f (coarse_eps two f))) (sym ea ∙ h))

      pub finite_not : a ≡ false → a ≡ whole_finite two (read_from eps feps)
      unfolding whole_finite
      finite_not h =
          let f = read_from eps feps in
          ea ∙ sym (and_false (all_finite (eps_of two f)) (all_finite (all_weights two f (coarse_eps two f))) (sym ea ∙ h))
