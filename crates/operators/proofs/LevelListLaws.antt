-- Galerkin's operator of the next level in lists: its starts and columns are laid first, then its numbers are worked out from the rows in the lists.
-- And the lattice of a rediscretized level is within the limits.
-- Assumes nothing.
use Prim.Native.Nat.{ℕ, zero, suc, ◌+◌, ◌*◌, ◌<◌, ◌≤◌}
use native.Mathlib.Omega.{arith}
use mathlib.Core.Logic.{inl}
use mathlib.Core.Path.{◌≡◌, refl, sym, ap, ◌∙◌, subst}
use mathlib.Core.Bool.{true}
use mathlib.Core.List.{List, [], ◌∷◌}
use lib.ListN.{length, get_or, set}
use lib.Ieee.{Float}
use Rattle.numbers.specs.declared.C64.{C64}
use Rattle.lattice.specs.declared.grid.Grid3d.{Grid3d}
use Rattle.lattice.specs.declared.grid.Position.{Position}
use Rattle.lattice.specs.declared.levels.Three.{Three}
use Rattle.lattice.specs.Grid.{index_of, at_of, unknowns_of, Limits, Inside}
use Rattle.lattice.specs.Lattice.{FullLattice}
use Rattle.lattice.specs.Levels.{cells_at, three_at}
use Rattle.numbers.specs.Terms.{Term, columns_of, numbers_of, Room, LaidRows}
use Rattle.lattice.proofs.GridLaws.{at_inside, index_at, unknowns_most}
use Rattle.numbers.specs.Lists.{In, rows, laid, Laid, contains, start_of, starts_of}
use Rattle.numbers.specs.Transpose.{turned_row}
use Rattle.weights.specs.TwoLevels.{grid_with, two_at, two_of}
use Rattle.numbers.proofs.Equations.{start_of_is}
use Rattle.numbers.proofs.EachLaws.{length_columns}
use Rattle.lattice.proofs.Equations.{cells_at_is}
use Rattle.weights.proofs.Equations.{grid_with_is}
use Rattle.numbers.proofs.ListLaws.{laid_length, laid_at, laid_numbers_length, through, rows_agree, starts_laid_lem, starts_agree, start_agree}
use Rattle.weights.proofs.PairLaws.{two_at_lem}
use Rattle.numbers.proofs.Tutorial.{columns_rows, numbers_rows, start_columns, stored_is, turned_local}
use Rattle.numbers.specs.declared.terms.Part.{Part}
use Rattle.operators.specs.Galerkin.{galerkin_row, galerkin_numbers, fine_rows_read, columns_at, forward_rows_read, Columned, MetAll}
use Rattle.operators.specs.LevelLists.{edges_on, OperatorIn, OperatorBefore}
use Rattle.operators.specs.Levels.{forward_at, turned_at, galerkin_at, line_on, lattice_at, grid_at, ladder_of, pattern_row, spot_of, Below}
use Rattle.operators.specs.Numbered.{Right}
use Rattle.operators.specs.Pattern.{Ladder, Row}
use Rattle.operators.specs.Rediscretized.{cells_on, rediscretized_grid, rediscretized_lattice}
use Rattle.operators.specs.Relation.{Spot}
use Rattle.numbers.proofs.CollectSums.{in_at}
use Rattle.numbers.proofs.MemberLaws.{Span, each_in, rows_in_lem}
use Rattle.operators.proofs.ForwardPattern.{grid_fine, grid_limits, turned_named}
use Rattle.operators.proofs.GalerkinColumns.{galerkin_columns_lem}
use Rattle.operators.proofs.GalerkinLaws.{columned_bounds}
use Rattle.numbers.proofs.LoopLaws.{start_zero}
use Rattle.numbers.proofs.StoredLaws.{start_room, start_at, last_before, stored_before, row_before}
use Rattle.numbers.proofs.StartLaws.{start_most}
use Rattle.lattice.proofs.ThreeLaws.{three_x, three_y, three_z}
use Rattle.operators.proofs.GalerkinPattern.{grid_first, row_spans, galerkin_low, galerkin_in_lem}
use Rattle.operators.proofs.LevelTables.{right_next}
use Rattle.operators.proofs.SecondCondition.{galerkin_local, met_all}

-- ---- a level's grid, from its lines

module _ (l : FullLattice) (L : ℕ) {s : Three} {g : Grid3d} (lines : s ≡ three_at l L) (cells : g ≡ grid_with l.grid s.x.cells s.y.cells s.z.cells) where
  pub level_grid : g ≡ grid_at l L
  unfolding grid_at
  level_grid =
      cells
      ∙ (ap (λ (s : Three). grid_with l.grid s.x.cells s.y.cells s.z.cells) lines
      ∙ (λ i. grid_with l.grid (three_x l L i) (three_y l L i) (three_z l L i)))

  pub level_limits : Limits l.grid → Limits g
  level_limits limits = rw level_grid (grid_limits l limits L)

  pub level_edges : {m : ℕ} → m ≡ unknowns_of g → m ≡ edges_on l L
  level_edges e = e ∙ ap unknowns_of level_grid

-- the lattice's own edges are those of level 0
pub first_edges : (l : FullLattice) → unknowns_of l.grid ≡ edges_on l 0
first_edges l = ap unknowns_of (sym (grid_first l))

-- the relations that are composed from level L's are those of the next level
pub right_below : (l : FullLattice) (L : ℕ) {fine coarse : Three} {t u : List ℕ} → Limits l.grid → fine ≡ three_at l L → coarse ≡ three_at l (suc L)
    → Right (ladder_of l) L t → Below (two_of l fine coarse) t u → Right (ladder_of l) (suc L) u
right_below l L {fine} {coarse} {t} {u} limits e d right down =
    let p : two_of l fine coarse ≡ two_at l L = (λ i. two_of l (e i) (d i)) ∙ two_at_lem l limits L in
    right_next l limits L t u right (rw p at down)

-- ---- a level's rows

-- an edge touches itself
own_row : (M : Ladder) (L a : ℕ) (p : Spot) → Row M L a a p p
unfolding Row
own_row M zero a p = inl refl
own_row M (suc L) a p = inl refl

-- a row that rises has no more columns than lie in its span
span_most : (b e : ℕ) (l : List ℕ) → Span b e l → length l + b ≤ e
span_most b e [] s = omega arith
span_most b e (v ∷ l) s = omega (arith, s.0, span_most (suc v) e l s.1)

module _ (l : FullLattice) (limits : Limits l.grid) (f : ℕ → C64) (L : ℕ) where
  -- each has its own column
  own_column : (r : ℕ) → r < edges_on l L → contains r (columns_of (galerkin_at l f L r)) ≡ true
  own_column r h =
      let g = grid_at l L in
      let p : Position = at_of g r in
      let k : Inside g p = at_inside (grid_limits l limits L) r h in
      let e : index_of g p ≡ r = index_at (grid_limits l limits L) r h in
      rw e at ((galerkin_in_lem l limits f L p p k k).1 (own_row (ladder_of l) L p.component (spot_of p)))

  edges_most : edges_on l L ≤ 12288
  edges_most = unknowns_most (grid_limits l limits L)

  -- at most as many columns as the level has edges
  pub columns_most : (r : ℕ) → r < edges_on l L → length (columns_of (galerkin_at l f L r)) ≤ 12288
  columns_most r h =
      omega (arith, span_most 0 (edges_on l L) (columns_of (galerkin_at l f L r)) (row_spans l limits f L r h), edges_most)

  column_low : (r q : ℕ) → r < edges_on l L → q < length (columns_of (galerkin_at l f L r)) → get_or (columns_of (galerkin_at l f L r)) q 0 < 12288
  column_low r q h b =
      omega (arith, galerkin_low l limits f L r h (get_or (columns_of (galerkin_at l f L r)) q 0) (in_at (columns_of (galerkin_at l f L r)) q b), edges_most)

-- ---- the rows that the next level's are worked out from

-- of the operator of level L, and of the transfer from level L + 1 to it
pub record Sources (l : FullLattice) (f : ℕ → C64) (L : ℕ) (A P R : ℕ → List Term) : Type 0 where
  pub fine_are : (r : ℕ) → r < edges_on l L → A r ≡ galerkin_at l f L r
  pub forward_are : (r : ℕ) → r < edges_on l L → P r ≡ forward_at l f L r
  pub turned_are : (c : ℕ) → c < edges_on l (suc L) → R c ≡ turned_at l f L c

module _ {l : FullLattice} (limits : Limits l.grid) {f : ℕ → C64} {L : ℕ} {A P R : ℕ → List Term} (u : Sources l f L A P R) where
  -- turned row c reads rows of the level
  read_low : (c r : ℕ) → c < edges_on l (suc L) → In r (columns_of (R c)) → r < edges_on l L
  read_low c r h i = ((turned_named l limits f L c r).0 (subst (λ (ts : List Term). In r (columns_of ts)) (u.turned_are c h) i)).0

  -- and the columns of those are rows of the level
  lead_low : (r s : ℕ) → r < edges_on l L → In s (columns_of (A r)) → s < edges_on l L
  lead_low r s h i = galerkin_low l limits f L r h s (subst (λ (ts : List Term). In s (columns_of ts)) (u.fine_are r h) i)

  -- so a row of theirs is the next level's
  pub row_is : (c : ℕ) → c < edges_on l (suc L) → galerkin_row A P R c ≡ galerkin_at l f (suc L) c
  unfolding galerkin_at fine_rows_read forward_rows_read columns_at
  row_is c h =
      galerkin_local A (galerkin_at l f L) P (forward_at l f L) R (turned_at l f L) c (u.turned_are c h)
      (λ r i. u.fine_are r (read_low c r h i))
      (λ s i. let w = each_in (columns_at A) (columns_of (R c)) s i in u.forward_are s (lead_low w.by s (read_low c w.by h w.there) w.gives))

  -- a turned row that is not empty touches its own column
  pub sources_met : MetAll A P R (edges_on l (suc L))
  unfolding turned_at
  sources_met = met_all {n = edges_on l L} own turn
    where
      own : (r : ℕ) → r < edges_on l L → contains r (columns_of (A r)) ≡ true
      own r h = rw (u.fine_are r h) (own_column l limits f L r h)

      turn : (c : ℕ) → c < edges_on l (suc L) → R c ≡ turned_row P (edges_on l L) c
      turn c h =
          u.turned_are c h
          ∙ (ap (λ (g : Grid3d). turned_row (forward_at l f L) (unknowns_of g) c) (sym (grid_fine l L))
          ∙ sym (turned_local P (forward_at l f L) (edges_on l L) c u.forward_are))

-- ---- starts and columns in lists

-- those of level L's operator have been laid into two lists
pub record Placed (l : FullLattice) (f : ℕ → C64) (L : ℕ) (o : Part) (ss cs ss' cs' : List ℕ) : Type 0 where
  pub starts_are : ss' ≡ laid ss o.s (starts_of (galerkin_at l f L) (edges_on l L))
  pub columns_are : cs' ≡ laid cs o.k (columns_of (rows (galerkin_at l f L) (edges_on l L)))

-- the relations of the level pick them
pub placed_by : (l : FullLattice) (L : ℕ) (t : List ℕ) (f : ℕ → C64) (o : Part) {g : Grid3d} {ss cs ss' cs' : List ℕ} {r : ℕ}
    → Limits l.grid
    → Right (ladder_of l) L t
    → g ≡ grid_at l L
    → ss' ≡ laid ss o.s (starts_of (pattern_row l g t) (unknowns_of g))
    → Laid set cs o.k (rows (pattern_row l g t) (unknowns_of g)) cs' r
    → Placed l f L o ss cs ss' cs'
placed_by l L t f o {g} {ss} {cs} limits right e p q =
    record {
      starts_are = p ∙ ap (laid ss o.s) (ap (λ (h : Grid3d). starts_of (pattern_row l h t) (unknowns_of h)) e ∙ starts_agree row gal m begins);
      columns_are = q.list
          ∙ ap (laid cs o.k)
          (ap (λ (h : Grid3d). rows (pattern_row l h t) (unknowns_of h)) e ∙ (rows_agree row (through columns_of gal) m same ∙ sym (columns_rows gal m)));
    }
  where
    m : ℕ
    m = edges_on l L

    gal : ℕ → List Term
    gal = galerkin_at l f L

    row : ℕ → List ℕ
    row = pattern_row l (grid_at l L) t

    same : (c : ℕ) → c < m → row c ≡ columns_of (gal c)
    same c h = sym (galerkin_columns_lem l limits f L t right c h)

    begins : (c : ℕ) → c < m + 1 → start_of row c ≡ start_of gal c
    begins c h = start_agree row (through columns_of gal) m same c h ∙ start_columns gal c

module _ {l : FullLattice} (limits : Limits l.grid) {f : ℕ → C64} {L : ℕ} {o : Part} {ss cs ss' cs' : List ℕ} {xs : List Float} (w : Placed l f L o ss cs ss' cs')
    (room : Room ss o.s cs xs o.k (start_of (galerkin_at l f L) (edges_on l L)) (edges_on l L)) where
  abbrev gal : ℕ → List Term
  gal = galerkin_at l f L

  starts_same : length ss' ≡ length ss
  starts_same = ap length w.starts_are ∙ laid_length ss o.s (starts_of gal (edges_on l L))

  columns_same : length cs' ≡ length cs
  columns_same = ap length w.columns_are ∙ laid_length cs o.k (columns_of (rows gal (edges_on l L)))

  place_is : (c q : ℕ) → c < edges_on l L → q < length (columns_of (gal c)) → get_or cs' (o.k + start_of (through columns_of gal) c + q) 0 ≡ get_or (columns_of (gal c)) q 0
  place_is c q h i =
      let m = edges_on l L in
      let row : ℕ → List ℕ = through columns_of gal in
      let j : o.k + start_of row c + q ≡ o.k + (start_of row c + q) = omega arith in
      let e : cs' ≡ laid cs o.k (rows row m) = w.columns_are ∙ ap (laid cs o.k) (columns_rows gal m) in
      let b : start_of row c + q < length (rows row m) = omega (arith, start_room row m c h, start_of_is row m) in
      let r : o.k + length (rows row m) ≤ length cs = omega (arith, room.columns_room, start_columns gal m, start_of_is row m) in
      rw (j, e, laid_at cs o.k (rows row m) (start_of row c + q) b r) (start_at row m c q 0 h i)

  pub placed_columned : Columned (through columns_of gal) (edges_on l L) o ss' cs'
  placed_columned =
      let m = edges_on l L in
      let few : start_of (through columns_of gal) m ≤ 12288 * m = start_most (through columns_of gal) 12288 m (columns_most l limits f L) in
      record {
        starts_room = omega (arith, starts_same, room.starts_room);
        starts_are = λ c h. starts_laid_lem gal m ss o.s w.starts_are room.starts_room c h ∙ sym (start_columns gal c);
        columns_room = omega (arith, columns_same, room.columns_room, start_columns gal m);
        columns_are = place_is;
        columns_low = λ c q h i. column_low l limits f L c q h i;
        starts_low = room.starts_low;
        low = room.low;
        all_few = omega (arith, edges_most l limits f L);
      }

  pub last_room : 2 * (o.k + get_or ss' (o.s + edges_on l L) 0) ≤ length xs
  last_room = omega (arith, starts_laid_lem gal (edges_on l L) ss o.s w.starts_are room.starts_room (edges_on l L) (omega arith), room.numbers_room)

-- ---- an operator that stands before them in the same lists

module _ {l : FullLattice} {f : ℕ → C64} {L : ℕ} {q o : Part} {ss cs ss' cs' : List ℕ} {xs : List Float} (u : OperatorBefore l f L q o ss cs xs)
    (w : Placed l f (suc L) o ss cs ss' cs') where
  abbrev vs : List ℕ
  vs = starts_of (galerkin_at l f (suc L)) (edges_on l (suc L))

  abbrev ws : List ℕ
  ws = columns_of (rows (galerkin_at l f (suc L)) (edges_on l (suc L)))

  same_last : get_or ss' (q.s + edges_on l L) 0 ≡ get_or ss (q.s + edges_on l L) 0
  same_last = ap (λ (zs : List ℕ). get_or zs (q.s + edges_on l L) 0) w.starts_are ∙ last_before u.there.stored o.s o.k vs ws u.starts_end u.terms_end

  -- it still stands there
  pub operator_before : OperatorBefore l f L q o ss' cs' xs
  operator_before =
      record {
        there = record {
          stored = rw (w.starts_are, w.columns_are) (stored_before u.there.stored o.s o.k vs ws u.starts_end u.terms_end);
          rows_are = λ r b.
              rw (w.starts_are, w.columns_are) (row_before u.there.stored o.s o.k vs ws u.starts_end u.terms_end r b ∙ u.there.rows_are r b);
          count_is = same_last ∙ u.there.count_is;
        };
        starts_end = u.starts_end;
        terms_end = omega (arith, same_last, u.terms_end);
      }

-- ---- the next level's numbers

module _ {l : FullLattice} (limits : Limits l.grid) {f : ℕ → C64} {L : ℕ} {A P R : ℕ → List Term} (u : Sources l f L A P R) {m : ℕ} (e : m ≡ edges_on l (suc L)) where
  pub numbers_same : rows (galerkin_numbers A P R) m ≡ numbers_of (rows (galerkin_at l f (suc L)) (edges_on l (suc L)))
  unfolding galerkin_numbers
  numbers_same =
      let gal = galerkin_at l f (suc L) in
      rw e (rows_agree (galerkin_numbers A P R) (through numbers_of gal) (edges_on l (suc L)) (λ c h. ap numbers_of (row_is limits u c h)) ∙ sym (numbers_rows gal (edges_on l (suc L))))

-- ---- what has been laid stands in the lists, and the level after is worked out from it

module _ (l : FullLattice) (limits : Limits l.grid) (f : ℕ → C64) (L : ℕ) (o : Part) {ss cs ss' cs' : List ℕ} {xs xs' : List Float}
    (u : LaidRows (galerkin_at l f L) (edges_on l L) ss o.s cs xs o.k ss' cs' xs')
    (room : Room ss o.s cs xs o.k (start_of (galerkin_at l f L) (edges_on l L)) (edges_on l L)) where
  laid_placed : Placed l f L o ss cs ss' cs'
  laid_placed = record { starts_are = u.starts_are; columns_are = u.columns_are }

  laid_low : (q : ℕ) → q < start_of (galerkin_at l f L) (edges_on l L) → get_or cs' (o.k + q) 0 < edges_on l L
  laid_low q h =
      let vs = columns_of (rows (galerkin_at l f L) (edges_on l L)) in
      let n : length vs ≡ start_of (galerkin_at l f L) (edges_on l L) =
      length_columns (rows (galerkin_at l f L) (edges_on l L)) ∙ sym (start_of_is (galerkin_at l f L) (edges_on l L)) in
      let w = rows_in_lem (galerkin_at l f L) (edges_on l L) (get_or vs q 0) (in_at vs q (omega arith)) in
      rw (u.columns_are, laid_at cs o.k vs q (omega arith) (omega (arith, room.columns_room))) (galerkin_low l limits f L w.0 w.1 (get_or vs q 0) w.2)

  pub operator_in_lem : OperatorIn l f L o ss' cs' xs'
  operator_in_lem =
      let gal = galerkin_at l f L in
      let m = edges_on l L in
      let w : Columned (through columns_of gal) m o ss' cs' = placed_columned limits laid_placed room in
      let few : m ≤ 12288 = edges_most l limits f L in
      let last : get_or ss' (o.s + m) 0 ≡ start_of gal m = w.starts_are m (omega arith) ∙ start_columns gal m in
      let none : o.s + 0 ≡ o.s = omega arith in
      let first : get_or ss' (o.s + 0) 0 ≡ 0 = w.starts_are 0 (omega arith) ∙ start_zero (through columns_of gal) in
      record {
        stored = record {
          first = rw none at first;
          rise = λ r h. (columned_bounds w h (omega arith)).rise;
          starts_room = w.starts_room;
          columns_room = omega (arith, w.columns_room, start_columns gal m);
          numbers_room = omega (arith, room.numbers_room, ap length u.numbers_are, laid_numbers_length xs o.k (numbers_of (rows gal m)));
          columns_low = λ q h. laid_low q (omega (arith, last));
          rows_few = few;
          columns_few = few;
          all_few = omega (arith, w.all_few, start_columns gal m);
          starts_low = w.starts_low;
          low = w.low;
        };
        rows_are = stored_is u room.starts_room room.columns_room room.numbers_room;
        count_is = last;
      }

-- ---- the rediscretized operator

module _ (l : FullLattice) (limits : Limits l.grid) where
  -- the lattice of a level has the level's cells
  pub lattice_limits : (L : ℕ) → Limits (lattice_at l L).grid
  unfolding lattice_at rediscretized_lattice rediscretized_grid line_on cells_on grid_at
  lattice_limits zero = limits
  lattice_limits (suc L) =
      let g : Limits (grid_at l (suc L)) = grid_limits l limits (suc L) in
      let k =
      rw (
        grid_with_is l.grid (cells_at l 0 (suc L)) (cells_at l 1 (suc L)) (cells_at l 2 (suc L)),
        cells_at_is l 0 (suc L),
        cells_at_is l 1 (suc L),
        cells_at_is l 2 (suc L),
      ) at g in
      record { x_some = k.x_some; x_most = k.x_most; y_some = k.y_some; y_most = k.y_most; z_some = k.z_some; z_most = k.z_most; total = k.total }
