-- What a transfer reads and names lies in its two levels; so what it leaves is told by any reader that has the fine level's permittivities.
-- Assumes nothing.
use Prim.Native.Nat.{ℕ, ◌+◌, ◌-◌, ◌<◌, ◌≤◌, ◌^◌}
use native.Mathlib.Omega.{arith}
use mathlib.Core.Path.{◌≡◌, sym, ap, subst, ◌∙◌}
use mathlib.Core.Bool.{◌&&◌}
use mathlib.Core.List.{List}
use lib.ListN.{length}
use lib.Ieee.{Float}
use Rattle.numbers.specs.declared.C64.{C64}
use Rattle.numbers.specs.Complex.{zero_number, no_number}
use Rattle.numbers.specs.Lists.{In, rows, laid_numbers, all_finite, start_of, read_from}
use Rattle.numbers.specs.Terms.{Term, columns_of, numbers_of, Stored, Room, LaidRows}
use Rattle.numbers.specs.Transpose.{turned_row}
use Rattle.numbers.proofs.Equations.{read_from_is}
use Rattle.numbers.proofs.ListLaws.{laid_numbers_before, laid_numbers_at, rows_agree}
use Rattle.numbers.proofs.MemberLaws.{all_in}
use Rattle.numbers.proofs.TabulateLaws.{length_tabulate, tabulate_at_0, tabulate_agree}
use Rattle.numbers.proofs.Tutorial.{numbers_rows, turned_local, turned_columns_lem}
use Rattle.lattice.specs.declared.grid.Position.{Position}
use Rattle.lattice.specs.declared.levels.Three.{Three}
use Rattle.lattice.specs.Grid.{n_of, place_on, at_of, Limits, Inside}
use Rattle.lattice.specs.Lattice.{FullLattice}
use Rattle.lattice.proofs.GridLaws.{place_inside, moved_inside, index_below, at_inside, unknowns_most}
use Rattle.weights.specs.CoarseEps.{on_fine, edge_along, edges_along, cell_edges, eps_reads, coarse_eps}
use Rattle.weights.specs.Prolongation.{weight_columns, weight_numbers, weight_reads, prolongation_row}
use Rattle.weights.specs.Tables.{Paired}
use Rattle.weights.specs.TwoLevels.{TwoLevels, fine_cells, coarse_cells, node_on, grid_with, fine_grid, coarse_grid, two_at, two_of}
use Rattle.weights.specs.Whole.{fine_edges, coarse_edges, weights_in, eps_of, all_weights, WholeRoom, WholeLeft, whole_finite}
use Rattle.numbers.specs.declared.terms.Part.{Part}
use Rattle.weights.proofs.PairLaws.{fine_limits, coarse_limits, nested_at, ended_at}
use Rattle.weights.proofs.ProductLaws.{terms_columns, starts_few}
use Rattle.weights.proofs.RowTheorems.{columns_free, row_local, eps_local}
use Rattle.weights.proofs.TwoLevelLaws.{fine_n, coarse_n}
use Rattle.weights.proofs.WholeLaws.{reads_inside, turned_as, forward, column_starts}
use Rattle.numbers.proofs.TransposedLaws.{in_tabulate, mem_in, turned_count_lem, laid_stored}

-- ---- two levels, each within the limits, the coarse line's nodes among the fine line's

pub record Nested (t : TwoLevels) : Type 0 where
  pub fine_limits : Limits (fine_grid t)
  pub coarse_limits : Limits (coarse_grid t)
  pub nested : (a m : ℕ) → m < coarse_cells t a → node_on t a m < fine_cells t a
  pub ended : (a m : ℕ) → m ≤ coarse_cells t a → node_on t a m ≤ fine_cells t a

-- such are two neighbouring levels of a lattice
pub nested_levels : (l : FullLattice) → Limits l.grid → (L : ℕ) → Nested (two_at l L)
nested_levels l limits L =
    record { fine_limits = fine_limits l limits L; coarse_limits = coarse_limits l limits L; nested = nested_at l limits L; ended = ended_at l limits L }

-- and two levels that the code of a transfer asks for
pub paired_nested : {l : FullLattice} {fine coarse : Three} → Paired l fine coarse → Nested (two_of l fine coarse)
paired_nested p = record { fine_limits = p.fine_limits; coarse_limits = p.coarse_limits; nested = p.nested; ended = p.ended }

module _ {t : TwoLevels} (u : Nested t) where
  -- ---- ranges

  -- the cell of a coarse edge lies on the fine level
  node_inside : (p : Position) → Inside (coarse_grid t) p → Inside (fine_grid t) (on_fine t p)
  unfolding on_fine fine_grid coarse_grid grid_with
  node_inside p h = record { c_in = h.c_in; i_in = u.nested 0 p.i h.i_in; j_in = u.nested 1 p.j h.j_in; k_in = u.nested 2 p.k h.k_in }

  -- and ends there
  pub cell_end : (p : Position) → Inside (coarse_grid t) p → node_on t p.component (place_on p p.component + 1) ≤ n_of (fine_grid t) p.component
  cell_end p h =
      let a = p.component in
      omega (arith, fine_n t a, u.ended a (place_on p a + 1) (omega (arith, place_inside h a, coarse_n t a)))

  -- the permittivity of a coarse edge reads those of fine edges
  pub eps_low : (r c : ℕ) → r < coarse_edges t → In c (eps_reads t r) → c < fine_edges t
  unfolding eps_reads cell_edges edges_along edge_along on_fine
  eps_low r c b i =
      let p = at_of (coarse_grid t) r in
      let h : Inside (coarse_grid t) p = at_inside u.coarse_limits r b in
      let a = p.component in
      let first = node_on t a (place_on p a) in
      let last = node_on t a (place_on p a + 1) in
      let w = in_tabulate (edge_along (fine_grid t) (on_fine t p)) (last - first) first c i in
      rw w.3 (index_below u.fine_limits (moved_inside (node_inside p h) a w.0 (omega (arith, w.1, w.2, cell_end p h))))

  -- a row reads permittivities of fine edges
  pub weight_low : (r c : ℕ) → r < fine_edges t → In c (weight_reads t r) → c < fine_edges t
  weight_low r c b i = all_in (reads_inside t u.fine_limits u.coarse_limits u.nested r b) c i

  -- and names coarse edges
  pub column_low : (r c : ℕ) → r < fine_edges t → In c (weight_columns t r) → c < coarse_edges t
  column_low r c b i = (all_in (columns_free t r u.coarse_limits (at_inside u.fine_limits r b).c_in) c i).low

  -- ---- readers that agree on the edges of the levels

  module _ (f f' : ℕ → C64) (same : (c : ℕ) → c < fine_edges t → f c ≡ f' c) where
    pub eps_agree : (r : ℕ) → r < coarse_edges t → coarse_eps t f r ≡ coarse_eps t f' r
    eps_agree r b = eps_local t f f' r (λ c i. same c (eps_low r c b (mem_in i)))

    pub row_agree : (r : ℕ) → r < fine_edges t → prolongation_row t f (coarse_eps t f) r ≡ prolongation_row t f' (coarse_eps t f') r
    row_agree r b =
        row_local t f f' (coarse_eps t f) (coarse_eps t f') r (λ c i. same c (weight_low r c b (mem_in i))) (λ c i. eps_agree c (column_low r c b (mem_in i)))

    all_eps : eps_of t f ≡ eps_of t f'
    all_eps = tabulate_agree (coarse_eps t f) (coarse_eps t f') (coarse_edges t) zero_number eps_agree

    all_rows : all_weights t f (coarse_eps t f) ≡ all_weights t f' (coarse_eps t f')
    unfolding weight_numbers
    all_rows = rows_agree (weight_numbers t f (coarse_eps t f)) (weight_numbers t f' (coarse_eps t f')) (fine_edges t) (λ r b. ap numbers_of (row_agree r b))

    -- whether all is finite
    pub finite_agree : whole_finite t f ≡ whole_finite t f'
    unfolding whole_finite
    finite_agree = λ i. all_finite (all_eps i) && all_finite (all_rows i)

-- whether all is finite, by the rows
pub finite_rows : (t : TwoLevels) (f : ℕ → C64)
    → whole_finite t f ≡ (all_finite (eps_of t f) && all_finite (numbers_of (rows (prolongation_row t f (coarse_eps t f)) (fine_edges t))))
unfolding whole_finite weight_numbers
finite_rows t f = ap (λ (vs : List C64). all_finite (eps_of t f) && all_finite vs) (sym (numbers_rows (prolongation_row t f (coarse_eps t f)) (fine_edges t)))

-- ---- what a transfer leaves in the lists, by a reader of the fine level's permittivities

pub record WholeBy (t : TwoLevels) (f : ℕ → C64) (feps ceps : ℕ) (p q : Part) (eps : List Float) (ss cs : List ℕ) (xs : List Float) (ts us : List ℕ) (ys : List Float)
    (eps' : List Float) (ss' cs' : List ℕ) (xs' : List Float) (ts' us' : List ℕ) (ys' : List Float) : Type 0 where
  pub eps_are : eps' ≡ laid_numbers eps ceps (eps_of t f)
  pub forward_are : LaidRows (prolongation_row t f (coarse_eps t f)) (fine_edges t) ss p.s cs xs p.k ss' cs' xs'
  pub turned_are : LaidRows (turned_row (prolongation_row t f (coarse_eps t f)) (fine_edges t)) (coarse_edges t) ts q.s us ys q.k ts' us' ys'

module _ {t : TwoLevels} (u : Nested t) {feps ceps : ℕ} {p q : Part} {eps : List Float} {ss cs : List ℕ} {xs : List Float} {ts us : List ℕ} {ys : List Float} where
  -- any reader that has them
  pub whole_by : (f : ℕ → C64) {eps' : List Float} {ss' cs' : List ℕ} {xs' : List Float} {ts' us' : List ℕ} {ys' : List Float}
      → WholeLeft t feps ceps p q eps ss cs xs ts us ys eps' ss' cs' xs' ts' us' ys' → ((c : ℕ) → c < fine_edges t → read_from eps feps c ≡ f c)
      → WholeBy t f feps ceps p q eps ss cs xs ts us ys eps' ss' cs' xs' ts' us' ys'
  whole_by f w same =
      let g = read_from eps feps in
      let row = prolongation_row t g (coarse_eps t g) in
      let row' = prolongation_row t f (coarse_eps t f) in
      let agree : (r : ℕ) → r < fine_edges t → row r ≡ row' r = row_agree u g f same in
      record {
        eps_are = w.eps_are ∙ ap (laid_numbers eps ceps) (all_eps u g f same);
        forward_are = turned_as row row' (fine_edges t) agree (forward t g (coarse_eps t g) w.starts_are w.columns_are w.values_are);
        turned_are = turned_as (turned_row row (fine_edges t)) (turned_row row' (fine_edges t)) (coarse_edges t)
            (λ c b. turned_local row row' (fine_edges t) c agree) w.turned_are;
      }

  module _ (room : WholeRoom t feps ceps p q eps ss cs xs ts us ys) where
    -- the next transfer finds its permittivities, and those before are still there
    module _ (f : ℕ → C64) {eps' : List Float} (e : eps' ≡ laid_numbers eps ceps (eps_of t f)) where
      pub eps_next : (c : ℕ) → c < coarse_edges t → read_from eps' ceps c ≡ coarse_eps t f c
      eps_next c b =
          let n : length (eps_of t f) ≡ coarse_edges t = length_tabulate (coarse_eps t f) (coarse_edges t) 0 in
          read_from_is eps' ceps c
          ∙ rw (e, laid_numbers_at eps ceps (eps_of t f) c no_number (omega arith) (omega (arith, room.eps_room)))
          (tabulate_at_0 (coarse_eps t f) (coarse_edges t) c no_number b)

      pub eps_kept : (c : ℕ) → c < fine_edges t → read_from eps' feps c ≡ read_from eps feps c
      eps_kept c b =
          read_from_is eps' feps c
          ∙ rw (e, laid_numbers_before eps ceps (eps_of t f) (feps + c) (omega (arith, room.apart))) (sym (read_from_is eps feps c))

    -- the rows have room
    module _ (f g : ℕ → C64) where
      abbrev row : ℕ → List Term
      row = prolongation_row t f g

      row_low : (r c : ℕ) → r < fine_edges t → In c (columns_of (row r)) → c < coarse_edges t
      row_low r c b i = column_low u r c b (subst (In c) (terms_columns t f g r) i)

      row_count : start_of row (fine_edges t) ≡ weights_in t
      row_count = sym (column_starts t f g (fine_edges t))

      pub forward_room : Room ss p.s cs xs p.k (start_of row (fine_edges t)) (fine_edges t)
      forward_room =
          record {
            starts_room = room.starts_room;
            columns_room = omega (arith, row_count, room.columns_room);
            numbers_room = omega (arith, row_count, room.values_room);
            starts_low = room.s_low;
            low = room.k_low;
          }

      turned_many : start_of (turned_row row (fine_edges t)) (coarse_edges t) ≡ weights_in t
      turned_many = turned_count_lem row (fine_edges t) (coarse_edges t) row_low ∙ row_count

      pub turned_room_lem : Room ts q.s us ys q.k (start_of (turned_row row (fine_edges t)) (coarse_edges t)) (coarse_edges t)
      turned_room_lem =
          record {
            starts_room = room.tstarts_room;
            columns_room = omega (arith, turned_many, room.tcolumns_room);
            numbers_room = omega (arith, turned_many, room.tvalues_room);
            starts_low = room.ts_low;
            low = room.tk_low;
          }

      row_few : weights_in t ≤ 2 ^ 32
      row_few = omega (arith, starts_few t (fine_edges t), unknowns_most u.fine_limits)

      -- and stand in the lists
      pub forward_stored : {ss' cs' : List ℕ} {xs' : List Float} → LaidRows row (fine_edges t) ss p.s cs xs p.k ss' cs' xs'
          → Stored ss' p.s cs' xs' p.k (fine_edges t) (coarse_edges t)
      forward_stored w =
          laid_stored w forward_room (coarse_edges t) row_low (unknowns_most u.fine_limits) (unknowns_most u.coarse_limits) (omega (arith, row_count, row_few))

      pub turned_stored : {ts' us' : List ℕ} {ys' : List Float} → LaidRows (turned_row row (fine_edges t)) (coarse_edges t) ts q.s us ys q.k ts' us' ys'
          → Stored ts' q.s us' ys' q.k (coarse_edges t) (fine_edges t)
      turned_stored w =
          laid_stored w turned_room_lem (fine_edges t) (λ c r b i. ((turned_columns_lem row (fine_edges t) c r).0 i).0) (unknowns_most u.coarse_limits) (unknowns_most u.fine_limits)
          (omega (arith, turned_many, row_few))
