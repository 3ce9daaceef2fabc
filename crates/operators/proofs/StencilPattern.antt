-- The columns of an operator row from the lattice are the pattern of level 0.
-- Assumes nothing.
use Prim.Native.Nat.{ℕ, zero, suc, ◌*◌, ◌<◌, ◌≤◌}
use mathlib.Core.Path.{◌≡◌, refl, sym, ◌∙◌}
use mathlib.Core.Logic.{inl, inr, ⊎_elim, ◌↔◌}
use mathlib.Core.Bool.{Bool, true, false, ◌||◌, cond, false≢true, or-true}
use mathlib.Core.List.{List, [], ◌∷◌}
use native.Mathlib.Omega.{arith}
use borrow.Author.Tests.{lt-ltb}
use lib.ListN.{get_or}
use lib.Ieee as Ieee
use Rattle.numbers.specs.declared.C64.{C64}
use Rattle.numbers.specs.Complex.{zero_f}
use Rattle.numbers.specs.Lists.{In, contains}
use Rattle.numbers.specs.Terms.{columns_of}
use Rattle.numbers.specs.Collect.{collected, at_first}
use Rattle.numbers.proofs.Equations.{columns_of_nil, collected_nil, collected_cons, inserted_nil}
use Rattle.numbers.proofs.CollectLaws.{none, collected_from}
use Rattle.lattice.specs.declared.grid.Position.{Position}
use Rattle.lattice.specs.Grid.{n_of, unknowns_of, index_of, at_of, Limits, Inside}
use Rattle.lattice.specs.Lattice.{FullLattice}
use Rattle.lattice.specs.Neighbours.{fixed_at, is_fixed}
use Rattle.lattice.specs.Rows.{row_into}
use Rattle.lattice.proofs.GridLaws.{at_inside, index_at}
use Rattle.lattice.proofs.Equations.{n_of_0, n_of_1, n_of_2, cells_of_is, index_of_is, is_fixed_is}
use Rattle.operators.specs.Stencil.{shift_number, shift_terms, stencil_row}
use Rattle.operators.specs.Pattern.{Role, Name, name_at, Ladder, rel, Pattern, Row, Sound}
use Rattle.operators.specs.Base.{live_at}
use Rattle.operators.specs.Columns.{number, row}
use Rattle.operators.specs.Numbered.{picks_of, row_columns, Right}
use Rattle.operators.specs.Levels.{is_bloch, ladder_of, spot_of, pattern_row, Base}
use Rattle.numbers.proofs.LoopLaws.{columns_one}
use Rattle.numbers.proofs.GatheredLaws.{collected_in, in_collected, gathered_in, in_gathered, from_span}
use Rattle.lattice.proofs.ColumnLaws.{row_own, row_fixed, finest_cells}
use Rattle.operators.proofs.Level0.{level0}
use Rattle.operators.proofs.Sound.{dropped, ladder, base_same, base_near, base_live}
use Rattle.operators.proofs.ColumnWhole.{Column, row_only}
use Rattle.operators.proofs.TableLevels.{right_picked}
use Rattle.operators.proofs.BaseLaws.{based_right}
use Rattle.operators.proofs.NeighbourSpots.{low3}
use Rattle.operators.proofs.ListedPlaces.{Lists, lists_contain}
use Rattle.operators.proofs.StencilRow.{Touched, within, placed, placed_inside, fixed_free, row_lists}

-- ---- the collected row has the same columns

module _ (l : FullLattice) (limits : Limits l.grid) (p : Position) (inside : Inside l.grid p) (f : ℕ → C64) where
  abbrev own : ℕ
  own = index_of l.grid p

  -- the shift is on the diagonal, which is there already
  shift_in : (c : ℕ) → In c (columns_of (shift_terms l f own)) → In c (columns_of (row_into l f own))
  unfolding shift_terms
  shift_in c = go (Ieee.eq l.shift zero_f || is_fixed l own)
    where
      go : (b : Bool) → In c (columns_of (cond b [] (record { column = own; number = shift_number l f own } ∷ []))) → In c (columns_of (row_into l f own))
      go true i = absurd (rw columns_of_nil at i)
      go false i = ⊎_elim (λ e. rw e (row_own l f own)) (λ e. absurd e) (rw columns_one at i)

  pub stencil_lists : Lists l (Touched l p) (stencil_row l f own)
  unfolding stencil_row
  stencil_lists =
      let u = row_lists l limits p inside f in
      let bare = collected at_first [] (row_into l f own) in
      record {
        there = λ c i. u.there c (⊎_elim (gathered_in at_first (row_into l f own) c) (shift_in c) (collected_in at_first bare (shift_terms l f own) c i));
        back = λ q a h.
            let c = index_of l.grid q in
            in_collected at_first bare (shift_terms l f own) c (inl (in_gathered at_first (row_into l f own) c (u.back q a h)));
      }

-- ---- the relations of level 0

-- the levels' cells, and no weights
abbrev bare : FullLattice → Ladder
bare l = ladder (λ L d. n_of l.grid d) (is_bloch l) (λ L d r k i. false)

module _ (l : FullLattice) (p q : Position) (inside : Inside l.grid p) (there : Inside l.grid q) where
  pub touched_bare : Touched l p q ↔ Row (bare l) 0 p.component q.component (spot_of p) (spot_of q)
  unfolding Row
  touched_bare =
      level0 (λ L d. n_of l.grid d) (is_bloch l) (λ L d r k i. false) p.component q.component (spot_of p) (spot_of q)
      inside.c_in there.c_in (within l p inside) (within l q there)

  base_is : (d : ℕ) (w : Name) (i j : ℕ) → i < n_of l.grid d → (ladder_of l).base d w i j ≡ (bare l).base d w i j
  base_is d w i j h = rw (finest_cells l d, lt-ltb i (n_of l.grid d) h)

  pattern_is : Pattern (bare l) 0 p.component q.component (spot_of p) (spot_of q) ↔ Pattern (ladder_of l) 0 p.component q.component (spot_of p) (spot_of q)
  unfolding rel
  pattern_is =
      let a = p.component in
      let b = q.component in
      let v = within l p inside in (
        (λ u.
            let w = u.term.0 in
            record {
              term = u.term;
              held = record {
                x = base_is 0 (name_at a b w 0) p.i q.i v.x ∙ u.held.x;
                y = base_is 1 (name_at a b w 1) p.j q.j v.y ∙ u.held.y;
                z = base_is 2 (name_at a b w 2) p.k q.k v.z ∙ u.held.z;
              };
            }),
        (λ u.
            let w = u.term.0 in
            record {
              term = u.term;
              held = record {
                x = sym (base_is 0 (name_at a b w 0) p.i q.i v.x) ∙ u.held.x;
                y = sym (base_is 1 (name_at a b w 1) p.j q.j v.y) ∙ u.held.y;
                z = sym (base_is 2 (name_at a b w 2) p.k q.k v.z) ∙ u.held.z;
              };
            }),
      )

  pub touched_row : Touched l p q ↔ Row (ladder_of l) 0 p.component q.component (spot_of p) (spot_of q)
  unfolding Row
  touched_row = (
    (λ t. ⊎_elim (λ e. inl e) (λ u. inr (pattern_is.0 u)) (touched_bare.0 t)),
    (λ t. touched_bare.1 (⊎_elim (λ e. inl e) (λ u. inr (pattern_is.1 u)) t)),
  )

-- the row's columns are those of the levels' own definition, at level 0
pub stencil_in : (l : FullLattice) (p q : Position) (f : ℕ → C64) → Limits l.grid → Inside l.grid p → Inside l.grid q
    → (contains (index_of l.grid q) (columns_of (stencil_row l f (index_of l.grid p))) ≡ true)
    ↔ Row (ladder_of l) 0 p.component q.component (spot_of p) (spot_of q)
stencil_in l p q f h a b =
    let u = lists_contain l (Touched l p) (stencil_row l f (index_of l.grid p)) q h b (stencil_lists l h p a f) in
    let v = touched_row l p q a b in
    ((λ e. v.0 (u.0 e)), (λ t. u.1 (v.1 t)))

-- ---- the list

-- with no weights, no place of a further level is live
abbrev bare_live : (ℕ → Bool) → ℕ → ℕ → Role → ℕ → Bool
bare_live bloch zero d r i = live_at (bloch d) r i
bare_live bloch (suc L) d r i = false

bare_none : (l : FullLattice) (L d : ℕ) (r : Role) (k i : ℕ) → (bare l).forward L d r k i ≡ true → ⊥
unfolding dropped
bare_none l L d r k i h = false≢true h

abbrev bare_sound : (l : FullLattice) → Sound (bare l)
bare_sound l =
    record {
      live = bare_live (is_bloch l);
      starts = λ L d r k i h. absurd (bare_none l L d r k i h);
      ends = λ L d r k i h. absurd (bare_none l L d r k i h);
      reached = λ L d r i h. absurd (false≢true h);
      same_self = λ d. base_same (n_of l.grid d) (is_bloch l d);
      near_self = λ d. base_near (n_of l.grid d) (is_bloch l d);
      only_live = λ d. base_live (n_of l.grid d) (is_bloch l d);
    }

bare_right : (l : FullLattice) → Limits l.grid → (t : List ℕ) → Base l l.grid t → Right (bare l) 0 t
bare_right l limits t h =
    based_right (λ L d. n_of l.grid d) (is_bloch l) (λ L d r k i. false)
    (l.grid.nx ∷ (l.grid.ny ∷ (l.grid.nz ∷ []))) (is_bloch l 0 ∷ (is_bloch l 1 ∷ (is_bloch l 2 ∷ []))) t
    (low3 (λ d. get_or (l.grid.nx ∷ (l.grid.ny ∷ (l.grid.nz ∷ []))) d 0 ≡ n_of l.grid d) (sym (n_of_0 l.grid)) (sym (n_of_1 l.grid)) (sym (n_of_2 l.grid)))
    (low3 (λ d. get_or (is_bloch l 0 ∷ (is_bloch l 1 ∷ (is_bloch l 2 ∷ []))) d false ≡ is_bloch l d) refl refl refl)
    (low3 (λ d. get_or (l.grid.nx ∷ (l.grid.ny ∷ (l.grid.nz ∷ []))) d 0 ≤ 64) limits.x_most limits.y_most limits.z_most)
    h

-- the number of an edge, both ways of writing it
index_number : (l : FullLattice) (q : Position)
    → index_of l.grid q ≡ number (n_of l.grid 0) (n_of l.grid 1) (q.component * (n_of l.grid 0 * n_of l.grid 1 * n_of l.grid 2)) q.k q.j q.i
unfolding number
index_number l q = rw (index_of_is l.grid q, cells_of_is l.grid, n_of_0 l.grid, n_of_1 l.grid, n_of_2 l.grid) (omega arith)

module _ (l : FullLattice) (limits : Limits l.grid) (p : Position) (inside : Inside l.grid p) (f : ℕ → C64) where
  -- the columns that are touched are those of the list
  columns_are : (c : ℕ) → In c (columns_of (stencil_row l f (index_of l.grid p))) ↔ Column (bare l) 0 p.component (spot_of p) c
  columns_are c = (
    (λ i.
        let t = (stencil_lists l limits p inside f).there c i in
        record {
          comp = t.at.component;
          few = t.inside.c_in;
          at = spot_of t.at;
          inside = within l t.at t.inside;
          is = sym t.is ∙ index_number l t.at;
          held = (touched_bare l p t.at inside t.inside).0 t.held;
        }),
    (λ t.
        let q = placed t.comp t.at in
        let a = placed_inside l t.comp t.at t.few t.inside in
        rw (t.is, ← index_number l q) ((stencil_lists l limits p inside f).back q a ((touched_bare l p q inside a).1 t.held))),
  )

  free_columns_lem : (t : List ℕ) → Base l l.grid t → fixed_at l p ≡ false
      → columns_of (stencil_row l f (index_of l.grid p)) ≡ row_columns t l.grid false (index_of l.grid p) p
  unfolding row_columns stencil_row
  free_columns_lem t base h =
      let M = bare l in
      let a = p.component in
      let s = spot_of p in
      let free = fixed_free l p h in
      let right = bare_right l limits t base in
      let span = from_span (collected_from at_first (shift_terms l f (index_of l.grid p)) (collected_from at_first (row_into l f (index_of l.grid p)) none)) in
      let x = picks_of t a 0 p.i p.j p.k in
      let y = picks_of t a 1 p.i p.j p.k in
      let z = picks_of t a 2 p.i p.j p.k in
      row_only M (bare_sound l) 0 a s (record { x = free.x; y = free.y; z = free.z }) x y z
      (right_picked M 0 t a 0 s right (within l p inside)) (right_picked M 0 t a 1 s right (within l p inside)) (right_picked M 0 t a 2 s right (within l p inside))
      0 span.0 (columns_of (stencil_row l f (index_of l.grid p))) span.1 columns_are
      ∙ (λ i. row x y z (n_of_0 l.grid i) (n_of_1 l.grid i) (n_of_2 l.grid i))

-- a row that is held fixed has its diagonal alone
fixed_columns : (l : FullLattice) (f : ℕ → C64) (r : ℕ) → is_fixed l r ≡ true → columns_of (stencil_row l f r) ≡ r ∷ []
unfolding stencil_row shift_terms
fixed_columns l f r h = rw (row_fixed l f r h, h, or-true (Ieee.eq l.shift zero_f), collected_nil, collected_cons, inserted_nil, collected_nil) (columns_one _)

pub stencil_columns : (l : FullLattice) → Limits l.grid → (f : ℕ → C64) (t : List ℕ) → Base l l.grid t → (r : ℕ) → r < unknowns_of l.grid
    → columns_of (stencil_row l f r) ≡ pattern_row l l.grid t r
unfolding pattern_row
stencil_columns l limits f t base r h = go (fixed_at l (at_of l.grid r)) refl
  where
    p : Position
    p = at_of l.grid r

    a : Inside l.grid p
    a = at_inside limits r h

    go : (b : Bool) → fixed_at l p ≡ b → columns_of (stencil_row l f r) ≡ row_columns t l.grid b r p
    go true e = unfold row_columns in fixed_columns l f r (is_fixed_is l r ∙ e)
    go false e =
        let i : index_of l.grid p ≡ r = index_at limits r h in
        rw i at (free_columns_lem l limits p a f t base e)
