-- What one level's operator of Galerkin's asks for and leaves, and the parts of the levels one behind another.
-- Assumes nothing.
use Prim.Native.Nat.{ℕ, zero, suc, ◌+◌, ◌*◌, ◌≤◌, ◌<◌, ◌^◌}
use mathlib.Core.Path.{◌≡◌, refl, sym, ap, ◌∙◌}
use mathlib.Core.Bool.{Bool}
use mathlib.Core.List.{List}
use native.Mathlib.Omega.{arith}
use lib.ListN.{length, get_or}
use lib.Ieee.{Float}
use Rattle.numbers.specs.declared.C64.{C64}
use Rattle.numbers.specs.declared.terms.Part.{Part}
use Rattle.numbers.specs.Places.{number_at}
use Rattle.numbers.specs.Lists.{all_finite, start_of}
use Rattle.numbers.specs.Terms.{LaidRows, Room}
use Rattle.numbers.proofs.Equations.{read_from_is}
use Rattle.numbers.proofs.PartLaws.{part_room}
use Rattle.lattice.specs.declared.grid.Grid3d.{Grid3d}
use Rattle.lattice.specs.Grid.{Limits}
use Rattle.lattice.specs.Lattice.{FullLattice}
use Rattle.operators.specs.declared.galerkin.FineRows.{FineRows}
use Rattle.operators.specs.declared.galerkin.FineRows.TheVariants.{Computed, Stored as StoredFrom}
use Rattle.operators.specs.LevelLists.{edges_on, OperatorIn, OperatorBefore, OperatorGiven, LevelGiven, LevelReady, LevelLeft}
use Rattle.operators.specs.Levels.{grid_at, galerkin_at}
use Rattle.operators.proofs.LevelListLaws.{operator_in_lem}
use Rattle.store.specs.Layout.{operator_count, stored_count, operator_off, stored_starts, forward_count}
use Rattle.store.specs.Setup.{operator_starts_of, operator_cols_of, operator_numbers}
use Rattle.store.specs.Phases.{forward_part, turned_part, operator_part, noted, first_of, OperatorRoom, OperatorsLeft, operator_fine}
use Rattle.store.specs.FillSteps.{offsets_at, Relations, TransfersBy, OperatorsReady, OperatorsDone}
use Rattle.store.specs.declared.Choice.TheVariants.{Galerkin}
use Rattle.store.specs.declared.transfers.Offsets.{Offsets}
use Rattle.store.proofs.SeamLaws.{part_laid, part_space}
use Rattle.store.proofs.TransferLaws.{forward_from, turned_from}
use Rattle.store.proofs.SizeLaws.{stored_rows, operator_count_lem, ostarts_long, ocols_long, onumbers_long, edges_few, operator_few, ostarts_low, operator_low, forward_count_lem, stored_later, rows_stored, count_stored, starts_stored, columns_stored, numbers_stored}
use Rattle.store.proofs.StepLaws.{part_at, starts_later, terms_later, operators_next, operators_long, operators_none, operator_second}

-- ---- the seam: the last operator that was laid stands in the lists as the next level asks for it

module _ (l : FullLattice) (limits : Limits l.grid) (m : ℕ) (deep : m ≤ 11) {L : ℕ} (h : L < m) where
  next_room : (f : ℕ → C64) {os oc : List ℕ} {ox : List Float} → OperatorRoom l Galerkin m os oc ox
      → Room os (stored_starts l m (suc L)) oc ox (operator_off l Galerkin m (suc L)) (start_of (galerkin_at l f (suc L)) (edges_on l (suc L))) (edges_on l (suc L))
  next_room f room =
      let n = operator_count_lem l Galerkin f (suc L) in
      let a = part_room (stored_rows l m) (suc L) (suc m) (omega arith) in
      let b = part_room (stored_count l Galerkin m) (suc L) (suc m) (omega arith) in
      let p = rows_stored l m (suc L) (stored_later m L) in
      let q = count_stored l m (suc L) (stored_later m L) Galerkin in
      record {
        starts_room = omega (arith, room.starts_room);
        columns_room = omega (arith, room.columns_room);
        numbers_room = omega (arith, room.values_room);
        starts_low = omega (arith, ostarts_low l limits m (suc L));
        low = omega (arith, operator_low l limits Galerkin m (suc L));
      }

  pub operator_there : (f : ℕ → C64) {os₀ oc₀ : List ℕ} {ox₀ : List Float} {os oc : List ℕ} {ox : List Float} → OperatorRoom l Galerkin m os₀ oc₀ ox₀
      → OperatorsLeft l Galerkin f m (suc L) os₀ oc₀ ox₀ os oc ox → OperatorIn l f (suc L) (operator_part l Galerkin m (suc L)) os oc ox
  operator_there f {os₀} {oc₀} {ox₀} room left =
      let SS = operator_starts_of l Galerkin m in
      let CC = operator_cols_of l Galerkin m in
      let XX = operator_numbers l Galerkin m f in
      let n = edges_on l (suc L) in
      let terms = count_stored l m (suc L) (stored_later m L) Galerkin ∙ sym (operator_count_lem l Galerkin f (suc L)) in
      rw (left.starts_are, left.columns_are, left.values_are)
      (operator_in_lem l limits f (suc L) (operator_part l Galerkin m (suc L))
      (part_laid SS CC XX (stored_rows l m) (stored_count l Galerkin m) (ostarts_long l Galerkin m) (ocols_long l Galerkin m) (onumbers_long l Galerkin m f) os₀ oc₀ ox₀ (suc L)
      (galerkin_at l f (suc L)) n (starts_stored l m (suc L) (stored_later m L) Galerkin f) (columns_stored l m (suc L) (stored_later m L) Galerkin f) (numbers_stored l m (suc L) (stored_later m L) Galerkin f) (rows_stored l m (suc L) (stored_later m L)) terms)
      (part_space SS CC XX (stored_rows l m) (stored_count l Galerkin m) (ostarts_long l Galerkin m) (ocols_long l Galerkin m) (onumbers_long l Galerkin m f) os₀ oc₀ ox₀ (suc L)
      (galerkin_at l f (suc L)) n (starts_stored l m (suc L) (stored_later m L) Galerkin f) (columns_stored l m (suc L) (stored_later m L) Galerkin f) (numbers_stored l m (suc L) (stored_later m L) Galerkin f) (rows_stored l m (suc L) (stored_later m L)) terms
      (suc m) (omega arith) room.starts_room room.columns_room room.values_room (omega (arith, ostarts_low l limits m (suc L))) (omega (arith, operator_low l limits Galerkin m (suc L)))))

  -- the starts of its rows stand in the list, the last of them is the count
  pub operator_last : (f : ℕ → C64) {os oc : List ℕ} {ox : List Float} → OperatorIn l f (suc L) (operator_part l Galerkin m (suc L)) os oc ox
      → (stored_starts l m (suc L) + edges_on l (suc L) < length os) × (get_or os (stored_starts l m (suc L) + edges_on l (suc L)) 0 ≡ operator_count l Galerkin (suc L))
  operator_last f w = (w.stored.starts_room, w.count_is ∙ operator_count_lem l Galerkin f (suc L))

-- ---- where the part behind that of level L + 1 begins

module _ (l : FullLattice) (limits : Limits l.grid) (m : ℕ) {L : ℕ} (h : (L < m) × (m ≤ 11)) {q : Part} (e : q ≡ operator_part l Galerkin m (suc L)) {n : ℕ} (en : n ≡ edges_on l (suc L)) where
  pub part_small : q.s + n ≤ 2 ^ 40
  part_small = rw (e, en) (omega (arith, h.0, h.1, ostarts_low l limits m (suc L), edges_few l limits (suc L)))

  pub terms_small : {w : ℕ} → w ≡ operator_count l Galerkin (suc L) → q.k + w ≤ 2 ^ 40
  terms_small ew = rw (e, ew) (omega (arith, h.0, h.1, operator_low l limits Galerkin m (suc L), operator_few l limits Galerkin (suc L)))

  pub part_next : {w : ℕ} → w ≡ operator_count l Galerkin (suc L) → record { s = q.s + n + 1; k = q.k + w } ≡ operator_part l Galerkin m (suc (suc L))
  part_next {w} ew =
      let a : stored_starts l m (suc L) + edges_on l (suc L) + 1 ≡ stored_starts l m (suc (suc L)) = omega (arith, starts_later l Galerkin m L) in
      let p : part_at (q.s + n + 1) (q.k + w) ≡ part_at (stored_starts l m (suc L) + edges_on l (suc L) + 1) (operator_off l Galerkin m (suc L) + operator_count l Galerkin (suc L)) =
      λ i. part_at ((e i).s + en i + 1) ((e i).k + ew i) in
      p ∙ (λ i. part_at (a i) (sym (terms_later l Galerkin m L) i))

-- ---- what one level's operator asks for

-- where its fine rows come from: the lattice on level 0, below it the operator that was laid last
abbrev pub fine_at : FullLattice → ℕ → ℕ → FineRows
fine_at l m zero = Computed
fine_at l m (suc L) = StoredFrom (operator_part l Galerkin m (suc L))

computed_not : {q : Part} → StoredFrom q ≡ Computed → ⊥
computed_not e = let z : ◌≡◌ {A = ℕ} 0 1 = cc in omega arith

stored_one : {p q : Part} → StoredFrom p ≡ StoredFrom q → q ≡ p
stored_one e = cc

module _ (l : FullLattice) (limits : Limits l.grid) (m : ℕ) (deep : m ≤ 11) (f : ℕ → C64) {eps : List Float} {ss cs : List ℕ} {xs : List Float} {ts us : List ℕ} {ys : List Float}
    (by : TransfersBy l f m eps ss cs xs ts us ys) (eps_room : 2 * edges_on l 0 ≤ length eps) where
  fine_given : (L : ℕ) → fine_at l m L ≡ Computed → OperatorGiven l f L eps
  fine_given zero e =
      record {
        level = refl;
        room = eps_room;
        reads = λ r b. let z : 0 + r ≡ r = omega arith in sym (read_from_is eps 0 r ∙ ap (number_at eps) z) ∙ by.given.reads r b;
      }
  fine_given (suc L) e = absurd (computed_not e)

  module _ {os₀ oc₀ : List ℕ} {ox₀ : List Float} (room₀ : OperatorRoom l Galerkin m os₀ oc₀ ox₀) where
    fine_before : (L : ℕ) {os oc : List ℕ} {ox : List Float} → L < m → OperatorsLeft l Galerkin f m L os₀ oc₀ ox₀ os oc ox → (q : Part) → fine_at l m L ≡ StoredFrom q
        → OperatorBefore l f L q (operator_part l Galerkin m (suc L)) os oc ox
    fine_before zero h left q e = absurd (computed_not (sym e))
    fine_before (suc L) h left q e =
        let there = operator_there l limits m deep (omega arith) f room₀ left in
        let last = operator_last l limits m deep (omega arith) f there in
        rw (stored_one e)
        (record { there = there; starts_end = omega (arith, starts_later l Galerkin m L); terms_end = omega (arith, last.1, terms_later l Galerkin m L) })

    pub level_given : {L : ℕ} {os oc : List ℕ} {ox : List Float} → L < m → {u : List ℕ} → Relations l (suc L) u → OperatorsLeft l Galerkin f m L os₀ oc₀ ox₀ os oc ox → OperatorRoom l Galerkin m os oc ox
        → LevelGiven (fine_at l m L) l eps (grid_at l (suc L)) u (forward_part l L) ss cs xs (turned_part l L) ts us ys (operator_part l Galerkin m (suc L)) os oc ox f L
    level_given {L} h r left room =
        record {
          limits = limits;
          cells = refl;
          relations = r.right;
          transfer = by.transfers.each_in L h;
          computed = fine_given L;
          stored = fine_before L h left;
          room = next_room l limits m deep h f room;
        }

-- ---- the loop over the levels

-- the operators of levels 1 to L have been laid, for whichever f the transfers come from
pub record Growing (l : FullLattice) (m : ℕ) (eps : List Float) (ss cs : List ℕ) (xs : List Float) (ts us : List ℕ) (ys : List Float)
    (os₀ oc₀ : List ℕ) (ox₀ : List Float) (os oc : List ℕ) (ox : List Float) (u : List ℕ) (o : Offsets) (fine : FineRows) (q : Part) (bad L : ℕ) : Type 0 where
  pub high : L ≤ m
  pub room : OperatorRoom l Galerkin m os oc ox
  pub relations : Relations l L u
  pub o_is : o ≡ offsets_at l L
  pub fine_is : fine ≡ fine_at l m L
  pub q_is : q ≡ operator_part l Galerkin m (suc L)
  pub left : (f : ℕ → C64) → TransfersBy l f m eps ss cs xs ts us ys → OperatorsLeft l Galerkin f m L os₀ oc₀ ox₀ os oc ox
  pub bad_is : (f : ℕ → C64) → TransfersBy l f m eps ss cs xs ts us ys → bad ≡ first_of (operator_fine l Galerkin m f) L

first_part : (l : FullLattice) (m : ℕ) → 0 < m → part_at 0 0 ≡ operator_part l Galerkin m 1
first_part l m h = let p = operator_second l Galerkin m h in sym (λ i. part_at (p.0 i) (p.1 i))

module _ (l : FullLattice) (limits : Limits l.grid) (m : ℕ) (deep : (0 < m) × (m ≤ 11)) {eps : List Float} {ss cs : List ℕ} {xs : List Float} {ts us : List ℕ} {ys : List Float}
    (ready : OperatorsReady l m eps ss cs xs ts us ys) {os₀ oc₀ : List ℕ} {ox₀ : List Float} (room₀ : OperatorRoom l Galerkin m os₀ oc₀ ox₀) where
  pub growing_start : {u : List ℕ} {o : Offsets} → Relations l 0 u → o ≡ offsets_at l 0
      → Growing l m eps ss cs xs ts us ys os₀ oc₀ ox₀ os₀ oc₀ ox₀ u o Computed (record { s = 0; k = 0 }) 0 0
  unfolding first_of
  growing_start r e =
      record {
        high = omega arith;
        room = room₀;
        relations = r;
        o_is = e;
        fine_is = refl;
        q_is = first_part l m deep.0;
        left = λ f by. operators_none l Galerkin f m deep.0 os₀ oc₀ ox₀;
        bad_is = λ f by. refl;
      }

  module _ {os oc : List ℕ} {ox : List Float} {u : List ℕ} {o : Offsets} {fine : FineRows} {q : Part} {bad L : ℕ}
      (w : Growing l m eps ss cs xs ts us ys os₀ oc₀ ox₀ os oc ox u o fine q bad L) where
    module _ (h : L < m) {v : List ℕ} (r : Relations l (suc L) v) where
      given_at : (f : ℕ → C64) → TransfersBy l f m eps ss cs xs ts us ys
          → LevelGiven fine l eps (grid_at l (suc L)) v (forward_part l L) ss cs xs (turned_part l L) ts us ys q os oc ox f L
      given_at f by = rw (w.fine_is, w.q_is) (level_given l limits m deep.1 f by ready.room room₀ h r (w.left f by) w.room)

      pub growing_ready : LevelReady fine l eps (grid_at l (suc L)) v (forward_part l L) ss cs xs (turned_part l L) ts us ys q os oc ox
      growing_ready = record { reader = ready.reader; level = L; given = given_at ready.reader ready.by; long = r.long }

      module _ {os' oc' : List ℕ} {ox' : List Float} {b : Bool} (d : LevelLeft fine l eps (grid_at l (suc L)) v (forward_part l L) ss cs xs (turned_part l L) ts us ys q os oc ox os' oc' ox' b) where
        laid_here : (f : ℕ → C64) → TransfersBy l f m eps ss cs xs ts us ys
            → LaidRows (galerkin_at l f (suc L)) (edges_on l (suc L)) os (stored_starts l m (suc L)) oc ox (operator_off l Galerkin m (suc L)) os' oc' ox'
        laid_here f by = rw w.q_is at (d.operator f L (given_at f by))

        left_next : (f : ℕ → C64) → TransfersBy l f m eps ss cs xs ts us ys → OperatorsLeft l Galerkin f m (suc L) os₀ oc₀ ox₀ os' oc' ox'
        left_next f by = operators_next l Galerkin m f L (w.left f by) (laid_here f by)

        room_next : OperatorRoom l Galerkin m os' oc' ox'
        room_next =
            let n = operators_long l Galerkin m ready.reader (suc L) (left_next ready.reader ready.by) in
            record {
              starts_room = omega (arith, room₀.starts_room, n.0);
              columns_room = omega (arith, room₀.columns_room, n.1);
              values_room = omega (arith, room₀.values_room, n.2);
            }

        pub growing_count : (q.s + edges_on l (suc L) < length os') × (get_or os' (q.s + edges_on l (suc L)) 0 ≡ operator_count l Galerkin (suc L))
        growing_count =
            let f = ready.reader in
            rw w.q_is (operator_last l limits m deep.1 h f (operator_there l limits m deep.1 h f room₀ (left_next f ready.by)))

        pub growing_turn : {o' : Offsets} {q' : Part} {bad' : ℕ} → bad' ≡ noted bad L b → q' ≡ operator_part l Galerkin m (suc (suc L)) → o' ≡ offsets_at l (suc L)
            → Growing l m eps ss cs xs ts us ys os₀ oc₀ ox₀ os' oc' ox' v o' (StoredFrom q) q' bad' (L + 1)
        unfolding first_of operator_fine
        growing_turn be qe oe =
            let z : L + 1 ≡ suc L = omega arith in
            rw z
            (record {
              high = h;
              room = room_next;
              relations = r;
              o_is = oe;
              fine_is = ap StoredFrom w.q_is;
              q_is = qe;
              left = left_next;
              bad_is = λ f by.
                  be ∙ (λ i. noted (w.bad_is f by i) L (d.finite f L (given_at f by) i)) ∙ ap (λ (vs : List C64). noted (first_of (operator_fine l Galerkin m f) L) L (all_finite vs)) (sym (numbers_stored l m (suc L) (stored_later m L) Galerkin f));
            })

    pub growing_end : m ≤ L → OperatorsDone l m eps ss cs xs ts us ys os₀ oc₀ ox₀ os oc ox bad
    growing_end h =
        let z : L ≡ m = omega (arith, w.high) in
        record { lists = λ f by. rw z at (w.left f by); first_is = λ f by. rw z at (w.bad_is f by) }

-- the transfer's starts stand in the list
pub transfer_last : (l : FullLattice) (m : ℕ) {L : ℕ} {o : Offsets} {eps : List Float} {ss cs : List ℕ} {xs : List Float} {ts us : List ℕ} {ys : List Float} → OperatorsReady l m eps ss cs xs ts us ys
    → L < m → o ≡ offsets_at l L → (o.s + edges_on l L < length ss) × (get_or ss (o.s + edges_on l L) 0 ≡ forward_count l L)
transfer_last l m {L} ready h e =
    let t = ready.by.transfers.each_in L h in
    rw e (t.forward_stored.starts_room, t.forward_count_is ∙ forward_count_lem l ready.reader L)

-- ---- the call for one level: the grid and the parts as the code has them

module _ (l : FullLattice) (L : ℕ) {fine : FineRows} {eps : List Float} {g : Grid3d} {u : List ℕ} {o : Offsets} {ss cs : List ℕ} {xs : List Float} {ts us : List ℕ} {ys : List Float} {q : Part}
    {os oc : List ℕ} {ox : List Float} (a : g ≡ grid_at l (suc L)) (e : o ≡ offsets_at l L) where
  pub ready_here : LevelReady fine l eps (grid_at l (suc L)) u (forward_part l L) ss cs xs (turned_part l L) ts us ys q os oc ox
      → LevelReady fine l eps g u (forward_from o) ss cs xs (turned_from o) ts us ys q os oc ox
  ready_here r = rw (a, e) r

  pub left_here : {os' oc' : List ℕ} {ox' : List Float} {b : Bool} → LevelLeft fine l eps g u (forward_from o) ss cs xs (turned_from o) ts us ys q os oc ox os' oc' ox' b
      → LevelLeft fine l eps (grid_at l (suc L)) u (forward_part l L) ss cs xs (turned_part l L) ts us ys q os oc ox os' oc' ox' b
  left_here w = rw (a, e) at w
