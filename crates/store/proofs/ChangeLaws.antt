-- A change as the code makes it: the edge's number set, the reached rows worked out anew or all put back, and each refusal.
-- Assumes nothing.
use Prim.Native.Nat.{ℕ, zero, suc, ◌+◌, ◌-◌, ◌*◌, ◌/◌, ◌%◌, ◌≤◌, ◌<◌}
use mathlib.Core.Path.{◌≡◌, refl, sym, ap, subst, ◌∙◌}
use mathlib.Core.Logic.{inl, inr}
use mathlib.Core.List.{List, [], ◌∷◌}
use mathlib.Core.Option.{Option, none, some}
use mathlib.Core.Bool.{Bool, true, false, false≢true, cond}
use native.Mathlib.Decide.{ℕ_discrete}
use native.Mathlib.Omega.{arith}
use lib.Dec.{ltb}
use lib.Ieee.{Float, nan}
use lib.ListN.{length, get_or}
use borrow.Author.Tests.{lt-ltb, le-ltb, ltb-true}
use Rattle.numbers.specs.declared.C64.{C64}
use Rattle.numbers.specs.Lists.{In}
use Rattle.numbers.specs.Places.{places, number_at, set_number}
use Rattle.numbers.proofs.Laws.{length_set_number, number_same, number_other}
use Rattle.numbers.proofs.Equations.{places_is}
use Rattle.lattice.specs.Check.{Verdict, accepted, refused, and_then, is_sound, bad_number, check_stretches}
use Rattle.lattice.specs.Grid.{Limits, unknowns_of}
use Rattle.lattice.specs.Lattice.{FullLattice}
use Rattle.lattice.specs.Levels.{depth_of, count_of}
use Rattle.lattice.specs.declared.lattice.Lattice.{Lattice}
use Rattle.operators.specs.LevelLists.{edges_on}
use Rattle.store.specs.Space.{Look, puts}
use Rattle.store.specs.Store.{Store, sizes}
use Rattle.store.specs.Places.{Place, space, get, ends_at, permittivities_at, forward_starts_at, forward_columns_at, forward_values_at, turned_starts_at, turned_columns_at, turned_values_at, operator_starts_at, operator_columns_at, operator_values_at, scaling_at}
use Rattle.store.specs.Spots.{permittivity, spot, cells, part_of, double_of, laid_from}
use Rattle.store.specs.Plan.{run, first_bad, reached}
use Rattle.store.specs.Book.{Answer, Done, Bad, NotFinite, Outcome, outcome, settle, gate, change}
use Rattle.store.specs.Layout.{Enough}
use Rattle.store.specs.Setup.{Input, full_of, Result, result_of, unless, all_to, names_once, short_of}
use Rattle.store.specs.Steps.{m_of, structure_by}
use Rattle.store.specs.FillSteps.{FirstBad}
use Rattle.store.specs.Rows.{Row, rules}
use Rattle.store.specs.Reach.{hit}
use Rattle.store.specs.Changes.{Change, Why, NoEdge, BadValue, changes}
use Rattle.store.specs.Calls.{level_matches, bad_verdict, settled, change_of}
use Rattle.store.specs.Work.{Structured, with_list}
use Rattle.store.specs.Parts.{FlagsOf, flagged_rows}
use Rattle.store.specs.Worked.{answer_by, Tried}
use Rattle.store.specs.Renewed.{Fixed, fixed, Five, five, store_of, FixedRoom, FiveRoom, Shaped, Restored}
use Rattle.store.specs.ChangeSteps.{change_to, edit_verdict, EdgeRenewed, changed_behind}
use Rattle.store.specs.declared.Choice.{Choice}
use Rattle.store.proofs.SpaceLaws.{lawful}
use Rattle.store.proofs.PlaceLaws.{puts_is}
use Rattle.store.proofs.WorkLaws.{number_double, with_sizes}
use Rattle.store.proofs.WorkedLaws.{tried_change}
use Rattle.store.proofs.PartRows.{flagged_reached}
use Rattle.store.proofs.SettleLaws.{and_last, and_sound, unless_refused}
use Rattle.store.proofs.StoreLaws.{chain_most}
use Rattle.numbers.proofs.PartLaws.{part_room}
use Rattle.store.proofs.StructureLaws.{differs_none}
use Rattle.store.proofs.VerdictLaws.{unless_sound}
use Rattle.lattice.proofs.LatticeLaws.{lattice_grid}
use Rattle.operators.proofs.LevelListLaws.{first_edges}
use Rattle.lattice.proofs.LevelLaws.{depth_none}

-- ---- one permittivity

-- the number of an edge set in the list of permittivities
pub set_puts : (s : Store) (e : ℕ) (z : C64) (g : Look space) → 2 * e + 1 < length s.permittivities → ((j : ℕ) → j / 2 ≡ e → g (permittivities_at j) ≡ part_of j z)
    → with_list s permittivity (set_number s.permittivities e z) ≡ puts space s (cells (spot permittivity e)) g
set_puts s e z g room says =
    puts_is space lawful s (with_list s permittivity (set_number s.permittivities e z)) (cells (spot permittivity e)) g
    (with_sizes s permittivity (set_number s.permittivities e z) (length_set_number s.permittivities e z)) inside outside
  where
    there : e < places s.permittivities
    there = omega (arith, places_is s.permittivities)

    set_double_lem : (j : ℕ) → j / 2 ≡ e → get_or (set_number s.permittivities e z) j nan ≡ part_of j z
    set_double_lem j h = number_double (set_number s.permittivities e z) j ∙ ap (part_of j) (rw h (number_same s.permittivities e z there))

    inside : (p : Place) → In p (cells (spot permittivity e)) → get (with_list s permittivity (set_number s.permittivities e z)) p ≡ g p
    inside p (inl h) = rw h (unfold get in set_double_lem (2 * e) (omega arith) ∙ sym (says (2 * e) (omega arith)))
    inside p (inr (inl h)) = rw h (unfold get in set_double_lem (2 * e + 1) (omega arith) ∙ sym (says (2 * e + 1) (omega arith)))
    inside p (inr (inr i)) = absurd i

    other : (j : ℕ) → (In (permittivities_at j) (cells (spot permittivity e)) → ⊥) → get_or (set_number s.permittivities e z) j nan ≡ get_or s.permittivities j nan
    other j n =
        number_double (set_number s.permittivities e z) j
        ∙ ap (part_of j) (number_other s.permittivities e (j / 2) z
        (λ h. elim (ℕ_discrete (j % 2) 0) as (λ _. ⊥) [
          | yes y ↦ let k : j ≡ 2 * e = omega arith in n (inl (ap permittivities_at k))
          | no y ↦ let k : j ≡ 2 * e + 1 = omega arith in n (inr (inl (ap permittivities_at k)))
        ]))
        ∙ sym (number_double s.permittivities j)

    outside : (p : Place) → (In p (cells (spot permittivity e)) → ⊥) → get (with_list s permittivity (set_number s.permittivities e z)) p ≡ get s p
    outside (ends_at j) n = unfold get in refl
    outside (permittivities_at j) n = unfold get in other j n
    outside (forward_starts_at j) n = unfold get in refl
    outside (forward_columns_at j) n = unfold get in refl
    outside (forward_values_at j) n = unfold get in refl
    outside (turned_starts_at j) n = unfold get in refl
    outside (turned_columns_at j) n = unfold get in refl
    outside (turned_values_at j) n = unfold get in refl
    outside (operator_starts_at j) n = unfold get in refl
    outside (operator_columns_at j) n = unfold get in refl
    outside (operator_values_at j) n = unfold get in refl
    outside (scaling_at j) n = unfold get in refl

edit_says : (e : ℕ) (z : C64) (j : ℕ) → j / 2 ≡ e → laid_from (z ∷ []) e (permittivities_at j) ≡ part_of j z
unfolding laid_from double_of
edit_says e z j h = let k : j / 2 - e ≡ 0 = omega arith in rw k refl

store_says : (s : Store) (e j : ℕ) → j / 2 ≡ e → get s (permittivities_at j) ≡ part_of j (number_at s.permittivities e)
unfolding get
store_says s e j h = number_double s.permittivities j ∙ rw h refl

-- starts, columns and ends are the lattice's whatever the numbers are
pub structured_with : {l : FullLattice} {ch : Choice} {m : ℕ} {ends : List ℕ} {x : Fixed} {v : Five} (w : Five) → Structured l ch m (store_of ends x v) → Structured l ch m (store_of ends x w)
structured_with w h = record { ends_are = h.ends_are; forward_are = h.forward_are; turned_are = h.turned_are; operator_are = h.operator_are }

-- ---- the change of one edge

change_none : (l : FullLattice) (ch : Choice) (m : ℕ) (s : Store) (c : Change) → (changes l).bad c ≡ none
    → ◌≡◌ {A = Outcome space Why} (settle (first_bad (rules l ch m) (reached (rules l ch m) (cells (spot permittivity c.edge))) ((changes l).edit s c))
    (run (rules l ch m) (reached (rules l ch m) (cells (spot permittivity c.edge))) ((changes l).edit s c)) s) (change (rules l ch m) (changes l) s c)
unfolding change
change_none l ch m s c good = rw good refl

module _ {l : FullLattice} {ch : Choice} {m : ℕ} {x : Fixed} (e : ℕ) (z : C64) (v : Five) {flags : List ℕ} (limits : Limits l.grid) (there : e < edges_on l 0) (told : FlagsOf l ch m (hit l e ch) flags)
    (room : 2 * e + 1 < length v.e) {n : ℕ} {u : Five} (tried : Restored l ch m x (flagged_rows l ch m flags) (five (set_number v.e e z) v.f v.t v.o v.c) n u) where
  abbrev edited : List ℕ → Store
  edited ends = store_of ends x (five (set_number v.e e z) v.f v.t v.o v.c)

  edit_is : (ends : List ℕ) → edited ends ≡ (changes l).edit (store_of ends x v) (change_to e z)
  edit_is ends = set_puts (store_of ends x v) e z (laid_from (z ∷ []) e) room (edit_says e z)

  abbrev rows : List Row
  rows = reached (rules l ch m) (cells (spot permittivity e))

  tried_is : (ends : List ℕ) → Structured l ch m (store_of ends x v) → Tried (rules l ch m) rows ((changes l).edit (store_of ends x v) (change_to e z)) n (store_of ends x u)
  tried_is ends w =
      subst (λ (s : Store). Tried (rules l ch m) rows s n (store_of ends x u)) (edit_is ends)
      (subst (λ (rs : List Row). Tried (rules l ch m) rs (edited ends) n (store_of ends x u)) (flagged_reached l limits ch m e there flags told)
      (tried.tried ends (structured_with (five (set_number v.e e z) v.f v.t v.o v.c) w)))

  settled_with : (ends : List ℕ) → Structured l ch m (store_of ends x v) → (changes l).bad (change_to e z) ≡ none → (t : Store) → (n ≡ 0 → t ≡ store_of ends x u)
      → ((n ≡ 0 → ⊥) → t ≡ puts space (store_of ends x u) (cells (spot permittivity e)) (get (store_of ends x v)))
      → ◌≡◌ {A = Outcome space Why} (outcome (answer_by n) t) (change (rules l ch m) (changes l) (store_of ends x v) (change_to e z))
  settled_with ends w good t kept undone =
      tried_change (rules l ch m) lawful rows (store_of ends x v) (cells (spot permittivity e)) (laid_from (z ∷ []) e) n (store_of ends x u) t (tried_is ends w) kept undone
      ∙ change_none l ch m (store_of ends x v) (change_to e z) good

  pub edge_done : n ≡ 0 → EdgeRenewed l ch m x (change_to e z) v 0 u
  edge_done y =
      record {
        changed = λ ends w good.
            ap (λ (k : ℕ). outcome {X = space} {Why = Why} (answer_by k) (store_of ends x u)) (sym y)
            ∙ settled_with ends w good (store_of ends x u) (λ _. refl) (λ k. absurd (k y));
      }

  pub edge_back : (n ≡ 0 → ⊥) → EdgeRenewed l ch m x (change_to e z) v n (five (set_number u.e e (number_at v.e e)) u.f u.t u.o u.c)
  edge_back k =
      record {
        changed = λ ends w good.
            settled_with ends w good (store_of ends x (five (set_number u.e e (number_at v.e e)) u.f u.t u.o u.c)) (λ y. absurd (k y))
            (λ _. set_puts (store_of ends x u) e (number_at v.e e) (get (store_of ends x v)) (long ends w) (store_says (store_of ends x v) e));
      }
    where
      long : (ends : List ℕ) → Structured l ch m (store_of ends x v) → 2 * e + 1 < length u.e
      long ends w =
          let a : store_of ends x u ≡ edited ends = (tried_is ends w).back k ∙ sym (edit_is ends) in
          let b : length u.e ≡ length (set_number v.e e z) = ap (λ (s : Store). length s.permittivities) a in
          omega (arith, b, length_set_number v.e e z)

-- ---- refusals 9 and 10

module _ (v : Lattice) (e : ℕ) (z : C64) where
  pub no_edge : unknowns_of v.grid ≤ e → refused 9 e ≡ edit_verdict v e z
  unfolding edit_verdict
  no_edge h = rw (le-ltb e (unknowns_of v.grid) h) refl

  pub bad_value : e < unknowns_of v.grid → {b : Bool} → b ≡ bad_number z → b ≡ true → refused 10 e ≡ edit_verdict v e z
  unfolding edit_verdict
  bad_value h q y = rw (lt-ltb e (unknowns_of v.grid) h, sym q, y) refl

  pub sound_edit : e < unknowns_of v.grid → {b : Bool} → b ≡ bad_number z → b ≡ false → accepted 0 ≡ edit_verdict v e z
  unfolding edit_verdict
  sound_edit h q y = rw (lt-ltb e (unknowns_of v.grid) h, sym q, y) refl

-- ---- behind the checks

abbrev IsDone : Answer Why → Type 0
IsDone Done = Unit {0}
IsDone (Bad y) = Unit {0}
IsDone (NotFinite j) = ⊥

-- a refusal 7 leaves the store
kept_store : (l : FullLattice) (ch : Choice) (m : ℕ) (s : Store) (c : Change) (k : ℕ) → (change (rules l ch m) (changes l) s c).answer ≡ NotFinite k → (change (rules l ch m) (changes l) s c).store ≡ s
unfolding change
kept_store l ch m s c k = by ((changes l).bad c) (first_bad (rules l ch m) (reached (rules l ch m) ((changes l).spots c)) ((changes l).edit s c)) (run (rules l ch m) (reached (rules l ch m) ((changes l).spots c)) ((changes l).edit s c))
  where
    by : (o : Option Why) (f : Option ℕ) (t : Store) → (gate {X = space} o (settle f t s) s).answer ≡ NotFinite k → (gate {X = space} o (settle f t s) s).store ≡ s
    by none none t e = absurd (subst IsDone e tt)
    by none (some j) t e = refl
    by (some y) f t e = refl

all_match : (l : FullLattice) (ch : Choice) (m : ℕ) (s : Store) (n : ℕ)
    → all_to 11 (level_matches l ch m (store_of s.ends (fixed s.forward_starts s.forward_columns s.turned_starts s.turned_columns s.operator_starts s.operator_columns) (five [] [] [] [] []))) n ≡ all_to 11 (level_matches l ch m s) n
unfolding all_to level_matches
all_match l ch m s zero = refl
all_match l ch m s (suc n) = ap (λ (v : Verdict). and_then v (cond (level_matches l ch m s n) (accepted 0) (refused 11 n))) (all_match l ch m s n)

module _ (l : FullLattice) (ch : Choice) (coarsest : ℕ) (b : Store) (c : Change) {d : Verdict} (depth : d ≡ depth_of l coarsest) {v : Verdict} (found : v ≡ structure_by l ch d (sizes b)) where
  abbrev levels : Verdict
  levels = and_then (depth_of l coarsest) (all_to 8 (names_once l) (m_of l coarsest))

  abbrev short : Verdict
  short = short_of l ch (m_of l coarsest) (sizes b)

  found_is : v ≡ and_then levels (and_then short (accepted (suc (m_of l coarsest))))
  unfolding structure_by
  found_is = found ∙ ap (λ (u : Verdict). and_then (and_then u (all_to 8 (names_once l) (count_of u - 1))) (and_then (short_of l ch (count_of u - 1) (sizes b)) (accepted (suc (count_of u - 1))))) depth

  pub changed_refused : is_sound v ≡ false → result_of v b ≡ changed_behind l ch coarsest b c
  unfolding changed_behind
  changed_refused e =
      let q : v ≡ and_then levels short = found_is ∙ sym (and_last levels short (suc (m_of l coarsest)) (ap is_sound (sym found_is) ∙ e)) in
      ap (λ (u : Verdict). result_of u b) q ∙ unless_refused (and_then levels short) b _ (ap is_sound (sym q) ∙ e)

  module _ (e : is_sound v ≡ true) where
    abbrev rest : Result
    rest =
        unless (all_to 11 (level_matches l ch (m_of l coarsest) b) (suc (m_of l coarsest))) b
        (settled (suc (m_of l coarsest)) (change (rules l ch (m_of l coarsest)) (changes l) b c).answer (change (rules l ch (m_of l coarsest)) (changes l) b c).store c.edge b)

    goes : (changed_behind l ch coarsest b c ≡ rest) × (v ≡ accepted (suc (m_of l coarsest)))
    unfolding changed_behind
    goes = let k = and_sound levels short (suc (m_of l coarsest)) b rest (ap is_sound (sym found_is) ∙ e) in (k.0, found_is ∙ k.1)

    module _ {m r : ℕ} (count : m ≡ count_of d - 1)
        (first : FirstBad 11 (level_matches l ch m (store_of b.ends (fixed b.forward_starts b.forward_columns b.turned_starts b.turned_columns b.operator_starts b.operator_columns) (five [] [] [] [] []))) (suc m) r) where
      m_is : m ≡ m_of l coarsest
      m_is = count ∙ ap (λ (u : Verdict). count_of u - 1) depth

      -- as many levels as the level loop found
      pub depth_told : depth_of l coarsest ≡ accepted (suc m)
      depth_told = go (depth_of l coarsest) refl
        where
          go : (u : Verdict) → depth_of l coarsest ≡ u → depth_of l coarsest ≡ accepted (suc m)
          go (accepted zero) q = absurd (depth_none l coarsest q)
          go (accepted (suc k)) q =
              let z : m ≡ suc k - 1 = m_is ∙ ap (λ (w : Verdict). count_of w - 1) q in
              let y : suc k ≡ suc m = omega (arith, z) in
              q ∙ ap accepted y
          go (refused n p) q =
              let h : is_sound (and_then levels (and_then short (accepted (suc (m_of l coarsest))))) ≡ true = ap is_sound (sym found_is) ∙ e in
              let g : and_then levels (and_then short (accepted (suc (m_of l coarsest)))) ≡ refused n p =
              ap (λ (w : Verdict). and_then (and_then w (all_to 8 (names_once l) (m_of l coarsest))) (and_then short (accepted (suc (m_of l coarsest))))) q in
              absurd (false≢true (ap is_sound (sym g) ∙ h))

      eleven : all_to 11 (level_matches l ch (m_of l coarsest) b) (suc (m_of l coarsest)) ≡ cond (ltb r (suc m)) (refused 11 r) (accepted 0)
      eleven = ap (λ (k : ℕ). all_to 11 (level_matches l ch k b) (suc k)) (sym m_is) ∙ sym (all_match l ch m b (suc m)) ∙ first.verdict

      pub changed_differs : r ≤ m → result_of (refused 11 r) b ≡ changed_behind l ch coarsest b c
      changed_differs h =
          let q : all_to 11 (level_matches l ch (m_of l coarsest) b) (suc (m_of l coarsest)) ≡ refused 11 r = eleven ∙ ap (λ (t : Bool). cond t (refused 11 r) (accepted 0)) (lt-ltb r (suc m) (omega arith)) in
          sym (goes.0 ∙ ap (λ (u : Verdict). unless u b (settled (suc (m_of l coarsest)) (change (rules l ch (m_of l coarsest)) (changes l) b c).answer (change (rules l ch (m_of l coarsest)) (changes l) b c).store c.edge b)) q)

      module _ (h : m < r) where
        none_differs : all_to 11 (level_matches l ch (m_of l coarsest) b) (suc (m_of l coarsest)) ≡ accepted 0
        none_differs = eleven ∙ ap (λ (t : Bool). cond t (refused 11 r) (accepted 0)) (le-ltb r (suc m) (omega arith))

        -- what 11 has tested
        pub matched : is_sound (all_to 11 (level_matches l ch m b) (suc m)) ≡ true
        matched = ap is_sound (ap (λ (k : ℕ). all_to 11 (level_matches l ch k b) (suc k)) m_is ∙ none_differs)

        module _ (n : ℕ) {t : Store} (done : ◌≡◌ {A = Outcome space Why} (outcome (answer_by n) t) (change (rules l ch m) (changes l) b c)) where
          done_at : ◌≡◌ {A = Outcome space Why} (outcome (answer_by n) t) (change (rules l ch (m_of l coarsest)) (changes l) b c)
          done_at = done ∙ ap (λ (k : ℕ). change (rules l ch k) (changes l) b c) m_is

          behind_is : changed_behind l ch coarsest b c ≡ settled (suc (m_of l coarsest)) (answer_by n) t c.edge b
          behind_is =
              goes.0
              ∙ ap (λ (u : Verdict). unless u b (settled (suc (m_of l coarsest)) (change (rules l ch (m_of l coarsest)) (changes l) b c).answer (change (rules l ch (m_of l coarsest)) (changes l) b c).store c.edge b)) none_differs
              ∙ sym (ap (λ (o : Outcome space Why). settled (suc (m_of l coarsest)) o.answer o.store c.edge b) done_at)

          pub changed_done : n ≡ 0 → result_of v t ≡ changed_behind l ch coarsest b c
          changed_done y = ap (λ (u : Verdict). result_of u t) goes.1 ∙ sym (behind_is ∙ ap (λ (k : ℕ). settled (suc (m_of l coarsest)) (answer_by k) t c.edge b) y)

          pub changed_bad : (n ≡ 0 → ⊥) → result_of (refused 7 (n - 1)) t ≡ changed_behind l ch coarsest b c
          changed_bad k =
              let z : n ≡ suc (n - 1) = omega arith in
              let a : (change (rules l ch (m_of l coarsest)) (changes l) b c).answer ≡ NotFinite (n - 1) =
              ap (λ (o : Outcome space Why). o.answer) (sym done_at) ∙ ap (λ (j : ℕ). answer_by {Why = Why} j) z in
              let s : t ≡ b = ap (λ (o : Outcome space Why). o.store) done_at ∙ kept_store l ch (m_of l coarsest) b c (n - 1) a in
              ap (result_of (refused 7 (n - 1))) s ∙ sym (behind_is ∙ ap (λ (j : ℕ). settled (suc (m_of l coarsest)) (answer_by j) t c.edge b) z)

-- ---- as the code finds them

pub edge_room : {l : FullLattice} {ch : Choice} {m e : ℕ} {v : Five} → FiveRoom l ch m v → e < edges_on l 0 → 2 * e + 1 < length v.e
edge_room {l} {ch} {m} {e} {v} r h = omega (arith, r.e_room, chain_most l ch m, part_room (edges_on l) 0 (suc m) (omega arith))

pub room_set : {l : FullLattice} {ch : Choice} {m : ℕ} (k : ℕ) (z : C64) {e e' f t o c : List Float} → FiveRoom l ch m (five e f t o c) → e' ≡ set_number e k z → FiveRoom l ch m (five e' f t o c)
room_set k z {e} r put =
    record { e_room = rw put (rw (length_set_number e k z) r.e_room); f_room = r.f_room; t_room = r.t_room; o_room = r.o_room; c_room = r.c_room }

module _ {l : FullLattice} {ch : Choice} {m : ℕ} {x : Fixed} (e : ℕ) (z : C64) (v : Five) {flags : List ℕ} (limits : Limits l.grid) (there : e < edges_on l 0) (told : FlagsOf l ch m (hit l e ch) flags)
    (room : FiveRoom l ch m v) {e₁ : List Float} (put : e₁ ≡ set_number v.e e z) {n : ℕ} {u : Five}
    (tried : Restored l ch m x (flagged_rows l ch m flags) (five e₁ v.f v.t v.o v.c) n u) where
  tried_put : Restored l ch m x (flagged_rows l ch m flags) (five (set_number v.e e z) v.f v.t v.o v.c) n u
  tried_put = subst (λ (xs : List Float). Restored l ch m x (flagged_rows l ch m flags) (five xs v.f v.t v.o v.c) n u) put tried

  pub renewed_done : n ≡ 0 → EdgeRenewed l ch m x (change_to e z) v 0 u
  renewed_done y = edge_done e z v limits there told (edge_room room there) tried_put y

  pub renewed_back : {old : C64} → old ≡ number_at v.e e → {e₂ : List Float} → e₂ ≡ set_number u.e e old → (n ≡ 0 → ⊥) → EdgeRenewed l ch m x (change_to e z) v n (five e₂ u.f u.t u.o u.c)
  renewed_back {old} o {e₂} again k =
      let a : e₂ ≡ set_number u.e e (number_at v.e e) = again ∙ ap (set_number u.e e) o in
      subst (λ (xs : List Float). EdgeRenewed l ch m x (change_to e z) v n (five xs u.f u.t u.o u.c)) (sym a) (edge_back e z v limits there told (edge_room room there) tried_put k)

-- what 11 has tested is what the rows ask for
pub shaped_by : {l : FullLattice} {ch : Choice} {m : ℕ} (b : Store) → Limits l.grid → m ≤ 11 → Enough l ch m (sizes b) → is_sound (all_to 11 (level_matches l ch m b) (suc m)) ≡ true
    → Shaped l ch m (fixed b.forward_starts b.forward_columns b.turned_starts b.turned_columns b.operator_starts b.operator_columns)
shaped_by {l} {ch} {m} b limits few enough e =
    let s : Structured l ch m b = differs_none l ch m b e in
    record {
      limits = limits;
      few = few;
      room =
          record {
            fs_room = enough.forward_starts_are;
            fc_room = enough.forward_columns_are;
            ts_room = enough.turned_starts_are;
            tc_room = enough.turned_columns_lem;
            os_room = enough.operator_starts_are;
            oc_room = enough.operator_columns_are;
          };
      ends = b.ends;
      structured = λ v. record { ends_are = s.ends_are; forward_are = s.forward_are; turned_are = s.turned_are; operator_are = s.operator_are };
    }

pub fixed_room : {l : FullLattice} {ch : Choice} {m : ℕ} (b : Store) → Enough l ch m (sizes b)
    → FixedRoom l ch m (fixed b.forward_starts b.forward_columns b.turned_starts b.turned_columns b.operator_starts b.operator_columns)
fixed_room b enough =
    record {
      fs_room = enough.forward_starts_are;
      fc_room = enough.forward_columns_are;
      ts_room = enough.turned_starts_are;
      tc_room = enough.turned_columns_lem;
      os_room = enough.operator_starts_are;
      oc_room = enough.operator_columns_are;
    }

pub five_room : {l : FullLattice} {ch : Choice} {m : ℕ} (b : Store) → Enough l ch m (sizes b) → FiveRoom l ch m (five b.permittivities b.forward_values b.turned_values b.operator_values b.scaling)
five_room b enough =
    record { e_room = enough.eps_room; f_room = enough.forward_values_are; t_room = enough.turned_values_are; o_room = enough.operator_values_are; c_room = enough.scaling_room }

-- an edge that is there and a value that is sound
pub edit_passed : (l : FullLattice) (v : Lattice) (e : ℕ) (z : C64) → v.grid ≡ l.grid → is_sound (edit_verdict v e z) ≡ true → (e < edges_on l 0) × ((changes l).bad (change_to e z) ≡ none)
unfolding edit_verdict
edit_passed l v e z g h = go (ltb e (unknowns_of v.grid)) refl (bad_number z) refl
  where
    n : unknowns_of v.grid ≡ edges_on l 0
    n = ap unknowns_of g ∙ first_edges l

    go : (p : Bool) → ltb e (unknowns_of v.grid) ≡ p → (q : Bool) → bad_number z ≡ q → (e < edges_on l 0) × ((changes l).bad (change_to e z) ≡ none)
    go true x false y =
        let b : ltb e (edges_on l 0) ≡ true = rw (sym n) x in
        (ltb-true e (edges_on l 0) b, rw (b, y) refl)
    go true x true y = absurd (false≢true (rw (x, y) at h))
    go false x q y = absurd (false≢true (rw x at h))

-- 9 and 10 in the plan's words
edit_verdict_lem : (i : Input) (e : ℕ) (z : C64) → edit_verdict i.lattice e z ≡ bad_verdict ((changes (full_of i)).bad (change_to e z)) e
unfolding edit_verdict
edit_verdict_lem i e z = rw (sym n) (go (ltb e (unknowns_of i.lattice.grid)) (bad_number z))
  where
    n : unknowns_of i.lattice.grid ≡ edges_on (full_of i) 0
    n = ap unknowns_of (sym (lattice_grid i.lattice i.xn i.xh i.yn i.yh i.zn i.zh)) ∙ first_edges (full_of i)

    go : (p q : Bool) → cond p (cond q (refused 10 e) (accepted 0)) (refused 9 e) ≡ bad_verdict (cond p (cond q (some BadValue) none) (some NoEdge)) e
    go true true = refl
    go true false = refl
    go false q = refl

-- ---- with the checks

module _ (i : Input) (s : Store) (e : ℕ) (z : C64) {w : Verdict} (checked : w ≡ check_stretches i.lattice i.xn i.xh i.yn i.yh i.zn i.zh) where
  pub change_checked : is_sound w ≡ false → result_of w s ≡ change_of i s (change_to e z)
  unfolding change_of
  change_checked h =
      ap (λ (u : Verdict). result_of u s) checked
      ∙ unless_refused (check_stretches i.lattice i.xn i.xh i.yn i.yh i.zn i.zh) s _ (ap is_sound (sym checked) ∙ h)

  module _ (h : is_sound w ≡ true) {k : Verdict} (edited : k ≡ edit_verdict i.lattice e z) where
    goes_on : change_of i s (change_to e z) ≡ unless (bad_verdict ((changes (full_of i)).bad (change_to e z)) e) s (changed_behind (full_of i) i.choice i.coarsest s (change_to e z))
    unfolding change_of changed_behind
    goes_on = unless_sound (check_stretches i.lattice i.xn i.xh i.yn i.yh i.zn i.zh) s _ (ap is_sound (sym checked) ∙ h)

    k_is : k ≡ bad_verdict ((changes (full_of i)).bad (change_to e z)) e
    k_is = edited ∙ edit_verdict_lem i e z

    pub change_edit : is_sound k ≡ false → result_of k s ≡ change_of i s (change_to e z)
    change_edit y =
        ap (λ (u : Verdict). result_of u s) k_is
        ∙ unless_refused (bad_verdict ((changes (full_of i)).bad (change_to e z)) e) s (changed_behind (full_of i) i.choice i.coarsest s (change_to e z)) (ap is_sound (sym k_is) ∙ y)
        ∙ sym goes_on

    pub change_settled : is_sound k ≡ true → {l : FullLattice} → l ≡ full_of i → {r : Result} → r ≡ changed_behind l i.choice i.coarsest s (change_to e z) → r ≡ change_of i s (change_to e z)
    change_settled y full q =
        q ∙ ap (λ (f : FullLattice). changed_behind f i.choice i.coarsest s (change_to e z)) full
        ∙ sym (goes_on ∙ unless_sound (bad_verdict ((changes (full_of i)).bad (change_to e z)) e) s (changed_behind (full_of i) i.choice i.coarsest s (change_to e z)) (ap is_sound (sym k_is) ∙ y))
