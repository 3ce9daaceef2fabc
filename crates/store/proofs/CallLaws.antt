-- One change after an accepted setup, the setup being the plan's run: it answers as the book of permittivities does, and leaves what a setup from the
-- book's list leaves. Assumes nothing.
use Prim.Native.Nat.{ℕ, suc, ◌*◌}
use mathlib.Core.Path.{◌≡◌, refl, sym, ap, subst, ◌∙◌}
use mathlib.Core.Bool.{Bool, true, false, cond, false≢true}
use mathlib.Core.List.{List, ◌∷◌, []}
use mathlib.Core.Option.{Option, none, some}
use lib.Dec.{ltb}
use lib.Ieee.{Float}
use borrow.Author.Tests.{ltb-true}
use Rattle.numbers.specs.Places.{set_number}
use Rattle.lattice.specs.Check.{Verdict, accepted, refused, entry_refused, is_sound, bad_number, check_of, check_stretches}
use Rattle.lattice.specs.Grid.{unknowns_of, Limits}
use Rattle.lattice.specs.Lattice.{FullLattice}
use Rattle.operators.specs.LevelLists.{edges_on}
use Rattle.operators.proofs.LevelListLaws.{first_edges}
use Rattle.store.specs.Plan.{Consistent, run, first_bad as first_level}
use Rattle.store.specs.Book.{Answer, Done, Bad, NotFinite, Outcome, settle, set_up, change, note, after, answers, values_after}
use Rattle.store.specs.Store.{Store, Sizes, sizes, zeroed}
use Rattle.store.specs.Places.{space}
use Rattle.store.specs.Layout.{Enough}
use Rattle.store.specs.declared.Choice.{Choice}
use Rattle.store.specs.Rows.{rules, full}
use Rattle.store.specs.Changes.{Change, Why, NoEdge, BadValue, changes}
use Rattle.store.specs.Setup.{Input, full_of, transfers_of, Result, result_of, unless, all_to, short_of, levels_of, structure_of}
use Rattle.store.specs.Load.{load}
use Rattle.store.specs.Work.{Structured}
use Rattle.store.specs.Calls.{level_matches, why_verdict, bad_verdict, settled, planned_of, change_of, Told, told, noted}
use Rattle.store.proofs.PlanLaws.{run_shape, set_up_consistent}
use Rattle.lattice.proofs.CheckLaws.{and_second}
use Rattle.lattice.proofs.LatticeLaws.{lattice_grid}
use Rattle.store.proofs.RangeLaws.{ranges}
use Rattle.store.proofs.SetupLaws.{Values, load_structured, load_sizes, fits, demand_3}
use Rattle.store.proofs.StoreLaws.{laws, room}
use Rattle.store.proofs.VerdictLaws.{unless_sound, unless_told, enough_told}
use Rattle.store.proofs.StructureLaws.{nothing_differs, run_structured}
use Rattle.store.proofs.CheckedLaws.{list_long, limits_hold, stretches_pass, copy_good, copy_bad}

settled_told : (k : ℕ) (a : Answer Why) (s : Store) (e : ℕ) (z : Store) → is_sound (settled k a s e z).verdict ≡ true → a ≡ Done
settled_told k Done s e z h = refl
settled_told k (Bad NoEdge) s e z h = absurd (false≢true h)
settled_told k (Bad BadValue) s e z h = absurd (false≢true h)
settled_told k (NotFinite L) s e z h = absurd (false≢true h)

abbrev head_or : Answer Why → List (Answer Why) → Answer Why
head_or d [] = d
head_or d (a ∷ xs) = a

-- what the first bad level says is the answer, whatever is left
settle_answer : (f : Option ℕ) (x y u w : Store) → (settle {X = space} {Why = Why} f x y).answer ≡ (settle {X = space} {Why = Why} f u w).answer
settle_answer none x y u w = refl
settle_answer (some L) x y u w = refl

abbrev IsDone : Answer Why → Type 0
IsDone Done = Unit {0}
IsDone (Bad why) = ⊥
IsDone (NotFinite k) = ⊥

not_done : {L : ℕ} → ◌≡◌ {A = Answer Why} (NotFinite L) Done → ⊥
not_done z = subst IsDone (sym z) tt

module _ (i : Input) (b : Store) where
  abbrev l : FullLattice
  l = full_of i

  abbrev ch : Choice
  ch = i.choice

  abbrev m : ℕ
  m = transfers_of i

  abbrev check : List Float → Verdict
  check eps = check_of i.lattice i.xn i.xh i.yn i.yh i.zn i.zh eps

  -- an accepted setup
  pub record Fine (eps : List Float) : Type 0 where
    pub checked : is_sound (check eps) ≡ true
    pub structure : is_sound (structure_of i (sizes b)) ≡ true
    pub done : (set_up (rules l ch m) Why (load l ch m b eps)).answer ≡ Done

  pub planned_told : (eps : List Float) → is_sound (planned_of i eps b).verdict ≡ true → Fine eps
  unfolding planned_of
  planned_told eps e =
      let o = set_up (rules l ch m) Why (load l ch m b eps) in
      let y = settled (suc m) o.answer o.store 0 (zeroed b) in
      let p = unless_told (check eps) b (unless (structure_of i (sizes b)) (zeroed b) y) e in
      let q = unless_told (structure_of i (sizes b)) (zeroed b) y p.1 in
      record { checked = p.0; structure = q.0; done = settled_told (suc m) o.answer o.store 0 (zeroed b) q.1 }

  -- past the checks
  pub planned_past : (eps : List Float) → is_sound (check eps) ≡ true → is_sound (structure_of i (sizes b)) ≡ true
      → planned_of i eps b ≡ settled (suc m) (set_up (rules l ch m) Why (load l ch m b eps)).answer (set_up (rules l ch m) Why (load l ch m b eps)).store 0 (zeroed b)
  unfolding planned_of
  planned_past eps x y =
      let o = set_up (rules l ch m) Why (load l ch m b eps) in
      let z = settled (suc m) o.answer o.store 0 (zeroed b) in
      unless_sound (check eps) b (unless (structure_of i (sizes b)) (zeroed b) z) x ∙ unless_sound (structure_of i (sizes b)) (zeroed b) z y

  pub planned_is : (eps : List Float) → Fine eps → planned_of i eps b ≡ result_of (accepted (suc m)) (set_up (rules l ch m) Why (load l ch m b eps)).store
  planned_is eps f = planned_past eps f.checked f.structure ∙ rw f.done refl

  pub limits_of : (eps : List Float) → is_sound (check eps) ≡ true → Limits l.grid
  limits_of eps f =
      rw (lattice_grid i.lattice i.xn i.xh i.yn i.yh i.zn i.zh) (limits_hold i.lattice i.xn i.xh i.yn i.yh i.zn i.zh eps f)

  pub enough_of : is_sound (structure_of i (sizes b)) ≡ true → Enough l ch m (sizes b)
  enough_of f = enough_told l ch m (sizes b) (and_second (levels_of i) (short_of l ch m (sizes b)) f)

  edges_are : unknowns_of i.lattice.grid ≡ edges_on l 0
  edges_are = sym (ap unknowns_of (lattice_grid i.lattice i.xn i.xh i.yn i.yh i.zn i.zh)) ∙ first_edges l

  module _ (eps : List Float) (f : Fine eps) where
    limits : Limits l.grid
    limits = limits_of eps f.checked

    enough : Enough l ch m (sizes b)
    enough = enough_of f.structure

    abbrev values : Values (edges_on l 0)
    values = record { list = eps; long = list_long i.lattice i.xn i.xh i.yn i.yh i.zn i.zh eps f.checked ∙ ap (λ (k : ℕ). 2 * k) edges_are }

    abbrev pub here : Store
    here = (set_up (rules l ch m) Why (load l ch m b eps)).store

    here_run : here ≡ run (rules l ch m) (full l ch m) (load l ch m b eps)
    unfolding set_up
    here_run = go (first_level (rules l ch m) (full l ch m) (load l ch m b eps)) f.done
      where
        go : (o : Option ℕ) → (settle {X = space} {Why = Why} o (run (rules l ch m) (full l ch m) (load l ch m b eps)) (load l ch m b eps)).answer ≡ Done
            → (settle {X = space} {Why = Why} o (run (rules l ch m) (full l ch m) (load l ch m b eps)) (load l ch m b eps)).store ≡ run (rules l ch m) (full l ch m) (load l ch m b eps)
        go none e = refl
        go (some L) e = absurd (not_done e)

    -- each row holds what its rule says of the store itself
    pub here_consistent : Consistent (rules l ch m) here
    here_consistent =
        rw here_run (set_up_consistent (laws l ch m (ranges l limits)) (load l ch m b eps) (rw (load_sizes l ch m b enough eps) (room l ch m (ranges l limits) (sizes b) enough)))

    here_sizes : sizes here ≡ sizes b
    here_sizes = ap sizes here_run ∙ run_shape (laws l ch m (ranges l limits)) (full l ch m) (load l ch m b eps) ∙ load_sizes l ch m b enough eps

    here_structured : Structured l ch m here
    here_structured = rw here_run (run_structured l ch m limits (load l ch m b eps) (load_structured l ch m b enough eps))

    module _ (c : Change) where
      abbrev new : Outcome space Why
      new = change (rules l ch m) (changes l) here c

      abbrev asked : Result
      asked = settled (suc m) new.answer new.store c.edge here

      abbrev differs : Result
      differs = unless (all_to 11 (level_matches l ch m here) (suc m)) here asked

      stretched : is_sound (check_stretches i.lattice i.xn i.xh i.yn i.yh i.zn i.zh) ≡ true
      stretched = stretches_pass i.lattice i.xn i.xh i.yn i.yh i.zn i.zh eps f.checked

      -- past the stretches a change is asked for its edge and value
      change_from : change_of i here c ≡ unless (bad_verdict ((changes l).bad c) c.edge) here (unless (structure_of i (sizes here)) here differs)
      unfolding change_of
      change_from = unless_sound (check_stretches i.lattice i.xn i.xh i.yn i.yh i.zn i.zh) here _ stretched

      -- past the checks it is the plan's
      change_past : (changes l).bad c ≡ none → change_of i here c ≡ asked
      change_past g =
          change_from
          ∙ (rw g refl)
          ∙ unless_sound (structure_of i (sizes here)) here differs (ap (λ (h : Sizes). is_sound (structure_of i h)) here_sizes ∙ f.structure)
          ∙ unless_sound (all_to 11 (level_matches l ch m here) (suc m)) here asked (ap is_sound (nothing_differs l ch m here here_structured))

      -- and one that is refused before that leaves the store
      change_stops : (why : Why) → (changes l).bad c ≡ some why → change_of i here c ≡ result_of (why_verdict why c.edge) here
      change_stops why g = change_from ∙ rw g (go why)
        where
          go : (y : Why) → unless (why_verdict y c.edge) here (unless (structure_of i (sizes here)) here differs) ≡ result_of (why_verdict y c.edge) here
          go NoEdge = refl
          go BadValue = refl

      abbrev pub copied : List Float
      copied = set_number eps c.edge c.value

      -- what is to be shown of a change, the book's list after it being xs
      abbrev pub Step : Verdict → List Float → Type 0
      Step w xs = ((change_of i here c).verdict ≡ w) × (planned_of i xs b ≡ result_of (accepted (suc m)) (change_of i here c).store)

      stays : (why : Why) → (changes l).bad c ≡ some why → Step (why_verdict why c.edge) eps
      stays why g = let z = change_stops why g in (ap (λ (r : Result). r.verdict) z, planned_is eps f ∙ ap (λ (r : Result). result_of (accepted (suc m)) r.store) (sym z))

      -- the plan's answer is that of a setup from the copy
      answer_same : (changes l).bad c ≡ none → new.answer ≡ (set_up (rules l ch m) Why (load l ch m b copied)).answer
      unfolding set_up note answers
      answer_same g =
          let t = demand_3 l ch m b enough limits values f.done (c ∷ []) in
          let z : load l ch m b copied ≡ (changes l).edit (load l ch m b eps) c = fits l ch m b enough values c g in
          ap (head_or Done) t.1
          ∙ rw (g, sym z) (settle_answer (first_level (rules l ch m) (full l ch m) (load l ch m b copied)) (load l ch m b copied) (load l ch m b eps)
          (run (rules l ch m) (full l ch m) (load l ch m b copied)) (load l ch m b copied))

      fine_copy : (changes l).bad c ≡ none → is_sound (check copied) ≡ true → (set_up (rules l ch m) Why (load l ch m b copied)).answer ≡ Done → Fine copied
      fine_copy g k a = record { checked = k; structure = f.structure; done = a }

      -- accepted: the store after it is what a setup from the copy leaves
      store_same : (changes l).bad c ≡ none → (set_up (rules l ch m) Why (load l ch m b copied)).answer ≡ Done → (set_up (rules l ch m) Why (load l ch m b copied)).store ≡ new.store
      unfolding answers after values_after
      store_same g a =
          let t = demand_3 l ch m b enough limits values f.done (c ∷ []) in
          let told_done : (note (rules l ch m) (changes l) (load l ch m b eps) c).answer ≡ Done = sym (ap (head_or Done) t.1) ∙ answer_same g ∙ a in
          let z = rw told_done at t.0 in
          ap (λ (o : Outcome space Why). o.store) z

      abbrev first : Option ℕ
      first = first_level (rules l ch m) (full l ch m) (load l ch m b copied)

      answer_of_lem : (o : Option ℕ) → first ≡ o → (set_up (rules l ch m) Why (load l ch m b copied)).answer ≡ (settle {X = space} {Why = Why} o here here).answer
      unfolding set_up
      answer_of_lem o z = rw z (settle_answer o (run (rules l ch m) (full l ch m) (load l ch m b copied)) (load l ch m b copied) here here)

      -- a change of a number that is finite and not zero
      works : (changes l).bad c ≡ none → is_sound (check copied) ≡ true
          → Step (noted (planned_of i copied b).verdict c.edge copied eps).verdict (noted (planned_of i copied b).verdict c.edge copied eps).list
      works g k = go first refl
        where
          go : (o : Option ℕ) → first ≡ o → Step (noted (planned_of i copied b).verdict c.edge copied eps).verdict (noted (planned_of i copied b).verdict c.edge copied eps).list
          go none z =
              let a : (set_up (rules l ch m) Why (load l ch m b copied)).answer ≡ Done = answer_of_lem none z in
              let x : new.answer ≡ Done = answer_same g ∙ a in
              let y : change_of i here c ≡ result_of (accepted (suc m)) new.store = change_past g ∙ ap (λ (q : Answer Why). settled (suc m) q new.store c.edge here) x in
              let u : planned_of i copied b ≡ result_of (accepted (suc m)) new.store = planned_is copied (fine_copy g k a) ∙ ap (λ (t : Store). result_of (accepted (suc m)) t) (store_same g a) in
              let v : (planned_of i copied b).verdict ≡ accepted (suc m) = ap (λ (r : Result). r.verdict) u in
              rw v (ap (λ (r : Result). r.verdict) y, u ∙ ap (λ (r : Result). result_of (accepted (suc m)) r.store) (sym y))
          go (some L) z =
              let a : (set_up (rules l ch m) Why (load l ch m b copied)).answer ≡ NotFinite L = answer_of_lem (some L) z in
              let x : new.answer ≡ NotFinite L = answer_same g ∙ a in
              let y : change_of i here c ≡ result_of (refused 7 L) here = change_past g ∙ ap (λ (q : Answer Why). settled (suc m) q new.store c.edge here) x in
              let v : (planned_of i copied b).verdict ≡ refused 7 L =
              ap (λ (r : Result). r.verdict) (planned_past copied k f.structure ∙ ap (λ (q : Answer Why). settled (suc m) q (set_up (rules l ch m) Why (load l ch m b copied)).store 0 (zeroed b)) a) in
              rw v (ap (λ (r : Result). r.verdict) y, planned_is eps f ∙ ap (λ (r : Result). result_of (accepted (suc m)) r.store) (sym y))

      -- a number that is not finite, or zero: the setup's 4 is the change's 10
      spoils : (changes l).bad c ≡ some BadValue → (p : ℕ) → check copied ≡ entry_refused p
          → Step (noted (planned_of i copied b).verdict c.edge copied eps).verdict (noted (planned_of i copied b).verdict c.edge copied eps).list
      unfolding planned_of
      spoils g p z = rw z (stays BadValue g)

      -- the book's answer, by the plan
      abbrev pub booked : Told
      booked = cond (ltb c.edge (unknowns_of i.lattice.grid)) (noted (planned_of i copied b).verdict c.edge copied eps) (told (refused 9 c.edge) eps)

      -- ONE CHANGE
      pub step : Step booked.verdict booked.list
      step = go (ltb c.edge (unknowns_of i.lattice.grid)) refl (bad_number c.value) refl
        where
          bad_is : (q z : Bool) → ltb c.edge (unknowns_of i.lattice.grid) ≡ q → bad_number c.value ≡ z → (changes l).bad c ≡ cond q (cond z (some BadValue) none) (some NoEdge)
          bad_is q z x y = rw (sym edges_are, x, y) refl

          go : (q : Bool) → ltb c.edge (unknowns_of i.lattice.grid) ≡ q → (z : Bool) → bad_number c.value ≡ z
              → let t = cond q (noted (planned_of i copied b).verdict c.edge copied eps) (told (refused 9 c.edge) eps) in Step t.verdict t.list
          go true x true y =
              let h = ltb-true c.edge (unknowns_of i.lattice.grid) x in
              let t = copy_bad i.lattice i.xn i.xh i.yn i.yh i.zn i.zh eps f.checked c.edge c.value h y in
              spoils (bad_is true true x y) t.0 t.1
          go true x false y =
              let h = ltb-true c.edge (unknowns_of i.lattice.grid) x in
              works (bad_is true false x y) (copy_good i.lattice i.xn i.xh i.yn i.yh i.zn i.zh eps f.checked c.edge c.value h y)
          go false x z y = stays NoEdge (bad_is false z x y)
