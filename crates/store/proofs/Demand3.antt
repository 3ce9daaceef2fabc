-- After an accepted setup any list of changes answers as the book of permittivities does, and leaves what a setup from the book's list leaves in the
-- lists as they stood before. Beside it: what a change leaves alone, when it is refused, and that the store stays consistent. Assumes nothing.
use Prim.Native.Nat.{ℕ, suc}
use mathlib.Core.Path.{◌≡◌, refl, sym, ap, ◌∙◌}
use mathlib.Core.Bool.{Bool, true, false, cond, ◌&&◌}
use mathlib.Core.List.{List, ◌∷◌, []}
use mathlib.Core.Option.{Option, none, some}
use lib.Dec.{eqb, ltb}
use lib.Ieee.{Float}
use Rattle.numbers.specs.Lists.{In}
use Rattle.numbers.specs.Places.{set_number}
use Rattle.lattice.specs.Check.{Verdict, accepted, refused, is_sound, check_stretches}
use Rattle.lattice.specs.Grid.{unknowns_of}
use Rattle.store.specs.Plan.{Rules, Consistent, Stands, run, first_bad, reached}
use Rattle.store.specs.Book.{Answer, Done, Bad, NotFinite, Edits, settle, gate, change}
use Rattle.store.specs.Store.{Store, sizes}
use Rattle.store.specs.Places.{Place, space, get}
use Rattle.store.specs.Spots.{permittivity, spot, cells, laid_from}
use Rattle.store.specs.Rows.{rules}
use Rattle.store.specs.Changes.{Change, Why, changes}
use Rattle.store.specs.Setup.{Input, full_of, transfers_of, Result, result_of, unless, all_to, structure_of, setup_of}
use Rattle.store.specs.Calls.{level_matches, bad_verdict, settled, change_of, Told, told, noted, book_of, store_after, store_answers, book_after, book_answers}
use Rattle.store.proofs.CallLaws.{Fine, planned_told, planned_is, here, here_consistent, booked, step}
use Rattle.store.proofs.PlaceLaws.{puts_out}
use Rattle.store.proofs.PlanLaws.{run_outside}
use Rattle.store.proofs.PlannedLaws.{setup_planned}
use Rattle.store.proofs.SpaceLaws.{lawful}

-- ---- calls that leave the store as it was, or as r has it

unless_keeps : (Q : Store → Type 0) (v : Verdict) (s : Store) (r : Result) → Q s → Q r.store → Q (unless v s r).store
unless_keeps Q (accepted n) s r x y = y
unless_keeps Q (refused n p) s r x y = x

settled_keeps : (Q : Store → Type 0) (n : ℕ) (a : Answer Why) (s : Store) (e : ℕ) (z : Store) → Q s → Q z → Q (settled n a s e z).store
settled_keeps Q n Done s e z x y = x
settled_keeps Q n (Bad why) s e z x y = y
settled_keeps Q n (NotFinite L) s e z x y = y

change_keeps : (Q : Store → Type 0) (R : Rules space) (E : Edits space Why) (s : Store) (c : E.Change) → Q s → Q (run R (reached R (E.spots c)) (E.edit s c)) → Q (change R E s c).store
unfolding change
change_keeps Q R E s c x y = go (E.bad c) (first_bad R (reached R (E.spots c)) (E.edit s c))
  where
    go : (w : Option Why) (f : Option ℕ) → Q (gate {X = space} {Why = Why} w (settle f (run R (reached R (E.spots c)) (E.edit s c)) s) s).store
    go none none = y
    go none (some L) = x
    go (some why) f = x

-- ---- the book's answer

noted_sound : (v : Verdict) (e : ℕ) (new old : List Float) → is_sound (noted v e new old).verdict ≡ is_sound v
noted_sound (accepted n) e new old = refl
noted_sound (refused n p) e new old = go (eqb n 4)
  where
    go : (b : Bool) → is_sound (cond b (refused 10 e) (refused n p)) ≡ false
    go true = refl
    go false = refl

book_sound : (i : Input) (b : Store) (eps : List Float) (c : Change)
    → is_sound (book_of i b eps c).verdict ≡ (ltb c.edge (unknowns_of i.lattice.grid) && is_sound (setup_of i (set_number eps c.edge c.value) b).verdict)
unfolding book_of
book_sound i b eps c = go (ltb c.edge (unknowns_of i.lattice.grid))
  where
    copy : List Float
    copy = set_number eps c.edge c.value

    go : (q : Bool) → is_sound (cond q (noted (setup_of i copy b).verdict c.edge copy eps) (told (refused 9 c.edge) eps)).verdict ≡ (q && is_sound (setup_of i copy b).verdict)
    go true = noted_sound (setup_of i copy b).verdict c.edge copy eps
    go false = refl

-- ---- the theorem

module _ (i : Input) (b : Store) where
  -- the count of levels
  abbrev levels : ℕ
  levels = suc (transfers_of i)

  setup_told : (eps : List Float) {n : ℕ} → (setup_of i eps b).verdict ≡ accepted n → Fine i b eps
  setup_told eps ok = planned_told i b eps (ap (λ (r : Result). is_sound r.verdict) (sym (setup_planned i eps b)) ∙ ap is_sound ok)

  setup_is : (eps : List Float) (f : Fine i b eps) → setup_of i eps b ≡ result_of (accepted levels) (here i b eps f)
  setup_is eps f = setup_planned i eps b ∙ planned_is i b eps f

  book_is : (eps : List Float) (f : Fine i b eps) (c : Change) → book_of i b eps c ≡ booked i b eps f c
  unfolding book_of
  book_is eps f c =
      let copy = set_number eps c.edge c.value in
      ap (λ (r : Result). cond (ltb c.edge (unknowns_of i.lattice.grid)) (noted r.verdict c.edge copy eps) (told (refused 9 c.edge) eps)) (setup_planned i copy b)

  -- one change
  change_noted : (eps : List Float) (f : Fine i b eps) (c : Change)
      → ((change_of i (here i b eps f) c).verdict ≡ (book_of i b eps c).verdict) × (setup_of i (book_of i b eps c).list b ≡ result_of (accepted levels) (change_of i (here i b eps f) c).store)
  change_noted eps f c =
      let s = step i b eps f c in
      let e = book_is eps f c in
      (s.0 ∙ ap (λ (t : Told). t.verdict) (sym e), ap (λ (t : Told). setup_of i t.list b) e ∙ setup_planned i (booked i b eps f c).list b ∙ s.1)

  all_changes : (eps : List Float) → (setup_of i eps b).verdict ≡ accepted levels → (cs : List Change)
      → (setup_of i (book_after i b eps cs) b ≡ result_of (accepted levels) (store_after i (setup_of i eps b).store cs))
      × (store_answers i (setup_of i eps b).store cs ≡ book_answers i b eps cs)
  unfolding book_after store_after store_answers book_answers
  all_changes eps ok [] = let e = setup_is eps (setup_told eps ok) in (e ∙ ap (λ (r : Result). result_of (accepted levels) r.store) (sym e), refl)
  all_changes eps ok (c ∷ cs) =
      let f = setup_told eps ok in
      let e = ap (λ (r : Result). r.store) (setup_is eps f) in
      let s = change_noted eps f c in
      let next = (book_of i b eps c).list in
      let good : (setup_of i next b).verdict ≡ accepted levels = ap (λ (r : Result). r.verdict) s.1 in
      let there : (setup_of i next b).store ≡ (change_of i (here i b eps f) c).store = ap (λ (r : Result). r.store) s.1 in
      let rest = all_changes next good cs in
      rw e (rw (sym there) (rest.0, λ t. s.0 t ∷ rest.1 t))

  -- DEMAND 3: n is the count of levels, which stays
  pub store_is_book : (eps : List Float) {n : ℕ} → (setup_of i eps b).verdict ≡ accepted n → (cs : List Change)
      → (setup_of i (book_after i b eps cs) b ≡ result_of (accepted n) (store_after i (setup_of i eps b).store cs))
      × (store_answers i (setup_of i eps b).store cs ≡ book_answers i b eps cs)
  store_is_book eps {n} ok cs =
      let e : accepted n ≡ accepted levels = sym ok ∙ ap (λ (r : Result). r.verdict) (setup_is eps (setup_told eps ok)) in
      let t = all_changes eps (ok ∙ e) cs in
      (t.0 ∙ ap (λ (v : Verdict). result_of v (store_after i (setup_of i eps b).store cs)) (sym e), t.1)

  -- ---- beside it

  module _ (eps : List Float) {n : ℕ} (ok : (setup_of i eps b).verdict ≡ accepted n) (cs : List Change) where
    -- what is in force behind the changes
    abbrev held : List Float
    held = book_after i b eps cs

    fine_now : Fine i b held
    fine_now = setup_told held (ap (λ (r : Result). r.verdict) (store_is_book eps ok cs).0)

    now_here : store_after i (setup_of i eps b).store cs ≡ here i b held fine_now
    now_here = ap (λ (r : Result). r.store) (sym (store_is_book eps ok cs).0 ∙ setup_is held fine_now)

    -- behind any changes each row holds what its rule says of the store itself
    pub changes_consistent : Consistent (rules (full_of i) i.choice (transfers_of i)) (store_after i (setup_of i eps b).store cs)
    changes_consistent = rw now_here (here_consistent i b held fine_now)

    -- one more is accepted exactly when there is such an edge and a setup from the copy would be
    pub accepted_exactly : (c : Change) → is_sound (change_of i (store_after i (setup_of i eps b).store cs) c).verdict
        ≡ (ltb c.edge (unknowns_of i.lattice.grid) && is_sound (setup_of i (set_number held c.edge c.value) b).verdict)
    accepted_exactly c = rw now_here (ap is_sound (change_noted held fine_now c).0 ∙ book_sound i b held c)

-- a change writes nothing but the permittivity of its edge and the rows that it reaches: of every store, whatever its holder put there
module _ (i : Input) (s : Store) (c : Change) where
  abbrev plan : Rules space
  plan = rules (full_of i) i.choice (transfers_of i)

  abbrev hot : List Place
  hot = cells (spot permittivity c.edge)

  pub outside_keeps : (p : Place) → (In p hot → ⊥) → (Stands plan p (reached plan hot) → ⊥) → get (change_of i s c).store p ≡ get s p
  unfolding change_of
  outside_keeps p out away =
      let l = full_of i in
      let a = (changes l).edit s c in
      let kept : Store → Type 0 = λ t. get t p ≡ get s p in
      let o = change plan (changes l) s c in
      let ran : get (run plan (reached plan hot) a) p ≡ get s p = run_outside plan lawful (reached plan hot) a p away ∙ puts_out space lawful s hot (laid_from (c.value ∷ []) c.edge) p out in
      unless_keeps kept (check_stretches i.lattice i.xn i.xh i.yn i.yh i.zn i.zh) s _ refl
      (unless_keeps kept (bad_verdict ((changes l).bad c) c.edge) s _ refl
      (unless_keeps kept (structure_of i (sizes s)) s _ refl
      (unless_keeps kept (all_to 11 (level_matches l i.choice (transfers_of i) s) (suc (transfers_of i))) s _ refl
      (settled_keeps kept (suc (transfers_of i)) o.answer o.store c.edge s (change_keeps kept plan (changes l) s c refl ran) refl))))
