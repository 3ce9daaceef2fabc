-- THE THEOREM OF LISTS OF CHANGES: after any list of changes the store is, in every place, what a setup from the values in force leaves, and every answer is
-- the one that such a setup gives. Two orders of the same changes leave one store. Assumes nothing but the laws of the space, its rules and its changes.
use Prim.Native.Nat.{ℕ}
use mathlib.Core.Path.{◌≡◌, refl, sym, ap, subst, ◌∙◌}
use mathlib.Core.Logic.{◌⊎◌, inl, inr, ⊎_elim}
use mathlib.Core.List.{List, [], ◌∷◌}
use mathlib.Core.Option.{Option, none, some}
use Rattle.numbers.specs.Lists.{In}
use Rattle.store.specs.Space.{Space, Look, Lawful, puts}
use Rattle.store.specs.Plan.{Rules, Laws, run, first_bad, reached, Free, Room, Alike}
use Rattle.store.specs.Book.{Edits, EditLaws, One, ones, said, Answer, Done, Bad, NotFinite, Outcome, outcome, after, answers, set_up, change, note, Distinct, SameChanges, AllDone, taken, values_after}
use Rattle.store.proofs.PlaceLaws.{in?, puts_shape, puts_out, puts_in}
use Rattle.store.proofs.PlanLaws.{run_shape, run_keeps, set_up_consistent}
use Rattle.store.proofs.PlanTheorem.{change_is_set_up, change_is_refused, accepted_finite}

abbrev IsDone : {Why : Type 0} → Answer Why → Type 0
IsDone Done = Unit {0}
IsDone (Bad why) = ⊥
IsDone (NotFinite l) = ⊥

-- an answer is not Done and something else
not_done : {Why : Type 0} (a : Answer Why) → (IsDone a → ⊥) → a ≡ Done → ⊥
not_done a n e = n (subst IsDone (sym e) tt)

-- changes of one place
pub one_laws : {X : Space} (R : Rules X) (W : Lawful X) (Why : Type 0) (bad : (p : X.P) → X.Val p → Option Why) (h : X.Shape)
    → ((p : X.P) (v : X.Val p) → bad p v ≡ none → Free R p × X.Has h p) → EditLaws X R Why (ones X Why bad) h
one_laws {X} R W Why bad h allowed =
    record { kept = λ s c. W.keeps s c.place c.value; out = λ s c p n. W.other s c.place p c.value (λ e. n (inl e)); sets = sets; allowed = fits }
  where
    sets : (s t : X.S) (c : One X) → X.shape s ≡ X.shape t → (p : X.P) → In p (c.place ∷ []) → X.Has (X.shape s) p → X.get (X.put s c.place c.value) p ≡ X.get (X.put t c.place c.value) p
    sets s t c e p (inl k) has = rw k (W.same s c.place c.value (rw k at has) ∙ sym (W.same t c.place c.value (rw (k, e) at has)))
    sets s t c e p (inr i) has = absurd i

    fits : (c : One X) → bad c.place c.value ≡ none → (p : X.P) → In p (c.place ∷ []) → Free R p × X.Has h p
    fits c e p (inl k) = rw k (allowed c.place c.value e)
    fits c e p (inr i) = absurd i

-- changes that write what they say
pub said_laws : {X : Space} (R : Rules X) (W : Lawful X) (Why C : Type 0) (spots : C → List X.P) (says : C → Look X) (bad : C → Option Why) (h : X.Shape)
    → ((c : C) → bad c ≡ none → (p : X.P) → In p (spots c) → Free R p × X.Has h p) → EditLaws X R Why (said X Why C spots says bad) h
said_laws {X} R W Why C spots says bad h allowed =
    record { kept = λ s c. puts_shape X W s (spots c) (says c); out = λ s c p n. puts_out X W s (spots c) (says c) p n; sets = sets; allowed = allowed }
  where
    sets : (s t : X.S) (c : C) → X.shape s ≡ X.shape t → (p : X.P) → In p (spots c) → X.Has (X.shape s) p → X.get (puts X s (spots c) (says c)) p ≡ X.get (puts X t (spots c) (says c)) p
    sets s t c e p i has = puts_in X W s (spots c) (says c) p i has ∙ sym (puts_in X W t (spots c) (says c) p i (rw e at has))

module _ {X : Space} {R : Rules X} (L : Laws X R) {Why : Type 0} {E : Edits X Why} {h : X.Shape} (M : EditLaws X R Why E h) (room : Room R h) where
  -- base values that a setup accepts
  abbrev Good : X.S → Type 0
  Good b = (X.shape b ≡ h) × (first_bad R R.full b ≡ none)

  abbrev Told : X.S → E.Change → Type 0
  Told b c = (change R E (run R R.full b) c ≡ outcome (note R E b c).answer (run R R.full (note R E b c).store)) × Good (note R E b c).store

  -- one change of the store s that a setup over b has left
  module _ (b : X.S) (g : Good b) (c : E.Change) where
    room_b : Room R (X.shape b)
    room_b = rw g.0 room

    room_s : Room R (X.shape (run R R.full b))
    room_s = rw (run_shape L R.full b) room_b

    module _ (ok : E.bad c ≡ none) where
      free : (p : X.P) → In p (E.spots c) → Free R p
      free p i = (M.allowed c ok p i).0

      alike : Alike R (E.edit (run R R.full b) c) (E.edit b c)
      alike = (
        M.kept (run R R.full b) c ∙ run_shape L R.full b ∙ sym (M.kept b c),
        λ p n. ⊎_elim
            (λ i. M.sets (run R R.full b) b c (run_shape L R.full b) p i (rw (run_shape L R.full b, g.0) (M.allowed c ok p i).1))
            (λ i. M.out (run R R.full b) c p i ∙ run_keeps L R.full b p n ∙ sym (M.out b c p i))
            (in? X p (E.spots c)),
      )

      same_run : run R (reached R (E.spots c)) (E.edit (run R R.full b) c) ≡ run R R.full (E.edit b c)
      same_run =
          change_is_set_up L (run R R.full b) room_s (set_up_consistent L b room_b) (E.edit (run R R.full b) c) (E.spots c) (M.kept (run R R.full b) c) (M.out (run R R.full b) c) free
          (E.edit b c) alike

      same_level : first_bad R (reached R (E.spots c)) (E.edit (run R R.full b) c) ≡ first_bad R R.full (E.edit b c)
      same_level =
          change_is_refused L (run R R.full b) room_s (set_up_consistent L b room_b) (E.edit (run R R.full b) c) (E.spots c) (M.kept (run R R.full b) c) (M.out (run R R.full b) c) free
          (accepted_finite L b room_b g.1) (E.edit b c) alike

      goes_on : (o : Option ℕ) → first_bad R R.full (E.edit b c) ≡ o → Told b c
      unfolding change note
      goes_on none e = (rw (ok, same_level, same_run, e) refl, rw (ok, e) (M.kept b c ∙ g.0, e))
      goes_on (some l) e = (rw (ok, same_level, same_run, e) refl, rw (ok, e) g)

    one_change : Told b c
    one_change = go (E.bad c) refl
      where
        go : (o : Option Why) → E.bad c ≡ o → Told b c
        go none e = goes_on e (first_bad R R.full (E.edit b c)) refl
        go (some why) e = unfold change note in (rw e (refl, g))

  changes : (b : X.S) → Good b → (cs : List E.Change)
      → (after (change R E) (run R R.full b) cs ≡ run R R.full (after (note R E) b cs))
      × (answers (change R E) (run R R.full b) cs ≡ answers (note R E) b cs)
      × Good (after (note R E) b cs)
  unfolding after answers
  changes b g [] = (refl, refl, g)
  changes b g (c ∷ cs) =
      let t = one_change b g c in
      let k = changes (note R E b c).store t.1 cs in
      (rw t.0 k.0, rw t.0 (ap (λ (l : List (Answer Why)). (note R E b c).answer ∷ l) k.1), k.2)

  done_good : (b : X.S) → (set_up R Why b).answer ≡ Done → first_bad R R.full b ≡ none
  unfolding set_up
  done_good b e = go (first_bad R R.full b) refl
    where
      go : (o : Option ℕ) → first_bad R R.full b ≡ o → first_bad R R.full b ≡ none
      go none k = k
      go (some l) k = absurd (not_done (NotFinite l) (λ n. n) (rw k at e))

  good_done : (b : X.S) → first_bad R R.full b ≡ none → set_up R Why b ≡ outcome Done (run R R.full b)
  unfolding set_up
  good_done b e = rw e refl

  -- From a store that a setup left, after any list of changes: a setup from the values in force accepts them and leaves this very store, and each answer was
  -- the one that such a setup gives
  pub store_is_book : (b : X.S) → X.shape b ≡ h → (set_up R Why b).answer ≡ Done → (cs : List E.Change)
      → (set_up R Why (after (note R E) b cs) ≡ outcome Done (after (change R E) (set_up R Why b).store cs))
      × (answers (change R E) (set_up R Why b).store cs ≡ answers (note R E) b cs)
  store_is_book b sized e cs =
      let g = done_good b e in
      let k = changes b (sized, g) cs in
      rw (good_done b g) (good_done (after (note R E) b cs) k.2.1 ∙ ap (outcome Done) (sym k.0), k.1)

  -- all changes written down
  edit_all : X.S → List E.Change → X.S
  edit_all b [] = b
  edit_all b (c ∷ cs) = edit_all (E.edit b c) cs

  note_done : (b : X.S) (c : E.Change) → (note R E b c).answer ≡ Done → (note R E b c).store ≡ E.edit b c
  unfolding note
  note_done b c e = go (E.bad c) refl (first_bad R R.full (E.edit b c)) refl
    where
      go : (o : Option Why) → E.bad c ≡ o → (f : Option ℕ) → first_bad R R.full (E.edit b c) ≡ f → (note R E b c).store ≡ E.edit b c
      go none k none m = rw (k, m) refl
      go none k (some l) m = absurd (not_done (NotFinite l) (λ n. n) (rw (k, m) at e))
      go (some why) k f m = absurd (not_done (Bad why) (λ n. n) (rw k at e))

  all_noted : (b : X.S) (cs : List E.Change) → AllDone (answers (note R E) b cs) → after (note R E) b cs ≡ edit_all b cs
  unfolding answers after edit_all
  all_noted b [] d = refl
  all_noted b (c ∷ cs) d = let k = note_done b c d.0 in all_noted (note R E b c).store cs d.1 ∙ ap (λ (t : X.S). edit_all t cs) k

  all_shape : (b : X.S) (cs : List E.Change) → X.shape (edit_all b cs) ≡ X.shape b
  unfolding edit_all
  all_shape b [] = refl
  all_shape b (c ∷ cs) = all_shape (E.edit b c) cs ∙ M.kept b c

  all_out : (b : X.S) (cs : List E.Change) (p : X.P) → ((c : E.Change) → In c cs → In p (E.spots c) → ⊥) → X.get (edit_all b cs) p ≡ X.get b p
  unfolding edit_all
  all_out b [] p n = refl
  all_out b (c ∷ cs) p n = all_out (E.edit b c) cs p (λ d i. n d (inr i)) ∙ M.out b c p (n c (inl refl))

  all_at : (b : X.S) (cs : List E.Change) → Distinct E cs → (c : E.Change) → In c cs → (p : X.P) → In p (E.spots c) → X.Has (X.shape b) p → X.get (edit_all b cs) p ≡ X.get (E.edit b c) p
  unfolding edit_all
  all_at b [] u c i p j has = absurd i
  all_at b (d ∷ cs) u c (inl e) p j has = rw e (all_out (E.edit b d) cs p (λ x i. u.0 x i p (rw e at j)))
  all_at b (d ∷ cs) u c (inr i) p j has = all_at (E.edit b d) cs u.1 c i p j (rw (M.kept b d) has) ∙ M.sets (E.edit b d) b c (M.kept b d) p j (rw (M.kept b d) has)

  changed? : (cs : List E.Change) (p : X.P) → ((c : E.Change) × In c cs × In p (E.spots c)) ⊎ ((c : E.Change) → In c cs → In p (E.spots c) → ⊥)
  changed? [] p = inr (λ c i e. i)
  changed? (d ∷ cs) p =
      ⊎_elim (λ j. inl (d, inl refl, j))
      (λ n. ⊎_elim (λ t. inl (t.0, inr t.1, t.2)) (λ g. inr (λ c i j. ⊎_elim (λ k. n (rw k at j)) (λ l. g c l j) i)) (changed? cs p))
      (in? X p (E.spots d))

  same_all : (b : X.S) (cs ds : List E.Change) → Distinct E cs → Distinct E ds → SameChanges E cs ds → edit_all b cs ≡ edit_all b ds
  same_all b cs ds u v k =
      L.lawful.ext (edit_all b cs) (edit_all b ds) (all_shape b cs ∙ sym (all_shape b ds)) λ p has.
      let has_b = rw (all_shape b cs) at has in
      ⊎_elim
      (λ t. all_at b cs u t.0 t.1 p t.2 has_b ∙ sym (all_at b ds v t.0 (k.0 t.0 t.1) p t.2 has_b))
      (λ n. all_out b cs p n ∙ sym (all_out b ds p (λ c i. n c (k.1 c i))))
      (changed? cs p)

  -- two orders of the same changes, of places that are all different, each accepted in both: one store
  pub any_order : (b : X.S) → X.shape b ≡ h → (set_up R Why b).answer ≡ Done → (cs ds : List E.Change) → Distinct E cs → Distinct E ds → SameChanges E cs ds
      → AllDone (answers (change R E) (set_up R Why b).store cs) → AllDone (answers (change R E) (set_up R Why b).store ds)
      → after (change R E) (set_up R Why b).store cs ≡ after (change R E) (set_up R Why b).store ds
  any_order b sized e cs ds u v k x y =
      let s = store_is_book b sized e cs in
      let t = store_is_book b sized e ds in
      ap (λ (o : Outcome X Why). o.store)
      (sym s.0 ∙ ap (set_up R Why) (all_noted b cs (rw s.1 at x) ∙ same_all b cs ds u v k ∙ sym (all_noted b ds (rw t.1 at y))) ∙ t.0)

-- the book, looked at
module _ {X : Space} {Why : Type 0} (R : Rules X) (E : Edits X Why) where
  note_is : (b : X.S) (c : E.Change) → ((note R E b c).store ≡ taken (note R E b c).answer (E.edit b c) b) × ((note R E b c).answer ≡ Done → E.bad c ≡ none)
  unfolding note
  note_is b c = go (E.bad c) refl (first_bad R R.full (E.edit b c)) refl
    where
      go : (o : Option Why) → E.bad c ≡ o → (f : Option ℕ) → first_bad R R.full (E.edit b c) ≡ f
          → ((note R E b c).store ≡ taken (note R E b c).answer (E.edit b c) b) × ((note R E b c).answer ≡ Done → E.bad c ≡ none)
      go none k none m = (rw (k, m) refl, λ _. k)
      go none k (some l) m = (rw (k, m) refl, λ _. k)
      go (some why) k f m = (rw k refl, λ e. absurd (not_done (Bad why) (λ n. n) (rw k at e)))

  -- what every change that is not refused keeps, the values in force keep
  pub values_keep : (Q : X.S → Type 0) → ((b : X.S) (c : E.Change) → Q b → E.bad c ≡ none → Q (E.edit b c)) → (b : X.S) → Q b → (cs : List E.Change) → Q (after (note R E) b cs)
  unfolding after
  values_keep Q keep b q [] = q
  values_keep Q keep b q (c ∷ cs) =
      values_keep Q keep (note R E b c).store (rw (note_is b c).0 (either (note R E b c).answer (λ e. keep b c q ((note_is b c).1 e)))) cs
    where
      either : (a : Answer Why) → (a ≡ Done → Q (E.edit b c)) → Q (taken a (E.edit b c) b)
      either Done h = h refl
      either (Bad why) h = q
      either (NotFinite l) h = q

-- the book over values of the caller's own kind is the book over the stores that are made from them
module _ {X : Space} {Why : Type 0} (R : Rules X) (E : Edits X Why) {B : Type 0} (load : B → X.S) (revise : B → E.Change → B)
    (fits : (v : B) (c : E.Change) → E.bad c ≡ none → load (revise v c) ≡ E.edit (load v) c) where
  taken_load : (a : Answer Why) (x y : B) (s : X.S) → (a ≡ Done → load x ≡ s) → load (taken a x y) ≡ taken a s (load y)
  taken_load Done x y s h = h refl
  taken_load (Bad why) x y s h = refl
  taken_load (NotFinite l) x y s h = refl

  pub values_load : (v : B) (cs : List E.Change) → load (values_after R E load revise v cs) ≡ after (note R E) (load v) cs
  unfolding values_after after
  values_load v [] = refl
  values_load v (c ∷ cs) =
      let a = (note R E (load v) c).answer in
      let k = note_is R E (load v) c in
      values_load (taken a (revise v c) v) cs
      ∙ ap (λ (t : X.S). after (note R E) t cs) (taken_load a (revise v c) v (E.edit (load v) c) (λ e. fits v c (k.1 e)) ∙ sym k.0)
