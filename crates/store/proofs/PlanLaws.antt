-- What runs and changes leave: a change that computes only the rows that it reaches leaves what a setup with the changed value leaves, and is refused just where
-- that setup is, at the same level. Assumes nothing.
use Prim.Native.Nat.{ℕ}
use mathlib.Core.Path.{◌≡◌, refl, sym, ap, ◌∙◌}
use mathlib.Core.Logic.{◌⊎◌, inl, inr, ⊎_elim}
use mathlib.Core.List.{List, ◌∷◌, ◌++◌, []}
use mathlib.Core.Option.{Option, none, some}
use mathlib.Core.Bool.{Bool, true, false}
use Rattle.std.proofs.lemmas.Bool.{and_from, and_parts, cases_Bool}
use Rattle.numbers.specs.Lists.{In}
use Rattle.numbers.proofs.MemberLaws.{in_append, in_left, in_right}
use Rattle.store.specs.Space.{Space, Look, Lawful, meets}
use Rattle.store.specs.Plan.{Rules, Laws, step, run, all_fine, row_fine, fine, first_bad, reach, Stands, Holds, Consistent, Room, Rising, Sound, Alike}
use Rattle.store.proofs.PlaceLaws.{in?, meets_none, puts_shape, puts_out, puts_in, puts_nothing}

-- `fine` says whether `first_bad` finds nothing
abbrev pub is_none : Option ℕ → Bool
is_none none = true
is_none (some l) = false

-- rows and their places
module _ {X : Space} (R : Rules X) where
  pub stands_in : (rs : List R.Row) (r : R.Row) → In r rs → (p : X.P) → In p (R.writes r) → Stands R p rs
  stands_in [] r i p j = absurd i
  stands_in (q ∷ rs) r (inl e) p j = inl (rw e at j)
  stands_in (q ∷ rs) r (inr i) p j = inr (stands_in rs r i p j)

  pub in_stands : (rs : List R.Row) (p : X.P) → Stands R p rs → (r : R.Row) × In r rs × In p (R.writes r)
  in_stands [] p s = absurd s
  in_stands (q ∷ rs) p (inl i) = (q, inl refl, i)
  in_stands (q ∷ rs) p (inr s) = let t = in_stands rs p s in (t.0, inr t.1, t.2)

  pub stands? : (rs : List R.Row) (p : X.P) → Stands R p rs ⊎ (Stands R p rs → ⊥)
  stands? [] p = inr (λ s. s)
  stands? (r ∷ rs) p = ⊎_elim (λ i. inl (inl i)) (λ n. ⊎_elim (λ s. inl (inr s)) (λ m. inr (λ s. ⊎_elim n m s)) (stands? rs p)) (in? X p (R.writes r))

  -- numbers that are finite
  pub fine_same : (ps : List X.P) (f g : Look X) → ((p : X.P) → In p ps → f p ≡ g p) → all_fine R ps f ≡ all_fine R ps g
  unfolding all_fine
  fine_same [] f g h = refl
  fine_same (p ∷ ps) f g h = rw (h p (inl refl), fine_same ps f g (λ q i. h q (inr i))) refl

  pub fine_at_lem : (ps : List X.P) (f : Look X) → all_fine R ps f ≡ true → (p : X.P) → In p ps → R.fine? p (f p) ≡ true
  unfolding all_fine
  fine_at_lem [] f h p i = absurd i
  fine_at_lem (q ∷ ps) f h p (inl e) = rw e ((and_parts _ _ h).0)
  fine_at_lem (q ∷ ps) f h p (inr i) = fine_at_lem ps f ((and_parts (R.fine? q (f q)) _ h).1) p i

  pub at_fine : (ps : List X.P) (f : Look X) → ((p : X.P) → In p ps → R.fine? p (f p) ≡ true) → all_fine R ps f ≡ true
  unfolding all_fine
  at_fine [] f h = refl
  at_fine (q ∷ ps) f h = and_from _ _ (h q (inl refl)) (at_fine ps f (λ p i. h p (inr i)))

  pub fine_is : (rs : List R.Row) (s : X.S) → fine R rs s ≡ is_none (first_bad R rs s)
  unfolding fine first_bad
  fine_is [] s = refl
  fine_is (r ∷ rs) s =
      ⊎_elim (λ e. rw e (fine_is rs (step R s r))) (λ e. rw e refl) (cases_Bool (row_fine R s r))

  -- a run leaves each place that none of its rows writes
  pub run_outside : Lawful X → (rs : List R.Row) (s : X.S) (p : X.P) → (Stands R p rs → ⊥) → X.get (run R rs s) p ≡ X.get s p
  unfolding run
  run_outside w [] s p h = refl
  run_outside w (r ∷ rs) s p h =
      run_outside w rs (step R s r) p (λ m. h (inr m)) ∙ puts_out X w s (R.writes r) (R.calc (X.get s) r) p (λ i. h (inl i))

module _ {X : Space} {R : Rules X} (L : Laws X R) where
  -- one row
  pub step_shape : (s : X.S) (r : R.Row) → X.shape (step R s r) ≡ X.shape s
  step_shape s r = puts_shape X L.lawful s (R.writes r) (R.calc (X.get s) r)

  -- a row that holds is left as it is
  pub step_holds : (s : X.S) (r : R.Row) → Holds R s r → step R s r ≡ s
  step_holds s r h = puts_nothing X L.lawful s (R.writes r) (R.calc (X.get s) r) h

  -- a run keeps the shape, and each place that none of its rows writes
  pub run_shape : (rs : List R.Row) (s : X.S) → X.shape (run R rs s) ≡ X.shape s
  unfolding run
  run_shape [] s = refl
  run_shape (r ∷ rs) s = run_shape rs (step R s r) ∙ step_shape s r

  pub run_keeps : (rs : List R.Row) (s : X.S) (p : X.P) → (Stands R p rs → ⊥) → X.get (run R rs s) p ≡ X.get s p
  run_keeps rs s p h = run_outside R L.lawful rs s p h

  -- what the rule of a run's first row says, it still says at the end
  first_rule : (r : R.Row) (rs : List R.Row) (s : X.S) → Rising R (r ∷ rs) → (p : X.P) → In p (R.writes r) → R.calc (X.get s) r p ≡ R.calc (X.get (run R (r ∷ rs) s)) r p
  first_rule r rs s u p i = L.local r (X.get s) (X.get (run R (r ∷ rs) s)) (λ q j. sym (run_keeps (r ∷ rs) s q (u.0 q j))) p i

  pub first_holds : (r : R.Row) (rs : List R.Row) (s : X.S) → Rising R (r ∷ rs) → ((p : X.P) → Stands R p (r ∷ rs) → X.Has (X.shape s) p) → Holds R (run R (r ∷ rs) s) r
  unfolding run
  first_holds r rs s u room p i =
      run_keeps rs (step R s r) p (u.1 p i) ∙ puts_in X L.lawful s (R.writes r) (R.calc (X.get s) r) p i (room p (inl i)) ∙ first_rule r rs s u p i

  pub rest_room : (r : R.Row) (rs : List R.Row) (s : X.S) → ((p : X.P) → Stands R p (r ∷ rs) → X.Has (X.shape s) p) → (p : X.P) → Stands R p rs → X.Has (X.shape (step R s r)) p
  rest_room r rs s room p m = rw (step_shape s r) (room p (inr m))

  -- after a run each of its rows holds
  run_holds : (rs : List R.Row) (s : X.S) → Rising R rs → ((p : X.P) → Stands R p rs → X.Has (X.shape s) p) → (r : R.Row) → In r rs → Holds R (run R rs s) r
  unfolding run
  run_holds [] s u room r i = absurd i
  run_holds (q ∷ rs) s u room r (inl e) = rw e (first_holds q rs s u room)
  run_holds (q ∷ rs) s u room r (inr i) = run_holds rs (step R s q) u.2 (rest_room q rs s room) r i

  -- and is finite at the end just where it was finite as it was computed
  pub first_fine : (r : R.Row) (rs : List R.Row) (s : X.S) → Rising R (r ∷ rs) → row_fine R s r ≡ row_fine R (run R (r ∷ rs) s) r
  first_fine r rs s u = fine_same R (R.writes r) (R.calc (X.get s) r) (R.calc (X.get (run R (r ∷ rs) s)) r) (first_rule r rs s u)

  pub set_up_consistent : (s : X.S) → Room R (X.shape s) → Consistent R (run R R.full s)
  set_up_consistent s room = run_holds R.full s L.rising room

  -- a consistent store is what a setup over it leaves
  pub consistent_run : (s : X.S) → (rs : List R.Row) → ((r : R.Row) → In r rs → Holds R s r) → run R rs s ≡ s
  unfolding run
  consistent_run s [] h = refl
  consistent_run s (r ∷ rs) h = rw (step_holds s r (h r (inl refl))) (consistent_run s rs (λ q i. h q (inr i)))

  -- runs of the same rows over stores that agree where none of them writes
  same_step : (r : R.Row) (rs : List R.Row) (a b : X.S) → Rising R (r ∷ rs) → ((p : X.P) → Stands R p (r ∷ rs) → X.Has (X.shape a) p) → X.shape a ≡ X.shape b
      → ((p : X.P) → (Stands R p (r ∷ rs) → ⊥) → X.get a p ≡ X.get b p) → (p : X.P) → (Stands R p rs → ⊥) → X.get (step R a r) p ≡ X.get (step R b r) p
  same_step r rs a b u room e h p n =
      ⊎_elim
      (λ i. puts_in X L.lawful a (R.writes r) (R.calc (X.get a) r) p i (room p (inl i))
      ∙ L.local r (X.get a) (X.get b) (λ q j. h q (u.0 q j)) p i
      ∙ sym (puts_in X L.lawful b (R.writes r) (R.calc (X.get b) r) p i (rw (← e) (room p (inl i)))))
      (λ o. puts_out X L.lawful a (R.writes r) (R.calc (X.get a) r) p o
      ∙ h p (λ m. ⊎_elim o n m)
      ∙ sym (puts_out X L.lawful b (R.writes r) (R.calc (X.get b) r) p o))
      (in? X p (R.writes r))

  pub same_run : (rs : List R.Row) (a b : X.S) → Rising R rs → ((p : X.P) → Stands R p rs → X.Has (X.shape a) p) → X.shape a ≡ X.shape b
      → ((p : X.P) → (Stands R p rs → ⊥) → X.get a p ≡ X.get b p) → (run R rs a ≡ run R rs b) × (first_bad R rs a ≡ first_bad R rs b)
  unfolding run first_bad
  same_run [] a b u room e h = (L.lawful.ext a b e (λ p has. h p (λ n. n)), refl)
  same_run (r ∷ rs) a b u room e h =
      let t = same_run rs (step R a r) (step R b r) u.2 (rest_room r rs a room) (step_shape a r ∙ e ∙ sym (step_shape b r)) (same_step r rs a b u room e h) in
      let f : row_fine R a r ≡ row_fine R b r = fine_same R (R.writes r) (R.calc (X.get a) r) (R.calc (X.get b) r) (L.local r (X.get a) (X.get b) (λ q j. h q (u.0 q j))) in
      (t.0, rw (f, t.1) refl)

  -- a setup turns only on the places that no row writes
  pub set_up_alike : (a b : X.S) → Room R (X.shape a) → Alike R a b → (run R R.full a ≡ run R R.full b) × (first_bad R R.full a ≡ first_bad R R.full b)
  set_up_alike a b room k = same_run R.full a b L.rising room k.0 k.1

  -- a consistent store is known by the places that no row writes
  pub consistent_alike : (a b : X.S) → Room R (X.shape a) → Consistent R a → Consistent R b → Alike R a b → a ≡ b
  consistent_alike a b room ha hb k = sym (consistent_run a R.full ha) ∙ (set_up_alike a b room k).0 ∙ consistent_run b R.full hb

  -- the reach is a sound plan
  pub reach_sound : (hot : List X.P) (rs : List R.Row) → Sound R hot (reach R hot rs) rs
  unfolding reach
  reach_sound hot [] = refl
  reach_sound hot (r ∷ rs) =
      ⊎_elim
      (λ e. inl (reach R (R.writes r ++ hot) rs, rw e refl, reach_sound (R.writes r ++ hot) rs))
      (λ e. inr (meets_none X (R.reads r) hot e, rw e (reach_sound hot rs)))
      (cases_Bool (meets X (R.reads r) hot))

  -- A SOUND PLAN DOES THE WORK OF ALL ROWS: s is a store whose rows hold, a is a store that differs from it at most in the places hot
  module _ (s : X.S) where
    abbrev Differs : X.S → List X.P → Type 0
    Differs a hot = (p : X.P) → (In p hot → ⊥) → X.get a p ≡ X.get s p

    abbrev Apart : List X.P → List R.Row → Type 0
    Apart hot rs = (p : X.P) → Stands R p rs → In p hot → ⊥

    -- a row that reads none of hot is left out rightly
    left_out : (r : R.Row) (hot : List X.P) (a : X.S) → Differs a hot → ((p : X.P) → In p (R.reads r) → In p hot → ⊥) → (p : X.P) → In p (R.writes r) → R.calc (X.get s) r p ≡ R.calc (X.get a) r p
    left_out r hot a d c p i = L.local r (X.get s) (X.get a) (λ q j. sym (d q (c q j))) p i

    left_holds : (r : R.Row) (rs : List R.Row) (hot : List X.P) (a : X.S) → Holds R s r → Apart hot (r ∷ rs) → Differs a hot → ((p : X.P) → In p (R.reads r) → In p hot → ⊥) → Holds R a r
    left_holds r rs hot a h ap d c p i = d p (ap p (inl i)) ∙ h p i ∙ left_out r hot a d c p i

    taken_apart : (r : R.Row) (rs : List R.Row) (hot : List X.P) → Rising R (r ∷ rs) → Apart hot (r ∷ rs) → Apart (R.writes r ++ hot) rs
    taken_apart r rs hot u ap p m i = ⊎_elim (λ j. u.1 p j m) (λ j. ap p (inr m) j) (in_append p (R.writes r) hot i)

    taken_differs : (r : R.Row) (hot : List X.P) (a : X.S) → Differs a hot → Differs (step R a r) (R.writes r ++ hot)
    taken_differs r hot a d p n =
        puts_out X L.lawful a (R.writes r) (R.calc (X.get a) r) p (λ i. n (in_left p (R.writes r) hot i)) ∙ d p (λ i. n (in_right p (R.writes r) hot i))

    pub plan_run : (rs ps : List R.Row) (hot : List X.P) (a : X.S) → Sound R hot ps rs → Rising R rs → Apart hot rs → Differs a hot → ((r : R.Row) → In r rs → Holds R s r) → run R ps a ≡ run R rs a
    unfolding run
    plan_run [] ps hot a sd u ap d h = rw sd refl
    plan_run (r ∷ rs) ps hot a (inl t) u ap d h =
        rw t.1 (plan_run rs t.0 (R.writes r ++ hot) (step R a r) t.2 u.2 (taken_apart r rs hot u ap) (taken_differs r hot a d) (λ q i. h q (inr i)))
    plan_run (r ∷ rs) ps hot a (inr t) u ap d h =
        plan_run rs ps hot a t.1 u.2 (λ p m. ap p (inr m)) d (λ q i. h q (inr i))
        ∙ rw (step_holds a r (left_holds r rs hot a (h r (inl refl)) ap d t.0)) refl

    pub plan_first : (rs ps : List R.Row) (hot : List X.P) (a : X.S) → Sound R hot ps rs → Rising R rs → Apart hot rs → Differs a hot → ((r : R.Row) → In r rs → Holds R s r) → ((r : R.Row) → In r rs → row_fine R s r ≡ true)
        → first_bad R ps a ≡ first_bad R rs a
    unfolding first_bad
    plan_first [] ps hot a sd u ap d h f = rw sd refl
    plan_first (r ∷ rs) ps hot a (inl t) u ap d h f =
        rw (t.1, plan_first rs t.0 (R.writes r ++ hot) (step R a r) t.2 u.2 (taken_apart r rs hot u ap) (taken_differs r hot a d) (λ q i. h q (inr i)) (λ q i. f q (inr i))) refl
    plan_first (r ∷ rs) ps hot a (inr t) u ap d h f =
        plan_first rs ps hot a t.1 u.2 (λ p m. ap p (inr m)) d (λ q i. h q (inr i)) (λ q i. f q (inr i))
        ∙ rw (← fine_same R (R.writes r) (R.calc (X.get s) r) (R.calc (X.get a) r) (left_out r hot a d t.0), f r (inl refl), step_holds a r (left_holds r rs hot a (h r (inl refl)) ap d t.0)) refl
