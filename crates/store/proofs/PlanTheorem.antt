-- THE THEOREM: over a consistent store, a change that computes only the rows that it reaches leaves, in every place, what a setup with the changed value leaves;
-- it is refused just where that setup is, with the same level. Assumes nothing but the laws of the space and its rules.
use Prim.Native.Nat.{ℕ, ◌<◌}
use mathlib.Core.Path.{◌≡◌, refl, sym, ap, subst, ◌∙◌}
use mathlib.Core.Logic.{◌⊎◌, inl, inr, ⊎_elim}
use mathlib.Core.List.{List, ◌∷◌, ◌++◌, []}
use mathlib.Core.Option.{Option, none, some, some-injective}
use mathlib.Core.Bool.{true, false, false≢true}
use native.Mathlib.Omega.{arith}
use Rattle.std.proofs.lemmas.Bool.{cases_Bool}
use Rattle.numbers.specs.Lists.{In}
use Rattle.numbers.proofs.MemberLaws.{in_append, in_left, in_right}
use Rattle.store.specs.Space.{Space, Look, meets}
use Rattle.store.specs.Plan.{Rules, Laws, step, run, all_fine, row_fine, fine, first_bad, reach, reached, Stands, Free, Consistent, Finite, Room, Rising, Climbing, Sound, Alike}
use Rattle.store.proofs.PlaceLaws.{meets_at, meets_none}
use Rattle.store.proofs.PlanLaws.{stands_in, in_stands, fine_at_lem, at_fine, is_none, fine_is, run_keeps, set_up_consistent, set_up_alike, reach_sound, plan_run, plan_first, first_fine, first_holds, rest_room}

-- s: a consistent store. a: the store s with the places hot changed, which no row writes
module _ {X : Space} {R : Rules X} (L : Laws X R) (s : X.S) (room : Room R (X.shape s)) (ok : Consistent R s)
    (a : X.S) (hot : List X.P) (kept : X.shape a ≡ X.shape s) (out : (p : X.P) → (In p hot → ⊥) → X.get a p ≡ X.get s p) (free : (p : X.P) → In p hot → Free R p) where
  rows_fine : Finite R s → (r : R.Row) → In r R.full → row_fine R s r ≡ true
  rows_fine f r i = at_fine R (R.writes r) (R.calc (X.get s) r) (λ p j. rw (← ok r i p j) (f p (stands_in R R.full r i p j)))

  a_room : Room R (X.shape a)
  a_room p m = rw kept (room p m)

  -- any sound plan: what it leaves, and where it is refused. t is any store with the same values as a at the places that no row writes
  pub plan_is_set_up : (ps : List R.Row) → Sound R hot ps R.full → (t : X.S) → Alike R a t → run R ps a ≡ run R R.full t
  plan_is_set_up ps sd t k = plan_run L s R.full ps hot a sd L.rising (λ p m i. free p i m) out ok ∙ (set_up_alike L a t a_room k).0

  pub plan_is_refused : (ps : List R.Row) → Sound R hot ps R.full → Finite R s → (t : X.S) → Alike R a t → first_bad R ps a ≡ first_bad R R.full t
  plan_is_refused ps sd f t k = plan_first L s R.full ps hot a sd L.rising (λ p m i. free p i m) out ok (rows_fine f) ∙ (set_up_alike L a t a_room k).1

  -- THE THEOREM, of the rows that are reached
  pub change_is_set_up : (t : X.S) → Alike R a t → run R (reached R hot) a ≡ run R R.full t
  change_is_set_up = plan_is_set_up (reached R hot) (reach_sound L hot R.full)

  pub change_consistent : Consistent R (run R (reached R hot) a)
  change_consistent = rw (change_is_set_up a (refl, λ p n. refl)) (set_up_consistent L a a_room)

  -- every place that no row writes has the new value, and so each that is not in hot has the old one
  pub change_keeps : (p : X.P) → Free R p → X.get (run R (reached R hot) a) p ≡ X.get a p
  change_keeps p n = rw (change_is_set_up a (refl, λ q m. refl)) (run_keeps L R.full a p n)

  -- REFUSAL: at the same level, so also just where the setup is refused
  pub change_is_refused : Finite R s → (t : X.S) → Alike R a t → first_bad R (reached R hot) a ≡ first_bad R R.full t
  change_is_refused = plan_is_refused (reached R hot) (reach_sound L hot R.full)

  pub change_is_fine : Finite R s → (t : X.S) → Alike R a t → fine R (reached R hot) a ≡ fine R R.full t
  change_is_fine f t k = fine_is R (reached R hot) a ∙ ap is_none (change_is_refused f t k) ∙ sym (fine_is R R.full t)

-- the same of ONE place w that is set to v; t is any store with the same values as s at the places that no row writes
module _ {X : Space} {R : Rules X} (L : Laws X R) (s : X.S) (room : Room R (X.shape s)) (ok : Consistent R s) (w : X.P) (v : X.Val w) (free : Free R w) (has : X.Has (X.shape s) w) where
  one_out : (p : X.P) → (In p (w ∷ []) → ⊥) → X.get (X.put s w v) p ≡ X.get s p
  one_out p n = L.lawful.other s w p v (λ e. n (inl e))

  one_free : (p : X.P) → In p (w ∷ []) → Free R p
  one_free p (inl e) = rw e free
  one_free p (inr i) = absurd i

  put_alike : (t : X.S) → Alike R s t → Alike R (X.put s w v) (X.put t w v)
  put_alike t k = (
    L.lawful.keeps s w v ∙ k.0 ∙ sym (L.lawful.keeps t w v),
    λ p n.
        elim (X.same? p w) as (λ _. X.get (X.put s w v) p ≡ X.get (X.put t w v) p) [
          | yes e ↦ rw e (L.lawful.same s w v has ∙ sym (L.lawful.same t w v (rw k.0 at has)))
          | no h ↦ L.lawful.other s w p v h ∙ k.1 p n ∙ sym (L.lawful.other t w p v h)
        ],
  )

  pub put_is_set_up : (t : X.S) → Alike R s t → run R (reached R (w ∷ [])) (X.put s w v) ≡ run R R.full (X.put t w v)
  put_is_set_up t k = change_is_set_up L s room ok (X.put s w v) (w ∷ []) (L.lawful.keeps s w v) one_out one_free (X.put t w v) (put_alike t k)

  pub put_consistent : Consistent R (run R (reached R (w ∷ [])) (X.put s w v))
  put_consistent = change_consistent L s room ok (X.put s w v) (w ∷ []) (L.lawful.keeps s w v) one_out one_free

  pub put_value : X.get (run R (reached R (w ∷ [])) (X.put s w v)) w ≡ v
  put_value = change_keeps L s room ok (X.put s w v) (w ∷ []) (L.lawful.keeps s w v) one_out one_free w free ∙ L.lawful.same s w v has

  pub put_keeps : (p : X.P) → Free R p → (p ≡ w → ⊥) → X.get (run R (reached R (w ∷ [])) (X.put s w v)) p ≡ X.get s p
  put_keeps p n h = change_keeps L s room ok (X.put s w v) (w ∷ []) (L.lawful.keeps s w v) one_out one_free p n ∙ L.lawful.other s w p v h

  pub put_is_refused : Finite R s → (t : X.S) → Alike R s t → first_bad R (reached R (w ∷ [])) (X.put s w v) ≡ first_bad R R.full (X.put t w v)
  put_is_refused f t k = change_is_refused L s room ok (X.put s w v) (w ∷ []) (L.lawful.keeps s w v) one_out one_free f (X.put t w v) (put_alike t k)

  pub put_is_fine : Finite R s → (t : X.S) → Alike R s t → fine R (reached R (w ∷ [])) (X.put s w v) ≡ fine R R.full (X.put t w v)
  put_is_fine f t k = change_is_fine L s room ok (X.put s w v) (w ∷ []) (L.lawful.keeps s w v) one_out one_free f (X.put t w v) (put_alike t k)

-- what the answer of a setup says
module _ {X : Space} {R : Rules X} (L : Laws X R) where
  bad_at : (ps : List X.P) (g : Look X) → all_fine R ps g ≡ false → (p : X.P) × In p ps × (R.fine? p (g p) ≡ false)
  unfolding all_fine
  bad_at [] g e = absurd (false≢true (sym e))
  bad_at (p ∷ ps) g e =
      ⊎_elim (λ h. let t = bad_at ps g (rw h at e) in (t.0, inr t.1, t.2)) (λ h. (p, inl refl, h)) (cases_Bool (R.fine? p (g p)))

  abbrev FineRow : X.S → R.Row → Type 0
  FineRow s r = (p : X.P) → In p (R.writes r) → R.fine? p (X.get s p) ≡ true

  abbrev BadRow : X.S → R.Row → Type 0
  BadRow s r = (p : X.P) × In p (R.writes r) × (R.fine? p (X.get s p) ≡ false)

  module _ (r : R.Row) (rs : List R.Row) (s : X.S) (u : Rising R (r ∷ rs)) (room : (p : X.P) → Stands R p (r ∷ rs) → X.Has (X.shape s) p) where
    row_fine_lem : row_fine R s r ≡ true → FineRow (run R (r ∷ rs) s) r
    row_fine_lem e p i =
        rw (first_holds L r rs s u room p i) (fine_at_lem R (R.writes r) (R.calc (X.get (run R (r ∷ rs) s)) r) (sym (first_fine L r rs s u) ∙ e) p i)

    row_bad : row_fine R s r ≡ false → BadRow (run R (r ∷ rs) s) r
    row_bad e =
        let t = bad_at (R.writes r) (R.calc (X.get (run R (r ∷ rs) s)) r) (sym (first_fine L r rs s u) ∙ e) in
        (t.0, t.1, rw (first_holds L r rs s u room t.0 t.1) t.2)

  abbrev IsNone : Option ℕ → Type 0
  IsNone none = Unit {0}
  IsNone (some l) = ⊥

  none_fine : (rs : List R.Row) (s : X.S) → Rising R rs → ((p : X.P) → Stands R p rs → X.Has (X.shape s) p) → first_bad R rs s ≡ none → (r : R.Row) → In r rs → FineRow (run R rs s) r
  unfolding first_bad run
  none_fine [] s u room e r i = absurd i
  none_fine (q ∷ rs) s u room e r i =
      ⊎_elim
      (λ h. ⊎_elim (λ k. rw k (row_fine_lem q rs s u room h)) (λ j. none_fine rs (step R s q) u.2 (rest_room L q rs s room) (rw h at e) r j) i)
      (λ h. let e2 : some (R.level q) ≡ none = rw h at e in absurd (subst IsNone (sym e2) tt))
      (cases_Bool (row_fine R s q))

  some_bad : (rs : List R.Row) (s : X.S) (l : ℕ) → Rising R rs → Climbing R rs → ((p : X.P) → Stands R p rs → X.Has (X.shape s) p) → first_bad R rs s ≡ some l
      → ((r : R.Row) × In r rs × (R.level r ≡ l) × BadRow (run R rs s) r) × ((r : R.Row) → In r rs → R.level r < l → FineRow (run R rs s) r)
  unfolding first_bad run
  some_bad [] s l u c room e = absurd (subst IsNone e tt)
  some_bad (q ∷ rs) s l u c room e =
      ⊎_elim
      (λ h. let t = some_bad rs (step R s q) l u.2 c.1 (rest_room L q rs s room) (rw h at e) in (
        (t.0.0, inr t.0.1, t.0.2, t.0.3),
        λ r i m. ⊎_elim (λ k. rw k (row_fine_lem q rs s u room h)) (λ j. t.1 r j m) i,
      ))
      (λ h. let k : R.level q ≡ l = some-injective (R.level q) l (rw h at e) in (
        (q, inl refl, k, row_bad q rs s u room h),
        λ r i m. absurd (⊎_elim (λ j. let g : R.level r ≡ R.level q = ap R.level j in omega arith) (λ j. let g = c.0 r j in omega arith) i),
      ))
      (cases_Bool (row_fine R s q))

  -- no level: every number that a row wrote is finite
  pub accepted_finite : (s : X.S) → Room R (X.shape s) → first_bad R R.full s ≡ none → Finite R (run R R.full s)
  accepted_finite s room e p m = let t = in_stands R R.full p m in none_fine R.full s L.rising room e t.0 t.1 p t.2

  -- a level: a row of it has a number that is not finite, and every number of every lower level is finite
  pub refused_level : (s : X.S) (l : ℕ) → Climbing R R.full → Room R (X.shape s) → first_bad R R.full s ≡ some l
      → ((r : R.Row) × In r R.full × (R.level r ≡ l) × BadRow (run R R.full s) r) × ((r : R.Row) → In r R.full → R.level r < l → FineRow (run R R.full s) r)
  refused_level s l c room e = some_bad R.full s l L.rising c room e

-- WHAT IS REACHED: a row is reached just where some place that it reads is a changed one, or stands in a reached row
module _ {X : Space} (R : Rules X) where
  pub reach_yes : (hot : List X.P) (r : R.Row) (rs : List R.Row) → meets X (R.reads r) hot ≡ true → reach R hot (r ∷ rs) ≡ r ∷ reach R (R.writes r ++ hot) rs
  unfolding reach
  reach_yes hot r rs e = rw e refl

  pub reach_no : (hot : List X.P) (r : R.Row) (rs : List R.Row) → meets X (R.reads r) hot ≡ false → reach R hot (r ∷ rs) ≡ reach R hot rs
  unfolding reach
  reach_no hot r rs e = rw e refl

  -- a place that the row reads is one of hot, or stands in a row of ps
  abbrev pub Touched : List X.P → List R.Row → R.Row → Type 0
  Touched hot ps r = (p : X.P) × In p (R.reads r) × (In p hot ⊎ Stands R p ps)

  reach_within : (hot : List X.P) (rs : List R.Row) (p : X.P) → Stands R p (reach R hot rs) → Stands R p rs
  unfolding reach
  reach_within hot [] p m = m
  reach_within hot (r ∷ rs) p m =
      ⊎_elim (λ e. ⊎_elim inl (λ k. inr (reach_within (R.writes r ++ hot) rs p k)) (rw (reach_yes hot r rs e) at m)) (λ e. inr (reach_within hot rs p (rw (reach_no hot r rs e) at m))) (cases_Bool (meets X (R.reads r) hot))

  reach_only : (hot : List X.P) (rs : List R.Row) (r : R.Row) → In r (reach R hot rs) → Touched hot (reach R hot rs) r
  unfolding reach
  reach_only hot [] r i = absurd i
  reach_only hot (q ∷ rs) r i =
      ⊎_elim
      (λ e. rw (reach_yes hot q rs e) (⊎_elim
      (λ k. rw k (let t = meets_at X (R.reads q) hot e in (t.0, t.1, inl t.2)))
      (λ j. let t = reach_only (R.writes q ++ hot) rs r j in (t.0, t.1, ⊎_elim (λ h. ⊎_elim (λ a. inr (inl a)) inl (in_append t.0 (R.writes q) hot h)) (λ m. inr (inr m)) t.2))
      (rw (reach_yes hot q rs e) at i)))
      (λ e. rw (reach_no hot q rs e) (reach_only hot rs r (rw (reach_no hot q rs e) at i)))
      (cases_Bool (meets X (R.reads q) hot))

  reach_all : (hot : List X.P) (rs : List R.Row) → Rising R rs → (r : R.Row) → In r rs → Touched hot (reach R hot rs) r → In r (reach R hot rs)
  reach_all hot [] u r i t = absurd i
  reach_all hot (q ∷ rs) u r i t =
      ⊎_elim
      (λ e. rw (reach_yes hot q rs e) (⊎_elim inl
      (λ j. inr (reach_all (R.writes q ++ hot) rs u.2 r j (t.0, t.1, more t.0 (rw (reach_yes hot q rs e) at t.2))))
      i))
      (λ e. rw (reach_no hot q rs e) (⊎_elim
      (λ k. absurd (none_here t.0 e (rw k at t.1) (rw (reach_no hot q rs e) at t.2)))
      (λ j. reach_all hot rs u.2 r j (t.0, t.1, rw (reach_no hot q rs e) at t.2))
      i))
      (cases_Bool (meets X (R.reads q) hot))
    where
      more : (p : X.P) → In p hot ⊎ Stands R p (q ∷ reach R (R.writes q ++ hot) rs) → In p (R.writes q ++ hot) ⊎ Stands R p (reach R (R.writes q ++ hot) rs)
      more p (inl h) = inl (in_right p (R.writes q) hot h)
      more p (inr (inl a)) = inl (in_left p (R.writes q) hot a)
      more p (inr (inr m)) = inr m

      none_here : (p : X.P) → meets X (R.reads q) hot ≡ false → In p (R.reads q) → In p hot ⊎ Stands R p (reach R hot rs) → ⊥
      none_here p e j (inl h) = meets_none X (R.reads q) hot e p j h
      none_here p e j (inr m) = u.0 p j (inr (reach_within hot rs p m))

  pub reached_means : Rising R R.full → (hot : List X.P) (r : R.Row) → In r R.full
      → (In r (reached R hot) → Touched hot (reached R hot) r) × (Touched hot (reached R hot) r → In r (reached R hot))
  reached_means u hot r i = (reach_only hot R.full r, reach_all hot R.full u r i)
