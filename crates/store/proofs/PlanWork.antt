-- Laws for the code that does the work: one row, written anyhow; a plan of two parts; a call that saves, writes, goes on and puts back; a plan that is told
-- by a test of each row. Assumes nothing.
use Prim.Native.Nat.{ℕ}
use mathlib.Core.Path.{◌≡◌, refl, sym, ap, ◌∙◌}
use mathlib.Core.Logic.{inl, inr, ⊎_elim}
use mathlib.Core.List.{List, ◌∷◌, ◌++◌, []}
use mathlib.Core.Option.{Option, none, some}
use mathlib.Core.Bool.{Bool, true, false, cond, false≢true}
use Rattle.std.proofs.lemmas.Bool.{cases_Bool}
use Rattle.numbers.specs.Lists.{In}
use Rattle.numbers.proofs.MemberLaws.{in_append, in_left, in_right}
use Rattle.store.specs.Space.{Space, Lawful, meets}
use Rattle.store.specs.Plan.{Rules, Laws, step, run, row_fine, first_bad, reach, reached, Stands, Consistent, Room, Rising, Sound}
use Rattle.store.proofs.PlaceLaws.{meets_at, at_meets, puts_is}
use Rattle.store.proofs.PlanLaws.{same_run, consistent_run, reach_sound}
use Rattle.store.proofs.PlanTheorem.{Touched, reach_yes, reach_no}

module _ {X : Space} (R : Rules X) (W : Lawful X) where
  -- a store that has the row's new values, and is s elsewhere, is the row's step
  pub step_is : (s t : X.S) (r : R.Row) → X.shape t ≡ X.shape s → ((p : X.P) → In p (R.writes r) → X.get t p ≡ R.calc (X.get s) r p)
      → ((p : X.P) → (In p (R.writes r) → ⊥) → X.get t p ≡ X.get s p) → t ≡ step R s r
  step_is s t r e h n = puts_is X W s t (R.writes r) (R.calc (X.get s) r) e h n

-- a plan of two parts
abbrev pub or_else : Option ℕ → Option ℕ → Option ℕ
or_else none o = o
or_else (some l) o = some l

module _ {X : Space} (R : Rules X) where
  pub run_append : (ps qs : List R.Row) (s : X.S) → run R (ps ++ qs) s ≡ run R qs (run R ps s)
  unfolding run
  run_append [] qs s = refl
  run_append (p ∷ ps) qs s = run_append ps qs (step R s p)

  pub first_append : (ps qs : List R.Row) (s : X.S) → first_bad R (ps ++ qs) s ≡ or_else (first_bad R ps s) (first_bad R qs (run R ps s))
  unfolding run first_bad
  first_append [] qs s = refl
  first_append (p ∷ ps) qs s = ⊎_elim (λ e. rw e (first_append ps qs (step R s p))) (λ e. rw e refl) (cases_Bool (row_fine R s p))

  -- the rows that pass a test
  unfoldable pub picked : (R.Row → Bool) → List R.Row → List R.Row
  picked t [] = []
  picked t (r ∷ rs) = cond (t r) (r ∷ picked t rs) (picked t rs)

  picked_yes : (t : R.Row → Bool) (r : R.Row) (rs : List R.Row) → t r ≡ true → picked t (r ∷ rs) ≡ r ∷ picked t rs
  unfolding picked
  picked_yes t r rs e = rw e refl

  picked_no : (t : R.Row → Bool) (r : R.Row) (rs : List R.Row) → t r ≡ false → picked t (r ∷ rs) ≡ picked t rs
  unfolding picked
  picked_no t r rs e = rw e refl

  picked_within : (t : R.Row → Bool) (rs : List R.Row) (p : X.P) → Stands R p (picked t rs) → Stands R p rs
  unfolding picked
  picked_within t [] p m = m
  picked_within t (r ∷ rs) p m =
      ⊎_elim (λ e. ⊎_elim inl (λ k. inr (picked_within t rs p k)) (rw (picked_yes t r rs e) at m)) (λ e. inr (picked_within t rs p (rw (picked_no t r rs e) at m))) (cases_Bool (t r))

  -- moving a row that is taken from the plan to the places that have changed
  taken_more : (hot : List X.P) (q : R.Row) (ps : List R.Row) (r : R.Row) → Touched R hot (q ∷ ps) r → Touched R (R.writes q ++ hot) ps r
  taken_more hot q ps r m = (m.0, m.1, ⊎_elim (λ h. inl (in_right m.0 (R.writes q) hot h)) (λ s. ⊎_elim (λ a. inl (in_left m.0 (R.writes q) hot a)) inr s) m.2)

  taken_less : (hot : List X.P) (q : R.Row) (ps : List R.Row) (r : R.Row) → Touched R (R.writes q ++ hot) ps r → Touched R hot (q ∷ ps) r
  taken_less hot q ps r m = (m.0, m.1, ⊎_elim (λ h. ⊎_elim (λ a. inr (inl a)) inl (in_append m.0 (R.writes q) hot h)) (λ s. inr (inr s)) m.2)

  -- a test that takes every row that reads a changed place or a place of a row that is taken gives a sound plan
  pub picked_sound : (t : R.Row → Bool) (hot : List X.P) (rs : List R.Row) → ((r : R.Row) → In r rs → Touched R hot (picked t rs) r → t r ≡ true) → Sound R hot (picked t rs) rs
  unfolding picked
  picked_sound t hot [] h = refl
  picked_sound t hot (q ∷ rs) h =
      ⊎_elim
      (λ e. inl (picked t rs, picked_yes t q rs e, picked_sound t (R.writes q ++ hot) rs (λ r i m. h r (inr i) (rw (picked_yes t q rs e) (taken_less hot q (picked t rs) r m)))))
      (λ e. inr ((λ p i j. false≢true (sym e ∙ h q (inl refl) (p, i, inl j))), rw (picked_no t q rs e) (picked_sound t hot rs (λ r i m. h r (inr i) (rw (picked_no t q rs e) m)))))
      (cases_Bool (t q))

  -- a test that takes just these rows gives the rows that are reached
  pub picked_reach : (t : R.Row → Bool) (hot : List X.P) (rs : List R.Row) → Rising R rs
      → ((r : R.Row) → In r rs → Touched R hot (picked t rs) r → t r ≡ true) → ((r : R.Row) → In r rs → t r ≡ true → Touched R hot (picked t rs) r) → picked t rs ≡ reach R hot rs
  unfolding picked reach
  picked_reach t hot [] u h k = refl
  picked_reach t hot (q ∷ rs) u h k =
      ⊎_elim
      (λ e. let m = rw (picked_yes t q rs e) at (k q (inl refl) e) in
      let meet : meets X (R.reads q) hot ≡ true = ⊎_elim (λ j. at_meets X (R.reads q) hot m.0 m.1 j) (λ s. absurd (u.0 m.0 m.1 (⊎_elim inl (λ a. inr (picked_within t rs m.0 a)) s))) m.2 in
      rw (picked_yes t q rs e, reach_yes R hot q rs meet)
      (ap (λ (l : List R.Row). q ∷ l) (picked_reach t (R.writes q ++ hot) rs u.2
      (λ r i n. h r (inr i) (rw (picked_yes t q rs e) (taken_less hot q (picked t rs) r n)))
      (λ r i n. taken_more hot q (picked t rs) r (rw (picked_yes t q rs e) at (k r (inr i) n))))))
      (λ e. rw (picked_no t q rs e, reach_no R hot q rs (⊎_elim (λ y. absurd (false≢true (sym e ∙ h q (inl refl) (missed y)))) (λ y. y) (cases_Bool (meets X (R.reads q) hot))))
      (picked_reach t hot rs u.2 (λ r i n. h r (inr i) (rw (picked_no t q rs e) n)) (λ r i n. rw (picked_no t q rs e) at (k r (inr i) n))))
      (cases_Bool (t q))
    where
      missed : meets X (R.reads q) hot ≡ true → Touched R hot (picked t (q ∷ rs)) q
      missed y = let n = meets_at X (R.reads q) hot y in (n.0, n.1, inl n.2)

  -- the test, over plans that are put together
  pub picked_append : (t : R.Row → Bool) (ps qs : List R.Row) → picked t (ps ++ qs) ≡ picked t ps ++ picked t qs
  unfolding picked
  picked_append t [] qs = refl
  picked_append t (p ∷ ps) qs = ⊎_elim (λ e. rw e (ap (λ (l : List R.Row). p ∷ l) (picked_append t ps qs))) (λ e. rw e (picked_append t ps qs)) (cases_Bool (t p))

  -- a sound plan rises, as the rows do that it is taken from
  pub sound_within : (hot : List X.P) (ps rs : List R.Row) → Sound R hot ps rs → (p : X.P) → Stands R p ps → Stands R p rs
  sound_within hot ps [] sd p m = rw sd at m
  sound_within hot ps (r ∷ rs) (inl t) p m = ⊎_elim inl (λ n. inr (sound_within (R.writes r ++ hot) t.0 rs t.2 p n)) (rw t.1 at m)
  sound_within hot ps (r ∷ rs) (inr t) p m = inr (sound_within hot ps rs t.1 p m)

  pub sound_rising : (hot : List X.P) (ps rs : List R.Row) → Sound R hot ps rs → Rising R rs → Rising R ps
  sound_rising hot ps [] sd u = rw sd tt
  sound_rising hot ps (r ∷ rs) (inl t) u =
      rw t.1 (
        (λ p i m. u.0 p i (⊎_elim inl (λ n. inr (sound_within (R.writes r ++ hot) t.0 rs t.2 p n)) m)),
        (λ p i n. u.1 p i (sound_within (R.writes r ++ hot) t.0 rs t.2 p n)),
        sound_rising (R.writes r ++ hot) t.0 rs t.2 u.2,
      )
  sound_rising hot ps (r ∷ rs) (inr t) u = sound_rising hot ps rs t.1 u.2

  pub sound_rows : (hot : List X.P) (ps rs : List R.Row) → Sound R hot ps rs → (r : R.Row) → In r ps → In r rs
  sound_rows hot ps [] sd q i = rw sd at i
  sound_rows hot ps (r ∷ rs) (inl t) q i = ⊎_elim inl (λ j. inr (sound_rows (R.writes r ++ hot) t.0 rs t.2 q j)) (rw t.1 at i)
  sound_rows hot ps (r ∷ rs) (inr t) q i = inr (sound_rows hot ps rs t.1 q i)

-- UNDOING WITH NOTHING SAVED: whatever was written in the places of the rows that are reached, to compute these rows again over the old base values
-- gives the store that was there
module _ {X : Space} {R : Rules X} (L : Laws X R) where
  pub undo : (s : X.S) → Room R (X.shape s) → Consistent R s → (hot : List X.P) (ps : List R.Row) → Sound R hot ps R.full
      → (t : X.S) → X.shape t ≡ X.shape s → ((p : X.P) → (Stands R p ps → ⊥) → X.get t p ≡ X.get s p) → run R ps t ≡ s
  undo s room ok hot ps sd t e out =
      (same_run L ps t s (sound_rising R hot ps R.full sd L.rising) (λ p m. rw e (room p (sound_within R hot ps R.full sd p m))) e out).0
      ∙ consistent_run L s ps (λ r i. ok r (sound_rows R hot ps R.full sd r i))

  pub undo_reached : (s : X.S) → Room R (X.shape s) → Consistent R s → (hot : List X.P)
      → (t : X.S) → X.shape t ≡ X.shape s → ((p : X.P) → (Stands R p (reached R hot) → ⊥) → X.get t p ≡ X.get s p) → run R (reached R hot) t ≡ s
  undo_reached s room ok hot = undo s room ok hot (reached R hot) (reach_sound L hot R.full)
