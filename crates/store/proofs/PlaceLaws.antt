-- What the writes of several places leave. Assumes nothing.
use mathlib.Core.Path.{◌≡◌, refl, sym, ◌∙◌}
use mathlib.Core.Logic.{◌⊎◌, inl, inr, ⊎_elim}
use mathlib.Core.List.{List, ◌∷◌, []}
use mathlib.Core.Bool.{Bool, true, false, ◌||◌, false≢true}
use Rattle.std.proofs.lemmas.Bool.{or_cases, or_right}
use Rattle.numbers.specs.Lists.{In}
use Rattle.store.specs.Space.{Space, Look, Lawful, puts, decided, is_in, meets}

or_told : {A : Type 0} (d : Dec A) (b : Bool) → (decided d || b) ≡ true → A ⊎ (b ≡ true)
or_told (yes a) b e = inl a
or_told (no h) b e = inr e

told_or : {A : Type 0} (d : Dec A) (b : Bool) → A ⊎ (b ≡ true) → (decided d || b) ≡ true
told_or (yes a) b t = refl
told_or (no h) b (inl a) = absurd (h a)
told_or (no h) b (inr e) = e

module _ (X : Space) where
  -- a place is in a list of places, or not
  pub in? : (p : X.P) (ps : List X.P) → In p ps ⊎ (In p ps → ⊥)
  in? p [] = inr (λ i. i)
  in? p (q ∷ qs) =
      elim (X.same? p q) as (λ _. In p (q ∷ qs) ⊎ (In p (q ∷ qs) → ⊥)) [
        | yes e ↦ inl (inl e)
        | no h ↦ ⊎_elim (λ i. inl (inr i)) (λ g. inr (λ i. ⊎_elim h g i)) (in? p qs)
      ]

  -- the tests tell what they are named for
  pub is_in_lem : (p : X.P) (ps : List X.P) → is_in X p ps ≡ true → In p ps
  unfolding is_in
  is_in_lem p [] e = absurd (false≢true e)
  is_in_lem p (q ∷ qs) e = ⊎_elim inl (λ h. inr (is_in_lem p qs h)) (or_told (X.same? p q) (is_in X p qs) e)

  pub in_is : (p : X.P) (ps : List X.P) → In p ps → is_in X p ps ≡ true
  unfolding is_in
  in_is p [] i = absurd i
  in_is p (q ∷ qs) i = told_or (X.same? p q) (is_in X p qs) (⊎_elim inl (λ h. inr (in_is p qs h)) i)

  pub meets_at : (ps hot : List X.P) → meets X ps hot ≡ true → (p : X.P) × In p ps × In p hot
  unfolding meets
  meets_at [] hot e = absurd (false≢true e)
  meets_at (p ∷ ps) hot e =
      ⊎_elim (λ h. (p, inl refl, is_in_lem p hot h)) (λ h. let t = meets_at ps hot h in (t.0, inr t.1, t.2)) (or_cases (is_in X p hot) (meets X ps hot) e)

  pub at_meets : (ps hot : List X.P) (p : X.P) → In p ps → In p hot → meets X ps hot ≡ true
  unfolding meets
  at_meets [] hot p i j = absurd i
  at_meets (q ∷ ps) hot p (inl e) j = rw (in_is q hot (rw e at j)) refl
  at_meets (q ∷ ps) hot p (inr i) j = or_right (is_in X q hot) (meets X ps hot) (at_meets ps hot p i j)

  pub meets_none : (ps hot : List X.P) → meets X ps hot ≡ false → (p : X.P) → In p ps → In p hot → ⊥
  meets_none ps hot e p i j = false≢true (sym e ∙ at_meets ps hot p i j)

module _ (X : Space) (W : Lawful X) where
  pub puts_shape : (s : X.S) (ps : List X.P) (g : Look X) → X.shape (puts X s ps g) ≡ X.shape s
  unfolding puts
  puts_shape s [] g = refl
  puts_shape s (p ∷ ps) g = puts_shape (X.put s p (g p)) ps g ∙ W.keeps s p (g p)

  pub puts_out : (s : X.S) (ps : List X.P) (g : Look X) (q : X.P) → (In q ps → ⊥) → X.get (puts X s ps g) q ≡ X.get s q
  unfolding puts
  puts_out s [] g q h = refl
  puts_out s (p ∷ ps) g q h = puts_out (X.put s p (g p)) ps g q (λ i. h (inr i)) ∙ W.other s p q (g p) (λ e. h (inl e))

  pub puts_in : (s : X.S) (ps : List X.P) (g : Look X) (q : X.P) → In q ps → X.Has (X.shape s) q → X.get (puts X s ps g) q ≡ g q
  unfolding puts
  puts_in s [] g q i h = absurd i
  puts_in s (p ∷ ps) g q (inr i) h = puts_in (X.put s p (g p)) ps g q i (rw (W.keeps s p (g p)) h)
  puts_in s (p ∷ ps) g q (inl e) h =
      ⊎_elim (λ i. puts_in (X.put s p (g p)) ps g q i (rw (W.keeps s p (g p)) h))
      (λ n. puts_out (X.put s p (g p)) ps g q n ∙ rw e (W.same s p (g p) (rw e at h)))
      (in? X q ps)

  -- a store that has g at the places ps, and is s elsewhere, is what the writes leave
  pub puts_is : (s t : X.S) (ps : List X.P) (g : Look X) → X.shape t ≡ X.shape s
      → ((p : X.P) → In p ps → X.get t p ≡ g p) → ((p : X.P) → (In p ps → ⊥) → X.get t p ≡ X.get s p) → t ≡ puts X s ps g
  puts_is s t ps g e at out =
      W.ext t (puts X s ps g) (e ∙ sym (puts_shape s ps g)) λ p h.
      ⊎_elim (λ i. at p i ∙ sym (puts_in s ps g p i (rw e at h))) (λ n. out p n ∙ sym (puts_out s ps g p n)) (in? X p ps)

  -- to write what is there changes nothing
  pub puts_nothing : (s : X.S) (ps : List X.P) (g : Look X) → ((p : X.P) → In p ps → X.get s p ≡ g p) → puts X s ps g ≡ s
  puts_nothing s ps g h = sym (puts_is s s ps g refl h (λ p n. refl))

  -- to write back what was there restores the store, whatever store it was
  pub puts_back : (s : X.S) (ps : List X.P) (g : Look X) → puts X (puts X s ps g) ps (X.get s) ≡ s
  puts_back s ps g =
      W.ext (puts X (puts X s ps g) ps (X.get s)) s (puts_shape (puts X s ps g) ps (X.get s) ∙ puts_shape s ps g) λ p h.
      let h2 = rw (puts_shape (puts X s ps g) ps (X.get s)) at h in
      ⊎_elim (λ i. puts_in (puts X s ps g) ps (X.get s) p i h2) (λ n. puts_out (puts X s ps g) ps (X.get s) p n ∙ puts_out s ps g p n) (in? X p ps)
