-- Level 0: the lattice's own row has the diagonal and the pattern of level 0's relations.
-- Assumes nothing.
use Prim.Native.Nat.{ℕ, ◌+◌, ◌-◌, ◌<◌}
use mathlib.Core.Path.{◌≡◌, refl, sym, ◌∙◌, ap, subst}
use mathlib.Core.Logic.{◌⊎◌, inl, inr, ⊎_elim, ◌↔◌}
use mathlib.Core.Bool.{Bool, true, false, not, ◌&&◌, ◌||◌, false≢true}
use native.Mathlib.Omega.{arith}
use native.Mathlib.Decide.{ℕ_discrete}
use borrow.Author.Tests.{eq-eqb, ne_eqb, eqb-true, eqb-false, ltb-true}
use lib.Dec.{eqb, ltb, lit<}
use Rattle.std.proofs.lemmas.Bool.{and_from, and_parts, or_cases, or_left, or_right}
use Rattle.operators.specs.Relation.{Rel, after, Spot, Within, Times, after_cube, Then}
use Rattle.operators.specs.Pattern.{Role, along, across, role_of, name_of, name_at, rel, Pattern, SpotEdge, spot_edge}
use Rattle.operators.specs.Base.{live_at, follows, base_of}
use Rattle.operators.specs.Relations0.{ahead, back, curl_h, curl_e, grad, div, cells, curl_h_cube, curl_e_cube, grad_cube, div_cube, Free, ByFace, Stencil}
use Rattle.operators.proofs.RelationLaws.{after_by, by_after, product}
use Rattle.operators.proofs.Sound.{ladder}

-- Bools
-- j is the next of i: one step on, or around the border of a Bloch axis
pub record Next (n : ℕ) (bloch : Bool) (i j : ℕ) : Type 0 where
  pub how : ((j ≡ i + 1) × (i + 1 < n)) ⊎ ((bloch ≡ true) × (i + 1 ≡ n) × (j ≡ 0))

pub next_of : (n : ℕ) (bloch : Bool) (i j : ℕ) → follows n bloch i j ≡ true → Next n bloch i j
unfolding follows
next_of n bloch i j h =
    record {
      how = ⊎_elim
          (λ e. let t = and_parts (eqb j (i + 1)) (ltb (i + 1) n) e in inl (eqb-true j (i + 1) t.0, ltb-true (i + 1) n t.1))
          (λ e.
          let t = and_parts (bloch && eqb (i + 1) n) (eqb j 0) e in
          let u = and_parts bloch (eqb (i + 1) n) t.0 in
          inr (u.0, eqb-true (i + 1) n u.1, eqb-true j 0 t.1))
          (or_cases _ _ h);
    }

-- a next place is live, and both ways there is one next place at most
next_live : (n : ℕ) (bloch : Bool) (i j : ℕ) → follows n bloch i j ≡ true → live_at bloch across j ≡ true
unfolding live_at
next_live n bloch i j h = ⊎_elim
    (λ t. or_right bloch _ (rw (ne_eqb j 0 (λ e. omega (arith, t.0)))))
    (λ t. or_left _ (not (eqb j 0)) t.0)
    (next_of n bloch i j h).how

next_one : (n : ℕ) (bloch : Bool) (m i j : ℕ) → follows n bloch m i ≡ true → follows n bloch m j ≡ true → i ≡ j
next_one n bloch m i j h g = ⊎_elim
    (λ t. ⊎_elim (λ u. omega (arith, t.0, u.0)) (λ u. absurd (omega (arith, t.1, u.1))) (next_of n bloch m j g).how)
    (λ t. ⊎_elim (λ u. absurd (omega (arith, t.1, u.1))) (λ u. omega (arith, t.2, u.2)) (next_of n bloch m j g).how)
    (next_of n bloch m i h).how

one_next : (n : ℕ) (bloch : Bool) (i j m : ℕ) → follows n bloch i m ≡ true → follows n bloch j m ≡ true → i ≡ j
one_next n bloch i j m h g = ⊎_elim
    (λ t. ⊎_elim (λ u. omega (arith, t.0, u.0)) (λ u. absurd (omega (arith, t.0, u.2))) (next_of n bloch j m g).how)
    (λ t. ⊎_elim (λ u. absurd (omega (arith, u.0, t.2))) (λ u. omega (arith, t.1, u.1)) (next_of n bloch j m g).how)
    (next_of n bloch i m h).how

-- near: the same, the next or the one before
near_of : ℕ → Bool → Rel
near_of n bloch i j = eqb i j || (follows n bloch i j || follows n bloch j i)

module _ (n : ℕ) (bloch : Bool) (i j : ℕ) where
  near_same : i ≡ j → near_of n bloch i j ≡ true
  unfolding near_of
  near_same e = or_left _ (follows n bloch i j || follows n bloch j i) (eq-eqb i j e)

  near_next : follows n bloch i j ≡ true → near_of n bloch i j ≡ true
  unfolding near_of
  near_next e = or_right (eqb i j) _ (or_left _ (follows n bloch j i) e)

  near_back : follows n bloch j i ≡ true → near_of n bloch i j ≡ true
  unfolding near_of
  near_back e = or_right (eqb i j) _ (or_right (follows n bloch i j) _ e)

  near_cases : near_of n bloch i j ≡ true → (i ≡ j) ⊎ ((follows n bloch i j ≡ true) ⊎ (follows n bloch j i ≡ true))
  unfolding near_of
  near_cases h = ⊎_elim (λ e. inl (eqb-true i j e)) (λ e. inr (or_cases _ _ e)) (or_cases _ _ h)

  pub ahead_cases : ahead n bloch i j ≡ true → (i ≡ j) ⊎ (follows n bloch i j ≡ true)
  unfolding ahead
  ahead_cases h = ⊎_elim (λ e. inl (eqb-true i j e)) (λ e. inr e) (or_cases _ _ h)

  pub back_cases : back n bloch i j ≡ true → (i ≡ j) ⊎ (follows n bloch j i ≡ true)
  unfolding back
  back_cases h = ⊎_elim (λ e. inl (eqb-true i j e)) (λ e. inr e) (or_cases _ _ h)

  pub ahead_same : i ≡ j → ahead n bloch i j ≡ true
  unfolding ahead
  ahead_same e = or_left _ (follows n bloch i j) (eq-eqb i j e)

  pub ahead_next : follows n bloch i j ≡ true → ahead n bloch i j ≡ true
  unfolding ahead
  ahead_next e = or_right (eqb i j) _ e

  pub back_same : i ≡ j → back n bloch i j ≡ true
  unfolding back
  back_same e = or_left _ (follows n bloch j i) (eq-eqb i j e)

  pub back_next : follows n bloch j i ≡ true → back n bloch i j ≡ true
  unfolding back
  back_next e = or_right (eqb i j) _ e

-- two shifts that undo each other come to near
module _ (n : ℕ) (bloch : Bool) (i j k : ℕ) where
  back_ahead : back n bloch i k ≡ true → ahead n bloch k j ≡ true → near_of n bloch i j ≡ true
  back_ahead h g = ⊎_elim
      (λ e. ⊎_elim (λ f. near_same n bloch i j (e ∙ f)) (λ f. near_next n bloch i j (rw e f)) (ahead_cases n bloch k j g))
      (λ e. ⊎_elim (λ f. near_back n bloch i j (rw f at e)) (λ f. near_same n bloch i j (next_one n bloch k i j e f)) (ahead_cases n bloch k j g))
      (back_cases n bloch i k h)

  ahead_back : ahead n bloch i k ≡ true → back n bloch k j ≡ true → near_of n bloch i j ≡ true
  ahead_back h g = ⊎_elim
      (λ e. ⊎_elim (λ f. near_same n bloch i j (e ∙ f)) (λ f. near_back n bloch i j (rw e f)) (back_cases n bloch k j g))
      (λ e. ⊎_elim (λ f. near_next n bloch i j (rw f at e)) (λ f. near_same n bloch i j (one_next n bloch i j k e f)) (back_cases n bloch k j g))
      (ahead_cases n bloch i k h)

-- one axis, by way of a face
face_axis : (n : ℕ) (bloch da df db : Bool) (i j : ℕ) → (da ≡ true → df ≡ true → ⊥) → (df ≡ true → db ≡ true → ⊥)
    → live_at bloch (role_of da) i ≡ true → live_at bloch (role_of db) j ≡ true
    → after n (curl_h n bloch da df) (curl_e n bloch df db) i j ≡ true → base_of n bloch (name_of da db (not da && not df)) i j ≡ true
unfolding base_of ahead back near_of
face_axis n bloch true true db i j p q li lj h = absurd (p refl refl)
face_axis n bloch true false true i j p q li lj h =
    let t = after_by n eqb eqb i j h in
    and_from _ _ li (eq-eqb i j (eqb-true i t.0 t.2 ∙ eqb-true t.0 j t.3))
face_axis n bloch true false false i j p q li lj h =
    let t = after_by n eqb (ahead n bloch) i j h in
    and_from _ _ lj (rw (eqb-true i t.0 t.2) t.3)
face_axis n bloch false true true i j p q li lj h = absurd (q refl refl)
face_axis n bloch false true false i j p q li lj h =
    let t = after_by n eqb eqb i j h in
    and_from _ _ li (eq-eqb i j (eqb-true i t.0 t.2 ∙ eqb-true t.0 j t.3))
face_axis n bloch false false true i j p q li lj h =
    let t = after_by n (back n bloch) eqb i j h in
    let e : t.0 ≡ j = eqb-true t.0 j t.3 in
    let g : back n bloch i j ≡ true = rw e at t.2 in
    and_from _ _ li (g)
face_axis n bloch false false false i j p q li lj h =
    let t = after_by n (back n bloch) (ahead n bloch) i j h in
    and_from _ _ (and_from _ _ li lj) (back_ahead n bloch i j t.0 t.2 t.3)

axis_face : (n : ℕ) (bloch da df : Bool) (i j : ℕ) → (da ≡ true → df ≡ true → ⊥) → i < n → j < n
    → base_of n bloch (name_of da da (not da && not df)) i j ≡ true → after n (curl_h n bloch da df) (curl_e n bloch df da) i j ≡ true
unfolding base_of ahead back near_of
axis_face n bloch true true i j p a b h = absurd (p refl refl)
axis_face n bloch true false i j p a b h = by_after n eqb eqb i j i a (eq-eqb i i refl) (and_parts (live_at bloch along i) (eqb i j) h).1
axis_face n bloch false true i j p a b h = by_after n eqb eqb i j i a (eq-eqb i i refl) (and_parts (live_at bloch across i) (eqb i j) h).1
axis_face n bloch false false i j p a b h =
    let g : near_of n bloch i j ≡ true = (and_parts (live_at bloch across i && live_at bloch across j) (eqb i j || (follows n bloch i j || follows n bloch j i)) h).1 in
    ⊎_elim
    (λ e. by_after n (back n bloch) (ahead n bloch) i j i a (back_same n bloch i i refl) (ahead_same n bloch i j e))
    (λ f. ⊎_elim
    (λ e. by_after n (back n bloch) (ahead n bloch) i j i a (back_same n bloch i i refl) (ahead_next n bloch i j e))
    (λ e. by_after n (back n bloch) (ahead n bloch) i j j b (back_next n bloch i j e) (ahead_same n bloch j j refl))
    f)
    (near_cases n bloch i j g)

-- one axis, by way of a node
node_axis : (n : ℕ) (bloch da db : Bool) (i j : ℕ)
    → live_at bloch (role_of da) i ≡ true → live_at bloch (role_of db) j ≡ true
    → after n (grad n bloch da) (div n bloch db) i j ≡ true → base_of n bloch (name_of da db da) i j ≡ true
unfolding base_of grad ahead back near_of
node_axis n bloch true true i j li lj h =
    let t = after_by n (grad n bloch true) (back n bloch) i j h in
    let k = t.0 in
    and_from _ _ (and_from _ _ li lj) (ahead_back n bloch i j k (and_parts (live_at bloch across k) (ahead n bloch i k) t.2).1 t.3)
node_axis n bloch true false i j li lj h =
    let t = after_by n (grad n bloch true) eqb i j h in
    let k = t.0 in
    let e : k ≡ j = eqb-true k j t.3 in
    let g : ahead n bloch i j ≡ true = rw e at (and_parts (live_at bloch across k) (ahead n bloch i k) t.2).1 in
    and_from _ _ lj (g)
node_axis n bloch false true i j li lj h =
    let t = after_by n (grad n bloch false) (back n bloch) i j h in
    let k = t.0 in
    let e : i ≡ k = eqb-true i k (and_parts (live_at bloch across k) (eqb i k) t.2).1 in
    and_from _ _ li (rw e t.3)
node_axis n bloch false false i j li lj h =
    let t = after_by n (grad n bloch false) eqb i j h in
    let k = t.0 in
    let e : i ≡ k = eqb-true i k (and_parts (live_at bloch across k) (eqb i k) t.2).1 in
    and_from _ _ li (eq-eqb i j (e ∙ eqb-true k j t.3))

axis_node : (n : ℕ) (bloch da db : Bool) (i j : ℕ) → (da ≡ true → db ≡ true → ⊥) → i < n → j < n
    → base_of n bloch (name_of da db false) i j ≡ true → after n (grad n bloch da) (div n bloch db) i j ≡ true
unfolding base_of grad ahead back near_of
axis_node n bloch true true i j p a b h = absurd (p refl refl)
axis_node n bloch true false i j p a b h =
    let t = and_parts (live_at bloch across j) (eqb i j || follows n bloch i j) h in
    by_after n (grad n bloch true) eqb i j j b (and_from _ _ t.0 t.1) (eq-eqb j j refl)
axis_node n bloch false true i j p a b h =
    let t = and_parts (live_at bloch across i) (eqb i j || follows n bloch j i) h in
    by_after n (grad n bloch false) (back n bloch) i j i a (and_from _ _ t.0 (eq-eqb i i refl)) t.1
axis_node n bloch false false i j p a b h =
    let t = and_parts (live_at bloch across i) (eqb i j) h in
    by_after n (grad n bloch false) eqb i j i a (and_from _ _ t.0 (eq-eqb i i refl)) t.1

axis_node_own : (n : ℕ) (bloch da : Bool) (i j : ℕ) → (da ≡ true → i ≡ j → ⊥) → i < n → j < n
    → base_of n bloch (name_of da da da) i j ≡ true → after n (grad n bloch da) (div n bloch da) i j ≡ true
unfolding base_of grad ahead back near_of
axis_node_own n bloch true i j p a b h =
    let g : near_of n bloch i j ≡ true = (and_parts (live_at bloch along i && live_at bloch along j) (eqb i j || (follows n bloch i j || follows n bloch j i)) h).1 in
    ⊎_elim
    (λ e. absurd (p refl e))
    (λ f. ⊎_elim
    (λ e. by_after n (grad n bloch true) (back n bloch) i j j b (and_from _ _ (next_live n bloch i j e) (ahead_next n bloch i j e)) (back_same n bloch j j refl))
    (λ e. by_after n (grad n bloch true) (back n bloch) i j i a (and_from _ _ (next_live n bloch j i e) (ahead_same n bloch i i refl)) (back_next n bloch i j e))
    f)
    (near_cases n bloch i j g)
axis_node_own n bloch false i j p a b h = axis_node n bloch false false i j (λ e f. false≢true e) a b h

-- the names of the relations on the way
face_name : (a b f d : ℕ) → a < 3 → b < 3 → f < 3 → d < 3 → (f ≡ a → ⊥) → (f ≡ b → ⊥)
    → name_at a b (3 - (a + f)) d ≡ name_of (eqb d a) (eqb d b) (not (eqb d a) && not (eqb d f))
unfolding name_at
face_name a b f d ha hb hf hd fa fb = go (eqb d a) refl (eqb d b) refl (eqb d f) refl (eqb a b) refl (eqb d (3 - (a + f))) refl
  where
    go : (da : Bool) → eqb d a ≡ da → (db : Bool) → eqb d b ≡ db → (df : Bool) → eqb d f ≡ df → (ab : Bool) → eqb a b ≡ ab → (dw : Bool) → eqb d (3 - (a + f)) ≡ dw
        → name_of da db (ab && dw) ≡ name_of da db (not da && not df)
    go true p true q df r true s true t = absurd (omega (arith, eqb-true d a p, eqb-true d (3 - (a + f)) t))
    go true p true q df r true s false t = refl
    go true p true q df r false s dw t = refl
    go true p false q df r ab s dw t = refl
    go false p true q df r ab s dw t = refl
    go false p false q true r true s true t = absurd (omega (arith, eqb-true d f r, eqb-true d (3 - (a + f)) t))
    go false p false q true r true s false t = refl
    go false p false q true r false s dw t = refl
    go false p false q false r true s true t = refl
    go false p false q false r true s false t =
        absurd (omega (arith, eqb-false d a p, eqb-false d f r, eqb-false d (3 - (a + f)) t))
    go false p false q false r false s dw t =
        absurd (omega (arith, eqb-false d a p, eqb-false d b q, eqb-false d f r, eqb-false a b s))

node_name : (a b d : ℕ) → name_at a b a d ≡ name_of (eqb d a) (eqb d b) (eqb d a)
unfolding name_at
node_name a b d = go (eqb d a) refl (eqb d b) refl (eqb a b) refl
  where
    go : (da : Bool) → eqb d a ≡ da → (db : Bool) → eqb d b ≡ db → (ab : Bool) → eqb a b ≡ ab → name_of da db (ab && da) ≡ name_of da db da
    go true p true q true s = refl
    go true p true q false s = absurd (eqb-false a b s (sym (eqb-true d a p) ∙ eqb-true d b q))
    go true p false q ab s = refl
    go false p true q ab s = refl
    go false p false q true s = refl
    go false p false q false s = refl

apart_name : (a b w d : ℕ) → (a ≡ b → ⊥) → name_at a b w d ≡ name_of (eqb d a) (eqb d b) false
unfolding name_at
apart_name a b w d h = rw (ne_eqb a b h)

not_two : (d a f : ℕ) → (f ≡ a → ⊥) → eqb d a ≡ true → eqb d f ≡ true → ⊥
not_two d a f h p q = h (sym (eqb-true d f q) ∙ eqb-true d a p)

-- rows and columns of a relation are live
pub live_along : (bloch : Bool) (i : ℕ) → live_at bloch along i ≡ true
unfolding live_at
live_along bloch i = refl

row_free : (n : ℕ) (bloch da db s : Bool) (i j : ℕ) → base_of n bloch (name_of da db s) i j ≡ true → live_at bloch (role_of da) i ≡ true
unfolding base_of
row_free n bloch true db s i j h = live_along bloch i
row_free n bloch false true s i j h = (and_parts (live_at bloch across i) (eqb i j || follows n bloch j i) h).0
row_free n bloch false false true i j h =
    (and_parts (live_at bloch across i) (live_at bloch across j) (and_parts (live_at bloch across i && live_at bloch across j) (eqb i j || (follows n bloch i j || follows n bloch j i)) h).0).0
row_free n bloch false false false i j h = (and_parts (live_at bloch across i) (eqb i j) h).0

column_free : (n : ℕ) (bloch da db s : Bool) (i j : ℕ) → base_of n bloch (name_of da db s) i j ≡ true → live_at bloch (role_of db) j ≡ true
unfolding base_of
column_free n bloch da true s i j h = live_along bloch j
column_free n bloch true false s i j h = (and_parts (live_at bloch across j) (eqb i j || follows n bloch i j) h).0
column_free n bloch false false true i j h =
    (and_parts (live_at bloch across i) (live_at bloch across j) (and_parts (live_at bloch across i && live_at bloch across j) (eqb i j || (follows n bloch i j || follows n bloch j i)) h).0).1
column_free n bloch false false false i j h =
    let t = and_parts (live_at bloch across i) (eqb i j) h in
    rw (eqb-true i j t.1) at t.0

module _ (n : ℕ → ℕ → ℕ) (bloch : ℕ → Bool) (weights : ℕ → ℕ → Role → Rel) (a b : ℕ) (p q : Spot)
    (ha : a < 3) (hb : b < 3) (ip : Within (cells (n 0) bloch) p) (iq : Within (cells (n 0) bloch) q) where
  -- from the lattice's row to the pattern
  from_face : Free (n 0) bloch a p → Free (n 0) bloch b q → ByFace (n 0) bloch a b p q → Pattern (ladder n bloch weights) 0 a b p q
  unfolding rel after_cube
  from_face lp lq t =
      let f = t.face in
      let h = (product (cells (n 0) bloch) (curl_h_cube (n 0) bloch a f) (curl_e_cube (n 0) bloch f b) p q).0 t.path in
      record {
        term = (3 - (a + f), omega (arith, t.other));
        held = record {
          x = rw (face_name a b f 0 ha hb t.few (lit< tt) t.other t.another)
              (face_axis (n 0 0) (bloch 0) (eqb 0 a) (eqb 0 f) (eqb 0 b) p.x q.x (not_two 0 a f t.other) (λ u v. not_two 0 b f t.another v u) lp.x lq.x h.x);
          y = rw (face_name a b f 1 ha hb t.few (lit< tt) t.other t.another)
              (face_axis (n 0 1) (bloch 1) (eqb 1 a) (eqb 1 f) (eqb 1 b) p.y q.y (not_two 1 a f t.other) (λ u v. not_two 1 b f t.another v u) lp.y lq.y h.y);
          z = rw (face_name a b f 2 ha hb t.few (lit< tt) t.other t.another)
              (face_axis (n 0 2) (bloch 2) (eqb 2 a) (eqb 2 f) (eqb 2 b) p.z q.z (not_two 2 a f t.other) (λ u v. not_two 2 b f t.another v u) lp.z lq.z h.z);
        };
      }

  from_node : Free (n 0) bloch a p → Free (n 0) bloch b q → Then (cells (n 0) bloch) (Times (grad_cube (n 0) bloch a)) (Times (div_cube (n 0) bloch b)) p q
      → Pattern (ladder n bloch weights) 0 a b p q
  unfolding rel after_cube
  from_node lp lq t =
      let h = (product (cells (n 0) bloch) (grad_cube (n 0) bloch a) (div_cube (n 0) bloch b) p q).0 t in
      record {
        term = (a, ha);
        held = record {
          x = rw (node_name a b 0) (node_axis (n 0 0) (bloch 0) (eqb 0 a) (eqb 0 b) p.x q.x lp.x lq.x h.x);
          y = rw (node_name a b 1) (node_axis (n 0 1) (bloch 1) (eqb 1 a) (eqb 1 b) p.y q.y lp.y lq.y h.y);
          z = rw (node_name a b 2) (node_axis (n 0 2) (bloch 2) (eqb 2 a) (eqb 2 b) p.z q.z lp.z lq.z h.z);
        };
      }

  -- and back
  free_row : Pattern (ladder n bloch weights) 0 a b p q → Free (n 0) bloch a p
  unfolding rel name_at
  free_row u =
      let w = u.term.0 in
      record {
        x = row_free (n 0 0) (bloch 0) (eqb 0 a) (eqb 0 b) (eqb a b && eqb 0 w) p.x q.x u.held.x;
        y = row_free (n 0 1) (bloch 1) (eqb 1 a) (eqb 1 b) (eqb a b && eqb 1 w) p.y q.y u.held.y;
        z = row_free (n 0 2) (bloch 2) (eqb 2 a) (eqb 2 b) (eqb a b && eqb 2 w) p.z q.z u.held.z;
      }

  free_column : Pattern (ladder n bloch weights) 0 a b p q → Free (n 0) bloch b q
  unfolding rel name_at
  free_column u =
      let w = u.term.0 in
      record {
        x = column_free (n 0 0) (bloch 0) (eqb 0 a) (eqb 0 b) (eqb a b && eqb 0 w) p.x q.x u.held.x;
        y = column_free (n 0 1) (bloch 1) (eqb 1 a) (eqb 1 b) (eqb a b && eqb 1 w) p.y q.y u.held.y;
        z = column_free (n 0 2) (bloch 2) (eqb 2 a) (eqb 2 b) (eqb a b && eqb 2 w) p.z q.z u.held.z;
      }

  -- a and b differ: by way of a node
  to_node : (a ≡ b → ⊥) → Pattern (ladder n bloch weights) 0 a b p q → Then (cells (n 0) bloch) (Times (grad_cube (n 0) bloch a)) (Times (div_cube (n 0) bloch b)) p q
  unfolding rel after_cube
  to_node ne u =
      let w = u.term.0 in
      let two : (d : ℕ) → eqb d a ≡ true → eqb d b ≡ true → ⊥ = λ d. not_two d a b (λ e. ne (sym e)) in
      (product (cells (n 0) bloch) (grad_cube (n 0) bloch a) (div_cube (n 0) bloch b) p q).1
      (record {
        x = axis_node (n 0 0) (bloch 0) (eqb 0 a) (eqb 0 b) p.x q.x (two 0) ip.x iq.x (rw (apart_name a b w 0 ne) at u.held.x);
        y = axis_node (n 0 1) (bloch 1) (eqb 1 a) (eqb 1 b) p.y q.y (two 1) ip.y iq.y (rw (apart_name a b w 1 ne) at u.held.y);
        z = axis_node (n 0 2) (bloch 2) (eqb 2 a) (eqb 2 b) p.z q.z (two 2) ip.z iq.z (rw (apart_name a b w 2 ne) at u.held.z);
      })

-- a row's own component: near on another axis by way of a face, near on its own by way of a node, or the diagonal
module _ (n : ℕ → ℕ → ℕ) (bloch : ℕ → Bool) (weights : ℕ → ℕ → Role → Rel) (a : ℕ) (p q : Spot)
    (ha : a < 3) (ip : Within (cells (n 0) bloch) p) (iq : Within (cells (n 0) bloch) q) where
  to_face : (w : ℕ) → w < 3 → (w ≡ a → ⊥) → Times (record { x = base_of (n 0 0) (bloch 0) (name_at a a w 0); y = base_of (n 0 1) (bloch 1) (name_at a a w 1); z = base_of (n 0 2) (bloch 2) (name_at a a w 2) }) p q
      → ByFace (n 0) bloch a a p q
  unfolding after_cube
  to_face w hw ne t =
      let f = 3 - (a + w) in
      let hf : f < 3 = omega arith in
      let fa : f ≡ a → ⊥ = λ e. omega arith in
      let ww : w ≡ 3 - (a + f) = omega arith in
      let name : (d : ℕ) → d < 3 → name_at a a w d ≡ name_of (eqb d a) (eqb d a) (not (eqb d a) && not (eqb d f)) = λ d hd. ap (λ (v : ℕ). name_at a a v d) ww ∙ face_name a a f d ha ha hf hd fa fa in
      record {
        face = f;
        few = hf;
        other = fa;
        another = fa;
        path = (product (cells (n 0) bloch) (curl_h_cube (n 0) bloch a f) (curl_e_cube (n 0) bloch f a) p q).1
            (record {
              x = axis_face (n 0 0) (bloch 0) (eqb 0 a) (eqb 0 f) p.x q.x (not_two 0 a f fa) ip.x iq.x (rw (name 0 (lit< tt)) at t.x);
              y = axis_face (n 0 1) (bloch 1) (eqb 1 a) (eqb 1 f) p.y q.y (not_two 1 a f fa) ip.y iq.y (rw (name 1 (lit< tt)) at t.y);
              z = axis_face (n 0 2) (bloch 2) (eqb 2 a) (eqb 2 f) p.z q.z (not_two 2 a f fa) ip.z iq.z (rw (name 2 (lit< tt)) at t.z);
            });
      }

same_place : (n : ℕ) (bloch da : Bool) (i j : ℕ) → da ≡ false → base_of n bloch (name_of da da da) i j ≡ true → i ≡ j
unfolding base_of
same_place n bloch true i j e h = absurd (false≢true (sym e))
same_place n bloch false i j e h = eqb-true i j (and_parts (live_at bloch across i) (eqb i j) h).1

pub spot_path : (a : ℕ) (p q : Spot) → p.x ≡ q.x → p.y ≡ q.y → p.z ≡ q.z → spot_edge a p ≡ spot_edge a q
spot_path a p q x y z = λ i. record { comp = a; at = record { x = x i; y = y i; z = z i } }

module _ (n : ℕ → ℕ → ℕ) (bloch : ℕ → Bool) (a : ℕ) (p q : Spot) (ip : Within (cells (n 0) bloch) p) (iq : Within (cells (n 0) bloch) q)
    (t : Times (record { x = base_of (n 0 0) (bloch 0) (name_of (eqb 0 a) (eqb 0 a) (eqb 0 a)); y = base_of (n 0 1) (bloch 1) (name_of (eqb 1 a) (eqb 1 a) (eqb 1 a)); z = base_of (n 0 2) (bloch 2) (name_of (eqb 2 a) (eqb 2 a) (eqb 2 a)) }) p q) where
  ex : (0 ≡ a → ⊥) → p.x ≡ q.x
  ex h = same_place (n 0 0) (bloch 0) (eqb 0 a) p.x q.x (ne_eqb 0 a h) t.x

  ey : (1 ≡ a → ⊥) → p.y ≡ q.y
  ey h = same_place (n 0 1) (bloch 1) (eqb 1 a) p.y q.y (ne_eqb 1 a h) t.y

  ez : (2 ≡ a → ⊥) → p.z ≡ q.z
  ez h = same_place (n 0 2) (bloch 2) (eqb 2 a) p.z q.z (ne_eqb 2 a h) t.z

  not_here : (spot_edge a p ≡ spot_edge a q → ⊥) → Then (cells (n 0) bloch) (Times (grad_cube (n 0) bloch a)) (Times (div_cube (n 0) bloch a)) p q
  unfolding after_cube
  not_here far =
      (product (cells (n 0) bloch) (grad_cube (n 0) bloch a) (div_cube (n 0) bloch a) p q).1
      (record {
        x = axis_node_own (n 0 0) (bloch 0) (eqb 0 a) p.x q.x (λ h e. let g : 0 ≡ a = eqb-true 0 a h in far (spot_path a p q e (ey (λ f. omega arith)) (ez (λ f. omega arith)))) ip.x iq.x t.x;
        y = axis_node_own (n 0 1) (bloch 1) (eqb 1 a) p.y q.y (λ h e. let g : 1 ≡ a = eqb-true 1 a h in far (spot_path a p q (ex (λ f. omega arith)) e (ez (λ f. omega arith)))) ip.y iq.y t.y;
        z = axis_node_own (n 0 2) (bloch 2) (eqb 2 a) p.z q.z (λ h e. let g : 2 ≡ a = eqb-true 2 a h in far (spot_path a p q (ex (λ f. omega arith)) (ey (λ f. omega arith)) e)) ip.z iq.z t.z;
      })

  here_or : (spot_edge a p ≡ spot_edge a q) ⊎ Then (cells (n 0) bloch) (Times (grad_cube (n 0) bloch a)) (Times (div_cube (n 0) bloch a)) p q
  here_or = go (ℕ_discrete p.x q.x) (ℕ_discrete p.y q.y) (ℕ_discrete p.z q.z)
    where
      go : Dec (p.x ≡ q.x) → Dec (p.y ≡ q.y) → Dec (p.z ≡ q.z) → (spot_edge a p ≡ spot_edge a q) ⊎ Then (cells (n 0) bloch) (Times (grad_cube (n 0) bloch a)) (Times (div_cube (n 0) bloch a)) p q
      go (yes x) (yes y) (yes z) = inl (spot_path a p q x y z)
      go (yes x) (yes y) (no z) = inr (not_here (λ e. z (ap (λ (g : SpotEdge). g.at.z) e)))
      go (yes x) (no y) z = inr (not_here (λ e. y (ap (λ (g : SpotEdge). g.at.y) e)))
      go (no x) y z = inr (not_here (λ e. x (ap (λ (g : SpotEdge). g.at.x) e)))

-- the same component
own_same : (n : ℕ → ℕ → ℕ) (bloch : ℕ → Bool) (weights : ℕ → ℕ → Role → Rel) (a : ℕ) (p q : Spot)
    → a < 3 → Within (cells (n 0) bloch) p → Within (cells (n 0) bloch) q → (u : Pattern (ladder n bloch weights) 0 a a p q) → Dec (u.term.0 ≡ a)
    → (ByFace (n 0) bloch a a p q ⊎ Then (cells (n 0) bloch) (Times (grad_cube (n 0) bloch a)) (Times (div_cube (n 0) bloch a)) p q → Stencil (n 0) bloch a a p q)
    → Stencil (n 0) bloch a a p q
unfolding rel
own_same n bloch weights a p q ha ip iq u (yes e) touch =
    let w = u.term.0 in
    let name : (d : ℕ) → name_at a a w d ≡ name_of (eqb d a) (eqb d a) (eqb d a) = λ d. ap (λ (v : ℕ). name_at a a v d) e ∙ node_name a a d in
    ⊎_elim (λ g. inl g) (λ g. touch (inr g))
    (here_or n bloch a p q ip iq
    (record { x = rw (name 0) at u.held.x; y = rw (name 1) at u.held.y; z = rw (name 2) at u.held.z }))
own_same n bloch weights a p q ha ip iq u (no ne) touch =
    touch (inl (to_face n bloch weights a p q ha ip iq u.term.0 u.term.1 ne (record { x = u.held.x; y = u.held.y; z = u.held.z })))

own_at : (n : ℕ → ℕ → ℕ) (bloch : ℕ → Bool) (weights : ℕ → ℕ → Role → Rel) (a b : ℕ) (p q : Spot)
    → a < 3 → Within (cells (n 0) bloch) p → Within (cells (n 0) bloch) q → a ≡ b → (u : Pattern (ladder n bloch weights) 0 a b p q) → Dec (u.term.0 ≡ a)
    → (ByFace (n 0) bloch a b p q ⊎ Then (cells (n 0) bloch) (Times (grad_cube (n 0) bloch a)) (Times (div_cube (n 0) bloch b)) p q → Stencil (n 0) bloch a b p q)
    → Stencil (n 0) bloch a b p q
own_at n bloch weights a b p q ha ip iq e = subst
    (λ (b : ℕ). (u : Pattern (ladder n bloch weights) 0 a b p q) → Dec (u.term.0 ≡ a)
    → (ByFace (n 0) bloch a b p q ⊎ Then (cells (n 0) bloch) (Times (grad_cube (n 0) bloch a)) (Times (div_cube (n 0) bloch b)) p q → Stencil (n 0) bloch a b p q)
    → Stencil (n 0) bloch a b p q) e (own_same n bloch weights a p q ha ip iq)

-- the theorem
pub level0 : (n : ℕ → ℕ → ℕ) (bloch : ℕ → Bool) (weights : ℕ → ℕ → Role → Rel) (a b : ℕ) (p q : Spot)
    → a < 3 → b < 3 → Within (cells (n 0) bloch) p → Within (cells (n 0) bloch) q
    → Stencil (n 0) bloch a b p q ↔ ((spot_edge a p ≡ spot_edge b q) ⊎ Pattern (ladder n bloch weights) 0 a b p q)
level0 n bloch weights a b p q ha hb ip iq = (there, ⊎_elim (λ e. inl e) back_again)
  where
    there : Stencil (n 0) bloch a b p q → (spot_edge a p ≡ spot_edge b q) ⊎ Pattern (ladder n bloch weights) 0 a b p q
    there (inl e) = inl e
    there (inr t) = inr
        (⊎_elim (from_face n bloch weights a b p q ha hb ip iq t.row t.column) (from_node n bloch weights a b p q ha hb ip iq t.row t.column) t.path)

    touch : Pattern (ladder n bloch weights) 0 a b p q
        → ByFace (n 0) bloch a b p q ⊎ Then (cells (n 0) bloch) (Times (grad_cube (n 0) bloch a)) (Times (div_cube (n 0) bloch b)) p q → Stencil (n 0) bloch a b p q
    touch u path = inr (record { row = free_row n bloch weights a b p q ha hb ip iq u; column = free_column n bloch weights a b p q ha hb ip iq u; path = path })

    own : a ≡ b → (u : Pattern (ladder n bloch weights) 0 a b p q) → Dec (u.term.0 ≡ a) → Stencil (n 0) bloch a b p q
    own e u d = own_at n bloch weights a b p q ha ip iq e u d (touch u)

    back_again : Pattern (ladder n bloch weights) 0 a b p q → Stencil (n 0) bloch a b p q
    back_again u = go (ℕ_discrete a b)
      where
        go : Dec (a ≡ b) → Stencil (n 0) bloch a b p q
        go (yes e) = own e u (ℕ_discrete u.term.0 a)
        go (no ne) = touch u (inr (to_node n bloch weights a b p q ha hb ip iq ne u))
