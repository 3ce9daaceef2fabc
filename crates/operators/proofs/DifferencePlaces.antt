-- What the curls, the divergence and the gradient of a lattice read, as relations of places.
-- Assumes nothing.
use Prim.Native.Nat.{ℕ, ◌<◌}
use mathlib.Core.Path.{◌≡◌, refl, sym, ◌∙◌, ap}
use mathlib.Core.Logic.{◌⊎◌, inl, inr, ⊎_elim, ⊎_swap, ◌↔◌}
use mathlib.Core.Bool.{Bool, true, false, ◌||◌}
use mathlib.Core.List.{List, ◌++◌}
use native.Mathlib.Omega.{arith}
use native.Mathlib.Decide.{ℕ_discrete}
use borrow.Author.Tests.{eqb-true, eqb-false, eq-eqb}
use lib.Dec.{eqb}
use lib.Ieee.{Float}
use Rattle.numbers.specs.declared.C64.{C64}
use Rattle.numbers.specs.Complex.{one_f, negation}
use Rattle.lattice.specs.declared.grid.Position.{Position}
use Rattle.lattice.specs.declared.neighbours.Arrival.{Arrival}
use Rattle.std.specs.Prelude.{None, Some, Option}
use Rattle.lattice.specs.Grid.{n_of, next_axis, last_axis, place_on, moved_to, with_component, index_of, at_of, Inside}
use Rattle.lattice.specs.Lattice.{FullLattice, edges_of}
use Rattle.numbers.specs.Terms.{Term, columns_of}
use Rattle.lattice.specs.Neighbours.{shifted, arrived, neighbour_of, is_node_fixed}
use Rattle.lattice.specs.Curls as Curls
use Rattle.numbers.proofs.Equations.{columns_of_nil}
use Rattle.lattice.proofs.Equations.{next_axis_0, next_axis_1, next_axis_2, last_axis_0, last_axis_1, last_axis_2, with_component_is, neighbour_of_is}
use Rattle.lattice.proofs.GridLaws.{place_inside, moved_inside, with_inside, shift_below, next_low, last_low}
use Rattle.operators.specs.Relation.{Spot, Cube, Times}
use Rattle.operators.specs.Relations0.{pick, div_cube}
use Rattle.operators.specs.Levels.{is_bloch, spot_of}
use Rattle.numbers.proofs.MemberLaws.{in_both, both_in}
use Rattle.numbers.specs.Lists.{In}
use Rattle.lattice.proofs.CurlLaws.{moved_component, with_component_lem, with_place, to_column, here_column, ahead_is, behind_is, curl_e_at_is, curl_h_at_is, divergence_of_is, gradient_at_is}
use Rattle.operators.proofs.NeighbourSpots.{step_on, step_none, shift_step, step_shift, move_cube, low3, moved_times, times_moved}
use Rattle.operators.proofs.ListedPlaces.{Found, Lists, lists_same, lists_append, lists_free}
use Rattle.lattice.proofs.ColumnLaws.{free_append}

-- ---- differences

-- q has component f, and is p moved along t
abbrev pub Moves : FullLattice → Bool → Position → ℕ → ℕ → Position → Type 0
Moves l up p t f q = (q.component ≡ f) × Times (move_cube l up t) (spot_of p) (spot_of q)

pick_none : (b up : Bool) (n : ℕ) (bloch : Bool) (i : ℕ) → pick b (step_on up n bloch) eqb i i ≡ true
pick_none true up n bloch i = step_none up n bloch i
pick_none false up n bloch i = eq-eqb i i refl

move_none : (l : FullLattice) (up : Bool) (t : ℕ) (s : Spot) → Times (move_cube l up t) s s
move_none l up t s =
    record {
      x = pick_none (eqb 0 t) up (n_of l.grid 0) (is_bloch l 0) s.x;
      y = pick_none (eqb 1 t) up (n_of l.grid 1) (is_bloch l 1) s.y;
      z = pick_none (eqb 2 t) up (n_of l.grid 2) (is_bloch l 2) s.z;
    }

module _ (l : FullLattice) (p : Position) (inside : Inside l.grid p) (t f : ℕ) (ht : t < 3) (hf : f < 3) (up : Bool) where
  here_found : (c : ℕ) (w : C64) → In c (columns_of (Curls.term_here l p f w)) → Found l (Moves l up p t f) c
  here_found c w i =
      record {
        at = with_component p f;
        inside = with_inside inside f hf;
        is = ⊎_elim (λ e. sym e) (λ e. absurd e) (rw here_column at i);
        held = rw (with_component_is p f) (refl, move_none l up t (spot_of p));
      }

  to_found : (c : ℕ) (w : C64) → In c (columns_of (Curls.term_to (neighbour_of l (with_component p f) t up) w)) → Found l (Moves l up p t f) c
  to_found c w i = go (shifted (edges_of l t) (n_of l.grid t) (place_on p t) up) refl (rw (neighbour_of_is, with_place) at i)
    where
      go : (s : Option Arrival) → shifted (edges_of l t) (n_of l.grid t) (place_on p t) up ≡ s
          → In c (columns_of (Curls.term_to (arrived l (with_component p f) t s) w)) → Found l (Moves l up p t f) c
      go None e i = absurd (rw columns_of_nil at i)
      go (Some s) e i =
          record {
            at = moved_to (with_component p f) t s.at;
            inside = moved_inside (with_inside inside f hf) t s.at (shift_below (edges_of l t) (n_of l.grid t) (place_on p t) up s.at s.phase (place_inside inside t) e);
            is = ⊎_elim (λ j. sym j) (λ j. absurd j) (rw to_column at i);
            held = (
              moved_component (with_component p f) t s.at ∙ with_component_lem p f,
              moved_times l up p f t ht s.at (shift_step l t (place_on p t) s.at (place_inside inside t) up s.phase e),
            );
          }

  moves_in : (q : Position) (w v : C64) → Moves l up p t f q
      → In (index_of l.grid q) (columns_of (Curls.term_here l p f w)) ⊎ In (index_of l.grid q) (columns_of (Curls.term_to (neighbour_of l (with_component p f) t up) v))
  moves_in q w v h =
      let m = times_moved l up p f q h.0 t ht h.1 in
      ⊎_elim
      (λ e. inl (rw here_column (inl (ap (index_of l.grid) (sym m.1 ∙ ap (moved_to (with_component p f) t) (sym e) ∙ here)))))
      (λ e. inr (rw (neighbour_of_is, with_place, e.1, to_column) (inl (ap (index_of l.grid) (sym m.1)))))
      (step_shift l t (place_on p t) (place_on q t) (place_inside inside t) up m.0)
    where
      here : moved_to (with_component p f) t (place_on p t) ≡ with_component p f
      here =
          rw (← with_place p f t)
          (times_moved l up p f (with_component p f) (with_component_lem p f) t ht (rw (with_component_is p f) (move_none l up t (spot_of p)))).1

module _ (l : FullLattice) (p : Position) (inside : Inside l.grid p) (t f : ℕ) (ht : t < 3) (hf : f < 3) (sign : Float) where
  ahead_lists : Lists l (Moves l true p t f) (Curls.ahead l p t f sign)
  ahead_lists =
      rw ahead_is
      (record {
        there = λ c i. ⊎_elim (to_found l p inside t f ht hf true c _) (here_found l p inside t f ht hf true c _) (in_both c _ _ i);
        back = λ q a h. both_in (index_of l.grid q) _ _ (⊎_swap (moves_in l p inside t f ht hf true q _ _ h));
      })

  behind_lists : Lists l (Moves l false p t f) (Curls.behind l p t f sign)
  behind_lists =
      rw behind_is
      (record {
        there = λ c i. ⊎_elim (here_found l p inside t f ht hf false c _) (to_found l p inside t f ht hf false c _) (in_both c _ _ i);
        back = λ q a h. both_in (index_of l.grid q) _ _ (moves_in l p inside t f ht hf false q _ _ h);
      })

-- ---- the curls

-- three axes
record Axes (c f t : ℕ) : Type 0 where
  c_low : c < 3
  f_low : f < 3
  t_low : t < 3
  differ : c ≡ f → ⊥
  from_c : t ≡ c → ⊥
  from_f : t ≡ f → ⊥

axes_last : (c : ℕ) → c < 3 → Axes c (last_axis c) (next_axis c)
axes_last = low3 (λ c. Axes c (last_axis c) (next_axis c)) (rw (last_axis_0, next_axis_0) (omega arith)) (rw (last_axis_1, next_axis_1) (omega arith)) (rw (last_axis_2, next_axis_2) (omega arith))

axes_next : (c : ℕ) → c < 3 → Axes c (next_axis c) (last_axis c)
axes_next = low3 (λ c. Axes c (next_axis c) (last_axis c)) (rw (last_axis_0, next_axis_0) (omega arith)) (rw (last_axis_1, next_axis_1) (omega arith)) (rw (last_axis_2, next_axis_2) (omega arith))

-- on the axes a and b the same place, and on the third a step
abbrev cross_cube : FullLattice → Bool → ℕ → ℕ → Cube
cross_cube l up a b =
    record {
      x = pick (eqb 0 a || eqb 0 b) eqb (step_on up (n_of l.grid 0) (is_bloch l 0));
      y = pick (eqb 1 a || eqb 1 b) eqb (step_on up (n_of l.grid 1) (is_bloch l 1));
      z = pick (eqb 2 a || eqb 2 b) eqb (step_on up (n_of l.grid 2) (is_bloch l 2));
    }

-- from an edge to a face that it reads, or from a face to an edge
abbrev pub Crosses : FullLattice → Bool → Position → Position → Type 0
Crosses l up p q = (p.component ≡ q.component → ⊥) × Times (cross_cube l up p.component q.component) (spot_of p) (spot_of q)

module _ (a b t : ℕ) (axes : Axes a b t) (up : Bool) where
  third : (d n : ℕ) (bloch : Bool) (i j : ℕ) → d < 3 → pick (eqb d t) (step_on up n bloch) eqb i j ≡ pick (eqb d a || eqb d b) eqb (step_on up n bloch) i j
  third d n bloch i j h = go (eqb d t) refl (eqb d a) refl (eqb d b) refl
    where
      go : (dt : Bool) → eqb d t ≡ dt → (da : Bool) → eqb d a ≡ da → (db : Bool) → eqb d b ≡ db
          → pick dt (step_on up n bloch) eqb i j ≡ pick (da || db) eqb (step_on up n bloch) i j
      go true x true y db z = absurd (axes.from_c (sym (eqb-true d t x) ∙ eqb-true d a y))
      go true x false y true z = absurd (axes.from_f (sym (eqb-true d t x) ∙ eqb-true d b z))
      go true x false y false z = refl
      go false x true y db z = refl
      go false x false y true z = refl
      go false x false y false z = absurd (omega (arith, eqb-false d t x, eqb-false d a y, eqb-false d b z))

  module _ (l : FullLattice) (p q : Spot) where
    move_cross : Times (move_cube l up t) p q → Times (cross_cube l up a b) p q
    move_cross h =
        record {
          x = sym (third 0 (n_of l.grid 0) (is_bloch l 0) p.x q.x (omega arith)) ∙ h.x;
          y = sym (third 1 (n_of l.grid 1) (is_bloch l 1) p.y q.y (omega arith)) ∙ h.y;
          z = sym (third 2 (n_of l.grid 2) (is_bloch l 2) p.z q.z (omega arith)) ∙ h.z;
        }

    cross_move : Times (cross_cube l up a b) p q → Times (move_cube l up t) p q
    cross_move h =
        record {
          x = third 0 (n_of l.grid 0) (is_bloch l 0) p.x q.x (omega arith) ∙ h.x;
          y = third 1 (n_of l.grid 1) (is_bloch l 1) p.y q.y (omega arith) ∙ h.y;
          z = third 2 (n_of l.grid 2) (is_bloch l 2) p.z q.z (omega arith) ∙ h.z;
        }

module _ (l : FullLattice) (up : Bool) (p q : Position) where
  moves_cross : (t f : ℕ) → Axes p.component f t → Moves l up p t f q → Crosses l up p q
  moves_cross t f axes h = (
    (λ e. axes.differ (e ∙ h.0)),
    rw h.0 (move_cross p.component f t axes up l (spot_of p) (spot_of q) h.1),
  )

  cross_moves : (t f : ℕ) → Axes p.component f t → q.component ≡ f → Crosses l up p q → Moves l up p t f q
  cross_moves t f axes e h = (e, cross_move p.component f t axes up l (spot_of p) (spot_of q) (rw e at h.1))

  abbrev Either : Type 0
  Either = Moves l up p (next_axis p.component) (last_axis p.component) q ⊎ Moves l up p (last_axis p.component) (next_axis p.component) q

  either_cross : Inside l.grid p → Inside l.grid q → Either ↔ Crosses l up p q
  either_cross a b = (
    ⊎_elim (moves_cross (next_axis c) (last_axis c) (axes_last c a.c_in)) (moves_cross (last_axis c) (next_axis c) (axes_next c a.c_in)),
    (λ h. go h (ℕ_discrete q.component (last_axis c))),
  )
    where
      c : ℕ
      c = p.component

      go : Crosses l up p q → Dec (q.component ≡ last_axis c) → Either
      go h (yes e) = inl (cross_moves (next_axis c) (last_axis c) (axes_last c a.c_in) e h)
      go h (no n) =
          let x = axes_last c a.c_in in
          inr (cross_moves (last_axis c) (next_axis c) (axes_next c a.c_in) (omega (arith, b.c_in, h.0, n, x.differ, x.from_c, x.from_f, x.c_low, x.f_low, x.t_low)) h)

module _ (l : FullLattice) (p : Position) (inside : Inside l.grid p) where
  curl_lists : (up : Bool) (ts us : List Term)
      → Lists l (Moves l up p (next_axis p.component) (last_axis p.component)) ts
      → Lists l (Moves l up p (last_axis p.component) (next_axis p.component)) us
      → Lists l (Crosses l up p) (ts ++ us)
  curl_lists up ts us u v =
      lists_same (Either l up p) (Crosses l up p) (λ q a. either_cross l up p q inside a)
      (lists_append (Moves l up p (next_axis p.component) (last_axis p.component)) (Moves l up p (last_axis p.component) (next_axis p.component)) ts us u v)

  pub curl_e_lists : Lists l (Crosses l true p) (Curls.curl_e_at l p)
  curl_e_lists =
      let c = p.component in
      rw curl_e_at_is
      (curl_lists true (Curls.ahead l p (next_axis c) (last_axis c) one_f) (Curls.ahead l p (last_axis c) (next_axis c) Curls.minus_one_f)
      (ahead_lists l p inside (next_axis c) (last_axis c) (next_low c) (last_low c) one_f)
      (ahead_lists l p inside (last_axis c) (next_axis c) (last_low c) (next_low c) Curls.minus_one_f))

  pub curl_h_lists : Lists l (Crosses l false p) (Curls.curl_h_at l p)
  curl_h_lists =
      let c = p.component in
      rw curl_h_at_is
      (curl_lists false (Curls.behind l p (next_axis c) (last_axis c) one_f) (Curls.behind l p (last_axis c) (next_axis c) Curls.minus_one_f)
      (behind_lists l p inside (next_axis c) (last_axis c) (next_low c) (last_low c) one_f)
      (behind_lists l p inside (last_axis c) (next_axis c) (last_low c) (next_low c) Curls.minus_one_f))

-- ---- the divergence and the gradient

-- from a node to an edge that it reads
abbrev pub Leaves : FullLattice → Position → Position → Type 0
Leaves l s q = Times (div_cube (n_of l.grid) (is_bloch l) q.component) (spot_of s) (spot_of q)

abbrev OneOf : FullLattice → Position → Position → Type 0
OneOf l s q = Moves l false s 0 0 q ⊎ (Moves l false s 1 1 q ⊎ Moves l false s 2 2 q)

one_leaves : (l : FullLattice) (s q : Position) → Inside l.grid q → OneOf l s q ↔ Leaves l s q
one_leaves l s q a = (⊎_elim (one 0) (⊎_elim (one 1) (one 2)), low3 (λ b. q.component ≡ b → Leaves l s q → OneOf l s q) x y z q.component a.c_in refl)
  where
    one : (b : ℕ) → Moves l false s b b q → Leaves l s q
    one b h = rw h.0 h.1

    x : q.component ≡ 0 → Leaves l s q → OneOf l s q
    x e h = inl (e, rw e at h)

    y : q.component ≡ 1 → Leaves l s q → OneOf l s q
    y e h = inr (inl (e, rw e at h))

    z : q.component ≡ 2 → Leaves l s q → OneOf l s q
    z e h = inr (inr (e, rw e at h))

pub divergence_lists : (l : FullLattice) (s : Position) (c : ℕ) → Inside l.grid s → at_of l.grid c ≡ s → Lists l (Leaves l s) (Curls.divergence_of l c)
divergence_lists l s c a e =
    rw (divergence_of_is, e)
    (lists_same (OneOf l s) (Leaves l s) (one_leaves l s)
    (lists_append (Moves l false s 0 0) (λ q. Moves l false s 1 1 q ⊎ Moves l false s 2 2 q) (Curls.behind l s 0 0 one_f) (Curls.behind l s 1 1 one_f ++ Curls.behind l s 2 2 one_f)
    (behind_lists l s a 0 0 (omega arith) (omega arith) one_f)
    (lists_append (Moves l false s 1 1) (Moves l false s 2 2) (Curls.behind l s 1 1 one_f) (Curls.behind l s 2 2 one_f)
    (behind_lists l s a 1 1 (omega arith) (omega arith) one_f)
    (behind_lists l s a 2 2 (omega arith) (omega arith) one_f))))

pub gradient_lists : (l : FullLattice) (p : Position) → Inside l.grid p
    → Lists l (λ s. Moves l true p p.component 0 s × (is_node_fixed l (index_of l.grid s) ≡ false)) (Curls.gradient_at l p)
gradient_lists l p a =
    let t = Curls.term_to (neighbour_of l (with_component p 0) p.component true) (Curls.half_weight l p p.component one_f) in
    let u = Curls.term_here l p 0 (negation (Curls.half_weight l p p.component one_f)) in
    rw (gradient_at_is, ← free_append l t u, ← ahead_is l p p.component 0 one_f)
    (lists_free l (Moves l true p p.component 0) (Curls.ahead l p p.component 0 one_f) (ahead_lists l p a p.component 0 a.c_in (omega arith) one_f))
