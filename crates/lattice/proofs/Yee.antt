-- Yee's placement (K. S. Yee, IEEE Trans. Antennas Propag. 14, 302 (1966), Fig. 1): the curl of E at a face reads exactly the edges around
-- the face, and the curl of H at an edge exactly the faces around the edge.
-- Assumes nothing.
use Prim.Native.Nat.{ℕ, zero, suc, ◌+◌, ◌-◌, ◌*◌, ◌<◌}
use native.Mathlib.Omega.{arith}
use native.Mathlib.Decide.{ℕ_discrete}
use mathlib.Core.Path.{◌≡◌, refl, sym, ◌∙◌, ap, subst, subst₂}
use mathlib.Core.Logic.{◌⊎◌, inl, inr, ⊎_elim, ⊎_swap, ◌↔◌}
use mathlib.Core.Bool.{Bool, true, false, cond}
use mathlib.Core.List.Memᴰ.{append_cases as In-cases}
use mathlib.Core.List.Memᴰ.{append_left as In-left}
use mathlib.Core.List.Memᴰ.{append_right as In-right}
use mathlib.Core.List.Memᴰ.{eq_of_singleton as In-single}
use mathlib.Core.List.Memᴰ.{head as In-head}
use mathlib.Core.List.Memᴰ.{not-nil as In-none}
use mathlib.Core.List.{
  List,
  [],
  ◌∷◌,
  ◌++◌,
  Memᴰ as In,
}
use borrow.Author.Tests.{ltb-false, eqb-true, eqb-false, eq-eqb, ne_eqb}
use lib.Dec.{eqb, ltb}
use lib.Ieee.{Float}
use Rattle.numbers.specs.declared.C64.{C64}
use Rattle.numbers.specs.Complex.{one_f, one_number}
use Rattle.lattice.specs.Grid.{
  axis3,
  n_of,
  unknowns_of,
  next_axis,
  last_axis,
  place_on,
  moved_to,
  with_component,
  index_of,
  at_of,
  Limits,
  Inside,
}
use Rattle.lattice.specs.Lattice.{edges_of, is_wall, FullLattice}
use Rattle.numbers.specs.Terms.{Term, columns_of}
use Rattle.lattice.specs.Neighbours.{past_high, past_low, shifted, arrived, neighbour_of}
use Rattle.lattice.specs.Curls.{minus_one_f, term_to, term_here, ahead, behind, curl_e_at, curl_h_at, curl_e, curl_h}
use Rattle.lattice.specs.Yee.{e_place, h_place, HalfStep, plus, minus, plus_period, minus_period, Around}
use Rattle.lattice.specs.declared.grid.Position.{Position}
use Rattle.lattice.specs.declared.lattice.Edges.{Edges}
use Rattle.lattice.specs.declared.lattice.Edges.TheVariants.{Pml, Bloch}
use Rattle.lattice.specs.declared.neighbours.Arrival.{Arrival}
use Rattle.std.specs.Prelude.{None, Some, Option}
use Rattle.lattice.specs.Neighbours.{to_place}
use Rattle.lattice.proofs.GridLaws.{axis_each, place_inside, moved_inside, with_inside, same_place, shift_below, at_inside}
use Rattle.lattice.proofs.CurlLaws.{to_column, here_column}
use Rattle.lattice.proofs.NeighbourLaws.{shift_up, shift_high, shift_down, shift_low, past_high_lem, past_low_lem}
use Rattle.numbers.proofs.EachLaws.{columns_append}
use Rattle.numbers.proofs.Equations.{columns_of_nil}

-- ---- axes and positions

-- what holds of the three axes holds of each axis
low3 : (P : ℕ → Type 0) → P 0 → P 1 → P 2 → (a : ℕ) → a < 3 → P a
low3 P x y z zero h = x
low3 P x y z (suc zero) h = y
low3 P x y z (suc (suc zero)) h = z
low3 P x y z (suc (suc (suc n))) h = absurd (omega arith)

-- three axes
record Axes (c f t : ℕ) : Type 0 where
  c_low : c < 3
  f_low : f < 3
  t_low : t < 3
  differ : c ≡ f → ⊥
  from_c : t ≡ c → ⊥
  from_f : t ≡ f → ⊥

axes_last : (c : ℕ) → c < 3 → Axes c (last_axis c) (next_axis c)
unfolding last_axis next_axis axis3
axes_last = low3 (λ c. Axes c (last_axis c) (next_axis c)) (omega arith) (omega arith) (omega arith)

axes_next : (c : ℕ) → c < 3 → Axes c (next_axis c) (last_axis c)
unfolding last_axis next_axis axis3
axes_next = low3 (λ c. Axes c (next_axis c) (last_axis c)) (omega arith) (omega arith) (omega arith)

moved_own : (p : Position) (m t : ℕ) → t < 3 → place_on (moved_to p t m) t ≡ m
unfolding place_on moved_to axis3
moved_own p m = low3 (λ t. place_on (moved_to p t m) t ≡ m) refl refl refl

moved_other : (p : Position) (m t : ℕ) → t < 3 → (a : ℕ) → a < 3 → (a ≡ t → ⊥) → place_on (moved_to p t m) a ≡ place_on p a
unfolding place_on moved_to axis3
moved_other p m =
    low3 (λ t. (a : ℕ) → a < 3 → (a ≡ t → ⊥) → place_on (moved_to p t m) a ≡ place_on p a)
    (low3 (λ a. (a ≡ 0 → ⊥) → place_on (moved_to p 0 m) a ≡ place_on p a) (λ n. absurd (n refl)) (λ n. refl) (λ n. refl))
    (low3 (λ a. (a ≡ 1 → ⊥) → place_on (moved_to p 1 m) a ≡ place_on p a) (λ n. refl) (λ n. absurd (n refl)) (λ n. refl))
    (low3 (λ a. (a ≡ 2 → ⊥) → place_on (moved_to p 2 m) a ≡ place_on p a) (λ n. refl) (λ n. refl) (λ n. absurd (n refl)))

moved_component : (p : Position) (t m : ℕ) → (moved_to p t m).component ≡ p.component
unfolding moved_to
moved_component p t m = axis_each (λ (q : Position). q.component ≡ p.component) t refl refl refl

moved_here : (p : Position) (t : ℕ) → moved_to p t (place_on p t) ≡ p
unfolding moved_to place_on axis3
moved_here p t = go (eqb t 0) (eqb t 1)
  where
    go : (s u : Bool) → ◌≡◌ {A = Position} (cond s
        (record { component = p.component; i = cond s p.i (cond u p.j p.k); j = p.j; k = p.k })
        (cond u
        (record { component = p.component; i = p.i; j = cond s p.i (cond u p.j p.k); k = p.k })
        (record { component = p.component; i = p.i; j = p.j; k = cond s p.i (cond u p.j p.k) }))) p
    go true u = refl
    go false true = refl
    go false false = refl

-- a position is its component and its places
position_is : {p q : Position} → p.component ≡ q.component → ((a : ℕ) → a < 3 → place_on p a ≡ place_on q a) → p ≡ q
unfolding place_on axis3
position_is e h = λ n. record { component = e n; i = h 0 (omega arith) n; j = h 1 (omega arith) n; k = h 2 (omega arith) n }

-- ---- half-steps on one axis: where a step ends, or where it starts

data Reach (l : FullLattice) (a : ℕ) (up : Bool) (m k : ℕ) : Type 0 where
  here : m ≡ k → Reach l a up m k
  there : (w : C64) → shifted (edges_of l a) (n_of l.grid a) m up ≡ to_place k w → Reach l a up m k

-- from a face's place up to an edge's, or from an edge's down to a face's
abbrev Half : FullLattice → ℕ → Bool → ℕ → ℕ → Type 0
Half l a true m k = HalfStep l a (2 * m + 1) (2 * k)
Half l a false m k = HalfStep l a (2 * k + 1) (2 * m)

module _ (l : FullLattice) (a m k : ℕ) (mine : m < n_of l.grid a) where
  step_half : (up : Bool) (w : C64) → shifted (edges_of l a) (n_of l.grid a) m up ≡ to_place k w → Half l a up m k
  unfolding shifted
  step_half true w q = go (ltb (m + 1) (n_of l.grid a)) (edges_of l a) refl refl q
    where
      go : (b : Bool) (e : Edges)
          → ltb (m + 1) (n_of l.grid a) ≡ b
          → edges_of l a ≡ e
          → cond b (to_place (m + 1) one_number) (past_high e) ≡ to_place k w
          → HalfStep l a (2 * m + 1) (2 * k)
      go true e f d q = let z : m + 1 ≡ k = same_place q in plus (omega arith)
      go false Pml f d q = let z : ◌≡◌ {A = ℕ} 0 1 = cc in absurd (omega arith)
      go false (Bloch p) f d q =
          let z : 0 ≡ k = same_place q in
          plus_period (ap is_wall d) (omega (arith, ltb-false (m + 1) (n_of l.grid a) f))
  step_half false w q = go (eqb m 0) (edges_of l a) refl refl q
    where
      go : (b : Bool) (e : Edges)
          → eqb m 0 ≡ b
          → edges_of l a ≡ e
          → cond b (past_low e (n_of l.grid a)) (to_place (m - 1) one_number) ≡ to_place k w
          → HalfStep l a (2 * k + 1) (2 * m)
      go true Pml f d q = let z : ◌≡◌ {A = ℕ} 0 1 = cc in absurd (omega arith)
      go true (Bloch p) f d q =
          let z : n_of l.grid a - 1 ≡ k = same_place q in
          plus_period (ap is_wall d) (omega (arith, eqb-true m 0 f))
      go false e f d q = let z : m - 1 ≡ k = same_place q in plus (omega (arith, eqb-false m 0 f))

  reach_half : (up : Bool) → Reach l a up m k → Half l a up m k
  reach_half true (here e) = minus (omega arith)
  reach_half true (there w q) = step_half true w q
  reach_half false (here e) = minus (omega arith)
  reach_half false (there w q) = step_half false w q

  half_reach : (up : Bool) → k < n_of l.grid a → Half l a up m k → Reach l a up m k
  half_reach true h (plus e) =
      let z : m + 1 ≡ k = omega arith in
      there one_number (sym (shift_up (edges_of l a) (n_of l.grid a) m true one_number refl (omega arith) refl) ∙ ap (λ n. to_place n one_number) z)
  half_reach true h (minus e) = here (omega arith)
  half_reach true h (plus_period b e) =
      let z : 0 ≡ k = omega arith in
      let s = past_high_lem (edges_of l a) b in
      there s.0 (sym (shift_high (edges_of l a) (n_of l.grid a) m true refl (omega arith)) ∙ s.1 ∙ ap (λ n. to_place n s.0) z)
  half_reach true h (minus_period b e) = absurd (omega arith)
  half_reach false h (plus e) =
      let z : m - 1 ≡ k = omega arith in
      there one_number (sym (shift_down (edges_of l a) (n_of l.grid a) m false one_number refl (omega arith) refl) ∙ ap (λ n. to_place n one_number) z)
  half_reach false h (minus e) = here (omega arith)
  half_reach false h (plus_period b e) =
      let z : n_of l.grid a - 1 ≡ k = omega arith in
      let s = past_low_lem (edges_of l a) (n_of l.grid a) b in
      there s.0 (sym (shift_low (edges_of l a) (n_of l.grid a) m false refl (omega arith)) ∙ s.1 ∙ ap (λ n. to_place n s.0) z)
  half_reach false h (minus_period b e) = absurd (omega arith)

  reach_below : (up : Bool) → Reach l a up m k → k < n_of l.grid a
  reach_below up (here e) = omega arith
  reach_below up (there w q) = shift_below (edges_of l a) (n_of l.grid a) m up k w mine q

-- ---- where the components lie

module _ (p : Position) (a : ℕ) where
  e_own : a ≡ p.component → e_place p a ≡ 2 * place_on p a + 1
  unfolding e_place
  e_own h = rw (eq-eqb a p.component h)

  e_other : (a ≡ p.component → ⊥) → e_place p a ≡ 2 * place_on p a
  unfolding e_place
  e_other h = rw (ne_eqb a p.component h)

  h_own : a ≡ p.component → h_place p a ≡ 2 * place_on p a
  unfolding h_place
  h_own h = rw (eq-eqb a p.component h)

  h_other : (a ≡ p.component → ⊥) → h_place p a ≡ 2 * place_on p a + 1
  unfolding h_place
  h_other h = rw (ne_eqb a p.component h)

-- p and q are at the same place on every axis but t
abbrev Level : ℕ → Position → Position → Type 0
Level t p q = (a : ℕ) → a < 3 → (a ≡ t → ⊥) → place_on p a ≡ place_on q a

-- a face and an edge, by their places
module _ (l : FullLattice) (p q : Position) (t : ℕ) (x : Axes p.component q.component t) where
  around_level : Around l p q → Level t p q
  around_level r a h n = go (ℕ_discrete a p.component)
    where
      go : Dec (a ≡ p.component) → place_on p a ≡ place_on q a
      go (yes e) = omega (arith, r.level a h (inl e), h_own p a e, e_other q a (omega arith))
      go (no d) =
          let e : a ≡ q.component = omega arith in
          omega (arith, r.level a h (inr e), h_other p a d, e_own q a e)

  around_half : Around l p q → HalfStep l t (2 * place_on p t + 1) (2 * place_on q t)
  around_half r =
      subst₂ (HalfStep l t) (h_other p t x.from_c) (e_other q t x.from_f) (r.apart t x.t_low x.from_c x.from_f)

  around : Level t p q → HalfStep l t (2 * place_on p t + 1) (2 * place_on q t) → Around l p q
  around v s =
      record {
        differ = x.differ;
        apart = λ a h m n.
            let e : t ≡ a = omega arith in
            subst (λ b. HalfStep l b (h_place p b) (e_place q b)) e
            (subst₂ (HalfStep l t) (sym (h_other p t x.from_c)) (sym (e_other q t x.from_f)) s);
        level = λ a h. ⊎_elim
            (λ e. omega (arith, h_own p a e, e_other q a (omega arith), v a h (omega arith)))
            (λ e. omega (arith, h_other p a (omega arith), e_own q a e, v a h (omega arith)));
      }

third : {c f t : ℕ} → Axes c f t → (g : ℕ) → g < 3 → (c ≡ g → ⊥) → (g ≡ f → ⊥) → g ≡ t
third x g h m n = omega arith

axes_turn : {c f t : ℕ} → Axes c f t → Axes f c t
axes_turn x = omega arith

-- p is a face and q an edge around it, or the other way round
abbrev Round : FullLattice → Bool → Position → Position → Type 0
Round l true p q = Around l p q
Round l false p q = Around l q p

round_differ : (l : FullLattice) (p q : Position) (up : Bool) → Round l up p q → p.component ≡ q.component → ⊥
round_differ l p q true r e = r.differ e
round_differ l p q false r e = r.differ (sym e)

module _ (l : FullLattice) (p q : Position) (t : ℕ) (x : Axes p.component q.component t) where
  round_level : (up : Bool) → Round l up p q → Level t p q
  round_level true r = around_level l p q t x r
  round_level false r = λ a h n. sym (around_level l q p t (axes_turn x) r a h n)

  round_half : (up : Bool) → Round l up p q → Half l t up (place_on p t) (place_on q t)
  round_half true r = around_half l p q t x r
  round_half false r = around_half l q p t (axes_turn x) r

  round : (up : Bool) → Level t p q → Half l t up (place_on p t) (place_on q t) → Round l up p q
  round true v s = around l p q t x v s
  round false v s = around l q p t (axes_turn x) (λ a h n. sym (v a h n)) s

-- ---- the columns of a difference

append_in : (s t : List Term) (c : ℕ) → In c (columns_of (s ++ t)) ↔ (In c (columns_of s) ⊎ In c (columns_of t))
append_in s t c = (
  λ h. In-cases (columns_of s) (rw columns_append at h),
  λ h. rw columns_append (⊎_elim (In-left (columns_of t)) (In-right (columns_of s)) h),
)

-- the columns of field f's difference along axis t: those of the places that a step reaches, its start among them
abbrev Hit : FullLattice → Position → ℕ → ℕ → Bool → ℕ → Type 0
Hit l p t f up c = (k : ℕ) × Reach l t up (place_on p t) k × (index_of l.grid (moved_to (with_component p f) t k) ≡ c)

module _ (l : FullLattice) (p : Position) (t f c : ℕ) (up : Bool) where
  here_hit : (w : C64) → In c (columns_of (term_here l p f w)) → Hit l p t f up c
  unfolding place_on with_component
  here_hit w h =
      let k : In c (index_of l.grid (with_component p f) ∷ []) = rw (here_column l p f w) at h in
      (place_on p t, here refl, ap (index_of l.grid) (moved_here (with_component p f) t) ∙ sym (In-single k))

  to_hit : (w : C64) → In c (columns_of (term_to (neighbour_of l (with_component p f) t up) w)) → Hit l p t f up c
  unfolding neighbour_of place_on with_component
  to_hit w h = go (shifted (edges_of l t) (n_of l.grid t) (place_on p t) up) refl h
    where
      go : (s : Option Arrival)
          → shifted (edges_of l t) (n_of l.grid t) (place_on p t) up ≡ s
          → In c (columns_of (term_to (arrived l (with_component p f) t s) w))
          → Hit l p t f up c
      go None e h = absurd (In-none (rw columns_of_nil at h))
      go (Some s) e h = (s.at, there s.phase e, sym (In-single (rw (to_column (index_of l.grid (moved_to (with_component p f) t s.at)) s.phase w) at h)))

  hit_in : (w v : C64)
      → Hit l p t f up c
      → In c (columns_of (term_here l p f w)) ⊎ In c (columns_of (term_to (neighbour_of l (with_component p f) t up) v))
  unfolding neighbour_of place_on with_component
  hit_in w v h = go h.0 h.1 h.2
    where
      go : (k : ℕ)
          → Reach l t up (place_on p t) k
          → index_of l.grid (moved_to (with_component p f) t k) ≡ c
          → In c (columns_of (term_here l p f w)) ⊎ In c (columns_of (term_to (neighbour_of l (with_component p f) t up) v))
      go k (here d) e =
          inl (rw (here_column l p f w) (In-head (sym e
          ∙ ap (λ n. index_of l.grid (moved_to (with_component p f) t n)) (sym d)
          ∙ ap (index_of l.grid) (moved_here (with_component p f) t))))
      go k (there u d) e = inr (rw (d, to_column (index_of l.grid (moved_to (with_component p f) t k)) u v) (In-head (sym e)))

ahead_in : (l : FullLattice) (p : Position) (t f c : ℕ) (s : Float) → In c (columns_of (ahead l p t f s)) ↔ Hit l p t f true c
unfolding ahead
ahead_in l p t f c s = (
  λ h. ⊎_elim (to_hit l p t f c true _) (here_hit l p t f c true _) ((append_in _ _ c).0 h),
  λ h. (append_in _ _ c).1 (⊎_swap (hit_in l p t f c true _ _ h)),
)

behind_in : (l : FullLattice) (p : Position) (t f c : ℕ) (s : Float) → In c (columns_of (behind l p t f s)) ↔ Hit l p t f false c
unfolding behind
behind_in l p t f c s = (
  λ h. ⊎_elim (here_hit l p t f c false _) (to_hit l p t f c false _) ((append_in _ _ c).0 h),
  λ h. (append_in _ _ c).1 (hit_in l p t f c false _ _ h),
)

-- ---- what a difference reads lies around, and the other way round

abbrev Found : FullLattice → Bool → Position → ℕ → Type 0
Found l up p c = (q : Position) × Inside l.grid q × (index_of l.grid q ≡ c) × Round l up p q

module _ (l : FullLattice) (p : Position) (inside : Inside l.grid p) (up : Bool) (c : ℕ) where
  hit_found : (t f : ℕ) → Axes p.component f t → Hit l p t f up c → Found l up p c
  unfolding place_on with_component
  hit_found t f x (k, r, e) =
      let s = with_component p f in
      let q = moved_to s t k in
      let mine = place_inside inside t in (
        q,
        moved_inside (with_inside inside f x.f_low) t k (reach_below l t (place_on p t) k mine up r),
        e,
        round l p q t (subst (λ g. Axes p.component g t) (sym (moved_component s t k)) x) up
            (λ a h n. sym (moved_other s k t x.t_low a h n))
            (subst (Half l t up (place_on p t)) (sym (moved_own s k t x.t_low)) (reach_half l t (place_on p t) k mine up r)),
      )

  found_hit : (q : Position) (t : ℕ)
      → Inside l.grid q
      → index_of l.grid q ≡ c
      → Axes p.component q.component t
      → Round l up p q
      → Hit l p t q.component up c
  unfolding place_on with_component
  found_hit q t h e x r = (
    place_on q t,
    half_reach l t (place_on p t) (place_on q t) (place_inside inside t) up (place_inside h t) (round_half l p q t x up r),
    ap (index_of l.grid) (position_is {p = moved_to s t (place_on q t)} (moved_component s t (place_on q t)) places) ∙ e,
  )
    where
      s : Position
      s = with_component p q.component

      places : (a : ℕ) → a < 3 → place_on (moved_to s t (place_on q t)) a ≡ place_on q a
      places a h = go (ℕ_discrete a t)
        where
          go : Dec (a ≡ t) → place_on (moved_to s t (place_on q t)) a ≡ place_on q a
          go (yes d) = rw d (moved_own s (place_on q t) t x.t_low)
          go (no n) = moved_other s (place_on q t) t x.t_low a h n ∙ round_level l p q t x up r a h n

  abbrev Either : Type 0
  Either = Hit l p (next_axis p.component) (last_axis p.component) up c ⊎ Hit l p (last_axis p.component) (next_axis p.component) up c

  found_either : Found l up p c → Either
  found_either (q, h, e, r) = go (ℕ_discrete q.component (last_axis p.component))
    where
      x : Axes p.component (last_axis p.component) (next_axis p.component)
      x = axes_last p.component inside.c_in

      hit : (t f : ℕ) → Axes p.component f t → q.component ≡ f → Hit l p t f up c
      hit t f x d =
          subst (λ g. Hit l p t g up c) d
          (found_hit q t h e (subst (λ g. Axes p.component g t) (sym d) x) r)

      go : Dec (q.component ≡ last_axis p.component) → Either
      go (yes d) = inl (hit (next_axis p.component) (last_axis p.component) x d)
      go (no n) =
          inr (hit (last_axis p.component) (next_axis p.component) (axes_next p.component inside.c_in)
          (third x q.component h.c_in (round_differ l p q up r) n))

  either_found : Either → Found l up p c
  either_found =
      ⊎_elim
      (hit_found (next_axis p.component) (last_axis p.component) (axes_last p.component inside.c_in))
      (hit_found (last_axis p.component) (next_axis p.component) (axes_next p.component inside.c_in))

  -- two differences, one along each of the axes other than the component
  differences : (s t : List Term)
      → In c (columns_of s) ↔ Hit l p (next_axis p.component) (last_axis p.component) up c
      → In c (columns_of t) ↔ Hit l p (last_axis p.component) (next_axis p.component) up c
      → In c (columns_of (s ++ t)) ↔ Found l up p c
  differences s t a b = (
    λ m. either_found (⊎_elim (λ n. inl (a.0 n)) (λ n. inr (b.0 n)) ((append_in s t c).0 m)),
    λ m. (append_in s t c).1 (⊎_elim (λ n. inl (a.1 n)) (λ n. inr (b.1 n)) (found_either m)),
  )

-- ---- the theorems

-- Yee: the curl of E at face r has a column for exactly the edges around the face
pub yee_face : (l : FullLattice) (r c : ℕ)
    → Limits l.grid
    → r < unknowns_of l.grid
    → (In c (columns_of (curl_e l r)) ↔ ((q : Position) × Inside l.grid q × (index_of l.grid q ≡ c) × Around l (at_of l.grid r) q))
unfolding curl_e curl_e_at
yee_face l r c h f =
    let p = at_of l.grid r in
    differences l p (at_inside h r f) true c _ _ (ahead_in l p _ _ c one_f) (ahead_in l p _ _ c minus_one_f)

-- Yee: the curl of H at edge r has a column for exactly the faces around the edge
pub yee_edge : (l : FullLattice) (r c : ℕ)
    → Limits l.grid
    → r < unknowns_of l.grid
    → (In c (columns_of (curl_h l r)) ↔ ((q : Position) × Inside l.grid q × (index_of l.grid q ≡ c) × Around l q (at_of l.grid r)))
unfolding curl_h curl_h_at
yee_edge l r c h f =
    let p = at_of l.grid r in
    differences l p (at_inside h r f) false c _ _ (behind_in l p _ _ c one_f) (behind_in l p _ _ c minus_one_f)
