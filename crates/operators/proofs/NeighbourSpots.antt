-- One axis: where a step of the lattice ends, and which places are held fixed; and a move along an axis as a relation of places.
-- Assumes nothing.
use Prim.Native.Nat.{ℕ, zero, suc, ◌+◌, ◌-◌, ◌<◌, ◌≤◌}
use mathlib.Core.Path.{◌≡◌, refl, sym, ◌∙◌, ap}
use mathlib.Core.Logic.{◌⊎◌, inl, inr, ⊎_elim}
use mathlib.Core.Bool.{Bool, true, false, not, ◌&&◌, ◌||◌, false≢true}
use native.Mathlib.Decide.{ℕ_discrete, dec_lt}
use native.Mathlib.Omega.{arith}
use borrow.Author.Tests.{eq-eqb, eqb-true, lt-ltb}
use lib.Dec.{eqb, ltb}
use Rattle.std.proofs.lemmas.Bool.{and_from, or_left, or_right}
use Rattle.numbers.specs.declared.C64.{C64}
use Rattle.numbers.specs.Complex.{one_number, conjugate}
use Rattle.lattice.specs.declared.grid.Position.{Position}
use Rattle.lattice.specs.declared.lattice.Edges.{Edges}
use Rattle.lattice.specs.declared.lattice.Edges.TheVariants.{Pml, Bloch}
use Rattle.lattice.specs.Neighbours.{to_place}
use Rattle.lattice.specs.Grid.{n_of, place_on, moved_to, with_component}
use Rattle.lattice.specs.Lattice.{FullLattice, edges_of, is_wall}
use Rattle.lattice.specs.Neighbours.{past_high, past_low, shifted, on_wall}
use Rattle.lattice.proofs.GridLaws.{same_place}
use Rattle.lattice.proofs.Equations.{on_wall_is, place_on_0, place_on_1, place_on_2, moved_to_0, moved_to_1, moved_to_2, with_component_is}
use Rattle.lattice.proofs.NeighbourLaws.{shift_up, shift_high, shift_down, shift_low}
use Rattle.operators.specs.Relation.{Rel, Cube, Times}
use Rattle.operators.specs.Pattern.{across, role_of}
use Rattle.operators.specs.Base.{live_at, follows}
use Rattle.operators.specs.Relations0.{ahead, back, pick}
use Rattle.operators.specs.Levels.{is_bloch, spot_of}
use Rattle.operators.proofs.Level0.{next_of, ahead_cases, back_cases, ahead_same, ahead_next, back_same, back_next, live_along}

-- ---- one step

follows_on : (n : ℕ) (bloch : Bool) (i j : ℕ) → j ≡ i + 1 → i + 1 < n → follows n bloch i j ≡ true
unfolding follows
follows_on n bloch i j e h = or_left _ ((bloch && eqb (i + 1) n) && eqb j 0) (and_from _ _ (eq-eqb j (i + 1) e) (lt-ltb (i + 1) n h))

follows_round : (n i j : ℕ) → i + 1 ≡ n → j ≡ 0 → follows n true i j ≡ true
unfolding follows
follows_round n i j e h = or_right (eqb j (i + 1) && ltb (i + 1) n) _ (and_from _ _ (eq-eqb (i + 1) n e) (eq-eqb j 0 h))

module _ (e : Edges) (n m k : ℕ) (mine : m < n) where
  up_follows : (w : C64) → shifted e n m true ≡ to_place k w → follows n (not (is_wall e)) m k ≡ true
  up_follows w q = go (dec_lt (m + 1) n)
    where
      past : (e : Edges) → n ≤ m + 1 → past_high e ≡ to_place k w → follows n (not (is_wall e)) m k ≡ true
      past Pml f q = let z : ◌≡◌ {A = ℕ} 0 1 = cc in absurd (omega arith)
      past (Bloch p) f q = let z : 0 ≡ k = same_place q in follows_round n m k (omega arith) (sym z)

      go : Dec (m + 1 < n) → follows n (not (is_wall e)) m k ≡ true
      go (yes f) = let z : m + 1 ≡ k = same_place (shift_up e n m true one_number refl f refl ∙ q) in follows_on n (not (is_wall e)) m k (sym z) f
      go (no f) = past e (omega arith) (shift_high e n m true refl (omega arith) ∙ q)

  down_follows : (w : C64) → shifted e n m false ≡ to_place k w → follows n (not (is_wall e)) k m ≡ true
  down_follows w q = go (ℕ_discrete m 0)
    where
      past : (e : Edges) → m ≡ 0 → past_low e n ≡ to_place k w → follows n (not (is_wall e)) k m ≡ true
      past Pml f q = let z : ◌≡◌ {A = ℕ} 0 1 = cc in absurd (omega arith)
      past (Bloch p) f q = let z : n - 1 ≡ k = same_place q in follows_round n k m (omega arith) f

      go : Dec (m ≡ 0) → follows n (not (is_wall e)) k m ≡ true
      go (yes f) = past e f (shift_low e n m false refl f ∙ q)
      go (no f) = let z : m - 1 ≡ k = same_place (shift_down e n m false one_number refl f refl ∙ q) in follows_on n (not (is_wall e)) k m (omega arith) (omega arith)

  follows_up : follows n (not (is_wall e)) m k ≡ true → (w : C64) × (shifted e n m true ≡ to_place k w)
  follows_up h = ⊎_elim
      (λ t. (one_number, sym (shift_up e n m true one_number refl t.1 refl) ∙ ap (λ i. to_place i one_number) (sym t.0)))
      (λ t. go e t.0 (sym (shift_high e n m true refl (omega (arith, t.1)))) t.2)
      (next_of n (not (is_wall e)) m k h).how
    where
      go : (d : Edges) → not (is_wall d) ≡ true → shifted e n m true ≡ past_high d → k ≡ 0 → (w : C64) × (shifted e n m true ≡ to_place k w)
      go Pml b q z = absurd (false≢true b)
      go (Bloch p) b q z = (p, q ∙ ap (λ i. to_place i p) (sym z))

  follows_down : follows n (not (is_wall e)) k m ≡ true → (w : C64) × (shifted e n m false ≡ to_place k w)
  follows_down h = ⊎_elim
      (λ t.
      let z : m - 1 ≡ k = omega (arith, t.0) in
      (one_number, sym (shift_down e n m false one_number refl (omega (arith, t.0)) refl) ∙ ap (λ i. to_place i one_number) z))
      (λ t. go e t.0 (sym (shift_low e n m false refl t.2)) t.1)
      (next_of n (not (is_wall e)) k m h).how
    where
      go : (d : Edges) → not (is_wall d) ≡ true → shifted e n m false ≡ past_low d n → k + 1 ≡ n → (w : C64) × (shifted e n m false ≡ to_place k w)
      go Pml b q z = absurd (false≢true b)
      go (Bloch p) b q z =
          let v : C64 = conjugate p in
          let y : n - 1 ≡ k = omega arith in
          (v, q ∙ ap (λ i. to_place i v) y)

-- to the same place or to the next; or to the one before
abbrev pub step_on : Bool → ℕ → Bool → Rel
step_on true n bloch = ahead n bloch
step_on false n bloch = back n bloch

pub step_none : (up : Bool) (n : ℕ) (bloch : Bool) (m : ℕ) → step_on up n bloch m m ≡ true
step_none true n bloch m = ahead_same n bloch m m refl
step_none false n bloch m = back_same n bloch m m refl

module _ (l : FullLattice) (a m k : ℕ) (mine : m < n_of l.grid a) where
  pub shift_step : (up : Bool) (w : C64) → shifted (edges_of l a) (n_of l.grid a) m up ≡ to_place k w → step_on up (n_of l.grid a) (is_bloch l a) m k ≡ true
  unfolding is_bloch
  shift_step true w q = ahead_next (n_of l.grid a) (not (is_wall (edges_of l a))) m k (up_follows (edges_of l a) (n_of l.grid a) m k mine w q)
  shift_step false w q = back_next (n_of l.grid a) (not (is_wall (edges_of l a))) m k (down_follows (edges_of l a) (n_of l.grid a) m k mine w q)

  pub step_shift : (up : Bool) → step_on up (n_of l.grid a) (is_bloch l a) m k ≡ true → (m ≡ k) ⊎ ((w : C64) × (shifted (edges_of l a) (n_of l.grid a) m up ≡ to_place k w))
  unfolding is_bloch
  step_shift true h = ⊎_elim (λ e. inl e) (λ e. inr (follows_up (edges_of l a) (n_of l.grid a) m k mine e)) (ahead_cases (n_of l.grid a) (not (is_wall (edges_of l a))) m k h)
  step_shift false h = ⊎_elim (λ e. inl e) (λ e. inr (follows_down (edges_of l a) (n_of l.grid a) m k mine e)) (back_cases (n_of l.grid a) (not (is_wall (edges_of l a))) m k h)

-- ---- places that are held fixed

-- a place across an axis is live unless it is on the axis's wall
pub live_across : (l : FullLattice) (p : Position) (d : ℕ) → live_at (is_bloch l d) across (place_on p d) ≡ not (on_wall l p d)
unfolding live_at is_bloch
live_across l p d = rw (on_wall_is l p d) (go (is_wall (edges_of l d)) (eqb (place_on p d) 0))
  where
    go : (w z : Bool) → (not w || not z) ≡ not (z && w)
    go true true = refl
    go true false = refl
    go false true = refl
    go false false = refl

-- an edge's place is live unless the axis is another and the place is on its wall
pub live_role : (l : FullLattice) (p : Position) (own : Bool) (d : ℕ) → live_at (is_bloch l d) (role_of own) (place_on p d) ≡ not (not own && on_wall l p d)
live_role l p true d = live_along (is_bloch l d) (place_on p d)
live_role l p false d = live_across l p d

-- ---- moves along axis t

-- on t a step up or down, and on the other axes the same place
abbrev pub move_cube : FullLattice → Bool → ℕ → Cube
move_cube l up t =
    record {
      x = pick (eqb 0 t) (step_on up (n_of l.grid 0) (is_bloch l 0)) eqb;
      y = pick (eqb 1 t) (step_on up (n_of l.grid 1) (is_bloch l 1)) eqb;
      z = pick (eqb 2 t) (step_on up (n_of l.grid 2) (is_bloch l 2)) eqb;
    }

-- what holds of the three axes holds of each axis
pub low3 : (P : ℕ → Type 0) → P 0 → P 1 → P 2 → (a : ℕ) → a < 3 → P a
low3 P x y z zero h = x
low3 P x y z (suc zero) h = y
low3 P x y z (suc (suc zero)) h = z
low3 P x y z (suc (suc (suc n))) h = absurd (omega arith)

module _ (l : FullLattice) (up : Bool) (p : Position) (f : ℕ) where
  -- the position whose place on t is k, and whose component is f
  pub moved_times : (t : ℕ) → t < 3 → (k : ℕ) → step_on up (n_of l.grid t) (is_bloch l t) (place_on p t) k ≡ true
      → Times (move_cube l up t) (spot_of p) (spot_of (moved_to (with_component p f) t k))
  moved_times = low3
      (λ t. (k : ℕ) → step_on up (n_of l.grid t) (is_bloch l t) (place_on p t) k ≡ true → Times (move_cube l up t) (spot_of p) (spot_of (moved_to (with_component p f) t k)))
      (λ k h. rw (with_component_is p f, moved_to_0) (record { x = rw place_on_0 at h; y = eq-eqb p.j p.j refl; z = eq-eqb p.k p.k refl }))
      (λ k h. rw (with_component_is p f, moved_to_1) (record { x = eq-eqb p.i p.i refl; y = rw place_on_1 at h; z = eq-eqb p.k p.k refl }))
      (λ k h. rw (with_component_is p f, moved_to_2) (record { x = eq-eqb p.i p.i refl; y = eq-eqb p.j p.j refl; z = rw place_on_2 at h }))

  pub times_moved : (q : Position) → q.component ≡ f → (t : ℕ) → t < 3 → Times (move_cube l up t) (spot_of p) (spot_of q)
      → (step_on up (n_of l.grid t) (is_bloch l t) (place_on p t) (place_on q t) ≡ true) × (moved_to (with_component p f) t (place_on q t) ≡ q)
  times_moved q c = low3
      (λ t. Times (move_cube l up t) (spot_of p) (spot_of q)
      → (step_on up (n_of l.grid t) (is_bloch l t) (place_on p t) (place_on q t) ≡ true) × (moved_to (with_component p f) t (place_on q t) ≡ q))
      (λ h. simp (with_component_is, moved_to_0, place_on_0) (h.x, λ n. record { component = sym c n; i = q.i; j = eqb-true p.j q.j h.y n; k = eqb-true p.k q.k h.z n }))
      (λ h. simp (with_component_is, moved_to_1, place_on_1) (h.y, λ n. record { component = sym c n; i = eqb-true p.i q.i h.x n; j = q.j; k = eqb-true p.k q.k h.z n }))
      (λ h. simp (with_component_is, moved_to_2, place_on_2) (h.z, λ n. record { component = sym c n; i = eqb-true p.i q.i h.x n; j = eqb-true p.j q.j h.y n; k = q.k }))
