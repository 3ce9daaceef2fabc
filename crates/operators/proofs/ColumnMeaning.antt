-- What a row's list has: it rises, and has the number of each place that is picked.
-- Assumes nothing.
use Prim.Native.Nat.{ℕ, zero, suc, ◌+◌, ◌*◌, ◌<◌, ◌≤◌}
use mathlib.Core.Path.{◌≡◌, refl, sym, ◌∙◌, ap}
use mathlib.Core.Logic.{inl, inr}
use mathlib.Core.List.{List, ◌++◌}
use mathlib.Core.Bool.{Bool, true, false, ◌&&◌, false≢true, or-false}
use native.Mathlib.Omega.{arith}
use native.Mathlib.Nat.{le_refl, mul_comm, add-mul, mul_assoc}
use native.Mathlib.Decide.{ℕ_discrete}
use Rattle.operators.specs.Bits.{bit_at, mix_of}
use Rattle.operators.specs.Columns.{keep, line, plane, block, row, picked, number}
use Rattle.operators.specs.declared.columns.Picks.{Picks}
use Rattle.operators.proofs.WordLaws.{bit_mix}
use Rattle.numbers.proofs.MemberLaws.{Span, span_append, stack, stack_zero, stack_suc, stack_span, stack_in, in_stack}
use Rattle.numbers.specs.Lists.{In}

-- lines
line_span : (w base n i b e : ℕ) → b ≤ base + i → base + (i + n) ≤ e → Span b e (line w base n i)
unfolding line
line_span w base zero i b e h g = omega arith
line_span w base (suc n) i b e h g = go (bit_at w i) (line_span w base n (suc i))
  where
    go : (t : Bool) → ((d f : ℕ) → d ≤ base + suc i → base + (suc i + n) ≤ f → Span d f (line w base n (suc i))) → Span b e (keep t (base + i) (line w base n (suc i)))
    go true ih = (h, ih (suc (base + i)) e (omega arith) (omega arith))
    go false ih = ih b e (omega arith) (omega arith)

line_in : (w base n i c : ℕ) → In c (line w base n i) → (k : ℕ) × (i ≤ k) × (k < i + n) × (bit_at w k ≡ true) × (c ≡ base + k)
unfolding line
line_in w base zero i c h = absurd h
line_in w base (suc n) i c h = go (bit_at w i) refl (line_in w base n (suc i) c) h
  where
    go : (t : Bool) → bit_at w i ≡ t
        → (In c (line w base n (suc i)) → (k : ℕ) × (suc i ≤ k) × (k < suc i + n) × (bit_at w k ≡ true) × (c ≡ base + k))
        → In c (keep t (base + i) (line w base n (suc i))) → (k : ℕ) × (i ≤ k) × (k < i + suc n) × (bit_at w k ≡ true) × (c ≡ base + k)
    go true e ih (inl p) = (i, le_refl i, omega arith, e, p)
    go true e ih (inr p) = let r = ih p in (r.0, omega (arith, r.1), omega (arith, r.2), r.3, r.4)
    go false e ih p = let r = ih p in (r.0, omega (arith, r.1), omega (arith, r.2), r.3, r.4)

in_line : (w base n i k : ℕ) → i ≤ k → k < i + n → bit_at w k ≡ true → In (base + k) (line w base n i)
unfolding line
in_line w base zero i k h g e = absurd (omega arith)
in_line w base (suc n) i k h g e = go (bit_at w i) refl (ℕ_discrete k i) (in_line w base n (suc i) k)
  where
    go : (t : Bool) → bit_at w i ≡ t → Dec (k ≡ i) → (suc i ≤ k → k < suc i + n → bit_at w k ≡ true → In (base + k) (line w base n (suc i)))
        → In (base + k) (keep t (base + i) (line w base n (suc i)))
    go true f (yes p) ih = inl (rw p)
    go true f (no p) ih = inr (ih (omega arith) (omega arith) e)
    go false f (yes p) ih = absurd (false≢true (sym f ∙ rw p at e))
    go false f (no p) ih = ih (omega arith) (omega arith) e

-- planes and blocks are stacks
line_of : ℕ → ℕ → ℕ → ℕ → ℕ → ℕ → ℕ → List ℕ
line_of s t a b nx j start = line (mix_of (bit_at a j) t (bit_at b j) s) start nx 0

plane_stack : (s t a b nx start n j : ℕ) → plane s t a b nx start n j ≡ stack (line_of s t a b nx) nx start n j
unfolding plane line_of
plane_stack s t a b nx start zero j = rw (stack_zero (line_of s t a b nx) nx start j)
plane_stack s t a b nx start (suc n) j = rw (stack_suc (line_of s t a b nx) nx start n j, plane_stack s t a b nx (start + nx) n (suc j))

yes_y : Picks → ℕ → ℕ
yes_y p k = mix_of (bit_at p.sz k) p.sy false 0

or_y : Picks → ℕ → ℕ
or_y p k = mix_of (bit_at p.sz k) p.ty (bit_at p.tz k) p.sy

plane_of : Picks → ℕ → ℕ → ℕ → ℕ → List ℕ
plane_of p nx ny k start = plane p.sx p.tx (yes_y p k) (or_y p k) nx start ny 0

block_stack : (p : Picks) (nx ny start n k : ℕ) → block p nx ny start n k ≡ stack (plane_of p nx ny) (nx * ny) start n k
unfolding block plane_of yes_y or_y
block_stack p nx ny start zero k = rw (stack_zero (plane_of p nx ny) (nx * ny) start k)
block_stack p nx ny start (suc n) k = rw (stack_suc (plane_of p nx ny) (nx * ny) start n k, block_stack p nx ny (start + nx * ny) n (suc k))

-- rising
line_of_span : (s t a b nx k st : ℕ) → Span st (st + nx) (line_of s t a b nx k st)
unfolding line_of
line_of_span s t a b nx k st = line_span (mix_of (bit_at a k) t (bit_at b k) s) st nx 0 st (st + nx) (omega arith) (omega arith)

plane_of_span : (p : Picks) (nx ny k st : ℕ) → Span st (st + nx * ny) (plane_of p nx ny k st)
unfolding plane_of
plane_of_span p nx ny k st =
    rw (plane_stack p.sx p.tx (yes_y p k) (or_y p k) nx st ny 0)
    (stack_span (line_of p.sx p.tx (yes_y p k) (or_y p k) nx) nx st (st + nx * ny) st ny 0
    (λ j s. line_of_span p.sx p.tx (yes_y p k) (or_y p k) nx j s) (le_refl st) (omega (arith, mul_comm nx ny)))

block_span : (p : Picks) (nx ny nz base e : ℕ) → base + nx * ny * nz ≤ e → Span base e (block p nx ny base nz 0)
block_span p nx ny nz base e h =
    rw (block_stack p nx ny base nz 0)
    (stack_span (plane_of p nx ny) (nx * ny) base e base nz 0 (plane_of_span p nx ny) (le_refl base) (omega (arith, mul_comm (nx * ny) nz)))

pub row_span : (x y z : Picks) (nx ny nz : ℕ) → Span 0 (3 * (nx * ny * nz)) (row x y z nx ny nz)
unfolding row
row_span x y z nx ny nz =
    let n = nx * ny * nz in
    span_append 0 n (3 * n) (block x nx ny 0 nz 0) (block y nx ny n nz 0 ++ block z nx ny (2 * n) nz 0) (block_span x nx ny nz 0 n (omega arith))
    (span_append n (2 * n) (3 * n) (block y nx ny n nz 0) (block z nx ny (2 * n) nz 0)
    (block_span y nx ny nz n (2 * n) (omega arith)) (block_span z nx ny nz (2 * n) (3 * n) (omega arith)))

-- members of a block
bit_picked : (p : Picks) (k j i : ℕ) → bit_at (mix_of (bit_at (yes_y p k) j) p.tx (bit_at (or_y p k) j) p.sx) i ≡ picked p k j i
unfolding yes_y or_y picked
bit_picked p k j i = rw (bit_mix (bit_at (yes_y p k) j) p.tx (bit_at (or_y p k) j) p.sx i, bit_mix (bit_at p.sz k) p.sy false 0 j, bit_mix (bit_at p.sz k) p.ty (bit_at p.tz k) p.sy j, or-false (bit_at p.sz k && bit_at p.sy j))

place : (nx ny base k j i : ℕ) → base + k * (nx * ny) + j * nx + i ≡ number nx ny base k j i
unfolding number
place nx ny base k j i =
    let a : (k * ny + j) * nx ≡ k * ny * nx + j * nx = add-mul (k * ny) j nx in
    let b : k * ny * nx ≡ k * (ny * nx) = mul_assoc k ny nx in
    let e : k * (ny * nx) ≡ k * (nx * ny) = ap (λ (m : ℕ). k * m) (mul_comm ny nx) in
    omega arith

pub record At (p : Picks) (nx ny nz base c : ℕ) : Type 0 where
  pub i : ℕ
  pub j : ℕ
  pub k : ℕ
  pub low : i < nx
  pub mid : j < ny
  pub high : k < nz
  pub yes_here : picked p k j i ≡ true
  pub is : c ≡ number nx ny base k j i

-- a member of a plane, and of a block, is the number of a picked place
plane_in : (s t a b nx start n c : ℕ) → In c (plane s t a b nx start n 0)
    → (j : ℕ) × (j < n) × (i : ℕ) × (i < nx) × (bit_at (mix_of (bit_at a j) t (bit_at b j) s) i ≡ true) × (c ≡ start + j * nx + i)
unfolding line_of
plane_in s t a b nx start n c h =
    let v = stack_in (line_of s t a b nx) nx c start n 0 (rw (plane_stack s t a b nx start n 0) at h) in
    go v.0 v.1 v.2
  where
    go : (j : ℕ) → j < n → In c (line (mix_of (bit_at a (0 + j)) t (bit_at b (0 + j)) s) (start + j * nx) nx 0)
        → (j : ℕ) × (j < n) × (i : ℕ) × (i < nx) × (bit_at (mix_of (bit_at a j) t (bit_at b j) s) i ≡ true) × (c ≡ start + j * nx + i)
    go j m g =
        let e : 0 + j ≡ j = omega arith in
        let w = line_in (mix_of (bit_at a j) t (bit_at b j) s) (start + j * nx) nx 0 c (rw e at g) in
        (j, m, w.0, omega (arith, w.2), w.3, w.4)

pub block_in : (p : Picks) (nx ny nz base c : ℕ) → In c (block p nx ny base nz 0) → At p nx ny nz base c
unfolding plane_of
block_in p nx ny nz base c h =
    let u = stack_in (plane_of p nx ny) (nx * ny) c base nz 0 (rw (block_stack p nx ny base nz 0) at h) in
    in_plane u.0 u.1 u.2
  where
    here : (k : ℕ) → k < nz → (j : ℕ) → j < ny → (i : ℕ) → i < nx
        → bit_at (mix_of (bit_at (yes_y p k) j) p.tx (bit_at (or_y p k) j) p.sx) i ≡ true → c ≡ base + k * (nx * ny) + j * nx + i → At p nx ny nz base c
    here k hk j hj i hi b e =
        record { i = i; j = j; k = k; low = hi; mid = hj; high = hk; yes_here = sym (bit_picked p k j i) ∙ b; is = e ∙ place nx ny base k j i }

    in_plane : (k : ℕ) → k < nz → In c (plane p.sx p.tx (yes_y p (0 + k)) (or_y p (0 + k)) nx (base + k * (nx * ny)) ny 0) → At p nx ny nz base c
    in_plane k hk g =
        let e : 0 + k ≡ k = omega arith in
        let v = plane_in p.sx p.tx (yes_y p k) (or_y p k) nx (base + k * (nx * ny)) ny c (rw e at g) in
        here k hk v.0 v.1 v.2 v.3 v.4 v.5

pub in_block : (p : Picks) (nx ny nz base c : ℕ) → At p nx ny nz base c → In c (block p nx ny base nz 0)
unfolding plane_of line_of
in_block p nx ny nz base c t =
    let i = t.i in
    let j = t.j in
    let k = t.k in
    let e : 0 + k ≡ k = omega arith in
    let f : 0 + j ≡ j = omega arith in
    let st = base + k * (nx * ny) in
    let word = mix_of (bit_at (yes_y p k) j) p.tx (bit_at (or_y p k) j) p.sx in
    let l : In c (line word (st + j * nx) nx 0) = rw (t.is, ← place nx ny base k j i)
    (in_line word (st + j * nx) nx 0 i (omega arith) (omega (arith, t.low)) (bit_picked p k j i ∙ t.yes_here)) in
    let g : In c (plane p.sx p.tx (yes_y p k) (or_y p k) nx st ny 0) = rw (plane_stack p.sx p.tx (yes_y p k) (or_y p k) nx st ny 0)
    (in_stack (line_of p.sx p.tx (yes_y p k) (or_y p k) nx) nx c st ny 0 j t.mid (rw f l)) in
    rw (block_stack p nx ny base nz 0) (in_stack (plane_of p nx ny) (nx * ny) c base nz 0 k t.high (rw e g))
