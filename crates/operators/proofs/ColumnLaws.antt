-- Columns laid over a list, turn by turn.
-- Assumes nothing.
use Prim.Native.Nat.{ℕ, zero, suc, ◌+◌, ◌-◌, ◌*◌, ◌<◌, ◌≤◌}
use mathlib.Core.Path.{◌≡◌, refl, sym, ◌∙◌, subst}
use mathlib.Core.List.{List, [], ◌∷◌, ◌++◌}
use mathlib.Core.Bool.{Bool, true, false}
use native.Mathlib.Omega.{arith}
use native.Mathlib.Nat.{add-zero, mul-le-mul, mul-suc, mul-zero, sub-zero}
use native.Mathlib.Decide.{dec_lt}
use native.Mathlib.Numerals.{add-one}
use lib.ListN.{length, set, length-append}
use lib.Seq.{sets, length-sets, set_out}
use Rattle.operators.specs.Bits.{bit_at, mix_of, NextPlace}
use Rattle.operators.specs.Columns.{keep, line, plane, block, row, Listed}
use Rattle.operators.specs.declared.columns.Picks.{Picks}
use Rattle.operators.proofs.WordLaws.{bit_none, mix_none}
use Rattle.operators.proofs.WordPlaces.{next_same, union_none}

pub sets_append : (us vs xs : List ℕ) (at : ℕ) → sets xs at (us ++ vs) ≡ sets (sets xs at us) (at + length us) vs
sets_append [] vs xs at = rw (add-zero at)
sets_append (u ∷ us) vs xs at =
    let e : at + suc (length us) ≡ suc at + length us = omega arith in
    rw e (sets_append us vs (set xs at u) (suc at))

-- what is still to be laid from here gives what the whole gives from the start
pub record Laid (xs₀ : List ℕ) (at₀ : ℕ) (whole xs : List ℕ) (at : ℕ) (rest : List ℕ) : Type 0 where
  pub long : length xs ≡ length xs₀
  pub same : sets xs at rest ≡ sets xs₀ at₀ whole
  pub ends : at + length rest ≡ at₀ + length whole

pub laid_start : {xs : List ℕ} {at : ℕ} {whole : List ℕ} → Laid xs at whole xs at whole
laid_start = record { long = refl; same = refl; ends = refl }

-- a part of it is laid
pub laid_part : {xs₀ : List ℕ} {at₀ : ℕ} {whole xs ys : List ℕ} {at r : ℕ} (us rest : List ℕ)
    → Laid xs₀ at₀ whole xs at (us ++ rest) → Listed xs at us ys r → Laid xs₀ at₀ whole ys r rest
laid_part {xs = xs} {at = at} us rest l w =
    rw (w.list, w.next)
    (record {
      long = length-sets xs at us ∙ l.long;
      same = sym (sets_append us rest xs at) ∙ l.same;
      ends = omega (arith, length-append us rest, l.ends);
    })

pub laid_end : {xs₀ : List ℕ} {at₀ : ℕ} {whole xs : List ℕ} {at : ℕ} → Laid xs₀ at₀ whole xs at [] → Listed xs₀ at₀ whole xs at
laid_end l = record { list = l.same; next = omega (arith, l.ends) }

-- lines
pub line_length : (w base n i : ℕ) → length (line w base n i) ≤ n
unfolding line
line_length w base zero i = omega arith
line_length w base (suc n) i = go (bit_at w i) (line_length w base n (suc i))
  where
    go : (t : Bool) → length (line w base n (suc i)) ≤ n → length (keep t (base + i) (line w base n (suc i))) ≤ suc n
    go true h = omega arith
    go false h = omega arith

line_step : (w base n i : ℕ) → i < n → line w base (n - i) i ≡ keep (bit_at w i) (base + i) (line w base (n - (i + 1)) (i + 1))
unfolding line
line_step w base n i h =
    let e : n - i ≡ suc (n - (i + 1)) = omega arith in
    rw (e, add-one i)

pub line_done : (w base n i : ℕ) → n ≤ i → line w base (n - i) i ≡ []
unfolding line
line_done w base n i h =
    let e : n - i ≡ 0 = omega arith in
    rw e

-- a place that w has not
line_pass : (w base n i : ℕ) → bit_at w i ≡ false → line w base (n - i) i ≡ line w base (n - suc i) (suc i)
line_pass w base n i e = go (dec_lt i n)
  where
    go : Dec (i < n) → line w base (n - i) i ≡ line w base (n - suc i) (suc i)
    go (yes h) = line_step w base n i h ∙ rw (e, add-one i)
    go (no h) = line_done w base n i (omega arith) ∙ sym (line_done w base n (suc i) (omega arith))

-- the places up to w's next one
line_next : {i r : ℕ} (w base n : ℕ) → NextPlace w i r → line w base (n - i) i ≡ line w base (n - r) r
line_next w base n o = next_same w (λ k. line w base (n - k) k) (line_pass w base n) o

pub line_turn : {xs₀ : List ℕ} {at₀ : ℕ} {whole xs ys : List ℕ} {at r q : ℕ} (w base n i : ℕ)
    → Laid xs₀ at₀ whole xs at (line w base (n - q) q) → NextPlace w q i → i < n → n ≤ 64 → Listed xs at (keep true (base + i) []) ys r
    → Laid xs₀ at₀ whole ys r (line w base (n - (i + 1)) (i + 1))
line_turn {xs₀} {at₀} {whole} {xs} {ys} {at} {r} {q} w base n i l next h few o =
    laid_part ((base + i) ∷ []) (line w base (n - (i + 1)) (i + 1)) (subst (Laid xs₀ at₀ whole xs at) t l) o
  where
    t : line w base (n - q) q ≡ (base + i) ∷ line w base (n - (i + 1)) (i + 1)
    t = line_next w base n next ∙ line_step w base n i h ∙ rw (next.here (omega arith))

pub line_end : {xs₀ : List ℕ} {at₀ : ℕ} {whole xs : List ℕ} {at q : ℕ} (w base n i : ℕ)
    → Laid xs₀ at₀ whole xs at (line w base (n - q) q) → NextPlace w q i → n ≤ i → Listed xs₀ at₀ whole xs at
line_end {xs₀} {at₀} {whole} {xs} {at} w base n i l next h = laid_end (subst (Laid xs₀ at₀ whole xs at) (line_next w base n next ∙ line_done w base n i h) l)

line_none : (base n i : ℕ) → line 0 base n i ≡ []
unfolding line
line_none base zero i = refl
line_none base (suc n) i = rw (bit_none i) (line_none base n (suc i))

pub listed_append : {xs ys zs : List ℕ} {at r q : ℕ} (us vs : List ℕ) → Listed xs at us ys r → Listed ys r vs zs q → Listed xs at (us ++ vs) zs q
listed_append {xs} {ys} {zs} {at} {r} {q} us vs p o =
    record {
      list = o.list ∙ rw (p.list, p.next) (sym (sets_append us vs xs at));
      next = omega (arith, length-append us vs, p.next, o.next);
    }

-- the start of the next line or plane
next_start : (base size k : ℕ) → base + size * k + size ≡ base + size * (k + 1)
next_start base size k = rw (add-one k, mul-suc size k) (omega arith)

-- planes
module _ (s t a b nx : ℕ) where
  pub plane_length : (start n j : ℕ) → nx ≤ 64 → length (plane s t a b nx start n j) ≤ 64 * n
  unfolding plane
  plane_length start zero j h = omega arith
  plane_length start (suc n) j h =
      let w = mix_of (bit_at a j) t (bit_at b j) s in
      rw (length-append (line w start nx 0) (plane s t a b nx (start + nx) n (suc j)))
      (omega (arith, line_length w start nx 0, plane_length (start + nx) n (suc j) h))

  plane_step : (start n j : ℕ) → j < n
      → plane s t a b nx start (n - j) j ≡ line (mix_of (bit_at a j) t (bit_at b j) s) start nx 0 ++ plane s t a b nx (start + nx) (n - (j + 1)) (j + 1)
  unfolding plane
  plane_step start n j h =
      let e : n - j ≡ suc (n - (j + 1)) = omega arith in
      rw (e, add-one j)

  plane_done : (start n j : ℕ) → n ≤ j → plane s t a b nx start (n - j) j ≡ []
  unfolding plane
  plane_done start n j h =
      let e : n - j ≡ 0 = omega arith in
      rw e

  abbrev both : ℕ
  both = mix_of true a true b

  -- a line that neither has
  plane_pass : (base n j : ℕ) → bit_at both j ≡ false → plane s t a b nx (base + nx * j) (n - j) j ≡ plane s t a b nx (base + nx * suc j) (n - suc j) (suc j)
  plane_pass base n j e = go (dec_lt j n) (union_none a b j e)
    where
      go : Dec (j < n) → (bit_at a j ≡ false) × (bit_at b j ≡ false)
          → plane s t a b nx (base + nx * j) (n - j) j ≡ plane s t a b nx (base + nx * suc j) (n - suc j) (suc j)
      go (yes h) (u, v) = plane_step (base + nx * j) n j h ∙ rw (u, v, mix_none t s, line_none (base + nx * j) nx 0, next_start base nx j, add-one j)
      go (no h) _ = plane_done (base + nx * j) n j (omega arith) ∙ sym (plane_done (base + nx * suc j) n (suc j) (omega arith))

  -- the lines up to the next one that a or b has
  plane_next : {i r : ℕ} (base n : ℕ) → NextPlace both i r → plane s t a b nx (base + nx * i) (n - i) i ≡ plane s t a b nx (base + nx * r) (n - r) r
  plane_next base n o = next_same both (λ k. plane s t a b nx (base + nx * k) (n - k) k) (plane_pass base n) o

  pub plane_turn : {xs₀ : List ℕ} {at₀ : ℕ} {whole xs ys : List ℕ} {at r q : ℕ} {u v : Bool} {w both' : ℕ} (base n j : ℕ)
      → Laid xs₀ at₀ whole xs at (plane s t a b nx (base + nx * q) (n - q) q) → both' ≡ both → NextPlace both' q j → j < n
      → u ≡ bit_at a j → v ≡ bit_at b j → w ≡ mix_of u t v s → Listed xs at (line w (base + nx * j) nx 0) ys r
      → Laid xs₀ at₀ whole ys r (plane s t a b nx (base + nx * (j + 1)) (n - (j + 1)) (j + 1))
  plane_turn {xs₀} {at₀} {whole} {xs} {ys} {at} {r} {q} {w = w} base n j l same next h eu ev ew o =
      laid_part (line w (base + nx * j) nx 0) (plane s t a b nx (base + nx * (j + 1)) (n - (j + 1)) (j + 1)) (subst (Laid xs₀ at₀ whole xs at) turn l) o
    where
      turn : plane s t a b nx (base + nx * q) (n - q) q ≡ line w (base + nx * j) nx 0 ++ plane s t a b nx (base + nx * (j + 1)) (n - (j + 1)) (j + 1)
      turn =
          plane_next base n (subst (λ (x : ℕ). NextPlace x q j) same next)
          ∙ plane_step (base + nx * j) n j h ∙ rw (← eu, ← ev, ← ew, next_start base nx j)

  pub plane_start : {xs : List ℕ} {at : ℕ} (base n : ℕ) → Laid xs at (plane s t a b nx base n 0) xs at (plane s t a b nx (base + nx * 0) (n - 0) 0)
  plane_start {xs} {at} base n = subst (Laid xs at (plane s t a b nx base n 0) xs at) first laid_start
    where
      first : plane s t a b nx base n 0 ≡ plane s t a b nx (base + nx * 0) (n - 0) 0
      first = rw (mul-zero nx, add-zero base, sub-zero n)

  pub plane_end : {xs₀ : List ℕ} {at₀ : ℕ} {whole xs : List ℕ} {at q both' : ℕ} (base n j : ℕ)
      → Laid xs₀ at₀ whole xs at (plane s t a b nx (base + nx * q) (n - q) q) → both' ≡ both → NextPlace both' q j → n ≤ j → Listed xs₀ at₀ whole xs at
  plane_end {xs₀} {at₀} {whole} {xs} {at} {q} base n j l same next h =
      laid_end (subst (Laid xs₀ at₀ whole xs at) (plane_next base n (subst (λ (x : ℕ). NextPlace x q j) same next) ∙ plane_done (base + nx * j) n j h) l)

plane_none : (s t nx start n j : ℕ) → plane s t 0 0 nx start n j ≡ []
unfolding plane
plane_none s t nx start zero j = refl
plane_none s t nx start (suc n) j = rw (bit_none j, mix_none t s, line_none start nx 0) (plane_none s t nx (start + nx) n (suc j))

-- blocks
module _ (p : Picks) (nx ny : ℕ) where
  pub block_length : (start n k : ℕ) → nx ≤ 64 → ny ≤ 64 → length (block p nx ny start n k) ≤ 4096 * n
  unfolding block
  block_length start zero k h g = omega arith
  block_length start (suc n) k h g =
      let a = mix_of (bit_at p.sz k) p.sy false 0 in
      let b = mix_of (bit_at p.sz k) p.ty (bit_at p.tz k) p.sy in
      rw (length-append (plane p.sx p.tx a b nx start ny 0) (block p nx ny (start + nx * ny) n (suc k)))
      (omega (arith, plane_length p.sx p.tx a b nx start ny 0 h, block_length (start + nx * ny) n (suc k) h g))

  block_step : (start n k : ℕ) → k < n
      → block p nx ny start (n - k) k
      ≡ plane p.sx p.tx (mix_of (bit_at p.sz k) p.sy false 0) (mix_of (bit_at p.sz k) p.ty (bit_at p.tz k) p.sy) nx start ny 0
      ++ block p nx ny (start + nx * ny) (n - (k + 1)) (k + 1)
  unfolding block
  block_step start n k h =
      let e : n - k ≡ suc (n - (k + 1)) = omega arith in
      rw (e, add-one k)

  block_done : (start n k : ℕ) → n ≤ k → block p nx ny start (n - k) k ≡ []
  unfolding block
  block_done start n k h =
      let e : n - k ≡ 0 = omega arith in
      rw e

  abbrev levels : ℕ
  levels = mix_of true p.sz true p.tz

  -- the planes from k on, the first of all at base
  abbrev planes : ℕ → ℕ → ℕ → List ℕ
  planes base n k = block p nx ny (base + nx * ny * k) (n - k) k

  -- a plane that neither has
  block_pass : (base n k : ℕ) → bit_at levels k ≡ false → planes base n k ≡ planes base n (suc k)
  block_pass base n k e = go (dec_lt k n) (union_none p.sz p.tz k e)
    where
      go : Dec (k < n) → (bit_at p.sz k ≡ false) × (bit_at p.tz k ≡ false) → planes base n k ≡ planes base n (suc k)
      go (yes h) (u, v) =
          block_step (base + nx * ny * k) n k h
          ∙ rw (
            u,
            v,
            mix_none p.sy 0,
            mix_none p.ty p.sy,
            plane_none p.sx p.tx nx (base + nx * ny * k) ny 0,
            next_start base (nx * ny) k,
            add-one k,
          )
      go (no h) _ = block_done (base + nx * ny * k) n k (omega arith) ∙ sym (block_done (base + nx * ny * suc k) n (suc k) (omega arith))

  -- the planes up to the next one that sz or tz has
  block_next : {i r : ℕ} (base n : ℕ) → NextPlace levels i r → planes base n i ≡ planes base n r
  block_next base n o = next_same levels (planes base n) (block_pass base n) o

  pub block_turn : {xs₀ : List ℕ} {at₀ : ℕ} {whole xs ys : List ℕ} {at r q : ℕ} {u v : Bool} {a b both : ℕ} (base n k : ℕ)
      → Laid xs₀ at₀ whole xs at (planes base n q) → both ≡ levels → NextPlace both q k → k < n
      → u ≡ bit_at p.sz k → a ≡ mix_of u p.sy false 0 → v ≡ bit_at p.tz k → b ≡ mix_of u p.ty v p.sy
      → Listed xs at (plane p.sx p.tx a b nx (base + nx * ny * k) ny 0) ys r
      → Laid xs₀ at₀ whole ys r (planes base n (k + 1))
  block_turn {xs₀} {at₀} {whole} {xs} {ys} {at} {r} {q} {a = a} {b = b} base n k l same next h eu ea ev eb o =
      laid_part (plane p.sx p.tx a b nx (base + nx * ny * k) ny 0) (planes base n (k + 1)) (subst (Laid xs₀ at₀ whole xs at) turn l) o
    where
      turn : planes base n q ≡ plane p.sx p.tx a b nx (base + nx * ny * k) ny 0 ++ planes base n (k + 1)
      turn =
          block_next base n (subst (λ (x : ℕ). NextPlace x q k) same next)
          ∙ block_step (base + nx * ny * k) n k h ∙ rw (← eu, ← ev, ← ea, ← eb, next_start base (nx * ny) k)

  pub block_start : {xs : List ℕ} {at : ℕ} (base n : ℕ) → Laid xs at (block p nx ny base n 0) xs at (planes base n 0)
  block_start {xs} {at} base n = subst (Laid xs at (block p nx ny base n 0) xs at) first laid_start
    where
      first : block p nx ny base n 0 ≡ planes base n 0
      first = rw (mul-zero (nx * ny), add-zero base, sub-zero n)

  pub block_end : {xs₀ : List ℕ} {at₀ : ℕ} {whole xs : List ℕ} {at q both : ℕ} (base n k : ℕ)
      → Laid xs₀ at₀ whole xs at (planes base n q) → both ≡ levels → NextPlace both q k → n ≤ k → Listed xs₀ at₀ whole xs at
  block_end {xs₀} {at₀} {whole} {xs} {at} {q} base n k l same next h =
      laid_end (subst (Laid xs₀ at₀ whole xs at) (block_next base n (subst (λ (x : ℕ). NextPlace x q k) same next) ∙ block_done (base + nx * ny * k) n k h) l)

pub area : (nx ny : ℕ) → nx ≤ 64 → ny ≤ 64 → nx * ny ≤ 4096
area nx ny h g = omega (arith, mul-le-mul h g)

pub volume : (nx ny nz : ℕ) → nx ≤ 64 → ny ≤ 64 → nz ≤ 64 → nx * ny * nz ≤ 262144
volume nx ny nz h g f = omega (arith, mul-le-mul (area nx ny h g) f)

pub row_done : {xs us vs ys : List ℕ} {at r q e : ℕ} (x y z : Picks) (nx ny nz : ℕ)
    → Listed xs at (block x nx ny 0 nz 0) us r
    → Listed us r (block y nx ny (nx * ny * nz) nz 0) vs q
    → Listed vs q (block z nx ny (2 * (nx * ny * nz)) nz 0) ys e
    → Listed xs at (row x y z nx ny nz) ys e
unfolding row
row_done x y z nx ny nz p q o = listed_append _ _ p (listed_append _ _ q o)

-- one place
pub put_none : {xs : List ℕ} {at : ℕ} (b : Bool) (v : ℕ) → b ≡ false → Listed xs at (keep b v []) xs at
put_none {xs} {at} b v e = rw e (record { list = refl; next = omega arith })

pub put_one : {xs : List ℕ} {at : ℕ} (b : Bool) (v : ℕ) → b ≡ true → Listed xs at (keep b v []) (set xs at v) (at + 1)
put_one {xs} {at} b v e = rw e (record { list = refl; next = refl })

pub put_out : {xs : List ℕ} {at : ℕ} (b : Bool) (v : ℕ) → b ≡ true → length xs ≤ at → Listed xs at (keep b v []) xs (at + 1)
put_out {xs} {at} b v e h = rw e (record { list = sym (set_out xs at v h); next = refl })
