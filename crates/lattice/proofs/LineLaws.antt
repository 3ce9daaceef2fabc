-- Laws of lines: what a record holds, rising, the finest line, joining, and the numbers of a coarse line's nodes on a fine one.
-- Assumes nothing.
use Prim.Native.Nat.{ℕ, zero, suc, ◌+◌, ◌-◌, ◌*◌, ◌<◌, ◌≤◌, min}
use native.Mathlib.Nat.{le_of_suc-le-suc, not-suc-le-zero}
use native.Mathlib.Decide.{dec_le, dec_lt}
use native.Mathlib.Numerals.{add-one}
use native.Mathlib.Omega.{arith}
use mathlib.Core.Path.{◌≡◌, refl, sym, ap, ◌∙◌, subst}
use mathlib.Core.Bool.{Bool, true, false, cond, ◌&&◌}
use mathlib.Core.List.{List, [], ◌∷◌, ◌++◌, append-nil}
use borrow.Author.Tests.{ltb-true, ltb-false, leb-true, lt-ltb, le-ltb, le-leb, lt-leb}
use lib.Dec.{leb, ltb}
use lib.ListN.{length, get_or, take, drop, set, replicate, length-append, length-replicate, length-take, length-drop, length-set, get_or-replicate, take-append-drop, drop_of_length-le, get_or-append}
use lib.Seq.{take_all, take_at, get_or-take, get_or-drop, drop-cons, get_or-set_other, take-suc-set, append_snoc, length-take-le}
use lib.Ieee.{Float}
use Rattle.std.specs.List.{prefix_len}
use Rattle.std.proofs.lemmas.List.{take-replicate, drop-replicate}
use Rattle.std.proofs.lemmas.List.Sums.{prefix_len-le-length, prefix_len_passes, prefix_len_stops}
use Rattle.numbers.specs.declared.C64.{C64}
use Rattle.numbers.specs.Complex.{no_number}
use Rattle.lattice.specs.declared.line.Line.{Line}
use Rattle.numbers.specs.Lists.{tabulate, before, Rises}
use Rattle.lattice.specs.Line.{packed, ends_of, twice, finest_ends, joins_by, joins, skips, joined, coarser_ends, next_by, next_end, nodes_of, LineOver, Held}
use Rattle.numbers.proofs.TabulateLaws.{length_tabulate, tabulate_at_0, is_tabulate, is_replicate, Filled, filled_start, filled_turn, filled_end}
use Rattle.numbers.proofs.ListLaws.{rises_last, rises_one, rises_nil, rises_cons, rises_head, rises_below, rises_tail}
use Rattle.numbers.proofs.Equations.{tabulate_zero, tabulate_suc}
use Rattle.numbers.proofs.ElementLaws.{before_is, before_most, before_below}

-- ---- what a record holds

pub ends_packed : (es : List ℕ) → 1 ≤ length es → length es ≤ 65 → ends_of (packed es) ≡ es
unfolding ends_of packed
ends_packed es h k = take_at es (replicate (65 - length es) 0) (length es - 1 + 1) (omega arith)

pub length_ends : (l : Line) → Held l → length (ends_of l) ≡ l.cells + 1
unfolding ends_of packed
length_ends l p =
    let es : List ℕ = take (l.cells + 1) l.ends in
    let zs : List ℕ = replicate (65 - length es) 0 in
    let e : length l.ends ≡ length es + length zs = ap (λ (k : Line). length k.ends) p.tidy ∙ length-append es zs in
    omega (arith, e, length-replicate {A = ℕ} (65 - length es) 0, length-take (l.cells + 1) l.ends, p.most)

pub ends_at : (l : Line) (m : ℕ) → m ≤ l.cells → get_or (ends_of l) m 0 ≡ get_or l.ends m 0
unfolding ends_of
ends_at l m h = get_or-take (l.cells + 1) l.ends m 0 (omega arith)

-- a record of k cells, k + 1 ends and then zeros
pub packed_is : {k : ℕ} {ends : List ℕ} (es : List ℕ) → length es ≡ k + 1 → ends ≡ es ++ replicate (65 - (k + 1)) 0
    → ◌≡◌ {A = Line} (record { cells = k; ends = ends }) (packed es)
unfolding packed
packed_is {k} {ends} es h e =
    let a : k ≡ length es - 1 = omega arith in
    let b : ends ≡ es ++ replicate (65 - length es) 0 = rw h e in
    λ i. record { cells = a i; ends = b i }

-- ---- rising

-- a line over at most 64 cells of the finest grid can be held
pub over_held : (n : ℕ) (es : List ℕ) → n ≤ 64 → LineOver n es → Held (packed es)
unfolding packed
over_held n es h p =
    record {
      some = omega (arith, p.some);
      most = omega (arith, p.most);
      low = λ m b.
          let k : m < length es = omega (arith, p.some) in
          rw (get_or-append es (replicate (65 - length es) 0) 0 m k) (omega (arith, rises_last es p.rises m k, p.last));
      tidy = ap packed (sym (ends_packed es (omega (arith, p.some)) p.most));
    }

-- ---- the finest line

-- the loop that fills the first n + 1 of a record's ends: at the start they are zeros, at the end they and the zeros behind them are the line
pub finest_start : {n : ℕ} → n ≤ 64 → Filled twice 0 0 (n + 1) 0 (take (n + 1) (replicate 65 0))
finest_start {n} h = rw (take-replicate {X = ℕ} (n + 1) 65 0 (omega arith)) filled_start

pub finest_end : {n m : ℕ} {es : List ℕ} → Filled twice 0 0 (n + 1) m es → n < m
    → ◌≡◌ {A = Line} (record { cells = n; ends = es ++ drop (n + 1) (replicate 65 0) }) (packed (finest_ends n))
unfolding finest_ends
finest_end {n} {m} {es} p h =
    let e : es ≡ tabulate twice (n + 1) 0 = is_tabulate twice (n + 1) 0 es p.long (λ i b. p.done i (omega arith)) in
    packed_is (tabulate twice (n + 1) 0) (length_tabulate twice (n + 1) 0) (λ i. e i ++ drop-replicate {X = ℕ} (n + 1) 65 0 i)

rises_twice : (n k : ℕ) → Rises (tabulate twice n k)
rises_twice zero k = rw (tabulate_zero twice k) rises_nil
rises_twice (suc zero) k = rw (tabulate_suc twice 0 k, tabulate_zero twice (suc k)) (rises_one (twice k))
rises_twice (suc (suc n)) k =
    let ih : Rises (twice (suc k) ∷ tabulate twice n (suc (suc k))) = rw (tabulate_suc twice n (suc k)) at (rises_twice (suc n) (suc k)) in
    rw (tabulate_suc twice (suc n) k, tabulate_suc twice n (suc k)) (rises_cons (twice k) (twice (suc k)) (tabulate twice n (suc (suc k))) (omega arith) ih)

pub finest_over : (n : ℕ) → 0 < n → n ≤ 64 → LineOver n (finest_ends n)
unfolding finest_ends
finest_over n h k =
    let l : length (tabulate twice (n + 1) 0) ≡ n + 1 = length_tabulate twice (n + 1) 0 in
    let e : length (tabulate twice (n + 1) 0) - 1 ≡ n = omega arith in
    record {
      some = omega arith;
      most = omega arith;
      first = tabulate_at_0 twice (n + 1) 0 0 (omega arith);
      last = rw e (tabulate_at_0 twice (n + 1) n 0 (omega arith));
      rises = rises_twice (n + 1) 0;
    }

-- ---- joining

-- the last end, d where there is none
last_or : ℕ → List ℕ → ℕ
last_or d [] = d
last_or d (e ∷ es) = last_or e es

last_or_at : (d : ℕ) (es : List ℕ) → 0 < length es → last_or d es ≡ get_or es (length es - 1) 0
unfolding last_or
last_or_at d [] h = absurd (not-suc-le-zero h)
last_or_at d (e ∷ []) h = refl
last_or_at d (e ∷ (f ∷ es)) h =
    let k : suc (suc (length es)) - 1 ≡ suc (suc (length es) - 1) = omega arith in
    last_or_at e (f ∷ es) (omega arith) ∙ sym (ap (λ (i : ℕ). get_or (e ∷ (f ∷ es)) i 0) k)

module _ (x : List C64) (t : Float) where
  -- an end is passed over only where two follow
  skips_two : (a : ℕ) (es : List ℕ) → skips x t a es ≡ true → 2 ≤ length es
  unfolding skips
  skips_two a [] e = let z : ◌≡◌ {A = ℕ} 0 1 = cc in omega arith
  skips_two a (b ∷ []) e = let z : ◌≡◌ {A = ℕ} 0 1 = cc in omega arith
  skips_two a (b ∷ (c ∷ es)) e = omega arith

  joined_last : (d : ℕ) (pass : Bool) (es : List ℕ) → (pass ≡ true → 2 ≤ length es) → last_or d (joined x t pass es) ≡ last_or d es
  unfolding joined last_or
  joined_last d pass [] h = refl
  joined_last d false (b ∷ es) h = joined_last b (skips x t b es) es (skips_two b es)
  joined_last d true (b ∷ []) h = absurd (let k : 2 ≤ 1 = h refl in omega arith)
  joined_last d true (b ∷ (c ∷ es)) h = joined_last c (skips x t c es) es (skips_two c es)

  joined_rises : (a : ℕ) (pass : Bool) (es : List ℕ) → Rises (a ∷ es) → Rises (a ∷ joined x t pass es)
  unfolding joined
  joined_rises a pass [] r = rises_one a
  joined_rises a false (b ∷ es) r =
      rises_cons a b (joined x t (skips x t b es) es) (rises_head a b es r) (joined_rises b (skips x t b es) es (rises_tail a (b ∷ es) r))
  joined_rises a true (b ∷ []) r = rises_one a
  joined_rises a true (b ∷ (c ∷ es)) r =
      let s : Rises (b ∷ (c ∷ es)) = rises_tail a (b ∷ (c ∷ es)) r in
      rises_cons a c (joined x t (skips x t c es) es) (omega (arith, rises_head a b (c ∷ es) r, rises_head b c es s))
      (joined_rises c (skips x t c es) es (rises_tail b (c ∷ es) s))

  joined_shorter : (pass : Bool) (es : List ℕ) → length (joined x t pass es) ≤ length es
  unfolding joined
  joined_shorter pass [] = omega arith
  joined_shorter false (b ∷ es) = omega (arith, joined_shorter (skips x t b es) es)
  joined_shorter true (b ∷ es) = omega (arith, joined_shorter false es)

  -- at least half of the ends remain, apart from one that is passed over
  joined_half : (pass : Bool) (es : List ℕ) → length es ≤ 2 * length (joined x t pass es) + cond pass 1 0
  unfolding joined
  joined_half pass [] = omega arith
  joined_half false (b ∷ es) = omega (arith, most (skips x t b es), joined_half (skips x t b es) es)
    where
      most : (p : Bool) → cond p 1 0 ≤ 1
      most false = omega arith
      most true = omega arith
  joined_half true (b ∷ es) = omega (arith, joined_half false es)

  -- by the number of cells
  pub coarser_none : (es : List ℕ) → length es < 5 → coarser_ends x t es ≡ es
  unfolding coarser_ends
  coarser_none es h = rw (lt-ltb (length es) 5 h)

  coarser_some : (es : List ℕ) → 5 ≤ length es → coarser_ends x t es ≡ joined x t false es
  unfolding coarser_ends
  coarser_some es h = rw (le-ltb (length es) 5 h)

  pub coarser_shorter : (es : List ℕ) → length (coarser_ends x t es) ≤ length es
  coarser_shorter es = go (dec_lt (length es) 5)
    where
      go : Dec (length es < 5) → length (coarser_ends x t es) ≤ length es
      go (yes h) = rw (coarser_none es h) (omega arith)
      go (no h) = rw (coarser_some es (omega arith)) (joined_shorter false es)

  -- from 4 cells on at least 2 cells remain
  pub coarser_two : (es : List ℕ) → 5 ≤ length es → 3 ≤ length (coarser_ends x t es)
  coarser_two es h = rw (coarser_some es h) (omega (arith, joined_half false es))

  joined_over : (n : ℕ) (es : List ℕ) → 5 ≤ length es → LineOver n es → LineOver n (joined x t false es)
  unfolding joined last_or
  joined_over n [] h p = absurd (not-suc-le-zero h)
  joined_over n (a ∷ es) h p =
      let k : length (a ∷ es) ≤ 2 * length (joined x t false (a ∷ es)) = omega (arith, joined_half false (a ∷ es)) in
      record {
        some = omega arith;
        most = omega (arith, joined_shorter false (a ∷ es), p.most);
        first = p.first;
        last = sym (last_or_at 0 (joined x t false (a ∷ es)) (omega arith)) ∙ joined_last a (skips x t a es) es (skips_two a es) ∙ last_or_at 0 (a ∷ es) (omega arith) ∙ p.last;
        rises = joined_rises a (skips x t a es) es p.rises;
      }

  -- a joined line keeps its two ends and rises
  pub coarser_over : (n : ℕ) (es : List ℕ) → LineOver n es → LineOver n (coarser_ends x t es)
  coarser_over n es p = go (dec_lt (length es) 5)
    where
      go : Dec (length es < 5) → LineOver n (coarser_ends x t es)
      go (yes h) = rw (coarser_none es h) p
      go (no h) = rw (coarser_some es (omega arith)) (joined_over n es (omega arith) p)

-- ---- the end that is kept behind end m

module _ (n m : ℕ) (b : Bool) where
  pub next_two : m + 2 ≤ n → b ≡ true → m + 2 ≡ next_by n m b
  unfolding next_by
  next_two h e = rw (le-leb (m + 2) n h, e)

  pub next_one : m + 2 ≤ n → b ≡ false → m + 1 ≡ next_by n m b
  unfolding next_by
  next_one h e = rw (le-leb (m + 2) n h, e)

  pub next_last : n < m + 2 → m + 1 ≡ next_by n m b
  unfolding next_by
  next_last h = rw (lt-leb (m + 2) n h)

module _ (x : List C64) (t : Float) (l : Line) (m : ℕ) where
  -- the second end behind m is read, or, where there is none, the last, which then decides nothing
  next_is : (i : ℕ) → i ≡ min (m + 2) l.cells
      → next_by l.cells m (joins_by (get_or x (get_or l.ends m 0) no_number) (get_or x (get_or l.ends i 0) no_number) t) ≡ next_end x t l m
  unfolding next_end joins
  next_is i e = go (dec_le (m + 2) l.cells)
    where
      go : Dec (m + 2 ≤ l.cells)
          → next_by l.cells m (joins_by (get_or x (get_or l.ends m 0) no_number) (get_or x (get_or l.ends i 0) no_number) t)
          ≡ next_by l.cells m (joins_by (get_or x (get_or l.ends m 0) no_number) (get_or x (get_or l.ends (m + 2) 0) no_number) t)
      go (yes h) = let o : i ≡ m + 2 = omega arith in rw o
      go (no h) = sym (next_last l.cells m _ (omega arith)) ∙ next_last l.cells m _ (omega arith)

  -- as the code turns, by the second end behind m and the end that is kept then
  pub next_turn : {i r : ℕ} → i ≡ min (m + 2) l.cells
      → r ≡ next_by l.cells m (joins_by (get_or x (get_or l.ends m 0) no_number) (get_or x (get_or l.ends i 0) no_number) t) → r ≡ next_end x t l m
  next_turn {i} e h = h ∙ next_is i e

  next_within : m < l.cells → (m < next_end x t l m) × (next_end x t l m ≤ l.cells)
  unfolding next_end next_by
  next_within h = go (leb (m + 2) l.cells) (joins x t (get_or l.ends m 0) (get_or l.ends (m + 2) 0)) refl
    where
      go : (a b : Bool) → leb (m + 2) l.cells ≡ a → (m < cond (a && b) (m + 2) (m + 1)) × (cond (a && b) (m + 2) (m + 1) ≤ l.cells)
      go true true e = (omega arith, leb-true (m + 2) l.cells e)
      go true false e = (omega arith, omega arith)
      go false b e = (omega arith, omega arith)

-- ---- the loop that joins

-- what is still to come behind end m, which is kept
abbrev onward : List C64 → Float → List ℕ → ℕ → List ℕ
onward x t es m = joined x t (skips x t (get_or es m 0) (drop (m + 1) es)) (drop (m + 1) es)

-- end m has been kept as the new line's end k: the ends up to it, with those to come, are the joined line, and zeros are behind them
pub record Joining (x : List C64) (t : Float) (es : List ℕ) (m k : ℕ) (ends : List ℕ) : Type 0 where
  pub high : m < length es
  pub low : k ≤ m
  pub long : length ends ≡ 65
  pub same : take (k + 1) ends ++ onward x t es m ≡ joined x t false es
  pub bare : (i : ℕ) → k < i → i < 65 → get_or ends i 0 ≡ 0

module _ (x : List C64) (t : Float) where
  joined_from : (es : List ℕ) (m : ℕ) → m < length es → joined x t false (drop m es) ≡ get_or es m 0 ∷ onward x t es m
  unfolding joined
  joined_from es m h = rw (drop-cons es m 0 h, add-one m)

  -- one that is passed over
  joined_past : (es : List ℕ) (m : ℕ) → m < length es → joined x t true (drop m es) ≡ joined x t false (drop (m + 1) es)
  unfolding joined
  joined_past es m h = rw (drop-cons es m 0 h, add-one m)

  -- whether an end is passed over, by the places of the ends
  skips_join : (a : ℕ) (es : List ℕ) (m : ℕ) → m + 1 < length es → skips x t a (drop m es) ≡ joins x t a (get_or es (m + 1) 0)
  unfolding skips
  skips_join a es m h =
      let b : m < length es = omega arith in
      let c : suc m < length es = omega arith in
      rw (drop-cons es m 0 b, drop-cons es (suc m) 0 c, add-one m)

  skips_end : (a : ℕ) (es : List ℕ) (m : ℕ) → m + 1 ≡ length es → skips x t a (drop m es) ≡ false
  unfolding skips
  skips_end a es m h =
      let b : m < length es = omega arith in
      rw (drop-cons es m 0 b, drop_of_length-le es {i = suc m} (omega arith))

  -- the end that is kept behind end m
  next_skips : (l : Line) → Held l → (m : ℕ) → m < l.cells
      → next_end x t l m ≡ cond (skips x t (get_or (ends_of l) m 0) (drop (m + 1) (ends_of l))) (m + 2) (m + 1)
  unfolding next_end next_by
  next_skips l p m h = go (dec_lt (m + 1) l.cells)
    where
      e : length (ends_of l) ≡ l.cells + 1
      e = length_ends l p

      go : Dec (m + 1 < l.cells) → next_end x t l m ≡ cond (skips x t (get_or (ends_of l) m 0) (drop (m + 1) (ends_of l))) (m + 2) (m + 1)
      go (yes b) =
          let k : m + 1 + 1 ≡ m + 2 = omega arith in
          rw (skips_join (get_or (ends_of l) m 0) (ends_of l) (m + 1) (omega (arith, e)), k, ends_at l m (omega arith), ends_at l (m + 2) (omega arith), le-leb (m + 2) l.cells (omega arith))
      go (no b) =
          rw (skips_end (get_or (ends_of l) m 0) (ends_of l) (m + 1) (omega (arith, e)), lt-leb (m + 2) l.cells (omega arith))

  -- it is the first of those to come
  onward_next : (es : List ℕ) (m : ℕ) (s : Bool) → m + 1 < length es → skips x t (get_or es m 0) (drop (m + 1) es) ≡ s
      → (cond s (m + 2) (m + 1) < length es) × (onward x t es m ≡ get_or es (cond s (m + 2) (m + 1)) 0 ∷ onward x t es (cond s (m + 2) (m + 1)))
  onward_next es m false h e = (h, rw e (joined_from es (m + 1) h))
  onward_next es m true h e =
      let k : m + 1 + 1 ≡ m + 2 = omega arith in
      let b : m + 2 < length es = omega (arith, skips_two x t (get_or es m 0) (drop (m + 1) es) e, length-drop (m + 1) es) in
      (b, rw (e, joined_past es (m + 1) h, k) (joined_from es (m + 2) b))

pub joining_start : {x : List C64} {t : Float} {es : List ℕ} {e : ℕ} → 0 < length es → e ≡ get_or es 0 0 → Joining x t es 0 0 (e ∷ replicate 64 0)
joining_start {x} {t} {es} {e} h q =
    record {
      high = h;
      low = omega arith;
      long = ap suc (length-replicate {A = ℕ} 64 0);
      same = ap (λ (f : ℕ). f ∷ onward x t es 0) q ∙ sym (joined_from x t es 0 h);
      bare = behind 64;
    }
  where
    behind : (n i : ℕ) → 0 < i → i < suc n → get_or (e ∷ replicate n 0) i 0 ≡ 0
    behind n zero b k = absurd (omega arith)
    behind n (suc i) b k = get_or-replicate n i 0 0 (le_of_suc-le-suc k)

-- the next end is behind m, and no further than the last
pub joining_next : {x : List C64} {t : Float} {l : Line} {m k m' : ℕ} {ends : List ℕ} → Held l → Joining x t (ends_of l) m k ends → m < l.cells
    → m' ≡ next_end x t l m → (m < m') × (m' ≤ l.cells)
joining_next {x} {t} {l} {m} held p h q = rw q (next_within x t l m h)

-- a turn: the next end is kept
pub joining_turn : {x : List C64} {t : Float} {l : Line} {m k m' e : ℕ} {ends : List ℕ} → Held l → Joining x t (ends_of l) m k ends → m < l.cells
    → m' ≡ next_end x t l m → e ≡ get_or l.ends m' 0 → Joining x t (ends_of l) m' (k + 1) (set ends (k + 1) e)
joining_turn {x} {t} {l} {m} {k} {m'} {e} {ends} held p h q r =
    let es : List ℕ = ends_of l in
    let s : Bool = skips x t (get_or es m 0) (drop (m + 1) es) in
    let j : length es ≡ l.cells + 1 = length_ends l held in
    let n : (m' < length es) × (onward x t es m ≡ get_or es m' 0 ∷ onward x t es m') =
    subst (λ (i : ℕ). (i < length es) × (onward x t es m ≡ get_or es i 0 ∷ onward x t es i)) (sym (q ∙ next_skips x t l held m h))
    (onward_next x t es m s (omega (arith, j)) refl) in
    let f : get_or es m' 0 ≡ e = ends_at l m' (omega (arith, j, n.0)) ∙ sym r in
    let c : m < m' = (joining_next held p h q).0 in
    record {
      high = n.0;
      low = omega (arith, p.low);
      long = length-set ends (k + 1) e ∙ p.long;
      same = rw (add-one (k + 1), take-suc-set ends (k + 1) e (omega (arith, p.long, p.low, held.most)), append_snoc (take (k + 1) ends) e (onward x t es m'), ← f, ← n.1) p.same;
      bare = λ i b d. get_or-set_other ends (k + 1) i e 0 (omega arith) ∙ p.bare i (omega arith) d;
    }

-- the end, at the last end
pub joining_end : {x : List C64} {t : Float} {es : List ℕ} {m k : ℕ} {ends : List ℕ} → Joining x t es m k ends → length es ≡ m + 1 → 5 ≤ length es
    → length es ≤ 65 → ◌≡◌ {A = Line} (record { cells = k; ends = ends }) (packed (coarser_ends x t es))
unfolding joined
joining_end {x} {t} {es} {m} {k} {ends} p h b c =
    let o : drop (m + 1) es ≡ [] = drop_of_length-le es {i = m + 1} (omega arith) in
    let f : take (k + 1) ends ≡ coarser_ends x t es = sym (append-nil (take (k + 1) ends)) ∙ (rw o at p.same) ∙ sym (coarser_some x t es b) in
    let g : drop (k + 1) ends ≡ replicate (65 - (k + 1)) 0 =
    is_replicate (65 - (k + 1)) 0 0 (drop (k + 1) ends)
    (length-drop (k + 1) ends ∙ ap (λ (i : ℕ). i - (k + 1)) p.long)
    (λ i d. get_or-drop (k + 1) ends i 0 ∙ p.bare (k + 1 + i) (omega arith) (omega arith)) in
    packed_is (coarser_ends x t es)
    (ap length (sym f) ∙ length-take-le (k + 1) ends (omega (arith, p.long, p.low)))
    (sym (take-append-drop (k + 1) ends) ∙ (λ i. f i ++ g i))

-- ---- the ends before a place

-- where the first ends are known to be below e, the others are passed one by one
module _ (e from : ℕ) (es : List ℕ) (h : from ≤ length es) (a : (m : ℕ) → m < from → get_or es m 0 < e) where
  passed : ℕ
  passed = prefix_len (λ f. ltb f e) (drop from es)

  passed_below : (m : ℕ) → m < from + passed → Dec (m < from) → get_or es m 0 < e
  unfolding passed
  passed_below m c (yes b) = a m b
  passed_below m c (no b) =
      let d : from + (m - from) ≡ m = omega arith in
      rw (get_or-drop from es (m - from) 0, d) at
      (ltb-true _ _ (prefix_len_passes (λ f. ltb f e) (drop from es) (m - from) 0 (omega arith)))

  pub before_past : from + prefix_len (λ f. ltb f e) (take (length es - from) (drop from es)) ≡ before e es
  unfolding passed
  before_past =
      let k : length (drop from es) ≡ length es - from = length-drop from es in
      rw (take_all (length es - from) (drop from es) (omega arith))
      (sym
      (before_is e es (from + passed) (omega (arith, prefix_len-le-length (λ f. ltb f e) (drop from es)))
      (λ m c. passed_below m c (dec_lt m from))
      (λ c. rw (get_or-drop from es passed 0) at (ltb-false _ _ (prefix_len_stops (λ f. ltb f e) (drop from es) 0 (omega arith))))))

-- ---- the numbers of a coarse line's nodes on a fine one

-- the number of node m
abbrev pub node_on : List ℕ → List ℕ → ℕ → ℕ
node_on fine coarse m = before (get_or coarse m 0) fine

pub length_nodes : (fine coarse : List ℕ) → length (nodes_of fine coarse) ≡ length coarse
unfolding nodes_of
length_nodes fine [] = refl
length_nodes fine (e ∷ es) = ap suc (length_nodes fine es)

pub nodes_at_lem : (fine coarse : List ℕ) (m : ℕ) → m < length coarse → get_or (nodes_of fine coarse) m 0 ≡ node_on fine coarse m
unfolding nodes_of
nodes_at_lem fine [] m h = absurd (not-suc-le-zero h)
nodes_at_lem fine (e ∷ es) zero h = refl
nodes_at_lem fine (e ∷ es) (suc m) h = nodes_at_lem fine es m (le_of_suc-le-suc h)

-- the loop that numbers them: the first m have their numbers, and the first q ends of the fine line are below node m
pub record Numbered (fine coarse : Line) (m q : ℕ) (nodes : List ℕ) : Type 0 where
  pub filled : Filled (node_on (ends_of fine) (ends_of coarse)) 0 0 65 m nodes
  pub most : q ≤ fine.cells + 1
  pub below : m < coarse.cells + 1 → (i : ℕ) → i < q → get_or fine.ends i 0 < get_or (ends_of coarse) m 0

pub numbered_start : {fine coarse : Line} → Numbered fine coarse 0 0 (replicate 65 0)
numbered_start = record { filled = filled_start; most = omega arith; below = λ h i b. absurd (omega arith) }

pub numbered_turn : {fine coarse : Line} {m q q' : ℕ} {nodes : List ℕ} → Held fine → Held coarse → Rises (ends_of coarse)
    → Numbered fine coarse m q nodes → m < coarse.cells + 1 → q' ≡ before (get_or (ends_of coarse) m 0) (ends_of fine)
    → Numbered fine coarse (m + 1) q' (set nodes m q')
numbered_turn {fine} {coarse} {m} {q} {q'} {nodes} f g r p h e =
    let a : length (ends_of fine) ≡ fine.cells + 1 = length_ends fine f in
    let b : length (ends_of coarse) ≡ coarse.cells + 1 = length_ends coarse g in
    let most : q' ≤ fine.cells + 1 = omega (arith, before_most (get_or (ends_of coarse) m 0) (ends_of fine)) in
    record {
      filled = filled_turn p.filled (omega (arith, g.most)) e;
      most = most;
      below = λ k i c.
          let low : get_or (ends_of fine) i 0 < get_or (ends_of coarse) m 0 = before_below (get_or (ends_of coarse) m 0) (ends_of fine) i (omega arith) in
          let up : get_or (ends_of coarse) m 0 < get_or (ends_of coarse) (m + 1) 0 = rises_below (ends_of coarse) r m (m + 1) (omega arith) (omega arith) in
          omega (arith, ends_at fine i (omega arith));
    }

pub numbered_end : {fine coarse : Line} {m q : ℕ} {nodes : List ℕ} → Held coarse → Numbered fine coarse m q nodes → m ≡ coarse.cells + 1
    → nodes ≡ nodes_of (ends_of fine) (ends_of coarse) ++ replicate (64 - coarse.cells) 0
numbered_end {fine} {coarse} {m} {q} {nodes} g p e =
    let fs = ends_of fine in
    let es = ends_of coarse in
    let a : m ≡ length es = e ∙ sym (length_ends coarse g) in
    let b : 65 - m ≡ 64 - coarse.cells = omega arith in
    let n : tabulate (node_on fs es) m 0 ≡ nodes_of fs es =
    sym (is_tabulate (node_on fs es) m 0 (nodes_of fs es) (length_nodes fs es ∙ sym a) (λ i h. nodes_at_lem fs es i (omega arith))) in
    filled_end p.filled (omega (arith, g.most)) ∙ (λ i. n i ++ replicate (b i) 0)
