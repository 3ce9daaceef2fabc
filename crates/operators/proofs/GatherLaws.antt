-- Terms added to sums by column: one behind another, and in loops over the terms of two lists.
-- Assumes nothing.
use Prim.Native.Nat.{ℕ, suc, ◌+◌, ◌-◌, ◌*◌, ◌<◌, ◌≤◌, ◌^◌}
use mathlib.Core.Path.{◌≡◌, refl, sym, ◌∙◌, ap}
use mathlib.Core.Logic.{◌≢◌}
use mathlib.Core.Bool.{cond}
use mathlib.Core.List.{List, [], ◌∷◌, ◌++◌}
use native.Mathlib.Omega.{arith}
use native.Mathlib.Numerals.{add-one}
use native.Mathlib.Decide.{ℕ_discrete}
use borrow.Author.Tests.{eq-eqb, ne_eqb}
use lib.Dec.{eqb}
use lib.ListN.{length, get_or}
use lib.Ieee.{Float}
use Rattle.numbers.specs.declared.C64.{C64}
use Rattle.numbers.specs.Complex.{zero_number, sum}
use Rattle.numbers.specs.Places.{places, number_at, set_number, found_at}
use Rattle.numbers.proofs.Laws.{length_set_number, number_same, number_other, found_held}
use Rattle.numbers.proofs.Equations.{places_is, summed_at_nil, summed_at_cons, terms_in_zero, each_nil, tabulate_zero, laid_by_nil, stored_row_is}
use Rattle.numbers.specs.Terms.{Term, terms_in, stored_row, Stored}
use Rattle.numbers.specs.Lists.{each, tabulate, laid_numbers}
use Rattle.numbers.proofs.TermLaws.{in_more, each_append, each_one}
use Rattle.numbers.proofs.TabulateLaws.{length_tabulate}
use Rattle.numbers.proofs.ListLaws.{tabulate_more}
use Rattle.numbers.proofs.TransposeLaws.{row_of}
use Rattle.numbers.specs.Collect.{summed_at}
use Rattle.numbers.specs.declared.terms.Part.{Part}
use Rattle.operators.specs.Galerkin.{HasRow, HasRows, sum_of, sums_at, Gathered, Cleared, ColumnsBelow}
use Rattle.numbers.proofs.StoredLaws.{summed_append, places_same, laid_more}

pub gathered_none : {xs : List Float} → Gathered [] xs xs
gathered_none {xs} = record { long = refl; sums = λ d h. sym (summed_at_nil d (number_at xs d)) }

pub gathered_append : {ts us : List Term} {xs ys zs : List Float} → Gathered ts xs ys → Gathered us ys zs → Gathered (ts ++ us) xs zs
gathered_append {ts} {us} {xs} {ys} {zs} g h =
    record {
      long = h.long ∙ g.long;
      sums = λ d b. h.sums d (rw (places_same xs ys g.long) b) ∙ ap (λ (s : C64). summed_at d s us) (g.sums d b) ∙ sym (summed_append d (number_at xs d) ts us);
    }

-- one term added
pub gathered_one : {xs ys : List Float} {c : ℕ} {v x y : C64} → x ≡ found_at xs c → y ≡ sum x v → ys ≡ set_number xs c y
    → Gathered (record { column = c; number = v } ∷ []) xs ys
gathered_one {xs} {ys} {c} {v} {x} {y} e f q =
    record {
      long = ap length q ∙ length_set_number xs c y;
      sums = λ d b.
          rw (
            summed_at_cons d (number_at xs d) (record { column = c; number = v }) [],
            summed_at_nil d (cond (eqb c d) (sum (number_at xs d) v) (number_at xs d)),
          )
          (go d b (ℕ_discrete c d));
    }
  where
    go : (d : ℕ) → d < places xs → Dec (c ≡ d) → number_at ys d ≡ cond (eqb c d) (sum (number_at xs d) v) (number_at xs d)
    go d b (yes p) =
        rw (eq-eqb c d p)
        (ap (λ (zs : List Float). number_at zs d) q
        ∙ rw p (number_same xs d y b)
        ∙ f
        ∙ ap (λ (z : C64). sum z v) (e ∙ rw p (sym (found_held xs d (omega (arith, places_is xs))))))
    go d b (no n) = rw (ne_eqb c d n) (ap (λ (zs : List Float). number_at zs d) q ∙ number_other xs c d y (λ r. n (sym r)))

-- a loop over the terms of two lists from place `first` up to `last`, which adds what f gives for each; q is the next
pub record Adding (f : Term → List Term) (cs : List ℕ) (xs : List Float) (first last : ℕ) (ys zs : List Float) (q : ℕ) : Type 0 where
  pub low : first ≤ q
  pub high : q - first ≤ last - first
  pub gathered : Gathered (each f (terms_in cs xs first (q - first))) ys zs

pub adding_start : {f : Term → List Term} {cs : List ℕ} {xs : List Float} {first last : ℕ} {ys : List Float} → Adding f cs xs first last ys ys first
adding_start {f} {cs} {xs} {first} {last} {ys} =
    let e : first - first ≡ 0 = omega arith in
    record { low = omega arith; high = omega arith; gathered = rw (e, terms_in_zero cs xs first, each_nil f) (gathered_none {xs = ys}) }

pub adding_turn : {f : Term → List Term} {cs : List ℕ} {xs : List Float} {first last q : ℕ} {ys zs zs' : List Float} {v : C64}
    → Adding f cs xs first last ys zs q → q < last → v ≡ number_at xs q
    → Gathered (f (record { column = get_or cs q 0; number = v })) zs zs'
    → Adding f cs xs first last ys zs' (q + 1)
adding_turn {f} {cs} {xs} {first} {last} {q} {ys} {zs} {zs'} {v} a h e g =
    let n = q - first in
    let s : q + 1 - first ≡ suc n = omega (arith, a.low) in
    let j : q ≡ first + n = omega (arith, a.low) in
    record {
      low = omega (arith, a.low);
      high = omega (arith, a.low);
      gathered =
          rw (
            s,
            in_more cs xs first n q j,
            each_append f (terms_in cs xs first n) (record { column = get_or cs q 0; number = number_at xs q } ∷ []),
            each_one f (record { column = get_or cs q 0; number = number_at xs q }),
          )
          (gathered_append a.gathered (rw e at g));
    }

pub adding_end : {f : Term → List Term} {cs : List ℕ} {xs : List Float} {first last q : ℕ} {ys zs : List Float}
    → Adding f cs xs first last ys zs q → last ≤ q → Gathered (each f (terms_in cs xs first (last - first))) ys zs
adding_end {f} {cs} {xs} {first} {last} {q} {ys} {zs} a h =
    let e : q - first ≡ last - first = omega (arith, a.low, a.high) in
    rw e at a.gathered

-- ---- sums that start anew

pub cleared_start : {cs : List ℕ} {k : ℕ} {xs : List Float} → Cleared cs k 0 xs xs
cleared_start = record { long = refl; zeros = λ m h. absurd (omega arith); kept = λ d h. refl }

pub cleared_turn : {cs : List ℕ} {k n : ℕ} {xs ys zs : List Float} {z : C64} → Cleared cs k n xs ys → z ≡ zero_number
    → zs ≡ set_number ys (get_or cs (k + n) 0) z → Cleared cs k (n + 1) xs zs
cleared_turn {cs} {k} {n} {xs} {ys} {zs} {z} c e q =
    record {
      long = ap length q ∙ length_set_number ys (get_or cs (k + n) 0) z ∙ c.long;
      zeros = λ m h b. ap (λ (us : List Float). number_at us (get_or cs (k + m) 0)) q ∙ go m h b (ℕ_discrete (get_or cs (k + m) 0) (get_or cs (k + n) 0));
      kept = λ d h.
          ap (λ (us : List Float). number_at us d) q
          ∙ (number_other ys (get_or cs (k + n) 0) d z (h n (omega arith)) ∙ c.kept d (λ m b. h m (omega arith)));
    }
  where
    last : (m : ℕ) → m < n + 1 → get_or cs (k + m) 0 ≢ get_or cs (k + n) 0 → m < n
    last m h ne = below (ℕ_discrete m n)
      where
        below : Dec (m ≡ n) → m < n
        below (yes p) = absurd (ne (ap (λ (i : ℕ). get_or cs (k + i) 0) p))
        below (no p) = omega arith

    go : (m : ℕ) → m < n + 1 → get_or cs (k + m) 0 < places xs → Dec (get_or cs (k + m) 0 ≡ get_or cs (k + n) 0)
        → number_at (set_number ys (get_or cs (k + n) 0) z) (get_or cs (k + m) 0) ≡ zero_number
    go m h b (yes p) = rw p (number_same ys (get_or cs (k + n) 0) z (omega (arith, p, places_same xs ys c.long))) ∙ e
    go m h b (no p) = number_other ys (get_or cs (k + n) 0) (get_or cs (k + m) 0) z p ∙ c.zeros m (last m h p) b

pub cleared_end : {cs : List ℕ} {k n q : ℕ} {xs ys : List Float} → Cleared cs k q xs ys → q ≡ n → Cleared cs k n xs ys
cleared_end c e = rw e at c

-- ---- sums laid over a list, q of n

pub record Summing (cs : List ℕ) (sums : List Float) (k n : ℕ) (vs₀ vs : List Float) (q : ℕ) : Type 0 where
  pub high : q ≤ n
  pub long : length vs ≡ length vs₀
  pub laid : vs ≡ laid_numbers vs₀ k (sums_at cs sums k q)

pub summing_start : {cs : List ℕ} {sums : List Float} {k n : ℕ} {vs : List Float} → Summing cs sums k n vs vs 0
unfolding sums_at
summing_start {cs} {sums} {k} {n} {vs} =
    record { high = omega arith; long = refl; laid = rw (tabulate_zero (sum_of cs sums) k, laid_by_nil set_number vs k) refl }

laid_one_more : (cs : List ℕ) (sums : List Float) (k q : ℕ) (vs₀ : List Float)
    → set_number (laid_numbers vs₀ k (sums_at cs sums k q)) (k + q) (number_at sums (get_or cs (k + q) 0)) ≡ laid_numbers vs₀ k (sums_at cs sums k (q + 1))
unfolding sums_at sum_of
laid_one_more cs sums k q vs₀ =
    rw (add-one q, tabulate_more (sum_of cs sums) q k (k + q) refl)
    (sym (laid_more set_number vs₀ k (tabulate (sum_of cs sums) q k) (sum_of cs sums (k + q)) (k + q)
    (ap (λ (i : ℕ). k + i) (sym (length_tabulate (sum_of cs sums) q k)))))

pub summing_turn : {cs : List ℕ} {sums : List Float} {k n q : ℕ} {vs₀ vs vs' : List Float} {v : C64} → Summing cs sums k n vs₀ vs q → q < n
    → v ≡ number_at sums (get_or cs (k + q) 0) → vs' ≡ set_number vs (k + q) v → Summing cs sums k n vs₀ vs' (q + 1)
summing_turn {cs} {sums} {k} {n} {q} {vs₀} {vs} {vs'} {v} s h e p =
    record {
      high = omega arith;
      long = ap length p ∙ length_set_number vs (k + q) v ∙ s.long;
      laid = p ∙ rw (e, s.laid) (laid_one_more cs sums k q vs₀);
    }

pub summing_end : {cs : List ℕ} {sums : List Float} {k n q : ℕ} {vs₀ vs : List Float} → Summing cs sums k n vs₀ vs q → n ≤ q
    → vs ≡ laid_numbers vs₀ k (sums_at cs sums k n)
summing_end {cs} {sums} {k} {n} {q} {vs₀} {vs} s h = let e : q ≡ n = omega (arith, s.high) in rw e at s.laid

-- ---- rows that stand in lists

pub record Bounds (starts : List ℕ) (s : ℕ) (cs : List ℕ) (xs : List Float) (k r m : ℕ) : Type 0 where
  pub rise : get_or starts (s + r) 0 ≤ get_or starts (s + r + 1) 0
  pub room : k + get_or starts (s + r + 1) 0 ≤ length cs
  pub numbers : 2 * (k + get_or starts (s + r + 1) 0) ≤ length xs
  pub few : get_or starts (s + r + 1) 0 ≤ 2 ^ 32
  pub place : s + r + 1 < length starts
  pub columns_low : (q : ℕ) → q < get_or starts (s + r + 1) 0 → get_or cs (k + q) 0 < m

pub bounds : {starts : List ℕ} {s : ℕ} {cs : List ℕ} {xs : List Float} {k n m : ℕ} → Stored starts s cs xs k n m → (r : ℕ) → r < n
    → Bounds starts s cs xs k r m
bounds {starts} {s} {cs} {xs} {k} {n} {m} u r h =
    let e : get_or starts (s + r + 1) 0 ≤ get_or starts (s + n) 0 = (row_of u r h).most in
    record {
      rise = u.rise r h;
      room = omega (arith, u.columns_room, e);
      numbers = omega (arith, u.numbers_room, e);
      few = omega (arith, u.all_few, e);
      place = omega (arith, u.starts_room);
      columns_low = λ q b. u.columns_low q (omega (arith, e));
    }

-- the terms from one start up to the next are the row's
pub row_gathered : (f : Term → List Term) (starts : List ℕ) (s : ℕ) (cs : List ℕ) (xs : List Float) (k r : ℕ) {first last : ℕ} {ys zs : List Float}
    → first ≡ k + get_or starts (s + r) 0 → last ≡ k + get_or starts (s + r + 1) 0
    → Gathered (each f (terms_in cs xs first (last - first))) ys zs → Gathered (each f (stored_row starts s cs xs k r)) ys zs
row_gathered f starts s cs xs k r {first} {last} {ys} {zs} a b g =
    let e : last - first ≡ get_or starts (s + r + 1) 0 - get_or starts (s + r) 0 = omega (arith, a, b) in
    rw (stored_row_is starts s cs xs k r) (rw (e, a) at g)

-- the columns of a row that stands in lists are below the bound
pub stored_below : {starts : List ℕ} {s : ℕ} {cs : List ℕ} {xs : List Float} {k r m : ℕ} → Bounds starts s cs xs k r m
    → ColumnsBelow cs (k + get_or starts (s + r) 0) (get_or starts (s + r + 1) 0 - get_or starts (s + r) 0) m
stored_below {starts} {s} {cs} {xs} {k} {r} {m} u =
    record {
      low = λ q h.
          let i : k + (get_or starts (s + r) 0 + q) ≡ k + get_or starts (s + r) 0 + q = omega arith in
          rw i at (u.columns_low (get_or starts (s + r) 0 + q) (omega (arith, u.rise)));
    }

-- the same from where it starts up to where it ends
pub row_cut : {starts : List ℕ} {s : ℕ} {cs : List ℕ} {xs : List Float} {k r m first last : ℕ} → Bounds starts s cs xs k r m
    → first ≡ k + get_or starts (s + r) 0 → last ≡ k + get_or starts (s + r + 1) 0 → ColumnsBelow cs first (last - first) m
row_cut {starts} {s} {cs} {xs} {k} {r} {m} {first} {last} u a b =
    let e : last - first ≡ get_or starts (s + r + 1) 0 - get_or starts (s + r) 0 = omega (arith, a, b) in
    rw (e, a) (stored_below u)

pub row_terms : (starts : List ℕ) (s : ℕ) (cs : List ℕ) (xs : List Float) (k r : ℕ) {first last : ℕ}
    → first ≡ k + get_or starts (s + r) 0 → last ≡ k + get_or starts (s + r + 1) 0
    → stored_row starts s cs xs k r ≡ terms_in cs xs first (last - first)
row_terms starts s cs xs k r {first} {last} a b =
    let e : last - first ≡ get_or starts (s + r + 1) 0 - get_or starts (s + r) 0 = omega (arith, a, b) in
    rw (e, a) (stored_row_is starts s cs xs k r)

-- the row of the term at place q
pub row_there : {p : Part} {starts cs : List ℕ} {xs : List Float} {ds : List ℕ} {k count q : ℕ} → HasRows p starts cs xs ds k count
    → k ≤ q → q < k + count → HasRow p starts cs xs (get_or ds q 0)
row_there {k = k} {count = count} {q = q} u h g =
    let e : k + (q - k) ≡ q = omega arith in
    rw e at (u.each_there (q - k) (omega arith))

-- so each has a row in lists that have as many
pub rows_there : {p : Part} {starts cs : List ℕ} {xs : List Float} {ds : List ℕ} {k count n m : ℕ} → Stored starts p.s cs xs p.k n m
    → ColumnsBelow ds k count n → HasRows p starts cs xs ds k count
rows_there {n = n} {m = m} u w = record { each_there = λ q h. record { n = n; m = m; stored = u; low = w.low q h } }

pub count_gathered : (f : Term → List Term) (cs : List ℕ) (xs : List Float) (k n : ℕ) {ys zs : List Float}
    → Gathered (each f (terms_in cs xs k (k + n - k))) ys zs → Gathered (each f (terms_in cs xs k n)) ys zs
count_gathered f cs xs k n g = let e : k + n - k ≡ n = omega arith in rw e at g

-- the column at place q between one start and the next is below the bound
pub stored_column : {starts : List ℕ} {s : ℕ} {cs : List ℕ} {xs : List Float} {k r m q : ℕ} → Bounds starts s cs xs k r m
    → k + get_or starts (s + r) 0 ≤ q → q < k + get_or starts (s + r + 1) 0 → get_or cs q 0 < m
stored_column {starts} {s} {cs} {xs} {k} {r} {m} {q} u h g =
    let e : k + (q - k) ≡ q = omega arith in
    rw e at (u.columns_low (q - k) (omega arith))
