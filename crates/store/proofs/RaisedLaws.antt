-- Lists of flags and bits, raised one after another in a loop, and what they tell. Assumes nothing.
use Prim.Native.Nat.{ℕ, ◌+◌, ◌*◌, ◌/◌, ◌%◌, ◌≤◌, ◌<◌}
use mathlib.Core.Path.{◌≡◌, refl, sym, ap, subst, ◌∙◌}
use mathlib.Core.Logic.{inl, inr, ⊎_elim}
use mathlib.Core.Bool.{Bool, true, false, ◌||◌, ◌&&◌, and-true}
use mathlib.Core.List.{List, [], ◌∷◌}
use native.Mathlib.Omega.{arith}
use native.Mathlib.Decide.{dec_lt}
use borrow.Author.Tests.{eq-eqb, ne_eqb}
use lib.Dec.{eqb}
use lib.ListN.{length, get_or, set, length-set}
use lib.Seq.{get_or-set_same, get_or-set_other, set-get_or}
use Rattle.std.proofs.lemmas.Bool.{and_right, cases_eq, or_right}
use Rattle.numbers.specs.Lists.{In, any_flag}
use Rattle.numbers.proofs.FlagLaws.{any_flag_nil, any_flag_cons}
use Rattle.numbers.proofs.Laws.{and_true, and_false}
use Rattle.numbers.proofs.MarkedLaws.{named_by, Spread, Mutual, named_any, named_none}
use Rattle.operators.specs.Bits.{bit_at, mix_of, single}
use Rattle.operators.proofs.WordLaws.{bit_mix, bit_unit}
use Rattle.store.specs.FillSteps.{only_count}
use Rattle.store.specs.Parts.{flag_at}
use Rattle.store.specs.declared.Choice.{Choice}
use Rattle.store.specs.declared.Choice.TheVariants.{Galerkin, Rediscretized}
use Rattle.store.specs.Reach.{any}
use Rattle.store.specs.ReachSteps.{Flags, Raised, BitRaised, BitsRaised}

or_none : (a b : Bool) → b ≡ false → (a || b) ≡ a
or_none true b e = refl
or_none false b e = e

-- what only a rediscretized store has
pub only_most : (ch : Choice) (n : ℕ) → only_count ch n ≤ n
only_most Galerkin n = omega arith
only_most Rediscretized n = omega arith

-- ---- one flag

pub raise_not : (xs : List Bool) (r : ℕ) (b : Bool) → b ≡ false → xs ≡ set xs r (get_or xs r false || b)
raise_not xs r b e = sym (set-get_or xs r false) ∙ ap (λ (v : Bool). set xs r v) (sym (or_none (get_or xs r false) b e))

pub raise_set : (xs : List Bool) (r : ℕ) (b : Bool) → b ≡ true → set xs r true ≡ set xs r (get_or xs r false || b)
raise_set xs r b e = ap (λ (v : Bool). set xs r v) (sym (or_right (get_or xs r false) _ e))

-- ---- the loop over rows

pub raised_start : {flags : List Bool} {reads : ℕ → List ℕ} {xs : List Bool} → Raised 0 flags reads xs xs
raised_start = record { same_long = refl; each_is = λ r h. absurd (omega arith); rest_is = λ r h. refl }

pub raised_turn : {flags : List Bool} {reads : ℕ → List ℕ} {xs ys zs : List Bool} {r : ℕ} {b : Bool} → Raised r flags reads xs ys → r < length xs
    → zs ≡ set ys r (get_or ys r false || b) → b ≡ any_flag flags (reads r) → Raised (r + 1) flags reads xs zs
raised_turn {flags} {reads} {xs} {ys} {zs} {r} {b} w h e f =
    let v : Bool = get_or ys r false || b in
    record {
      same_long = ap length e ∙ length-set ys r v ∙ w.same_long;
      each_is = λ q i.
          elim (dec_lt q r) as (λ _. get_or zs q false ≡ (get_or xs q false || any_flag flags (reads q))) [
            | yes j ↦ ap (λ (us : List Bool). get_or us q false) e ∙ get_or-set_other ys r q v false (λ k. omega arith) ∙ w.each_is q j
            | no j ↦
                let k : q ≡ r = omega arith in
                rw k (ap (λ (us : List Bool). get_or us r false) e ∙ get_or-set_same ys r v false (omega (arith, w.same_long)) ∙ (λ i. w.rest_is r (omega arith) i || f i))
          ];
      rest_is = λ q i. ap (λ (us : List Bool). get_or us q false) e ∙ get_or-set_other ys r q v false (λ k. omega arith) ∙ w.rest_is q (omega arith);
    }

pub raised_end : {n r : ℕ} {flags : List Bool} {reads : ℕ → List ℕ} {xs ys : List Bool} → Raised r flags reads xs ys → r ≡ n → Raised n flags reads xs ys
raised_end {n} {r} {flags} {reads} {xs} {ys} w e = subst (λ (k : ℕ). Raised k flags reads xs ys) e w

-- rows that name one another: where each flagged one has set the flags of its columns, those that name a flagged one are raised
pub spread_raised : {n k : ℕ} {flags : List Bool} {reads : ℕ → List ℕ} {xs ys : List Bool} → Mutual n reads → Spread flags reads xs ys k → k ≡ n → Raised n flags reads xs ys
spread_raised {n} {k} {flags} {reads} {xs} {ys} w p e =
    let all : (r : ℕ) → get_or ys r false ≡ (get_or xs r false || named_by flags reads n r) = λ r. p.each_is r ∙ ap (λ (j : ℕ). get_or xs r false || named_by flags reads j r) e in
    record {
      same_long = p.same_long;
      each_is = λ r h. all r ∙ ap (λ (b : Bool). get_or xs r false || b) (named_any flags reads n w r h);
      rest_is = λ r h. all r ∙ or_none (get_or xs r false) (named_by flags reads n r) (named_none flags reads n w r h);
    }

-- the same rows by another name
pub raised_as : {n k : ℕ} {flags : List Bool} {reads others : ℕ → List ℕ} {xs ys : List Bool} → Raised n flags reads xs ys → n ≡ k → ((r : ℕ) → r < n → reads r ≡ others r) → Raised k flags others xs ys
raised_as {n} {k} {flags} {xs = xs} w e same =
    record {
      same_long = w.same_long;
      each_is = λ r h. w.each_is r (omega arith) ∙ ap (λ (cs : List ℕ). get_or xs r false || any_flag flags cs) (same r (omega arith));
      rest_is = λ r h. w.rest_is r (omega arith);
    }

-- ---- what raised flags tell

-- the flagged ones among positions that the flags cover
pub any_flags : (n : ℕ) (f : ℕ → Bool) (xs : List Bool) → Flags n f xs → (cs : List ℕ) → ((c : ℕ) → In c cs → c < n) → any_flag xs cs ≡ any f cs
unfolding any
any_flags n f xs w [] low = any_flag_nil xs
any_flags n f xs w (c ∷ cs) low =
    any_flag_cons xs c cs ∙ (λ i. w.each_is c (low c (inl refl)) i || any_flags n f xs w cs (λ d j. low d (inr j)) i)

-- flags g that are raised where a row reads a position that f flags
pub flags_raised : (k : ℕ) (f : ℕ → Bool) (n : ℕ) (g : ℕ → Bool) {flags xs ys : List Bool} {reads : ℕ → List ℕ} → Flags k f flags → Flags n g xs → Raised n flags reads xs ys
    → ((r c : ℕ) → r < n → In c (reads r) → c < k) → Flags n (λ r. g r || any f (reads r)) ys
flags_raised k f n g {flags} {xs} {ys} {reads} u v w low =
    record {
      long = omega (arith, v.long, w.same_long);
      each_is = λ r h. w.each_is r h ∙ (λ i. v.each_is r h i || any_flags k f flags u (reads r) (λ c j. low r c h j) i);
    }

-- ---- bits

module _ (ws : List ℕ) (q : ℕ) where
  -- the bit that is set
  bit_same : (k : ℕ) → k / 64 ≡ q / 64 → eqb (k % 64) (q % 64) ≡ eqb k q
  bit_same k e =
      ⊎_elim
      (λ j. eq-eqb (k % 64) (q % 64) (ap (λ (x : ℕ). x % 64) j) ∙ sym (eq-eqb k q j))
      (λ j. ne_eqb (k % 64) (q % 64) (λ i. j (omega arith)) ∙ sym (ne_eqb k q j))
      (cases_eq k q)

  pub bit_raised : (b : Bool) {u v : ℕ} {vs : List ℕ} → b ≡ true → q < 64 * length ws → u ≡ single (q % 64) → v ≡ mix_of true (get_or ws (q / 64) 0) true u → vs ≡ set ws (q / 64) v → BitRaised q b ws vs
  bit_raised b {u} {v} {vs} on h e d f =
      record {
        same_long = ap length f ∙ length-set ws (q / 64) v;
        each_is = λ k.
            ⊎_elim
            (λ j.
            let at : get_or vs (k / 64) 0 ≡ mix_of true (get_or ws (k / 64) 0) true (single (q % 64)) =
            ap (λ (us : List ℕ). get_or us (k / 64) 0) f
            ∙ rw j (get_or-set_same ws (q / 64) v 0 (omega arith) ∙ d ∙ ap (mix_of true (get_or ws (q / 64) 0) true) e) in
            ap (λ (x : ℕ). bit_at x (k % 64)) at
            ∙ bit_mix true (get_or ws (k / 64) 0) true (single (q % 64)) (k % 64)
            ∙ (λ i. bit_at (get_or ws (k / 64) 0) (k % 64) || (bit_unit (q % 64) (k % 64) ∙ bit_same k j ∙ sym (and_true b (eqb k q) on)) i))
            (λ j.
            let z : eqb k q ≡ false = ne_eqb k q (λ i. j (ap (λ (x : ℕ). x / 64) i)) in
            ap (λ (us : List ℕ). bit_at (get_or us (k / 64) 0) (k % 64)) f
            ∙ ap (λ (x : ℕ). bit_at x (k % 64)) (get_or-set_other ws (q / 64) (k / 64) v 0 j)
            ∙ sym (or_none (flag_at ws k) (b && eqb k q) (and_true b (eqb k q) on ∙ z)))
            (cases_eq (k / 64) (q / 64));
      }

  pub bit_left : (b : Bool) → b ≡ false → BitRaised q b ws ws
  bit_left b off = record { same_long = refl; each_is = λ k. sym (or_none (flag_at ws k) (b && eqb k q) (and_false b (eqb k q) off ∙ off)) }

-- the loop over the flags of a list

pub bits_start : {base : ℕ} {xs : List Bool} {ws : List ℕ} → BitsRaised base 0 xs ws ws (base + 0)
bits_start = record { same_long = refl; next_is = refl; each_is = λ i h. absurd (omega arith); low_is = λ k h. refl; high_is = λ k h. refl }

pub bits_turn : {base n : ℕ} {xs : List Bool} {ws us vs : List ℕ} → BitsRaised base n xs ws us (base + n) → BitRaised (base + n) (get_or xs n false) us vs
    → BitsRaised base (n + 1) xs ws vs (base + (n + 1))
bits_turn {base} {n} {xs} {ws} {us} {vs} w v =
    let other : (k : ℕ) → (k ≡ base + n → ⊥) → flag_at vs k ≡ flag_at us k =
    λ k d. v.each_is k ∙ or_none (flag_at us k) (get_or xs n false && eqb k (base + n)) (and_right (get_or xs n false) (eqb k (base + n)) (ne_eqb k (base + n) d)) in
    record {
      same_long = v.same_long ∙ w.same_long;
      next_is = refl;
      each_is = λ i h.
          elim (dec_lt i n) as (λ _. flag_at vs (base + i) ≡ (flag_at ws (base + i) || get_or xs i false)) [
            | yes j ↦ other (base + i) (λ z. omega arith) ∙ w.each_is i j
            | no j ↦
                let k : i ≡ n = omega arith in
                rw k (v.each_is (base + n)
                ∙ (λ t. w.high_is (base + n) (omega arith) t || (ap (λ (x : Bool). get_or xs n false && x) (eq-eqb (base + n) (base + n) refl) ∙ and-true (get_or xs n false)) t))
          ];
      low_is = λ k h. other k (λ z. omega arith) ∙ w.low_is k h;
      high_is = λ k h. other k (λ z. omega arith) ∙ w.high_is k (omega arith);
    }

pub bits_end : {base n k r : ℕ} {xs : List Bool} {ws vs : List ℕ} → BitsRaised base k xs ws vs (base + k) → k ≡ n → r ≡ base + n → BitsRaised base n xs ws vs r
bits_end {base} {n} {k} {r} {xs} {ws} {vs} w e d = rw (d, ← e) w
