-- The words of level 0, place by place.
-- Assumes nothing.
use Prim.Native.Nat.{ℕ, zero, suc, ◌*◌, ◌/◌, ◌%◌, ◌<◌, ◌≤◌}
use mathlib.Core.Path.{◌≡◌, refl, ap, ◌∙◌}
use mathlib.Core.Bool.{Bool, true, false, not, ◌&&◌, ◌||◌, and-true, and-false, or-false}
use mathlib.Core.List.{List}
use native.Mathlib.Omega.{arith}
use native.Mathlib.Decide.{ℕ_discrete, dec_lt}
use borrow.Author.Tests.{eq-eqb, ne_eqb, lt-ltb, le-ltb}
use lib.Dec.{eqb, ltb}
use lib.ListN.{length, get_or, length-replicate}
use Rattle.numbers.specs.Lists.{tabulate}
use Rattle.numbers.proofs.TabulateLaws.{length_tabulate, tabulate_at_0}
use Rattle.operators.specs.Relation.{Rel}
use Rattle.operators.specs.Pattern.{Role, across, role_of, rel}
use Rattle.operators.specs.Bits.{bit_at, single, gathered}
use Rattle.operators.specs.Compose.{table}
use Rattle.operators.specs.Numbered.{name_no, relations_laid, no_relations, Right}
use Rattle.operators.specs.Base.{live_at, follows, base_of, base_word, base_words}
use Rattle.operators.proofs.WordLaws.{bit_none, bit_mix, bit_unit}
use Rattle.operators.proofs.TableLaws.{relation_at}
use Rattle.operators.proofs.Sound.{ladder}

pub live_along : (b along : Bool) (i : ℕ) → along ≡ true → true ≡ live_at b (role_of along) i
unfolding live_at
live_along b along i e = rw e

pub live_across : (b along : Bool) (i : ℕ) → along ≡ false → (b || not (eqb i 0)) ≡ live_at b (role_of along) i
unfolding live_at
live_across b along i e = rw e

-- the relations by their numbers
module _ (n : ℕ) (bloch : Bool) (w i j : ℕ) where
  pub same_related : w < 2 → (live_at bloch (role_of (eqb w 0)) i && eqb i j) ≡ base_of n bloch (name_no w) i j
  unfolding base_of
  same_related h = go w h
    where
      go : (w : ℕ) → w < 2 → (live_at bloch (role_of (eqb w 0)) i && eqb i j) ≡ base_of n bloch (name_no w) i j
      go zero h = refl
      go (suc zero) h = refl
      go (suc (suc w)) h = absurd (omega arith)

  pub near_related : 2 ≤ w → w < 4
      → ((live_at bloch (role_of (eqb w 2)) i && live_at bloch (role_of (eqb w 2)) j) && (eqb i j || (follows n bloch i j || follows n bloch j i))) ≡ base_of n bloch (name_no w) i j
  unfolding base_of
  near_related l h = go (ℕ_discrete w 2)
    where
      go : Dec (w ≡ 2)
          → ((live_at bloch (role_of (eqb w 2)) i && live_at bloch (role_of (eqb w 2)) j) && (eqb i j || (follows n bloch i j || follows n bloch j i))) ≡ base_of n bloch (name_no w) i j
      go (yes e) = rw e
      go (no o) = let e : w ≡ 3 = omega arith in rw e

  pub up_related : w ≡ 4 → (live_at bloch across j && (eqb i j || follows n bloch i j)) ≡ base_of n bloch (name_no w) i j
  unfolding base_of
  up_related e = rw e

  pub down_related : w ≡ 5 → (live_at bloch across i && (eqb i j || follows n bloch j i)) ≡ base_of n bloch (name_no w) i j
  unfolding base_of
  down_related e = rw e

-- the words of a relation, as `fill_base` asks for them
pub base_words_lem : (n : List ℕ) (bloch : List Bool) (q : ℕ)
    → tabulate (base_word (get_or n (q / 6) 0) (get_or bloch (q / 6) false) (q % 6)) (get_or n (q / 6) 0) 0 ≡ base_words n bloch q
unfolding base_words
base_words_lem n bloch q = refl

-- the places of a word of level 0
bit_singles : (n : ℕ) (p : ℕ → Bool) (j : ℕ) → bit_at (gathered n p single) j ≡ (ltb j n && p j)
unfolding gathered
bit_singles zero p j = bit_none j ∙ rw (le-ltb j 0 (omega arith))
bit_singles (suc n) p j = bit_mix true (gathered n p single) (p n) (single n) j ∙ rw (bit_singles n p j, bit_unit n j) (go (ℕ_discrete j n) (dec_lt j n))
  where
    go : Dec (j ≡ n) → Dec (j < n) → ((ltb j n && p j) || (p n && eqb j n)) ≡ (ltb j (suc n) && p j)
    go (yes o) d = rw (o, le-ltb n n (omega arith), eq-eqb n n refl, lt-ltb n (suc n) (omega arith)) (and-true (p n))
    go (no o) (yes d) = rw (lt-ltb j n d, ne_eqb j n o, lt-ltb j (suc n) (omega arith), and-false (p n)) (or-false (p j))
    go (no o) (no d) = rw (le-ltb j n (omega arith), ne_eqb j n o, le-ltb j (suc n) (omega arith), and-false (p n))

pub bit_base : (n : ℕ) (bloch : Bool) (w i j : ℕ) → bit_at (base_word n bloch w i) j ≡ (ltb j n && base_of n bloch (name_no w) i j)
unfolding base_word
bit_base n bloch w i j = bit_singles n (base_of n bloch (name_no w) i) j

-- word i of relation q in the list
pub base_bit : (n : List ℕ) (bloch : List Bool) (xs : List ℕ) → ((d : ℕ) → d < 3 → get_or n d 0 ≤ 64) → length xs ≡ 1152 → (q i j : ℕ) → q < 18 → i < get_or n (q / 6) 0
    → table (relations_laid (base_words n bloch) 18 xs) (64 * q) i j
    ≡ (ltb j (get_or n (q / 6) 0) && base_of (get_or n (q / 6) 0) (get_or bloch (q / 6) false) (name_no (q % 6)) i j)
unfolding table base_words
base_bit n bloch xs small h q i j a b =
    let k = get_or n (q / 6) 0 in
    let f = base_word k (get_or bloch (q / 6) false) (q % 6) in
    ap (λ (w : ℕ). bit_at w j)
    (relation_at (base_words n bloch) 18 xs (λ p o. rw (length_tabulate (base_word (get_or n (p / 6) 0) (get_or bloch (p / 6) false) (p % 6)) (get_or n (p / 6) 0) 0) (small (p / 6) (omega arith)))
    (omega arith) q i a (rw (length_tabulate f k 0) b)
    ∙ tabulate_at_0 f k i 0 b)
    ∙ bit_base k (get_or bloch (q / 6) false) (q % 6) i j

-- so the list is level 0's
pub based_right : (cells : ℕ → ℕ → ℕ) (kinds : ℕ → Bool) (weights : ℕ → ℕ → Role → Rel) (n : List ℕ) (bloch : List Bool) (t : List ℕ)
    → ((d : ℕ) → d < 3 → get_or n d 0 ≡ cells 0 d) → ((d : ℕ) → d < 3 → get_or bloch d false ≡ kinds d) → ((d : ℕ) → d < 3 → get_or n d 0 ≤ 64)
    → t ≡ relations_laid (base_words n bloch) 18 no_relations → Right (ladder cells kinds weights) 0 t
unfolding rel
based_right cells kinds weights n bloch t hn hk small b =
    record {
      is = λ q i j h x y.
          let d : q / 6 < 3 = omega arith in
          let e : get_or n (q / 6) 0 ≡ cells 0 (q / 6) = hn (q / 6) d in
          ap (λ (u : List ℕ). table u (64 * q) i j) b
          ∙ base_bit n bloch no_relations small (length-replicate {A = ℕ} 1152 0) q i j h (rw e x)
          ∙ rw (e, hk (q / 6) d, lt-ltb j (cells 0 (q / 6)) y);
    }
