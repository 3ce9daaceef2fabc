-- The words of a composition: their places, and that only the places below n count.
-- Assumes nothing.
use Prim.Native.Nat.{ℕ, ◌+◌, ◌<◌, ◌≤◌}
use mathlib.Core.Path.{◌≡◌, refl, ap, ◌∙◌}
use mathlib.Core.Bool.{Bool, ◌&&◌}
use mathlib.Core.List.{List}
use native.Mathlib.Omega.{arith}
use lib.ListN.{length, take, drop, length-take, length-drop}
use Rattle.std.proofs.lemmas.List.{get_or-take, get_or-drop}
use Rattle.numbers.specs.Lists.{entry_at}
use Rattle.operators.specs.Relation.{after, turned}
use Rattle.operators.specs.Bits.{bit_at, gathered}
use Rattle.operators.specs.Compose.{words_at, bits_of, composed, composed_word}
use Rattle.operators.proofs.RelationLaws.{some_below}
use Rattle.operators.proofs.WordLaws.{gathered_agree, bit_gathered}

-- the two gatherings
pub word_composed : {u v : ℕ} (n : ℕ) (f r g : ℕ → ℕ) (c : ℕ) → u ≡ gathered n (turned (bits_of f) c) r → v ≡ gathered n (bit_at u) g → v ≡ composed_word n f r g c
unfolding composed_word
word_composed n f r g c e h = rw (← e) h

-- they are the composition
pub bit_composed : (n : ℕ) (f r g : ℕ → ℕ) (c j : ℕ) → bit_at (composed_word n f r g c) j ≡ composed n (bits_of f) (bits_of r) (bits_of g) c j
unfolding composed_word composed after
bit_composed n f r g c j =
    bit_gathered n (bit_at (gathered n (turned (bits_of f) c) r)) g j
    ∙ some_below n _ _ (λ k h. ap (λ (b : Bool). b && bit_at (g k) j) (bit_gathered n (turned (bits_of f) c) r k))

-- words that agree below n
pub composed_same : (n : ℕ) {f f' r r' g g' : ℕ → ℕ} (c : ℕ) → ((k : ℕ) → k < n → f k ≡ f' k) → ((k : ℕ) → k < n → r k ≡ r' k)
    → ((k : ℕ) → k < n → g k ≡ g' k) → composed_word n f r g c ≡ composed_word n f' r' g' c
unfolding composed_word
composed_same n c e s h =
    let u = gathered_agree n (λ k b. ap (λ (w : ℕ). bit_at w c) (e k b)) s in
    gathered_agree n (λ k b. ap (λ (w : ℕ). bit_at w k) u) h

pub composed_agree : (n : ℕ) {f f' g g' : ℕ → ℕ} (r : ℕ → ℕ) (c : ℕ) → ((k : ℕ) → k < n → f k ≡ f' k) → ((k : ℕ) → k < n → g k ≡ g' k)
    → composed_word n f r g c ≡ composed_word n f' r g' c
composed_agree n r c e h = composed_same n c e (λ k b. refl) h

-- words cut out of lists
cut_entry : (xs : List ℕ) (i n a : ℕ) → a ≡ n → i + n ≤ length xs → (k : ℕ) → k < n → entry_at (take a (drop i xs)) k ≡ words_at xs i k
cut_entry xs i n a e h k b = get_or-take a (drop i xs) k 0 (omega arith) ∙ get_or-drop i xs k 0

pub composed_cut : (xs ys zs : List ℕ) (i j k n : ℕ) {u v w : ℕ} → u ≡ n → v ≡ n → w ≡ n
    → i + n ≤ length xs → j + n ≤ length ys → k + n ≤ length zs → (c : ℕ)
    → composed_word (length (take u (drop i xs))) (entry_at (take u (drop i xs))) (entry_at (take v (drop j ys))) (entry_at (take w (drop k zs))) c
    ≡ composed_word n (words_at xs i) (words_at ys j) (words_at zs k) c
composed_cut xs ys zs i j k n {u} {v} {w} eu ev ew hx hy hz c =
    let l : length (take u (drop i xs)) ≡ n = omega (arith, length-take u (drop i xs), length-drop i xs) in
    rw l (composed_same n c (cut_entry xs i n u eu hx) (cut_entry ys j n v ev hy) (cut_entry zs k n w ew hz))
