-- Where a row stands. Theorems for a caller: the part of his list at the places that a call answered is the row that the store hands back
-- (`weight_row_there`, `operator_row_there`), and the counts that `yonaduvi_needs` left are read back as the levels' own (`counts_own`).
-- Assumes nothing.
use Prim.Native.Nat.{ℕ, suc, ◌+◌, ◌-◌, ◌*◌, ◌/◌, ◌<◌, ◌≤◌, ◌^◌}
use native.Mathlib.Omega.{arith}
use native.Mathlib.Numerals.{add-one}
use mathlib.Core.Path.{◌≡◌, refl, sym, ap, ◌∙◌}
use mathlib.Core.Bool.{Bool, true, false, cond}
use mathlib.Core.List.{List, [], ◌∷◌}
use lib.ListN.{length, get_or, take, drop}
use lib.Ieee.{Float}
use Rattle.numbers.specs.Lists.{tabulate, laid}
use Rattle.numbers.proofs.ListLaws.{laid_at}
use Rattle.numbers.proofs.TabulateLaws.{is_tabulate, length_tabulate}
use Rattle.lattice.specs.Lattice.{FullLattice}
use Rattle.std.specs.Prelude.{Some, None}
use Rattle.store.specs.Handed.{Span, weight_terms, operator_row, numbers_handed, columns_handed, weight_row_of, operator_row_of, CellsOf}
use Rattle.store.specs.Needed.{cells_on, cells_of}
use Rattle.store.specs.declared.handed.Cells.{Cells}
use Rattle.store.proofs.HandedLaws.{weight_handed, operator_handed, turned_fits, forward_fits, operator_fits}
use Rattle.store.proofs.NeededLaws.{cells_own}
use Rattle.yonaduvi.specs.Exports.{cells_words, count_at, cells_from, spanned, Within}

-- ---- the places are numbers of the machine

module _ (c : Cells) (b : Bool) (ss : List ℕ) (room : ℕ) (ts : List ℕ) (troom L r : ℕ) {s : Span} (e : s ≡ weight_terms c b ss room ts troom L r) where
  pub weights_within : 2 * room < 2 ^ 64 → 2 * troom < 2 ^ 64 → Within 2 s
  weights_within h k = record { held = λ i j d. go b refl i j (sym e ∙ d) }
    where
      go : (a : Bool) → b ≡ a → (i j : ℕ) → weight_terms c b ss room ts troom L r ≡ Some (i, j) → (i ≤ j) × (2 * j < 2 ^ 64)
      go true f i j d = let w = turned_fits c b ss room ts troom L r f d in (w.0, omega (arith, w.1))
      go false f i j d = let w = forward_fits c b ss room ts troom L r f d in (w.0, omega (arith, w.1))

pub operator_within : (c : Cells) (ss : List ℕ) (room L r : ℕ) {s : Span} → s ≡ operator_row c ss room L r → room < 2 ^ 64 → Within 1 s
operator_within c ss room L r e h = record { held = λ i j d. let w = operator_fits c ss room L r (sym e ∙ d) in (w.0, omega (arith, w.1)) }

-- ---- a row where it was answered to be

-- the part of a list that two words name: the first place and the count
abbrev pub part_there : {A : Type 0} → List ℕ → List A → List A
part_there out xs = take (get_or out 1 0) (drop (get_or out 0 0) xs)

two_at_lem : (out : List ℕ) (a b : ℕ) → 2 ≤ length out → (get_or (laid out 0 (a ∷ (b ∷ []))) 0 0 ≡ a) × (get_or (laid out 0 (a ∷ (b ∷ []))) 1 0 ≡ b)
two_at_lem out a b h = (laid_at out 0 (a ∷ (b ∷ [])) 0 (omega arith) h, laid_at out 0 (a ∷ (b ∷ [])) 1 (omega arith) h)

module _ (out : List ℕ) (room : 2 ≤ length out) where
  numbers_there : (s : Span) (forward xs : List Float) → part_there (laid out 0 (spanned 2 s)) xs ≡ numbers_handed forward xs s
  numbers_there (Some (i, j)) forward xs =
      let w = two_at_lem out (2 * i) (2 * (j - i)) room in
      let e : 2 * (j - i) ≡ 2 * j - 2 * i = omega arith in
      λ k. take ((w.1 ∙ e) k) (drop (w.0 k) xs)
  numbers_there None forward xs = let w = two_at_lem out 0 0 room in λ k. take (w.1 k) (drop (w.0 k) xs)

  columns_there : (s : Span) (cs : List ℕ) → part_there (laid out 0 (spanned 1 s)) cs ≡ columns_handed cs s
  columns_there (Some (i, j)) cs =
      let w = two_at_lem out (1 * i) (1 * (j - i)) room in
      let e : 1 * (j - i) ≡ j - i = omega arith in
      let d : 1 * i ≡ i = omega arith in
      λ k. take ((w.1 ∙ e) k) (drop ((w.0 ∙ d) k) cs)
  columns_there None cs = let w = two_at_lem out 0 0 room in λ k. take (w.1 k) (drop (w.0 k) cs)

  -- `yonaduvi_weight_row`: of the turned values or of the forward ones
  pub weight_row_there : (c : Cells) (b : Bool) (ss : List ℕ) (xs : List Float) (ts : List ℕ) (ys : List Float) (L r : ℕ)
      → part_there (laid out 0 (spanned 2 (weight_terms c b ss (length xs / 2) ts (length ys / 2) L r))) (cond b ys xs) ≡ weight_row_of c b ss xs ts ys L r
  weight_row_there c b ss xs ts ys L r =
      numbers_there (weight_terms c b ss (length xs / 2) ts (length ys / 2) L r) xs (cond b ys xs) ∙ weight_handed c b ss xs ts ys L r refl

  -- `yonaduvi_operator_row`
  pub operator_row_there : (c : Cells) (ss cs : List ℕ) (L r : ℕ)
      → part_there (laid out 0 (spanned 1 (operator_row c ss (length cs) L r))) cs ≡ operator_row_of c ss cs L r
  operator_row_there c ss cs L r = columns_there (operator_row c ss (length cs) L r) cs ∙ operator_handed c ss cs L r refl

-- ---- the counts

-- a word of them, and all of them
abbrev pub word_at : ℕ → List ℕ → ℕ → ℕ
word_at levels cells k = get_or (levels ∷ cells) k 0

pub words_whole : (levels : ℕ) (cells : List ℕ) → length cells ≡ 36 → tabulate (word_at levels cells) 37 0 ≡ levels ∷ cells
words_whole levels cells long = sym (is_tabulate (word_at levels cells) 37 0 (levels ∷ cells) (ap suc long) (λ i b. refl))

-- what was laid is read back
pub counts_back : (c : Cells) (counts : List ℕ) → length c.cells ≡ 36 → 37 ≤ length counts → cells_from (laid counts 0 (cells_words c)) ≡ c
counts_back c counts long h =
    let ws = laid counts 0 (cells_words c) in
    let levels : get_or ws 0 0 ≡ c.levels = laid_at counts 0 (cells_words c) 0 (omega arith) (omega arith) in
    let cells : tabulate (count_at ws) 36 0 ≡ c.cells =
    sym
    (is_tabulate (count_at ws) 36 0 c.cells long
    (λ q b.
    let z : 0 + (q + 1) ≡ q + 1 = omega arith in
    ap (λ (k : ℕ). get_or (cells_words c) k 0) (sym (add-one q))
    ∙ sym (laid_at counts 0 (cells_words c) (q + 1) (omega arith) (omega arith))
    ∙ ap (λ (k : ℕ). get_or ws k 0) z))
    in
    λ i. record { levels = levels i; cells = cells i }

-- so are the levels' own, of a lattice with m transfers
pub counts_own : (l : FullLattice) (m : ℕ) (counts : List ℕ) → m < 12 → 37 ≤ length counts → CellsOf l m (cells_from (laid counts 0 (cells_words (cells_of l m))))
counts_own l m counts few h = rw (counts_back (cells_of l m) counts (length_tabulate (cells_on l m) 36 0) h) (cells_own l m few)
