-- Parts of lists, by place.
-- Assumes nothing.
use Rattle.std.proofs.Common.{◌≡◌, ℕ, suc, ◌+◌, ◌-◌, ◌<◌, ◌≤◌, Bool, List, [], ◌∷◌, length, get_or, take, drop, refl, sym, ap, ◌∙◌, eqb, arith}
use Rattle.std.proofs.Math.Seq.{drop-cons}
use Rattle.std.proofs.lemmas.List.{get_or-take, get_or-drop, length-take, length-take-le, length-drop}
use mathlib.Core.Bool.{false≢true}
use lib.Pointwise.{pointwise, bytes_decides}
use lib.Seq.{ext_get_or}
use Rattle.numbers.specs.Lists.{entry_at, places_in}
use Rattle.numbers.proofs.TabulateLaws.{length_tabulate, tabulate_at_0}
use Rattle.store.specs.Calls.{matches}
use Rattle.store.specs.Compare.{BeginsTo, Begins}
use Rattle.store.proofs.MatchLaws.{matches_part}

module _ (cs : List ℕ) (k n : ℕ) where
  -- place i of the n from place k on
  pub part_at : (i : ℕ) → i < n → get_or (take ((k + n) - k) (drop k cs)) i 0 ≡ get_or cs (k + i) 0
  part_at i h = let b : i < (k + n) - k = omega arith in get_or-take ((k + n) - k) (drop k cs) i 0 b ∙ get_or-drop k cs i 0

  pub part_long : k + n ≤ length cs → length (take ((k + n) - k) (drop k cs)) ≡ n
  part_long h = omega (arith, length-take ((k + n) - k) (drop k cs), length-drop k cs)

-- the first n of a list
first_places : (row : List ℕ) (n : ℕ) → n ≤ length row → places_in row 0 n ≡ take n row
first_places row n h =
    ext_get_or 0 (places_in row 0 n) (take n row) (length_tabulate (entry_at row) n 0 ∙ sym (length-take-le n row h))
    (λ i b. let c : i < n = omega (arith, length_tabulate (entry_at row) n 0) in tabulate_at_0 (entry_at row) n i 0 c ∙ sym (get_or-take n row i 0 c))

pub same_part : (cs : List ℕ) (k : ℕ) (row : List ℕ) (n : ℕ) → k + n ≤ length cs → n ≤ length row
    → pointwise eqb (take ((k + n) - k) (drop k cs)) (take n row) ≡ matches cs k (places_in row 0 n)
same_part cs k row n h g =
    let l = length-take-le n row g in
    let z : (k + n) - k ≡ n = omega arith in
    let m : matches cs k (take n row) ≡ pointwise eqb (take n (drop k cs)) (take n row) = rw l at (matches_part cs k (take n row) (omega (arith, l))) in
    rw (z, first_places row n g) (sym m)

-- starts behind one another, as a part of their list
module _ (next tss : List ℕ) (ts m : ℕ) (room : m ≤ length next) (there : ts + m < length tss) where
  starts : List ℕ
  starts = take ((ts + m + 1) - (ts + 1)) (drop (ts + 1) tss)

  start_is : (i : ℕ) → i < m → get_or starts i 0 ≡ get_or tss (ts + i + 1) 0
  unfolding starts
  start_is i h =
      let b : i < (ts + m + 1) - (ts + 1) = omega arith in
      let e : ts + 1 + i ≡ ts + i + 1 = omega arith in
      get_or-take ((ts + m + 1) - (ts + 1)) (drop (ts + 1) tss) i 0 b ∙ get_or-drop (ts + 1) tss i 0 ∙ ap (λ (j : ℕ). get_or tss j 0) e

  starts_long : length starts ≡ m
  unfolding starts
  starts_long = omega (arith, length-take ((ts + m + 1) - (ts + 1)) (drop (ts + 1) tss), length-drop (ts + 1) tss)

  equal_starts : BeginsTo next tss ts m → starts ≡ take m next
  equal_starts u =
      ext_get_or 0 starts (take m next) (starts_long ∙ sym (length-take-le m next room))
      (λ i b. let c : i < m = omega (arith, starts_long) in start_is i c ∙ u.begins i c ∙ sym (get_or-take m next i 0 c))

  pub begins_part : {b : Bool} → get_or tss ts 0 ≡ 0 → b ≡ pointwise eqb (take ((ts + m + 1) - (ts + 1)) (drop (ts + 1) tss)) (take m next) → Begins next tss ts m b
  unfolding starts
  begins_part {b} z e =
      record {
        good = λ t. record {
          first = z;
          begins = λ i h.
              let q : starts ≡ take m next = (bytes_decides starts (take m next)).0 (sym e ∙ t) in
              sym (start_is i h) ∙ ap (λ (xs : List ℕ). get_or xs i 0) q ∙ get_or-take m next i 0 h;
        };
        bad = λ f u. false≢true (sym f ∙ e ∙ (bytes_decides starts (take m next)).1 (equal_starts u));
      }
