-- A file however it is cut into pieces: the reading goes on where it stopped; and behind a refusal nothing changes any more.
-- Assumes nothing.
use Prim.Native.Nat.{ℕ, ◌+◌, ◌<◌, ◌≤◌}
use mathlib.Core.Path.{◌≡◌, refl, sym, ap, ◌∙◌}
use mathlib.Core.List.{List, [], ◌∷◌, ◌++◌}
use native.Mathlib.Numerals.{add-one}
use lib.ListN.{length, get_or, drop, drop_of_length-le}
use lib.Seq.{drop-cons}
use Rattle.std.specs.Prelude.{None, Err}
use Rattle.programs.specs.Reading.{Machine, stepped, whole, fed, fed_all}
use Rattle.programs.specs.declared.reader.Reader.{Reader}
use Rattle.store.specs.declared.told.Told.{Told}

-- ---- pieces

pub fed_append : (limit : ℕ) (m : Machine) (xs ys : List ℕ) → fed_all limit m (xs ++ ys) ≡ fed_all limit (fed_all limit m xs) ys
unfolding fed_all
fed_append limit m [] ys = refl
fed_append limit m (x ∷ xs) ys = fed_append limit (fed limit m x) xs ys

-- the file that the pieces make, one behind another, and the reading piece by piece
unfoldable pub whole_file : List (List ℕ) → List ℕ
whole_file [] = []
whole_file (p ∷ ps) = p ++ whole_file ps

unfoldable pub fed_pieces : ℕ → Machine → List (List ℕ) → Machine
fed_pieces limit m [] = m
fed_pieces limit m (p ∷ ps) = fed_pieces limit (fed_all limit m p) ps

pub fed_pieces_lem : (limit : ℕ) (m : Machine) (ps : List (List ℕ)) → fed_pieces limit m ps ≡ fed_all limit m (whole_file ps)
unfolding fed_pieces whole_file fed_all
fed_pieces_lem limit m [] = refl
fed_pieces_lem limit m (p ∷ ps) = fed_pieces_lem limit (fed_all limit m p) ps ∙ sym (fed_append limit m p (whole_file ps))

-- ---- behind a refusal

module _ (r : Reader) {t : Told} (e : r.answer ≡ Err t) where
  step_over : (b : ℕ) → stepped r b ≡ r
  unfolding stepped
  step_over b = rw e refl

  whole_ended : whole r ≡ None
  unfolding whole
  whole_ended = rw e refl

still : (limit : ℕ) (m : Machine) (b : ℕ) {t : Told} → m.reader.answer ≡ Err t → fed limit m b ≡ m
unfolding fed
still limit m b e = rw (step_over m.reader e b, whole_ended m.reader e) refl

pub fed_refused : (limit : ℕ) (m : Machine) (bs : List ℕ) {t : Told} → m.reader.answer ≡ Err t → fed_all limit m bs ≡ m
unfolding fed_all
fed_refused limit m [] e = refl
fed_refused limit m (b ∷ bs) e = ap (λ (k : Machine). fed_all limit k bs) (still limit m b e) ∙ fed_refused limit m bs e

-- ---- a piece byte by byte: m behind i bytes, from the machine z at its start

fed_one : (limit : ℕ) (m : Machine) (bs : List ℕ) (i : ℕ) → i < length bs → fed_all limit m (drop i bs) ≡ fed_all limit (fed limit m (get_or bs i 0)) (drop (i + 1) bs)
unfolding fed_all
fed_one limit m bs i h = rw (drop-cons bs i 0 h, add-one)

module _ (limit : ℕ) (z m : Machine) (bs : List ℕ) (i : ℕ) (inv : fed_all limit m (drop i bs) ≡ fed_all limit z bs) where
  pub fed_turn : {n : Machine} → i < length bs → n ≡ fed limit m (get_or bs i 0) → fed_all limit n (drop (i + 1) bs) ≡ fed_all limit z bs
  fed_turn h e = ap (λ (k : Machine). fed_all limit k (drop (i + 1) bs)) e ∙ (sym (fed_one limit m bs i h) ∙ inv)

  pub fed_end : length bs ≤ i → m ≡ fed_all limit z bs
  unfolding fed_all
  fed_end h = sym (rw (drop_of_length-le bs h) refl) ∙ inv
