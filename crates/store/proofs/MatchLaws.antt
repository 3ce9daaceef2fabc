-- Values that stand in a list from a place on, and rows that do: refusal 11, part by part.
-- Assumes nothing.
use Prim.Native.Nat.{ℕ, zero, suc, ◌+◌, ◌≤◌, ◌<◌}
use mathlib.Core.Path.{◌≡◌, refl, sym, ap, ◌∙◌}
use mathlib.Core.Logic.{◌⊎◌, inl, inr}
use mathlib.Core.Bool.{Bool, true, false, ◌&&◌, false≢true, and_assoc}
use mathlib.Core.List.{List, ◌∷◌, [], ◌++◌}
use native.Mathlib.Omega.{arith}
use lib.Dec.{eqb}
use lib.ListN.{length, get_or, set}
use lib.Seq.{ext_get_or}
use lib.Pointwise.{pointwise}
use borrow.Author.Tests.{eq-eqb, eqb-true, eqb-false}
use Rattle.std.proofs.Common.{take, drop}
use Rattle.std.proofs.Math.Seq.{drop-cons}
use Rattle.std.proofs.lemmas.Bool.{and_from, cases_Bool, false_from_ne_true, and_parts}
use Rattle.numbers.specs.declared.terms.Part.{Part}
use Rattle.numbers.specs.Lists.{rows, Laid, start_of, starts_of, entry_at, places_in}
use Rattle.numbers.proofs.Equations.{rows_zero, rows_suc}
use Rattle.numbers.proofs.LoopLaws.{start_zero, start_suc}
use Rattle.numbers.proofs.ListLaws.{rows_agree, start_agree, starts_agree, laid_same, places_laid}
use Rattle.numbers.proofs.PartLaws.{cols_long, starts_at, starts_long}
use Rattle.numbers.proofs.StoredLaws.{start_room, start_at}
use Rattle.numbers.proofs.TabulateLaws.{length_tabulate, tabulate_at}
use Rattle.store.specs.Calls.{matches}
use Rattle.store.specs.Compare.{rows_match, PartRoom}

-- ---- values in a list

-- what stands there, place by place
pub matches_all : (cs : List ℕ) (k : ℕ) (vs : List ℕ) → ((j i : ℕ) → i ≡ k + j → j < length vs → get_or cs i 0 ≡ get_or vs j 0) → matches cs k vs ≡ true
unfolding matches
matches_all cs k [] h = refl
matches_all cs k (v ∷ vs) h =
    rw (eq-eqb (get_or cs k 0) v (h 0 k (omega arith) (omega arith)), matches_all cs (suc k) vs (λ j i e b. h (suc j) i (omega arith) (omega arith))) refl

-- and back
pub matches_told : (cs : List ℕ) (k : ℕ) (vs : List ℕ) → matches cs k vs ≡ true → (j i : ℕ) → i ≡ k + j → j < length vs → get_or cs i 0 ≡ get_or vs j 0
unfolding matches
matches_told cs k [] h j i e b = absurd (omega arith)
matches_told cs k (v ∷ vs) h zero i e b =
    let z : i ≡ k = omega arith in
    rw z (eqb-true (get_or cs k 0) v (and_parts (eqb (get_or cs k 0) v) (matches cs (suc k) vs) h).0)
matches_told cs k (v ∷ vs) h (suc j) i e b = matches_told cs (suc k) vs (and_parts (eqb (get_or cs k 0) v) (matches cs (suc k) vs) h).1 j i (omega arith) (omega arith)

-- as a part of the list
pub matches_part : (cs : List ℕ) (k : ℕ) (vs : List ℕ) → k + length vs ≤ length cs → matches cs k vs ≡ pointwise eqb (take (length vs) (drop k cs)) vs
unfolding matches
matches_part cs k [] h = refl
matches_part cs k (v ∷ vs) h =
    let b : k < length cs = omega arith in
    let d = drop-cons cs k 0 b in
    rw (d, matches_part cs (suc k) vs (omega arith)) refl

-- it is read back
pub matches_places : (cs : List ℕ) (k : ℕ) (vs : List ℕ) → matches cs k vs ≡ true → places_in cs k (length vs) ≡ vs
matches_places cs k vs t =
    ext_get_or 0 (places_in cs k (length vs)) vs (length_tabulate (entry_at cs) (length vs) k)
    (λ i b.
    let h : i < length vs = omega (arith, length_tabulate (entry_at cs) (length vs) k) in
    tabulate_at (entry_at cs) (length vs) k i 0 h ∙ matches_told cs k vs t i (k + i) refl h)

-- one list behind another
pub matches_append : (cs : List ℕ) (k : ℕ) (xs ys : List ℕ) → matches cs k (xs ++ ys) ≡ (matches cs k xs && matches cs (k + length xs) ys)
unfolding matches
matches_append cs k [] ys = let z : k + 0 ≡ k = omega arith in rw z refl
matches_append cs k (x ∷ xs) ys =
    let z : k + suc (length xs) ≡ suc k + length xs = omega arith in
    rw (z, matches_append cs (suc k) xs ys) (sym (and_assoc (eqb (get_or cs k 0) x) (matches cs (suc k) xs) (matches cs (suc k + length xs) ys)))

-- ---- rows, one behind another

-- the first r of n rows stand there, and k columns belong to them
pub record Going (cols : ℕ → List ℕ) (n : ℕ) (o : Part) (ss cs : List ℕ) (k r : ℕ) : Type 0 where
  pub high : r ≤ n
  pub starts : (i : ℕ) → i < r → get_or ss (o.s + i) 0 ≡ start_of cols i
  pub columns : matches cs o.k (rows cols r) ≡ true
  pub place : k ≡ start_of cols r

-- row r's start and its columns
abbrev row_match : (ℕ → List ℕ) → Part → List ℕ → List ℕ → ℕ → ℕ → Bool
row_match cols o ss cs k r = eqb (get_or ss (o.s + r) 0) k && matches cs (o.k + k) (cols r)

-- the start of a row among starts that stand there
pub start_told : (cols : ℕ → List ℕ) (n s : ℕ) (ss : List ℕ) → matches ss s (starts_of cols n) ≡ true → (r : ℕ) → r ≤ n → get_or ss (s + r) 0 ≡ start_of cols r
start_told cols n s ss t r h = matches_told ss s (starts_of cols n) t r (s + r) refl (omega (arith, starts_long cols n)) ∙ starts_at cols n r h

-- the columns of a row among those that stand there
pub row_told : (cols : ℕ → List ℕ) (n k : ℕ) (cs : List ℕ) → matches cs k (rows cols n) ≡ true → (r : ℕ) → r < n → matches cs (k + start_of cols r) (cols r) ≡ true
row_told cols n k cs t r h =
    matches_all cs (k + start_of cols r) (cols r)
    (λ j i e b.
    matches_told cs k (rows cols n) t (start_of cols r + j) i (omega arith) (omega (arith, cols_long cols n, start_room cols n r h)) ∙ start_at cols n r j 0 h b)

module _ {cols : ℕ → List ℕ} {n : ℕ} {o : Part} {ss cs : List ℕ} where
  -- the loop over them
  pub going_start : Going cols n o ss cs 0 0
  unfolding matches
  going_start = record { high = omega arith; starts = λ i h. absurd (omega arith); columns = rw rows_zero refl; place = sym (start_zero cols) }

  pub going_turn : {k r v : ℕ} → Going cols n o ss cs k r → r < n → v ≡ length (cols r) → row_match cols o ss cs k r ≡ true → Going cols n o ss cs (k + v) (r + 1)
  going_turn {k} {r} {v} u h e t =
      let z : r + 1 ≡ suc r = omega arith in
      let w = and_parts (eqb (get_or ss (o.s + r) 0) k) (matches cs (o.k + k) (cols r)) t in
      let p : o.k + length (rows cols r) ≡ o.k + k = omega (arith, cols_long cols r, u.place) in
      rw z (record {
        high = omega arith;
        starts = λ i b. go i (cases_Bool (eqb i r)) b (eqb-true (get_or ss (o.s + r) 0) k w.0);
        columns = rw (rows_suc, matches_append, p) (and_from _ _ u.columns w.1);
        place = omega (arith, start_suc cols r, u.place);
      })
    where
      go : (i : ℕ) → (eqb i r ≡ true) ⊎ (eqb i r ≡ false) → i < suc r → get_or ss (o.s + r) 0 ≡ k → get_or ss (o.s + i) 0 ≡ start_of cols i
      go i (inl z) b q = let w : i ≡ r = eqb-true i r z in rw w (q ∙ u.place)
      go i (inr z) b q = u.starts i (omega (arith, eqb-false i r z))

  going_room : {k r v : ℕ} → PartRoom cols n o ss cs → Going cols n o ss cs k r → r < n → v ≡ length (cols r) → (o.s + r < length ss) × (o.k + k + v ≤ length cs)
  going_room {k} {r} room u h e = (omega (arith, room.starts_room), omega (arith, room.columns_room, start_room cols n r h, u.place))

  going_bad : {k r : ℕ} {b : Bool} → Going cols n o ss cs k r → r < n → row_match cols o ss cs k r ≡ false → b ≡ false → b ≡ rows_match cols n o ss cs
  going_bad {k} {r} u h f e =
      e ∙ sym (false_from_ne_true (rows_match cols n o ss cs) (λ t.
      let w = and_parts (matches ss o.s (starts_of cols n)) (matches cs o.k (rows cols n)) t in
      let a : get_or ss (o.s + r) 0 ≡ k = start_told cols n o.s ss w.0 r (omega arith) ∙ sym u.place in
      false≢true (sym f ∙ and_from _ _ (eq-eqb (get_or ss (o.s + r) 0) k a) (rw u.place (row_told cols n o.k cs w.1 r h)))))

  pub going_end : {k r : ℕ} {b : Bool} → Going cols n o ss cs k r → n ≤ r → b ≡ eqb (get_or ss (o.s + n) 0) k → b ≡ rows_match cols n o ss cs
  going_end {k} {r} u h e =
      let z : r ≡ n = omega (arith, u.high) in
      e ∙ go (cases_Bool (eqb (get_or ss (o.s + n) 0) k)) (rw z at u.place) (rw z at u.columns)
    where
      there : (j : ℕ) → j ≤ n → get_or ss (o.s + n) 0 ≡ start_of cols n → get_or ss (o.s + j) 0 ≡ start_of cols j
      there j m l = at j m (cases_Bool (eqb j n)) l
        where
          at : (j : ℕ) → j ≤ n → (eqb j n ≡ true) ⊎ (eqb j n ≡ false) → get_or ss (o.s + n) 0 ≡ start_of cols n → get_or ss (o.s + j) 0 ≡ start_of cols j
          at j m (inl q) l = let w : j ≡ n = eqb-true j n q in rw w l
          at j m (inr q) l = u.starts j (omega (arith, eqb-false j n q))

      go : (eqb (get_or ss (o.s + n) 0) k ≡ true) ⊎ (eqb (get_or ss (o.s + n) 0) k ≡ false) → k ≡ start_of cols n → matches cs o.k (rows cols n) ≡ true
          → eqb (get_or ss (o.s + n) 0) k ≡ rows_match cols n o ss cs
      go (inl t) p c =
          t ∙ sym (and_from _ _
          (matches_all ss o.s (starts_of cols n)
          (λ j i q b. let m : j ≤ n = omega (arith, starts_long cols n) in rw q (there j m (eqb-true (get_or ss (o.s + n) 0) k t ∙ p) ∙ sym (starts_at cols n j m))))
          c)
      go (inr f) p c =
          f ∙ sym (false_from_ne_true (rows_match cols n o ss cs) (λ t.
          let w = and_parts (matches ss o.s (starts_of cols n)) (matches cs o.k (rows cols n)) t in
          false≢true (sym f ∙ eq-eqb (get_or ss (o.s + n) 0) k (start_told cols n o.s ss w.0 n (omega arith) ∙ sym p))))

-- a row laid at the front of a list with room for it is read back
module _ {xs ys vs : List ℕ} {v : ℕ} (w : Laid set xs 0 vs ys v) (few : length vs ≤ length xs) where
  read_count : v ≡ length vs
  read_count = omega (arith, w.next)

  read_room : v ≤ length ys
  read_room = omega (arith, w.next, laid_same w)

  read_back : places_in ys 0 v ≡ vs
  read_back = (λ j. places_in (w.list j) 0 (read_count j)) ∙ places_laid xs 0 vs (omega arith)

-- the next row, laid so
module _ {cols : ℕ → List ℕ} {n : ℕ} {o : Part} {ss cs : List ℕ} {k r : ℕ} (u : Going cols n o ss cs k r) (h : r < n) {xs ys : List ℕ} {v : ℕ}
    (w : Laid set xs 0 (cols r) ys v) (few : length (cols r) ≤ length xs) where
  pub laid_ask : PartRoom cols n o ss cs → (o.s + r < length ss) × ((o.k + k + v ≤ length cs) × (v ≤ length ys))
  laid_ask room = let t = going_room room u h (read_count w few) in (t.0, (t.1, read_room w few))

  laid_told : {b : Bool} → b ≡ (eqb (get_or ss (o.s + r) 0) k && matches cs (o.k + k) (places_in ys 0 v)) → b ≡ (eqb (get_or ss (o.s + r) 0) k && matches cs (o.k + k) (cols r))
  laid_told e = e ∙ ap (λ (vs : List ℕ). eqb (get_or ss (o.s + r) 0) k && matches cs (o.k + k) vs) (read_back w few)

  pub laid_turn : {b : Bool} → b ≡ (eqb (get_or ss (o.s + r) 0) k && matches cs (o.k + k) (places_in ys 0 v)) → b ≡ true → Going cols n o ss cs (k + v) (r + 1)
  laid_turn e t = going_turn u h (read_count w few) (sym (laid_told e) ∙ t)

  pub laid_bad : {b d : Bool} → b ≡ (eqb (get_or ss (o.s + r) 0) k && matches cs (o.k + k) (places_in ys 0 v)) → b ≡ false → d ≡ false → d ≡ rows_match cols n o ss cs
  laid_bad e t = going_bad u h (sym (laid_told e) ∙ t)

-- rows that agree
pub rows_match_agree : (f g : ℕ → List ℕ) (n : ℕ) → ((r : ℕ) → r < n → f r ≡ g r) → (o : Part) (ss cs : List ℕ) → rows_match f n o ss cs ≡ rows_match g n o ss cs
rows_match_agree f g n h o ss cs =
    let a = starts_agree f g n (start_agree f g n h) in
    let b = rows_agree f g n h in
    λ i. matches ss o.s (a i) && matches cs o.k (b i)

-- the same of the room
pub room_agree : (f g : ℕ → List ℕ) (n : ℕ) → ((r : ℕ) → r < n → f r ≡ g r) → {o : Part} {ss cs : List ℕ} → PartRoom f n o ss cs → PartRoom g n o ss cs
room_agree f g n h u = record { starts_room = u.starts_room; columns_room = omega (arith, u.columns_room, start_agree f g n h n (omega arith)) }
