-- Lists that are laid over others, rows one behind another and their starts, tabulated lists, and loops that lay a row at each turn.
-- Assumes nothing.
use Prim.Native.Nat.{ℕ, zero, suc, ◌+◌, ◌-◌, ◌*◌, ◌/◌, ◌<◌, ◌≤◌}
use mathlib.Core.Path.{◌≡◌, refl, sym, ap, ◌∙◌}
use mathlib.Core.Logic.{◌≢◌}
use mathlib.Core.Bool.{◌&&◌}
use mathlib.Core.List.{List, [], ◌∷◌, ◌++◌}
use native.Mathlib.Omega.{arith}
use native.Mathlib.Decide.{ℕ_discrete, dec_lt}
use native.Mathlib.Numerals.{add-one}
use native.Mathlib.Nat.{mul-suc}
use lib.ListN.{length, get_or, set, length-set, length-append, get_or-append}
use lib.Seq.{get_or-set_same, get_or-set_other, get_or-append-add}
use lib.Ieee.{Float}
use Rattle.std.specs.List.{list_all, range_with_len}
use Rattle.numbers.specs.declared.C64.{C64}
use Rattle.numbers.specs.Complex.{finite}
use Rattle.numbers.specs.Places.{places, number_at, set_number}
use Rattle.numbers.proofs.Laws.{length_set_number, number_same, number_other}
use Rattle.numbers.specs.Lists.{Rises, tabulate, rows, laid_by, laid, laid_numbers, Laid, all_finite, start_of, starts_of, entry_at, places_in}
use Rattle.numbers.proofs.TabulateLaws.{length_tabulate, tabulate_at_0, tabulate_agree}

-- ---- values laid over a list: none, one, one list of them behind another

-- the second list begins at j, behind the first
pub laid_behind_laid : {L A : Type 0} (put : L → ℕ → A → L) (xs : L) (k : ℕ) (vs ws : List A) (j : ℕ) → j ≡ k + length vs
    → laid_by put xs k (vs ++ ws) ≡ laid_by put (laid_by put xs k vs) j ws
unfolding laid_by
laid_behind_laid put xs k [] ws j e = let d : k ≡ j = omega arith in ap (λ (i : ℕ). laid_by put xs i ws) d
laid_behind_laid put xs k (v ∷ vs) ws j e = laid_behind_laid put (put xs k v) (suc k) vs ws j (omega arith)

module _ {L A : Type 0} {put : L → ℕ → A → L} where
  pub laid_none : {xs : L} {k : ℕ} → Laid put xs k [] xs k
  unfolding laid_by
  laid_none = record { list = refl; next = omega arith }

  pub laid_one : {xs ys : L} {k r : ℕ} {v : A} → ys ≡ put xs k v → r ≡ k + 1 → Laid put xs k (v ∷ []) ys r
  unfolding laid_by
  laid_one p e = record { list = p; next = e }

  pub laid_append : {xs ys zs : L} {k r s : ℕ} {vs ws : List A}
      → Laid put xs k vs ys r → Laid put ys r ws zs s → Laid put xs k (vs ++ ws) zs s
  laid_append {xs} {ys} {zs} {k} {r} {s} {vs} {ws} p q =
      record {
        list = q.list ∙ ap (λ (l : L). laid_by put l r ws) p.list ∙ sym (laid_behind_laid put xs k vs ws r p.next);
        next = omega (arith, length-append vs ws);
      }

-- what a value laid changes: nothing of what m tells of the list
pub laid_keeps : {L A B : Type 0} (put : L → ℕ → A → L) (m : L → B) → ((xs : L) (k : ℕ) (v : A) → m (put xs k v) ≡ m xs)
    → (xs : L) (k : ℕ) (vs : List A) → m (laid_by put xs k vs) ≡ m xs
unfolding laid_by
laid_keeps put m h xs k [] = refl
laid_keeps put m h xs k (v ∷ vs) = laid_keeps put m h (put xs k v) (suc k) vs ∙ h xs k v

-- a list of places where one value is put and read: `at` reads, and there are as many places as `room` says
pub record Puts {L A : Type 0} (put : L → ℕ → A → L) (at : L → ℕ → A) (room : L → ℕ) : Type 0 where
  pub keeps : (xs : L) (k : ℕ) (v : A) → room (put xs k v) ≡ room xs
  pub same : (xs : L) (k : ℕ) (v : A) → k < room xs → at (put xs k v) k ≡ v
  pub other : (xs : L) (k j : ℕ) (v : A) → j ≢ k → at (put xs k v) j ≡ at xs j

-- what is read before, behind and inside of what was laid, and all of it
module _ {L A : Type 0} {put : L → ℕ → A → L} {at : L → ℕ → A} {room : L → ℕ} (p : Puts put at room) where
  pub puts_before : (xs : L) (k : ℕ) (vs : List A) (j : ℕ) → j < k → at (laid_by put xs k vs) j ≡ at xs j
  unfolding laid_by
  puts_before xs k [] j h = refl
  puts_before xs k (v ∷ vs) j h = puts_before (put xs k v) (suc k) vs j (omega arith) ∙ p.other xs k j v (omega arith)

  pub puts_behind : (xs : L) (k : ℕ) (vs : List A) (j : ℕ) → k + length vs ≤ j → at (laid_by put xs k vs) j ≡ at xs j
  unfolding laid_by
  puts_behind xs k [] j h = refl
  puts_behind xs k (v ∷ vs) j h = puts_behind (put xs k v) (suc k) vs j (omega arith) ∙ p.other xs k j v (omega arith)

  -- the first of them
  puts_first : (xs : L) (k : ℕ) (v : A) (vs : List A) → k < room xs → at (laid_by put (put xs k v) (suc k) vs) k ≡ v
  puts_first xs k v vs r = puts_before (put xs k v) (suc k) vs k (omega arith) ∙ p.same xs k v r

  puts_inside : (xs : L) (k : ℕ) (vs : List A) (j i : ℕ) (d : A) → i ≡ k + j → j < length vs → k + length vs ≤ room xs → at (laid_by put xs k vs) i ≡ get_or vs j d
  unfolding laid_by
  puts_inside xs k [] j i d e h r = absurd (omega arith)
  puts_inside xs k (v ∷ vs) zero i d e h r = let o : i ≡ k = omega arith in rw o (puts_first xs k v vs (omega arith))
  puts_inside xs k (v ∷ vs) (suc j) i d e h r = puts_inside (put xs k v) (suc k) vs j i d (omega arith) (omega arith) (omega (arith, p.keeps xs k v))

  pub puts_at : (xs : L) (k : ℕ) (vs : List A) (j : ℕ) (d : A) → j < length vs → k + length vs ≤ room xs → at (laid_by put xs k vs) (k + j) ≡ get_or vs j d
  puts_at xs k vs j d h r = puts_inside xs k vs j (k + j) d refl h r

  pub puts_read : (xs : L) (k : ℕ) (vs : List A) → k + length vs ≤ room xs → tabulate (at (laid_by put xs k vs)) (length vs) k ≡ vs
  unfolding tabulate laid_by
  puts_read xs k [] h = refl
  puts_read xs k (v ∷ vs) h =
      let here : at (laid_by put (put xs k v) (suc k) vs) k ≡ v = puts_first xs k v vs (omega arith) in
      let rest : tabulate (at (laid_by put (put xs k v) (suc k) vs)) (length vs) (suc k) ≡ vs = puts_read (put xs k v) (suc k) vs (omega (arith, p.keeps xs k v)) in
      λ i. here i ∷ rest i

-- ---- whole numbers: the length, and what is read

set_puts : Puts set entry_at length
set_puts = record { keeps = length-set; same = λ xs k v. get_or-set_same xs k v 0; other = λ xs k j v. get_or-set_other xs k j v 0 }

pub laid_length : (xs : List ℕ) (k : ℕ) (vs : List ℕ) → length (laid xs k vs) ≡ length xs
laid_length = laid_keeps set length length-set

pub laid_before : (xs : List ℕ) (k : ℕ) (vs : List ℕ) (j : ℕ) → j < k → get_or (laid xs k vs) j 0 ≡ get_or xs j 0
laid_before = puts_before set_puts

pub laid_behind : (xs : List ℕ) (k : ℕ) (vs : List ℕ) (j : ℕ) → k + length vs ≤ j → get_or (laid xs k vs) j 0 ≡ get_or xs j 0
laid_behind = puts_behind set_puts

pub laid_at : (xs : List ℕ) (k : ℕ) (vs : List ℕ) (j : ℕ) → j < length vs → k + length vs ≤ length xs → get_or (laid xs k vs) (k + j) 0 ≡ get_or vs j 0
laid_at xs k vs j = puts_at set_puts xs k vs j 0

-- what was laid into a list with room is read back
pub places_laid : (xs : List ℕ) (k : ℕ) (vs : List ℕ) → k + length vs ≤ length xs → places_in (laid xs k vs) k (length vs) ≡ vs
places_laid = puts_read set_puts

-- ---- numbers: the same

number_puts : Puts set_number number_at places
unfolding places
number_puts = record { keeps = λ xs k v. ap (λ (n : ℕ). n / 2) (length_set_number xs k v); same = number_same; other = number_other }

pub laid_numbers_length : (xs : List Float) (k : ℕ) (vs : List C64) → length (laid_numbers xs k vs) ≡ length xs
laid_numbers_length = laid_keeps set_number length length_set_number

pub laid_numbers_before : (xs : List Float) (k : ℕ) (vs : List C64) (j : ℕ) → j < k → number_at (laid_numbers xs k vs) j ≡ number_at xs j
laid_numbers_before = puts_before number_puts

pub laid_numbers_behind : (xs : List Float) (k : ℕ) (vs : List C64) (j : ℕ) → k + length vs ≤ j → number_at (laid_numbers xs k vs) j ≡ number_at xs j
laid_numbers_behind = puts_behind number_puts

pub laid_numbers_at : (xs : List Float) (k : ℕ) (vs : List C64) (j : ℕ) (d : C64) → j < length vs → 2 * (k + length vs) ≤ length xs
    → number_at (laid_numbers xs k vs) (k + j) ≡ get_or vs j d
unfolding places
laid_numbers_at xs k vs j d h r = puts_at number_puts xs k vs j d h (omega arith)

-- what was laid into a list with room is read back
pub read_back : (xs : List Float) (k : ℕ) (vs : List C64) → 2 * (k + length vs) ≤ length xs → tabulate (number_at (laid_numbers xs k vs)) (length vs) k ≡ vs
unfolding places
read_back xs k vs h = puts_read number_puts xs k vs (omega arith)

-- ---- the lists keep their lengths

pub laid_same : {xs ys vs : List ℕ} {k r : ℕ} → Laid set xs k vs ys r → length ys ≡ length xs
laid_same {xs} {ys} {vs} {k} {r} p = ap length p.list ∙ laid_length xs k vs

pub laid_numbers_same : {xs ys : List Float} {vs : List C64} {k r : ℕ} → Laid set_number xs k vs ys r → length ys ≡ length xs
laid_numbers_same {xs} {ys} {vs} {k} {r} p = ap length p.list ∙ laid_numbers_length xs k vs

-- ---- rows one behind another

-- what f gives for element m
abbrev pub through : {E A : Type 0} → (E → List A) → (ℕ → E) → ℕ → List A
through f el m = f (el m)

module _ {A : Type 0} where
  pub rows_agree : (f g : ℕ → List A) (n : ℕ) → ((r : ℕ) → r < n → f r ≡ g r) → rows f n ≡ rows g n
  unfolding rows
  rows_agree f g zero h = refl
  rows_agree f g (suc n) h =
      let p : rows f n ≡ rows g n = rows_agree f g n (λ r b. h r (omega arith)) in
      let q : f n ≡ g n = h n (omega arith) in
      λ i. p i ++ q i

  pub rows_length : (f : ℕ → List A) (n : ℕ) → length (rows f (suc n)) ≡ length (rows f n) + length (f n)
  unfolding rows
  rows_length f n = length-append (rows f n) (f n)

  -- row r ends within the rows, and begins where those before it end
  pub rows_room : (f : ℕ → List A) (n r : ℕ) → r < n → length (rows f r) + length (f r) ≤ length (rows f n)
  rows_room f zero r h = absurd (omega arith)
  rows_room f (suc n) r h = go (ℕ_discrete r n) (rows_room f n r)
    where
      go : Dec (r ≡ n) → (r < n → length (rows f r) + length (f r) ≤ length (rows f n)) → length (rows f r) + length (f r) ≤ length (rows f (suc n))
      go (yes e) ih = rw e (omega (arith, rows_length f n))
      go (no e) ih = omega (arith, ih (omega arith), rows_length f n)

  pub rows_at : (f : ℕ → List A) (n r j : ℕ) (d : A) → r < n → j < length (f r) → get_or (rows f n) (length (rows f r) + j) d ≡ get_or (f r) j d
  unfolding rows
  rows_at f zero r j d h l = absurd (omega arith)
  rows_at f (suc n) r j d h l = go (ℕ_discrete r n) (λ b. rows_at f n r j d b l)
    where
      go : Dec (r ≡ n) → (r < n → get_or (rows f n) (length (rows f r) + j) d ≡ get_or (f r) j d) → get_or (rows f n ++ f n) (length (rows f r) + j) d ≡ get_or (f r) j d
      go (yes e) ih = rw e (get_or-append-add (rows f n) (f n) j d)
      go (no e) ih =
          let b : r < n = omega arith in
          get_or-append (rows f n) (f n) d (length (rows f r) + j) (omega (arith, rows_room f n r b)) ∙ ih b

  -- at most b in each of the first n rows
  pub rows_most : (f : ℕ → List A) (b n : ℕ) → ((r : ℕ) → r < n → length (f r) ≤ b) → length (rows f n) ≤ b * n
  unfolding rows
  rows_most f b zero h = omega arith
  rows_most f b (suc n) h =
      let ih : length (rows f n) ≤ b * n = rows_most f b n (λ r l. h r (omega arith)) in
      omega (arith, h n (omega arith), length-append (rows f n) (f n), mul-suc b n)

-- ---- a loop that lays one row at each turn, m of n done

pub record Laying {L A : Type 0} (put : L → ℕ → A → L) (row : ℕ → List A) (n from : ℕ) (xs₀ xs : L) (k m : ℕ) : Type 0 where
  pub high : m ≤ n
  pub wrote : Laid put xs₀ from (rows row m) xs k

module _ {L A : Type 0} {put : L → ℕ → A → L} {row : ℕ → List A} {n from : ℕ} where
  pub laying_start : {xs : L} → Laying put row n from xs xs from 0
  unfolding rows
  laying_start = record { high = omega arith; wrote = laid_none }

  pub laying_turn : {xs₀ xs ys : L} {k r m : ℕ} → Laying put row n from xs₀ xs k m → m < n → Laid put xs k (row m) ys r → Laying put row n from xs₀ ys r (m + 1)
  unfolding rows
  laying_turn {xs₀} {xs} {ys} {k} {r} {m} u h w = record { high = omega arith; wrote = rw (add-one m) (laid_append u.wrote w) }

  pub laying_end : {xs₀ xs : L} {k m : ℕ} → Laying put row n from xs₀ xs k m → n ≤ m → Laid put xs₀ from (rows row n) xs k
  laying_end {xs₀} {xs} {k} {m} u h = let e : m ≡ n = omega arith in rw e at u.wrote

  -- how far it has come, with at most b in each row
  pub laying_most : {xs₀ xs : L} {k m : ℕ} (b : ℕ) → Laying put row n from xs₀ xs k m → ((r : ℕ) → r < n → length (row r) ≤ b) → k ≤ from + b * m
  laying_most {xs₀} {xs} {k} {m} b u h = omega (arith, u.wrote.next, rows_most row b m (λ r l. h r (omega (arith, u.high))))

-- ---- tabulated lists

-- a list as tabulated: how long it is, and what is read at a place
pub long_as : {A : Type 0} {xs : List A} (f : ℕ → A) (n : ℕ) → xs ≡ tabulate f n 0 → length xs ≡ n
long_as {A} {xs} f n e = ap (λ (ys : List A). length ys) e ∙ length_tabulate f n 0

pub read_at_lem : {A : Type 0} {xs : List A} (f : ℕ → A) (n : ℕ) → xs ≡ tabulate f n 0 → (i : ℕ) (d : A) → i < n → get_or xs i d ≡ f i
read_at_lem {A} {xs} f n e i d h = ap (λ (ys : List A). get_or ys i d) e ∙ tabulate_at_0 f n i d h

-- with one more at the end
pub tabulate_more : {A : Type 0} (f : ℕ → A) (n k j : ℕ) → j ≡ k + n → tabulate f (suc n) k ≡ tabulate f n k ++ (f j ∷ [])
unfolding tabulate
tabulate_more f zero k j e = let d : k ≡ j = omega arith in rw d
tabulate_more f (suc n) k j e = rw (tabulate_more f n (suc k) j (omega arith))

-- with n more at the end
pub tabulate_append : {A : Type 0} (f : ℕ → A) (m n k : ℕ) → tabulate f (m + n) k ≡ tabulate f m k ++ tabulate f n (k + m)
unfolding tabulate
tabulate_append {A} f zero n k =
    let y : 0 + n ≡ n = omega arith in
    let z : k + 0 ≡ k = omega arith in
    rw (y, z)
tabulate_append {A} f (suc m) n k =
    let y : suc m + n ≡ suc (m + n) = omega arith in
    let z : k + suc m ≡ suc k + m = omega arith in
    rw (y, z, tabulate_append f m n (suc k))

-- ---- the starts of rows: 0 first, and behind each row its end

module _ {A : Type 0} (row : ℕ → List A) where
  pub starts_first : starts_of row 0 ≡ 0 ∷ []
  unfolding starts_of start_of tabulate rows
  starts_first = refl

  pub starts_more : (n : ℕ) → starts_of row (n + 1) ≡ starts_of row n ++ (start_of row (n + 1) ∷ [])
  unfolding starts_of
  starts_more n = rw (add-one (n + 1)) (tabulate_more (start_of row) (n + 1) 0 (n + 1) (omega arith))

-- as they stand in a list
pub starts_laid_lem : {A : Type 0} (row : ℕ → List A) (n : ℕ) (ss : List ℕ) {ss' : List ℕ} (s : ℕ) → ss' ≡ laid ss s (starts_of row n) → s + n < length ss
    → (r : ℕ) → r ≤ n → get_or ss' (s + r) 0 ≡ start_of row r
unfolding starts_of
starts_laid_lem row n ss s e l r h =
    let k : length (tabulate (start_of row) (n + 1) 0) ≡ n + 1 = length_tabulate (start_of row) (n + 1) 0 in
    rw (e, laid_at ss s (tabulate (start_of row) (n + 1) 0) r (omega arith) (omega arith)) (tabulate_at_0 (start_of row) (n + 1) r 0 (omega arith))

-- of rows that are as long, and of rows that agree
pub starts_agree : {A B : Type 0} (f : ℕ → List A) (g : ℕ → List B) (n : ℕ) → ((r : ℕ) → r < n + 1 → start_of f r ≡ start_of g r) → starts_of f n ≡ starts_of g n
unfolding starts_of
starts_agree f g n h = tabulate_agree (start_of f) (start_of g) (n + 1) 0 h

pub start_agree : {A : Type 0} (f g : ℕ → List A) (n : ℕ) → ((r : ℕ) → r < n → f r ≡ g r) → (r : ℕ) → r < n + 1 → start_of f r ≡ start_of g r
unfolding start_of
start_agree f g n h r b = ap length (rows_agree f g r (λ q o. h q (omega arith)))

-- ---- whether the numbers of a list are finite

pub finite_along : (xs : List Float) (k n : ℕ) → list_all (λ m. finite (number_at xs m)) (range_with_len k n) ≡ all_finite (tabulate (number_at xs) n k)
unfolding tabulate all_finite
finite_along xs k zero = refl
finite_along xs k (suc n) =
    let e : k + 1 ≡ suc k = omega arith in
    rw e (ap (λ b. finite (number_at xs k) && b) (finite_along xs (suc k) n))

-- ---- lists that rise

pub rises_nil : Rises []
unfolding Rises
rises_nil = tt

pub rises_one : (a : ℕ) → Rises (a ∷ [])
unfolding Rises
rises_one a = tt

pub rises_cons : (a b : ℕ) (es : List ℕ) → a < b → Rises (b ∷ es) → Rises (a ∷ (b ∷ es))
unfolding Rises
rises_cons a b es h r = (h, r)

pub rises_head : (a b : ℕ) (es : List ℕ) → Rises (a ∷ (b ∷ es)) → a < b
unfolding Rises
rises_head a b es r = r.0

pub rises_tail : (a : ℕ) (es : List ℕ) → Rises (a ∷ es) → Rises es
unfolding Rises
rises_tail a [] r = tt
rises_tail a (b ∷ es) r = r.1

-- the first end is below the others
pub rises_first : (a : ℕ) (es : List ℕ) → Rises (a ∷ es) → (j : ℕ) → j < length es → a < get_or es j 0
rises_first a [] r j h = absurd (omega arith)
rises_first a (b ∷ es) r zero h = rises_head a b es r
rises_first a (b ∷ es) r (suc j) h =
    let k : b < get_or es j 0 = rises_first b es (rises_tail a (b ∷ es) r) j (omega arith) in
    omega (arith, rises_head a b es r)

-- an earlier end is below a later one
pub rises_below : (es : List ℕ) → Rises es → (i j : ℕ) → i < j → j < length es → get_or es i 0 < get_or es j 0
rises_below [] r i j a b = absurd (omega arith)
rises_below (e ∷ es) r i zero a b = absurd (omega arith)
rises_below (e ∷ es) r zero (suc j) a b = rises_first e es r j (omega arith)
rises_below (e ∷ es) r (suc i) (suc j) a b = rises_below es (rises_tail e es r) i j (omega arith) (omega arith)

-- none is above the last
pub rises_last : (es : List ℕ) → Rises es → (i : ℕ) → i < length es → get_or es i 0 ≤ get_or es (length es - 1) 0
rises_last es r i h = go (dec_lt i (length es - 1))
  where
    go : Dec (i < length es - 1) → get_or es i 0 ≤ get_or es (length es - 1) 0
    go (yes b) = let k : get_or es i 0 < get_or es (length es - 1) 0 = rises_below es r i (length es - 1) b (omega arith) in omega arith
    go (no b) = let e : i ≡ length es - 1 = omega arith in rw e (omega arith)
