-- Laws of the lists of slots: how they are filled, and what a slot or an entry takes, by cases.
-- Assumes nothing.
use Prim.Native.Nat.{ℕ, zero, suc, ◌+◌, ◌-◌, ◌*◌, ◌/◌, ◌%◌, ◌<◌, ◌≤◌}
use native.Mathlib.Omega.{arith}
use mathlib.Core.Path.{◌≡◌, refl, sym, ap, subst, ◌∙◌}
use mathlib.Core.Bool.{Bool, true, false, not, ◌&&◌, cond}
use mathlib.Core.List.{List, [], ◌∷◌, ◌++◌, map}
use borrow.Author.Tests.{ltb-true, ltb-false, lt-ltb, le-ltb, eq-eqb, ne_eqb, not-true, not-false}
use lib.Dec.{eqb, ltb}
use lib.ListN.{length, get_or, set, take, drop, replicate, length-replicate, length-append}
use Rattle.std.proofs.lemmas.List.{length-map, length-take-le, get_or-take, get_or-drop}
use lib.ListN.{length-drop}
use lib.Seq.{drop-drop}
use Rattle.std.proofs.Common.{ext_get_or}
use Rattle.std.specs.Array.{IsFromFnResult, IsFromFnResultFrom}
use native.Mathlib.Decide.{dec_lt}
use denote.Param.Members.{Mut, Called}
use lib.Ieee.{Float}
use Rattle.numbers.specs.declared.C64.{C64}
use Rattle.numbers.specs.Complex.{zero_number, no_number}
use Rattle.lattice.specs.declared.grid.Grid3d.{Grid3d}
use Rattle.lattice.specs.declared.lattice.Edges.{Edges}
use Rattle.lattice.specs.declared.levels.Three.{Three}
use Rattle.lattice.specs.declared.line.Line.{Line}
use Rattle.lattice.specs.Grid.{axis3, n_of, Limits}
use Rattle.lattice.specs.Lattice.{FullLattice, edges_of, is_wall}
use Rattle.numbers.specs.Lists.{tabulate, laid, laid_numbers, entry_at, places_in}
use Rattle.lattice.specs.Line.{ends_of, place_of, nodes_of, Held}
use Rattle.lattice.specs.Stretched.{across_map, along_map}
use Rattle.numbers.specs.Terms.{numbers_of}
use Rattle.lattice.proofs.GridLaws.{n_some, n_most}
use Rattle.lattice.proofs.LineLaws.{length_ends, ends_at, length_nodes}
use Rattle.numbers.proofs.TabulateLaws.{is_tabulate, length_tabulate, tabulate_at}
use Rattle.weights.specs.declared.interpolate.Share.{Share}
use Rattle.weights.specs.TwoLevels.{TwoLevels, fine_line, coarse_line, node_on}
use Rattle.weights.specs.Interpolate.{share_place, share_weight, share_term, shares_in, kept_shares, taken_places}
use Rattle.weights.proofs.InterpolateLaws.{places_taken, terms_taken}
use Rattle.weights.specs.Product.{walled, kept_places}
use Rattle.weights.specs.Tables.{slot_axis, slot_along, slot_place, slot_wall, slot_block, slot_taken, slot_pulled, slot_shares, slot_ratio, entry_share, lines_in, value_entry, end_no, node_no, map_no, map_in, count_from, place_from, pull_from, HeldThree, ValuesOf}
use Rattle.numbers.proofs.ListLaws.{laid_length, laid_before, laid_at}
use Rattle.numbers.proofs.Equations.{tabulate_zero, tabulate_suc, laid_by_nil, laid_by_cons}
use Rattle.numbers.proofs.CopyLaws.{laid_part}
use Rattle.weights.proofs.ProductLaws.{taken_most, kept_most}
use Rattle.weights.proofs.Equations.{lines_in_0, lines_in_1, lines_in_2}
use Rattle.numbers.proofs.RowLoops.{NumbersTo, numbers_laid}
use Rattle.lattice.proofs.NestLaws.{map_long}
use Rattle.weights.proofs.TwoLevelLaws.{line_cells_lem, node_no_lem}

-- ---- an array made by place

-- a call leaves the function as it was
module _ {F A : Type 0} (f : ℕ → A) (n : ℕ) (d : A) {g : Mut F (ℕ × Unit {0}) A} {s : F} (ys : List A) where
  made_from : (made : (i : ℕ) (y : A) (q : F) → i < n → Called g s (i, tt) y q → (q ≡ s) × (y ≡ f i))
      → (m k : ℕ) → k + m ≡ n → IsFromFnResultFrom g s ys k m → (i : ℕ) → k ≤ i → i < n → get_or ys i d ≡ f i
  made_from made zero k e r i a b = absurd (omega arith)
  made_from made (suc m) k e r i a b =
      let h = made k r.1 r.0 (omega arith) r.3 in
      turn (dec_lt k i) (r.2.1 d ∙ h.1)
      (λ l. made_from made m (k + 1) (omega arith) (subst (λ (q : F). IsFromFnResultFrom g q ys (k + 1) m) h.0 r.4) i (omega arith) b)
    where
      turn : Dec (k < i) → get_or ys k d ≡ f k → (k < i → get_or ys i d ≡ f i) → get_or ys i d ≡ f i
      turn (yes l) here next = next l
      turn (no l) here next = let q : k ≡ i = omega arith in rw q at here

  pub made_tabulate : IsFromFnResult g s ys n → ((i : ℕ) (y : A) (q : F) → i < n → Called g s (i, tt) y q → (q ≡ s) × (y ≡ f i)) → ys ≡ tabulate f n 0
  made_tabulate r made = is_tabulate f n d ys r.long (λ i b. made_from made n 0 (omega arith) r.each i (omega arith) b)

-- ---- the list of maps, block by block

-- the map of block b
abbrev pub map_of : FullLattice → ℕ → List C64
map_of l b = cond (eqb (b % 2) 1) (along_map l (b / 2)) (across_map l (b / 2))

pub map_no_lem : (l : FullLattice) (b p : ℕ) → p < 129 → map_no l (129 * b + p) ≡ get_or (map_of l b) p no_number
unfolding map_no
map_no_lem l b p h =
    let e : (129 * b + p) / 129 ≡ b = omega arith in
    let d : (129 * b + p) % 129 ≡ p = omega arith in
    rw (e, d)

-- a map more
pub maps_turn : (l : FullLattice) (b : ℕ) {xs ys : List Float} {vs : List C64} → b < 6 → vs ≡ map_of l b → NumbersTo (map_no l) 774 (129 * b) xs
    → ys ≡ laid_numbers xs (129 * b) vs → NumbersTo (map_no l) 774 (129 * (b + 1)) ys
maps_turn l b {xs} {ys} {vs} h e p q =
    let w : length vs ≡ 129 = ap length e ∙ map_long l (b / 2) (eqb (b % 2) 1) in
    let s : 129 * (b + 1) ≡ 129 * b + length vs = omega arith in
    rw (q, s) (numbers_laid vs p (omega arith) (λ j k. ap (λ (us : List C64). get_or us j no_number) e ∙ sym (map_no_lem l b j (omega arith))))

-- ---- a list laid over a part of another

laid_front : (xs vs : List ℕ) → length vs ≤ length xs → laid xs 0 vs ≡ vs ++ drop (length vs) xs
laid_front xs [] h = laid_by_nil set xs 0
laid_front [] (v ∷ vs) h = absurd (omega arith)
laid_front (x ∷ xs) (v ∷ vs) h =
    laid_by_cons set (x ∷ xs) 0 v vs ∙ sym (laid_part 1 (v ∷ xs) vs) ∙ ap (λ (ys : List ℕ). v ∷ ys) (laid_front xs vs (omega arith))

pub laid_over : (xs : List ℕ) (s : ℕ) (vs : List ℕ) → s + length vs ≤ length xs → laid xs s vs ≡ take s xs ++ (vs ++ drop (s + length vs) xs)
laid_over xs s vs h =
    sym (laid_part s xs vs)
    ∙ ap (λ (ys : List ℕ). take s xs ++ ys)
    (laid_front (drop s xs) vs (omega (arith, length-drop s xs)) ∙ ap (λ (ys : List ℕ). vs ++ ys) (drop-drop (length vs) s xs))

-- ---- the list of nodes, axis by axis: the first k are there

pub record NodesTo (t : TwoLevels) (k : ℕ) (xs : List ℕ) : Type 0 where
  pub long : length xs ≡ 195
  pub done : (i : ℕ) → i < k → get_or xs i 0 ≡ node_no t i

-- zeros behind a list read as what is past its end
padded : (xs : List ℕ) (n i : ℕ) → get_or (xs ++ replicate n 0) i 0 ≡ get_or xs i 0
padded [] zero i = refl
padded [] (suc n) zero = refl
padded [] (suc n) (suc i) = padded [] n i
padded (x ∷ xs) n zero = refl
padded (x ∷ xs) n (suc i) = padded xs n i

pub nodes_start : {t : TwoLevels} → NodesTo t 0 (replicate 195 0)
nodes_start = record { long = length-replicate {A = ℕ} 195 0; done = λ i b. absurd (omega arith) }

-- the nodes of an axis more
pub nodes_turn : {t : TwoLevels} (a : ℕ) (fine : Line) {coarse : Line} {xs ys vs : List ℕ} → a < 3 → fine_line t a ≡ ends_of fine → coarse_line t a ≡ ends_of coarse
    → Held coarse → vs ≡ nodes_of (ends_of fine) (ends_of coarse) ++ replicate (64 - coarse.cells) 0 → NodesTo t (65 * a) xs → ys ≡ laid xs (65 * a) vs
    → NodesTo t (65 * (a + 1)) ys
unfolding node_on
nodes_turn {t} a fine {coarse} {xs} {ys} {vs} b f g c e p q =
    record { long = ap length q ∙ laid_length xs (65 * a) vs ∙ p.long; done = λ i h. rw q (go i h (ltb i (65 * a)) refl) }
  where
    many : length vs ≡ 65
    many =
        ap length e ∙ length-append (nodes_of (ends_of fine) (ends_of coarse)) (replicate (64 - coarse.cells) 0)
        ∙ omega (arith, length_nodes (ends_of fine) (ends_of coarse), length_ends coarse c, length-replicate {A = ℕ} (64 - coarse.cells) 0, c.most)

    at : (m : ℕ) → m < 65 → get_or vs m 0 ≡ node_no t (65 * a + m)
    at m h =
        let k : get_or (nodes_of (fine_line t a) (coarse_line t a)) m 0 ≡ node_no t (65 * a + m) = sym (node_no_lem t a m h) in
        rw e (padded (nodes_of (ends_of fine) (ends_of coarse)) (64 - coarse.cells) m) ∙ (rw (f, g) at k)

    go : (i : ℕ) → i < 65 * (a + 1) → (s : Bool) → ltb i (65 * a) ≡ s → get_or (laid xs (65 * a) vs) i 0 ≡ node_no t i
    go i h true r = let l : i < 65 * a = ltb-true i (65 * a) r in laid_before xs (65 * a) vs i l ∙ p.done i l
    go i h false r =
        let l : i - 65 * a < 65 = omega (arith, ltb-false i (65 * a) r) in
        let w : 65 * a + (i - 65 * a) ≡ i = omega (arith, ltb-false i (65 * a) r) in
        let u : get_or (laid xs (65 * a) vs) (65 * a + (i - 65 * a)) 0 ≡ node_no t (65 * a + (i - 65 * a)) =
        laid_at xs (65 * a) vs (i - 65 * a) (omega (arith, many)) (omega (arith, many, p.long)) ∙ at (i - 65 * a) l in
        rw w at u

pub nodes_whole : {t : TwoLevels} {xs : List ℕ} → NodesTo t 195 xs → xs ≡ tabulate (node_no t) 195 0
nodes_whole {t} {xs} p = is_tabulate (node_no t) 195 0 xs p.long p.done

-- ---- the values' places, and the last ends

module _ (l : Line) (p : Held l) where
  -- value i, where the line has it and where not
  pub value_held : (i : ℕ) (along : Bool) → i < l.cells
      → place_of (ends_of l) i along ≡ cond (ltb i (length (ends_of l) - 1)) (place_of (ends_of l) i along) 0
  value_held i along h = rw (lt-ltb i (length (ends_of l) - 1) (omega (arith, line_cells_lem p)))

  pub value_none : (i : ℕ) (along : Bool) → l.cells ≤ i → 0 ≡ cond (ltb i (length (ends_of l) - 1)) (place_of (ends_of l) i along) 0
  value_none i along h = rw (le-ltb i (length (ends_of l) - 1) (omega (arith, line_cells_lem p)))

  pub last_end : get_or l.ends l.cells 0 ≡ get_or (ends_of l) (length (ends_of l) - 1) 0
  last_end = sym (ends_at l l.cells (omega arith)) ∙ ap (λ (i : ℕ). get_or (ends_of l) i 0) (line_cells_lem p)

pub last_ends : (s : Three) → HeldThree s
    → get_or s.x.ends s.x.cells 0 ∷ (get_or s.y.ends s.y.cells 0 ∷ (get_or s.z.ends s.z.cells 0 ∷ []))
    ≡ tabulate (end_no (lines_in s)) 3 0
unfolding end_no
last_ends s p =
    rw (tabulate_suc, tabulate_suc, tabulate_suc, tabulate_zero, lines_in_0, lines_in_1, lines_in_2)
    (λ i. last_end s.x p.x_held i ∷ (last_end s.y p.y_held i ∷ (last_end s.z p.z_held i ∷ [])))

-- the value of a slot, on the line of its axis
pub value_is : (s : Three) (q : ℕ) {es : List ℕ} {along : Bool} → es ≡ axis3 (q / 128) (ends_of s.x) (ends_of s.y) (ends_of s.z) → along ≡ slot_along q
    → cond (ltb (q % 64) (length es - 1)) (place_of es (q % 64) along) 0 ≡ value_entry (lines_in s) q
unfolding value_entry lines_in slot_axis slot_place
value_is s q e f = λ i. cond (ltb (q % 64) (length (e i) - 1)) (place_of (e i) (q % 64) (f i)) 0

-- ---- a slot's block of the coarse values' places

slice_places : (cs : List ℕ) (e n : ℕ) → e + n ≤ length cs → take n (drop e cs) ≡ places_in cs e n
slice_places cs e n h =
    let l : length (take n (drop e cs)) ≡ n = length-take-le n (drop e cs) (omega (arith, length-drop e cs)) in
    ext_get_or 0 (take n (drop e cs)) (places_in cs e n)
    (l ∙ sym (length_tabulate (entry_at cs) n e))
    (λ i b.
    let k : i < n = omega arith in
    get_or-take n (drop e cs) i 0 k ∙ get_or-drop e cs i 0 ∙ sym (tabulate_at (entry_at cs) n e i 0 k))

module _ (q : ℕ) {n : ℕ} {gc : Grid3d} (cs : List ℕ) (g : Limits gc) (l : length cs ≡ 384) (h : q < 384) (e : n ≡ n_of gc (q / 128)) where
  pub block_room : (q - q % 64 + n ≤ length cs) × (q - q % 64 + n ≤ 384)
  block_room = (omega (arith, n_most g (q / 128)), omega (arith, n_most g (q / 128)))

  pub block_is : take (q - q % 64 + n - (q - q % 64)) (drop (q - q % 64) cs) ≡ slot_block gc cs q
  unfolding slot_block slot_place slot_axis
  block_is =
      let m : q - q % 64 + n - (q - q % 64) ≡ n = omega arith in
      rw (m, slice_places cs (q - q % 64) n block_room.0, e)

-- it has a value, and each lies low
module _ (q : ℕ) {gc : Grid3d} {fs cs : List ℕ} (g : Limits gc) (v : ValuesOf fs cs) (h : q < 384) where
  pub block_long : length (slot_block gc cs q) ≡ n_of gc (q / 128)
  unfolding slot_block slot_place slot_axis
  block_long = length_tabulate (entry_at cs) (n_of gc (q / 128)) (q - q % 64)

  pub block_some : 0 < length (slot_block gc cs q)
  block_some = omega (arith, block_long, n_some g (q / 128))

  pub block_low : (m : ℕ) → m < length (slot_block gc cs q) → get_or (slot_block gc cs q) m 0 < 129
  unfolding slot_block slot_place slot_axis
  block_low m b =
      let k : m < n_of gc (q / 128) = omega (arith, block_long) in
      rw (tabulate_at (entry_at cs) (n_of gc (q / 128)) (q - q % 64) m 0 k) (v.low (q - q % 64 + m) (omega (arith, n_most g (q / 128))))

-- ---- what a slot takes, by cases

module _ (l : FullLattice) (gf gc : Grid3d) (fs cs : List ℕ) (q : ℕ) where
  -- past the fine line's values
  pub shares_past : n_of gf (q / 128) ≤ q % 64 → [] ≡ slot_shares l gf gc fs cs q
  unfolding slot_shares slot_place slot_axis
  shares_past h = rw (le-ltb (q % 64) (n_of gf (q / 128)) h)

  -- a fixed place
  pub shares_fixed : q % 64 < n_of gf (q / 128) → slot_wall l q ≡ true → q % 64 ≡ 0 → [] ≡ slot_shares l gf gc fs cs q
  unfolding slot_shares slot_place slot_axis
  shares_fixed h w z = rw (lt-ltb (q % 64) (n_of gf (q / 128)) h, w, eq-eqb (q % 64) 0 z)

  -- the others
  pub shares_free : {e : Edges} {bs : List ℕ} {along wall : Bool} → q % 64 < n_of gf (q / 128) → wall ≡ slot_wall l q → (wall && eqb (q % 64) 0) ≡ false
      → e ≡ edges_of l (q / 128) → bs ≡ slot_block gc cs q → along ≡ slot_along q
      → kept_shares wall (shares_in e bs along (get_or fs q 0)) ≡ slot_shares l gf gc fs cs q
  unfolding slot_shares slot_place slot_axis
  shares_free h w f e b a = rw (lt-ltb (q % 64) (n_of gf (q / 128)) h, ← w, f, ← e, ← b, ← a)

-- a place is free without a wall, and away from the first place
pub free_open : (w : Bool) (i : ℕ) → w ≡ false → (w && eqb i 0) ≡ false
free_open w i e = rw e

pub free_inside : (w : Bool) (i : ℕ) → (i ≡ 0 → ⊥) → (w && eqb i 0) ≡ false
free_inside true i h = ne_eqb i 0 h
free_inside false i h = refl

-- ---- what a slot takes, in one

if_free : {A B : Type 0} (f : List A → List B) {xs : List A} {ys : List B} → f [] ≡ [] → (inside fixed : Bool) → f xs ≡ ys
    → f (cond inside (cond fixed [] xs) []) ≡ cond inside (cond fixed [] ys) []
if_free f z false fixed e = z
if_free f z true true e = z
if_free f z true false e = e

module _ (l : FullLattice) (gf gc : Grid3d) (fs cs : List ℕ) (q : ℕ) where
  pub shares_places : map share_place (slot_shares l gf gc fs cs q) ≡ slot_taken l gf gc fs cs q
  unfolding slot_shares slot_taken
  shares_places =
      if_free (map share_place) refl
      (ltb (slot_place q) (n_of gf (slot_axis q)))
      (slot_wall l q && eqb (slot_place q) 0)
      (places_taken (slot_wall l q) (edges_of l (slot_axis q)) (slot_block gc cs q) (slot_along q) (get_or fs q 0))

  pub shares_terms : (xs : List Float) (es : List ℕ) → map (share_term (slot_ratio l gc fs cs xs es q)) (slot_shares l gf gc fs cs q) ≡ slot_pulled l gf gc fs cs xs es q
  unfolding slot_shares slot_ratio slot_pulled
  shares_terms xs es =
      if_free (map (share_term (slot_ratio l gc fs cs xs es q))) refl
      (ltb (slot_place q) (n_of gf (slot_axis q)))
      (slot_wall l q && eqb (slot_place q) 0)
      (terms_taken (slot_wall l q) (edges_of l (slot_axis q)) (map_in xs (q / 64)) (slot_block gc cs q) (get_or es (slot_axis q) 0) (slot_along q) (get_or fs q 0))

-- ---- a slot takes at most two

pub taken_few : (l : FullLattice) (gf gc : Grid3d) (fs cs : List ℕ) (q : ℕ) → length (slot_taken l gf gc fs cs q) ≤ 2
unfolding slot_taken
taken_few l gf gc fs cs q = go (ltb (slot_place q) (n_of gf (slot_axis q))) (slot_wall l q && eqb (slot_place q) 0)
  where
    e : Edges
    e = edges_of l (slot_axis q)

    bs : List ℕ
    bs = slot_block gc cs q

    go : (a b : Bool) → length (cond a (cond b [] (kept_places (slot_wall l q) (taken_places e bs (slot_along q) (get_or fs q 0)))) []) ≤ 2
    go false b = omega arith
    go true true = omega arith
    go true false =
        omega (
          arith,
          kept_most (slot_wall l q) (taken_places e bs (slot_along q) (get_or fs q 0)),
          taken_most e bs (slot_along q) (get_or fs q 0),
        )

-- ---- what is read of the entries

one_of : {A : Type 0} (xs : List A) (d : ℕ) (z : A) → get_or (take 1 (drop d xs)) 0 z ≡ get_or xs d z
one_of [] zero z = refl
one_of [] (suc d) z = refl
one_of (x ∷ xs) zero z = refl
one_of (x ∷ xs) (suc d) z = one_of xs d z

map_one : {A B : Type 0} (f : A → B) (xs : List A) (d : ℕ) → map f (take 1 (drop d xs)) ≡ take 1 (drop d (map f xs))
map_one f [] zero = refl
map_one f [] (suc d) = refl
map_one f (x ∷ xs) zero = refl
map_one f (x ∷ xs) (suc d) = map_one f xs d

weights_map : (t : C64) (ss : List Share) → map (share_weight t) ss ≡ numbers_of (map (share_term t) ss)
unfolding numbers_of
weights_map t [] = refl
weights_map t (s ∷ ss) = ap (λ us. share_weight t s ∷ us) (weights_map t ss)

module _ (l : FullLattice) (gf gc : Grid3d) (fs cs : List ℕ) where
  pub count_is : (q : ℕ) → length (slot_shares l gf gc fs cs q) ≡ count_from l gf gc fs cs q
  unfolding count_from
  count_is q = sym (length-map (slot_shares l gf gc fs cs q) share_place) ∙ ap length (shares_places l gf gc fs cs q)

  -- entry e is entry d of slot q
  entry_no : (q d e : ℕ) → e ≡ 2 * q + d → d < 2 → take 1 (drop d (slot_shares l gf gc fs cs q)) ≡ entry_share l gf gc fs cs e
  unfolding entry_share
  entry_no q d e is h =
      let own : e / 2 ≡ q = omega arith in
      let same : e % 2 ≡ d = omega arith in
      rw (own, same)

  module _ (e : ℕ) {us : List Share} (own : us ≡ entry_share l gf gc fs cs e) where
    place_is : get_or (map share_place us) 0 0 ≡ place_from l gf gc fs cs e
    unfolding place_from entry_share
    place_is =
        ap (λ vs. get_or vs 0 0)
        (ap (map share_place) own
        ∙ map_one share_place (slot_shares l gf gc fs cs (e / 2)) (e % 2)
        ∙ ap (λ vs. take 1 (drop (e % 2) vs)) (shares_places l gf gc fs cs (e / 2)))
        ∙ one_of (slot_taken l gf gc fs cs (e / 2)) (e % 2) 0

    pull_is : (xs : List Float) (es : List ℕ) {t : C64} → t ≡ slot_ratio l gc fs cs xs es (e / 2) → get_or (map (share_weight t) us) 0 zero_number ≡ pull_from l gf gc fs cs xs es e
    unfolding pull_from entry_share
    pull_is xs es {t} r =
        ap (λ vs. get_or vs 0 zero_number)
        (ap (map (share_weight t)) own
        ∙ map_one (share_weight t) (slot_shares l gf gc fs cs (e / 2)) (e % 2)
        ∙ ap (λ vs. take 1 (drop (e % 2) vs))
        (weights_map t (slot_shares l gf gc fs cs (e / 2))
        ∙ ap numbers_of (ap (λ u. map (share_term u) (slot_shares l gf gc fs cs (e / 2))) r ∙ shares_terms l gf gc fs cs (e / 2) xs es)))
        ∙ one_of (numbers_of (slot_pulled l gf gc fs cs xs es (e / 2))) (e % 2) zero_number

  module _ (q d e : ℕ) (is : e ≡ 2 * q + d) (h : d < 2) {ss us : List Share} (s : ss ≡ slot_shares l gf gc fs cs q) (g : us ≡ take 1 (drop d ss)) where
    entry_own : us ≡ entry_share l gf gc fs cs e
    entry_own = g ∙ ap (λ vs. take 1 (drop d vs)) s ∙ entry_no q d e is h

    pub slot_place_is : {p : ℕ} → p ≡ get_or (map share_place us) 0 0 → p ≡ place_from l gf gc fs cs e
    slot_place_is p = p ∙ place_is e entry_own

    pub slot_pull_is : (xs : List Float) (es : List ℕ) {w : C64} → w ≡ get_or (map (share_weight (slot_ratio l gc fs cs xs es q)) us) 0 zero_number → w ≡ pull_from l gf gc fs cs xs es e
    slot_pull_is xs es p =
        let own : q ≡ e / 2 = omega arith in
        p ∙ pull_is e entry_own xs es (ap (slot_ratio l gc fs cs xs es) own)

-- ---- a slot's wall, by the tests of the code

module _ (l : FullLattice) (q : ℕ) {a : Bool} (p : a ≡ slot_along q) where
  pub wall_across : {e : Edges} {w : Bool} → not a ≡ true → e ≡ edges_of l (q / 128) → w ≡ is_wall e → w ≡ slot_wall l q
  unfolding slot_wall walled slot_axis
  wall_across h e f = rw (← p, not-true a h) (f ∙ ap is_wall e)

  pub wall_along : not a ≡ false → not a ≡ slot_wall l q
  unfolding slot_wall walled slot_axis
  wall_along h = rw (← p, not-false a h)
