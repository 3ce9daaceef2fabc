-- A level's relations from the weights' slots, and its rows one behind another.
-- Assumes nothing.
use Prim.Native.Nat.{ℕ, zero, suc, ◌+◌, ◌*◌, ◌/◌, ◌%◌, ◌<◌, ◌≤◌}
use mathlib.Core.Path.{◌≡◌, refl, sym, ap, ◌∙◌}
use mathlib.Core.Bool.{Bool, true, false, not}
use mathlib.Core.List.{List, [], ◌∷◌, ◌++◌}
use native.Mathlib.Omega.{arith}
use native.Mathlib.Numerals.{add-one}
use lib.Dec.{eqb}
use lib.ListN.{length, get_or, set, length-append}
use lib.Seq.{ext_get_or}
use Rattle.lattice.specs.declared.grid.Grid3d.{Grid3d}
use Rattle.lattice.specs.declared.grid.Position.{Position}
use Rattle.lattice.specs.declared.levels.Three.{Three}
use Rattle.lattice.specs.Grid.{n_of, at_of, Limits}
use Rattle.lattice.specs.Lattice.{FullLattice, is_wall}
use Rattle.numbers.specs.Lists.{tabulate, Laid, entry_at, places_in, start_of}
use Rattle.lattice.specs.Neighbours.{fixed_at}
use Rattle.lattice.proofs.Equations.{n_of_0, n_of_1, n_of_2, edges_of_0, edges_of_1, edges_of_2}
use Rattle.lattice.proofs.GridLaws.{n_most}
use Rattle.numbers.proofs.TabulateLaws.{length_tabulate, tabulate_at, tabulate_agree}
use Rattle.weights.specs.Product.{free_places}
use Rattle.weights.specs.Tables.{slot_places, count_entry, place_entry, PlacesOf}
use Rattle.weights.specs.TwoLevels.{TwoLevels, fine_cells, coarse_cells, two_of}
use Rattle.numbers.proofs.ListLaws.{read_at_lem}
use Rattle.weights.proofs.Equations.{place_entry_is}
use Rattle.weights.proofs.MeaningLaws.{Slotted, slots_in, count_is}
use Rattle.weights.proofs.SlotLaws.{slot_most}
use Rattle.weights.proofs.TwoLevelLaws.{fine_n, coarse_n}
use Rattle.operators.specs.Base.{base_words, Sizes}
use Rattle.operators.specs.Bits.{single, gathered, set_of}
use Rattle.operators.specs.Columns.{block, row, Listed}
use Rattle.operators.specs.Compose.{words_at}
use Rattle.operators.specs.declared.columns.Picks.{Picks}
use Rattle.operators.specs.Levels.{is_bloch, pattern_row, cell_list, base_relations, forward_word, coarser_words, relations_below, slot_no, slot_word, slot_word_no, Entries}
use Rattle.operators.specs.Numbered.{column_no, row_columns, relations_laid, no_relations, words_below, Ready}
use Rattle.numbers.proofs.StartLaws.{sets_laid, start_most}
use Rattle.numbers.proofs.LoopLaws.{start_zero, start_suc}
use Rattle.weights.proofs.TakenLaws.{slot_across, slot_along_lem}
use Rattle.operators.proofs.ColumnLaws.{block_length}
use Rattle.operators.proofs.TableLaws.{row_many, relations_agree}
use Rattle.operators.proofs.TableLevels.{column_no_is}
use Rattle.operators.proofs.WordLaws.{gathered_agree}
use Rattle.operators.proofs.ComposeLaws.{composed_agree}

-- ---- the cells of a grid in a list

pub cell_at : (g : Grid3d) (d : ℕ) → d < 3 → get_or (cell_list g) d 0 ≡ n_of g d
cell_at g zero h = sym (n_of_0 g)
cell_at g (suc zero) h = sym (n_of_1 g)
cell_at g (suc (suc zero)) h = sym (n_of_2 g)
cell_at g (suc (suc (suc d))) h = absurd (omega arith)

pub cell_most : {g : Grid3d} → Limits g → (d : ℕ) → d < 3 → get_or (cell_list g) d 0 ≤ 64
cell_most {g} l d h = rw (cell_at g d h) (n_most l d)

-- ---- level 0's relations

pub sizes_of_lem : {g : Grid3d} {t : List ℕ} (a b c : Bool) → Limits g → length t ≡ 1152 → Sizes (cell_list g) (a ∷ (b ∷ (c ∷ []))) t
sizes_of_lem a b c l h = record { axes = refl; kinds = refl; many = h; small = cell_most l }

pub base_of_lem : {t : List ℕ} (l : FullLattice) (g : Grid3d) {x y z : Bool} → x ≡ is_wall l.x → y ≡ is_wall l.y → z ≡ is_wall l.z
    → t ≡ relations_laid (base_words (cell_list g) (not x ∷ (not y ∷ (not z ∷ [])))) 18 no_relations → t ≡ base_relations l g
unfolding is_bloch
base_of_lem l g p q o b = rw (edges_of_0, edges_of_1, edges_of_2) (rw (p, q, o) at b)

-- ---- the places of a slot as a word

module _ (ps ns : List ℕ) (q : ℕ) where
  -- w has the first d places of slot q
  abbrev pub placed : ℕ → ℕ
  placed d = gathered d (λ k. true) (λ k. single (get_or ps (2 * q + k) 0))

  pub placed_whole : (n : ℕ) → n ≡ get_or ns q 0 → placed n ≡ slot_word ps ns q
  unfolding slot_word set_of
  placed_whole n e =
      rw (← e, length_tabulate (entry_at ps) n (2 * q))
      (gathered_agree n (λ k h. refl) (λ k h. ap (λ (m : ℕ). single m) (sym (tabulate_at (entry_at ps) n (2 * q) k 0 h))))

-- the places of a slot stand in the list
pub slot_room : {ps ns : List ℕ} {q : ℕ} → Entries ps ns → q < 384 → 2 * q + get_or ns q 0 ≤ length ps
slot_room {q = q} e h = omega (arith, e.few q h, e.places_long)

-- the slot of word e
pub slot_word_no_lem : {w : ℕ} (ps ns : List ℕ) (e : ℕ) → w ≡ slot_word ps ns (128 * (e / 128) + (e % 128 + 64) % 128) → w ≡ slot_word_no ps ns e
unfolding slot_word_no slot_no
slot_word_no_lem ps ns e h = h

-- ---- the words are the places that have weights

-- a slot's entries are what it takes
slot_list : (t : TwoLevels) {ps ns : List ℕ} → ns ≡ tabulate (count_entry t) 384 0 → ps ≡ tabulate (place_entry t) 768 0 → (q : ℕ) → q < 384
    → places_in ps (2 * q) (get_or ns q 0) ≡ slot_places t q
slot_list t {ps} {ns} n s q h =
    let c : get_or ns q 0 ≡ length (slot_places t q) = count_is t n q h in
    ext_get_or 0 (places_in ps (2 * q) (get_or ns q 0)) (slot_places t q)
    (length_tabulate (entry_at ps) (get_or ns q 0) (2 * q) ∙ c)
    (λ d b.
    let k : d < get_or ns q 0 = omega (arith, length_tabulate (entry_at ps) (get_or ns q 0) (2 * q)) in
    let o : d < 2 = omega (arith, slot_most t q) in
    let i : (2 * q + d) / 2 ≡ q = omega arith in
    let m : (2 * q + d) % 2 ≡ d = omega arith in
    tabulate_at (entry_at ps) (get_or ns q 0) (2 * q) d 0 k ∙ read_at_lem (place_entry t) 768 s (2 * q + d) 0 (omega arith) ∙ rw (place_entry_is, i, m))

-- the slot of an axis, a role and a place
slot_free : (t : TwoLevels) (a r i : ℕ) → r < 2 → i < 64 → i < fine_cells t a
    → slot_places t (slot_no (64 * (2 * a + r) + i)) ≡ free_places t a (eqb r 0) i
unfolding slot_no
slot_free t a zero i h b k =
    let e : 128 * ((64 * (2 * a + 0) + i) / 128) + ((64 * (2 * a + 0) + i) % 128 + 64) % 128 ≡ 128 * a + 64 + i = omega arith in
    rw e (slot_along_lem t a i b k)
slot_free t a (suc zero) i h b k =
    let e : 128 * ((64 * (2 * a + 1) + i) / 128) + ((64 * (2 * a + 1) + i) % 128 + 64) % 128 ≡ 128 * a + i = omega arith in
    rw e (slot_across t a i b k)
slot_free t a (suc (suc r)) i h b k = absurd (omega arith)

slot_below : (e : ℕ) → e < 384 → slot_no e < 384
unfolding slot_no
slot_below e h = omega arith

-- word k of an axis and a role
forward_table : (t : TwoLevels) {ps ns f : List ℕ} → ns ≡ tabulate (count_entry t) 384 0 → ps ≡ tabulate (place_entry t) 768 0
    → f ≡ tabulate (slot_word_no ps ns) 384 0
    → (a r k : ℕ) → a < 3 → r < 2 → fine_cells t a ≤ 64 → k < fine_cells t a → words_at f (64 * (2 * a + r)) k ≡ forward_word t a (eqb r 0) k
unfolding slot_word_no slot_word forward_word
forward_table t {ps} {ns} {f} n s is a r k ha hr m h =
    let e : 64 * (2 * a + r) + k < 384 = omega arith in
    read_at_lem (slot_word_no ps ns) 384 is (64 * (2 * a + r) + k) 0 e
    ∙ ap set_of (slot_list t n s (slot_no (64 * (2 * a + r) + k)) (slot_below (64 * (2 * a + r) + k) e) ∙ slot_free t a r k hr (omega arith) h)

-- ---- one level down

module _ {l : FullLattice} {fine coarse : Three} {gf gc : Grid3d} {ps ns : List ℕ} (s : Slotted l fine coarse gf gc ps ns) where
  fine_limits : Limits gf
  fine_limits = rw s.fine_is s.paired.fine_limits

  coarse_limits : Limits gc
  coarse_limits = rw s.coarse_is s.paired.coarse_limits

  pub entries_of : Entries ps ns
  entries_of =
      let p : PlacesOf gc ps ns = slots_in s in
      record {
        places_long = p.places_long;
        counts_long = p.counts_long;
        few = p.few;
        low = λ q d h b. omega (arith, p.place_in q d h b, n_most coarse_limits (q / 128));
      }

  pub ready_of : {t f out : List ℕ} → length t ≡ 1152 → length f ≡ 384 → length out ≡ 1152 → Ready t f (cell_list gf) (cell_list gc) out
  ready_of h k o =
      record {
        fine = h;
        weights = k;
        coarse = o;
        axes = refl;
        axes_below = refl;
        small = cell_most fine_limits;
        small_below = cell_most coarse_limits;
      }

  pub below_of : {f u : List ℕ} (t : List ℕ) → f ≡ tabulate (slot_word_no ps ns) 384 0
      → u ≡ relations_laid (words_below t f (cell_list gf) (cell_list gc)) 18 no_relations → u ≡ relations_below (two_of l fine coarse) t
  unfolding words_below coarser_words
  below_of {f} {u} t is done = done ∙ relations_agree (words_below t f (cell_list gf) (cell_list gc)) (coarser_words two t) 18 no_relations step
    where
      two : TwoLevels
      two = two_of l fine coarse

      cells_fine : (d : ℕ) → d < 3 → get_or (cell_list gf) d 0 ≡ fine_cells two d
      cells_fine d h = cell_at gf d h ∙ ap (λ (g : Grid3d). n_of g d) s.fine_is ∙ fine_n two d

      cells_coarse : (d : ℕ) → d < 3 → get_or (cell_list gc) d 0 ≡ coarse_cells two d
      cells_coarse d h = cell_at gc d h ∙ ap (λ (g : Grid3d). n_of g d) s.coarse_is ∙ coarse_n two d

      most : (d : ℕ) → fine_cells two d ≤ 64
      most d = rw fine_n at (n_most s.paired.fine_limits d)

      step : (q : ℕ) → q < 18 → words_below t f (cell_list gf) (cell_list gc) q ≡ coarser_words two t q
      step q h =
          let d = q / 6 in
          let w = q % 6 in
          let g : d < 3 = omega arith in
          let z : w % 2 < 2 = omega arith in
          let c : column_no w < 2 = (column_no_is w (omega arith)).1 in
          rw (cells_fine d g, cells_coarse d g)
          (tabulate_agree _ _ (coarse_cells two d) 0
          (λ i b.
          composed_agree (fine_cells two d) (words_at t (64 * q)) i
          (λ k e. forward_table two s.counts s.places is d (w % 2) k g z (most d) e)
          (λ k e. forward_table two s.counts s.places is d (column_no w) k g c (most d) e)))

-- ---- the rows of a level

-- a row of the pattern is laid
pub row_laid_lem : {xs ys : List ℕ} {at n : ℕ} {fixed : Bool} {p : Position} (l : FullLattice) (g : Grid3d) (t : List ℕ) (r : ℕ)
    → p ≡ at_of g r → fixed ≡ fixed_at l p → Listed xs at (row_columns t g fixed r p) ys n → Laid set xs at (pattern_row l g t r) ys n
unfolding pattern_row
row_laid_lem {xs} {ys} {at} {n} l g t r e f h =
    rw (← e, ← f) (record { list = h.list ∙ sets_laid xs at (row_columns t g _ r _); next = h.next })

-- a row has at most 3 * 64 * 64 * 64 columns
row_most : (x y z : Picks) (nx ny nz : ℕ) → nx ≤ 64 → ny ≤ 64 → nz ≤ 64 → length (row x y z nx ny nz) ≤ 786432
unfolding row
row_most x y z nx ny nz a b c =
    let c₀ = block x nx ny 0 nz 0 in
    let c₁ = block y nx ny (nx * ny * nz) nz 0 in
    let c₂ = block z nx ny (2 * (nx * ny * nz)) nz 0 in
    rw (length-append c₀ (c₁ ++ c₂), length-append c₁ c₂)
    (omega (
      arith,
      block_length x nx ny 0 nz 0 a b,
      block_length y nx ny (nx * ny * nz) nz 0 a b,
      block_length z nx ny (2 * (nx * ny * nz)) nz 0 a b,
    ))

pub columns_most : (t : List ℕ) {g : Grid3d} → Limits g → (fixed : Bool) (r : ℕ) (p : Position) → length (row_columns t g fixed r p) ≤ 786432
unfolding row_columns
columns_most t l true r p = omega arith
columns_most t l false r p = row_most _ _ _ _ _ _ l.x_most l.y_most l.z_most

pub pattern_most : (l : FullLattice) {g : Grid3d} (t : List ℕ) → Limits g → (r : ℕ) → length (pattern_row l g t r) ≤ 786432
unfolding pattern_row
pattern_most l {g} t h r = columns_most t h (fixed_at l (at_of g r)) r (at_of g r)

-- how many columns a row has, by that of number 0
pub pattern_length : {fixed : Bool} {p : Position} {v : ℕ} (l : FullLattice) (g : Grid3d) (t : List ℕ) (r : ℕ)
    → p ≡ at_of g r → fixed ≡ fixed_at l p → v ≡ length (row_columns t g fixed 0 p) → v ≡ length (pattern_row l g t r)
unfolding pattern_row
pattern_length {fixed} {p} l g t r e f h = rw (← e, ← f) (h ∙ row_many t g fixed 0 r p)

-- the rows are numbered by themselves
abbrev pub itself : ℕ → ℕ
itself r = r

-- m of n rows have been counted
pub record Counted (f : ℕ → List ℕ) (n m count : ℕ) : Type 0 where
  pub high : m ≤ n
  pub is : count ≡ start_of f m

pub counted_none : {f : ℕ → List ℕ} {n : ℕ} → Counted f n 0 0
counted_none {f} {n} = record { high = omega arith; is = sym (start_zero f) }

pub counted_turn : {f : ℕ → List ℕ} {n m count v : ℕ} → Counted f n m count → m < n → v ≡ length (f m) → Counted f n (m + 1) (count + v)
counted_turn {f} {n} {m} {count} {v} p h e = record { high = omega arith; is = rw (add-one m) (omega (arith, p.is, start_suc f m)) }

pub counted_end : {f : ℕ → List ℕ} {n m count : ℕ} → Counted f n m count → n ≤ m → count ≡ start_of f n
counted_end {f} {n} {m} {count} p h = let e : m ≡ n = omega (arith, p.high) in rw e at p.is

pub counted_most : {f : ℕ → List ℕ} {n m count : ℕ} (b : ℕ) → Counted f n m count → ((r : ℕ) → length (f r) ≤ b) → count ≤ b * m
counted_most {f} {n} {m} b p h = rw p.is (start_most f b m (λ r k. h r))
