-- The fine nodes around a coarse one: the walk over lower neighbours, hats laid over a list and read back, how many there are and that
-- their nodes are on the line; and that the lines of neighbouring levels are what the code of them asks for.
-- Assumes nothing.
use Prim.Native.Nat.{ℕ, zero, suc, ◌+◌, ◌-◌, ◌*◌, ◌%◌, ◌<◌, ◌≤◌, min}
use native.Mathlib.Decide.{dec_lt, ℕ_discrete}
use native.Mathlib.Nat.{mod-lt}
use native.Mathlib.Numerals.{add-one}
use native.Mathlib.Omega.{arith}
use mathlib.Core.Path.{◌≡◌, refl, sym, ap, ◌∙◌}
use mathlib.Core.Bool.{Bool, true, false, ◌&&◌, cond}
use mathlib.Core.Logic.{◌⊎◌, inl, inr, ⊎_elim}
use mathlib.Core.List.{List, [], ◌∷◌, ◌++◌}
use borrow.Author.Count.{below_more}
use borrow.Author.Tests.{ltb-true, lt-ltb, le-ltb, eq-eqb, ne_eqb}
use lib.Dec.{eqb, ltb}
use lib.ListN.{length, get_or, set, replicate, length-set, length-append, get_or-append}
use lib.Seq.{get_or-set_same, get_or-set_other}
use lib.Ieee.{Float}
use Rattle.numbers.specs.declared.C64.{C64}
use Rattle.numbers.specs.Complex.{one_f}
use Rattle.lattice.specs.declared.levels.Three.{Three}
use Rattle.lattice.specs.declared.line.Line.{Line}
use Rattle.lattice.specs.declared.lattice.Edges.{Edges}
use Rattle.lattice.specs.Grid.{n_of, Limits}
use Rattle.lattice.specs.Lattice.{FullLattice, edges_of, is_wall}
use Rattle.numbers.specs.Lists.{tabulate, before, laid_by}
use Rattle.lattice.specs.Levels.{target, line_at, three_at}
use Rattle.lattice.specs.Line.{packed, ends_of, coarser_ends, nodes_of, Held, LineOver}
use Rattle.lattice.specs.Stretched.{across_map}
use Rattle.lattice.proofs.GridLaws.{n_most}
use Rattle.lattice.proofs.LevelLaws.{line_over}
use Rattle.lattice.proofs.LineLaws.{length_ends, ends_at, ends_packed, over_held, length_nodes, nodes_at_lem}
use Rattle.numbers.proofs.ListLaws.{Puts, puts_read, rises_below, laid_none, laid_append}
use Rattle.numbers.proofs.TabulateLaws.{length_tabulate}
use Rattle.weights.specs.TwoLevels.{TwoLevels, fine_line, coarse_line, fine_cells, coarse_cells, two_of}
use Rattle.weights.specs.Tables.{lines_in}
use Rattle.numbers.proofs.Equations.{tabulate_zero, tabulate_suc, laid_by_nil, laid_by_cons}
use Rattle.lattice.proofs.Equations.{edges_of_0, edges_of_1, edges_of_2, line_at_suc, three_at_is}
use Rattle.weights.proofs.Equations.{fine_cells_is, coarse_cells_is, lines_in_0, lines_in_1, lines_in_2}
use Rattle.weights.proofs.PairLaws.{node_below, node_most, paired_at}
use Rattle.operators.specs.declared.averaged.Hat.{Hat}
use Rattle.operators.specs.Averaged.{hat_weight, wrapped_place, walk, node_in, hat_place, node_before, lower_hats, hat_above, upper_hats, around, hats_around, HatsLaid, NodesFrom, no_hat, hat_at, hats_in, Hats, AxisHats, LinePair, PairedLines}
use Rattle.operators.proofs.NeighbourSpots.{low3}
use Rattle.numbers.proofs.ElementLaws.{laid_long, laid_apart, before_reached}
use Rattle.lattice.proofs.PlaceLaws.{cells_packed}
use Rattle.weights.proofs.LevelLines.{two_base, two_fine, two_coarse}

-- ---- hats laid over a list

-- a list of hats as places
hat_puts : Puts set hat_at length
hat_puts = record { keeps = length-set; same = λ xs k v. get_or-set_same xs k v no_hat; other = λ xs k j v. get_or-set_other xs k j v no_hat }

-- the list keeps its length
pub hats_same : {xs ys : List Hat} {k r : ℕ} {hs : List Hat} → HatsLaid xs k hs ys r → length ys ≡ length xs
hats_same {xs} {k = k} {hs = hs} p = ap length p.list ∙ laid_long xs k hs

-- the same hats by another name
pub hats_as : {xs ys : List Hat} {k r : ℕ} {hs gs : List Hat} → HatsLaid xs k hs ys r → hs ≡ gs → HatsLaid xs k gs ys r
hats_as p e = rw e at p

-- a loop that lays hats: what is left, laid from here, comes to what the whole gives from the start
pub record HatsLeft (xs₀ : List Hat) (from : ℕ) (whole : List Hat) (xs : List Hat) (k : ℕ) (rest : List Hat) : Type 0 where
  pub long : length xs ≡ length xs₀
  pub same : laid_by set xs k rest ≡ laid_by set xs₀ from whole
  pub ends : k + length rest ≡ from + length whole

left_start : {xs : List Hat} {k : ℕ} {hs : List Hat} → HatsLeft xs k hs xs k hs
left_start = record { long = refl; same = refl; ends = refl }

left_one : {xs₀ xs ys : List Hat} {from k r : ℕ} {whole : List Hat} (h : Hat) (rest : List Hat)
    → HatsLeft xs₀ from whole xs k (h ∷ rest) → HatsLaid xs k (h ∷ []) ys r → HatsLeft xs₀ from whole ys r rest
left_one {xs₀} {xs} {ys} {from} {k} {r} h rest p q =
    let e : r ≡ suc k = omega (arith, q.next) in
    let u : ys ≡ set xs k h = q.list ∙ laid_by_cons set xs k h [] ∙ laid_by_nil set (set xs k h) (suc k) in
    record {
      long = ap length u ∙ length-set xs k h ∙ p.long;
      same = (λ i. laid_by set (u i) (e i) rest) ∙ sym (laid_by_cons set xs k h rest) ∙ p.same;
      ends = omega (arith, p.ends);
    }

left_end : {xs₀ xs : List Hat} {from k : ℕ} {whole : List Hat} → HatsLeft xs₀ from whole xs k [] → HatsLaid xs₀ from whole xs k
left_end {xs = xs} {k = k} p = record { list = sym (laid_by_nil set xs k) ∙ p.same; next = omega (arith, p.ends) }

-- ---- hats read back

hats_read : (xs : List Hat) (k : ℕ) (hs : List Hat) → k + length hs ≤ length xs → hats_in (laid_by set xs k hs) k (length hs) ≡ hs
unfolding hats_in
hats_read xs k hs h = puts_read hat_puts xs k hs h

-- two lists that agree where the hats stand
hats_agree : (xs ys : List Hat) (k n : ℕ) → ((i : ℕ) → k ≤ i → i < k + n → hat_at ys i ≡ hat_at xs i) → hats_in ys k n ≡ hats_in xs k n
unfolding hats_in
hats_agree xs ys k zero p = rw (tabulate_zero (hat_at ys) k, tabulate_zero (hat_at xs) k)
hats_agree xs ys k (suc n) p =
    let here : hat_at ys k ≡ hat_at xs k = p k (omega arith) (omega arith) in
    let rest : tabulate (hat_at ys) n (suc k) ≡ tabulate (hat_at xs) n (suc k) = hats_agree xs ys (suc k) n (λ i a b. p i (omega arith) (omega arith)) in
    rw (tabulate_suc (hat_at ys) n k, tabulate_suc (hat_at xs) n k) (λ i. here i ∷ rest i)

-- ---- nodes below b

unfoldable pub Below : ℕ → List Hat → Type 0
Below b [] = Unit {0}
Below b (h ∷ hs) = (h.node < b) × Below b hs

below_append : (b : ℕ) (hs gs : List Hat) → Below b hs → Below b gs → Below b (hs ++ gs)
unfolding Below
below_append b [] gs p q = q
below_append b (h ∷ hs) gs p q = (p.0, below_append b hs gs p.1 q)

pub below_in : (b : ℕ) (xs : List Hat) (k n : ℕ) → Below b (hats_in xs k n) → (i q : ℕ) → i ≡ k + q → q < n → (hat_at xs i).node < b
unfolding Below hats_in
below_in b xs k zero p i q e h = absurd (omega arith)
below_in b xs k (suc n) p i zero e h = let d : i ≡ k = omega arith in rw d (rw (tabulate_suc (hat_at xs) n k) at p).0
below_in b xs k (suc n) p i (suc q) e h = below_in b xs (suc k) n (rw (tabulate_suc (hat_at xs) n k) at p).1 i q (omega arith) (omega arith)

-- ---- the walk over lower neighbours

-- past the last node of the line, no place lies before the line's end
wrapped_past : (es : List ℕ) (q : ℕ) → length es - 1 ≤ q → get_or es (length es - 1) 0 ≤ wrapped_place es q
unfolding wrapped_place
wrapped_past es q h = rw (le-ltb q (length es - 1) h) (omega arith)

module _ (es : List ℕ) (at width : ℕ) where
  walk_turn : (n q : ℕ) → wrapped_place es q < at
      → walk es at width (suc n) q ≡ record { node = q % (length es - 1); weight = hat_weight (at - wrapped_place es q) width } ∷ walk es at width n (suc q)
  unfolding walk
  walk_turn n q h = rw (lt-ltb (wrapped_place es q) at h)

  walk_stop : (n q : ℕ) → at ≤ wrapped_place es q → walk es at width n q ≡ []
  unfolding walk
  walk_stop zero q h = refl
  walk_stop (suc n) q h = rw (le-ltb (wrapped_place es q) at h)

  -- it stops at the line's end
  walk_most : at ≤ get_or es (length es - 1) 0 → (n q : ℕ) → length (walk es at width n q) ≤ length es - 1 - q
  unfolding walk
  walk_most h zero q = omega arith
  walk_most h (suc n) q = go (ltb (wrapped_place es q) at) refl (walk_most h n (suc q))
    where
      go : (b : Bool) → ltb (wrapped_place es q) at ≡ b → length (walk es at width n (suc q)) ≤ length es - 1 - suc q
          → length (cond b (record { node = q % (length es - 1); weight = hat_weight (at - wrapped_place es q) width } ∷ walk es at width n (suc q)) []) ≤ length es - 1 - q
      go false e k = omega arith
      go true e k = inside (dec_lt q (length es - 1))
        where
          low : wrapped_place es q < at
          low = ltb-true (wrapped_place es q) at e

          inside : Dec (q < length es - 1) → suc (length (walk es at width n (suc q))) ≤ length es - 1 - q
          inside (yes b) = omega arith
          inside (no b) = absurd (omega (arith, h, low, wrapped_past es q (omega arith)))

  walk_below : 0 < length es - 1 → (n q : ℕ) → Below (length es - 1) (walk es at width n q)
  unfolding walk Below
  walk_below h zero q = tt
  walk_below h (suc n) q = go (ltb (wrapped_place es q) at) (walk_below h n (suc q))
    where
      go : (b : Bool) → Below (length es - 1) (walk es at width n (suc q))
          → Below (length es - 1) (cond b (record { node = q % (length es - 1); weight = hat_weight (at - wrapped_place es q) width } ∷ walk es at width n (suc q)) [])
      go false p = tt
      go true p = (mod-lt q h, p)

-- ---- by a record that holds the line

module _ {l : Line} (held : Held l) where
  pub ends_cells : length (ends_of l) - 1 ≡ l.cells
  ends_cells = omega (arith, length_ends l held)

  pub wrapped_inside : (q : ℕ) → q < l.cells → get_or l.ends q 0 ≡ wrapped_place (ends_of l) q
  unfolding wrapped_place
  wrapped_inside q h = rw (ends_cells, lt-ltb q l.cells h) (sym (ends_at l q (omega arith)))

  pub wrapped_beyond : (q : ℕ) → l.cells ≤ q → get_or l.ends l.cells 0 + get_or l.ends (q % l.cells) 0 ≡ wrapped_place (ends_of l) q
  unfolding wrapped_place
  wrapped_beyond q h =
      let b : q % l.cells < l.cells = mod-lt q held.some in
      rw (ends_cells, le-ltb q l.cells h, ends_at l l.cells (omega arith), ends_at l (q % l.cells) (omega arith))

  pub wrapped_index : (q : ℕ) → q % l.cells < 64
  wrapped_index q = let b : q % l.cells < l.cells = mod-lt q held.some in omega (arith, held.most)

  pub wrapped_sum : (q : ℕ) → get_or l.ends l.cells 0 + get_or l.ends (q % l.cells) 0 < 258
  wrapped_sum q =
      let b : q % l.cells < l.cells = mod-lt q held.some in
      omega (arith, held.low l.cells (omega arith), held.low (q % l.cells) (omega arith))

  -- a place below the line's end is that of a node before the last
  pub wrapped_before : (at q : ℕ) → at ≤ get_or l.ends l.cells 0 → wrapped_place (ends_of l) q < at → q < l.cells
  wrapped_before at q h p = go (dec_lt q l.cells)
    where
      go : Dec (q < l.cells) → q < l.cells
      go (yes b) = b
      go (no b) = absurd (omega (arith, h, p, wrapped_beyond q (omega arith)))

-- ---- the loop of the walk, at node q

pub record Walking (f : Line) (at width first : ℕ) (xs₀ : List Hat) (from : ℕ) (xs : List Hat) (k q : ℕ) : Type 0 where
  pub begun : first ≤ q
  pub high : q ≤ f.cells
  pub next : k ≡ from + (q - first)
  pub left : HatsLeft xs₀ from (walk (ends_of f) at width f.cells first) xs k (walk (ends_of f) at width (f.cells - (q - first)) q)

module _ {f : Line} {at width first : ℕ} {xs₀ : List Hat} {from : ℕ} where
  pub walking_start : first ≤ f.cells → Walking f at width first xs₀ from xs₀ from first
  walking_start h =
      let e : f.cells - (first - first) ≡ f.cells = omega arith in
      record { begun = omega arith; high = h; next = omega arith; left = rw e left_start }

  -- a node below: its hat is laid
  pub walking_turn : {xs ys : List Hat} {k q r place : ℕ} {w : Float} → Held f → 1 ≤ first → at ≤ get_or f.ends f.cells 0
      → Walking f at width first xs₀ from xs k q → place ≡ wrapped_place (ends_of f) q → place < at → w ≡ hat_weight (at - place) width
      → HatsLaid xs k (record { node = q % f.cells; weight = w } ∷ []) ys r → Walking f at width first xs₀ from ys r (q + 1)
  walking_turn {xs} {ys} {k} {q} {r} {place} {w} held a b p e h g o =
      let low : q < f.cells = wrapped_before held at q b (rw (← e) h) in
      let n : f.cells - (q - first) ≡ suc (f.cells - (q + 1 - first)) = omega (arith, p.begun) in
      let rest : List Hat = walk (ends_of f) at width (f.cells - (q + 1 - first)) (q + 1) in
      let t : walk (ends_of f) at width (f.cells - (q - first)) q ≡ record { node = q % f.cells; weight = w } ∷ rest =
      rw (n, walk_turn (ends_of f) at width (f.cells - (q + 1 - first)) q (rw (← e) h), ends_cells held, ← e, ← g, ← add-one q) refl in
      record {
        begun = omega (arith, p.begun);
        high = omega arith;
        next = omega (arith, p.begun, p.next, o.next);
        left = left_one (record { node = q % f.cells; weight = w }) rest (rw t at p.left) o;
      }

  -- the first that is not below
  pub walking_end : {xs : List Hat} {k q place : ℕ} → Walking f at width first xs₀ from xs k q → place ≡ wrapped_place (ends_of f) q → at ≤ place
      → HatsLaid xs₀ from (walk (ends_of f) at width f.cells first) xs k
  walking_end {xs} {k} {q} {place} p e h =
      left_end (rw (walk_stop (ends_of f) at width (f.cells - (q - first)) q (omega arith)) at p.left)

-- ---- the loop over the nodes above, at node q

pub record Climbing (f : Line) (at width first last : ℕ) (xs₀ : List Hat) (from : ℕ) (xs : List Hat) (k q : ℕ) : Type 0 where
  pub begun : first ≤ q
  pub next : k ≡ from + (q - first)
  pub left : HatsLeft xs₀ from (tabulate (hat_above (ends_of f) at width) (last - first) first) xs k (tabulate (hat_above (ends_of f) at width) (last - q) q)

module _ {f : Line} {at width first last : ℕ} {xs₀ : List Hat} {from : ℕ} where
  pub climbing_start : Climbing f at width first last xs₀ from xs₀ from first
  climbing_start = record { begun = omega arith; next = omega arith; left = left_start }

  pub climbing_turn : {xs ys : List Hat} {k q r : ℕ} {w : Float} → last ≤ f.cells
      → Climbing f at width first last xs₀ from xs k q → q < last → w ≡ hat_weight (get_or f.ends q 0 - at) width
      → HatsLaid xs k (record { node = q; weight = w } ∷ []) ys r → Climbing f at width first last xs₀ from ys r (q + 1)
  unfolding hat_above
  climbing_turn {xs} {ys} {k} {q} {r} {w} a p h g o =
      let n : last - q ≡ suc (last - (q + 1)) = omega arith in
      let rest : List Hat = tabulate (hat_above (ends_of f) at width) (last - (q + 1)) (q + 1) in
      let t : tabulate (hat_above (ends_of f) at width) (last - q) q ≡ record { node = q; weight = w } ∷ rest =
      rw (n, tabulate_suc (hat_above (ends_of f) at width) (last - (q + 1)) q, ends_at f q (omega arith), ← g, ← add-one q) refl in
      record {
        begun = omega (arith, p.begun);
        next = omega (arith, p.begun, p.next, o.next);
        left = left_one (record { node = q; weight = w }) rest (rw t at p.left) o;
      }

  pub climbing_end : {xs : List Hat} {k q : ℕ} → Climbing f at width first last xs₀ from xs k q → last ≤ q
      → HatsLaid xs₀ from (tabulate (hat_above (ends_of f) at width) (last - first) first) xs k
  climbing_end {xs} {k} {q} p h =
      let n : last - q ≡ 0 = omega arith in
      left_end (rw (n, tabulate_zero (hat_above (ends_of f) at width) q) at p.left)

-- ---- a fine line and a coarse one

tabulate_below : (b : ℕ) (es : List ℕ) (at width n q : ℕ) → q + n ≤ b → Below b (tabulate (hat_above es at width) n q)
unfolding Below hat_above
tabulate_below b es at width zero q h = rw (tabulate_zero (hat_above es at width) q) tt
tabulate_below b es at width (suc n) q h =
    rw (tabulate_suc (hat_above es at width) n q) (omega arith, tabulate_below b es at width n (suc q) (omega arith))

module _ {f c : Line} (pair : LinePair f c) where
  coarse_rise : (i j : ℕ) → i < j → j ≤ c.cells → get_or c.ends i 0 < get_or c.ends j 0
  coarse_rise i j h k =
      let e : length (ends_of c) ≡ c.cells + 1 = length_ends c pair.coarse_held in
      let up : get_or (ends_of c) i 0 < get_or (ends_of c) j 0 = rises_below (ends_of c) pair.coarse_rises i j h (omega arith) in
      omega (arith, ends_at c i (omega arith), ends_at c j k)

  coarse_most : (j : ℕ) → j ≤ c.cells → get_or c.ends j 0 ≤ get_or f.ends f.cells 0
  coarse_most j h = go (dec_lt j c.cells)
    where
      go : Dec (j < c.cells) → get_or c.ends j 0 ≤ get_or f.ends f.cells 0
      go (yes b) = omega (arith, coarse_rise j c.cells b (omega arith), pair.last)
      go (no b) = let e : j ≡ c.cells = omega arith in rw e pair.last

  -- the walk back from coarse place j to coarse node i
  abbrev walk_back : ℕ → ℕ → List Hat
  walk_back i j = walk (ends_of f) (get_or c.ends j 0) (get_or c.ends j 0 - get_or c.ends i 0) f.cells (node_in (ends_of f) (ends_of c) i + 1)

  lower_walk : (wall : Bool) (m i j : ℕ) → i < c.cells → j ≤ c.cells → (eqb m 0 && wall) ≡ false → cond (eqb m 0) c.cells m ≡ j
      → cond (eqb m 0) (c.cells - 1) (m - 1) ≡ i → walk_back i j ≡ lower_hats wall (ends_of f) (ends_of c) m
  unfolding lower_hats hat_place node_before
  lower_walk wall m i j h k e p q =
      rw (e, ends_cells pair.coarse_held, ends_cells pair.fine_held, p, q, ends_at c j k, ends_at c i (omega arith))

  lower_zero : (m : ℕ) → m ≡ 0 → lower_hats true (ends_of f) (ends_of c) m ≡ []
  unfolding lower_hats
  lower_zero m e = rw (eq-eqb m 0 e)

  lower_first : (m : ℕ) → m ≡ 0 → walk_back (c.cells - 1) c.cells ≡ lower_hats false (ends_of f) (ends_of c) m
  lower_first m e =
      lower_walk false m (c.cells - 1) c.cells (omega (arith, pair.coarse_held.some)) (omega arith)
      (rw (eq-eqb m 0 e)) (rw (eq-eqb m 0 e)) (rw (eq-eqb m 0 e))

  lower_later : (wall : Bool) (m : ℕ) → m < c.cells → (m ≡ 0 → ⊥) → walk_back (m - 1) m ≡ lower_hats wall (ends_of f) (ends_of c) m
  lower_later wall m h e =
      lower_walk wall m (m - 1) m (omega arith) (omega arith) (rw (ne_eqb m 0 e)) (rw (ne_eqb m 0 e)) (rw (ne_eqb m 0 e))

  -- what holds of no hats and of each walk holds of the nodes below a node
  lower_each : (P : List Hat → Type 0) → P [] → ((i j : ℕ) → i < j → j ≤ c.cells → P (walk_back i j))
      → (wall : Bool) (m : ℕ) → m < c.cells → P (lower_hats wall (ends_of f) (ends_of c) m)
  lower_each P none each wall m h = go wall (ℕ_discrete m 0)
    where
      go : (wall : Bool) → Dec (m ≡ 0) → P (lower_hats wall (ends_of f) (ends_of c) m)
      go true (yes e) = rw (lower_zero m e) none
      go false (yes e) = rw (← lower_first m e) (each (c.cells - 1) c.cells (omega (arith, pair.coarse_held.some)) (omega arith))
      go wall (no e) = rw (← lower_later wall m h e) (each (m - 1) m (omega arith) (omega arith))

  lower_most : (wall : Bool) (m : ℕ) → m < c.cells → length (lower_hats wall (ends_of f) (ends_of c) m) ≤ 63
  lower_most =
      lower_each (λ (hs : List Hat). length hs ≤ 63) (omega arith)
      (λ i j h k.
      let e : length (ends_of f) - 1 ≡ f.cells = ends_cells pair.fine_held in
      let top : get_or c.ends j 0 ≤ get_or (ends_of f) (length (ends_of f) - 1) 0 = rw (e, ends_at f f.cells (omega arith)) (coarse_most j k) in
      omega (
        arith,
        pair.fine_held.most,
        walk_most (ends_of f) (get_or c.ends j 0) (get_or c.ends j 0 - get_or c.ends i 0) top f.cells (node_in (ends_of f) (ends_of c) i + 1),
      ))

  lower_below : (wall : Bool) (m : ℕ) → m < c.cells → Below (length (ends_of f) - 1) (lower_hats wall (ends_of f) (ends_of c) m)
  unfolding Below
  lower_below =
      lower_each (Below (length (ends_of f) - 1)) tt
      (λ i j h k. walk_below (ends_of f) (get_or c.ends j 0) (get_or c.ends j 0 - get_or c.ends i 0)
      (omega (arith, ends_cells pair.fine_held, pair.fine_held.some)) f.cells (node_in (ends_of f) (ends_of c) i + 1))

  -- up to the next coarse node, which is on the line
  upper_is : (m : ℕ) → m < c.cells
      → tabulate (hat_above (ends_of f) (get_or c.ends m 0) (get_or c.ends (m + 1) 0 - get_or c.ends m 0))
      (node_in (ends_of f) (ends_of c) (m + 1) - (node_in (ends_of f) (ends_of c) m + 1)) (node_in (ends_of f) (ends_of c) m + 1)
      ≡ upper_hats (ends_of f) (ends_of c) m
  unfolding upper_hats
  upper_is m h =
      let e : min (node_in (ends_of f) (ends_of c) (m + 1)) (length (ends_of f) - 1) ≡ node_in (ends_of f) (ends_of c) (m + 1) =
      omega (arith, ends_cells pair.fine_held, pair.ended (m + 1) (omega arith)) in
      rw (e, ends_at c m (omega arith), ends_at c (m + 1) (omega arith))

  upper_most : (m : ℕ) → m < c.cells → length (upper_hats (ends_of f) (ends_of c) m) ≤ 63
  upper_most m h =
      rw (← upper_is m h)
      (omega (
        arith,
        pair.fine_held.most,
        pair.ended (m + 1) (omega arith),
        length_tabulate (hat_above (ends_of f) (get_or c.ends m 0) (get_or c.ends (m + 1) 0 - get_or c.ends m 0))
            (node_in (ends_of f) (ends_of c) (m + 1) - (node_in (ends_of f) (ends_of c) m + 1)) (node_in (ends_of f) (ends_of c) m + 1),
      ))

  upper_below : (m : ℕ) → m < c.cells → Below (length (ends_of f) - 1) (upper_hats (ends_of f) (ends_of c) m)
  unfolding Below
  upper_below m h =
      let k = node_in (ends_of f) (ends_of c) m in
      let n = node_in (ends_of f) (ends_of c) (m + 1) in
      rw (← upper_is m h)
      (go (dec_lt k n) (omega (arith, ends_cells pair.fine_held, pair.ended (m + 1) (omega arith))))
    where
      go : Dec (node_in (ends_of f) (ends_of c) m < node_in (ends_of f) (ends_of c) (m + 1)) → node_in (ends_of f) (ends_of c) (m + 1) ≤ length (ends_of f) - 1
          → Below (length (ends_of f) - 1) (tabulate (hat_above (ends_of f) (get_or c.ends m 0) (get_or c.ends (m + 1) 0 - get_or c.ends m 0))
          (node_in (ends_of f) (ends_of c) (m + 1) - (node_in (ends_of f) (ends_of c) m + 1)) (node_in (ends_of f) (ends_of c) m + 1))
      go (yes b) t = tabulate_below (length (ends_of f) - 1) (ends_of f) (get_or c.ends m 0) (get_or c.ends (m + 1) 0 - get_or c.ends m 0)
          (node_in (ends_of f) (ends_of c) (m + 1) - (node_in (ends_of f) (ends_of c) m + 1)) (node_in (ends_of f) (ends_of c) m + 1) (omega arith)
      go (no b) t = let e : node_in (ends_of f) (ends_of c) (m + 1) - (node_in (ends_of f) (ends_of c) m + 1) ≡ 0 = omega arith in rw (e, tabulate_zero) tt

  -- at most 127, each on the line
  pub around_most : (wall : Bool) (m : ℕ) → m < c.cells → length (around wall (ends_of f) (ends_of c) m) ≤ 127
  unfolding around
  around_most wall m h =
      omega (
        arith,
        lower_most wall m h,
        upper_most m h,
        length-append (lower_hats wall (ends_of f) (ends_of c) m) (record { node = node_in (ends_of f) (ends_of c) m; weight = one_f } ∷ upper_hats (ends_of f) (ends_of c) m),
      )

  pub around_below : (wall : Bool) (m : ℕ) → m < c.cells → Below (length (ends_of f) - 1) (around wall (ends_of f) (ends_of c) m)
  unfolding around Below
  around_below wall m h =
      below_append (length (ends_of f) - 1) (lower_hats wall (ends_of f) (ends_of c) m) (record { node = node_in (ends_of f) (ends_of c) m; weight = one_f } ∷ upper_hats (ends_of f) (ends_of c) m)
      (lower_below wall m h) (omega (arith, ends_cells pair.fine_held, pair.nested m h), upper_below m h)

  pub width_most : (i j : ℕ) → i < j → j ≤ c.cells → (get_or c.ends i 0 ≤ get_or c.ends j 0) × (get_or c.ends j 0 - get_or c.ends i 0 ≤ 256)
  width_most i j h k =
      (omega (arith, coarse_rise i j h k), omega (arith, pair.coarse_held.low j k))

  -- none before a wall
  pub lower_wall : {xs : List Hat} {from : ℕ} (wall : Bool) (m : ℕ) → m ≡ 0 → wall ≡ true → HatsLaid xs from (lower_hats wall (ends_of f) (ends_of c) m) xs from
  lower_wall wall m e p = rw (p, lower_zero m e) laid_none

  -- where the nodes below end
  pub lower_next : {xs ys : List Hat} {from r : ℕ} (wall : Bool) (m : ℕ) → m < c.cells
      → HatsLaid xs from (lower_hats wall (ends_of f) (ends_of c) m) ys r → r ≤ from + 63
  lower_next wall m h p = omega (arith, p.next, lower_most wall m h)

  -- ---- as the code has them, the numbers of the coarse nodes in a list

  -- those that are worked out from the lines
  pub nodes_from : {nn : List ℕ} → nn ≡ nodes_of (ends_of f) (ends_of c) ++ replicate (64 - c.cells) 0 → NodesFrom (ends_of f) (ends_of c) c.cells nn 0
  unfolding node_in
  nodes_from {nn} e =
      let n : length (nodes_of (ends_of f) (ends_of c)) ≡ c.cells + 1 = length_nodes (ends_of f) (ends_of c) ∙ length_ends c pair.coarse_held in
      record {
        room = omega (arith, ap length e, length-append (nodes_of (ends_of f) (ends_of c)) (replicate (64 - c.cells) 0));
        each_is = λ m h.
            let o : 0 + m ≡ m = omega arith in
            rw (o, e) (get_or-append (nodes_of (ends_of f) (ends_of c)) (replicate (64 - c.cells) 0) 0 m (omega arith));
      }

  module _ {nn : List ℕ} {o : ℕ} (numbers : NodesFrom (ends_of f) (ends_of c) c.cells nn o) where
    -- the number of node m, at place i
    number_at_lem : (m : ℕ) {i : ℕ} → i ≡ o + m → m ≤ c.cells → get_or nn i 0 ≡ node_in (ends_of f) (ends_of c) m
    number_at_lem m e h = rw e (numbers.each_is m h)

    pub number_most : (m : ℕ) {i : ℕ} → i ≡ o + m → m ≤ c.cells → get_or nn i 0 ≤ f.cells
    number_most m e h = rw (number_at_lem m e h) (pair.ended m h)

    pub number_below : (m : ℕ) {i : ℕ} → i ≡ o + m → m < c.cells → get_or nn i 0 < f.cells
    number_below m e h = rw (number_at_lem m e (omega arith)) (pair.nested m h)

    -- what the walk asks for
    pub walk_ready : (m j : ℕ) {i : ℕ} → i ≡ o + m → m < j → j ≤ c.cells
        → (1 ≤ get_or nn i 0 + 1) × (get_or nn i 0 + 1 ≤ f.cells) × (get_or c.ends j 0 ≤ get_or f.ends f.cells 0) × (get_or c.ends j 0 - get_or c.ends m 0 ≤ 256)
    walk_ready m j e h k = (omega arith, omega (arith, number_below m e (omega arith)), coarse_most j k, (width_most m j h k).1)

    -- a fine node behind coarse node m lies no lower
    pub upper_place : (m q : ℕ) → m < c.cells → get_or nn (o + m) 0 + 1 ≤ q → q < get_or nn (o + m + 1) 0 → get_or c.ends m 0 ≤ get_or f.ends q 0
    unfolding node_in
    upper_place m q h a b =
        let es = ends_of f in
        let e : length es ≡ f.cells + 1 = length_ends f pair.fine_held in
        let k : ℕ = before (get_or (ends_of c) m 0) es in
        let n : get_or nn (o + m) 0 ≡ k = number_at_lem m refl (omega arith) ∙ nodes_at_lem es (ends_of c) m (omega (arith, length_ends c pair.coarse_held)) in
        let r : get_or (ends_of c) m 0 ≤ get_or es k 0 = before_reached (get_or (ends_of c) m 0) es (omega (arith, number_below m refl h)) in
        let t : get_or nn (o + m + 1) 0 ≤ f.cells = number_most (m + 1) (omega arith) (omega arith) in
        let up : get_or es k 0 < get_or es q 0 = rises_below es pair.fine_rises k q (omega arith) (omega arith) in
        omega (arith, ends_at c m (omega arith), ends_at f q (omega arith))

    module _ {xs ys : List Hat} {from r : ℕ} where
      pub lower_around : (wall : Bool) (m : ℕ) {i : ℕ} → i ≡ o + (c.cells - 1) → m ≡ 0 → wall ≡ false
          → HatsLaid xs from (walk (ends_of f) (get_or c.ends c.cells 0) (get_or c.ends c.cells 0 - get_or c.ends (c.cells - 1) 0) f.cells (get_or nn i 0 + 1)) ys r
          → HatsLaid xs from (lower_hats wall (ends_of f) (ends_of c) m) ys r
      lower_around wall m d e p w = rw (p, ← lower_first m e, ← number_at_lem (c.cells - 1) d (omega arith)) w

      pub lower_inside : (wall : Bool) (m : ℕ) {i : ℕ} → i ≡ o + (m - 1) → m < c.cells → (m ≡ 0 → ⊥)
          → HatsLaid xs from (walk (ends_of f) (get_or c.ends m 0) (get_or c.ends m 0 - get_or c.ends (m - 1) 0) f.cells (get_or nn i 0 + 1)) ys r
          → HatsLaid xs from (lower_hats wall (ends_of f) (ends_of c) m) ys r
      lower_inside wall m d h e w = rw (← lower_later wall m h e, ← number_at_lem (m - 1) d (omega arith)) w

    -- the nodes below, the node, the nodes above
    pub around_laid : {xs xs₁ xs₂ xs₃ : List Hat} {from k k₁ r : ℕ} (wall : Bool) (m : ℕ) → m < c.cells
        → HatsLaid xs from (lower_hats wall (ends_of f) (ends_of c) m) xs₁ k
        → HatsLaid xs₁ k (record { node = get_or nn (o + m) 0; weight = one_f } ∷ []) xs₂ k₁
        → HatsLaid xs₂ k₁ (tabulate (hat_above (ends_of f) (get_or c.ends m 0) (get_or c.ends (m + 1) 0 - get_or c.ends m 0)) (get_or nn (o + m + 1) 0 - (get_or nn (o + m) 0 + 1)) (get_or nn (o + m) 0 + 1)) xs₃ r
        → HatsLaid xs from (around wall (ends_of f) (ends_of c) m) xs₃ r
    unfolding around
    around_laid wall m h p q u =
        let d : o + m + 1 ≡ o + (m + 1) = omega arith in
        laid_append p
        (laid_append (rw (number_at_lem m refl (omega arith)) at q)
        (hats_as (rw (number_at_lem m refl (omega arith), number_at_lem (m + 1) d (omega arith)) at u) (upper_is m h)))

-- ---- the lists of an axis: node m has the 128 places of block 64 a + m

-- a block that is not laid over stays as it is
pub block_apart : {xs ys : List Hat} {b r : ℕ} {hs : List Hat} → HatsLaid xs (128 * b) hs ys r → length hs ≤ 127 → (d q : ℕ) → (d ≡ b → ⊥) → q < 128
    → hat_at ys (128 * d + q) ≡ hat_at xs (128 * d + q)
block_apart {xs} {b = b} {hs = hs} p few d q e h =
    ap (λ (l : List Hat). hat_at l (128 * d + q)) p.list ∙ laid_apart xs (128 * b) hs (128 * d + q) no_hat (λ i c o. e (omega arith))

-- a block that is laid over
pub block_read : {xs ys : List Hat} {r : ℕ} {hs : List Hat} (b : ℕ) → HatsLaid xs (128 * b) hs ys r → length hs ≤ 127
    → 128 * b + 128 ≤ length xs → hats_in ys (128 * b) (length hs) ≡ hs
block_read {xs} {hs = hs} b p few a = ap (λ (l : List Hat). hats_in l (128 * b) (length hs)) p.list ∙ hats_read xs (128 * b) hs (omega arith)

-- a block is the same in two lists
pub block_same : (xs ys : List Hat) (b n : ℕ) → n ≤ 127 → ((q : ℕ) → q < 128 → hat_at ys (128 * b + q) ≡ hat_at xs (128 * b + q))
    → hats_in ys (128 * b) n ≡ hats_in xs (128 * b) n
block_same xs ys b n few p =
    hats_agree xs ys (128 * b) n
    (λ i h k. let e : 128 * b + (i - 128 * b) ≡ i = omega arith in rw e at (p (i - 128 * b) (omega arith)))

-- what the lists of an axis say of its first n nodes
record AxisDone (wall : Bool) (es cs : List ℕ) (a n : ℕ) (xs : List Hat) (ks : List ℕ) : Type 0 where
  few : (m : ℕ) → m < n → get_or ks (64 * a + m) 0 ≤ 127
  are : (m : ℕ) → m < n → hats_in xs (128 * (64 * a + m)) (get_or ks (64 * a + m) 0) ≡ around wall es cs m

done_of : {wall : Bool} {es cs : List ℕ} {a n : ℕ} {xs₀ xs : List Hat} {ks₀ ks : List ℕ} → AxisHats wall es cs a n xs₀ ks₀ xs ks → AxisDone wall es cs a n xs ks
done_of p = record { few = p.few; are = p.hats_are }

-- they are still there where those blocks are the same
done_kept : {wall : Bool} {es cs : List ℕ} {a n : ℕ} {xs ys : List Hat} {ks ks' : List ℕ} → AxisDone wall es cs a n xs ks
    → ((m : ℕ) → m < n → get_or ks' (64 * a + m) 0 ≡ get_or ks (64 * a + m) 0)
    → ((m q : ℕ) → m < n → q < 128 → hat_at ys (128 * (64 * a + m) + q) ≡ hat_at xs (128 * (64 * a + m) + q))
    → AxisDone wall es cs a n ys ks'
done_kept {wall} {es} {cs} {a} {n} {xs} {ys} {ks} {ks'} p c u =
    record {
      few = λ m h. rw (c m h) (p.few m h);
      are = λ m h. rw (c m h) (block_same xs ys (64 * a + m) (get_or ks (64 * a + m) 0) (p.few m h) (λ q b. u m q h b) ∙ p.are m h);
    }

-- the nodes of the hats that stand there are on the line
done_in : {f c : Line} {wall : Bool} {a n : ℕ} {xs : List Hat} {ks : List ℕ} → LinePair f c → n ≤ c.cells
    → AxisDone wall (ends_of f) (ends_of c) a n xs ks
    → (m q : ℕ) → m < n → q < get_or ks (64 * a + m) 0 → (hat_at xs (128 * (64 * a + m) + q)).node < length (ends_of f) - 1
done_in {f} {c} {wall} {a} {n} {xs} {ks} pair low p m q h k =
    below_in (length (ends_of f) - 1) xs (128 * (64 * a + m)) (get_or ks (64 * a + m) 0)
    (rw (p.are m h) (around_below pair wall m (omega arith))) (128 * (64 * a + m) + q) q refl k

-- ---- the loop over an axis's nodes

module _ {wall : Bool} {es cs : List ℕ} {a : ℕ} {xs₀ : List Hat} {ks₀ : List ℕ} where
  pub axis_start : AxisHats wall es cs a 0 xs₀ ks₀ xs₀ ks₀
  axis_start =
      record {
        hats_long = refl;
        counts_long = refl;
        few = λ m h. absurd (omega arith);
        hats_are = λ m h. absurd (omega arith);
        nodes_in = λ m q h k. absurd (omega arith);
        others = λ b o. refl;
        others_hat = λ b q o h. refl;
      }

  pub axis_end : {m n : ℕ} {xs : List Hat} {ks : List ℕ} → AxisHats wall es cs a m xs₀ ks₀ xs ks → m ≡ n → AxisHats wall es cs a n xs₀ ks₀ xs ks
  axis_end p e = rw e at p

module _ {f c : Line} {wall : Bool} {a : ℕ} {xs₀ : List Hat} {ks₀ : List ℕ} where
  pub axis_turn : {m r : ℕ} {xs ys : List Hat} {ks : List ℕ} → LinePair f c → a < 3
      → (length xs₀ ≡ 24576) × (length ks₀ ≡ 192)
      → AxisHats wall (ends_of f) (ends_of c) a m xs₀ ks₀ xs ks → m < c.cells
      → HatsLaid xs (128 * (64 * a + m)) (around wall (ends_of f) (ends_of c) m) ys r
      → AxisHats wall (ends_of f) (ends_of c) a (m + 1) xs₀ ks₀ ys (set ks (64 * a + m) (r - 128 * (64 * a + m)))
  axis_turn {m} {r} {xs} {ys} {ks} pair low long p h o =
      record {
        hats_long = hats_same o ∙ p.hats_long;
        counts_long = length-set ks b v ∙ p.counts_long;
        few = done.few;
        hats_are = done.are;
        nodes_in = done_in pair (omega arith) done;
        others = λ d w. get_or-set_other ks b d v 0 (apart d w) ∙ p.others d (older d w);
        others_hat = λ d q w k. block_apart o most d q (apart d w) k ∙ p.others_hat d q (older d w) k;
      }
    where
      b : ℕ
      b = 64 * a + m

      v : ℕ
      v = r - 128 * b

      hs : List Hat
      hs = around wall (ends_of f) (ends_of c) m

      most : length hs ≤ 127
      most = around_most pair wall m h

      count : v ≡ length hs
      count = omega (arith, o.next)

      cells : c.cells ≤ 64
      cells = pair.coarse_held.most

      here : get_or (set ks b v) b 0 ≡ length hs
      here = get_or-set_same ks b v 0 (omega (arith, p.counts_long, long.1)) ∙ count

      apart : (d : ℕ) → d < 64 * a ⊎ 64 * a + (m + 1) ≤ d → d ≡ b → ⊥
      apart d w e = ⊎_elim (λ k. omega arith) (λ k. omega arith) w

      older : (d : ℕ) → d < 64 * a ⊎ 64 * a + (m + 1) ≤ d → d < 64 * a ⊎ 64 * a + m ≤ d
      older d w = ⊎_elim (λ k. inl k) (λ k. inr (omega arith)) w

      kept : AxisDone wall (ends_of f) (ends_of c) a m ys (set ks b v)
      kept =
          done_kept (done_of p)
          (λ i k. get_or-set_other ks b (64 * a + i) v 0 (λ e. omega arith))
          (λ i q k l. block_apart o most (64 * a + i) q (λ e. omega arith) l)

      done : AxisDone wall (ends_of f) (ends_of c) a (m + 1) ys (set ks b v)
      done =
          record {
            few = below_more (λ (i : ℕ). get_or (set ks b v) (64 * a + i) 0 ≤ 127) m kept.few (rw here most);
            are = below_more (λ (i : ℕ). hats_in ys (128 * (64 * a + i)) (get_or (set ks b v) (64 * a + i) 0) ≡ around wall (ends_of f) (ends_of c) i) m kept.are
                (rw here (block_read b o most (omega (arith, p.hats_long, long.0))));
          }

-- ---- the three axes

-- an axis's hats are still there when a later axis's have been laid
axis_kept : {wall wall' : Bool} {es es' cs cs' : List ℕ} {a b n n' : ℕ} {xs ys : List Hat} {ks ks' : List ℕ} → n ≤ 64 → a < b
    → AxisHats wall' es' cs' b n' xs ks ys ks' → AxisDone wall es cs a n xs ks → AxisDone wall es cs a n ys ks'
axis_kept {a = a} h l q p =
    done_kept p
    (λ m k. q.others (64 * a + m) (inl (omega arith)))
    (λ m i k o. q.others_hat (64 * a + m) i (inl (omega arith)) o)

-- the lists keep their lengths
pub axis_long : {wall : Bool} {es cs : List ℕ} {a n i k : ℕ} {xs ys : List Hat} {ks ks' : List ℕ} → AxisHats wall es cs a n xs ks ys ks'
    → (length xs ≡ i) × (length ks ≡ k) → (length ys ≡ i) × (length ks' ≡ k)
axis_long p long = (p.hats_long ∙ long.0, p.counts_long ∙ long.1)

-- what the lists say of an axis of two levels
record AxisWhole (t : TwoLevels) (xs : List Hat) (ks : List ℕ) (a : ℕ) : Type 0 where
  done : AxisDone (is_wall (edges_of t.base a)) (fine_line t a) (coarse_line t a) a (coarse_cells t a) xs ks
  inside : (m q : ℕ) → m < coarse_cells t a → q < get_or ks (64 * a + m) 0 → (hat_at xs (128 * (64 * a + m) + q)).node < fine_cells t a

axis_whole : {t : TwoLevels} {xs : List Hat} {ks : List ℕ} {a : ℕ} {f c : Line} {wall : Bool} → LinePair f c
    → wall ≡ is_wall (edges_of t.base a) → ends_of f ≡ fine_line t a → ends_of c ≡ coarse_line t a
    → AxisDone wall (ends_of f) (ends_of c) a c.cells xs ks → AxisWhole t xs ks a
axis_whole {t} {xs} {ks} {a} {f} {c} {wall} pair w e d p =
    let n : c.cells ≡ length (coarse_line t a) - 1 = sym (ends_cells pair.coarse_held) ∙ ap (λ (es : List ℕ). length es - 1) d in
    record {
      done = rw (coarse_cells_is t a, ← n, ← w, ← e, ← d) p;
      inside = λ m q h k. rw (fine_cells_is t a, ← e) (done_in pair (omega arith) p m q (rw (coarse_cells_is t a, ← n) at h) k);
    }

hats_whole : {t : TwoLevels} {xs : List Hat} {ks : List ℕ} → (length xs ≡ 24576) × (length ks ≡ 192)
    → ((a : ℕ) → a < 3 → AxisWhole t xs ks a) → Hats t xs ks
unfolding hats_around
hats_whole long each =
    record {
      hats_long = long.0;
      counts_long = long.1;
      counts_few = λ a m h k. (each a h).done.few m k;
      hats_are = λ a m h k. (each a h).done.are m k;
      nodes_in = λ a m q h k o. (each a h).inside m q k o;
    }

-- the hats of each axis, laid one axis behind another
pub hats_three : {l : FullLattice} {fine coarse : Three} {wx wy wz : Bool} {xs xs₁ xs₂ xs₃ : List Hat} {ks ks₁ ks₂ ks₃ : List ℕ}
    → PairedLines l fine coarse → (length xs ≡ 24576) × (length ks ≡ 192)
    → wx ≡ is_wall l.x → wy ≡ is_wall l.y → wz ≡ is_wall l.z
    → AxisHats wx (ends_of fine.x) (ends_of coarse.x) 0 coarse.x.cells xs ks xs₁ ks₁
    → AxisHats wy (ends_of fine.y) (ends_of coarse.y) 1 coarse.y.cells xs₁ ks₁ xs₂ ks₂
    → AxisHats wz (ends_of fine.z) (ends_of coarse.z) 2 coarse.z.cells xs₂ ks₂ xs₃ ks₃
    → Hats (two_of l fine coarse) xs₃ ks₃
hats_three {l} {fine} {coarse} {wx} {wy} {wz} {xs₃ = xs₃} {ks₃ = ks₃} p long ex ey ez x y z =
    hats_whole
    (axis_long z (axis_long y (axis_long x long)))
    (low3 (AxisWhole (two_of l fine coarse) xs₃ ks₃)
    (axis_whole p.x_pair (ex ∙ wall 0 (edges_of_0 l)) (fines 0 (lines_in_0 fine)) (coarses 0 (lines_in_0 coarse))
    (axis_kept p.x_pair.coarse_held.most (omega arith) z (axis_kept p.x_pair.coarse_held.most (omega arith) y (done_of x))))
    (axis_whole p.y_pair (ey ∙ wall 1 (edges_of_1 l)) (fines 1 (lines_in_1 fine)) (coarses 1 (lines_in_1 coarse))
    (axis_kept p.y_pair.coarse_held.most (omega arith) z (done_of y)))
    (axis_whole p.z_pair (ez ∙ wall 2 (edges_of_2 l)) (fines 2 (lines_in_2 fine)) (coarses 2 (lines_in_2 coarse)) (done_of z)))
  where
    wall : {e : Edges} (a : ℕ) → edges_of l a ≡ e → is_wall e ≡ is_wall (edges_of (two_of l fine coarse).base a)
    wall a e = rw (two_base l fine coarse, e)

    fines : {es : List ℕ} (a : ℕ) → lines_in fine a ≡ es → es ≡ fine_line (two_of l fine coarse) a
    fines a e = sym (two_fine l fine coarse a ∙ e)

    coarses : {es : List ℕ} (a : ℕ) → lines_in coarse a ≡ es → es ≡ coarse_line (two_of l fine coarse) a
    coarses a e = sym (two_coarse l fine coarse a ∙ e)

-- ---- the lines of neighbouring levels

-- the last end that a record holds
last_packed : (n : ℕ) (es : List ℕ) → LineOver n es → get_or (packed es).ends (packed es).cells 0 ≡ 2 * n
last_packed n es o =
    sym (ends_at (packed es) (packed es).cells (omega arith))
    ∙ rw (ends_packed es (omega (arith, o.some)) o.most, cells_packed es) o.last

pair_of : (x : List C64) (t : Float) (n : ℕ) (es : List ℕ) → n ≤ 64 → LineOver n es → LineOver n (coarser_ends x t es)
    → LinePair (packed es) (packed (coarser_ends x t es))
unfolding node_in
pair_of x t n es h fine coarse =
    let cs : List ℕ = coarser_ends x t es in
    let e : ends_of (packed es) ≡ es = ends_packed es (omega (arith, fine.some)) fine.most in
    let d : ends_of (packed cs) ≡ cs = ends_packed cs (omega (arith, coarse.some)) coarse.most in
    record {
      fine_held = over_held n es h fine;
      coarse_held = over_held n cs h coarse;
      fine_rises = rw e fine.rises;
      coarse_rises = rw d coarse.rises;
      nested = λ m k. rw (e, d, cells_packed es) (node_below x t n es fine coarse m (rw (cells_packed cs) at k));
      ended = λ m k. rw (e, d, cells_packed es) (node_most x t n es fine coarse m (rw (cells_packed cs) at k));
      last = omega (arith, last_packed n es fine, last_packed n cs coarse);
    }

-- the lines of levels L and L + 1 of a lattice
pub pairs_at : (l : FullLattice) → Limits l.grid → (L : ℕ) → PairedLines l (three_at l L) (three_at l (suc L))
pairs_at l h L =
    record {
      paired = paired_at l L h;
      x_pair = rw (three_at_is l L, three_at_is l (suc L)) (lines 0);
      y_pair = rw (three_at_is l L, three_at_is l (suc L)) (lines 1);
      z_pair = rw (three_at_is l L, three_at_is l (suc L)) (lines 2);
    }
  where
    lines : (a : ℕ) → LinePair (packed (line_at l a L)) (packed (line_at l a (suc L)))
    lines a =
        rw (line_at_suc l a L)
        (pair_of (across_map l a) (target L) (n_of l.grid a) (line_at l a L) (n_most h a) (line_over l h a L) (rw (line_at_suc l a L) at (line_over l h a (suc L))))
