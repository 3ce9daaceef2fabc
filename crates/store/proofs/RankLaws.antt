-- The rank of each number of the store: that of the row that writes it. Ranks rise along the rows, and a row reads only numbers of lower rank. Assumes nothing.
use Prim.Native.Nat.{ℕ, zero, suc, ◌+◌, ◌-◌, ◌*◌, ◌≤◌, ◌<◌}
use mathlib.Core.Path.{◌≡◌, refl}
use mathlib.Core.Logic.{⊎_elim}
use mathlib.Core.Bool.{cond}
use mathlib.Core.List.{List, map}
use native.Mathlib.Omega.{arith}
use lib.Dec.{ltb}
use lib.ListN.{length}
use borrow.Author.Tests.{lt-ltb, le-ltb}
use Rattle.numbers.specs.Lists.{tabulate, each, start_of, In, sum_to}
use Rattle.numbers.specs.Transpose.{turned_reads}
use Rattle.numbers.proofs.MemberLaws.{in_append}
use Rattle.numbers.proofs.StoredLaws.{start_room}
use Rattle.numbers.proofs.PartLaws.{part_room}
use Rattle.numbers.proofs.TransposedLaws.{in_tabulate}
use Rattle.lattice.specs.Lattice.{FullLattice}
use Rattle.weights.specs.CoarseEps.{eps_reads}
use Rattle.weights.specs.Prolongation.{weight_reads}
use Rattle.weights.specs.TwoLevels.{two_at}
use Rattle.operators.specs.Averaged.{averaged_reads}
use Rattle.operators.specs.LevelLists.{edges_on}
use Rattle.operators.specs.Levels.{lattice_at}
use Rattle.operators.specs.Stencil.{stencil_reads}
use Rattle.store.specs.Spots.{Kind, permittivity, forwards, turneds, entries, scales, Spot, spot}
use Rattle.store.specs.Layout.{forward_cols, turned_cols, operator_cols, next_edges, forward_count, turned_count, operator_count, first_stored, stored_count, scale_count, eps_off, averaged_off, forward_off, turned_off, operator_off, scale_off}
use Rattle.store.specs.declared.Choice.{Choice}
use Rattle.store.specs.declared.Choice.TheVariants.{Galerkin, Rediscretized}
use Rattle.store.specs.Rows.{Row, coarse, averaged, forward, turned, volume, share, operator, kind_of, from, count, eps_spot, averaged_spot, eps_spots, averaged_spots, forward_spots, turned_spots, operator_spots, operator_reading, reading, only, group, groups, full}
use Rattle.store.proofs.Search.{find}
use Rattle.store.proofs.Search.{part_found, row_found}
use Rattle.store.proofs.SpotLaws.{in_map, each_in}

-- ---- what the rules read lies in its level

pub record Ranges (l : FullLattice) : Type 0 where
  pub eps_low : (L r c : ℕ) → r < edges_on l (suc L) → In c (eps_reads (two_at l L) r) → c < edges_on l L
  pub averaged_low : (L r c : ℕ) → r < edges_on l (suc L) → In c (averaged_reads (two_at l L) r) → c < edges_on l L
  pub weight_low : (L r c : ℕ) → r < edges_on l L → In c (weight_reads (two_at l L) r) → c < edges_on l L
  pub forward_low : (L r c : ℕ) → r < edges_on l L → In c (forward_cols l L r) → c < edges_on l (suc L)
  pub turned_low : (L c r : ℕ) → In r (turned_cols l L c) → r < edges_on l L
  pub found_low : (L c q : ℕ) → In q (turned_reads (forward_cols l L) (edges_on l L) c) → q < forward_count l L
  pub operator_low : (L r c : ℕ) → r < edges_on l L → In c (operator_cols l Galerkin L r) → c < edges_on l L
  pub stencil_low : (L r c : ℕ) → r < edges_on l L → In c (stencil_reads (lattice_at l L) r) → c < edges_on l L
  pub first_low : (r c : ℕ) → r < edges_on l 0 → In c (stencil_reads l r) → c < edges_on l 0

-- ---- the rows that there are

abbrev pub Re : Choice → Type 0
Re Galerkin = ⊥
Re Rediscretized = Unit {0}

abbrev pub Valid : FullLattice → Choice → ℕ → Row → Type 0
Valid l ch m (coarse L r) = (L < m) × (r < edges_on l (suc L))
Valid l ch m (averaged L r) = (L < m) × (r < edges_on l (suc L)) × Re ch
Valid l ch m (forward L r) = (L < m) × (r < edges_on l L)
Valid l ch m (turned L c) = (L < m) × (c < edges_on l (suc L))
Valid l ch m (volume L r) = (L < m) × (r < edges_on l L) × Re ch
Valid l ch m (share L c) = (L < m) × (c < edges_on l (suc L)) × Re ch
Valid l ch m (operator L r) = (first_stored m ≤ L) × (L ≤ m) × (r < edges_on l L)

only_in : (ch : Choice) (rs : List Row) (r : Row) → In r (only ch rs) → Re ch × In r rs
only_in Galerkin rs r i = absurd i
only_in Rediscretized rs r i = (tt, i)

pub first_most : (m L : ℕ) → L < m → first_stored m ≤ suc L
first_most zero L h = omega arith
first_most (suc m) L h = omega arith

module _ (l : FullLattice) (ch : Choice) (m : ℕ) where
  some_in : (r : Row) (f : ℕ → Row) (n : ℕ) → In r (tabulate f n 0) → ((j : ℕ) → j < n → Valid l ch m (f j)) → Valid l ch m r
  some_in r f n i h = let t = in_tabulate f n 0 r i in rw t.3 (h t.0 (omega arith))

  group_in : (L : ℕ) → L < m → (r : Row) → In r (group l ch L) → Valid l ch m r
  group_in L b r i =
      let n = edges_on l L in
      let k = edges_on l (suc L) in
      ⊎_elim (λ a. some_in r (coarse L) k a (λ j h. (b, h)))
      (λ i. ⊎_elim (λ a. let o = only_in ch (tabulate (averaged L) k 0) r a in some_in r (averaged L) k o.1 (λ j h. (b, h, o.0)))
      (λ i. ⊎_elim (λ a. some_in r (forward L) n a (λ j h. (b, h)))
      (λ i. ⊎_elim (λ a. some_in r (turned L) k a (λ j h. (b, h)))
      (λ i. ⊎_elim (λ a. let o = only_in ch (tabulate (volume L) n 0) r a in some_in r (volume L) n o.1 (λ j h. (b, h, o.0)))
      (λ i. ⊎_elim (λ a. let o = only_in ch (tabulate (share L) k 0) r a in some_in r (share L) k o.1 (λ j h. (b, h, o.0)))
      (λ a. some_in r (operator (suc L)) k a (λ j h. (first_most m L b, b, h)))
      (in_append r (only ch (tabulate (share L) k 0)) _ i))
      (in_append r (only ch (tabulate (volume L) n 0)) _ i))
      (in_append r (tabulate (turned L) k 0) _ i))
      (in_append r (tabulate (forward L) n 0) _ i))
      (in_append r (only ch (tabulate (averaged L) k 0)) _ i))
      (in_append r (tabulate (coarse L) k 0) _ i)

  groups_in : (n : ℕ) → n ≤ m → (r : Row) → In r (groups l ch n) → Valid l ch m r
  unfolding groups
  groups_in zero b r i = absurd i
  groups_in (suc n) b r i =
      ⊎_elim (λ a. groups_in n (omega arith) r a) (λ a. group_in n b r a) (in_append r (groups l ch n) (group l ch n) i)

pub full_in : (l : FullLattice) (ch : Choice) (m : ℕ) (r : Row) → In r (full l ch m) → Valid l ch m r
full_in l ch zero r i = some_in l ch 0 r (operator 0) (edges_on l 0) i (λ j h. (omega arith, omega arith, h))
full_in l ch (suc m) r i = groups_in l ch (suc m) (suc m) (omega arith) r i

-- ---- ranks

module _ (l : FullLattice) (ch : Choice) (m : ℕ) where
  abbrev pub row_rank : Row → ℕ
  row_rank (coarse L r) = 8 * suc L
  row_rank (averaged L r) = 8 * suc L + 1
  row_rank (forward L r) = 8 * suc L + 2
  row_rank (turned L c) = 8 * suc L + 3
  row_rank (volume L r) = 8 * suc L + 4
  row_rank (share L c) = 8 * suc L + 5
  row_rank (operator L r) = 8 * L + 6

  abbrev pub row_number_lem : Row → ℕ
  row_number_lem (coarse L r) = r
  row_number_lem (averaged L r) = r
  row_number_lem (forward L r) = r
  row_number_lem (turned L c) = c
  row_number_lem (volume L r) = r
  row_number_lem (share L c) = c
  row_number_lem (operator L r) = r

  -- of number q of a list: its level or transfer, its rank and its row
  unfoldable pub rank_of : Kind → ℕ → ℕ
  rank_of permittivity q =
      cond (ltb q (eps_off l (suc m))) (8 * find (eps_off l) m q) (8 * suc (find (sum_to (next_edges l)) m (q - eps_off l (suc m))) + 1)
  rank_of forwards q = 8 * suc (find (forward_off l) m q) + 2
  rank_of turneds q = 8 * suc (find (turned_off l) m q) + 3
  rank_of entries q = 8 * find (operator_off l ch m) m q + 6
  rank_of scales q =
      let L = find (scale_off l) m q in
      cond (ltb (q - scale_off l L) (edges_on l L)) (8 * suc L + 4) (8 * suc L + 5)

  unfoldable pub number_of : Kind → ℕ → ℕ
  number_of permittivity q =
      cond (ltb q (eps_off l (suc m))) (q - eps_off l (find (eps_off l) m q))
      (q - eps_off l (suc m) - sum_to (next_edges l) (find (sum_to (next_edges l)) m (q - eps_off l (suc m))))
  number_of forwards q = let L = find (forward_off l) m q in find (start_of (forward_cols l L)) (edges_on l L) (q - forward_off l L)
  number_of turneds q = let L = find (turned_off l) m q in find (start_of (turned_cols l L)) (edges_on l (suc L)) (q - turned_off l L)
  number_of entries q = let L = find (operator_off l ch m) m q in find (start_of (operator_cols l ch L)) (edges_on l L) (q - operator_off l ch m L)
  number_of scales q =
      let L = find (scale_off l) m q in
      cond (ltb (q - scale_off l L) (edges_on l L)) (q - scale_off l L) (q - scale_off l L - edges_on l L)

  -- a permittivity of level L
  pub eps_at_lem : (L r q : ℕ) → L ≤ m → r < edges_on l L → q ≡ eps_off l L + r → (rank_of permittivity q ≡ 8 * L) × (number_of permittivity q ≡ r)
  unfolding rank_of number_of
  eps_at_lem L r q h b e =
      let a : find (eps_off l) m q ≡ L = rw e (part_found (edges_on l) m L r h b) in
      let c : q < eps_off l (suc m) = omega (arith, part_room (edges_on l) L (suc m) (omega arith)) in
      (rw (lt-ltb q (eps_off l (suc m)) c, a) refl, rw (lt-ltb q (eps_off l (suc m)) c, a) (omega arith))

  -- an averaged one of level L + 1
  pub averaged_at_lem : (L r q : ℕ) → L < m → r < edges_on l (suc L) → q ≡ averaged_off l m L + r → (rank_of permittivity q ≡ 8 * suc L + 1) × (number_of permittivity q ≡ r)
  unfolding rank_of number_of
  averaged_at_lem L r q h b e =
      let d : q - eps_off l (suc m) ≡ sum_to (next_edges l) L + r = omega arith in
      let a : find (sum_to (next_edges l)) m (q - eps_off l (suc m)) ≡ L = rw d (part_found (next_edges l) m L r (omega arith) b) in
      let c : eps_off l (suc m) ≤ q = omega arith in
      (rw (le-ltb q (eps_off l (suc m)) c, a) refl, rw (le-ltb q (eps_off l (suc m)) c, a) (omega arith))

  -- a number of a part, and of one of its rows
  pub forward_rank : (L q j : ℕ) → L < m → j < forward_count l L → q ≡ forward_off l L + j → rank_of forwards q ≡ 8 * suc L + 2
  unfolding rank_of
  forward_rank L q j h b e = let a : find (forward_off l) m q ≡ L = rw e (part_found (forward_count l) m L j (omega arith) b) in rw a refl

  pub turned_rank : (L q j : ℕ) → L < m → j < turned_count l L → q ≡ turned_off l L + j → rank_of turneds q ≡ 8 * suc L + 3
  unfolding rank_of
  turned_rank L q j h b e = let a : find (turned_off l) m q ≡ L = rw e (part_found (turned_count l) m L j (omega arith) b) in rw a refl

  stored_is : (L : ℕ) → first_stored m ≤ L → stored_count l ch m L ≡ operator_count l ch L
  stored_is L h = rw (le-ltb L (first_stored m) h) refl

  pub operator_rank : (L q j : ℕ) → first_stored m ≤ L → L ≤ m → j < operator_count l ch L → q ≡ operator_off l ch m L + j → rank_of entries q ≡ 8 * L + 6
  unfolding rank_of
  operator_rank L q j s h b e =
      let a : find (operator_off l ch m) m q ≡ L = rw e (part_found (stored_count l ch m) m L j h (omega (arith, stored_is L s))) in rw a refl

  forward_number : (L r q j : ℕ) → L < m → r < edges_on l L → j < length (forward_cols l L r) → q ≡ forward_off l L + (start_of (forward_cols l L) r + j) → number_of forwards q ≡ r
  unfolding number_of
  forward_number L r q j h b i e =
      let k = start_room (forward_cols l L) (edges_on l L) r b in
      let a : find (forward_off l) m q ≡ L = rw e (part_found (forward_count l) m L (start_of (forward_cols l L) r + j) (omega arith) (omega arith)) in
      let d : q - forward_off l L ≡ start_of (forward_cols l L) r + j = omega arith in
      rw (a, d) (row_found (forward_cols l L) (edges_on l L) r j b i)

  turned_number : (L c q j : ℕ) → L < m → c < edges_on l (suc L) → j < length (turned_cols l L c) → q ≡ turned_off l L + (start_of (turned_cols l L) c + j) → number_of turneds q ≡ c
  unfolding number_of
  turned_number L c q j h b i e =
      let k = start_room (turned_cols l L) (edges_on l (suc L)) c b in
      let a : find (turned_off l) m q ≡ L = rw e (part_found (turned_count l) m L (start_of (turned_cols l L) c + j) (omega arith) (omega arith)) in
      let d : q - turned_off l L ≡ start_of (turned_cols l L) c + j = omega arith in
      rw (a, d) (row_found (turned_cols l L) (edges_on l (suc L)) c j b i)

  operator_number : (L r q j : ℕ) → first_stored m ≤ L → L ≤ m → r < edges_on l L → j < length (operator_cols l ch L r)
      → q ≡ operator_off l ch m L + (start_of (operator_cols l ch L) r + j) → number_of entries q ≡ r
  unfolding number_of
  operator_number L r q j s h b i e =
      let k = start_room (operator_cols l ch L) (edges_on l L) r b in
      let a : find (operator_off l ch m) m q ≡ L = rw e (part_found (stored_count l ch m) m L (start_of (operator_cols l ch L) r + j) h (omega (arith, stored_is L s))) in
      let d : q - operator_off l ch m L ≡ start_of (operator_cols l ch L) r + j = omega arith in
      rw (a, d) (row_found (operator_cols l ch L) (edges_on l L) r j b i)

  -- a volume and a share
  pub volume_at_lem : (L r q : ℕ) → L < m → r < edges_on l L → q ≡ scale_off l L + r → (rank_of scales q ≡ 8 * suc L + 4) × (number_of scales q ≡ r)
  unfolding rank_of number_of
  volume_at_lem L r q h b e =
      let a : find (scale_off l) m q ≡ L = rw e (part_found (scale_count l) m L r (omega arith) (omega arith)) in
      let d : q - scale_off l L ≡ r = omega arith in
      (rw (a, d, lt-ltb r (edges_on l L) b) refl, rw (a, d, lt-ltb r (edges_on l L) b) refl)

  pub share_at : (L c q : ℕ) → L < m → c < edges_on l (suc L) → q ≡ scale_off l L + edges_on l L + c → (rank_of scales q ≡ 8 * suc L + 5) × (number_of scales q ≡ c)
  unfolding rank_of number_of
  share_at L c q h b e =
      let e2 : q ≡ scale_off l L + (edges_on l L + c) = omega arith in
      let a : find (scale_off l) m q ≡ L = rw e2 (part_found (scale_count l) m L (edges_on l L + c) (omega arith) (omega arith)) in
      let d : q - scale_off l L ≡ edges_on l L + c = omega arith in
      (rw (a, d, le-ltb (edges_on l L + c) (edges_on l L) (omega arith)) refl, rw (a, d, le-ltb (edges_on l L + c) (edges_on l L) (omega arith)) (omega arith))

  -- ---- a number that a row writes has the row's rank and number

  pub spot_stands : (r : Row) → Valid l ch m r → (q : ℕ) → from l ch m r ≤ q → q < from l ch m r + count l ch m r
      → (rank_of (kind_of l ch m r) q ≡ row_rank r) × (number_of (kind_of l ch m r) q ≡ row_number_lem r)
  spot_stands (coarse L r) v q a b = eps_at_lem (suc L) r q v.0 v.1 (omega arith)
  spot_stands (averaged L r) v q a b = averaged_at_lem L r q v.0 v.1 (omega arith)
  spot_stands (forward L r) v q a b =
      let j = q - (forward_off l L + start_of (forward_cols l L) r) in
      let i : j < length (forward_cols l L r) = omega arith in
      let k = start_room (forward_cols l L) (edges_on l L) r v.1 in
      let e : q ≡ forward_off l L + (start_of (forward_cols l L) r + j) = omega arith in
      (forward_rank L q (start_of (forward_cols l L) r + j) v.0 (omega arith) e, forward_number L r q j v.0 v.1 i e)
  spot_stands (turned L c) v q a b =
      let j = q - (turned_off l L + start_of (turned_cols l L) c) in
      let i : j < length (turned_cols l L c) = omega arith in
      let k = start_room (turned_cols l L) (edges_on l (suc L)) c v.1 in
      let e : q ≡ turned_off l L + (start_of (turned_cols l L) c + j) = omega arith in
      (turned_rank L q (start_of (turned_cols l L) c + j) v.0 (omega arith) e, turned_number L c q j v.0 v.1 i e)
  spot_stands (volume L r) v q a b = volume_at_lem L r q v.0 v.1 (omega arith)
  spot_stands (share L c) v q a b = share_at L c q v.0 v.1 (omega arith)
  spot_stands (operator L r) v q a b =
      let j = q - (operator_off l ch m L + start_of (operator_cols l ch L) r) in
      let i : j < length (operator_cols l ch L r) = omega arith in
      let k = start_room (operator_cols l ch L) (edges_on l L) r v.2 in
      let e : q ≡ operator_off l ch m L + (start_of (operator_cols l ch L) r + j) = omega arith in
      (operator_rank L q (start_of (operator_cols l ch L) r + j) v.0 v.1 (omega arith) e, operator_number L r q j v.0 v.1 v.2 i e)

  -- ---- and a number that a row reads a lower rank

  abbrev Ranked : Spot → ℕ → Type 0
  Ranked s n = rank_of s.kind s.number ≡ n

  in_eps : (L : ℕ) (cs : List ℕ) (s : Spot) → L ≤ m → ((c : ℕ) → In c cs → c < edges_on l L) → In s (eps_spots l ch m L cs) → Ranked s (8 * L)
  in_eps L cs s h b i =
      let t = in_map (λ c. spot permittivity (eps_spot l ch m L c)) cs s i in
      rw t.2 (eps_at_lem L t.0 (eps_off l L + t.0) h (b t.0 t.1) refl).0

  in_averaged : (L : ℕ) (cs : List ℕ) (s : Spot) → L ≤ m → ((c : ℕ) → In c cs → c < edges_on l L) → In s (averaged_spots l ch m L cs) → rank_of s.kind s.number < 8 * L + 2
  in_averaged zero cs s h b i = let e = in_eps 0 cs s h b i in omega arith
  in_averaged (suc L) cs s h b i =
      let t = in_map (λ c. spot permittivity (averaged_spot l ch m (suc L) c)) cs s i in
      let e : Ranked s (8 * suc L + 1) = rw t.2 (averaged_at_lem L t.0 (averaged_off l m L + t.0) h (b t.0 t.1) refl).0 in
      omega arith

  in_forward : (L r : ℕ) (s : Spot) → L < m → r < edges_on l L → In s (forward_spots l ch m L r) → Ranked s (8 * suc L + 2)
  in_forward L r s h b i =
      let t = in_tabulate (spot forwards) (length (forward_cols l L r)) (forward_off l L + start_of (forward_cols l L) r) s i in
      let k = start_room (forward_cols l L) (edges_on l L) r b in
      rw t.3 (forward_rank L t.0 (t.0 - forward_off l L) h (omega (arith, t.1, t.2)) (omega (arith, t.1)))

  in_turned : (L c : ℕ) (s : Spot) → L < m → c < edges_on l (suc L) → In s (turned_spots l ch m L c) → Ranked s (8 * suc L + 3)
  in_turned L c s h b i =
      let t = in_tabulate (spot turneds) (length (turned_cols l L c)) (turned_off l L + start_of (turned_cols l L) c) s i in
      let k = start_room (turned_cols l L) (edges_on l (suc L)) c b in
      rw t.3 (turned_rank L t.0 (t.0 - turned_off l L) h (omega (arith, t.1, t.2)) (omega (arith, t.1)))

  module _ (w : Ranges l) where
    in_operator : (L r : ℕ) (s : Spot) → L < m → r < edges_on l L → In s (operator_spots l ch m L r) → rank_of s.kind s.number < 8 * L + 7
    in_operator zero r s h b i = let e = in_eps 0 (stencil_reads l r) s (omega arith) (λ c j. w.first_low r c b j) i in omega arith
    in_operator (suc L) r s h b i =
        let t = in_tabulate (spot entries) (length (operator_cols l ch (suc L) r)) (operator_off l ch m (suc L) + start_of (operator_cols l ch (suc L)) r) s i in
        let k = start_room (operator_cols l ch (suc L)) (edges_on l (suc L)) r b in
        let e : Ranked s (8 * suc L + 6) =
        rw t.3 (operator_rank (suc L) t.0 (t.0 - operator_off l ch m (suc L)) (first_most m L (omega arith)) (omega arith) (omega (arith, t.1, t.2)) (omega (arith, t.1))) in
        omega arith

operator_below : (l : FullLattice) (ch : Choice) (m : ℕ) → Ranges l → (L r : ℕ) → Valid l ch m (operator L r) → (s : Spot) → In s (operator_reading l ch m L r) → rank_of l ch m s.kind s.number < 8 * L + 6
operator_below l Galerkin m w zero r v s i = let e = in_eps l Galerkin m 0 (stencil_reads l r) s (omega arith) (λ c j. w.first_low r c v.2 j) i in omega arith
operator_below l Galerkin m w (suc L) c v s i =
    ⊎_elim (λ j. let e = in_turned l Galerkin m L c s v.1 v.2 j in omega arith)
    (λ k. ⊎_elim
    (λ j. let t = each_in (operator_spots l Galerkin m L) (turned_cols l L c) s j in
    let e = in_operator l Galerkin m w L t.0 s v.1 (w.turned_low L c t.0 t.1) t.2 in omega arith)
    (λ j. let t = each_in (forward_spots l Galerkin m L) (each (operator_cols l Galerkin L) (turned_cols l L c)) s j in
    let u = each_in (operator_cols l Galerkin L) (turned_cols l L c) t.0 t.1 in
    let e = in_forward l Galerkin m L t.0 s v.1 (w.operator_low L u.0 t.0 (w.turned_low L c u.0 u.1) u.2) t.2 in omega arith)
    (in_append s (each (operator_spots l Galerkin m L) (turned_cols l L c)) _ k))
    (in_append s (turned_spots l Galerkin m L c) _ i)
operator_below l Rediscretized m w L r v s i =
    let e = in_averaged l Rediscretized m L (stencil_reads (lattice_at l L) r) s v.1 (λ c j. w.stencil_low L r c v.2 j) i in omega arith

module _ (l : FullLattice) (ch : Choice) (m : ℕ) (w : Ranges l) where
  pub spot_below : (r : Row) → Valid l ch m r → (s : Spot) → In s (reading l ch m r) → rank_of l ch m s.kind s.number < row_rank l ch m r
  unfolding reading
  spot_below (coarse L r) v s i = let e = in_eps l ch m L (eps_reads (two_at l L) r) s (omega (arith, v.0)) (λ c j. w.eps_low L r c v.1 j) i in omega arith
  spot_below (averaged L r) v s i =
      let e = in_averaged l ch m L (averaged_reads (two_at l L) r) s (omega (arith, v.0)) (λ c j. w.averaged_low L r c v.1 j) i in omega arith
  spot_below (forward L r) v s i =
      ⊎_elim
      (λ j. let e = in_eps l ch m L (weight_reads (two_at l L) r) s (omega (arith, v.0)) (λ c k. w.weight_low L r c v.1 k) j in omega arith)
      (λ j. let e = in_eps l ch m (suc L) (forward_cols l L r) s v.0 (λ c k. w.forward_low L r c v.1 k) j in omega arith)
      (in_append s (eps_spots l ch m L (weight_reads (two_at l L) r)) (eps_spots l ch m (suc L) (forward_cols l L r)) i)
  spot_below (turned L c) v s i =
      let t = in_map (λ q. spot forwards (forward_off l L + q)) (turned_reads (forward_cols l L) (edges_on l L) c) s i in
      let e : rank_of l ch m s.kind s.number ≡ 8 * suc L + 2 =
      rw t.2 (forward_rank l ch m L (forward_off l L + t.0) t.0 v.0 (w.found_low L c t.0 t.1) refl) in
      omega arith
  spot_below (volume L r) v s i = absurd i
  spot_below (share L c) v s i =
      ⊎_elim (λ j. let e = in_turned l ch m L c s v.0 v.1 j in omega arith)
      (λ j. let t = in_map (λ q. spot scales (scale_off l L + q)) (turned_cols l L c) s j in
      let e : rank_of l ch m s.kind s.number ≡ 8 * suc L + 4 =
      rw t.2 (volume_at_lem l ch m L t.0 (scale_off l L + t.0) v.0 (w.turned_low L c t.0 t.1) refl).0 in
      omega arith)
      (in_append s (turned_spots l ch m L c) (map (λ q. spot scales (scale_off l L + q)) (turned_cols l L c)) i)
  spot_below (operator L r) v s i = operator_below l ch m w L r v s i
