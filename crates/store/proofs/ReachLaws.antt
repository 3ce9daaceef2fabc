-- The flags name just the rows that a change reaches. Assumes nothing.
use Prim.Native.Nat.{ℕ, zero, suc, ◌+◌, ◌-◌, ◌*◌, ◌/◌, ◌%◌, ◌≤◌, ◌<◌}
use mathlib.Core.Path.{◌≡◌, refl, sym, ap, ap₂, subst, ◌∙◌}
use mathlib.Core.Logic.{◌⊎◌, inl, inr, ⊎_elim}
use mathlib.Core.Bool.{Bool, true, ◌||◌, false≢true}
use mathlib.Core.List.{List, ◌∷◌, ◌++◌, map, []}
use native.Mathlib.Omega.{arith}
use lib.ListN.{length}
use borrow.Author.Tests.{eq-eqb, eqb-true}
use Rattle.std.proofs.lemmas.Bool.{cases_Bool, or_cases, or_left, or_right}
use Rattle.numbers.specs.Lists.{tabulate, each, start_of, In}
use Rattle.numbers.specs.Transpose.{turned_reads}
use Rattle.numbers.proofs.MemberLaws.{in_append, in_left, in_right}
use Rattle.numbers.proofs.SumLaws.{sum_to_zero}
use Rattle.numbers.proofs.TransposedLaws.{reads_weight, weight_reads_lem, in_tabulate, tabulate_in}
use Rattle.numbers.proofs.StoredLaws.{place_of}
use Rattle.numbers.proofs.CollectSums.{in_at}
use Rattle.lattice.specs.Grid.{Limits}
use Rattle.lattice.specs.Lattice.{FullLattice}
use Rattle.weights.specs.CoarseEps.{eps_reads}
use Rattle.weights.specs.Prolongation.{weight_columns, weight_reads}
use Rattle.weights.specs.TwoLevels.{two_at}
use Rattle.operators.specs.Averaged.{averaged_reads}
use Rattle.operators.specs.LevelLists.{edges_on}
use Rattle.operators.specs.Levels.{lattice_at}
use Rattle.operators.specs.Stencil.{stencil_reads}
use Rattle.operators.proofs.ForwardPattern.{turned_named}
use Rattle.store.specs.Plan.{reached}
use Rattle.store.specs.Places.{Place, ends_at, permittivities_at, forward_starts_at, forward_columns_at, forward_values_at, turned_starts_at, turned_columns_at, turned_values_at, operator_starts_at, operator_columns_at, operator_values_at, scaling_at}
use Rattle.store.specs.Spots.{Kind, permittivity, forwards, turneds, entries, scales, Spot, spot, place, cells}
use Rattle.store.specs.Layout.{blank, forward_cols, turned_cols, operator_cols, eps_off, averaged_off, forward_off, scale_off}
use Rattle.store.specs.declared.Choice.{Choice}
use Rattle.store.specs.declared.Choice.TheVariants.{Galerkin, Rediscretized}
use Rattle.store.specs.Rows.{Row, coarse, averaged, forward, turned, volume, share, operator, kind_of, from, count, eps_spot, averaged_spot, eps_spots, averaged_spots, forward_spots, turned_spots, operator_spots, operator_reading, reading, writes, full, rules}
use Rattle.store.specs.Reach.{any, eps_hit, averaged_hit, forward_hit, turned_hit, galerkin_hit, rediscretized_hit, operator_hit, hit}
use Rattle.store.proofs.PlanLaws.{in_stands, stands_in}
use Rattle.store.proofs.PlanTheorem.{Touched}
use Rattle.store.proofs.PlanWork.{picked, picked_reach}
use Rattle.store.proofs.LandedLaws.{full_has}
use Rattle.store.proofs.RangeLaws.{ranges}
use Rattle.store.proofs.RankLaws.{Ranges, Re, Valid, first_most, full_in, row_rank, row_number_lem, rank_of, number_of, eps_at_lem, spot_stands}
use Rattle.store.proofs.SpotLaws.{in_map, map_in_lem, in_each, each_in}
use Rattle.store.proofs.StoreLaws.{laws, rank_some}
use Rattle.store.proofs.ColumnLaws.{forward_cols_at, turned_cols_at, own_in}
use Rattle.weights.proofs.RowTheorems.{reads_long}

-- ---- some

pub any_in : (f : ℕ → Bool) (xs : List ℕ) → any f xs ≡ true → (x : ℕ) × In x xs × (f x ≡ true)
unfolding any
any_in f [] h = absurd (false≢true h)
any_in f (x ∷ xs) h =
    ⊎_elim (λ e. (x, inl refl, e)) (λ e. let t = any_in f xs (rw e at h) in (t.0, inr t.1, t.2)) (cases_Bool (f x))

pub in_any : (f : ℕ → Bool) (xs : List ℕ) (x : ℕ) → In x xs → f x ≡ true → any f xs ≡ true
unfolding any
in_any f [] x i h = absurd i
in_any f (y ∷ xs) x (inl e) h = let k : f y ≡ true = rw e at h in rw k refl
in_any f (y ∷ xs) x (inr i) h = ⊎_elim (λ e. rw e refl) (λ e. rw e (in_any f xs x i h)) (cases_Bool (f y))

some_long : {A : Type 0} (a : A) (xs : List A) → In a xs → 0 < length xs
some_long a [] i = absurd i
some_long a (x ∷ xs) i = omega arith

-- ---- the row of a rank and a number

abbrev row_kind : ℕ → ℕ → ℕ → Row
row_kind zero L n = coarse (L - 1) n
row_kind (suc zero) L n = averaged (L - 1) n
row_kind (suc (suc zero)) L n = forward (L - 1) n
row_kind (suc (suc (suc zero))) L n = turned (L - 1) n
row_kind (suc (suc (suc (suc zero)))) L n = volume (L - 1) n
row_kind (suc (suc (suc (suc (suc zero))))) L n = share (L - 1) n
row_kind (suc (suc (suc (suc (suc (suc k)))))) L n = operator L n

abbrev row_by : ℕ → ℕ → Row
row_by k n = row_kind (k % 8) (k / 8) n

module _ (l : FullLattice) (ch : Choice) (m : ℕ) where
  row_by_lem : (r : Row) → row_by (row_rank l ch m r) (row_number_lem l ch m r) ≡ r
  row_by_lem (coarse L r) = let a : 8 * suc L % 8 ≡ 0 = omega arith in let b : 8 * suc L / 8 - 1 ≡ L = omega arith in rw a (rw b refl)
  row_by_lem (averaged L r) = let a : (8 * suc L + 1) % 8 ≡ 1 = omega arith in let b : (8 * suc L + 1) / 8 - 1 ≡ L = omega arith in rw a (rw b refl)
  row_by_lem (forward L r) = let a : (8 * suc L + 2) % 8 ≡ 2 = omega arith in let b : (8 * suc L + 2) / 8 - 1 ≡ L = omega arith in rw a (rw b refl)
  row_by_lem (turned L r) = let a : (8 * suc L + 3) % 8 ≡ 3 = omega arith in let b : (8 * suc L + 3) / 8 - 1 ≡ L = omega arith in rw a (rw b refl)
  row_by_lem (volume L r) = let a : (8 * suc L + 4) % 8 ≡ 4 = omega arith in let b : (8 * suc L + 4) / 8 - 1 ≡ L = omega arith in rw a (rw b refl)
  row_by_lem (share L r) = let a : (8 * suc L + 5) % 8 ≡ 5 = omega arith in let b : (8 * suc L + 5) / 8 - 1 ≡ L = omega arith in rw a (rw b refl)
  row_by_lem (operator L r) = let a : (8 * L + 6) % 8 ≡ 6 = omega arith in let b : (8 * L + 6) / 8 ≡ L = omega arith in rw a (rw b refl)

  same_row : (r q : Row) → row_rank l ch m r ≡ row_rank l ch m q → row_number_lem l ch m r ≡ row_number_lem l ch m q → r ≡ q
  same_row r q e g = sym (row_by_lem r) ∙ ap₂ row_by e g ∙ row_by_lem q

-- ---- the positions of a turned row, row by row

module _ (cols : ℕ → List ℕ) (c n : ℕ) where
  found_row : (q : ℕ) → In q (turned_reads cols n c) → (r : ℕ) × (r < n) × In c (cols r) × (start_of cols r ≤ q) × (q < start_of cols r + length (cols r))
  found_row q i =
      let t = reads_weight cols c n q i in
      (t.r, t.row_in, subst (λ (d : ℕ). In d (cols t.r)) t.names (in_at (cols t.r) t.j t.place_in), omega (arith, t.is), omega (arith, t.is, t.place_in))

  row_found : (r : ℕ) → r < n → In c (cols r) → (q : ℕ) × In q (turned_reads cols n c) × (start_of cols r ≤ q) × (q < start_of cols r + length (cols r))
  row_found r h i =
      let p = place_of c (cols r) i in
      (start_of cols r + p.place, weight_reads_lem cols c n r p.place h p.low p.is, omega arith, omega (arith, p.low))

-- ---- a forward row that reads something has a weight

forward_some : (l : FullLattice) (e L r : ℕ) → forward_hit l e L r ≡ true → 0 < length (forward_cols l L r)
unfolding forward_hit forward_cols
forward_some l e L r h =
    ⊎_elim
    (λ k. let t = any_in (eps_hit l e L) (weight_reads (two_at l L) r) k in omega (arith, some_long t.0 (weight_reads (two_at l L) r) t.1, reads_long (two_at l L) r))
    (λ k. let t = any_in (eps_hit l e (suc L)) (weight_columns (two_at l L) r) k in some_long t.0 (weight_columns (two_at l L) r) t.1)
    (or_cases (any (eps_hit l e L) (weight_reads (two_at l L) r)) (any (eps_hit l e (suc L)) (weight_columns (two_at l L) r)) h)

turned_some : (l : FullLattice) (e L c : ℕ) → turned_hit l e L c ≡ true → 0 < length (turned_cols l L c)
unfolding turned_hit
turned_some l e L c h = let t = any_in (forward_hit l e L) (turned_cols l L c) h in some_long t.0 (turned_cols l L c) t.1

operator_some : (l : FullLattice) (L r : ℕ) → 0 < length (operator_cols l Galerkin L r)
operator_some l L r = some_long r (operator_cols l Galerkin L r) (own_in l L r)

-- the columns of turned row c are the rows that name c
module _ (l : FullLattice) (limits : Limits l.grid) (L c r : ℕ) where
  pub turned_names : In r (turned_cols l L c) → (r < edges_on l L) × In c (forward_cols l L r)
  turned_names i =
      let t = (turned_named l limits blank L c r).0 (subst (In r) (sym (turned_cols_at l blank L c)) i) in (t.0, subst (In c) (forward_cols_at l blank L r) t.1)

  names_turned : r < edges_on l L → In c (forward_cols l L r) → In r (turned_cols l L c)
  names_turned b i = subst (In r) (turned_cols_at l blank L c) ((turned_named l limits blank L c r).1 (b, subst (In c) (sym (forward_cols_at l blank L r)) i))

eps_first : (l : FullLattice) (e c : ℕ) → c ≡ e → eps_hit l e 0 c ≡ true
unfolding eps_hit
eps_first l e c z = eq-eqb c e z

averaged_first : (l : FullLattice) (e c : ℕ) → c ≡ e → averaged_hit l e 0 c ≡ true
unfolding averaged_hit
averaged_first l e c z = eq-eqb c e z

-- ---- numbers that have changed: the given one, and those of rows that are reached

module _ (l : FullLattice) (limits : Limits l.grid) (m e : ℕ) (base : e < edges_on l 0) where
  abbrev w : Ranges l
  w = ranges l limits

  module _ (ch : Choice) where
    abbrev Hot : Kind → ℕ → Type 0
    Hot k q =
        (spot k q ≡ spot permittivity e)
        ⊎ ((r : Row) × Valid l ch m r × (hit l e ch r ≡ true) × (k ≡ kind_of l ch m r) × (from l ch m r ≤ q) × (q < from l ch m r + count l ch m r))

    hot_row : (r : Row) → Valid l ch m r → hit l e ch r ≡ true → (q : ℕ) → from l ch m r ≤ q → q < from l ch m r + count l ch m r → Hot (kind_of l ch m r) q
    hot_row r v h q a b = inr (r, v, h, refl, a, b)

    base_rank : rank_of l ch m permittivity e ≡ 0
    base_rank = (eps_at_lem l ch m 0 e e (omega arith) base (omega (arith, sum_to_zero (edges_on l)))).0

    row_hot : (r : Row) → Valid l ch m r → (q : ℕ) → from l ch m r ≤ q → q < from l ch m r + count l ch m r → Hot (kind_of l ch m r) q → hit l e ch r ≡ true
    row_hot r v q a b (inl z) =
        let s = spot_stands l ch m r v q a b in
        let k : rank_of l ch m (kind_of l ch m r) q ≡ rank_of l ch m permittivity e = ap (λ (x : Spot). rank_of l ch m x.kind x.number) z in
        absurd (omega (arith, s.0, k, base_rank, rank_some l ch m r))
    row_hot r v q a b (inr t) =
        let s = spot_stands l ch m r v q a b in
        let u = spot_stands l ch m t.0 t.1 q t.4 t.5 in
        let x : row_rank l ch m r ≡ row_rank l ch m t.0 = sym s.0 ∙ ap (λ (k : Kind). rank_of l ch m k q) t.3 ∙ u.0 in
        let y : row_number_lem l ch m r ≡ row_number_lem l ch m t.0 = sym s.1 ∙ ap (λ (k : Kind). number_of l ch m k q) t.3 ∙ u.1 in
        ap (hit l e ch) (same_row l ch m r t.0 x y) ∙ t.2

    base_hot : (c : ℕ) → c < edges_on l 0 → Hot permittivity c → c ≡ e
    base_hot c b (inl z) = ap (λ (x : Spot). x.number) z
    base_hot c b (inr t) =
        let u = spot_stands l ch m t.0 t.1 c t.4 t.5 in
        let z = (eps_at_lem l ch m 0 c c (omega arith) b (omega (arith, sum_to_zero (edges_on l)))).0 in
        let k : rank_of l ch m permittivity c ≡ rank_of l ch m (kind_of l ch m t.0) c = ap (λ (k : Kind). rank_of l ch m k c) t.3 in
        absurd (omega (arith, u.0, z, k, rank_some l ch m t.0))

    -- a permittivity of level L
    eps_hot : (L c : ℕ) → L ≤ m → c < edges_on l L → Hot permittivity (eps_spot l ch m L c) → eps_hit l e L c ≡ true
    eps_hot zero c h b i =
        let z : eps_off l 0 + c ≡ c = omega (arith, sum_to_zero (edges_on l)) in
        eps_first l e c (base_hot c b (subst (λ (q : ℕ). Hot permittivity q) z i))
    eps_hot (suc L) c h b i = row_hot (coarse L c) (h, b) (eps_off l (suc L) + c) (omega arith) (omega arith) i

    hot_eps : (L c : ℕ) → L ≤ m → c < edges_on l L → eps_hit l e L c ≡ true → Hot permittivity (eps_spot l ch m L c)
    hot_eps zero c h b i =
        let k : c ≡ e = eqb-true c e (unfold eps_hit in i) in
        let z : eps_off l 0 + c ≡ e = omega (arith, sum_to_zero (edges_on l)) in
        inl (ap (spot permittivity) z)
    hot_eps (suc L) c h b i = hot_row (coarse L c) (h, b) i (eps_off l (suc L) + c) (omega arith) (omega arith)

    averaged_hot : Re ch → (L c : ℕ) → L ≤ m → c < edges_on l L → Hot permittivity (averaged_spot l ch m L c) → averaged_hit l e L c ≡ true
    averaged_hot o zero c h b i =
        let z : eps_off l 0 + c ≡ c = omega (arith, sum_to_zero (edges_on l)) in
        averaged_first l e c (base_hot c b (subst (λ (q : ℕ). Hot permittivity q) z i))
    averaged_hot o (suc L) c h b i = row_hot (averaged L c) (h, b, o) (averaged_off l m L + c) (omega arith) (omega arith) i

    hot_averaged : Re ch → (L c : ℕ) → L ≤ m → c < edges_on l L → averaged_hit l e L c ≡ true → Hot permittivity (averaged_spot l ch m L c)
    hot_averaged o zero c h b i =
        let k : c ≡ e = eqb-true c e (unfold averaged_hit in i) in
        let z : eps_off l 0 + c ≡ e = omega (arith, sum_to_zero (edges_on l)) in
        inl (ap (spot permittivity) z)
    hot_averaged o (suc L) c h b i = hot_row (averaged L c) (h, b, o) i (averaged_off l m L + c) (omega arith) (omega arith)

    -- some number of a list has changed
    abbrev SomeHot : List Spot → Type 0
    SomeHot ss = (s : Spot) × In s ss × Hot s.kind s.number

    hot_in : (s : Spot) (k : Kind) (q : ℕ) → s ≡ spot k q → Hot s.kind s.number → Hot k q
    hot_in s k q z h = subst (λ (x : Spot). Hot x.kind x.number) z h

    eps_some : (L : ℕ) (cs : List ℕ) → L ≤ m → ((c : ℕ) → In c cs → c < edges_on l L) → SomeHot (eps_spots l ch m L cs) → any (eps_hit l e L) cs ≡ true
    eps_some L cs h low t =
        let u = in_map (λ c. spot permittivity (eps_spot l ch m L c)) cs t.0 t.1 in
        in_any (eps_hit l e L) cs u.0 u.1 (eps_hot L u.0 h (low u.0 u.1) (hot_in t.0 permittivity (eps_spot l ch m L u.0) u.2 t.2))

    some_eps : (L : ℕ) (cs : List ℕ) → L ≤ m → ((c : ℕ) → In c cs → c < edges_on l L) → any (eps_hit l e L) cs ≡ true → SomeHot (eps_spots l ch m L cs)
    some_eps L cs h low k =
        let u = any_in (eps_hit l e L) cs k in
        (spot permittivity (eps_spot l ch m L u.0), map_in_lem (λ c. spot permittivity (eps_spot l ch m L c)) cs u.0 u.1, hot_eps L u.0 h (low u.0 u.1) u.2)

    averaged_some : Re ch → (L : ℕ) (cs : List ℕ) → L ≤ m → ((c : ℕ) → In c cs → c < edges_on l L) → SomeHot (averaged_spots l ch m L cs) → any (averaged_hit l e L) cs ≡ true
    averaged_some o L cs h low t =
        let u = in_map (λ c. spot permittivity (averaged_spot l ch m L c)) cs t.0 t.1 in
        in_any (averaged_hit l e L) cs u.0 u.1 (averaged_hot o L u.0 h (low u.0 u.1) (hot_in t.0 permittivity (averaged_spot l ch m L u.0) u.2 t.2))

    some_averaged : Re ch → (L : ℕ) (cs : List ℕ) → L ≤ m → ((c : ℕ) → In c cs → c < edges_on l L) → any (averaged_hit l e L) cs ≡ true → SomeHot (averaged_spots l ch m L cs)
    some_averaged o L cs h low k =
        let u = any_in (averaged_hit l e L) cs k in
        (spot permittivity (averaged_spot l ch m L u.0), map_in_lem (λ c. spot permittivity (averaged_spot l ch m L c)) cs u.0 u.1, hot_averaged o L u.0 h (low u.0 u.1) u.2)

    -- a number of a whole row
    whole_hot : (r : Row) → Valid l ch m r → SomeHot (tabulate (spot (kind_of l ch m r)) (count l ch m r) (from l ch m r)) → hit l e ch r ≡ true
    whole_hot r v t =
        let u = in_tabulate (spot (kind_of l ch m r)) (count l ch m r) (from l ch m r) t.0 t.1 in
        row_hot r v u.0 u.1 u.2 (hot_in t.0 (kind_of l ch m r) u.0 u.3 t.2)

    hot_whole : (r : Row) → Valid l ch m r → 0 < count l ch m r → hit l e ch r ≡ true → SomeHot (tabulate (spot (kind_of l ch m r)) (count l ch m r) (from l ch m r))
    hot_whole r v b h =
        let q = from l ch m r in
        (spot (kind_of l ch m r) q, tabulate_in (spot (kind_of l ch m r)) (count l ch m r) q q (omega arith) (omega arith), hot_row r v h q (omega arith) (omega arith))

    some_left : (ss ts : List Spot) → SomeHot ss → SomeHot (ss ++ ts)
    some_left ss ts t = (t.0, in_left t.0 ss ts t.1, t.2)

    some_right : (ss ts : List Spot) → SomeHot ts → SomeHot (ss ++ ts)
    some_right ss ts t = (t.0, in_right t.0 ss ts t.1, t.2)

    some_either : (ss ts : List Spot) → SomeHot (ss ++ ts) → SomeHot ss ⊎ SomeHot ts
    some_either ss ts t = ⊎_elim (λ i. inl (t.0, i, t.2)) (λ i. inr (t.0, i, t.2)) (in_append t.0 ss ts t.1)

    some_each : (f : ℕ → List Spot) (cs : List ℕ) → SomeHot (each f cs) → (c : ℕ) × In c cs × SomeHot (f c)
    some_each f cs t = let u = each_in f cs t.0 t.1 in (u.0, u.1, (t.0, u.2, t.2))

    each_some : (f : ℕ → List Spot) (cs : List ℕ) (c : ℕ) → In c cs → SomeHot (f c) → SomeHot (each f cs)
    each_some f cs c i t = (t.0, in_each f cs c t.0 i t.1, t.2)

-- ---- row by row: a flag is up just where a number that the row reads has changed

module _ (l : FullLattice) (limits : Limits l.grid) (m e : ℕ) (base : e < edges_on l 0) where
  abbrev v : Ranges l
  v = ranges l limits

  abbrev SomeOf : Choice → List Spot → Type 0
  SomeOf ch ss = SomeHot l limits m e base ch ss

  stencil_first : (r c : ℕ) → r < edges_on l 0 → In c (stencil_reads l r) → c < edges_on l 0
  stencil_first r c b i = v.first_low r c b i

  -- the finer operator's rows
  fine_hot : (L r : ℕ) → L < m → r < edges_on l L → SomeOf Galerkin (operator_spots l Galerkin m L r) → galerkin_hit l e L r ≡ true
  unfolding galerkin_hit
  fine_hot zero r h b t = eps_some l limits m e base Galerkin 0 (stencil_reads l r) (omega arith) (λ c i. stencil_first r c b i) t
  fine_hot (suc L) r h b t = whole_hot l limits m e base Galerkin (operator (suc L) r) (first_most m L (omega arith), omega arith, b) t

  hot_fine : (L r : ℕ) → L < m → r < edges_on l L → galerkin_hit l e L r ≡ true → SomeOf Galerkin (operator_spots l Galerkin m L r)
  unfolding galerkin_hit
  hot_fine zero r h b t = some_eps l limits m e base Galerkin 0 (stencil_reads l r) (omega arith) (λ c i. stencil_first r c b i) t
  hot_fine (suc L) r h b t = hot_whole l limits m e base Galerkin (operator (suc L) r) (first_most m L (omega arith), omega arith, b) (operator_some l (suc L) r) t

  operator_hot : (ch : Choice) (L r : ℕ) → Valid l ch m (operator L r) → SomeOf ch (operator_reading l ch m L r) → operator_hit l e ch L r ≡ true
  unfolding galerkin_hit rediscretized_hit
  operator_hot Galerkin zero r o t = eps_some l limits m e base Galerkin 0 (stencil_reads l r) (omega arith) (λ c i. stencil_first r c o.2 i) t
  operator_hot Galerkin (suc L) c o t =
      let ts = turned_cols l L c in
      let fine = each (operator_spots l Galerkin m L) ts in
      let named = each (operator_cols l Galerkin L) ts in
      let forth = each (forward_spots l Galerkin m L) named in
      ⊎_elim
      (λ a. or_left _ _ (whole_hot l limits m e base Galerkin (turned L c) (o.1, o.2) a))
      (λ a. or_right (turned_hit l e L c) _ (⊎_elim
      (λ b. let u = some_each l limits m e base Galerkin (operator_spots l Galerkin m L) ts b in
      or_left _ _ (in_any (galerkin_hit l e L) ts u.0 u.1 (fine_hot L u.0 o.1 (v.turned_low L c u.0 u.1) u.2)))
      (λ b. let u = some_each l limits m e base Galerkin (forward_spots l Galerkin m L) named b in
      let n = each_in (operator_cols l Galerkin L) ts u.0 u.1 in
      or_right (any (galerkin_hit l e L) ts) _ (in_any (forward_hit l e L) named u.0 u.1
      (whole_hot l limits m e base Galerkin (forward L u.0) (o.1, v.operator_low L n.0 u.0 (v.turned_low L c n.0 n.1) n.2) u.2)))
      (some_either l limits m e base Galerkin fine forth a)))
      (some_either l limits m e base Galerkin (turned_spots l Galerkin m L c) (fine ++ forth) t)
  operator_hot Rediscretized L r o t =
      averaged_some l limits m e base Rediscretized tt L (stencil_reads (lattice_at l L) r) o.1 (λ c i. v.stencil_low L r c o.2 i) t

  hot_operator : (ch : Choice) (L r : ℕ) → Valid l ch m (operator L r) → operator_hit l e ch L r ≡ true → SomeOf ch (operator_reading l ch m L r)
  unfolding galerkin_hit rediscretized_hit
  hot_operator Galerkin zero r o t = some_eps l limits m e base Galerkin 0 (stencil_reads l r) (omega arith) (λ c i. stencil_first r c o.2 i) t
  hot_operator Galerkin (suc L) c o t =
      let ts = turned_cols l L c in
      let fine = each (operator_spots l Galerkin m L) ts in
      let named = each (operator_cols l Galerkin L) ts in
      let forth = each (forward_spots l Galerkin m L) named in
      ⊎_elim
      (λ a. some_left l limits m e base Galerkin (turned_spots l Galerkin m L c) (fine ++ forth)
      (hot_whole l limits m e base Galerkin (turned L c) (o.1, o.2) (turned_some l e L c a) a))
      (λ a. some_right l limits m e base Galerkin (turned_spots l Galerkin m L c) (fine ++ forth) (⊎_elim
      (λ b. let u = any_in (galerkin_hit l e L) ts b in
      some_left l limits m e base Galerkin fine forth (each_some l limits m e base Galerkin (operator_spots l Galerkin m L) ts u.0 u.1
      (hot_fine L u.0 o.1 (v.turned_low L c u.0 u.1) u.2)))
      (λ b. let u = any_in (forward_hit l e L) named b in
      let n = each_in (operator_cols l Galerkin L) ts u.0 u.1 in
      some_right l limits m e base Galerkin fine forth (each_some l limits m e base Galerkin (forward_spots l Galerkin m L) named u.0 u.1
      (hot_whole l limits m e base Galerkin (forward L u.0) (o.1, v.operator_low L n.0 u.0 (v.turned_low L c n.0 n.1) n.2) (forward_some l e L u.0 u.2) u.2)))
      (or_cases (any (galerkin_hit l e L) ts) (any (forward_hit l e L) named) a)))
      (or_cases (turned_hit l e L c) (any (galerkin_hit l e L) ts || any (forward_hit l e L) named) t)
  hot_operator Rediscretized L r o t =
      some_averaged l limits m e base Rediscretized tt L (stencil_reads (lattice_at l L) r) o.1 (λ c i. v.stencil_low L r c o.2 i) t

  module _ (ch : Choice) where
    turned_hot : (L c : ℕ) → L < m → SomeOf ch (map (λ q. spot forwards (forward_off l L + q)) (turned_reads (forward_cols l L) (edges_on l L) c)) → turned_hit l e L c ≡ true
    unfolding turned_hit
    turned_hot L c h t =
        let qs = turned_reads (forward_cols l L) (edges_on l L) c in
        let u = in_map (λ q. spot forwards (forward_off l L + q)) qs t.0 t.1 in
        let n = found_row (forward_cols l L) c (edges_on l L) u.0 u.1 in
        in_any (forward_hit l e L) (turned_cols l L c) n.0 (names_turned l limits L c n.0 n.1 n.2)
        (row_hot l limits m e base ch (forward L n.0) (h, n.1) (forward_off l L + u.0) (omega (arith, n.3)) (omega (arith, n.4))
        (hot_in l limits m e base ch t.0 forwards (forward_off l L + u.0) u.2 t.2))

    hot_turned : (L c : ℕ) → L < m → turned_hit l e L c ≡ true → SomeOf ch (map (λ q. spot forwards (forward_off l L + q)) (turned_reads (forward_cols l L) (edges_on l L) c))
    unfolding turned_hit
    hot_turned L c h t =
        let u = any_in (forward_hit l e L) (turned_cols l L c) t in
        let n = turned_names l limits L c u.0 u.1 in
        let q = row_found (forward_cols l L) c (edges_on l L) u.0 n.0 n.1 in (
          spot forwards (forward_off l L + q.0),
          map_in_lem (λ q. spot forwards (forward_off l L + q)) (turned_reads (forward_cols l L) (edges_on l L) c) q.0 q.1,
          hot_row l limits m e base ch (forward L u.0) (h, n.0) u.2 (forward_off l L + q.0) (omega (arith, q.2)) (omega (arith, q.3)),
        )

    -- a volume is never reached
    volume_cold : (L c : ℕ) → L < m → Re ch → SomeOf ch (map (λ q. spot scales (scale_off l L + q)) (turned_cols l L c)) → ⊥
    volume_cold L c h o t =
        let u = in_map (λ q. spot scales (scale_off l L + q)) (turned_cols l L c) t.0 t.1 in
        false≢true (row_hot l limits m e base ch (volume L u.0) (h, v.turned_low L c u.0 u.1, o) (scale_off l L + u.0) (omega arith) (omega arith)
        (hot_in l limits m e base ch t.0 scales (scale_off l L + u.0) u.2 t.2))

    some_hit : (r : Row) → Valid l ch m r → SomeOf ch (reading l ch m r) → hit l e ch r ≡ true
    unfolding reading eps_hit averaged_hit forward_hit
    some_hit (coarse L r) o t = eps_some l limits m e base ch L (eps_reads (two_at l L) r) (omega (arith, o.0)) (λ c i. v.eps_low L r c o.1 i) t
    some_hit (averaged L r) o t = averaged_some l limits m e base ch o.2 L (averaged_reads (two_at l L) r) (omega (arith, o.0)) (λ c i. v.averaged_low L r c o.1 i) t
    some_hit (forward L r) o t =
        ⊎_elim
        (λ a. or_left _ _ (eps_some l limits m e base ch L (weight_reads (two_at l L) r) (omega (arith, o.0)) (λ c i. v.weight_low L r c o.1 i) a))
        (λ a. or_right (any (eps_hit l e L) (weight_reads (two_at l L) r)) _ (eps_some l limits m e base ch (suc L) (forward_cols l L r) o.0 (λ c i. v.forward_low L r c o.1 i) a))
        (some_either l limits m e base ch (eps_spots l ch m L (weight_reads (two_at l L) r)) (eps_spots l ch m (suc L) (forward_cols l L r)) t)
    some_hit (turned L c) o t = turned_hot L c o.0 t
    some_hit (volume L r) o t = absurd t.1
    some_hit (share L c) o t =
        ⊎_elim (λ a. whole_hot l limits m e base ch (turned L c) (o.0, o.1) a) (λ a. absurd (volume_cold L c o.0 o.2 a))
        (some_either l limits m e base ch (turned_spots l ch m L c) (map (λ q. spot scales (scale_off l L + q)) (turned_cols l L c)) t)
    some_hit (operator L r) o t = operator_hot ch L r o t

    hit_some : (r : Row) → Valid l ch m r → hit l e ch r ≡ true → SomeOf ch (reading l ch m r)
    unfolding reading eps_hit averaged_hit forward_hit
    hit_some (coarse L r) o t = some_eps l limits m e base ch L (eps_reads (two_at l L) r) (omega (arith, o.0)) (λ c i. v.eps_low L r c o.1 i) t
    hit_some (averaged L r) o t = some_averaged l limits m e base ch o.2 L (averaged_reads (two_at l L) r) (omega (arith, o.0)) (λ c i. v.averaged_low L r c o.1 i) t
    hit_some (forward L r) o t =
        let first = eps_spots l ch m L (weight_reads (two_at l L) r) in
        let second = eps_spots l ch m (suc L) (forward_cols l L r) in
        ⊎_elim
        (λ a. some_left l limits m e base ch first second (some_eps l limits m e base ch L (weight_reads (two_at l L) r) (omega (arith, o.0)) (λ c i. v.weight_low L r c o.1 i) a))
        (λ a. some_right l limits m e base ch first second (some_eps l limits m e base ch (suc L) (forward_cols l L r) o.0 (λ c i. v.forward_low L r c o.1 i) a))
        (or_cases (any (eps_hit l e L) (weight_reads (two_at l L) r)) (any (eps_hit l e (suc L)) (forward_cols l L r)) t)
    hit_some (turned L c) o t = hot_turned L c o.0 t
    hit_some (volume L r) o t = absurd (false≢true t)
    hit_some (share L c) o t =
        some_left l limits m e base ch (turned_spots l ch m L c) (map (λ q. spot scales (scale_off l L + q)) (turned_cols l L c))
        (hot_whole l limits m e base ch (turned L c) (o.0, o.1) (turned_some l e L c t) t)
    hit_some (operator L r) o t = hot_operator ch L r o t

-- ---- places and numbers

abbrev spot_at : Place → Spot
spot_at (ends_at j) = spot scales 0
spot_at (permittivities_at j) = spot permittivity (j / 2)
spot_at (forward_starts_at j) = spot scales 0
spot_at (forward_columns_at j) = spot scales 0
spot_at (forward_values_at j) = spot forwards (j / 2)
spot_at (turned_starts_at j) = spot scales 0
spot_at (turned_columns_at j) = spot scales 0
spot_at (turned_values_at j) = spot turneds (j / 2)
spot_at (operator_starts_at j) = spot scales 0
spot_at (operator_columns_at j) = spot scales 0
spot_at (operator_values_at j) = spot entries (j / 2)
spot_at (scaling_at j) = spot scales (j / 2)

spot_place : (k : Kind) (j : ℕ) → spot_at (place k j) ≡ spot k (j / 2)
spot_place permittivity j = refl
spot_place forwards j = refl
spot_place turneds j = refl
spot_place entries j = refl
spot_place scales j = refl

cell_spot : (s : Spot) (p : Place) → In p (cells s) → spot_at p ≡ s
cell_spot s p (inl z) =
    let h : 2 * s.number / 2 ≡ s.number = omega arith in
    ap spot_at z ∙ spot_place s.kind (2 * s.number) ∙ ap (spot s.kind) h
cell_spot s p (inr (inl z)) =
    let h : (2 * s.number + 1) / 2 ≡ s.number = omega arith in
    ap spot_at z ∙ spot_place s.kind (2 * s.number + 1) ∙ ap (spot s.kind) h
cell_spot s p (inr (inr i)) = absurd i

module _ (l : FullLattice) (limits : Limits l.grid) (m e : ℕ) (base : e < edges_on l 0) (ch : Choice) where
  abbrev test : Row → Bool
  test = hit l e ch

  picked_in : (rs : List Row) (r : Row) → In r (picked (rules l ch m) test rs) → In r rs × (test r ≡ true)
  unfolding picked
  picked_in [] r i = absurd i
  picked_in (q ∷ rs) r i =
      ⊎_elim
      (λ h. ⊎_elim (λ z. (inl z, ap test z ∙ h)) (λ j. let t = picked_in rs r j in (inr t.0, t.1)) (rw h at i))
      (λ h. let t = picked_in rs r (rw h at i) in (inr t.0, t.1))
      (cases_Bool (test q))

  in_picked : (rs : List Row) (r : Row) → In r rs → test r ≡ true → In r (picked (rules l ch m) test rs)
  unfolding picked
  in_picked [] r i h = absurd i
  in_picked (q ∷ rs) r (inl z) h = let k : test q ≡ true = sym (ap test z) ∙ h in rw k (inl z)
  in_picked (q ∷ rs) r (inr i) h = ⊎_elim (λ k. rw k (inr (in_picked rs r i h))) (λ k. rw k (in_picked rs r i h)) (cases_Bool (test q))

  abbrev hot : List Place
  hot = cells (spot permittivity e)

  abbrev plan : List Row
  plan = picked (rules l ch m) test (full l ch m)

  touched_some : (r : Row) → Touched (rules l ch m) hot plan r → SomeHot l limits m e base ch (reading l ch m r)
  touched_some r t =
      let u = each_in cells (reading l ch m r) t.0 t.1 in
      let s = u.0 in
      let z : spot_at t.0 ≡ s = cell_spot s t.0 u.2 in
      ⊎_elim
      (λ i. (s, u.1, inl (sym z ∙ cell_spot (spot permittivity e) t.0 i)))
      (λ i. let a = in_stands (rules l ch m) plan t.0 i in
      let b = picked_in (full l ch m) a.0 a.1 in
      let k = kind_of l ch m a.0 in
      let c = in_tabulate (place k) (2 * count l ch m a.0) (2 * from l ch m a.0) t.0 a.2 in
      let y : s ≡ spot k (c.0 / 2) = sym z ∙ ap spot_at c.3 ∙ spot_place k c.0 in
      let n : s.number ≡ c.0 / 2 = ap (λ (x : Spot). x.number) y in
      (s, u.1, inr (a.0, full_in l ch m a.0 b.0, b.1, ap (λ (x : Spot). x.kind) y, omega (arith, c.1), omega (arith, c.2))))
      t.2

  some_touched : (r : Row) → SomeHot l limits m e base ch (reading l ch m r) → Touched (rules l ch m) hot plan r
  some_touched r t =
      let s = t.0 in
      let p = place s.kind (2 * s.number) in (
        p,
        in_each cells (reading l ch m r) s p t.1 (inl refl),
        ⊎_elim
            (λ z. inl (subst (λ (x : Spot). In p (cells x)) z (inl refl)))
            (λ a. inr (stands_in (rules l ch m) plan a.0 (in_picked (full l ch m) a.0 (full_has l ch m a.0 a.1) a.2) p
            (subst (λ (k : Kind). In (place k (2 * s.number)) (writes l ch m a.0)) (sym a.3)
            (tabulate_in (place (kind_of l ch m a.0)) (2 * count l ch m a.0) (2 * from l ch m a.0) (2 * s.number) (omega (arith, a.4)) (omega (arith, a.5))))))
            t.2,
      )

  -- THE FLAGS NAME THE ROWS THAT ARE REACHED, in the plan's order
  pub flags_reached : picked (rules l ch m) test (full l ch m) ≡ reached (rules l ch m) (cells (spot permittivity e))
  flags_reached =
      picked_reach (rules l ch m) test hot (full l ch m) (laws l ch m (ranges l limits)).rising
      (λ r i t. some_hit l limits m e base ch r (full_in l ch m r i) (touched_some r t))
      (λ r i h. some_touched r (hit_some l limits m e base ch r (full_in l ch m r i) h))
