-- The laws of the store's rows, and demand 3's theorem for them. Assumes nothing.
use Prim.Native.Nat.{ℕ, zero, suc, ◌+◌, ◌*◌, ◌/◌, ◌≤◌, ◌<◌}
use mathlib.Core.Path.{◌≡◌, refl, sym, ap, subst, ◌∙◌}
use mathlib.Core.Logic.{inl, inr, ⊎_elim}
use mathlib.Core.List.{List, ◌∷◌, ◌++◌, []}
use mathlib.Core.Option.{Option, none, some}
use native.Mathlib.Omega.{arith}
use lib.Dec.{ltb}
use borrow.Author.Tests.{le-ltb, ltb-true}
use Rattle.std.proofs.lemmas.Bool.{cases_Bool}
use Rattle.numbers.specs.declared.C64.{C64}
use Rattle.numbers.specs.Lists.{tabulate, In}
use Rattle.numbers.proofs.MemberLaws.{in_append}
use Rattle.numbers.proofs.SumLaws.{sum_to_zero}
use Rattle.numbers.proofs.StoredLaws.{start_room}
use Rattle.numbers.proofs.PartLaws.{part_room}
use Rattle.numbers.proofs.TransposedLaws.{in_tabulate}
use Rattle.lattice.specs.Lattice.{FullLattice}
use Rattle.operators.specs.LevelLists.{edges_on}
use Rattle.store.specs.Space.{Look}
use Rattle.store.specs.Plan.{Laws, Free, Room, Climbing}
use Rattle.store.specs.Book.{EditLaws, Done, outcome, after, answers, set_up, change, note, Distinct, SameChanges, AllDone}
use Rattle.store.specs.Store.{Store, Sizes, sizes}
use Rattle.store.specs.Places.{Place, Has, space, ends_at, permittivities_at, forward_starts_at, forward_columns_at, forward_values_at, turned_starts_at, turned_columns_at, turned_values_at, operator_starts_at, operator_columns_at, operator_values_at, scaling_at}
use Rattle.store.specs.Spots.{Kind, permittivity, forwards, turneds, entries, scales, Spot, spot, place, cells, laid_from}
use Rattle.store.specs.Layout.{forward_cols, turned_cols, operator_cols, next_edges, forward_count, turned_count, operator_count, first_stored, stored_count, scale_count, eps_off, averaged_off, forward_off, turned_off, operator_off, scale_off, eps_need, scale_need, Enough}
use Rattle.store.specs.declared.Choice.{Choice}
use Rattle.store.specs.declared.Choice.TheVariants.{Galerkin, Rediscretized}
use Rattle.store.specs.Rows.{Row, coarse, averaged, forward, turned, volume, share, operator, kind_of, from, count, reading, writes, reads, calc, level, only, group, groups, full, rules}
use Rattle.store.specs.Changes.{Change, Why, NoEdge, changes}
use Rattle.store.proofs.PlanLaws.{in_stands}
use Rattle.store.proofs.Ranking.{Ordered, ordered_append, ordered_tabulate, Ranked, ranked_rising, ranked_climbing}
use Rattle.store.proofs.ListTheorem.{said_laws, store_is_book, any_order}
use Rattle.store.proofs.SpaceLaws.{lawful}
use Rattle.store.proofs.SpotLaws.{each_in, cells_agree}
use Rattle.store.proofs.LocalLaws.{numbers_local}
use Rattle.store.proofs.RankLaws.{Ranges, Re, Valid, full_in, row_rank, row_number_lem, rank_of, number_of, eps_at_lem, spot_stands, spot_below}

-- ---- locality

pub local : (l : FullLattice) (ch : Choice) (m : ℕ) (r : Row) (f g : Look space) → ((q : Place) → In q (reads l ch m r) → f q ≡ g q) → (p : Place) → In p (writes l ch m r)
    → calc l ch m f r p ≡ calc l ch m g r p
local l ch m r f g h p i =
    ap (λ (vs : List C64). laid_from vs (from l ch m r) p) (numbers_local l ch m f g r (cells_agree f g (reading l ch m r) h))

-- ---- ranks of places

module _ (l : FullLattice) (ch : Choice) (m : ℕ) where
  abbrev pub rank : Place → ℕ
  rank (ends_at j) = 0
  rank (permittivities_at j) = rank_of l ch m permittivity (j / 2)
  rank (forward_starts_at j) = 0
  rank (forward_columns_at j) = 0
  rank (forward_values_at j) = rank_of l ch m forwards (j / 2)
  rank (turned_starts_at j) = 0
  rank (turned_columns_at j) = 0
  rank (turned_values_at j) = rank_of l ch m turneds (j / 2)
  rank (operator_starts_at j) = 0
  rank (operator_columns_at j) = 0
  rank (operator_values_at j) = rank_of l ch m entries (j / 2)
  rank (scaling_at j) = rank_of l ch m scales (j / 2)

  abbrev pub number : Place → ℕ
  number (ends_at j) = 0
  number (permittivities_at j) = number_of l ch m permittivity (j / 2)
  number (forward_starts_at j) = 0
  number (forward_columns_at j) = 0
  number (forward_values_at j) = number_of l ch m forwards (j / 2)
  number (turned_starts_at j) = 0
  number (turned_columns_at j) = 0
  number (turned_values_at j) = number_of l ch m turneds (j / 2)
  number (operator_starts_at j) = 0
  number (operator_columns_at j) = 0
  number (operator_values_at j) = number_of l ch m entries (j / 2)
  number (scaling_at j) = number_of l ch m scales (j / 2)

  rank_place : (k : Kind) (j : ℕ) → rank (place k j) ≡ rank_of l ch m k (j / 2)
  rank_place permittivity j = refl
  rank_place forwards j = refl
  rank_place turneds j = refl
  rank_place entries j = refl
  rank_place scales j = refl

  number_place : (k : Kind) (j : ℕ) → number (place k j) ≡ number_of l ch m k (j / 2)
  number_place permittivity j = refl
  number_place forwards j = refl
  number_place turneds j = refl
  number_place entries j = refl
  number_place scales j = refl

  pub stands : (r : Row) → In r (full l ch m) → (p : Place) → In p (writes l ch m r) → (rank p ≡ row_rank l ch m r) × (number p ≡ row_number_lem l ch m r)
  stands r a p i =
      let t = in_tabulate (place (kind_of l ch m r)) (2 * count l ch m r) (2 * from l ch m r) p i in
      let lo : from l ch m r ≤ t.0 / 2 = omega (arith, t.1) in
      let hi : t.0 / 2 < from l ch m r + count l ch m r = omega (arith, t.2) in
      let s = spot_stands l ch m r (full_in l ch m r a) (t.0 / 2) lo hi in
      (ap rank t.3 ∙ rank_place (kind_of l ch m r) t.0 ∙ s.0, ap number t.3 ∙ number_place (kind_of l ch m r) t.0 ∙ s.1)

  cell_rank : (s : Spot) (p : Place) → In p (cells s) → rank p ≡ rank_of l ch m s.kind s.number
  cell_rank s p (inl e) =
      let h : 2 * s.number / 2 ≡ s.number = omega arith in
      ap rank e ∙ rank_place s.kind (2 * s.number) ∙ ap (rank_of l ch m s.kind) h
  cell_rank s p (inr (inl e)) =
      let h : (2 * s.number + 1) / 2 ≡ s.number = omega arith in
      ap rank e ∙ rank_place s.kind (2 * s.number + 1) ∙ ap (rank_of l ch m s.kind) h
  cell_rank s p (inr (inr i)) = absurd i

  module _ (w : Ranges l) where
    below : (r : Row) → In r (full l ch m) → (p : Place) → In p (reads l ch m r) → rank p < row_rank l ch m r
    below r a p i =
        let t = each_in cells (reading l ch m r) p i in
        omega (arith, cell_rank t.0 p t.2, spot_below l ch m w r (full_in l ch m r a) t.0 t.1)

-- ---- the order of the rows

module _ (rank number : Row → ℕ) where
  -- rows in order, with ranks from lo to below hi
  abbrev Sorted : ℕ → ℕ → List Row → Type 0
  Sorted lo hi rs = Ordered rank number rs × ((q : Row) → In q rs → (lo ≤ rank q) × (rank q < hi))

  sorted_none : (lo hi : ℕ) → Sorted lo hi []
  sorted_none lo hi = (tt, λ q i. absurd i)

  sorted_tabulate : (f : ℕ → Row) (n c lo hi : ℕ) → ((j : ℕ) → rank (f j) ≡ n) → ((j : ℕ) → number (f j) ≡ j) → lo ≤ n → n < hi → Sorted lo hi (tabulate f c 0)
  sorted_tabulate f n c lo hi e g a b = (
    ordered_tabulate rank number f n c 0 e g,
    λ q i. let t = in_tabulate f c 0 q i in let d : rank q ≡ n = ap rank t.3 ∙ e t.0 in (omega arith, omega arith),
  )

  sorted_append : (lo mid hi : ℕ) (rs qs : List Row) → lo ≤ mid → mid ≤ hi → Sorted lo mid rs → Sorted mid hi qs → Sorted lo hi (rs ++ qs)
  sorted_append lo mid hi rs qs a b s t = (
    ordered_append rank number rs qs s.0 t.0 (λ r q i j. let x = s.1 r i in let y = t.1 q j in inl (omega (arith, x.1, y.0))),
    λ q i. ⊎_elim (λ j. let x = s.1 q j in (x.0, omega (arith, x.1))) (λ j. let y = t.1 q j in (omega (arith, y.0), y.1)) (in_append q rs qs i),
  )

sorted_only : (rank number : Row → ℕ) (ch : Choice) (lo hi : ℕ) (rs : List Row) → Sorted rank number lo hi rs → Sorted rank number lo hi (only ch rs)
sorted_only rank number Galerkin lo hi rs s = sorted_none rank number lo hi
sorted_only rank number Rediscretized lo hi rs s = s

module _ (l : FullLattice) (ch : Choice) (m : ℕ) where
  abbrev Rows : ℕ → ℕ → List Row → Type 0
  Rows lo hi rs = Sorted (row_rank l ch m) (row_number_lem l ch m) lo hi rs

  -- rows of one kind
  kind_sorted : (f : ℕ → Row) (n c hi : ℕ) → ((j : ℕ) → row_rank l ch m (f j) ≡ n) → ((j : ℕ) → row_number_lem l ch m (f j) ≡ j) → n < hi → Rows n hi (tabulate f c 0)
  kind_sorted f n c hi e g b = sorted_tabulate (row_rank l ch m) (row_number_lem l ch m) f n c n hi e g (omega arith) b

  behind : (lo mid hi : ℕ) (rs qs : List Row) → lo ≤ mid → mid ≤ hi → Rows lo mid rs → Rows mid hi qs → Rows lo hi (rs ++ qs)
  behind = sorted_append (row_rank l ch m) (row_number_lem l ch m)

  group_sorted : (L : ℕ) → Rows (8 * suc L) (8 * suc (suc L)) (group l ch L)
  group_sorted L =
      let b = 8 * suc L in
      let n = edges_on l L in
      let k = edges_on l (suc L) in
      let end = 8 * suc (suc L) in
      let own = sorted_only (row_rank l ch m) (row_number_lem l ch m) ch in
      behind b (b + 1) end (tabulate (coarse L) k 0) _ (omega arith) (omega arith) (kind_sorted (coarse L) b k (b + 1) (λ j. refl) (λ j. refl) (omega arith))
      (behind (b + 1) (b + 2) end (only ch (tabulate (averaged L) k 0)) _ (omega arith) (omega arith)
      (own (b + 1) (b + 2) (tabulate (averaged L) k 0) (kind_sorted (averaged L) (b + 1) k (b + 2) (λ j. refl) (λ j. refl) (omega arith)))
      (behind (b + 2) (b + 3) end (tabulate (forward L) n 0) _ (omega arith) (omega arith) (kind_sorted (forward L) (b + 2) n (b + 3) (λ j. refl) (λ j. refl) (omega arith))
      (behind (b + 3) (b + 4) end (tabulate (turned L) k 0) _ (omega arith) (omega arith) (kind_sorted (turned L) (b + 3) k (b + 4) (λ j. refl) (λ j. refl) (omega arith))
      (behind (b + 4) (b + 5) end (only ch (tabulate (volume L) n 0)) _ (omega arith) (omega arith)
      (own (b + 4) (b + 5) (tabulate (volume L) n 0) (kind_sorted (volume L) (b + 4) n (b + 5) (λ j. refl) (λ j. refl) (omega arith)))
      (behind (b + 5) (b + 6) end (only ch (tabulate (share L) k 0)) _ (omega arith) (omega arith)
      (own (b + 5) (b + 6) (tabulate (share L) k 0) (kind_sorted (share L) (b + 5) k (b + 6) (λ j. refl) (λ j. refl) (omega arith)))
      (kind_sorted (operator (suc L)) (b + 6) k end (λ j. refl) (λ j. refl) (omega arith)))))))

  groups_sorted : (n : ℕ) → Rows 8 (8 * suc n) (groups l ch n)
  unfolding groups
  groups_sorted zero = sorted_none (row_rank l ch m) (row_number_lem l ch m) 8 8
  groups_sorted (suc n) = behind 8 (8 * suc n) (8 * suc (suc n)) (groups l ch n) (group l ch n) (omega arith) (omega arith) (groups_sorted n) (group_sorted n)

order : (l : FullLattice) (ch : Choice) (m : ℕ) → Ordered (row_rank l ch m) (row_number_lem l ch m) (full l ch m)
order l ch zero = (kind_sorted l ch 0 (operator 0) 6 (edges_on l 0) 7 (λ j. refl) (λ j. refl) (omega arith)).0
order l ch (suc m) = (groups_sorted l ch (suc m) (suc m)).0

-- ---- the laws

level_rank : (l : FullLattice) (ch : Choice) (m : ℕ) (r : Row) → level l ch m r ≡ row_rank l ch m r / 8
level_rank l ch m (coarse L r) = omega arith
level_rank l ch m (averaged L r) = omega arith
level_rank l ch m (forward L r) = omega arith
level_rank l ch m (turned L c) = omega arith
level_rank l ch m (volume L r) = omega arith
level_rank l ch m (share L c) = omega arith
level_rank l ch m (operator L r) = omega arith

pub rank_some : (l : FullLattice) (ch : Choice) (m : ℕ) (r : Row) → 0 < row_rank l ch m r
rank_some l ch m (coarse L r) = omega arith
rank_some l ch m (averaged L r) = omega arith
rank_some l ch m (forward L r) = omega arith
rank_some l ch m (turned L c) = omega arith
rank_some l ch m (volume L r) = omega arith
rank_some l ch m (share L c) = omega arith
rank_some l ch m (operator L r) = omega arith

module _ (l : FullLattice) (ch : Choice) (m : ℕ) (w : Ranges l) where
  ranked : Ranked space (rules l ch m)
  ranked =
      record {
        rank = rank l ch m;
        number = number l ch m;
        row_rank = row_rank l ch m;
        row_number_lem = row_number_lem l ch m;
        stands = stands l ch m;
        below = below l ch m w;
        order = order l ch m;
      }

  pub laws : Laws space (rules l ch m)
  laws = record { lawful = lawful; local = local l ch m; rising = ranked_rising ranked }

  -- the levels do not fall along the rows, so that refusal 7's level is the lowest
  pub climbing : Climbing (rules l ch m) (full l ch m)
  unfolding ranked
  climbing = ranked_climbing ranked (λ r q h. omega (arith, level_rank l ch m r, level_rank l ch m q))

-- ---- room

abbrev pub need_of : FullLattice → Choice → ℕ → Kind → ℕ
need_of l ch m permittivity = eps_need l ch m
need_of l ch m forwards = forward_off l m
need_of l ch m turneds = turned_off l m
need_of l ch m entries = operator_off l ch m (suc m)
need_of l ch m scales = scale_need l ch m

pub chain_most : (l : FullLattice) (ch : Choice) (m : ℕ) → eps_off l (suc m) ≤ eps_need l ch m
chain_most l Galerkin m = omega arith
chain_most l Rediscretized m = omega arith

averaged_most : (l : FullLattice) (ch : Choice) (m L r : ℕ) → Re ch → L < m → r < edges_on l (suc L) → averaged_off l m L + r < eps_need l ch m
averaged_most l Galerkin m L r e h b = absurd e
averaged_most l Rediscretized m L r e h b = omega (arith, part_room (next_edges l) L m h)

scale_most : (l : FullLattice) (ch : Choice) (m L q : ℕ) → Re ch → L < m → q < scale_count l L → scale_off l L + q < scale_need l ch m
scale_most l Galerkin m L q e h b = absurd e
scale_most l Rediscretized m L q e h b = omega (arith, part_room (scale_count l) L m h)

pub row_most : (l : FullLattice) (ch : Choice) (m : ℕ) (r : Row) → Valid l ch m r → from l ch m r + count l ch m r ≤ need_of l ch m (kind_of l ch m r)
row_most l ch m (coarse L r) v = omega (arith, part_room (edges_on l) (suc L) (suc m) (omega (arith, v.0)), chain_most l ch m, v.1)
row_most l ch m (averaged L r) v = omega (arith, averaged_most l ch m L r v.2 v.0 v.1)
row_most l ch m (forward L r) v = omega (arith, start_room (forward_cols l L) (edges_on l L) r v.1, part_room (forward_count l) L m v.0)
row_most l ch m (turned L c) v = omega (arith, start_room (turned_cols l L) (edges_on l (suc L)) c v.1, part_room (turned_count l) L m v.0)
row_most l ch m (volume L r) v = omega (arith, scale_most l ch m L r v.2 v.0 (omega (arith, v.1)))
row_most l ch m (share L c) v = omega (arith, scale_most l ch m L (edges_on l L + c) v.2 v.0 (omega (arith, v.1)))
row_most l ch m (operator L r) v =
    let e : stored_count l ch m L ≡ operator_count l ch L = rw (le-ltb L (first_stored m) v.0) refl in
    omega (arith, start_room (operator_cols l ch L) (edges_on l L) r v.2, part_room (stored_count l ch m) L (suc m) (omega (arith, v.1)))

module _ (l : FullLattice) (ch : Choice) (m : ℕ) (w : Ranges l) (h : Sizes) (enough : Enough l ch m h) where
  has_place : (k : Kind) (j : ℕ) → j < 2 * need_of l ch m k → Has h (place k j)
  has_place permittivity j b = let g : j < h.permittivities = omega (arith, enough.eps_room) in g
  has_place forwards j b = let g : j < h.forward_values = omega (arith, enough.forward_values_are) in g
  has_place turneds j b = let g : j < h.turned_values = omega (arith, enough.turned_values_are) in g
  has_place entries j b = let g : j < h.operator_values = omega (arith, enough.operator_values_are) in g
  has_place scales j b = let g : j < h.scaling = omega (arith, enough.scaling_room) in g

  pub room : Room (rules l ch m) h
  room p s =
      let t = in_stands (rules l ch m) (full l ch m) p s in
      let r = t.0 in
      let u = in_tabulate (place (kind_of l ch m r)) (2 * count l ch m r) (2 * from l ch m r) p t.2 in
      rw u.3 (has_place (kind_of l ch m r) u.0 (omega (arith, u.2, row_most l ch m r (full_in l ch m r t.1))))

  -- ---- the given permittivities: no row writes them

  pub base_free : (e : ℕ) → e < edges_on l 0 → (p : Place) → In p (cells (spot permittivity e)) → Free (rules l ch m) p
  base_free e b p i s =
      let t = in_stands (rules l ch m) (full l ch m) p s in
      let a = (stands l ch m t.0 t.1 p t.2).0 in
      let c = cell_rank l ch m (spot permittivity e) p i in
      let z = (eps_at_lem l ch m 0 e e (omega arith) b (omega (arith, sum_to_zero (edges_on l)))).0 in
      omega (arith, a, c, z, rank_some l ch m t.0)

  abbrev IsNone : Option Why → Type 0
  IsNone none = Unit {0}
  IsNone (some y) = ⊥

  base_has : (e : ℕ) → e < edges_on l 0 → (p : Place) → In p (cells (spot permittivity e)) → Has h p
  base_has e b p i =
      let n : e < need_of l ch m permittivity = omega (arith, sum_to_zero (edges_on l), part_room (edges_on l) 0 (suc m) (omega arith), chain_most l ch m) in
      go n i
    where
      go : e < need_of l ch m permittivity → In p (cells (spot permittivity e)) → Has h p
      go n (inl q) = rw q (has_place permittivity (2 * e) (omega arith))
      go n (inr (inl q)) = rw q (has_place permittivity (2 * e + 1) (omega arith))
      go n (inr (inr j)) = absurd j

  allowed : (c : Change) → (changes l).bad c ≡ none → (p : Place) → In p (cells (spot permittivity c.edge)) → Free (rules l ch m) p × Has h p
  allowed c e p i =
      ⊎_elim
      (λ t. let b = ltb-true c.edge (edges_on l 0) t in (base_free c.edge b p i, base_has c.edge b p i))
      (λ t. let e2 : some NoEdge ≡ none = rw t at e in absurd (subst IsNone (sym e2) tt))
      (cases_Bool (ltb c.edge (edges_on l 0)))

  pub change_laws : EditLaws space (rules l ch m) Why (changes l) h
  change_laws = said_laws (rules l ch m) lawful Why Change (λ c. cells (spot permittivity c.edge)) (λ c. laid_from (c.value ∷ []) c.edge) (changes l).bad h allowed

  -- DEMAND 3
  pub store_book : (b : Store) → sizes b ≡ h → (set_up (rules l ch m) Why b).answer ≡ Done → (cs : List Change)
      → (set_up (rules l ch m) Why (after (note (rules l ch m) (changes l)) b cs) ≡ outcome Done (after (change (rules l ch m) (changes l)) (set_up (rules l ch m) Why b).store cs))
      × (answers (change (rules l ch m) (changes l)) (set_up (rules l ch m) Why b).store cs ≡ answers (note (rules l ch m) (changes l)) b cs)
  store_book = store_is_book (laws l ch m w) change_laws room

  pub store_orders : (b : Store) → sizes b ≡ h → (set_up (rules l ch m) Why b).answer ≡ Done → (cs ds : List Change) → Distinct (changes l) cs → Distinct (changes l) ds → SameChanges (changes l) cs ds
      → AllDone (answers (change (rules l ch m) (changes l)) (set_up (rules l ch m) Why b).store cs) → AllDone (answers (change (rules l ch m) (changes l)) (set_up (rules l ch m) Why b).store ds)
      → after (change (rules l ch m) (changes l)) (set_up (rules l ch m) Why b).store cs ≡ after (change (rules l ch m) (changes l)) (set_up (rules l ch m) Why b).store ds
  store_orders = any_order (laws l ch m w) change_laws room
