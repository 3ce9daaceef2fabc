-- The closed form of a setup's lists is what the plan's run leaves: every row holds what the layers below say, and nothing else is touched. Assumes nothing.
use Prim.Native.Nat.{ℕ, zero, suc, ◌+◌, ◌-◌, ◌*◌, ◌/◌, ◌≤◌, ◌<◌}
use mathlib.Core.Path.{◌≡◌, refl, sym, ap, ◌∙◌}
use mathlib.Core.Bool.{true, false}
use mathlib.Core.List.{List, ◌∷◌, []}
use native.Mathlib.Omega.{arith}
use native.Mathlib.Decide.{dec_lt}
use lib.Dec.{ltb}
use lib.ListN.{length, get_or, get_or-append}
use lib.Ieee.{Float, nan}
use lib.Seq.{get_or-append-add}
use borrow.Author.Tests.{lt-ltb, le-ltb}
use Rattle.numbers.specs.declared.C64.{C64}
use Rattle.numbers.specs.Complex.{no_number}
use Rattle.numbers.specs.Places.{number_at, set_number}
use Rattle.numbers.specs.Lists.{tabulate, rows, laid_numbers, start_of, sum_to}
use Rattle.numbers.specs.Terms.{numbers_of}
use Rattle.numbers.proofs.Equations.{laid_by_nil}
use Rattle.numbers.proofs.ListLaws.{laid_length, laid_numbers_length, laid_numbers_before, laid_numbers_at}
use Rattle.numbers.proofs.StoredLaws.{start_room}
use Rattle.numbers.proofs.SumLaws.{sum_to_zero}
use Rattle.numbers.proofs.TabulateLaws.{length_tabulate, tabulate_at_0}
use Rattle.numbers.proofs.PartLaws.{part_number, part_of_lem, part_room, row_number, row_of, rows_sum}
use Rattle.numbers.proofs.TransposedLaws.{tabulate_in}
use Rattle.lattice.specs.Grid.{Limits}
use Rattle.lattice.specs.Lattice.{FullLattice}
use Rattle.operators.specs.LevelLists.{edges_on}
use Rattle.operators.specs.Levels.{eps_at, averaged_on, forward_at, turned_at, volumes_at, inverse_shares_at}
use Rattle.store.specs.Plan.{Free, run}
use Rattle.store.specs.Store.{Store, sizes}
use Rattle.store.specs.Places.{Place, get, ends_at, permittivities_at, forward_starts_at, forward_columns_at, forward_values_at, turned_starts_at, turned_columns_at, turned_values_at, operator_starts_at, operator_columns_at, operator_values_at, scaling_at}
use Rattle.store.specs.Spots.{Kind, permittivity, forwards, turneds, entries, scales, place, number_in, part_of}
use Rattle.store.specs.Layout.{operator_at, forward_cols, turned_cols, operator_cols, next_edges, forward_count, turned_count, operator_count, first_stored, stored_count, scale_count, eps_off, averaged_off, forward_off, turned_off, operator_off, scale_off, Enough}
use Rattle.store.specs.declared.Choice.{Choice}
use Rattle.store.specs.declared.Choice.TheVariants.{Galerkin, Rediscretized}
use Rattle.store.specs.Rows.{Row, coarse, averaged, forward, turned, volume, share, operator, kind_of, from, count, full, rules}
use Rattle.store.specs.Landed.{landed}
use Rattle.store.specs.Setup.{ends_part, forward_starts_of, forward_cols_of, turned_starts_of, turned_cols_of, operator_starts_of, operator_cols_of, eps_part, averaged_part, forward_numbers, turned_numbers, operator_numbers, scale_part, only_numbers, filled}
use Rattle.store.specs.Load.{given, load}
use Rattle.store.specs.Work.{list_of}
use Rattle.store.proofs.PlanLaws.{stands_in}
use Rattle.store.proofs.ColumnLaws.{forward_cols_at, turned_cols_at, operator_cols_at}
use Rattle.store.proofs.LandedLaws.{full_has, laid_is_set_up}
use Rattle.operators.proofs.Equations.{eps_at_zero}
use Rattle.store.proofs.RankLaws.{Valid, full_in}
use Rattle.store.proofs.SetupLaws.{load_sizes, load_given}
use Rattle.store.proofs.StoreLaws.{chain_most}
use Rattle.store.proofs.WorkLaws.{look_list, number_double, rest_double}
use Rattle.store.proofs.SizeLaws.{eps_long, averaged_long, fnumbers_long, tnumbers_long, onumbers_long, scale_long}

-- ---- what the filled lists hold

module _ (l : FullLattice) (ch : Choice) (m : ℕ) (f : ℕ → C64) (b : Store) (enough : Enough l ch m (sizes b)) where
  abbrev t : Store
  t = filled l ch m f b

  -- the chain's front
  eps_front : (q : ℕ) → q < eps_off l (suc m) → number_at t.permittivities q ≡ number_at (laid_numbers b.permittivities 0 (rows (eps_part l f) (suc m))) q
  unfolding filled
  eps_front q h = laid_numbers_before (laid_numbers b.permittivities 0 (rows (eps_part l f) (suc m))) (eps_off l (suc m)) (only_numbers ch (rows (averaged_part l f) m)) q h

  pub eps_number : (L j : ℕ) → L < suc m → j < edges_on l L → number_at t.permittivities (eps_off l L + j) ≡ eps_at l f L j
  eps_number L j h i =
      eps_front (eps_off l L + j) (omega (arith, part_room (edges_on l) L (suc m) h))
      ∙ part_number (eps_part l f) (edges_on l) (eps_long l f) b.permittivities 0 (suc m) (omega (arith, enough.eps_room, chain_most l ch m)) L j (eps_off l L + j) no_number (omega arith) h i
      ∙ tabulate_at_0 (eps_at l f L) (edges_on l L) j no_number i

  forward_number : (L r j : ℕ) → L < m → r < edges_on l L → j < length (forward_cols l L r)
      → number_at t.forward_values (forward_off l L + start_of (forward_cols l L) r + j) ≡ get_or (numbers_of (forward_at l f L r)) j no_number
  unfolding filled
  forward_number L r j h i k =
      part_number (forward_numbers l f) (forward_count l) (fnumbers_long l f) b.forward_values 0 m (omega (arith, enough.forward_values_are)) L (start_of (forward_cols l L) r + j) _ no_number (omega arith) h
      (omega (arith, start_room (forward_cols l L) (edges_on l L) r i))
      ∙ row_number (forward_at l f L) (forward_cols l L) (forward_cols_at l f L) (edges_on l L) r j no_number i k

  turned_number : (L r j : ℕ) → L < m → r < edges_on l (suc L) → j < length (turned_cols l L r)
      → number_at t.turned_values (turned_off l L + start_of (turned_cols l L) r + j) ≡ get_or (numbers_of (turned_at l f L r)) j no_number
  unfolding filled
  turned_number L r j h i k =
      part_number (turned_numbers l f) (turned_count l) (tnumbers_long l f) b.turned_values 0 m (omega (arith, enough.turned_values_are)) L (start_of (turned_cols l L) r + j) _ no_number (omega arith) h
      (omega (arith, start_room (turned_cols l L) (edges_on l (suc L)) r i))
      ∙ row_number (turned_at l f L) (turned_cols l L) (turned_cols_at l f L) (edges_on l (suc L)) r j no_number i k

  operator_number : (L r j : ℕ) → first_stored m ≤ L → L ≤ m → r < edges_on l L → j < length (operator_cols l ch L r)
      → number_at t.operator_values (operator_off l ch m L + start_of (operator_cols l ch L) r + j) ≡ get_or (numbers_of (operator_at l ch f L r)) j no_number
  unfolding filled
  operator_number L r j first h i k =
      let z : ltb L (first_stored m) ≡ false = le-ltb L (first_stored m) first in
      let u : stored_count l ch m L ≡ operator_count l ch L = rw z refl in
      let v : operator_numbers l ch m f L ≡ numbers_of (rows (operator_at l ch f L) (edges_on l L)) = rw z refl in
      part_number (operator_numbers l ch m f) (stored_count l ch m) (onumbers_long l ch m f) b.operator_values 0 (suc m) (omega (arith, enough.operator_values_are)) L (start_of (operator_cols l ch L) r + j) _ no_number
      (omega arith) (omega arith) (omega (arith, start_room (operator_cols l ch L) (edges_on l L) r i))
      ∙ ap (λ (vs : List C64). get_or vs (start_of (operator_cols l ch L) r + j) no_number) v
      ∙ row_number (operator_at l ch f L) (operator_cols l ch L) (operator_cols_at l ch f L) (edges_on l L) r j no_number i k

-- those of a rediscretized store
module _ (l : FullLattice) (m : ℕ) (f : ℕ → C64) (b : Store) (enough : Enough l Rediscretized m (sizes b)) where
  abbrev t2 : Store
  t2 = filled l Rediscretized m f b

  averaged_number : (L j : ℕ) → L < m → j < edges_on l (suc L) → number_at t2.permittivities (averaged_off l m L + j) ≡ averaged_on l f (suc L) j
  unfolding filled
  averaged_number L j h i =
      let len = laid_numbers_length b.permittivities 0 (rows (eps_part l f) (suc m)) in
      part_number (averaged_part l f) (next_edges l) (averaged_long l f) (laid_numbers b.permittivities 0 (rows (eps_part l f) (suc m))) (eps_off l (suc m)) m (omega (arith, enough.eps_room)) L j _ no_number
      (omega arith) h i
      ∙ tabulate_at_0 (averaged_on l f (suc L)) (edges_on l (suc L)) j no_number i

  scale_number : (L j i : ℕ) → i ≡ scale_off l L + j → L < m → j < scale_count l L → number_at t2.scaling i ≡ get_or (scale_part l f L) j no_number
  unfolding filled
  scale_number L j i e h k = part_number (scale_part l f) (scale_count l) (scale_long l f) b.scaling 0 m (omega (arith, enough.scaling_room)) L j i no_number (omega arith) h k

  volume_number : (L j : ℕ) → L < m → j < edges_on l L → number_at t2.scaling (scale_off l L + j) ≡ volumes_at l L j
  volume_number L j h i =
      scale_number L j (scale_off l L + j) refl h (omega arith)
      ∙ get_or-append (tabulate (volumes_at l L) (edges_on l L) 0) (tabulate (inverse_shares_at l f L) (edges_on l (suc L)) 0) no_number j (omega (arith, length_tabulate (volumes_at l L) (edges_on l L) 0))
      ∙ tabulate_at_0 (volumes_at l L) (edges_on l L) j no_number i

  share_number : (L j : ℕ) → L < m → j < edges_on l (suc L) → number_at t2.scaling (scale_off l L + edges_on l L + j) ≡ inverse_shares_at l f L j
  share_number L j h i =
      let vs = tabulate (volumes_at l L) (edges_on l L) 0 in
      let ws = tabulate (inverse_shares_at l f L) (edges_on l (suc L)) 0 in
      let v : length vs ≡ edges_on l L = length_tabulate (volumes_at l L) (edges_on l L) 0 in
      scale_number L (length vs + j) (scale_off l L + edges_on l L + j) (omega arith) h (omega arith)
      ∙ get_or-append-add vs ws j no_number
      ∙ tabulate_at_0 (inverse_shares_at l f L) (edges_on l (suc L)) j no_number i

-- ---- EVERY ROW HOLDS WHAT THE LAYERS BELOW SAY

one : (x : C64) (q : ℕ) → q < 1 → x ≡ get_or (x ∷ []) q no_number
one x zero h = refl
one x (suc q) h = absurd (omega arith)

-- a row of one number
single : (s : Store) (k : Kind) (a q : ℕ) (x : C64) → q < 1 → number_at (list_of s k) a ≡ x → number_in (get s) k (a + q) ≡ get_or (x ∷ []) q no_number
single s k a q x h e = let z : a + q ≡ a = omega arith in rw z (look_list s k a ∙ e ∙ one x q h)

pub filled_holds : (l : FullLattice) (ch : Choice) (m : ℕ) (f : ℕ → C64) (b : Store) → Enough l ch m (sizes b) → (r : Row) → Valid l ch m r → (q : ℕ) → q < count l ch m r
    → number_in (get (filled l ch m f b)) (kind_of l ch m r) (from l ch m r + q) ≡ get_or (landed l ch f r) q no_number
filled_holds l ch m f b w (coarse L r) v q h = single (filled l ch m f b) permittivity (eps_off l (suc L) + r) q (eps_at l f (suc L) r) h (eps_number l ch m f b w (suc L) r (omega (arith, v.0)) v.1)
filled_holds l Galerkin m f b w (averaged L r) v q h = absurd v.2
filled_holds l Rediscretized m f b w (averaged L r) v q h =
    single (filled l Rediscretized m f b) permittivity (averaged_off l m L + r) q (averaged_on l f (suc L) r) h (averaged_number l m f b w L r v.0 v.1)
filled_holds l ch m f b w (forward L r) v q h =
    look_list (filled l ch m f b) forwards (forward_off l L + start_of (forward_cols l L) r + q) ∙ forward_number l ch m f b w L r q v.0 v.1 h
filled_holds l ch m f b w (turned L c) v q h =
    look_list (filled l ch m f b) turneds (turned_off l L + start_of (turned_cols l L) c + q) ∙ turned_number l ch m f b w L c q v.0 v.1 h
filled_holds l Galerkin m f b w (volume L r) v q h = absurd v.2
filled_holds l Rediscretized m f b w (volume L r) v q h =
    single (filled l Rediscretized m f b) scales (scale_off l L + r) q (volumes_at l L r) h (volume_number l m f b w L r v.0 v.1)
filled_holds l Galerkin m f b w (share L c) v q h = absurd v.2
filled_holds l Rediscretized m f b w (share L c) v q h =
    single (filled l Rediscretized m f b) scales (scale_off l L + edges_on l L + c) q (inverse_shares_at l f L c) h (share_number l m f b w L c v.0 v.1)
filled_holds l ch m f b w (operator L r) v q h =
    look_list (filled l ch m f b) entries (operator_off l ch m L + start_of (operator_cols l ch L) r + q) ∙ operator_number l ch m f b w L r q v.0 v.1 v.2 h

-- ---- AND NOTHING ELSE IS TOUCHED

module _ (l : FullLattice) (ch : Choice) (m : ℕ) where
  -- no row stands at a free place
  stand : (r : Row) → Valid l ch m r → (j : ℕ) → from l ch m r ≤ j / 2 → j / 2 < from l ch m r + count l ch m r → Free (rules l ch m) (place (kind_of l ch m r) j) → ⊥
  stand r v j lo hi free =
      free (stands_in (rules l ch m) (full l ch m) r (full_has l ch m r v) (place (kind_of l ch m r) j)
      (tabulate_in (place (kind_of l ch m r)) (2 * count l ch m r) (2 * from l ch m r) j (omega arith) (omega arith)))

  forward_beyond : (j : ℕ) → Free (rules l ch m) (forward_values_at j) → j < 2 * forward_off l m → ⊥
  forward_beyond j free h =
      let u = part_of_lem (forward_count l) m (j / 2) (omega arith) in
      let v = row_of (forward_cols l u.0) (edges_on l u.0) u.1 u.3 in
      stand (forward u.0 v.0) (u.2, v.2) j (omega (arith, u.4, v.4)) (omega (arith, u.4, v.4, v.3)) free

  turned_beyond : (j : ℕ) → Free (rules l ch m) (turned_values_at j) → j < 2 * turned_off l m → ⊥
  turned_beyond j free h =
      let u = part_of_lem (turned_count l) m (j / 2) (omega arith) in
      let v = row_of (turned_cols l u.0) (edges_on l (suc u.0)) u.1 u.3 in
      stand (turned u.0 v.0) (u.2, v.2) j (omega (arith, u.4, v.4)) (omega (arith, u.4, v.4, v.3)) free

  -- a stored level
  stored : (L j : ℕ) → j < stored_count l ch m L → (first_stored m ≤ L) × (j < operator_count l ch L)
  stored L j h = go (dec_lt L (first_stored m))
    where
      go : Dec (L < first_stored m) → (first_stored m ≤ L) × (j < operator_count l ch L)
      go (yes z) = let e : ltb L (first_stored m) ≡ true = lt-ltb L (first_stored m) z in let k : j < 0 = rw e at h in absurd (omega arith)
      go (no z) = let y : first_stored m ≤ L = omega arith in let e : ltb L (first_stored m) ≡ false = le-ltb L (first_stored m) y in (y, rw e at h)

  operator_beyond : (j : ℕ) → Free (rules l ch m) (operator_values_at j) → j < 2 * operator_off l ch m (suc m) → ⊥
  operator_beyond j free h =
      let u = part_of_lem (stored_count l ch m) (suc m) (j / 2) (omega arith) in
      let w = stored u.0 u.1 u.3 in
      let v = row_of (operator_cols l ch u.0) (edges_on l u.0) u.1 w.1 in
      stand (operator u.0 v.0) (w.0, omega (arith, u.2), v.2) j (omega (arith, u.4, v.4)) (omega (arith, u.4, v.4, v.3)) free

  eps_beyond : (j : ℕ) → Free (rules l ch m) (permittivities_at j) → edges_on l 0 ≤ j / 2 → j / 2 < eps_off l (suc m) → ⊥
  eps_beyond j free lo h = let u = part_of_lem (edges_on l) (suc m) (j / 2) h in go u.0 u.1 u.2 u.3 u.4
    where
      go : (L i : ℕ) → L < suc m → i < edges_on l L → j / 2 ≡ sum_to (edges_on l) L + i → ⊥
      go zero i a b e = omega (arith, sum_to_zero (edges_on l))
      go (suc L) i a b e = stand (coarse L i) (omega arith, b) j (omega arith) (omega arith) free

module _ (l : FullLattice) (m : ℕ) where
  averaged_beyond : (j : ℕ) → Free (rules l Rediscretized m) (permittivities_at j) → eps_off l (suc m) ≤ j / 2 → j / 2 < averaged_off l m m → ⊥
  averaged_beyond j free lo h =
      let u = part_of_lem (next_edges l) m (j / 2 - eps_off l (suc m)) (omega arith) in
      stand l Rediscretized m (averaged u.0 u.1) (u.2, u.3, tt) j (omega (arith, u.4)) (omega (arith, u.4)) free

  scale_beyond : (j : ℕ) → Free (rules l Rediscretized m) (scaling_at j) → j / 2 < scale_off l m → ⊥
  scale_beyond j free h =
      let u = part_of_lem (scale_count l) m (j / 2) h in
      elim (dec_lt u.1 (edges_on l u.0)) as (λ _. ⊥) [
        | yes i ↦ stand l Rediscretized m (volume u.0 u.1) (u.2, i, tt) j (omega (arith, u.4)) (omega (arith, u.4)) free
        | no i ↦ stand l Rediscretized m (share u.0 (u.1 - edges_on l u.0)) (u.2, omega (arith, u.3), tt) j (omega (arith, u.4)) (omega (arith, u.4)) free
      ]

-- places beyond those that only a rediscretized store uses
averaged_rest : (l : FullLattice) (ch : Choice) (m : ℕ) (f : ℕ → C64) (xs : List Float) (j : ℕ) → Free (rules l ch m) (permittivities_at j)
    → get_or (laid_numbers xs (eps_off l (suc m)) (only_numbers ch (rows (averaged_part l f) m))) j nan ≡ get_or xs j nan
averaged_rest l Galerkin m f xs j free = ap (λ (ys : List Float). get_or ys j nan) (laid_by_nil set_number xs (eps_off l (suc m)))
averaged_rest l Rediscretized m f xs j free =
    let n = rows_sum (averaged_part l f) (next_edges l) (averaged_long l f) m in
    rest_double xs (eps_off l (suc m)) (rows (averaged_part l f) m) j (λ lo hi. averaged_beyond l m j free (omega arith) (omega arith))

scale_rest : (l : FullLattice) (ch : Choice) (m : ℕ) (f : ℕ → C64) (xs : List Float) (j : ℕ) → Free (rules l ch m) (scaling_at j)
    → get_or (laid_numbers xs 0 (only_numbers ch (rows (scale_part l f) m))) j nan ≡ get_or xs j nan
scale_rest l Galerkin m f xs j free = ap (λ (ys : List Float). get_or ys j nan) (laid_by_nil set_number xs 0)
scale_rest l Rediscretized m f xs j free =
    let n = rows_sum (scale_part l f) (scale_count l) (scale_long l f) m in
    rest_double xs 0 (rows (scale_part l f) m) j (λ lo hi. scale_beyond l m j free (omega arith))

module _ (l : FullLattice) (ch : Choice) (m : ℕ) (b : Store) (enough : Enough l ch m (sizes b)) (eps : List Float) where
  abbrev f0 : ℕ → C64
  f0 = number_at eps

  eps_alike : (j : ℕ) → Free (rules l ch m) (permittivities_at j)
      → get_or (laid_numbers b.permittivities 0 (rows (eps_part l f0) (suc m))) j nan ≡ get_or (laid_numbers b.permittivities 0 (given (edges_on l 0) eps)) j nan
  eps_alike j free =
      let n = rows_sum (eps_part l f0) (edges_on l) (eps_long l f0) (suc m) in
      let k = length_tabulate (number_at eps) (edges_on l 0) 0 in
      let room : 2 * (0 + sum_to (edges_on l) (suc m)) ≤ length b.permittivities = omega (arith, enough.eps_room, chain_most l ch m) in
      let first = part_room (edges_on l) 0 (suc m) (omega arith) in
      let none = sum_to_zero (edges_on l) in
      elim (dec_lt (j / 2) (edges_on l 0)) as (λ _. get_or (laid_numbers b.permittivities 0 (rows (eps_part l f0) (suc m))) j nan ≡ get_or (laid_numbers b.permittivities 0 (given (edges_on l 0) eps)) j nan) [
        | yes i ↦ let y : 0 + j / 2 ≡ j / 2 = omega arith in
            let p : number_at (laid_numbers b.permittivities 0 (rows (eps_part l f0) (suc m))) (j / 2) ≡ get_or (eps_part l f0 0) (j / 2) no_number =
            part_number (eps_part l f0) (edges_on l) (eps_long l f0) b.permittivities 0 (suc m) room 0 (j / 2) (j / 2) no_number (omega arith) (omega arith) i in
            let q : number_at (laid_numbers b.permittivities 0 (given (edges_on l 0) eps)) (j / 2) ≡ get_or (given (edges_on l 0) eps) (j / 2) no_number =
            rw y at (laid_numbers_at b.permittivities 0 (given (edges_on l 0) eps) (j / 2) no_number (omega arith) (omega arith)) in
            let e : get_or (eps_part l f0 0) (j / 2) no_number ≡ get_or (given (edges_on l 0) eps) (j / 2) no_number = rw (eps_at_zero l f0) refl in
            number_double (laid_numbers b.permittivities 0 (rows (eps_part l f0) (suc m))) j ∙ ap (part_of j) (p ∙ e ∙ sym q)
            ∙ sym (number_double (laid_numbers b.permittivities 0 (given (edges_on l 0) eps)) j)
        | no i ↦ rest_double b.permittivities 0 (rows (eps_part l f0) (suc m)) j (λ lo hi. eps_beyond l ch m j free (omega arith) (omega arith))
            ∙ sym (rest_double b.permittivities 0 (given (edges_on l 0) eps) j (λ lo hi. i (omega arith)))
      ]

  filled_sizes : sizes (filled l ch m f0 b) ≡ sizes b
  unfolding filled
  filled_sizes =
      λ i.
      record {
        ends = laid_length b.ends 0 (rows (ends_part l) (3 * suc m)) i;
        permittivities = (laid_numbers_length (laid_numbers b.permittivities 0 (rows (eps_part l f0) (suc m))) (eps_off l (suc m)) (only_numbers ch (rows (averaged_part l f0) m))
            ∙ laid_numbers_length b.permittivities 0 (rows (eps_part l f0) (suc m))) i;
        forward_starts = laid_length b.forward_starts 0 (rows (forward_starts_of l) m) i;
        forward_columns = laid_length b.forward_columns 0 (rows (forward_cols_of l) m) i;
        forward_values = laid_numbers_length b.forward_values 0 (rows (forward_numbers l f0) m) i;
        turned_starts = laid_length b.turned_starts 0 (rows (turned_starts_of l) m) i;
        turned_columns = laid_length b.turned_columns 0 (rows (turned_cols_of l) m) i;
        turned_values = laid_numbers_length b.turned_values 0 (rows (turned_numbers l f0) m) i;
        operator_starts = laid_length b.operator_starts 0 (rows (operator_starts_of l ch m) (suc m)) i;
        operator_columns = laid_length b.operator_columns 0 (rows (operator_cols_of l ch m) (suc m)) i;
        operator_values = laid_numbers_length b.operator_values 0 (rows (operator_numbers l ch m f0) (suc m)) i;
        scaling = laid_numbers_length b.scaling 0 (only_numbers ch (rows (scale_part l f0) m)) i;
      }

  filled_free : (p : Place) → Free (rules l ch m) p → get (filled l ch m f0 b) p ≡ get (load l ch m b eps) p
  unfolding get filled
  filled_free (ends_at j) free = refl
  filled_free (permittivities_at j) free = averaged_rest l ch m f0 (laid_numbers b.permittivities 0 (rows (eps_part l f0) (suc m))) j free ∙ eps_alike j free
  filled_free (forward_starts_at j) free = refl
  filled_free (forward_columns_at j) free = refl
  filled_free (forward_values_at j) free =
      let n = rows_sum (forward_numbers l f0) (forward_count l) (fnumbers_long l f0) m in
      rest_double b.forward_values 0 (rows (forward_numbers l f0) m) j (λ lo hi. forward_beyond l ch m j free (omega arith))
  filled_free (turned_starts_at j) free = refl
  filled_free (turned_columns_at j) free = refl
  filled_free (turned_values_at j) free =
      let n = rows_sum (turned_numbers l f0) (turned_count l) (tnumbers_long l f0) m in
      rest_double b.turned_values 0 (rows (turned_numbers l f0) m) j (λ lo hi. turned_beyond l ch m j free (omega arith))
  filled_free (operator_starts_at j) free = refl
  filled_free (operator_columns_at j) free = refl
  filled_free (operator_values_at j) free =
      let n = rows_sum (operator_numbers l ch m f0) (stored_count l ch m) (onumbers_long l ch m f0) (suc m) in
      rest_double b.operator_values 0 (rows (operator_numbers l ch m f0) (suc m)) j (λ lo hi. operator_beyond l ch m j free (omega arith))
  filled_free (scaling_at j) free = scale_rest l ch m f0 b.scaling j free

  -- THE BRIDGE
  pub filled_is_set_up : Limits l.grid → filled l ch m (number_at eps) b ≡ run (rules l ch m) (full l ch m) (load l ch m b eps)
  filled_is_set_up limits =
      laid_is_set_up l ch m limits (load l ch m b eps) (rw (load_sizes l ch m b enough eps) enough) (number_at eps) (load_given l ch m b enough eps) (filled l ch m f0 b)
      (filled_sizes ∙ sym (load_sizes l ch m b enough eps), filled_free)
      (record { holds = λ r i q h. filled_holds l ch m f0 b enough r (full_in l ch m r i) q h })
