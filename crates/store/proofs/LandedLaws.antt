-- THE BRIDGE: a store that the rules leave consistent holds in every row what the layers below say, from its own permittivities of level 0; so a store that is laid as they
-- say is the one that a setup leaves. Assumes nothing.
use Prim.Native.Nat.{ℕ, zero, suc, ◌+◌, ◌-◌, ◌*◌, ◌/◌, ◌%◌, ◌≤◌, ◌<◌}
use mathlib.Core.Path.{◌≡◌, refl, sym, ap, subst, ◌∙◌}
use mathlib.Core.Logic.{inl, inr, ⊎_elim}
use mathlib.Core.List.{List, ◌∷◌, ◌++◌, []}
use native.Mathlib.Omega.{arith}
use native.Mathlib.Decide.{ℕ_discrete, dec_lt}
use lib.ListN.{length, get_or}
use borrow.Author.Tests.{eq-eqb, ne_eqb}
use Rattle.numbers.specs.declared.C64.{C64}
use Rattle.numbers.specs.Complex.{no_number}
use Rattle.numbers.specs.Terms.{Term, numbers_of}
use Rattle.numbers.specs.Lists.{tabulate, start_of, In}
use Rattle.numbers.proofs.EachLaws.{length_columns}
use Rattle.numbers.proofs.Tutorial.{number_no, number_place}
use Rattle.numbers.proofs.MemberLaws.{in_left, in_right}
use Rattle.numbers.proofs.SumLaws.{sum_to_zero}
use Rattle.numbers.proofs.TransposedLaws.{mem_in, turned_read, WeightAt, reads_weight, in_tabulate, tabulate_in}
use Rattle.numbers.proofs.PartLaws.{same_start}
use Rattle.lattice.specs.Grid.{Limits}
use Rattle.lattice.specs.Lattice.{FullLattice}
use Rattle.weights.specs.CoarseEps.{coarse_eps}
use Rattle.weights.specs.TwoLevels.{two_at}
use Rattle.weights.proofs.RowTheorems.{row_local, eps_local}
use Rattle.operators.specs.Averaged.{averaged_eps}
use Rattle.operators.specs.Galerkin.{galerkin_row}
use Rattle.operators.specs.LevelLists.{edges_on}
use Rattle.operators.specs.Levels.{eps_at, averaged_on, forward_at, turned_at, galerkin_at, volumes_at, inverse_shares_at, lattice_at}
use Rattle.operators.specs.Stencil.{stencil_row}
use Rattle.operators.proofs.AverageLaws.{averaged_local}
use Rattle.operators.proofs.SecondCondition.{galerkin_local}
use Rattle.operators.proofs.StencilLaws.{stencil_local}
use Rattle.operators.proofs.VolumeLaws.{inverse_local}
use Rattle.operators.proofs.RangeLaws.{fine_edges_lem}
use Rattle.store.specs.Space.{Look}
use Rattle.store.specs.Plan.{Holds, Consistent, Alike, Stands, run}
use Rattle.store.specs.Store.{Store, sizes}
use Rattle.store.specs.Places.{Place, get, space, permittivities_at}
use Rattle.store.specs.Spots.{Kind, permittivity, forwards, turneds, entries, scales, place, double_in, number_in, part_of, double_of, laid_from}
use Rattle.store.specs.Layout.{operator_at, forward_cols, turned_cols, operator_cols, first_stored, eps_off, forward_off, turned_off, operator_off, Enough}
use Rattle.store.specs.declared.Choice.{Choice}
use Rattle.store.specs.declared.Choice.TheVariants.{Galerkin, Rediscretized}
use Rattle.store.specs.Rows.{Row, coarse, averaged, forward, turned, volume, share, operator, kind_of, from, count, eps_in, averaged_in, volume_in, forward_in, turned_in, operator_in, galerkin_in, operator_rule, numbers, only, group, groups, full, rules}
use Rattle.store.specs.Landed.{landed, Given, Laid}
use Rattle.store.proofs.PlanLaws.{in_stands, stands?, set_up_consistent, run_shape, run_keeps}
use Rattle.store.proofs.SpaceLaws.{lawful}
use Rattle.store.proofs.DressedLaws.{dressed_is}
use Rattle.store.proofs.LocalLaws.{turned_in_cols, fine_read, forward_read}
use Rattle.store.proofs.RangeLaws.{ranges}
use Rattle.store.proofs.RankLaws.{Ranges, Re, Valid, full_in}
use Rattle.store.proofs.SpotLaws.{each_in}
use Rattle.store.proofs.StoreLaws.{laws, room, base_free}
use Rattle.store.proofs.ColumnLaws.{forward_cols_at, turned_cols_at, operator_cols_at}
use Rattle.operators.proofs.Equations.{eps_at_zero, eps_at_suc, averaged_on_zero, averaged_on_suc, forward_at_is, turned_at_is, volumes_at_is, inverse_shares_at_is, galerkin_at_zero, galerkin_at_suc, rediscretized_at_is}

-- ---- the rows that there are, are rows of the plan

tabulate_has : (f : ℕ → Row) (n j : ℕ) → j < n → In (f j) (tabulate f n 0)
tabulate_has f n j h = tabulate_in f n 0 j (omega arith) (omega arith)

only_has : (ch : Choice) (rs : List Row) (r : Row) → Re ch → In r rs → In r (only ch rs)
only_has Galerkin rs r e i = absurd e
only_has Rediscretized rs r e i = i

module _ (l : FullLattice) (ch : Choice) where
  groups_has : (n L : ℕ) (r : Row) → L < n → In r (group l ch L) → In r (groups l ch n)
  unfolding groups
  groups_has zero L r h i = absurd (omega arith)
  groups_has (suc n) L r h i =
      elim (dec_lt L n) as (λ _. In r (groups l ch n ++ group l ch n)) [
        | yes b ↦ in_left r (groups l ch n) (group l ch n) (groups_has n L r b i)
        | no b ↦ let e : L ≡ n = omega arith in in_right r (groups l ch n) (group l ch n) (subst (λ (k : ℕ). In r (group l ch k)) e i)
      ]

  module _ (L : ℕ) where
    -- the parts of a group, and from each part on
    abbrev pub coarse_rows : List Row
    coarse_rows = tabulate (coarse L) (edges_on l (suc L)) 0

    abbrev pub averaged_rows : List Row
    averaged_rows = only ch (tabulate (averaged L) (edges_on l (suc L)) 0)

    abbrev pub forward_rows : List Row
    forward_rows = tabulate (forward L) (edges_on l L) 0

    abbrev pub turned_rows_lem : List Row
    turned_rows_lem = tabulate (turned L) (edges_on l (suc L)) 0

    abbrev pub volume_rows : List Row
    volume_rows = only ch (tabulate (volume L) (edges_on l L) 0)

    abbrev pub share_rows : List Row
    share_rows = only ch (tabulate (share L) (edges_on l (suc L)) 0)

    abbrev pub operator_rows : List Row
    operator_rows = tabulate (operator (suc L)) (edges_on l (suc L)) 0

    abbrev pub from_share : List Row
    from_share = share_rows ++ operator_rows

    abbrev pub from_volume : List Row
    from_volume = volume_rows ++ from_share

    abbrev pub from_turned : List Row
    from_turned = turned_rows_lem ++ from_volume

    abbrev pub from_forward : List Row
    from_forward = forward_rows ++ from_turned

    abbrev pub from_averaged : List Row
    from_averaged = averaged_rows ++ from_forward

    module _ (r : Row) where
      in_1 : In r coarse_rows → In r (group l ch L)
      in_1 i = in_left r coarse_rows from_averaged i

      from_2 : In r from_averaged → In r (group l ch L)
      from_2 i = in_right r coarse_rows from_averaged i

      in_2 : In r averaged_rows → In r (group l ch L)
      in_2 i = from_2 (in_left r averaged_rows from_forward i)

      from_3 : In r from_forward → In r (group l ch L)
      from_3 i = from_2 (in_right r averaged_rows from_forward i)

      in_3 : In r forward_rows → In r (group l ch L)
      in_3 i = from_3 (in_left r forward_rows from_turned i)

      from_4 : In r from_turned → In r (group l ch L)
      from_4 i = from_3 (in_right r forward_rows from_turned i)

      in_4 : In r turned_rows_lem → In r (group l ch L)
      in_4 i = from_4 (in_left r turned_rows_lem from_volume i)

      from_5 : In r from_volume → In r (group l ch L)
      from_5 i = from_4 (in_right r turned_rows_lem from_volume i)

      in_5 : In r volume_rows → In r (group l ch L)
      in_5 i = from_5 (in_left r volume_rows from_share i)

      from_6 : In r from_share → In r (group l ch L)
      from_6 i = from_5 (in_right r volume_rows from_share i)

      in_6 : In r share_rows → In r (group l ch L)
      in_6 i = from_6 (in_left r share_rows operator_rows i)

      in_7 : In r operator_rows → In r (group l ch L)
      in_7 i = from_6 (in_right r share_rows operator_rows i)

pub full_has : (l : FullLattice) (ch : Choice) (m : ℕ) (r : Row) → Valid l ch m r → In r (full l ch m)
full_has l ch zero (coarse L r) v = absurd (omega (arith, v.0))
full_has l ch zero (averaged L r) v = absurd (omega (arith, v.0))
full_has l ch zero (forward L r) v = absurd (omega (arith, v.0))
full_has l ch zero (turned L c) v = absurd (omega (arith, v.0))
full_has l ch zero (volume L r) v = absurd (omega (arith, v.0))
full_has l ch zero (share L c) v = absurd (omega (arith, v.0))
full_has l ch zero (operator zero r) v = tabulate_has (operator 0) (edges_on l 0) r v.2
full_has l ch zero (operator (suc L) r) v = absurd (omega (arith, v.1))
full_has l ch (suc m) (coarse L r) v = groups_has l ch (suc m) L (coarse L r) v.0 (in_1 l ch L (coarse L r) (tabulate_has (coarse L) (edges_on l (suc L)) r v.1))
full_has l ch (suc m) (averaged L r) v =
    groups_has l ch (suc m) L (averaged L r) v.0 (in_2 l ch L (averaged L r) (only_has ch (tabulate (averaged L) (edges_on l (suc L)) 0) (averaged L r) v.2 (tabulate_has (averaged L) (edges_on l (suc L)) r v.1)))
full_has l ch (suc m) (forward L r) v = groups_has l ch (suc m) L (forward L r) v.0 (in_3 l ch L (forward L r) (tabulate_has (forward L) (edges_on l L) r v.1))
full_has l ch (suc m) (turned L c) v = groups_has l ch (suc m) L (turned L c) v.0 (in_4 l ch L (turned L c) (tabulate_has (turned L) (edges_on l (suc L)) c v.1))
full_has l ch (suc m) (volume L r) v =
    groups_has l ch (suc m) L (volume L r) v.0 (in_5 l ch L (volume L r) (only_has ch (tabulate (volume L) (edges_on l L) 0) (volume L r) v.2 (tabulate_has (volume L) (edges_on l L) r v.1)))
full_has l ch (suc m) (share L c) v =
    groups_has l ch (suc m) L (share L c) v.0 (in_6 l ch L (share L c) (only_has ch (tabulate (share L) (edges_on l (suc L)) 0) (share L c) v.2 (tabulate_has (share L) (edges_on l (suc L)) c v.1)))
full_has l ch (suc m) (operator zero r) v = absurd (omega (arith, v.0))
full_has l ch (suc m) (operator (suc L) r) v =
    groups_has l ch (suc m) L (operator (suc L) r) v.1 (in_7 l ch L (operator (suc L) r) (tabulate_has (operator (suc L)) (edges_on l (suc L)) r v.2))

-- ---- a row that holds, by numbers

double_laid : (f : Look space) (k : Kind) (vs : List C64) (a j : ℕ) → f (place k j) ≡ laid_from vs a (place k j) → double_in f k j ≡ double_of vs a j
unfolding laid_from
double_laid f permittivity vs a j e = e
double_laid f forwards vs a j e = e
double_laid f turneds vs a j e = e
double_laid f entries vs a j e = e
double_laid f scales vs a j e = e

pub even_of : (vs : List C64) (a q : ℕ) → double_of vs a (2 * (a + q)) ≡ (get_or vs q no_number).re
unfolding double_of part_of
even_of vs a q =
    let h : 2 * (a + q) / 2 - a ≡ q = omega arith in
    let e : 2 * (a + q) % 2 ≡ 0 = omega arith in
    rw (h, eq-eqb (2 * (a + q) % 2) 0 e) refl

pub odd_of : (vs : List C64) (a q : ℕ) → double_of vs a (2 * (a + q) + 1) ≡ (get_or vs q no_number).im
unfolding double_of part_of
odd_of vs a q =
    let h : (2 * (a + q) + 1) / 2 - a ≡ q = omega arith in
    let e : (2 * (a + q) + 1) % 2 ≡ 0 → ⊥ = λ z. omega arith in
    rw (h, ne_eqb ((2 * (a + q) + 1) % 2) 0 e) refl

module _ (l : FullLattice) (ch : Choice) (m : ℕ) (s : Store) where
  pub holds_number : (r : Row) → Holds (rules l ch m) s r → (q : ℕ) → q < count l ch m r
      → number_in (get s) (kind_of l ch m r) (from l ch m r + q) ≡ get_or (numbers l ch m (get s) r) q no_number
  unfolding number_in
  holds_number r h q b =
      let k = kind_of l ch m r in
      let a = from l ch m r in
      let vs = numbers l ch m (get s) r in
      let x = h (place k (2 * (a + q))) (tabulate_in (place k) (2 * count l ch m r) (2 * a) (2 * (a + q)) (omega arith) (omega arith)) in
      let y = h (place k (2 * (a + q) + 1)) (tabulate_in (place k) (2 * count l ch m r) (2 * a) (2 * (a + q) + 1) (omega arith) (omega arith)) in
      let u = double_laid (get s) k vs a (2 * (a + q)) x ∙ even_of vs a q in
      let v = double_laid (get s) k vs a (2 * (a + q) + 1) y ∙ odd_of vs a q in
      λ i. record { re = u i; im = v i }

-- ---- a consistent store

module _ (l : FullLattice) (ch : Choice) (m : ℕ) (limits : Limits l.grid) (s : Store) (c : Consistent (rules l ch m) s) (f : ℕ → C64) (given : Given l f s) where
  abbrev w : Ranges l
  w = ranges l limits

  abbrev look : Look space
  look = get s

  at_row : (r : Row) → Valid l ch m r → (q : ℕ) → q < count l ch m r → number_in look (kind_of l ch m r) (from l ch m r + q) ≡ get_or (numbers l ch m look r) q no_number
  at_row r v = holds_number l ch m s r (c r (full_has l ch m r v))

  -- a row of one number
  one_row : (r : Row) → Valid l ch m r → (v : C64) → 0 < count l ch m r → numbers l ch m look r ≡ v ∷ [] → number_in look (kind_of l ch m r) (from l ch m r) ≡ v
  one_row r o v b e =
      let z : from l ch m r + 0 ≡ from l ch m r = omega arith in
      (rw z at (at_row r o 0 b)) ∙ ap (λ (vs : List C64). get_or vs 0 no_number) e

  eps_holds : (L r : ℕ) → L ≤ m → r < edges_on l L → eps_in l ch m look L r ≡ eps_at l f L r
  unfolding numbers
  eps_holds zero r h b = let e : eps_off l 0 + r ≡ r = omega (arith, sum_to_zero (edges_on l)) in rw (eps_at_zero l f, e) (given r b)
  eps_holds (suc L) r h b =
      rw (eps_at_suc l f L) (one_row (coarse L r) (h, b) (coarse_eps (two_at l L) (eps_at l f L) r) (omega arith)
      (ap (λ (v : C64). v ∷ [])
      (eps_local (two_at l L) (eps_in l ch m look L) (eps_at l f L) r (λ q i. eps_holds L q (omega arith) (w.eps_low L r q b (mem_in i))))))

  averaged_holds : Re ch → (L r : ℕ) → L ≤ m → r < edges_on l L → averaged_in l ch m look L r ≡ averaged_on l f L r
  unfolding numbers
  averaged_holds o zero r h b = let e : eps_off l 0 + r ≡ r = omega (arith, sum_to_zero (edges_on l)) in rw (averaged_on_zero l f, e) (given r b)
  averaged_holds o (suc L) r h b =
      rw (averaged_on_suc l f L) (one_row (averaged L r) (h, b, o) (averaged_eps (two_at l L) (averaged_on l f L) r) (omega arith)
      (ap (λ (v : C64). v ∷ [])
      (averaged_local (two_at l L) (averaged_in l ch m look L) (averaged_on l f L) r (λ q i. averaged_holds o L q (omega arith) (w.averaged_low L r q b (mem_in i))))))

  -- forward rows
  forward_numbers_lem : (L r : ℕ) → L < m → r < edges_on l L → numbers l ch m look (forward L r) ≡ numbers_of (forward_at l f L r)
  unfolding numbers
  forward_numbers_lem L r h b =
      rw (forward_at_is l f L) (ap numbers_of (row_local (two_at l L) (eps_in l ch m look L) (eps_at l f L) (eps_in l ch m look (suc L)) (eps_at l f (suc L)) r
      (λ q i. eps_holds L q (omega arith) (w.weight_low L r q b (mem_in i)))
      (λ q i. eps_holds (suc L) q h (w.forward_low L r q b (unfold forward_cols in mem_in i)))))

  forward_row : (L r : ℕ) → L < m → r < edges_on l L → forward_in l ch m look L r ≡ forward_at l f L r
  forward_row L r h b =
      let ts = forward_at l f L r in
      let e = forward_cols_at l f L r in
      let k = forward_off l L + start_of (forward_cols l L) r in
      subst (λ (cs : List ℕ). Rattle.store.specs.Rows.dressed cs (number_in look forwards) k ≡ ts) e
      (dressed_is ts (number_in look forwards) k no_number
      (λ j i. at_row (forward L r) (h, b) j (omega (arith, ap length e, length_columns ts)) ∙ ap (λ (vs : List C64). get_or vs j no_number) (forward_numbers_lem L r h b)))

  turned_numbers_lem : (L r : ℕ) → L < m → r < edges_on l (suc L) → numbers l ch m look (turned L r) ≡ numbers_of (turned_at l f L r)
  unfolding numbers
  turned_numbers_lem L c h b =
      rw (turned_at_is l f L, fine_edges_lem l L) (turned_read (forward_at l f L) (forward_cols l L) (edges_on l L) (λ r i. forward_cols_at l f L r) c no_number (λ q. number_in look forwards (forward_off l L + q))
      (λ q i. found q (reads_weight (forward_cols l L) c (edges_on l L) q i)))
    where
      -- a forward number of the transfer
      found : (q : ℕ) → WeightAt (forward_cols l L) (edges_on l L) c q → number_in look forwards (forward_off l L + q) ≡ number_no (forward_at l f L) (edges_on l L) no_number q
      found q t =
          let ts = forward_at l f L t.r in
          let e : forward_off l L + q ≡ from l ch m (forward L t.r) + t.j = omega (arith, t.is) in
          let s = same_start (forward_at l f L) (forward_cols l L) (forward_cols_at l f L) t.r in
          let long : t.j < length ts = omega (arith, t.place_in, length_columns ts, ap length (forward_cols_at l f L t.r)) in
          rw e (at_row (forward L t.r) (h, t.row_in) t.j t.place_in)
          ∙ ap (λ (vs : List C64). get_or vs t.j no_number) (forward_numbers_lem L t.r h t.row_in)
          ∙ sym (number_place (forward_at l f L) (edges_on l L) t.r t.j q (omega (arith, t.is, s)) t.row_in long no_number)

  turned_row_lem : (L r : ℕ) → L < m → r < edges_on l (suc L) → turned_in l ch m look L r ≡ turned_at l f L r
  turned_row_lem L r h b =
      let ts = turned_at l f L r in
      let e = turned_cols_at l f L r in
      let k = turned_off l L + start_of (turned_cols l L) r in
      subst (λ (cs : List ℕ). Rattle.store.specs.Rows.dressed cs (number_in look turneds) k ≡ ts) e
      (dressed_is ts (number_in look turneds) k no_number
      (λ j i. at_row (turned L r) (h, b) j (omega (arith, ap length e, length_columns ts)) ∙ ap (λ (vs : List C64). get_or vs j no_number) (turned_numbers_lem L r h b)))

  -- volumes and shares
  volume_holds : Re ch → (L r : ℕ) → L < m → r < edges_on l L → volume_in l ch m look L r ≡ volumes_at l L r
  volume_holds o L r h b = rw (volumes_at_is l L) (one_row (volume L r) (h, b, o) _ (omega arith) (unfold numbers in refl))

  share_numbers : Re ch → (L r : ℕ) → L < m → r < edges_on l (suc L) → numbers l ch m look (share L r) ≡ inverse_shares_at l f L r ∷ []
  unfolding numbers
  share_numbers o L r h b =
      rw (inverse_shares_at_is l f L) (ap (λ (v : C64). v ∷ []) (inverse_local (turned_in l ch m look L) (turned_at l f L) (volume_in l ch m look L) (volumes_at l L) r (turned_row_lem L r h b)
      (λ d i. volume_holds o L d h (w.turned_low L r d (subst (In d) (turned_in_cols l ch m look L r) (mem_in i))))))

-- the operator's rows, Galerkin
module _ (l : FullLattice) (m : ℕ) (limits : Limits l.grid) (s : Store) (c : Consistent (rules l Galerkin m) s) (f : ℕ → C64) (given : Given l f s) where
  abbrev look_g : Look space
  look_g = get s

  abbrev w_g : Ranges l
  w_g = ranges l limits

  -- one level down, from the finer rows
  galerkin_next : (L r : ℕ) → L < m → r < edges_on l (suc L) → ((q : ℕ) → q < edges_on l L → operator_in l Galerkin m look_g L q ≡ galerkin_at l f L q)
      → galerkin_row (operator_in l Galerkin m look_g L) (forward_in l Galerkin m look_g L) (turned_in l Galerkin m look_g L) r ≡ galerkin_at l f (suc L) r
  galerkin_next L r h b ih =
      rw (galerkin_at_suc l f L) (galerkin_local (operator_in l Galerkin m look_g L) (galerkin_at l f L) (forward_in l Galerkin m look_g L) (forward_at l f L) (turned_in l Galerkin m look_g L) (turned_at l f L) r
      (turned_row_lem l Galerkin m limits s c f given L r h b)
      (λ q i. ih q (w_g.turned_low L r q (subst (In q) (fine_read l Galerkin m look_g L r) i)))
      (λ q i. let t = each_in (operator_cols l Galerkin L) (turned_cols l L r) q (subst (In q) (forward_read l m look_g L r) i) in
      forward_row l Galerkin m limits s c f given L q h (w_g.operator_low L t.0 q (w_g.turned_low L r t.0 t.1) t.2)))

  first_row : (r : ℕ) → r < edges_on l 0 → stencil_row l (eps_in l Galerkin m look_g 0) r ≡ galerkin_at l f 0 r
  first_row r b =
      rw (galerkin_at_zero l f) (stencil_local l (eps_in l Galerkin m look_g 0) f r
      (λ q i. let e : eps_off l 0 + q ≡ q = omega (arith, sum_to_zero (edges_on l)) in rw e (given q (w_g.first_low r q b (mem_in i)))))

  first_low : (m L : ℕ) → suc L ≤ m → first_stored m ≤ suc L
  first_low zero L h = omega arith
  first_low (suc m) L h = omega arith

  operator_row_lem : (L r : ℕ) → L ≤ m → r < edges_on l L → operator_in l Galerkin m look_g L r ≡ galerkin_at l f L r
  operator_row_lem zero r h b = first_row r b
  operator_row_lem (suc L) r h b = go (galerkin_next L r h b (λ q i. operator_row_lem L q (omega arith) i))
    where
      go : galerkin_row (operator_in l Galerkin m look_g L) (forward_in l Galerkin m look_g L) (turned_in l Galerkin m look_g L) r ≡ galerkin_at l f (suc L) r
          → operator_in l Galerkin m look_g (suc L) r ≡ galerkin_at l f (suc L) r
      go rule =
          let ts = galerkin_at l f (suc L) r in
          let e = operator_cols_at l Galerkin f (suc L) r in
          let k = operator_off l Galerkin m (suc L) + start_of (operator_cols l Galerkin (suc L)) r in
          subst (λ (cs : List ℕ). Rattle.store.specs.Rows.dressed cs (number_in look_g entries) k ≡ ts) e
          (dressed_is ts (number_in look_g entries) k no_number
          (λ j i. at_row l Galerkin m limits s c f given (operator (suc L) r) (first_low m L h, h, b) j (omega (arith, ap length e, length_columns ts))
          ∙ (unfold numbers in ap (λ (us : List Term). get_or (numbers_of us) j no_number) rule)))

  galerkin_rule : (L r : ℕ) → L ≤ m → r < edges_on l L → galerkin_in l Galerkin m look_g L r ≡ galerkin_at l f L r
  galerkin_rule zero r h b = first_row r b
  galerkin_rule (suc L) r h b = galerkin_next L r h b (λ q i. operator_row_lem L q (omega arith) i)

operator_numbers_lem : (l : FullLattice) (ch : Choice) (m : ℕ) → Limits l.grid → (s : Store) → Consistent (rules l ch m) s → (f : ℕ → C64) → Given l f s
    → (L r : ℕ) → L ≤ m → r < edges_on l L → operator_rule l ch m (get s) L r ≡ operator_at l ch f L r
operator_numbers_lem l Galerkin m limits s c f given L r h b = galerkin_rule l m limits s c f given L r h b
operator_numbers_lem l Rediscretized m limits s c f given L r h b =
    rw (rediscretized_at_is l f L) (stencil_local (lattice_at l L) (averaged_in l Rediscretized m (get s) L) (averaged_on l f L) r
    (λ q i. averaged_holds l Rediscretized m limits s c f given tt L q h ((ranges l limits).stencil_low L r q b (mem_in i))))

-- ---- THE BRIDGE

module _ (l : FullLattice) (ch : Choice) (m : ℕ) (limits : Limits l.grid) where
  -- in a consistent store each row's rule gives what the layers below say, of the permittivities that the store holds
  pub consistent_numbers : (s : Store) → Consistent (rules l ch m) s → (f : ℕ → C64) → Given l f s → (r : Row) → Valid l ch m r → numbers l ch m (get s) r ≡ landed l ch f r
  consistent_numbers s c f g (coarse L r) v =
      unfold numbers in
      rw (eps_at_suc l f L) (ap (λ (x : C64). x ∷ []) (eps_local (two_at l L) (eps_in l ch m (get s) L) (eps_at l f L) r
      (λ q i. eps_holds l ch m limits s c f g L q (omega (arith, v.0)) ((ranges l limits).eps_low L r q v.1 (mem_in i)))))
  consistent_numbers s c f g (averaged L r) v =
      unfold numbers in
      rw (averaged_on_suc l f L) (ap (λ (x : C64). x ∷ []) (averaged_local (two_at l L) (averaged_in l ch m (get s) L) (averaged_on l f L) r
      (λ q i. averaged_holds l ch m limits s c f g v.2 L q (omega (arith, v.0)) ((ranges l limits).averaged_low L r q v.1 (mem_in i)))))
  consistent_numbers s c f g (forward L r) v = forward_numbers_lem l ch m limits s c f g L r v.0 v.1
  consistent_numbers s c f g (turned L r) v = turned_numbers_lem l ch m limits s c f g L r v.0 v.1
  consistent_numbers s c f g (volume L r) v = unfold numbers in rw (volumes_at_is l L) refl
  consistent_numbers s c f g (share L r) v = share_numbers l ch m limits s c f g v.2 L r v.0 v.1
  consistent_numbers s c f g (operator L r) v = unfold numbers in ap numbers_of (operator_numbers_lem l ch m limits s c f g L r v.1 v.2)

  pub consistent_laid : (s : Store) → Consistent (rules l ch m) s → (f : ℕ → C64) → Given l f s → Laid l ch m f s
  consistent_laid s c f g =
      record {
        holds = λ r i q b.
            holds_number l ch m s r (c r i) q b ∙ ap (λ (vs : List C64). get_or vs q no_number) (consistent_numbers s c f g r (full_in l ch m r i));
      }

  -- two looks that find one number find one double
  double_of_lem : (f g : Look space) (k : Kind) (j : ℕ) → number_in f k (j / 2) ≡ number_in g k (j / 2) → double_in f k j ≡ double_in g k j
  unfolding number_in
  double_of_lem f g k j e =
      elim (ℕ_discrete (j % 2) 0) as (λ _. double_in f k j ≡ double_in g k j) [
        | yes z ↦ let h : 2 * (j / 2) ≡ j = omega arith in (rw h at (ap (λ (x : C64). x.re) e))
        | no z ↦ let h : 2 * (j / 2) + 1 ≡ j = omega arith in (rw h at (ap (λ (x : C64). x.im) e))
      ]

  place_of : (s t : Store) (k : Kind) (j : ℕ) → double_in (get s) k j ≡ double_in (get t) k j → get s (place k j) ≡ get t (place k j)
  place_of s t permittivity j e = e
  place_of s t forwards j e = e
  place_of s t turneds j e = e
  place_of s t entries j e = e
  place_of s t scales j e = e

  laid_same : (f : ℕ → C64) (s t : Store) → Laid l ch m f s → Laid l ch m f t → (p : Place) → Stands (rules l ch m) p (full l ch m) → get s p ≡ get t p
  laid_same f s t u v p i =
      let a = in_stands (rules l ch m) (full l ch m) p i in
      let r = a.0 in
      let k = kind_of l ch m r in
      let b = in_tabulate (place k) (2 * count l ch m r) (2 * from l ch m r) p a.2 in
      let j = b.0 in
      let q = j / 2 - from l ch m r in
      let low : q < count l ch m r = omega (arith, b.1, b.2) in
      let e : from l ch m r + q ≡ j / 2 = omega (arith, b.1) in
      let n : number_in (get s) k (from l ch m r + q) ≡ number_in (get t) k (from l ch m r + q) = u.holds r a.1 q low ∙ sym (v.holds r a.1 q low) in
      rw b.3 (place_of s t k j (double_of_lem (get s) (get t) k j (rw e at n)))

  module _ (b : Store) (enough : Enough l ch m (sizes b)) (f : ℕ → C64) (given : Given l f b) where
    abbrev pub done : Store
    done = run (rules l ch m) (full l ch m) b

    pub done_consistent : Consistent (rules l ch m) done
    done_consistent = set_up_consistent (laws l ch m (ranges l limits)) b (room l ch m (ranges l limits) (sizes b) enough)

    pub done_given : Given l f done
    unfolding number_in
    done_given r h =
        let free = base_free l ch m (ranges l limits) (sizes b) enough r h in
        let x = run_keeps (laws l ch m (ranges l limits)) (full l ch m) b (permittivities_at (2 * r)) (free (permittivities_at (2 * r)) (inl refl)) in
        let y = run_keeps (laws l ch m (ranges l limits)) (full l ch m) b (permittivities_at (2 * r + 1)) (free (permittivities_at (2 * r + 1)) (inr (inl refl))) in
        (λ i. record { re = x i; im = y i }) ∙ given r h

    -- what a setup leaves, in the words of the layers below
    pub set_up_laid : Laid l ch m f done
    set_up_laid = consistent_laid done done_consistent f done_given

    -- and a store that is laid so, on what a setup starts from, is what the setup leaves
    pub laid_is_set_up : (t : Store) → Alike (rules l ch m) t b → Laid l ch m f t → t ≡ done
    laid_is_set_up t alike u =
        lawful.ext t done (alike.0 ∙ sym (run_shape (laws l ch m (ranges l limits)) (full l ch m) b))
        λ p h.
        ⊎_elim (λ i. laid_same f t done u set_up_laid p i)
        (λ n. alike.1 p n ∙ sym (run_keeps (laws l ch m (ranges l limits)) (full l ch m) b p n))
        (stands? (rules l ch m) (full l ch m) p)
