-- The two conditions of "A Multigrid Tutorial" (Briggs, Henson, McCormick), of the lists that an accepted setup leaves: turned rows are the transpose of
-- forward rows, and Galerkin's operator is restriction × fine operator × interpolation. And what each part of those lists holds.
-- Assumes nothing.
use Prim.Native.Nat.{ℕ, zero, suc, ◌+◌, ◌-◌, ◌≤◌, ◌<◌}
use native.Mathlib.Omega.{arith}
use mathlib.Core.Logic.{◌⊎◌}
use mathlib.Core.Path.{◌≡◌, refl, sym, ap, subst, ◌∙◌}
use mathlib.Core.Bool.{true, false}
use mathlib.Core.List.{List, [], ◌∷◌}
use lib.Dec.{ltb}
use lib.ListN.{get_or}
use lib.Ieee.{Float}
use borrow.Author.Tests.{le-ltb}
use Rattle.numbers.specs.declared.C64.{C64}
use Rattle.numbers.specs.Complex.{no_number, zero_number, one_number}
use Rattle.numbers.specs.Collect.{summed_at}
use Rattle.numbers.specs.Places.{number_at}
use Rattle.numbers.specs.Lists.{In, Rises, contains, rows, laid_numbers}
use Rattle.numbers.specs.Terms.{Term, columns_of, weights_at, Stored}
use Rattle.numbers.proofs.ListLaws.{laid_numbers_length}
use Rattle.numbers.proofs.SumLaws.{sum_to_zero}
use Rattle.numbers.proofs.TabulateLaws.{tabulate_at_0}
use Rattle.numbers.proofs.TransposedLaws.{mem_in, stored_start}
use Rattle.numbers.proofs.PartLaws.{part_number}
use Rattle.lattice.specs.Check.{Verdict, accepted, refused, is_sound, check_of}
use Rattle.lattice.specs.Grid.{Limits}
use Rattle.lattice.specs.Lattice.{FullLattice}
use Rattle.lattice.specs.Levels.{depth_of, count_of}
use Rattle.lattice.proofs.LevelLaws.{depth_most}
use Rattle.operators.specs.Galerkin.{galerkin_terms, rows_in}
use Rattle.operators.specs.LevelLists.{edges_on, OperatorIn}
use Rattle.operators.specs.Levels.{eps_at, averaged_on, galerkin_at, lattice_at}
use Rattle.operators.specs.Stencil.{stencil_row}
use Rattle.operators.proofs.Conditions.{first_stored_lem, none_stored, turned_rises_at, galerkin_first, second_stored, besides_stored, missing_stored, untouched_stored}
use Rattle.operators.proofs.Equations.{eps_at_zero, rediscretized_at_is}
use Rattle.operators.proofs.GalerkinPattern.{galerkin_low, stencil_low}
use Rattle.operators.proofs.LevelListLaws.{Sources, lattice_limits}
use Rattle.operators.proofs.RangeLaws.{first_reads_low, level_edges}
use Rattle.operators.proofs.RowMembers.{Via}
use Rattle.operators.proofs.StencilLaws.{stencil_local}
use Rattle.store.specs.Store.{Store, sizes, zeroed}
use Rattle.store.specs.Layout.{operator_at, next_edges, forward_count, turned_count, stored_count, scale_count, first_stored, eps_off, averaged_off, forward_off, turned_off, operator_off, scale_off, Enough}
use Rattle.store.specs.Setup.{Input, full_of, transfers_of, Result, result_of, unless, eps_part, averaged_part, forward_numbers, turned_numbers, operator_starts_of, operator_cols_of, operator_numbers, scale_part, filled, all_to, level_fine, structure_of, setup_of}
use Rattle.store.specs.Phases.{forward_part, turned_part, operator_part, TransfersIn}
use Rattle.store.specs.declared.Choice.{Choice}
use Rattle.store.specs.declared.Choice.TheVariants.{Galerkin, Rediscretized}
use Rattle.store.proofs.CallLaws.{limits_of, enough_of}
use Rattle.store.proofs.FilledLaws.{eps_number}
use Rattle.store.proofs.SeamLaws.{part_there_lem, transfers_in}
use Rattle.store.proofs.ShortLaws.{transfer_room}
use Rattle.store.proofs.SizeLaws.{stored_rows, ostarts_long, ocols_long, onumbers_long, edges_few, operator_count_lem, operator_few, ostarts_low, operator_low, averaged_long, fnumbers_long, tnumbers_long, scale_long, stored_later, rows_stored, count_stored, starts_stored, columns_stored, numbers_stored}
use Rattle.store.proofs.VerdictLaws.{unless_sound, unless_told}

-- ---- an accepted setup

-- there are at most 12 levels
few_transfers : (i : Input) → transfers_of i ≤ 11
few_transfers i = go (depth_of (full_of i) i.coarsest) refl
  where
    go : (v : Verdict) → depth_of (full_of i) i.coarsest ≡ v → count_of v - 1 ≤ 11
    go (accepted k) e = omega (arith, depth_most (full_of i) i.coarsest k e)
    go (refused number place) e = omega arith

-- Success gives the level count: the levels stand one behind another in each list, the lattice is within the limits, and no list is short
pub accepted_filled : (i : Input) (eps : List Float) (s : Store) (n : ℕ) → (setup_of i eps s).verdict ≡ accepted n
    → ((setup_of i eps s).store ≡ filled (full_of i) i.choice (transfers_of i) (number_at eps) s)
    × Limits (full_of i).grid
    × Enough (full_of i) i.choice (transfers_of i) (sizes s)
    × (transfers_of i ≤ 11)
    × (n ≡ suc (transfers_of i))
unfolding setup_of
accepted_filled i eps s n ok =
    let l = full_of i in
    let m = transfers_of i in
    let x = check_of i.lattice i.xn i.xh i.yn i.yh i.zn i.zh eps in
    let y = structure_of i (sizes s) in
    let z = all_to 7 (level_fine l i.choice m (number_at eps)) (suc m) in
    let done = result_of (accepted (suc m)) (filled l i.choice m (number_at eps) s) in
    let c = unless z (zeroed s) done in
    let b = unless y (zeroed s) c in
    let p = unless_told x s b (ap is_sound ok) in
    let q = unless_told y (zeroed s) c p.1 in
    let r = unless_told z (zeroed s) done q.1 in
    let e : unless x s b ≡ done = unless_sound x s b p.0 ∙ unless_sound y (zeroed s) c q.0 ∙ unless_sound z (zeroed s) done r.0 in (
      ap (λ (a : Result). a.store) e,
      limits_of i s eps p.0,
      enough_of i s q.0,
      few_transfers i,
      ap count_of (sym ok ∙ ap (λ (a : Result). a.verdict) e),
    )

-- ---- the rows that stand in a store's lists

-- of the transfer from level L + 1 to L
abbrev pub forward_rows : FullLattice → Store → ℕ → ℕ → List Term
forward_rows l t L = rows_in (forward_part l L) t.forward_starts t.forward_columns t.forward_values

abbrev pub turned_rows_lem : FullLattice → Store → ℕ → ℕ → List Term
turned_rows_lem l t L = rows_in (turned_part l L) t.turned_starts t.turned_columns t.turned_values

-- of the operator of level L
abbrev pub operator_rows : FullLattice → Choice → ℕ → Store → ℕ → ℕ → List Term
operator_rows l ch m t L = rows_in (operator_part l ch m L) t.operator_starts t.operator_columns t.operator_values

-- of the operator above level L + 1: level 0's rows are computed from the permittivities in the list, deeper ones are stored
abbrev pub fine_rows : FullLattice → ℕ → Store → ℕ → ℕ → List Term
fine_rows l m t zero = stencil_row l (number_at t.permittivities)
fine_rows l m t (suc L) = operator_rows l Galerkin m t (suc L)

-- ---- they are the levels' rows

-- a row names edges of its level
names_low : (l : FullLattice) → Limits l.grid → (ch : Choice) (f : ℕ → C64) (L r c : ℕ) → r < edges_on l L → In c (columns_of (operator_at l ch f L r)) → c < edges_on l L
names_low l limits Galerkin f L r c b i = galerkin_low l limits f L r b c i
names_low l limits Rediscretized f L r c b i =
    let e = level_edges l L in
    rw (← e)
    (stencil_low (lattice_at l L) (averaged_on l f L) r (lattice_limits l limits L) (rw e b) c (subst (λ (row : ℕ → List Term). In c (columns_of (row r))) (rediscretized_at_is l f L) i))

-- t is what a setup of the lists s leaves
record Left (l : FullLattice) (ch : Choice) (m : ℕ) (f : ℕ → C64) (s t : Store) : Type 0 where
  is : t ≡ filled l ch m f s
  limits : Limits l.grid
  enough : Enough l ch m (sizes s)
  deep : m ≤ 11

module _ {l : FullLattice} {ch : Choice} {m : ℕ} {f : ℕ → C64} {s t : Store} (u : Left l ch m f s t) where
  -- by the choice's name
  chosen : {d : Choice} → ch ≡ d → Left l d m f s t
  chosen e = subst (λ (c : Choice). Left l c m f s t) e u

  -- every transfer stands in its lists
  transfers_there : TransfersIn l f m t.forward_starts t.forward_columns t.forward_values t.turned_starts t.turned_columns t.turned_values
  unfolding filled
  transfers_there =
      rw u.is
      (transfers_in l u.limits f m u.deep (transfer_room l ch m s u.enough)
      (record { eps_are = refl; starts_are = refl; columns_are = refl; values_are = refl; tstarts_are = refl; tcolumns_are = refl; tvalues_are = refl }))

  -- so does the operator of a stored level, of either choice
  operator_there : (L : ℕ) → ltb L (first_stored m) ≡ false → L ≤ m
      → (Stored t.operator_starts (operator_part l ch m L).s t.operator_columns t.operator_values (operator_part l ch m L).k (edges_on l L) (edges_on l L))
      × ((r : ℕ) → r < edges_on l L → operator_rows l ch m t L r ≡ operator_at l ch f L r)
  unfolding filled
  operator_there L z h =
      let n = edges_on l L in
      let A = operator_at l ch f L in
      let many = operator_count_lem l ch f L in
      rw u.is
      (part_there_lem (operator_starts_of l ch m) (operator_cols_of l ch m) (operator_numbers l ch m f) (stored_rows l m) (stored_count l ch m)
      (ostarts_long l ch m) (ocols_long l ch m) (onumbers_long l ch m f) s.operator_starts s.operator_columns s.operator_values L A n
      (starts_stored l m L z ch f) (columns_stored l m L z ch f) (numbers_stored l m L z ch f) (rows_stored l m L z) (count_stored l m L z ch ∙ sym many)
      (suc m) (omega arith) u.enough.operator_starts_are u.enough.operator_columns_are u.enough.operator_values_are
      (omega (arith, u.deep, ostarts_low l u.limits m L)) (omega (arith, u.deep, operator_low l u.limits ch m L))
      n (λ r c b i. names_low l u.limits ch f L r c b i) (edges_few l u.limits L) (edges_few l u.limits L) (omega (arith, many, operator_few l u.limits ch L)))

  -- the given permittivities are the first of their list, so level 0's rows are those of the lattice
  given_there : (c : ℕ) → c < edges_on l 0 → number_at t.permittivities c ≡ f c
  given_there c h =
      let z : eps_off l 0 + c ≡ c = omega (arith, sum_to_zero (edges_on l)) in
      rw u.is (ap (number_at (filled l ch m f s).permittivities) (sym z) ∙ eps_number l ch m f s u.enough 0 c (omega arith) h ∙ ap (λ (g : ℕ → C64). g c) (eps_at_zero l f))

  first_there : (r : ℕ) → r < edges_on l 0 → stencil_row l (number_at t.permittivities) r ≡ galerkin_at l f 0 r
  first_there r b = stencil_local l (number_at t.permittivities) f r (λ c i. given_there c (first_reads_low l u.limits r c b (mem_in i))) ∙ sym (galerkin_first l f r)

-- Galerkin's: the operator of level L + 1, and the rows that it is worked out from
module _ {l : FullLattice} {m : ℕ} {f : ℕ → C64} {s t : Store} (u : Left l Galerkin m f s t) where
  galerkin_there : (L : ℕ) → L < m → OperatorIn l f (suc L) (operator_part l Galerkin m (suc L)) t.operator_starts t.operator_columns t.operator_values
  galerkin_there L h =
      let w = operator_there u (suc L) (stored_later m L) h in
      record { stored = w.0; rows_are = w.1; count_is = stored_start (galerkin_at l f (suc L)) w.0 w.1 (edges_on l (suc L)) (omega arith) }

  fine_there : (L : ℕ) → L < m → (r : ℕ) → r < edges_on l L → fine_rows l m t L r ≡ galerkin_at l f L r
  fine_there zero h r b = first_there u r b
  fine_there (suc L) h r b = (galerkin_there L (omega arith)).rows_are r b

  sources : (L : ℕ) → L < m → Sources l f L (fine_rows l m t L) (forward_rows l t L) (turned_rows_lem l t L)
  sources L h = let w = (transfers_there u).each_in L h in record { fine_are = fine_there L h; forward_are = w.forward_are; turned_are = w.turned_are }

-- ---- the conditions

module _ (i : Input) (eps : List Float) (s : Store) (n : ℕ) (ok : (setup_of i eps s).verdict ≡ accepted n) where
  abbrev l : FullLattice
  l = full_of i

  -- one less than the level count
  abbrev m : ℕ
  m = transfers_of i

  -- the lists that the setup leaves
  abbrev t : Store
  t = (setup_of i eps s).store

  left : Left l i.choice m (number_at eps) s t
  left = let a = accepted_filled i eps s n ok in record { is = a.0; limits = a.1; enough = a.2; deep = a.3 }

  -- `Transfer::transpose` gives turned rows: turned row c has at r what forward row r has at c, each as often
  pub first_condition : (L c r : ℕ) → L < m → c < edges_on l (suc L) → r < edges_on l L → weights_at r (turned_rows_lem l t L c) ≡ weights_at c (forward_rows l t L r)
  first_condition L c r h b a = first_stored_lem ((transfers_there left).each_in L h) c r b a

  -- and nothing past the fine edges
  pub first_condition_none : (L c r : ℕ) → L < m → c < edges_on l (suc L) → edges_on l L ≤ r → weights_at r (turned_rows_lem l t L c) ≡ []
  first_condition_none L c r h b a = none_stored ((transfers_there left).each_in L h) c r b a

  -- fine numbers rising
  pub first_condition_rises : (L c : ℕ) → L < m → c < edges_on l (suc L) → Rises (columns_of (turned_rows_lem l t L c))
  first_condition_rises L c h b = rw (((transfers_there left).each_in L h).turned_are c b) (turned_rises_at l left.limits (number_at eps) L c)

  -- each stored operator row is its level's, of either choice: rediscretized operators follow `stencil_row`
  pub operator_is : (L r : ℕ) → first_stored m ≤ L → L ≤ m → r < edges_on l L → operator_rows l i.choice m t L r ≡ operator_at l i.choice (number_at eps) L r
  operator_is L r first h b = (operator_there left L (le-ltb L (first_stored m) first) h).1 r b

  module _ (g : i.choice ≡ Galerkin) (L : ℕ) (h : L < m) (c : ℕ) (b : c < edges_on l (suc L)) where
    own : Left l Galerkin m (number_at eps) s t
    own = chosen left g

    -- `galerkin`, over the turned row, then the fine row by column, then the forward row; (weight × value) × weight, a column's terms summed from +0
    pub second_condition : (d : ℕ) → contains d (columns_of (galerkin_terms (fine_rows l m t L) (forward_rows l t L) (turned_rows_lem l t L c))) ≡ true
        → weights_at d (operator_rows l Galerkin m t (suc L) c) ≡ summed_at d zero_number (galerkin_terms (fine_rows l m t L) (forward_rows l t L) (turned_rows_lem l t L c)) ∷ []
    second_condition d a = second_stored own.limits (sources own L h) (galerkin_there own L h) c b d a

    -- no entry besides those and the diagonal
    pub besides : (d : ℕ) → contains d (columns_of (operator_rows l Galerkin m t (suc L) c)) ≡ true → (d ≡ c) ⊎ Via (fine_rows l m t L) (forward_rows l t L) (turned_rows_lem l t L c) d
    besides d a = besides_stored own.limits (sources own L h) (galerkin_there own L h) c b d a

    -- none missing
    pub missing : (d : ℕ) → Via (fine_rows l m t L) (forward_rows l t L) (turned_rows_lem l t L c) d → contains d (columns_of (operator_rows l Galerkin m t (suc L) c)) ≡ true
    missing d a = missing_stored own.limits (sources own L h) (galerkin_there own L h) c b d a

    -- an untouched diagonal is 1, the one exception to the second condition
    pub untouched_diagonal : contains c (columns_of (galerkin_terms (fine_rows l m t L) (forward_rows l t L) (turned_rows_lem l t L c))) ≡ false
        → weights_at c (operator_rows l Galerkin m t (suc L) c) ≡ one_number ∷ []
    untouched_diagonal a = untouched_stored own.limits (sources own L h) (galerkin_there own L h) c b a

-- ---- what each part of the lists holds

-- the numbers of each part, in order; f reads the given permittivities
pub record EachNumber (l : FullLattice) (ch : Choice) (m : ℕ) (f : ℕ → C64) (t : Store) : Type 0 where
  -- 1: the `coarse_eps` chain from level 0 on; then, if rediscretized, the `averaged_eps` chain from level 1 on
  pub permittivity : (L q : ℕ) → L ≤ m → q < edges_on l L → number_at t.permittivities (eps_off l L + q) ≡ get_or (eps_part l f L) q no_number
  pub averaged : ch ≡ Rediscretized → (L q : ℕ) → L < m → q < edges_on l (suc L) → number_at t.permittivities (averaged_off l m L + q) ≡ get_or (averaged_part l f L) q no_number
  -- 2 and 3: a part for each transfer
  pub forward : (L q : ℕ) → L < m → q < forward_count l L → number_at t.forward_values (forward_off l L + q) ≡ get_or (forward_numbers l f L) q no_number
  pub turned : (L q : ℕ) → L < m → q < turned_count l L → number_at t.turned_values (turned_off l L + q) ≡ get_or (turned_numbers l f L) q no_number
  -- 4: a part for each stored operator
  pub operator : (L q : ℕ) → L ≤ m → q < stored_count l ch m L → number_at t.operator_values (operator_off l ch m L + q) ≡ get_or (operator_numbers l ch m f L) q no_number
  -- 5: fine volumes and inverse shares of each transfer, none for Galerkin
  pub scaling : ch ≡ Rediscretized → (L q : ℕ) → L < m → q < scale_count l L → number_at t.scaling (scale_off l L + q) ≡ get_or (scale_part l f L) q no_number

module _ {l : FullLattice} {ch : Choice} {m : ℕ} {f : ℕ → C64} {s t : Store} (u : Left l ch m f s t) where
  each_there : EachNumber l ch m f t
  unfolding filled
  each_there =
      record {
        permittivity = λ L q h b. rw u.is (eps_number l ch m f s u.enough L q (omega arith) b ∙ sym (tabulate_at_0 (eps_at l f L) (edges_on l L) q no_number b));
        averaged = λ e L q h b.
            let v = chosen u e in
            let front = laid_numbers s.permittivities 0 (rows (eps_part l f) (suc m)) in
            rw v.is
            (part_number (averaged_part l f) (next_edges l) (averaged_long l f) front (eps_off l (suc m)) m
            (omega (arith, v.enough.eps_room, laid_numbers_length s.permittivities 0 (rows (eps_part l f) (suc m)))) L q (averaged_off l m L + q) no_number (omega arith) h b);
        forward = λ L q h b.
            rw u.is (part_number (forward_numbers l f) (forward_count l) (fnumbers_long l f) s.forward_values 0 m (omega (arith, u.enough.forward_values_are)) L q (forward_off l L + q) no_number (omega arith) h b);
        turned = λ L q h b.
            rw u.is (part_number (turned_numbers l f) (turned_count l) (tnumbers_long l f) s.turned_values 0 m (omega (arith, u.enough.turned_values_are)) L q (turned_off l L + q) no_number (omega arith) h b);
        operator = λ L q h b.
            rw u.is
            (part_number (operator_numbers l ch m f) (stored_count l ch m) (onumbers_long l ch m f) s.operator_values 0 (suc m) (omega (arith, u.enough.operator_values_are)) L q (operator_off l ch m L + q)
            no_number (omega arith) (omega arith) b);
        scaling = λ e L q h b.
            let v = chosen u e in
            rw v.is (part_number (scale_part l f) (scale_count l) (scale_long l f) s.scaling 0 m (omega (arith, v.enough.scaling_room)) L q (scale_off l L + q) no_number (omega arith) h b);
      }

-- of an accepted setup: in each list the levels stand one behind another, with the numbers of the given permittivities
pub each_number : (i : Input) (eps : List Float) (s : Store) (n : ℕ) → (setup_of i eps s).verdict ≡ accepted n
    → EachNumber (full_of i) i.choice (transfers_of i) (number_at eps) (setup_of i eps s).store
each_number i eps s n ok = each_there (left i eps s n ok)
