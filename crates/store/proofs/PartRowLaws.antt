-- The working parts over the operator's rows and the inverse shares: their flags, the lattice of a level, and where they stand.
-- Assumes nothing.
use Prim.Native.Nat.{ℕ, suc, ◌+◌, ◌*◌, ◌≤◌, ◌<◌, ◌^◌}
use mathlib.Core.Path.{◌≡◌, refl, sym, ap, subst, ◌∙◌}
use mathlib.Core.List.{List, []}
use native.Mathlib.Omega.{arith}
use lib.ListN.{length}
use lib.Ieee.{Float}
use Rattle.numbers.specs.declared.C64.{C64}
use Rattle.numbers.specs.declared.terms.Part.{Part}
use Rattle.numbers.proofs.SumLaws.{sum_to_zero}
use Rattle.lattice.specs.declared.levels.Three.{Three}
use Rattle.lattice.specs.declared.line.Line.{Line}
use Rattle.lattice.specs.Grid.{Limits, unknowns_of}
use Rattle.lattice.specs.Lattice.{FullLattice}
use Rattle.lattice.specs.Levels.{three_at}
use Rattle.weights.specs.Tables.{lines_in, HeldThree}
use Rattle.weights.proofs.PairLaws as Pairs
use Rattle.operators.specs.LevelLists.{edges_on}
use Rattle.operators.specs.Levels.{lattice_at}
use Rattle.operators.specs.Rediscretized.{rediscretized_lattice, Tame}
use Rattle.operators.specs.Stencil.{stencil_row}
use Rattle.operators.specs.declared.galerkin.FineRows.{FineRows}
use Rattle.operators.proofs.Equations.{lattice_at_zero}
use Rattle.operators.proofs.RangeLaws.{level_edges}
use Rattle.operators.proofs.RediscretizedLaws.{tame_at}
use Rattle.operators.proofs.LevelListLaws.{lattice_limits}
use Rattle.operators.proofs.RediscretizedLists.{lattice_own}
use Rattle.store.specs.Space.{Look}
use Rattle.store.specs.Places.{space}
use Rattle.store.specs.Spots.{permittivity, number_in}
use Rattle.store.specs.Layout.{next_edges, operator_count, stored_count, operator_off, eps_off, averaged_off, scale_off}
use Rattle.store.specs.Phases.{HasLines, three_in, operator_part}
use Rattle.store.specs.FillSteps.{offsets_at}
use Rattle.store.specs.Rows.{share, operator, operator_rule}
use Rattle.store.specs.Parts.{row_by, size_by, part_size, part_row, flagged_to, flagged_part}
use Rattle.store.specs.Renewed.{Fixed, five, FiveRoom}
use Rattle.store.specs.Flagged.{PartFlags}
use Rattle.store.specs.RenewSteps.{StencilRule, OperatorStarts, EntriesRenewed, SharePlaces, SharesRenewed, fine_of, GalerkinPlaces, GalerkinRenewed}
use Rattle.store.specs.declared.Choice.{Choice}
use Rattle.store.specs.declared.Choice.TheVariants.{Galerkin, Rediscretized}
use Rattle.store.specs.declared.transfers.Offsets.{Offsets}
use Rattle.store.proofs.AveragedLaws.{averaged_low}
use Rattle.store.proofs.EndLaws.{edges_next}
use Rattle.store.proofs.LineLaws.{level_lines}
use Rattle.numbers.proofs.PartLaws.{part_room, sum_rise}
use Rattle.store.proofs.StepLaws.{terms_later, operator_first}
use Rattle.store.proofs.FlaggedLaws.{part_size_lem, part_is}

-- ---- the rows of a part

module _ (l : FullLattice) (m L base : ℕ) (flags : List ℕ) where
  shares_part : PartFlags l Rediscretized m (suc (7 * L + 5)) base flags → flagged_to (share L) flags base (edges_on l (suc L)) ≡ flagged_part l Rediscretized m flags (suc (7 * L + 5))
  unfolding row_by size_by
  shares_part p = part_is l Rediscretized m flags base L 5 (omega arith) p.base_is

  entries_part : (ch : Choice) → PartFlags l ch m (suc (7 * L + 6)) base flags → flagged_to (operator (suc L)) flags base (edges_on l (suc L)) ≡ flagged_part l ch m flags (suc (7 * L + 6))
  unfolding row_by size_by
  entries_part ch p = part_is l ch m flags base L 6 (omega arith) p.base_is

  pub shares_there : PartFlags l Rediscretized m (suc (7 * L + 5)) base flags → {n : ℕ} → n ≡ edges_on l (suc L) → (base ≤ 2 ^ 32) × (base + n ≤ 64 * length flags)
  unfolding size_by
  shares_there p e = (p.low, omega (arith, e, p.there, part_size_lem l Rediscretized m L 5 (omega arith)))

  pub entries_there : (ch : Choice) → PartFlags l ch m (suc (7 * L + 6)) base flags → {n : ℕ} → n ≡ edges_on l (suc L) → (base ≤ 2 ^ 32) × (base + n ≤ 64 * length flags)
  unfolding size_by
  entries_there ch p e = (p.low, omega (arith, e, p.there, part_size_lem l ch m L 6 (omega arith)))

-- ---- the inverse shares

module _ (l : FullLattice) (L : ℕ) {o : Offsets} {k : ℕ} (at : (o ≡ offsets_at l L) × (k ≡ scale_off l L)) {n c : ℕ} (p : n ≡ edges_on l L) (q : c ≡ edges_on l (L + 1)) where
  pub share_places : SharePlaces l L (record { s = o.ts; k = o.tk }) k n c
  share_places =
      record { turned_is = ap (λ (z : Offsets). record { s = z.ts; k = z.tk }) at.0; place_is = at.1; fine_is = p; coarse_is = edges_next l L q }

  pub shares_done : {m : ℕ} (base : ℕ) (flags : List ℕ) {ts tc : List ℕ} {tv sc : List Float} {r : ℕ} {sc' : List Float} → PartFlags l Rediscretized m (suc (7 * L + 5)) base flags
      → SharesRenewed l m ts tc (flagged_to (share L) flags base c) tv sc r sc' → SharesRenewed l m ts tc (flagged_part l Rediscretized m flags (suc (7 * L + 5))) tv sc r sc'
  shares_done {m} base flags w u = rw (edges_next l L q, shares_part l m L base flags w) at u

-- ---- the lattice's own rows

module _ (l : FullLattice) (limits : Limits l.grid) (m : ℕ) {L : ℕ} (deep : (L < m) × (m ≤ 11)) {lines : List Line} (has : HasLines l m lines)
    {s : Three} (p : s ≡ three_in lines (L + 1)) where
  own_lines : s ≡ three_at l (suc L)
  own_lines = level_lines l m has deep.0 (omega arith) p

  pub own_held : HeldThree s
  own_held = rw own_lines (Pairs.paired_at l (suc L) limits).fine_held

  pub own_tame : (Tame s.x) × (Tame s.y) × (Tame s.z)
  own_tame = rw own_lines (tame_at l limits (suc L))

  pub own_limits : {k : FullLattice} → k ≡ rediscretized_lattice l (lines_in s) → Limits k.grid
  own_limits own = subst (λ (k : FullLattice). Limits k.grid) (sym (lattice_own l limits L own_lines own)) (lattice_limits l limits (suc L))

  module _ {k : FullLattice} (own : k ≡ rediscretized_lattice l (lines_in s)) {a n : ℕ} (e : a ≡ averaged_off l m L) (q : n ≡ edges_on l (L + 1)) where
    own_is : k ≡ lattice_at l (suc L)
    own_is = lattice_own l limits L own_lines own

    next : L + 1 ≡ suc L
    next = omega arith

    own_rule : StencilRule l Rediscretized m (L + 1) k a
    own_rule =
        rw next (record {
          lattice_is = own_is;
          rule_is = λ f r i. stencil_row (sym own_is i) (λ c. number_in f permittivity (sym e i + c)) r;
        })

    pub stencil_ready : (eps ov : List Float) (flags : List ℕ) {os : List ℕ} {base : ℕ} {o : Part} → 2 * averaged_off l m m ≤ length eps → OperatorStarts l Rediscretized m (suc L) o os
        → 2 * operator_off l Rediscretized m (suc m) ≤ length ov → PartFlags l Rediscretized m (suc (7 * L + 6)) base flags
        → Limits l.grid
        × ((StencilRule l Rediscretized m (L + 1) k a)
        × (((a ≤ 2 ^ 32) × (2 * (a + edges_on l (L + 1)) ≤ length eps))
        × ((OperatorStarts l Rediscretized m (L + 1) o os)
        × ((2 * (o.k + operator_count l Rediscretized (L + 1)) ≤ length ov)
        × ((n ≡ edges_on l (L + 1)) × (base ≤ 2 ^ 32) × (base + n ≤ 64 * length flags) × (L + 1 ≤ 12))))))
    stencil_ready eps ov flags {os} {base} {o} re starts ro w =
        let y : edges_on l (L + 1) ≡ edges_on l (suc L) = ap (edges_on l) next in
        let z : operator_count l Rediscretized (L + 1) ≡ operator_count l Rediscretized (suc L) = ap (operator_count l Rediscretized) next in
        let t = entries_there l m L base flags Rediscretized w (edges_next l L q) in (
          limits,
          (
            own_rule,
            (
              (omega (arith, e, averaged_low l limits m L deep.1 (omega (arith, deep.0, deep.1))), omega (arith, e, y, part_room (next_edges l) L m deep.0)),
              (
                rw next starts,
                (
                  omega (arith, z, ap (λ (z : Part). z.k) starts.part_is, terms_later l Rediscretized m L, sum_rise (stored_count l Rediscretized m) (suc (suc L)) (suc m) (omega (arith, deep.0))),
                  (q, t.0, t.1, omega (arith, deep.0, deep.1)),
                ),
              ),
            ),
          ),
        )

    pub stencil_done : (base : ℕ) (flags : List ℕ) {eps ov : List Float} {r : ℕ} {ov' : List Float} → PartFlags l Rediscretized m (suc (7 * L + 6)) base flags
        → EntriesRenewed l Rediscretized m (flagged_to (operator (L + 1)) flags base n) eps ov r ov'
        → EntriesRenewed l Rediscretized m (flagged_part l Rediscretized m flags (suc (7 * L + 6))) eps ov r ov'
    stencil_done base flags w u = rw (next, edges_next l L q, entries_part l m L base flags Rediscretized w) at u

-- ---- a level 0 that is the only one

module _ (l : FullLattice) (ch : Choice) where
  sole_spot : (q : ℕ) → eps_off l 0 + q ≡ 0 + q
  sole_spot q = omega (arith, sum_to_zero (edges_on l))

  sole_look : (f : Look space) → ◌≡◌ {A = ℕ → C64} (λ q. number_in f permittivity (eps_off l 0 + q)) (λ q. number_in f permittivity (0 + q))
  sole_look f = λ i q. number_in f permittivity (sole_spot q i)

  sole_rule : StencilRule l ch 0 0 l 0
  sole_rule = record { lattice_is = sym (lattice_at_zero l); rule_is = go ch }
    where
      go : (ch : Choice) (f : Look space) (r : ℕ) → operator_rule l ch 0 f 0 r ≡ stencil_row l (λ q. number_in f permittivity (0 + q)) r
      go Galerkin f r = ap (λ (g : ℕ → C64). stencil_row l g r) (sole_look f)
      go Rediscretized f r = λ i. stencil_row (lattice_at_zero l i) (sole_look f i) r

  sole_edges : {n : ℕ} → n ≡ unknowns_of l.grid → n ≡ edges_on l 0
  sole_edges e = e ∙ ap (λ (k : FullLattice). unknowns_of k.grid) (sym (lattice_at_zero l)) ∙ level_edges l 0

  sole_part_is : ◌≡◌ {A = Part} (record { s = 0; k = 0 }) (operator_part l ch 0 0)
  sole_part_is = let z = operator_first l ch 0 in λ i. record { s = sym z.0 i; k = sym z.1 i }

  sole_size_lem : (flags : List ℕ) → flagged_to (operator 0) flags 0 (edges_on l 0) ≡ flagged_to (part_row 0) flags 0 (part_size l ch 0 0)
  unfolding part_row part_size
  sole_size_lem flags = refl

  sole_off : (flags : List ℕ) → flagged_to (part_row 0) flags 0 (part_size l ch 0 0) ≡ flagged_part l ch 0 flags 0
  sole_off flags = ap (λ (b : ℕ). flagged_to (part_row 0) flags b (part_size l ch 0 0)) (sym (sum_to_zero (part_size l ch 0)))

  pub sole_ready : Limits l.grid → (eps ov : List Float) {os flags : List ℕ} {n : ℕ} → n ≡ unknowns_of l.grid → 2 * edges_on l 0 ≤ length eps
      → OperatorStarts l ch 0 0 (operator_part l ch 0 0) os → 2 * operator_off l ch 0 1 ≤ length ov → PartFlags l ch 0 0 0 flags
      → Limits l.grid
      × ((StencilRule l ch 0 0 l 0)
      × (((0 ≤ 2 ^ 32) × (2 * (0 + edges_on l 0) ≤ length eps))
      × ((OperatorStarts l ch 0 0 (record { s = 0; k = 0 }) os)
      × ((2 * (0 + operator_count l ch 0) ≤ length ov)
      × ((n ≡ edges_on l 0) × (0 ≤ 2 ^ 32) × (0 + n ≤ 64 * length flags) × (0 ≤ 12))))))
  unfolding part_size
  sole_ready limits eps ov {os} {flags} {n} e re starts ro w = (
    limits,
    (
      sole_rule,
      (
        (omega arith, omega arith),
        (
          rw sole_part_is starts,
          (
            omega (arith, part_room (stored_count l ch 0) 0 1 (omega arith)),
            (sole_edges e, omega arith, omega (arith, sole_edges e, w.there), omega arith),
          ),
        ),
      ),
    ),
  )

  pub sole_done : (flags : List ℕ) {eps ov : List Float} {n r : ℕ} {ov' : List Float} → n ≡ unknowns_of l.grid
      → EntriesRenewed l ch 0 (flagged_to (operator 0) flags 0 n) eps ov r ov' → EntriesRenewed l ch 0 (flagged_part l ch 0 flags 0) eps ov r ov'
  sole_done flags e u = rw (sole_edges e, sole_size_lem flags, sole_off flags) at u

-- ---- Galerkin's rows

module _ (l : FullLattice) (m L : ℕ) {o : Offsets} {fine : FineRows} {a : Part} (at : (o ≡ offsets_at l L) × (fine ≡ fine_of l Galerkin m L) × (a ≡ operator_part l Galerkin m (suc L)))
    {n : ℕ} (q : n ≡ edges_on l (L + 1)) where
  pub galerkin_places : GalerkinPlaces l m L fine (record { s = o.s; k = o.k }) (record { s = o.ts; k = o.tk }) a
  galerkin_places =
      record {
        fine_is = at.1;
        forward_is = ap (λ (z : Offsets). record { s = z.s; k = z.k }) at.0;
        turned_is = ap (λ (z : Offsets). record { s = z.ts; k = z.tk }) at.0;
        operator_is = at.2;
      }

  pub galerkin_done : (base : ℕ) (flags : List ℕ) {x : Fixed} {e f t v : List Float} {r : ℕ} {v' : List Float} → PartFlags l Galerkin m (suc (7 * L + 6)) base flags
      → GalerkinRenewed l m x (flagged_to (operator (suc L)) flags base n) e f t v r v' → GalerkinRenewed l m x (flagged_part l Galerkin m flags (suc (7 * L + 6))) e f t v r v'
  galerkin_done base flags w u = rw (edges_next l L q, entries_part l m L base flags Galerkin w) at u

-- room in lists as long
pub galerkin_long : {l : FullLattice} {m : ℕ} {e f t o : List Float} (o' : List Float) → length o' ≡ length o → FiveRoom l Galerkin m (five e f t o []) → FiveRoom l Galerkin m (five e f t o' [])
galerkin_long o' z u = record { e_room = u.e_room; f_room = u.f_room; t_room = u.t_room; o_room = rw z u.o_room; c_room = u.c_room }
