-- Volumes and inverse shares, transfer by transfer.
-- Assumes nothing.
use Prim.Native.Nat.{ℕ, zero, suc, ◌+◌, ◌*◌, ◌≤◌, ◌<◌, ◌^◌}
use mathlib.Core.Path.{◌≡◌, refl, sym, ap, subst, ◌∙◌}
use mathlib.Core.Bool.{Bool, ◌&&◌}
use mathlib.Core.List.{List, ◌++◌}
use native.Mathlib.Omega.{arith}
use lib.ListN.{length, get_or}
use lib.Ieee.{Float}
use Rattle.numbers.specs.declared.C64.{C64}
use Rattle.numbers.specs.declared.terms.Part.{Part}
use Rattle.numbers.specs.Complex.{no_number}
use Rattle.numbers.specs.Places.{number_at, set_number}
use Rattle.numbers.specs.Lists.{In, tabulate, laid_numbers, all_finite, read_from}
use Rattle.numbers.specs.Terms.{Term, columns_of, Stored}
use Rattle.numbers.proofs.Equations.{read_from_is}
use Rattle.numbers.proofs.TabulateLaws.{length_tabulate, tabulate_at_0, tabulate_agree}
use Rattle.numbers.proofs.SumLaws.{sum_to_zero, sum_to_suc, sum_most}
use Rattle.numbers.proofs.ListLaws.{laid_behind_laid, laid_numbers_at, laid_numbers_length}
use Rattle.numbers.proofs.TransposedLaws.{mem_in}
use Rattle.numbers.proofs.PartLaws.{laid_next, laid_zero, part_room, rows_sum}
use Rattle.lattice.specs.declared.line.Line.{Line}
use Rattle.lattice.specs.declared.levels.Three.{Three}
use Rattle.lattice.specs.Grid.{Limits, unknowns_of}
use Rattle.lattice.specs.Lattice.{FullLattice}
use Rattle.lattice.specs.Levels.{three_at}
use Rattle.weights.specs.Tables.{lines_in, HeldThree}
use Rattle.weights.proofs.PairLaws as Pairs
use Rattle.operators.specs.Galerkin.{rows_in}
use Rattle.operators.specs.LevelLists.{edges_on}
use Rattle.operators.specs.Levels.{turned_at, lattice_at, volumes_at, inverse_shares_at}
use Rattle.operators.specs.Rediscretized.{rediscretized_lattice, Tame}
use Rattle.operators.specs.Volumes.{volume_of, inverse_share, shares_finite}
use Rattle.operators.proofs.LevelListLaws.{lattice_limits}
use Rattle.operators.proofs.RangeLaws.{level_edges, edges_few, turned_names_low}
use Rattle.operators.proofs.RediscretizedLaws.{tame_at}
use Rattle.operators.proofs.VolumeLaws.{inverse_local}
use Rattle.store.specs.Layout.{next_edges, turned_count, turned_off, scale_count, scale_off, starts_off}
use Rattle.store.specs.Setup.{scale_part}
use Rattle.store.specs.Phases.{HasLines, three_in, turned_part, noted, first_of, TransfersIn, ScalingRoom, scale_fine}
use Rattle.store.specs.PhaseSteps.{behind_of, TurnedStored, TurnedIn, VolumesLeft, ScaleLevel, ScalingLeft}
use Rattle.operators.proofs.Equations.{inverse_shares_at_is, lattice_at_zero, volumes_at_is}
use Rattle.operators.proofs.RediscretizedLists.{lattice_own}
use Rattle.operators.proofs.ShareFine.{shares_local}
use Rattle.store.proofs.LineLaws.{three_is}
use Rattle.store.proofs.EndLaws.{edges_next}
use Rattle.store.proofs.StepLaws.{part_at}
use Rattle.store.proofs.SizeLaws.{turned_count_lem, scale_long}

-- ---- the turned rows, from the transfers

module _ {l : FullLattice} {f : ℕ → C64} {m : ℕ} {ss cs : List ℕ} {xs : List Float} {ts us : List ℕ} {ys : List Float} (u : TransfersIn l f m ss cs xs ts us ys) where
  pub turned_stored : TurnedStored l m ts us ys
  turned_stored =
      record {
        stored = λ L h. (u.each_in L h).turned_stored;
        count_is = λ L h.
            (u.each_in L h).turned_count_is
            ∙ turned_count_lem l f L;
      }

  pub turned_in_lem : TurnedIn l f m ts us ys
  turned_in_lem = record { turned_are = λ L h. (u.each_in L h).turned_are }

-- ---- the volumes of a level

module _ (l : FullLattice) (limits : Limits l.grid) (L : ℕ) where
  -- the lattice that they are worked out on
  pub lattice_at_lem : (L ≡ 0 → ⊥) → {s : Three} {k : FullLattice} → s ≡ three_at l L → k ≡ rediscretized_lattice l (lines_in s) → k ≡ lattice_at l L
  lattice_at_lem n {s} {k} p e = go L n p
    where
      go : (K : ℕ) → (K ≡ 0 → ⊥) → s ≡ three_at l K → k ≡ lattice_at l K
      go zero n p = absurd (n refl)
      go (suc K) n p = lattice_own l limits K p e

  pub lattice_zero : L ≡ 0 → l ≡ lattice_at l L
  lattice_zero z = rw z (sym (lattice_at_zero l))

  module _ {k : FullLattice} (own : k ≡ lattice_at l L) where
    edges_own : unknowns_of k.grid ≡ edges_on l L
    edges_own = ap (λ (k : FullLattice). unknowns_of k.grid) own ∙ level_edges l L

    pub volumes_asked : (xs : List Float) (j : ℕ) → (j ≤ 2 ^ 32) × (2 * (j + edges_on l L) ≤ length xs)
        → Limits k.grid × ((j ≤ 2 ^ 32) × (2 * (j + unknowns_of k.grid) ≤ length xs))
    volumes_asked xs j h = (
      subst (λ (k : FullLattice). Limits k.grid) (sym own) (lattice_limits l limits L),
      (h.0, omega (arith, h.1, edges_own)),
    )

    pub volumes_left : {xs xs' : List Float} (j : ℕ) {b : Bool}
        → (xs' ≡ laid_numbers xs j (tabulate (volume_of k) (unknowns_of k.grid) 0)) × (b ≡ all_finite (tabulate (volume_of k) (unknowns_of k.grid) 0)) → VolumesLeft l L j xs xs' b
    volumes_left {xs} j d =
        let e : tabulate (volume_of k) (unknowns_of k.grid) 0 ≡ tabulate (volumes_at l L) (edges_on l L) 0 =
        (λ i. tabulate (volume_of (own i)) (edges_own i) 0) ∙ ap (λ (v : ℕ → C64). tabulate v (edges_on l L) 0) (sym (volumes_at_is l L)) in
        record { volumes = d.0 ∙ ap (laid_numbers xs j) e; finite = d.1 ∙ ap all_finite e }

-- the lines of a level below the finest
module _ (l : FullLattice) (limits : Limits l.grid) (m L : ℕ) (h : (L < m) × (m ≤ 11)) {lines : List Line} (has : HasLines l m lines)
    {s : Three} (p : s ≡ three_in lines L) where
  pub level_three : s ≡ three_at l L
  level_three = p ∙ three_is _ _ has L (omega (arith, h.0))

  pub level_held : HeldThree s
  level_held = rw level_three (Pairs.paired_at l L limits).fine_held

  pub level_tame : (Tame s.x) × (Tame s.y) × (Tame s.z)
  level_tame = rw level_three (tame_at l limits L)

-- ---- one transfer

module _ (l : FullLattice) (limits : Limits l.grid) where
  pub scale_low : (L : ℕ) → L ≤ 11 → scale_off l L ≤ 270336
  scale_low L h = omega (arith, sum_most (scale_count l) 24576 L (λ i b. omega (arith, edges_few l limits i, edges_few l limits (suc i))))

module _ (l : FullLattice) (limits : Limits l.grid) (m L : ℕ) (h : (L < m) × (m ≤ 11)) {ts us : List ℕ} {ys : List Float} (stored : TurnedStored l m ts us ys)
    {t : Part} {k n c : ℕ} (at : (t ≡ turned_part l L) × (k ≡ scale_off l L)) (fine : n ≡ edges_on l L) (coarse : c ≡ edges_on l (L + 1))
    {xs : List Float} (room : ScalingRoom l m xs) where
  next : c ≡ edges_on l (suc L)
  next = edges_next l L coarse

  whole : k + n + c ≤ scale_off l m
  whole = omega (arith, fine, next, part_room (scale_count l) L m h.0, at.1)

  pub sum_low : k + n ≤ 2 ^ 32
  sum_low = omega (arith, fine, at.1, scale_low l limits L (omega (arith, h.0, h.1)), edges_few l limits L)

  pub place_asked : (k ≤ 2 ^ 32) × (2 * (k + edges_on l L) ≤ length xs)
  place_asked = (omega (arith, sum_low), omega (arith, fine, whole, room.room))

  module _ {xs₁ : List Float} {b₁ : Bool} (v : VolumesLeft l L k xs xs₁ b₁) where
    abbrev vs : List C64
    vs = tabulate (volumes_at l L) (edges_on l L) 0

    vs_long : length vs ≡ edges_on l L
    vs_long = length_tabulate (volumes_at l L) (edges_on l L) 0

    long₁ : length xs₁ ≡ length xs
    long₁ = ap length v.volumes ∙ laid_numbers_length xs k vs

    pub shares_asked : (Stored ts t.s us ys t.k c n) × ((k ≤ 2 ^ 32) × (k + n ≤ 2 ^ 32) × (k + n ≤ k + n) × (2 * (k + n + c) ≤ length xs₁))
    shares_asked = (
      rw (at.0, next, fine) (stored.stored L h.0),
      (omega (arith, sum_low), sum_low, omega arith, omega (arith, whole, room.room, long₁)),
    )

    volume_at_lem : (d : ℕ) → d < edges_on l L → read_from xs₁ k d ≡ volumes_at l L d
    volume_at_lem d b =
        read_from_is xs₁ k d
        ∙ ap (λ (ws : List Float). number_at ws (k + d)) v.volumes
        ∙ laid_numbers_at xs k vs d no_number (omega (arith, vs_long)) (omega (arith, vs_long, whole, fine, room.room))
        ∙ tabulate_at_0 (volumes_at l L) (edges_on l L) d no_number b

    module _ {xs₂ : List Float} {b₂ b : Bool}
        (w : (xs₂ ≡ laid_numbers xs₁ (k + n) (tabulate (inverse_share (rows_in t ts us ys) (read_from xs₁ k)) c 0)) × (b₂ ≡ shares_finite (rows_in t ts us ys) (read_from xs₁ k) c))
        (both : (x y : Bool) → b₁ ≡ x → b₂ ≡ y → b ≡ (x && y)) where
      module _ (f : ℕ → C64) (u : TurnedIn l f m ts us ys) where
        row_is : (r : ℕ) → r < c → rows_in t ts us ys r ≡ turned_at l f L r
        row_is r b = ap (λ (t : Part). rows_in t ts us ys r) at.0 ∙ u.turned_are L h.0 r (omega (arith, next))

        volume_is : (r d : ℕ) → r < c → In d (columns_of (rows_in t ts us ys r)) → read_from xs₁ k d ≡ volumes_at l L d
        volume_is r d b i = volume_at_lem d (turned_names_low l limits L f r d (subst (λ (row : List Term). In d (columns_of row)) (row_is r b) i))

        inverse_is : (r : ℕ) → r < c → inverse_share (rows_in t ts us ys) (read_from xs₁ k) r ≡ inverse_shares_at l f L r
        inverse_is r b =
            inverse_local (rows_in t ts us ys) (turned_at l f L) (read_from xs₁ k) (volumes_at l L) r (row_is r b) (λ d i. volume_is r d b (mem_in i))
            ∙ sym (ap (λ (g : ℕ → C64). g r) (inverse_shares_at_is l f L))

        scale_laid : xs₂ ≡ laid_numbers xs (scale_off l L) (scale_part l f L)
        scale_laid =
            let ws = tabulate (inverse_shares_at l f L) (edges_on l (suc L)) 0 in
            w.0
            ∙ ap (laid_numbers xs₁ (k + n))
            (tabulate_agree (inverse_share (rows_in t ts us ys) (read_from xs₁ k)) (inverse_shares_at l f L) c no_number inverse_is
            ∙ ap (λ (j : ℕ). tabulate (inverse_shares_at l f L) j 0) next)
            ∙ ap (λ (zs : List Float). laid_numbers zs (k + n) ws) v.volumes
            ∙ sym (laid_behind_laid set_number xs k vs ws (k + n) (omega (arith, vs_long, fine)))
            ∙ ap (λ (j : ℕ). laid_numbers xs j (vs ++ ws)) at.1

        scale_finite : b ≡ scale_fine l f L
        unfolding scale_fine
        scale_finite =
            both (all_finite vs) (shares_finite (turned_at l f L) (volumes_at l L) (edges_on l (suc L))) v.finite
            (w.1 ∙ shares_local (rows_in t ts us ys) (turned_at l f L) (read_from xs₁ k) (volumes_at l L) c row_is volume_is
            ∙ ap (shares_finite (turned_at l f L) (volumes_at l L)) next)

      pub scale_done : ScaleLevel l m L ts us ys xs xs₂ b
      scale_done =
          record {
            long = ap length w.0 ∙ laid_numbers_length xs₁ (k + n) (tabulate (inverse_share (rows_in t ts us ys) (read_from xs₁ k)) c 0) ∙ long₁;
            scale = scale_laid;
            finite = scale_finite;
          }

-- ---- transfer by transfer

pub record Scaling (l : FullLattice) (m : ℕ) (ts us : List ℕ) (ys xs₀ xs : List Float) (t : Part) (k bad L : ℕ) : Type 0 where
  pub high : L ≤ m
  pub long : length xs ≡ length xs₀
  pub places : (t ≡ turned_part l L) × (k ≡ scale_off l L)
  pub left : ScalingLeft l m L ts us ys xs₀ xs bad

module _ (l : FullLattice) (m : ℕ) {ts us : List ℕ} {ys xs₀ : List Float} where
  pub scaling_start : Scaling l m ts us ys xs₀ xs₀ (record { s = 0; k = 0 }) 0 0 0
  unfolding first_of
  scaling_start =
      let s = sum_to_zero (λ i. next_edges l i + 1) in
      let k = sum_to_zero (turned_count l) in
      record {
        high = omega arith;
        long = refl;
        places = (sym (λ i. part_at (s i) (k i)), sym (sum_to_zero (scale_count l)));
        left = record { scaling = λ f u. laid_zero set_number xs₀ (scale_part l f) 0; bad_is = λ f u. refl };
      }

  module _ (limits : Limits l.grid) (deep : m ≤ 11) (stored : TurnedStored l m ts us ys) (room : ScalingRoom l m xs₀)
      {xs : List Float} {t : Part} {k bad L : ℕ} (w : Scaling l m ts us ys xs₀ xs t k bad L) where
    pub scaling_room : ScalingRoom l m xs
    scaling_room = record { room = omega (arith, w.long, room.room) }

    pub scaling_end : m ≤ L → ScalingLeft l m m ts us ys xs₀ xs bad
    scaling_end h = let z : L ≡ m = omega (arith, w.high) in rw z at w.left

    module _ (h : L < m) {n c : ℕ} (fine : n ≡ edges_on l L) (coarse : c ≡ edges_on l (L + 1)) where
      coarser : c ≡ edges_on l (suc L)
      coarser = edges_next l L coarse

      pub sum_fits : k + (n + c) ≤ 2 ^ 32
      sum_fits = omega (arith, fine, coarser, w.places.1, scale_low l limits L (omega arith), edges_few l limits L, edges_few l limits (suc L))

      pub turned_behind : (t.s + c < length ts) × (t.k + get_or ts (t.s + c) 0 ≤ 2 ^ 40)
      turned_behind =
          let d = stored.stored L h in
          rw (w.places.0, coarser) (d.starts_room, omega (arith, d.all_few, d.low))

      pub scaling_turn : {xs' : List Float} {b : Bool} {t' : Part} {bad' : ℕ} → ScaleLevel l m L ts us ys xs xs' b → t' ≡ behind_of t c ts → bad' ≡ noted bad L b
          → Scaling l m ts us ys xs₀ xs' t' (k + (n + c)) bad' (L + 1)
      unfolding first_of
      scaling_turn {xs'} {b} {t'} {bad'} d te be =
          let z : L + 1 ≡ suc L = omega arith in
          rw z
          (record {
            high = h;
            long = d.long ∙ w.long;
            places = (part_next, omega (arith, w.places.1, fine, coarser, sum_to_suc (scale_count l) L));
            left = record {
              scaling = λ f u.
                  let q = rows_sum (scale_part l f) (scale_count l) (scale_long l f) L in
                  d.scale f u ∙ ap (λ (v : List Float). laid_numbers v (scale_off l L) (scale_part l f L)) (w.left.scaling f u)
                  ∙ laid_next set_number xs₀ (scale_part l f) 0 L (scale_off l L) (omega arith);
              bad_is = λ f u. be ∙ (λ i. noted (w.left.bad_is f u i) L (d.finite f u i));
            };
          })
        where
          part_next : t' ≡ turned_part l (suc L)
          part_next =
              let s : starts_off (next_edges l) L + edges_on l (suc L) + 1 ≡ starts_off (next_edges l) (suc L) = omega (arith, sum_to_suc (λ i. next_edges l i + 1) L) in
              let q : turned_off l L + get_or ts (starts_off (next_edges l) L + edges_on l (suc L)) 0 ≡ turned_off l (suc L) =
              omega (arith, stored.count_is L h, sum_to_suc (turned_count l) L) in
              te ∙ (λ i. behind_of (w.places.0 i) (coarser i) ts) ∙ (λ i. part_at (s i) (q i))
