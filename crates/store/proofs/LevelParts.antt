-- The parts of a transfer one behind another: where their flags begin, which of them have no rows, and what the groups of parts leave together.
-- Assumes nothing.
use Prim.Native.Nat.{ℕ, zero, suc, ◌+◌, ◌-◌, ◌*◌, ◌≤◌, ◌<◌, ◌^◌}
use mathlib.Core.Path.{◌≡◌, refl, sym, ap, subst, ◌∙◌}
use mathlib.Core.List.{List, [], ◌++◌}
use mathlib.Core.Bool.{false}
use native.Mathlib.Omega.{arith}
use lib.ListN.{length, get_or}
use lib.Ieee.{Float}
use Rattle.numbers.specs.declared.terms.Part.{Part}
use Rattle.numbers.specs.Lists.{sum_to}
use Rattle.numbers.proofs.SumLaws.{sum_to_zero, sum_to_suc, sum_most}
use Rattle.lattice.specs.Grid.{Limits}
use Rattle.lattice.specs.Lattice.{FullLattice}
use Rattle.operators.specs.LevelLists.{edges_on}
use Rattle.operators.specs.declared.galerkin.FineRows.{FineRows}
use Rattle.operators.specs.declared.galerkin.FineRows.TheVariants.{Stored as StoredFrom}
use Rattle.operators.proofs.RangeLaws.{edges_few}
use Rattle.store.specs.Layout.{next_edges, forward_count, turned_count, operator_count, scale_count, turned_off, operator_off, stored_starts, eps_off, averaged_off, scale_off, eps_need}
use Rattle.store.specs.Phases.{operator_part}
use Rattle.store.specs.PhaseSteps.{averaged_from, behind_of}
use Rattle.store.specs.FillSteps.{only_count, offsets_at}
use Rattle.store.specs.Rows.{Row}
use Rattle.store.specs.Reach.{hit}
use Rattle.store.specs.Parts.{row_by, FlagsOf, size_by, sole_size, part_size, part_row, part_off, part_count, flag_at, flagged_to, flagged_part, flagged_parts}
use Rattle.store.specs.Renewed.{Fixed, fixed, Five, five, Shaped, FiveRoom, Renewed}
use Rattle.store.specs.Flagged.{PartFlags, RenewedIn, with_eps, with_forward, with_turned, TurnedReady}
use Rattle.store.specs.RenewSteps.{flagged_some, NoVolumes, fine_of, OperatorStarts, TurnedRows, EntriesRenewed, SharesRenewed, GalerkinRenewed}
use Rattle.store.specs.RenewLevels.{standing_at, WeightRoom, WeightsRenewed, ScaledRenewed}
use Rattle.store.specs.declared.Choice.{Choice}
use Rattle.store.specs.declared.Choice.TheVariants.{Galerkin, Rediscretized}
use Rattle.store.specs.declared.change.Standing.{Standing}
use Rattle.store.specs.declared.transfers.Offsets.{Offsets}
use Rattle.numbers.proofs.PartLaws.{part_room}
use Rattle.store.proofs.SizeLaws.{stored_rows}
use Rattle.store.proofs.StepLaws.{starts_later, terms_later, operator_second}
use Rattle.store.proofs.SmallLaws.{operator_small}
use Rattle.store.proofs.FlaggedLaws.{part_row_lem, part_size_lem}
use Rattle.store.proofs.RenewTransferLaws.{part_none, part_flags, size_few}
use Rattle.store.proofs.AveragedLaws.{averaged_low}
use Rattle.store.proofs.EndLaws.{edges_next}
use Rattle.store.proofs.ScalingLaws.{scale_low}
use Rattle.store.proofs.SequenceLaws.{renewed_empty, some_one, some_then, some_stop, parts_then, parts_stop}
use Rattle.store.proofs.ShapeLaws.{forward_rows_lem, fs_fits, turned_rows, ts_fits, tc_fits, operator_starts_are}

-- where the next one begins
module _ (l : FullLattice) (ch : Choice) (m L : ℕ) where
  base_step : (k j : ℕ) → j ≡ suc k → k < 7 → part_off l ch m (suc (7 * L + j)) ≡ part_off l ch m (suc (7 * L + k)) + size_by l ch k L
  base_step k j e h =
      let z : suc (7 * L + j) ≡ suc (suc (7 * L + k)) = omega arith in
      rw z (sum_to_suc (part_size l ch m) (suc (7 * L + k)) ∙ ap (λ (n : ℕ). part_off l ch m (suc (7 * L + k)) + n) (part_size_lem l ch m L k h))

  pub base_0 : part_off l ch m (suc (7 * L + 0)) ≡ part_off l ch m (suc (7 * L))
  base_0 = let z : suc (7 * L + 0) ≡ suc (7 * L) = omega arith in ap (part_off l ch m) z

  pub base_1 : part_off l ch m (suc (7 * L + 1)) ≡ part_off l ch m (suc (7 * L)) + edges_on l (suc L)
  unfolding size_by
  base_1 = omega (arith, base_0, base_step 0 1 refl (omega arith))

  pub base_2 : part_off l ch m (suc (7 * L + 2)) ≡ part_off l ch m (suc (7 * L)) + (edges_on l (suc L) + only_count ch (edges_on l (suc L)))
  unfolding size_by
  base_2 = omega (arith, base_1, base_step 1 2 refl (omega arith))

  pub base_3 : part_off l ch m (suc (7 * L + 3)) ≡ part_off l ch m (suc (7 * L)) + (edges_on l (suc L) + only_count ch (edges_on l (suc L))) + edges_on l L
  unfolding size_by
  base_3 = omega (arith, base_2, base_step 2 3 refl (omega arith))

  base_5 : part_off l ch m (suc (7 * L + 5)) ≡ part_off l ch m (suc (7 * L)) + (2 * edges_on l (suc L) + only_count ch (edges_on l (suc L)) + edges_on l L + only_count ch (edges_on l L))
  unfolding size_by
  base_5 = omega (arith, base_3, base_step 3 4 refl (omega arith), base_step 4 5 refl (omega arith))

  base_6 : part_off l ch m (suc (7 * L + 6)) ≡ part_off l ch m (suc (7 * L)) + (2 * edges_on l (suc L) + 2 * only_count ch (edges_on l (suc L)) + edges_on l L + only_count ch (edges_on l L))
  unfolding size_by
  base_6 = omega (arith, base_5, base_step 5 6 refl (omega arith))

  pub base_7 : part_off l ch m (suc (7 * suc L)) ≡ part_off l ch m (suc (7 * L)) + (edges_on l L + 3 * edges_on l (suc L) + (only_count ch (edges_on l L) + 2 * only_count ch (edges_on l (suc L))))
  unfolding size_by
  base_7 =
      let z : suc (7 * suc L) ≡ suc (7 * L + 7) = omega arith in
      omega (arith, ap (part_off l ch m) z, base_6, base_step 6 7 refl (omega arith))

pub base_5r : (l : FullLattice) (m L : ℕ) → part_off l Rediscretized m (suc (7 * L + 5)) ≡ part_off l Rediscretized m (suc (7 * L)) + (2 * edges_on l L + 3 * edges_on l (suc L))
base_5r l m L = omega (arith, base_5 l Rediscretized m L)

pub base_6r : (l : FullLattice) (m L : ℕ) → part_off l Rediscretized m (suc (7 * L + 6)) ≡ part_off l Rediscretized m (suc (7 * L)) + (2 * edges_on l L + 3 * edges_on l (suc L)) + edges_on l (suc L)
base_6r l m L = omega (arith, base_6 l Rediscretized m L)

pub base_6g : (l : FullLattice) (m L : ℕ) → part_off l Galerkin m (suc (7 * L + 6)) ≡ part_off l Galerkin m (suc (7 * L)) + (edges_on l L + 2 * edges_on l (suc L))
base_6g l m L = omega (arith, base_6 l Galerkin m L)

-- ---- parts that have no flagged rows

flagged_off : (row : ℕ → Row) (flags : List ℕ) (base n : ℕ) → ((i : ℕ) → i < n → flag_at flags (base + i) ≡ false) → flagged_to row flags base n ≡ []
unfolding flagged_to
flagged_off row flags base zero h = refl
flagged_off row flags base (suc n) h = rw (flagged_off row flags base n (λ i b. h i (omega arith)), h n (omega arith)) refl

module _ (l : FullLattice) (m L : ℕ) (flags : List ℕ) where
  part_off_lem : (ch : Choice) (k : ℕ) → k < 7 → ((i : ℕ) → i < size_by l ch k L → flag_at flags (part_off l ch m (suc (7 * L + k)) + i) ≡ false) → flagged_part l ch m flags (suc (7 * L + k)) ≡ []
  part_off_lem ch k b h =
      flagged_off (part_row (suc (7 * L + k))) flags (part_off l ch m (suc (7 * L + k))) (part_size l ch m (suc (7 * L + k))) (λ i y. h i (omega (arith, y, part_size_lem l ch m L k b)))

  pub averaged_off_lem : flagged_part l Galerkin m flags (suc (7 * L + 1)) ≡ []
  unfolding size_by
  averaged_off_lem = part_none l Galerkin m flags L 1 (omega arith) refl

  share_off : flagged_part l Galerkin m flags (suc (7 * L + 5)) ≡ []
  unfolding size_by
  share_off = part_none l Galerkin m flags L 5 (omega arith) refl

  volume_off : (ch : Choice) → NoVolumes l ch m flags → L < m → flagged_part l ch m flags (suc (7 * L + 4)) ≡ []
  unfolding size_by
  volume_off ch w h = part_off_lem ch 4 (omega arith) (λ i y. w.none L i h y)

-- flags that tell which rows a change reaches have no volume among them
pub volumes_unflagged : (l : FullLattice) (e : ℕ) (ch : Choice) (m : ℕ) (flags : List ℕ) → FlagsOf l ch m (hit l e ch) flags → NoVolumes l ch m flags
unfolding row_by size_by
volumes_unflagged l e ch m flags u =
    record {
      none = λ L i h b.
          u.each_is (suc (7 * L + 4)) i (omega arith) (omega (arith, b, part_size_lem l ch m L 4 (omega arith)))
          ∙ ap (hit l e ch) (part_row_lem L 4 i (omega arith));
    }

-- ---- groups of parts

module _ {l : FullLattice} {ch : Choice} {m : ℕ} (L : ℕ) (flags : List ℕ) where
  pub eps_stop : {e e' : List Float} {n : ℕ} → (n ≡ 0 → ⊥) → RenewedIn l ch m (flagged_part l ch m flags (suc (7 * L + 0))) with_eps e n e'
      → RenewedIn l ch m (flagged_some l ch m flags (suc (7 * L)) 2) with_eps e n e'
  eps_stop {e} {e'} {n} z u =
      record {
        each = λ x y.
            some_stop l ch m x flags (suc (7 * L)) 1 1 2 (with_eps y e) (with_eps y e') n refl z
            (some_one l ch m x flags (suc (7 * L)) (suc (7 * L + 0)) (with_eps y e) (with_eps y e') n (omega arith) (u.each x y));
      }

  pub eps_both : {e e₁ e₂ : List Float} {a n : ℕ} → a ≡ 0 → RenewedIn l ch m (flagged_part l ch m flags (suc (7 * L + 0))) with_eps e a e₁
      → RenewedIn l ch m (flagged_part l ch m flags (suc (7 * L + 1))) with_eps e₁ n e₂ → RenewedIn l ch m (flagged_some l ch m flags (suc (7 * L)) 2) with_eps e n e₂
  eps_both {e} {e₁} {e₂} {a} {n} z u w =
      record {
        each = λ x y.
            some_then l ch m x flags (suc (7 * L)) (suc (7 * L + 1)) 1 1 2 (with_eps y e) (with_eps y e₁) (with_eps y e₂) n (omega arith) refl
            (some_one l ch m x flags (suc (7 * L)) (suc (7 * L + 0)) (with_eps y e) (with_eps y e₁) 0 (omega arith) (rw z at (u.each x y)))
            (some_one l ch m x flags (suc (7 * L + 1)) (suc (7 * L + 1)) (with_eps y e₁) (with_eps y e₂) n refl (w.each x y));
      }

  pub weights_stop : {e f f' t : List Float} {n : ℕ} → (n ≡ 0 → ⊥) → RenewedIn l ch m (flagged_part l ch m flags (suc (7 * L + 2))) (with_forward e) f n f'
      → WeightsRenewed l ch m (flagged_some l ch m flags (suc (7 * L + 2)) 2) e f t n f' t
  weights_stop {e} {f} {f'} {t} {n} z u =
      record {
        each = λ x o c.
            some_stop l ch m x flags (suc (7 * L + 2)) 1 1 2 (five e f t o c) (five e f' t o c) n refl z
            (some_one l ch m x flags (suc (7 * L + 2)) (suc (7 * L + 2)) (five e f t o c) (five e f' t o c) n refl (u.each x (five e f t o c)));
      }

  pub weights_both : {e f f' t t' : List Float} {a n : ℕ} → a ≡ 0 → RenewedIn l ch m (flagged_part l ch m flags (suc (7 * L + 2))) (with_forward e) f a f'
      → RenewedIn l ch m (flagged_part l ch m flags (suc (7 * L + 3))) (with_turned f') t n t' → WeightsRenewed l ch m (flagged_some l ch m flags (suc (7 * L + 2)) 2) e f t n f' t'
  weights_both {e} {f} {f'} {t} {t'} {a} {n} z u w =
      record {
        each = λ x o c.
            some_then l ch m x flags (suc (7 * L + 2)) (suc (7 * L + 3)) 1 1 2 (five e f t o c) (five e f' t o c) (five e f' t' o c) n (omega arith) refl
            (some_one l ch m x flags (suc (7 * L + 2)) (suc (7 * L + 2)) (five e f t o c) (five e f' t o c) 0 refl (rw z at (u.each x (five e f t o c))))
            (some_one l ch m x flags (suc (7 * L + 3)) (suc (7 * L + 3)) (five e f' t o c) (five e f' t' o c) n refl (w.each x (five e f' t o c)));
      }

-- by the choice: the averaged part of a Galerkin store has no rows
module _ {l : FullLattice} {ch : Choice} {m : ℕ} (L : ℕ) (flags : List ℕ) {e e₁ : List Float} {a : ℕ} where
  pub eps_galerkin : ch ≡ Galerkin → a ≡ 0 → RenewedIn l ch m (flagged_part l ch m flags (suc (7 * L + 0))) with_eps e a e₁
      → RenewedIn l ch m (flagged_some l ch m flags (suc (7 * L)) 2) with_eps e 0 e₁
  eps_galerkin k z u =
      eps_both L flags z u (record { each = λ x y. rw (ap (λ (c : Choice). flagged_part l c m flags (suc (7 * L + 1))) k ∙ averaged_off_lem l m L flags) (renewed_empty l ch m x (with_eps y e₁)) })

  pub eps_rediscretized : {e₂ : List Float} {n : ℕ} → ch ≡ Rediscretized → a ≡ 0 → RenewedIn l ch m (flagged_part l ch m flags (suc (7 * L + 0))) with_eps e a e₁
      → RenewedIn l Rediscretized m (flagged_part l Rediscretized m flags (suc (7 * L + 1))) with_eps e₁ n e₂ → RenewedIn l ch m (flagged_some l ch m flags (suc (7 * L)) 2) with_eps e n e₂
  eps_rediscretized {e₂} {n} k z u w =
      eps_both L flags z u (subst (λ (c : Choice). RenewedIn l c m (flagged_part l c m flags (suc (7 * L + 1))) with_eps e₁ n e₂) (sym k) w)

-- the parts behind the turned rows
module _ {l : FullLattice} {ch : Choice} {m : ℕ} (x : Fixed) (L : ℕ) (h : L < m) (flags : List ℕ) (none : NoVolumes l ch m flags) where
  volumes_one : (v : Five) → Renewed l ch m x (flagged_some l ch m flags (suc (7 * L + 4)) 1) v 0 v
  volumes_one v =
      some_one l ch m x flags (suc (7 * L + 4)) (suc (7 * L + 4)) v v 0 refl (rw (volume_off l m L flags ch none h) (renewed_empty l ch m x v))

  shares_two : {v u : Five} {n : ℕ} → Renewed l ch m x (flagged_part l ch m flags (suc (7 * L + 5))) v n u → Renewed l ch m x (flagged_some l ch m flags (suc (7 * L + 4)) 2) v n u
  shares_two {v} {u} {n} w =
      some_then l ch m x flags (suc (7 * L + 4)) (suc (7 * L + 5)) 1 1 2 v v u n (omega arith) refl (volumes_one v)
      (some_one l ch m x flags (suc (7 * L + 5)) (suc (7 * L + 5)) v u n refl w)

  pub shares_stop : {v u : Five} {n : ℕ} → (n ≡ 0 → ⊥) → Renewed l ch m x (flagged_part l ch m flags (suc (7 * L + 5))) v n u
      → Renewed l ch m x (flagged_some l ch m flags (suc (7 * L + 4)) 3) v n u
  shares_stop {v} {u} {n} z w = some_stop l ch m x flags (suc (7 * L + 4)) 2 1 3 v u n refl z (shares_two w)

  pub entries_three : {v t u : Five} {n : ℕ} → Renewed l ch m x (flagged_part l ch m flags (suc (7 * L + 5))) v 0 t → Renewed l ch m x (flagged_part l ch m flags (suc (7 * L + 6))) t n u
      → Renewed l ch m x (flagged_some l ch m flags (suc (7 * L + 4)) 3) v n u
  entries_three {v} {t} {u} {n} a b =
      some_then l ch m x flags (suc (7 * L + 4)) (suc (7 * L + 6)) 2 1 3 v t u n (omega arith) refl (shares_two a)
      (some_one l ch m x flags (suc (7 * L + 6)) (suc (7 * L + 6)) t u n refl b)

pub galerkin_three : {l : FullLattice} {m : ℕ} (x : Fixed) (L : ℕ) → L < m → (flags : List ℕ) → NoVolumes l Galerkin m flags → {e f t o c : List Float} {n : ℕ} {o' : List Float}
    → GalerkinRenewed l m x (flagged_part l Galerkin m flags (suc (7 * L + 6))) e f t o n o'
    → Renewed l Galerkin m x (flagged_some l Galerkin m flags (suc (7 * L + 4)) 3) (five e f t o c) n (five e f t o' c)
galerkin_three {l} {m} x L h flags none {e} {f} {t} {o} {c} u =
    entries_three x L h flags none (rw (share_off l m L flags) (renewed_empty l Galerkin m x (five e f t o c))) (u.each c)

module _ {l : FullLattice} {m : ℕ} (L : ℕ) (h : L < m) (flags : List ℕ) (none : NoVolumes l Rediscretized m flags) {ts tc : List ℕ} where
  pub scaled_stop : {e t o c : List Float} {n : ℕ} {c' : List Float} → (n ≡ 0 → ⊥) → SharesRenewed l m ts tc (flagged_part l Rediscretized m flags (suc (7 * L + 5))) t c n c'
      → ScaledRenewed l m ts tc (flagged_some l Rediscretized m flags (suc (7 * L + 4)) 3) e t o c n o c'
  scaled_stop {e} {t} {o} z u = record { each = λ fs fc os oc f. shares_stop (fixed fs fc ts tc os oc) L h flags none z (u.each fs fc os oc e f o) }

  pub scaled_both : {e t o c : List Float} {a n : ℕ} {o' c' : List Float} → a ≡ 0 → SharesRenewed l m ts tc (flagged_part l Rediscretized m flags (suc (7 * L + 5))) t c a c'
      → EntriesRenewed l Rediscretized m (flagged_part l Rediscretized m flags (suc (7 * L + 6))) e o n o'
      → ScaledRenewed l m ts tc (flagged_some l Rediscretized m flags (suc (7 * L + 4)) 3) e t o c n o' c'
  scaled_both {e} {t} {o} {c} {a} {n} {o'} {c'} z u w =
      record { each = λ fs fc os oc f. entries_three (fixed fs fc ts tc os oc) L h flags none (rw z at (u.each fs fc os oc e f o)) (w.each (fixed fs fc ts tc os oc) f t c') }

-- ---- a whole transfer

module _ {l : FullLattice} {ch : Choice} {m : ℕ} (x : Fixed) (L : ℕ) (flags : List ℕ) {e f t o c e' : List Float} where
  pub level_first : {n : ℕ} → (n ≡ 0 → ⊥) → RenewedIn l ch m (flagged_some l ch m flags (suc (7 * L)) 2) with_eps e n e'
      → Renewed l ch m x (flagged_some l ch m flags (suc (7 * L)) 7) (five e f t o c) n (five e' f t o c)
  level_first {n} z u = some_stop l ch m x flags (suc (7 * L)) 2 5 7 (five e f t o c) (five e' f t o c) n refl z (u.each x (five e f t o c))

  module _ {a : ℕ} (z : a ≡ 0) (u : RenewedIn l ch m (flagged_some l ch m flags (suc (7 * L)) 2) with_eps e a e') {f' t' : List Float} where
    four : {n : ℕ} → WeightsRenewed l ch m (flagged_some l ch m flags (suc (7 * L + 2)) 2) e' f t n f' t'
        → Renewed l ch m x (flagged_some l ch m flags (suc (7 * L)) 4) (five e f t o c) n (five e' f' t' o c)
    four {n} w =
        some_then l ch m x flags (suc (7 * L)) (suc (7 * L + 2)) 2 2 4 (five e f t o c) (five e' f t o c) (five e' f' t' o c) n (omega arith) refl (rw z at (u.each x (five e f t o c))) (w.each x o c)

    pub level_second : {n : ℕ} → (n ≡ 0 → ⊥) → WeightsRenewed l ch m (flagged_some l ch m flags (suc (7 * L + 2)) 2) e' f t n f' t'
        → Renewed l ch m x (flagged_some l ch m flags (suc (7 * L)) 7) (five e f t o c) n (five e' f' t' o c)
    level_second {n} y w = some_stop l ch m x flags (suc (7 * L)) 4 3 7 (five e f t o c) (five e' f' t' o c) n refl y (four w)

    pub level_third : {b n : ℕ} {u : Five} → b ≡ 0 → WeightsRenewed l ch m (flagged_some l ch m flags (suc (7 * L + 2)) 2) e' f t b f' t'
        → Renewed l ch m x (flagged_some l ch m flags (suc (7 * L + 4)) 3) (five e' f' t' o c) n u
        → Renewed l ch m x (flagged_some l ch m flags (suc (7 * L)) 7) (five e f t o c) n u
    level_third {b} {n} {u} k w y =
        some_then l ch m x flags (suc (7 * L)) (suc (7 * L + 4)) 4 3 7 (five e f t o c) (five e' f' t' o c) u n (omega arith) refl (rw k at (four w)) y

-- ---- all transfers

module _ {l : FullLattice} {ch : Choice} {m : ℕ} (x : Fixed) (flags : List ℕ) where
  -- level 0 is not the only one
  pub levels_none : 0 < m → {v : Five} → Renewed l ch m x (flagged_parts l ch m flags (suc (7 * 0))) v 0 v
  unfolding flagged_parts flagged_to part_size
  levels_none h {v} = go m h
    where
      go : (m : ℕ) → 0 < m → Renewed l ch m x ([] ++ flagged_to (part_row 0) flags (part_off l ch m 0) (sole_size l m)) v 0 v
      go zero h = absurd (omega arith)
      go (suc m) h = renewed_empty l ch (suc m) x v

  pub levels_next : (L : ℕ) {v t u : Five} {n : ℕ} → n ≡ 0 → Renewed l ch m x (flagged_parts l ch m flags (suc (7 * L))) v 0 t → Renewed l ch m x (flagged_some l ch m flags (suc (7 * L)) 7) t n u
      → Renewed l ch m x (flagged_parts l ch m flags (suc (7 * (L + 1)))) v 0 u
  levels_next L {v} {t} {u} {n} z a b = parts_then l ch m x flags (suc (7 * L)) 7 (suc (7 * (L + 1))) v t u 0 (omega arith) a (rw z at b)

  pub levels_stop : (L : ℕ) {v t u : Five} {n : ℕ} → L < m → (n ≡ 0 → ⊥) → Renewed l ch m x (flagged_parts l ch m flags (suc (7 * L))) v 0 t
      → Renewed l ch m x (flagged_some l ch m flags (suc (7 * L)) 7) t n u → Renewed l ch m x (flagged_parts l ch m flags (part_count m)) v n u
  levels_stop L {v} {t} {u} {n} h z a b =
      parts_stop l ch m x flags (suc (7 * L) + 7) (7 * m - 7 * L - 7) (part_count m) v u n (omega arith) z
      (parts_then l ch m x flags (suc (7 * L)) 7 (suc (7 * L) + 7) v t u n refl a b)

  pub levels_end : (L : ℕ) {v t : Five} → L ≤ m → m ≤ L → Renewed l ch m x (flagged_parts l ch m flags (suc (7 * L))) v 0 t → Renewed l ch m x (flagged_parts l ch m flags (part_count m)) v 0 t
  levels_end L h k a = let e : L ≡ m = omega arith in rw e at a

-- the only level
pub rows_sole : {l : FullLattice} {ch : Choice} {m : ℕ} (x : Fixed) (flags : List ℕ) → m ≡ 0 → {e f t o c : List Float} {n : ℕ} {o' : List Float}
    → EntriesRenewed l ch 0 (flagged_part l ch 0 flags 0) e o n o' → Renewed l ch m x (flagged_parts l ch m flags (part_count m)) (five e f t o c) n (five e f t o' c)
unfolding flagged_parts
rows_sole x flags z {e} {f} {t} {o} {c} u = rw z (u.each x f t c)

-- ---- room in lists as long

pub room_long : {l : FullLattice} {ch : Choice} {m : ℕ} {e f t o c e' f' t' o' c' : List Float} → FiveRoom l ch m (five e f t o c)
    → (length e' ≡ length e) × (length f' ≡ length f) × (length t' ≡ length t) × (length o' ≡ length o) × (length c' ≡ length c)
    → FiveRoom l ch m (five e' f' t' o' c')
room_long u z =
    record {
      e_room = rw z.0 u.e_room;
      f_room = rw z.1 u.f_room;
      t_room = rw z.2 u.t_room;
      o_room = rw z.3 u.o_room;
      c_room = rw z.4 u.c_room;
    }

-- ---- the standing of a transfer

module _ (l : FullLattice) (ch : Choice) (m : ℕ) where
  sole_none : 0 < m → part_off l ch m 1 ≡ 0
  unfolding part_size
  sole_none h = sum_to_suc (part_size l ch m) 0 ∙ go m h
    where
      go : (m : ℕ) → 0 < m → sum_to (part_size l ch m) 0 + sole_size l m ≡ 0
      go zero h = absurd (omega arith)
      go (suc m) h = omega (arith, sum_to_zero (part_size l ch (suc m)))

  pub standing_first : 0 < m → {o : Offsets} {n : ℕ} → o ≡ offsets_at l 0 → n ≡ eps_off l (suc m)
      → ◌≡◌ {A = Standing} (record { o = o; base = 0; from = 0; to = n; scale = 0; operator = record { s = 0; k = 0 } }) (standing_at l ch m 0)
  standing_first h {o} {n} r e =
      let p = operator_second l ch m h in
      let b : 0 ≡ part_off l ch m (suc (7 * 0)) = sym (sole_none h) in
      let a : n ≡ averaged_off l m 0 = omega (arith, e, sum_to_zero (next_edges l)) in
      let c : 0 ≡ scale_off l 0 = sym (sum_to_zero (scale_count l)) in
      λ i. record { o = r i; base = b i; from = 0; to = a i; scale = c i; operator = record { s = sym p.0 i; k = sym p.1 i } }

  module _ (L : ℕ) {w : Standing} (is : w ≡ standing_at l ch m L) {os : List ℕ} (starts : OperatorStarts l ch m (suc L) w.operator os)
      {n c d e : ℕ} (p : n ≡ edges_on l L) (q : c ≡ edges_on l (L + 1)) (x : d ≡ only_count ch n) (y : e ≡ only_count ch c)
      {o : Offsets} (r : o ≡ offsets_at l (suc L)) {b : Part} (t : b ≡ behind_of w.operator c os) where
    pub standing_next : ◌≡◌ {A = Standing}
        (record { o = o; base = w.base + (n + 3 * c + (d + 2 * e)); from = w.to; to = w.to + c; scale = w.scale + (n + c); operator = b })
        (standing_at l ch m (suc L))
    standing_next =
        let z : L + 1 ≡ suc L = omega arith in
        let q' : c ≡ edges_on l (suc L) = q ∙ ap (edges_on l) z in
        let x' : d ≡ only_count ch (edges_on l L) = x ∙ ap (only_count ch) p in
        let y' : e ≡ only_count ch (edges_on l (suc L)) = y ∙ ap (only_count ch) q' in
        let g : get_or os (w.operator.s + c) 0 ≡ operator_count l ch (suc L) = ap (λ (j : ℕ). get_or os (w.operator.s + j) 0) q' ∙ starts.starts_are (edges_on l (suc L)) (omega arith) in
        let a : w.base + (n + 3 * c + (d + 2 * e)) ≡ part_off l ch m (suc (7 * suc L)) = omega (arith, ap (λ (s : Standing). s.base) is, base_7 l ch m L) in
        let v : w.to + c ≡ averaged_off l m (suc L) = omega (arith, ap (λ (s : Standing). s.to) is, sum_to_suc (next_edges l) L) in
        let f : w.scale + (n + c) ≡ scale_off l (suc L) = omega (arith, ap (λ (s : Standing). s.scale) is, sum_to_suc (scale_count l) L) in
        let h : w.operator.s + c + 1 ≡ stored_starts l m (suc (suc L)) = omega (arith, ap (λ (s : Standing). s.operator.s) is, starts_later l ch m L) in
        let k : w.operator.k + get_or os (w.operator.s + c) 0 ≡ operator_off l ch m (suc (suc L)) = omega (arith, ap (λ (s : Standing). s.operator.k) is, terms_later l ch m L) in
        λ i. record { o = r i; base = a i; from = (is i).to; to = v i; scale = f i; operator = (t ∙ (λ j. record { s = h j; k = k j })) i }

-- ---- the rows of a transfer, from starts and columns that are the lattice's

pub turned_there : (l : FullLattice) (ch : Choice) (m : ℕ) (x : Fixed) → Shaped l ch m x → (L : ℕ) → L < m → {t : List Float} → 2 * turned_off l m ≤ length t → TurnedRows l L x.ts x.tc t
turned_there l ch m x shaped L low room =
    let v = five [] [] [] [] [] in
    record {
      rows = turned_rows l ch m x shaped v L low;
      starts_room = ts_fits l ch m x shaped v L low;
      columns_room = tc_fits l ch m x shaped v L low;
      values_room = omega (arith, room, part_room (turned_count l) L m low);
    }

pub starts_there : (l : FullLattice) (ch : Choice) (m : ℕ) (x : Fixed) → Shaped l ch m x → (L : ℕ) → L < m → {w : Standing} → w ≡ standing_at l ch m L
    → OperatorStarts l ch m (suc L) w.operator x.os
starts_there l ch m x shaped L low {w} is =
    subst (λ (z : Standing). OperatorStarts l ch m (suc L) z.operator x.os) (sym is) (operator_starts_are l ch m x shaped (five [] [] [] [] []) L low)

pub turned_long : {l : FullLattice} {L n : ℕ} {o : Offsets} {ss cs : List ℕ} {xs xs' : List Float} {ts us : List ℕ} → TurnedReady l L o n ss cs xs ts us → length xs' ≡ length xs
    → TurnedReady l L o n ss cs xs' ts us
turned_long u e =
    record { limits = u.limits; offsets = u.offsets; count = u.count; forward = u.forward; turned = u.turned; numbers_room = rw e u.numbers_room }

pub weight_long : {l : FullLattice} {ch : Choice} {m : ℕ} {e f t o c e' : List Float} → FiveRoom l ch m (five e f t o c) → length e' ≡ length e → WeightRoom l ch m e' f t
weight_long u z = record { e_room = rw z u.e_room; f_room = u.f_room; t_room = u.t_room }

-- ---- the flags of the parts of a transfer

module _ (l : FullLattice) (limits : Limits l.grid) (ch : Choice) (m L : ℕ) (deep : (L < m) × (m ≤ 11)) {w : Standing} (is : w ≡ standing_at l ch m L)
    (flags : List ℕ) (room : part_off l ch m (part_count m) ≤ 64 * length flags) where
  base_is : w.base ≡ part_off l ch m (suc (7 * L))
  base_is = ap (λ (s : Standing). s.base) is

  at : (k : ℕ) → k < 7 → {base : ℕ} → base ≡ part_off l ch m (suc (7 * L + k)) → PartFlags l ch m (suc (7 * L + k)) base flags
  at k h {base} e = part_flags l limits ch m deep.1 (suc (7 * L + k)) base flags (omega (arith, deep.0)) room e

  pub flags_0 : PartFlags l ch m (suc (7 * L + 0)) w.base flags
  flags_0 = at 0 (omega arith) (base_is ∙ sym (base_0 l ch m L))

  module _ {n c : ℕ} (p : n ≡ edges_on l L) (q : c ≡ edges_on l (L + 1)) where
    q' : c ≡ edges_on l (suc L)
    q' = edges_next l L q

    pub flags_2 : {d : ℕ} → d ≡ only_count ch c → PartFlags l ch m (suc (7 * L + 2)) (w.base + (c + d)) flags
    flags_2 e = at 2 (omega arith) (omega (arith, base_is, base_2 l ch m L, q', e ∙ ap (only_count ch) q'))

    pub flags_3 : {d : ℕ} → d ≡ only_count ch c → PartFlags l ch m (suc (7 * L + 3)) (w.base + (c + d) + n) flags
    flags_3 e = at 3 (omega arith) (omega (arith, base_is, base_3 l ch m L, p, q', e ∙ ap (only_count ch) q'))

    -- the numbers that the code adds are small
    pub base_small : (w.base ≤ 2 ^ 32) × (n ≤ 12288) × (c ≤ 12288)
    base_small = (flags_0.low, omega (arith, p, edges_few l limits L), omega (arith, q', edges_few l limits (suc L)))

pub only_small : (ch : Choice) {n d : ℕ} → n ≤ 12288 → d ≡ only_count ch n → d ≤ 12288
only_small Galerkin h e = omega (arith, e)
only_small Rediscretized h e = omega (arith, e)

module _ (l : FullLattice) (limits : Limits l.grid) (m L : ℕ) (deep : (L < m) × (m ≤ 11)) {w : Standing} where
  -- of a rediscretized store
  module _ (is : w ≡ standing_at l Rediscretized m L) (flags : List ℕ) (room : part_off l Rediscretized m (part_count m) ≤ 64 * length flags) {c : ℕ} (q : c ≡ edges_on l (L + 1)) where
    pub flags_1 : PartFlags l Rediscretized m (suc (7 * L + 1)) (w.base + c) flags
    flags_1 = at l limits Rediscretized m L deep is flags room 1 (omega arith) (omega (arith, base_is l limits Rediscretized m L deep is flags room, base_1 l Rediscretized m L, edges_next l L q))

    module _ {n : ℕ} (p : n ≡ edges_on l L) where
      pub flags_5 : PartFlags l Rediscretized m (suc (7 * L + 5)) (w.base + (2 * n + 3 * c)) flags
      flags_5 =
          at l limits Rediscretized m L deep is flags room 5 (omega arith)
          (omega (arith, base_is l limits Rediscretized m L deep is flags room, base_5r l m L, p, edges_next l L q))

      pub flags_6 : PartFlags l Rediscretized m (suc (7 * L + 6)) (w.base + (2 * n + 3 * c) + c) flags
      flags_6 =
          at l limits Rediscretized m L deep is flags room 6 (omega arith)
          (omega (arith, base_is l limits Rediscretized m L deep is flags room, base_6r l m L, p, edges_next l L q))

  -- of a Galerkin one
  pub flags_6g : w ≡ standing_at l Galerkin m L → (flags : List ℕ) → part_off l Galerkin m (part_count m) ≤ 64 * length flags → {n c : ℕ} → n ≡ edges_on l L → c ≡ edges_on l (L + 1)
      → PartFlags l Galerkin m (suc (7 * L + 6)) (w.base + (n + 2 * c)) flags
  flags_6g is flags room p q =
      at l limits Galerkin m L deep is flags room 6 (omega arith)
      (omega (arith, base_is l limits Galerkin m L deep is flags room, base_6g l m L, p, edges_next l L q))

-- what the next standing adds is small
module _ (l : FullLattice) (limits : Limits l.grid) (ch : Choice) (m L : ℕ) (deep : (L < m) × (m ≤ 11)) {w : Standing} (is : w ≡ standing_at l ch m L)
    {os : List ℕ} (starts : OperatorStarts l ch m (suc L) w.operator os) {n c : ℕ} (p : n ≡ edges_on l L) (q : c ≡ edges_on l (L + 1)) where
  pub edges_small : (n ≤ 12288) × (c ≤ 12288)
  edges_small = (omega (arith, p, edges_few l limits L), omega (arith, edges_next l L q, edges_few l limits (suc L)))

  pub place_small : (w.base ≤ 2 ^ 32) × (w.to ≤ 2 ^ 32) × (w.scale ≤ 2 ^ 32)
  place_small = (
    omega (arith, ap (λ (s : Standing). s.base) is, base_few),
    omega (arith, ap (λ (s : Standing). s.to) is, averaged_low l limits m L deep.1 (omega (arith, deep.0, deep.1))),
    omega (arith, ap (λ (s : Standing). s.scale) is, scale_low l limits L (omega (arith, deep.0, deep.1))),
  )
    where
      base_few : part_off l ch m (suc (7 * L)) ≤ 12288 * suc (7 * L)
      base_few = sum_most (part_size l ch m) 12288 (suc (7 * L)) (λ i b. size_few l limits ch m i)

  pub starts_small : (w.operator.s + c < length os) × (w.operator.s + c ≤ 2 ^ 33) × (w.operator.k + get_or os (w.operator.s + c) 0 ≤ 2 ^ 33)
  starts_small =
      let z = edges_next l L q in
      let g : get_or os (w.operator.s + c) 0 ≡ operator_count l ch (suc L) = ap (λ (j : ℕ). get_or os (w.operator.s + j) 0) z ∙ starts.starts_are (edges_on l (suc L)) (omega arith) in (
        omega (arith, z, starts.starts_room),
        omega (arith, z, starts.starts_low, edges_few l limits (suc L)),
        omega (arith, g, starts.low, starts.few),
      )

-- ---- what the groups of parts ask for, by the choice

pub averaged_ready : (l : FullLattice) → Limits l.grid → (ch : Choice) (m L : ℕ) → (L < m) × (m ≤ 11) → {w : Standing} → w ≡ standing_at l ch m L → (flags : List ℕ)
    → part_off l ch m (part_count m) ≤ 64 * length flags → ch ≡ Rediscretized → {c : ℕ} → c ≡ edges_on l (L + 1) → (n : ℕ) → 2 * eps_need l ch m ≤ n
    → ((w.from ≡ averaged_from l m L) × (w.to ≡ averaged_off l m L)) × ((PartFlags l Rediscretized m (suc (7 * L + 1)) (w.base + c) flags) × (2 * averaged_off l m m ≤ n))
averaged_ready l limits ch m L deep {w} is flags room k q n h = (
  (ap (λ (s : Standing). s.from) is, ap (λ (s : Standing). s.to) is),
  (
    flags_1 l limits m L deep (subst (λ (c : Choice). w ≡ standing_at l c m L) k is) flags (subst (λ (c : Choice). part_off l c m (part_count m) ≤ 64 * length flags) k room) q,
    subst (λ (c : Choice). 2 * eps_need l c m ≤ n) k h,
  ),
)

module _ (l : FullLattice) (ch : Choice) (m : ℕ) (x : Fixed) (shaped : Shaped l ch m x) (L : ℕ) (low : L < m) {o : Offsets} {fine : FineRows} {w : Standing}
    (at : (o ≡ offsets_at l L) × (fine ≡ fine_of l ch m L) × (w ≡ standing_at l ch m L)) (flags : List ℕ)
    (given : (part_off l ch m (part_count m) ≤ 64 * length flags) × (NoVolumes l ch m flags)) {e f t v c : List Float} (room : FiveRoom l ch m (five e f t v c)) where
  abbrev deep : (L < m) × (m ≤ 11)
  deep = (low, shaped.few)

  galerkin_room : FiveRoom l Galerkin m (five e f t v c) → FiveRoom l Galerkin m (five e f t v [])
  galerkin_room u = record { e_room = u.e_room; f_room = u.f_room; t_room = u.t_room; o_room = u.o_room; c_room = omega arith }

  pub galerkin_ready : ch ≡ Galerkin → {n k : ℕ} → n ≡ edges_on l L → k ≡ edges_on l (L + 1)
      → (Shaped l Galerkin m x)
      × ((FiveRoom l Galerkin m (five e f t v []))
      × (((o ≡ offsets_at l L) × (fine ≡ fine_of l Galerkin m L) × (◌≡◌ {A = Part} w.operator (operator_part l Galerkin m (suc L))))
      × (PartFlags l Galerkin m (suc (7 * L + 6)) (w.base + (n + 2 * k)) flags)))
  galerkin_ready z p q =
      let is = subst (λ (c : Choice). w ≡ standing_at l c m L) z at.2 in (
        subst (λ (c : Choice). Shaped l c m x) z shaped,
        (
          galerkin_room (subst (λ (ch : Choice). FiveRoom l ch m (five e f t v c)) z room),
          (
            (at.0, subst (λ (c : Choice). fine ≡ fine_of l c m L) z at.1, ap (λ (s : Standing). s.operator) is),
            flags_6g l shaped.limits m L deep is flags (subst (λ (c : Choice). part_off l c m (part_count m) ≤ 64 * length flags) z given.0) p q,
          ),
        ),
      )

  pub scaled_ready : ch ≡ Rediscretized
      → ((o ≡ offsets_at l L) × (w ≡ standing_at l Rediscretized m L))
      × (((part_off l Rediscretized m (part_count m) ≤ 64 * length flags) × (NoVolumes l Rediscretized m flags))
      × (((TurnedRows l L x.ts x.tc t) × (OperatorStarts l Rediscretized m (suc L) w.operator x.os))
      × ((2 * averaged_off l m m ≤ length e) × (2 * operator_off l Rediscretized m (suc m) ≤ length v) × (2 * scale_off l m ≤ length c))))
  scaled_ready z =
      let is = subst (λ (c : Choice). w ≡ standing_at l c m L) z at.2 in
      let u = subst (λ (ch : Choice). FiveRoom l ch m (five e f t v c)) z room in (
        (at.0, is),
        (
          (subst (λ (c : Choice). part_off l c m (part_count m) ≤ 64 * length flags) z given.0, subst (λ (c : Choice). NoVolumes l c m flags) z given.1),
          (
            (turned_there l ch m x shaped L low room.t_room, starts_there l Rediscretized m x (subst (λ (c : Choice). Shaped l c m x) z shaped) L low is),
            (u.e_room, u.o_room, u.c_room),
          ),
        ),
      )

  pub parts_galerkin : ch ≡ Galerkin → {n : ℕ} {v' : List Float} → GalerkinRenewed l m x (flagged_part l Galerkin m flags (suc (7 * L + 6))) e f t v n v'
      → Renewed l ch m x (flagged_some l ch m flags (suc (7 * L + 4)) 3) (five e f t v c) n (five e f t v' c)
  parts_galerkin z {n} {v'} u =
      subst (λ (ch : Choice). Renewed l ch m x (flagged_some l ch m flags (suc (7 * L + 4)) 3) (five e f t v c) n (five e f t v' c)) (sym z)
      (galerkin_three x L low flags (subst (λ (c : Choice). NoVolumes l c m flags) z given.1) u)

  pub parts_scaled : ch ≡ Rediscretized → {n : ℕ} {v' c' : List Float} → ScaledRenewed l m x.ts x.tc (flagged_some l Rediscretized m flags (suc (7 * L + 4)) 3) e t v c n v' c'
      → Renewed l ch m x (flagged_some l ch m flags (suc (7 * L + 4)) 3) (five e f t v c) n (five e f t v' c')
  parts_scaled z {n} {v'} {c'} u =
      subst (λ (ch : Choice). Renewed l ch m x (flagged_some l ch m flags (suc (7 * L + 4)) 3) (five e f t v c) n (five e f t v' c')) (sym z)
      (u.each x.fs x.fc x.os x.oc f)

-- ---- the next transfer

pub forward_count_lem : {l : FullLattice} {ch : Choice} {m : ℕ} {x : Fixed} → Shaped l ch m x → {L : ℕ} → L < m → {o : Offsets} → o ≡ offsets_at l L
    → (o.s + edges_on l L < length x.fs) × (get_or x.fs (o.s + edges_on l L) 0 ≡ forward_count l L)
forward_count_lem {l} {ch} {m} {x} shaped {L} low {o} is =
    let z = ap (λ (o : Offsets). o.s) is in
    let v = five [] [] [] [] [] in (
      omega (arith, z, fs_fits l ch m x shaped v L low),
      ap (λ (j : ℕ). get_or x.fs (j + edges_on l L) 0) z ∙ (forward_rows_lem l ch m x shaped v L low).starts_are (edges_on l L) (omega arith),
    )

pub fine_next : (l : FullLattice) (ch : Choice) (m L : ℕ) {w : Standing} → w ≡ standing_at l ch m L → ◌≡◌ {A = FineRows} (StoredFrom w.operator) (fine_of l ch m (L + 1))
fine_next l ch m L is = let z : L + 1 ≡ suc L = omega arith in rw z (ap (λ (s : Standing). StoredFrom s.operator) is)

-- ---- the only level

pub sole_asked : (l : FullLattice) (ch : Choice) (m : ℕ) (x : Fixed) → Shaped l ch m x → {e f t v c : List Float} → FiveRoom l ch m (five e f t v c) → (flags : List ℕ)
    → part_off l ch m (part_count m) ≤ 64 * length flags → m ≡ 0
    → Limits l.grid
    × ((2 * edges_on l 0 ≤ length e)
    × ((OperatorStarts l ch 0 0 (operator_part l ch 0 0) x.os) × ((2 * operator_off l ch 0 1 ≤ length v) × (PartFlags l ch 0 0 0 flags))))
sole_asked l ch m x shaped {e} {f} {t} {v} {c} room flags h z =
    let w = subst (λ (m : ℕ). Shaped l ch m x) z shaped in
    let u = subst (λ (m : ℕ). FiveRoom l ch m (five e f t v c)) z room in
    let r = (w.structured (five [] [] [] [] [])).operator_are 0 (omega arith) (omega arith) in
    let small = operator_small l w.limits 0 (omega arith) ch 0 (omega arith) in
    let g : stored_starts l 0 1 ≡ edges_on l 0 + 1 = sum_to_suc (stored_rows l 0) 0 ∙ omega (arith, sum_to_zero (stored_rows l 0)) in (
      w.limits,
      (
        omega (arith, chain_first l ch, u.e_room),
        (
          record {
            part_is = refl;
            starts_low = small.starts_low;
            low = small.low;
            few = small.all_few;
            starts_room = omega (arith, sum_to_zero (stored_rows l 0), g, w.room.os_room);
            starts_are = r.starts_are;
          },
          (u.o_room, part_flags l w.limits ch 0 (omega arith) 0 0 flags (omega arith) (subst (λ (m : ℕ). part_off l ch m (part_count m) ≤ 64 * length flags) z h) (sym (sum_to_zero (part_size l ch 0)))),
        ),
      ),
    )
  where
    chain_first : (l : FullLattice) (ch : Choice) → edges_on l 0 ≤ eps_need l ch 0
    chain_first l Galerkin = omega (arith, part_room (edges_on l) 0 1 (omega arith))
    chain_first l Rediscretized = omega (arith, part_room (edges_on l) 0 1 (omega arith), sum_to_zero (next_edges l))
