-- Inverse shares worked out anew where they are flagged.
-- Assumes nothing.
use Prim.Native.Nat.{ℕ, suc, ◌+◌, ◌*◌, ◌≤◌, ◌<◌, ◌^◌}
use mathlib.Core.Path.{◌≡◌, ap, ◌∙◌}
use mathlib.Core.List.{List, [], ◌∷◌}
use mathlib.Core.Bool.{Bool}
use native.Mathlib.Omega.{arith}
use lib.ListN.{length}
use lib.Ieee.{Float}
use Rattle.numbers.specs.declared.C64.{C64}
use Rattle.numbers.specs.declared.terms.Part.{Part}
use Rattle.numbers.specs.Places.{set_number}
use Rattle.numbers.specs.Lists.{laid_numbers, all_finite, read_from}
use Rattle.numbers.specs.Terms.{Term, Stored}
use Rattle.lattice.specs.Grid.{Limits}
use Rattle.lattice.specs.Lattice.{FullLattice}
use Rattle.operators.specs.Galerkin.{rows_in}
use Rattle.operators.specs.LevelLists.{edges_on}
use Rattle.operators.specs.Volumes.{inverse_share, share_finite}
use Rattle.operators.proofs.ShareFine.{share_fine}
use Rattle.store.specs.Layout.{turned_cols, scale_count, scale_off}
use Rattle.store.specs.Phases.{turned_part}
use Rattle.store.specs.Rows.{share, from}
use Rattle.store.specs.Renewed.{fixed, five, store_of}
use Rattle.store.specs.RenewSteps.{TurnedRows, SharePlaces, ShareMade}
use Rattle.store.specs.declared.Choice.TheVariants.{Rediscretized}
use Rattle.store.proofs.RangeLaws.{ranges}
use Rattle.store.proofs.FoundLaws.{rows_stored, share_found}
use Rattle.store.proofs.SmallLaws.{turned_small}
use Rattle.store.proofs.ScalingLaws.{scale_low}
use Rattle.numbers.proofs.PartLaws.{part_room}
use Rattle.store.proofs.FlaggedLaws.{number_laid, number_finite, row_renewed}

-- ---- one share

module _ {l : FullLattice} (limits : Limits l.grid) {m L : ℕ} (deep : (L < m) × (m ≤ 11)) {ts tc : List ℕ} {tv : List Float} (rows : TurnedRows l L ts tc tv)
    {t : Part} {k n c : ℕ} (at : SharePlaces l L t k n c) where
  share_stored : Stored ts t.s tc tv t.k c n
  share_stored =
      rw (at.turned_is, at.coarse_is, at.fine_is)
      (rows_stored (turned_cols l L) (edges_on l (suc L)) (turned_part l L) ts tc rows.rows tv (edges_on l L) (λ q d b i. (ranges l limits).turned_low L q d i)
      rows.starts_room rows.columns_room rows.values_room (turned_small l limits m deep.1 L deep.0))

  pub place_low : k + n ≤ 2 ^ 32
  place_low = omega (arith, at.place_is, at.fine_is, share_stored.columns_few, scale_low l limits L (omega (arith, deep.0, deep.1)))

  pub share_room : (sc : List Float) → 2 * scale_off l m ≤ length sc → 2 * (k + n + c) ≤ length sc
  share_room sc room = omega (arith, at.place_is, at.fine_is, at.coarse_is, part_room (scale_count l) L m deep.0)

  pub share_asked : (sc : List Float) → 2 * scale_off l m ≤ length sc → (i : ℕ) → i < c
      → (Stored ts t.s tc tv t.k c n) × ((i < c) × (k ≤ 2 ^ 32) × (k + n ≤ k + n) × (2 * (k + n + c) ≤ length sc))
  share_asked sc room i h = (share_stored, (h, omega (arith, place_low), omega arith, share_room sc room))

  module _ (i : ℕ) {sc : List Float} where
    pub share_made : 2 * scale_off l m ≤ length sc → i < c → {ok : Bool} {sc' : List Float}
        → (sc' ≡ set_number sc (k + n + i) (inverse_share (rows_in t ts tc tv) (read_from sc k) i)) × (ok ≡ share_finite (rows_in t ts tc tv) (read_from sc k) i)
        → ShareMade l m ts tc (share L i) tv sc ok sc'
    share_made room low {ok} {sc'} d =
        let R : ℕ → List Term = rows_in (turned_part l L) ts tc tv in
        let v : ℕ → C64 = read_from sc (scale_off l L) in
        let y : C64 = inverse_share R v i in
        let p : k + n + i ≡ from l Rediscretized m (share L i) = omega (arith, at.place_is, at.fine_is) in
        let w : sc' ≡ laid_numbers sc (from l Rediscretized m (share L i)) (y ∷ []) =
        d.0 ∙ (λ j. set_number sc (p j) (inverse_share (rows_in (at.turned_is j) ts tc tv) (read_from sc (at.place_is j)) i)) ∙ number_laid sc (from l Rediscretized m (share L i)) y in
        let g : ok ≡ all_finite (y ∷ []) =
        d.1 ∙ (λ j. share_finite (rows_in (at.turned_is j) ts tc tv) (read_from sc (at.place_is j)) i) ∙ share_fine R v i ∙ number_finite y in
        record {
          each = λ fs fc os oc e₁ f o.
              row_renewed l Rediscretized m (fixed fs fc ts tc os oc) (share L i) (five e₁ f tv o sc) (five e₁ f tv o sc') ok (y ∷ [])
              (λ ends u. share_found l Rediscretized m (store_of ends (fixed fs fc ts tc os oc) (five e₁ f tv o sc)) u L i deep.0 (omega (arith, at.coarse_is)))
              (λ ends. ap (λ (ys : List Float). store_of ends (fixed fs fc ts tc os oc) (five e₁ f tv o ys)) w)
              (λ ends. omega (arith, share_room sc room, p))
              g;
        }
