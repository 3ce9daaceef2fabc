-- `operators::base::related` meets its contract.
-- Assumes nothing.
use mathlib.Core.Path.{◌≡◌, refl, ◌∙◌}
use mathlib.Core.Bool.{◌&&◌}
use native.Mathlib.Omega.{arith}
use borrow.Author.Tests.{eq-eqb, ne_eqb}
use Rattle.lattice.proofs.NeighbourLaws.{or_first, or_next}
use Rattle.operators.specs.Base.{live_at}
use Rattle.operators.specs.Pattern.{role_of}
use lib.Dec.{eqb}
use Rattle.operators.proofs.BaseLaws.{same_related, near_related, up_related, down_related}
use Rattle.numbers.proofs.StartLaws.{and_first, and_next}
use Rattle.operators.proofs.base.related.Goals.{then-live-2, else-live-2}
use Rattle.operators.proofs.base.related.Goals as goal

pub returns-then-live : goal.returns-then-live
returns-then-live c = and_next _ _ c.if-live.true c.live.ensures refl ∙ same_related _ _ _ _ _ c.if-w-lt2.true

pub returns-else-live : goal.returns-else-live
returns-else-live c = and_first _ _ c.if-live.false c.live.ensures ∙ same_related _ _ _ _ _ c.if-w-lt2.true

pub returns-then-here : goal.returns-then-here
returns-then-here c =
    let lives : c.if-live-2.value
    ≡ (live_at c.args.bloch (role_of (eqb c.args.w 2)) c.args.i
    && live_at c.args.bloch (role_of (eqb c.args.w 2)) c.args.j) =
    elim c.if-live-2.branch [ then-live-2 w ↦ and_next _ _ w.if-live-2.true c.live-then-w-lt4.ensures (w.value-is ∙ w.live-then-live-2.ensures) | else-live-2 w ↦ and_first _ _ (w.value-is ∙ w.if-live-2.false) (w.value-is ∙ c.live-then-w-lt4.ensures) ] in
    and_next _ _ c.if-live-3.true lives (or_first _ _ (eq-eqb _ _ c.if-here.true) refl) ∙ near_related _ _ _ _ _ c.if-w-lt2.false c.if-w-lt4.true

pub returns-then-up : goal.returns-then-up
returns-then-up c =
    let lives : c.if-live-2.value
    ≡ (live_at c.args.bloch (role_of (eqb c.args.w 2)) c.args.i
    && live_at c.args.bloch (role_of (eqb c.args.w 2)) c.args.j) =
    elim c.if-live-2.branch [ then-live-2 w ↦ and_next _ _ w.if-live-2.true c.live-then-w-lt4.ensures (w.value-is ∙ w.live-then-live-2.ensures) | else-live-2 w ↦ and_first _ _ (w.value-is ∙ w.if-live-2.false) (w.value-is ∙ c.live-then-w-lt4.ensures) ] in
    and_next _ _ c.if-live-3.true lives (or_next _ _ (ne_eqb _ _ c.if-here.false) refl (or_first _ _ c.if-up.true c.follows-up.ensures)) ∙ near_related _ _ _ _ _ c.if-w-lt2.false c.if-w-lt4.true

pub returns-else-up : goal.returns-else-up
returns-else-up c =
    let lives : c.if-live-2.value
    ≡ (live_at c.args.bloch (role_of (eqb c.args.w 2)) c.args.i
    && live_at c.args.bloch (role_of (eqb c.args.w 2)) c.args.j) =
    elim c.if-live-2.branch [ then-live-2 w ↦ and_next _ _ w.if-live-2.true c.live-then-w-lt4.ensures (w.value-is ∙ w.live-then-live-2.ensures) | else-live-2 w ↦ and_first _ _ (w.value-is ∙ w.if-live-2.false) (w.value-is ∙ c.live-then-w-lt4.ensures) ] in
    and_next _ _ c.if-live-3.true lives (or_next _ _ (ne_eqb _ _ c.if-here.false) refl (or_next _ _ c.if-up.false c.follows-up.ensures c.follows-down.ensures)) ∙ near_related _ _ _ _ _ c.if-w-lt2.false c.if-w-lt4.true

pub returns-else-live-3 : goal.returns-else-live-3
returns-else-live-3 c =
    let lives : c.if-live-2.value
    ≡ (live_at c.args.bloch (role_of (eqb c.args.w 2)) c.args.i
    && live_at c.args.bloch (role_of (eqb c.args.w 2)) c.args.j) =
    elim c.if-live-2.branch [ then-live-2 w ↦ and_next _ _ w.if-live-2.true c.live-then-w-lt4.ensures (w.value-is ∙ w.live-then-live-2.ensures) | else-live-2 w ↦ and_first _ _ (w.value-is ∙ w.if-live-2.false) (w.value-is ∙ c.live-then-w-lt4.ensures) ] in
    and_first _ _ c.if-live-3.false lives ∙ near_related _ _ _ _ _ c.if-w-lt2.false c.if-w-lt4.true

pub returns-then-here-2 : goal.returns-then-here-2
returns-then-here-2 c = and_next _ _ c.if-live-4.true c.live-then-w-eq4.ensures (or_first _ _ (eq-eqb _ _ c.if-here-2.true) refl) ∙ up_related _ _ _ _ _ c.if-w-eq4.true

pub returns-else-here-2 : goal.returns-else-here-2
returns-else-here-2 c =
    and_next _ _ c.if-live-4.true c.live-then-w-eq4.ensures (or_next _ _ (ne_eqb _ _ c.if-here-2.false) refl c.follows-up.ensures) ∙ up_related _ _ _ _ _ c.if-w-eq4.true

pub returns-else-live-4 : goal.returns-else-live-4
returns-else-live-4 c = and_first _ _ c.if-live-4.false c.live-then-w-eq4.ensures ∙ up_related _ _ _ _ _ c.if-w-eq4.true

pub returns-then-here-3 : goal.returns-then-here-3
returns-then-here-3 c = and_next _ _ c.if-live-5.true c.live-2.ensures (or_first _ _ (eq-eqb _ _ c.if-here-3.true) refl) ∙ down_related _ _ c.args.w _ _ (omega arith)

pub returns-else-here-3 : goal.returns-else-here-3
returns-else-here-3 c =
    and_next _ _ c.if-live-5.true c.live-2.ensures (or_next _ _ (ne_eqb _ _ c.if-here-3.false) refl c.follows-down.ensures) ∙ down_related _ _ c.args.w _ _ (omega arith)

pub returns-else-live-5 : goal.returns-else-live-5
returns-else-live-5 c = and_first _ _ c.if-live-5.false c.live-2.ensures ∙ down_related _ _ c.args.w _ _ (omega arith)
