-- `operators::base::follows` meets its contract.
-- Assumes nothing.
use Prim.Native.Nat.{◌+◌}
use mathlib.Core.Path.{◌≡◌, refl, ◌∙◌}
use mathlib.Core.Bool.{◌&&◌}
use borrow.Author.Tests.{eq-eqb, ne_eqb}
use lib.Dec.{eqb, ltb}
use Rattle.lattice.proofs.NeighbourLaws.{or_first, or_next}
use Rattle.operators.specs.Base.{follows}
use Rattle.numbers.proofs.StartLaws.{and_first, and_next}
use Rattle.operators.proofs.base.follows.Goals.{then-j-i, else-j-i, then-bloch, else-bloch}
use Rattle.operators.proofs.base.follows.Goals as goal

pub returns-then-near : goal.returns-then-near
unfolding follows
returns-then-near c =
    let near-flag : c.if-j-i.near ≡ (eqb c.args.j (c.args.i + 1) && ltb (c.args.i + 1) c.args.n) =
    elim c.if-j-i.branch [ then-j-i w ↦ and_next _ _ (eq-eqb _ _ w.if-j-i.true) refl w.near-is | else-j-i w ↦ and_first _ _ (w.near-is ∙ ne_eqb _ _ w.if-j-i.false) w.near-is ] in
    or_first _ _ c.if-near.true near-flag

pub returns-then-i-n : goal.returns-then-i-n
unfolding follows
returns-then-i-n c =
    let near-flag : c.if-j-i.near ≡ (eqb c.args.j (c.args.i + 1) && ltb (c.args.i + 1) c.args.n) =
    elim c.if-j-i.branch [ then-j-i w ↦ and_next _ _ (eq-eqb _ _ w.if-j-i.true) refl w.near-is | else-j-i w ↦ and_first _ _ (w.near-is ∙ ne_eqb _ _ w.if-j-i.false) w.near-is ] in
    let wrapped-flag : c.if-bloch.value ≡ (c.args.bloch && eqb (c.args.i + 1) c.args.n) =
    elim c.if-bloch.branch [ then-bloch w ↦ and_next _ _ w.if-bloch.true refl w.value-is | else-bloch w ↦ and_first _ _ (w.value-is ∙ w.if-bloch.false) w.value-is ] in
    or_next _ _ c.if-near.false near-flag (and_next _ _ c.if-i-n.true wrapped-flag refl)

pub returns-else-i-n : goal.returns-else-i-n
unfolding follows
returns-else-i-n c =
    let near-flag : c.if-j-i.near ≡ (eqb c.args.j (c.args.i + 1) && ltb (c.args.i + 1) c.args.n) =
    elim c.if-j-i.branch [ then-j-i w ↦ and_next _ _ (eq-eqb _ _ w.if-j-i.true) refl w.near-is | else-j-i w ↦ and_first _ _ (w.near-is ∙ ne_eqb _ _ w.if-j-i.false) w.near-is ] in
    let wrapped-flag : c.if-bloch.value ≡ (c.args.bloch && eqb (c.args.i + 1) c.args.n) =
    elim c.if-bloch.branch [ then-bloch w ↦ and_next _ _ w.if-bloch.true refl w.value-is | else-bloch w ↦ and_first _ _ (w.value-is ∙ w.if-bloch.false) w.value-is ] in
    or_next _ _ c.if-near.false near-flag (and_first _ _ c.if-i-n.false wrapped-flag)
