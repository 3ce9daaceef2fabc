-- `store::setup::levels_structure` meets its contract.
-- Assumes nothing.
use mathlib.Core.Path.{refl}
use native.Mathlib.Omega.{arith}
use Rattle.store.proofs.ShortLaws.{short_is}
use Rattle.store.proofs.SettleLaws.{structure_short, structure_levels}
use Rattle.store.proofs.setup.levels_structure.Goals as goal

pub returns-in-Some : goal.returns-in-Some
returns-in-Some c =
    structure_short _ c.args.h.now.l.limits _ (short_is _ c.args.h.now.l.limits _ _ _ c.count.ensures c.in-Some.ensures.value) (λ z. omega (arith, c.in-Some.ensures.within))

pub returns : goal.returns
returns c = structure_levels _ c.args.h.now.l.limits _ (short_is _ c.args.h.now.l.limits _ _ _ c.count.ensures c.in_default.ensures.value) refl
