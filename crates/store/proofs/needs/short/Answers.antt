-- `store::needs::short` meets its contract.
-- Assumes nothing.
use Prim.Native.Nat.{◌/◌}
use mathlib.Core.Path.{◌∙◌}
use lib.Dec.{leb}
use Rattle.store.specs.FillSteps.{first_short}
use Rattle.store.proofs.ShortLaws.{short_found}
use Rattle.store.proofs.needs.short.Goals as goal

pub returns-clause-value : goal.returns-clause-value
returns-clause-value c =
    let n = c.args.n in
    let h = c.args.h in
    rw c.first_short.ensures.value
    (short_found (leb n.ends h.ends) (leb n.eps (h.eps / 2)) c.has_room-c.result c.has_room-d.result c.has_room-e.result (leb n.scaling (h.scaling / 2))
    ∙ (λ i. first_short (leb n.ends h.ends) (leb n.eps (h.eps / 2)) (c.has_room-c.ensures i) (c.has_room-d.ensures i) (c.has_room-e.ensures i) (leb n.scaling (h.scaling / 2))))
