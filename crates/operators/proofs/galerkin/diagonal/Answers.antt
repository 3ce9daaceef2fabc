-- `operators::galerkin::diagonal` meets its contract.
-- Assumes nothing.
use Rattle.operators.proofs.GalerkinLaws.{one_set, one_left}
use Rattle.operators.proofs.galerkin.diagonal.Goals as goal

pub returns-then-tstarts-ts : goal.returns-then-tstarts-ts
returns-then-tstarts-ts c = one_set _ _ _ _ c.if-tstarts-ts.true c.one.ensures c.put.ensures

pub returns-else-tstarts-ts : goal.returns-else-tstarts-ts
returns-else-tstarts-ts c = one_left _ _ _ _ c.if-tstarts-ts.false
