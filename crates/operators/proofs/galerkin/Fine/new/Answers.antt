use Rattle.operators.proofs.ComputedLaws.{made_computed, made_stored}
use Rattle.operators.proofs.galerkin.Fine.new.Goals as goal

pub returns-in-Computed : goal.returns-in-Computed
returns-in-Computed c = made_computed _ _ _ _ _ _ c.in-Computed.is

pub returns-in-Stored : goal.returns-in-Stored
returns-in-Stored c = made_stored _ _ _ _ _ c.in-Stored.is
