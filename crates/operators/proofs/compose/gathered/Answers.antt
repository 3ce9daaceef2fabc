use mathlib.Core.Path.{refl}
use Rattle.operators.proofs.WordLaws.{gathered_none, gathered_turn}
use Rattle.operators.proofs.compose.gathered.Goals as goal

pub loop-k-init : goal.loop-k-init
loop-k-init g c = λ q d. gathered_none q _

pub loop-k-preserved : goal.loop-k-preserved
loop-k-preserved g c = λ q d. gathered_turn q _ (c.loop-k.invariant q d) (d _ _ c.loop-k-test.true c.p.ensures) refl c.mix-w.ensures
