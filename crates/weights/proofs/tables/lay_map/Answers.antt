use native.Mathlib.Omega.{arith}
use mathlib.Core.Path.{refl, ◌∙◌}
use Rattle.numbers.specs.Complex.{no_number}
use Rattle.numbers.proofs.Laws.{length_set_number}
use Rattle.numbers.proofs.RowLoops.{spread_turn, spread_end}
use Rattle.weights.proofs.tables.lay_map.Goals as goal

pub loop-p-preserved : goal.loop-p-preserved
loop-p-preserved c =
    let i = c.loop-p.invariant in
    let e = c.put.ensures in
    (omega arith, rw e (length_set_number _ _ _ ∙ i.1), rw e (spread_turn no_number i.2 (omega arith) refl))

pub returns : goal.returns
returns c = spread_end c.loop-p.invariant.2 (omega arith)
