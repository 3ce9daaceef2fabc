-- `weights::prolongation::count_all` meets its contract.
-- Assumes nothing.
use native.Mathlib.Omega.{arith}
use Rattle.weights.proofs.CountLaws.{count_total}
use Rattle.weights.proofs.prolongation.count_all.Goals as goal

pub returns : goal.returns
returns c = omega (arith, count_total c.requires.limits c.args.ns.now, c.component_count-x.ensures.0, c.component_count-y.ensures.0, c.component_count-z.ensures.0)
