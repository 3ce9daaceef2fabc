use mathlib.Core.Path.{refl}
use Rattle.weights.proofs.EpsLaws.{chaining_turn, chaining_end}
use Rattle.weights.proofs.eps.all_eps.Goals as goal

pub loop-r-preserved : goal.loop-r-preserved
loop-r-preserved c = chaining_turn c.requires.limits.0 c.requires.limits.1 c.requires.nested_in c.requires.chain_room c.loop-r.invariant c.loop-r-test.true c.unknowns-n.ensures refl c.coarse_eps_row.ensures.eps_after

pub returns : goal.returns
returns c = chaining_end c.loop-r.invariant c.loop-r-test.false c.unknowns-n.ensures
