-- `store::sole::sole` meets its contract. The lattice's own rows are those of level 0, whatever the choice.
-- Assumes nothing.
use Rattle.store.proofs.SoleLaws.{sole_asked, sole_left}
use Rattle.store.proofs.sole.sole.Goals as goal

pub assembled-requires-clause-from_bound : goal.assembled-requires-clause-from_bound
assembled-requires-clause-from_bound c = (sole_asked _ c.args.eps.now c.args.l.now.limits c.requires).1.0

pub assembled-requires-clause-s_bound : goal.assembled-requires-clause-s_bound
assembled-requires-clause-s_bound c = (sole_asked _ c.args.eps.now c.args.l.now.limits c.requires).1.1

pub returns : goal.returns
returns c = sole_left _ c.args.l.now.limits c.args.eps.now c.assembled.ensures.laid_rows c.assembled.ensures.value
